use Rattle.std.proofs.Common.{◌≡◌, ◌+◌, ◌<◌, ◌∙◌, ℕ, List, [], ◌++◌, ◌∷◌, ap, length, slice_index, rules}
use Rattle.std.specs.List.{slice_index_or}
use Rattle.peer_chains.specs.Rows.{rows_from}
use Rattle.peer_chains.proofs.Flat.{line_made, node_in, place_in}
use Rattle.peer_chains.proofs.rows.Rows.push.Goals as goal

pub place_of-at-requires : goal.place_of-at-requires
place_of-at-requires c =
    let bases = c.self.inside.bases.items in
    let lines = c.self.inside.lines.items in
    let v = c.args.v in
    let p = c.args.port in
    let node : v < length (rows_from bases lines) = rw (← c.self.view_is) at c.requires.node in
    rw c.deref.ensures.value (node_in bases lines v node)

pub index_mut-requires : goal.index_mut-requires
index_mut-requires c =
    let bases = c.self.inside.bases.items in
    let lines = c.self.inside.lines.items in
    let v = c.args.v in
    let p = c.args.port in
    let node : v < length (rows_from bases lines) = rw (← c.self.view_is) at c.requires.node in
    let place : p < length (slice_index_or (rows_from bases lines) v []) = rw (← c.self.view_is) at c.requires.place in
    let at : c.place_of-at.result ≡ slice_index bases v + p =
    c.place_of-at.ensures ∙ ap (λ (l : List ℕ). slice_index l v + p) c.deref.ensures.value in
    let within : c.place_of-at.result < length lines = place_in bases lines v p c.place_of-at.result node place at in
    search rules

pub returns : goal.returns
returns c =
    let bases = c.self.inside.bases.items in
    let lines = c.self.inside.lines.items in
    let v = c.args.v in
    let p = c.args.port in
    let node : v < length (rows_from bases lines) = rw (← c.self.view_is) at c.requires.node in
    let place : p < length (slice_index_or (rows_from bases lines) v []) = rw (← c.self.view_is) at c.requires.place in
    let at : c.place_of-at.result ≡ slice_index bases v + p =
    c.place_of-at.ensures ∙ ap (λ (l : List ℕ). slice_index l v + p) c.deref.ensures.value in
    rw (← c.self.view_is)
    (line_made bases lines v p c.place_of-at.result c.index_mut.result.now c.push.new.self (λ (l : List ℕ). l ++ c.args.number ∷ [])
    c.self.invariant node place at c.index_mut.ensures.value c.in_ok-push.ensures)
