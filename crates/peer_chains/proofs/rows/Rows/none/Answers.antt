use Rattle.std.proofs.Common.{◌≡◌, ◌+◌, ◌∙◌, ap, arith, length, slice_index, ℕ}
use Rattle.std.proofs.lemmas.List.{get_or_default}
use Rattle.peer_chains.proofs.Flat.{none_of, ports_length, rows_length}
use Rattle.peer_chains.proofs.rows.Rows.none.Goals as goal

pub returns-clause-count : goal.returns-clause-count
returns-clause-count c =
    let l = rows_length c.in_ok-bases.bases.items c.in_ok-lines.lines.items in
    let n = c.in_ok-bases.ensures.count in
    omega arith

pub returns-clause-ports : goal.returns-clause-ports
returns-clause-ports c =
    let g = c.args.graph.now in
    let bases = c.in_ok-bases.bases.items in
    let n = c.in_ok-bases.ensures.count in
    let last : c.nodes.result + 1 ≡ g.nodes + 1 = ap (λ (k : ℕ). k + 1) c.nodes.ensures.nodes in
    let all : length c.in_ok-lines.lines.items ≡ slice_index bases (g.nodes + 1) =
    c.in_ok-lines.ensures.count ∙ c.index.ensures
    ∙ get_or_default bases (c.nodes.result + 1) c.index.result.now 0 (omega arith) ∙ ap (λ (k : ℕ). slice_index bases k) last in
    ports_length g g.nodes bases c.in_ok-lines.lines.items c.in_ok-bases.ensures all

pub returns-clause-empty : goal.returns-clause-empty
returns-clause-empty c = none_of c.in_ok-bases.bases.items c.in_ok-lines.lines.items c.in_ok-lines.ensures.empty
