use Rattle.std.proofs.Common.{◌≡◌, ◌<◌, ◌∙◌, ℕ, None, Some, ap, length, refl, slice_index, sym}
use Rattle.std.specs.List.{slice_get}
use Rattle.std.proofs.lemmas.List.{get_or_default}
use Rattle.peer_chains.specs.Chains.{heard}
use Rattle.peer_chains.specs.Kept.{Kept, line_of}
use Rattle.peer_chains.proofs.Placing.{none_taken, one_taken}
use Rattle.peer_chains.proofs.chains.Chains.take.Goals as goal

pub returns-in-Some-clause-taken : goal.returns-in-Some-clause-taken
returns-in-Some-clause-taken c =
    let k : Kept = record { numbers = c.self.inside.numbers.items; rows = c.self.inside.rows } in
    let v = c.args.v in
    let p = c.args.port in
    let node_lt : v < length k.numbers = rw (← c.self.view_is) at c.requires.node in
    let some : Some c.in-Some.number ≡ slice_get (line_of k.rows v p) 0 = sym c.in-Some.is ∙ c.in_ok-number.ensures.first in
    let value : c.heard.result ≡ heard c.args.deferred c.args.asleep (slice_index k.numbers v) c.in-Some.number =
    c.heard.ensures ∙ ap (λ (n : ℕ). heard c.args.deferred c.args.asleep n c.in-Some.number)
    (c.index.ensures ∙ get_or_default k.numbers v c.index.result.now 0 node_lt) in
    rw (← c.self.view_is) (one_taken k _ v p c.args.asleep c.args.deferred c.in-Some.number c.heard.result node_lt refl value
    c.in_ok-number.ensures.left some)

pub returns-in_default-clause-taken : goal.returns-in_default-clause-taken
returns-in_default-clause-taken c =
    let k : Kept = record { numbers = c.self.inside.numbers.items; rows = c.self.inside.rows } in
    let v = c.args.v in
    let p = c.args.port in
    let none : None ≡ slice_get (line_of k.rows v p) 0 = sym c.in_default.is ∙ c.in_ok-number.ensures.first in
    rw (← c.self.view_is) (none_taken k _ v p c.args.asleep c.args.deferred refl c.in_ok-number.ensures.left none)
