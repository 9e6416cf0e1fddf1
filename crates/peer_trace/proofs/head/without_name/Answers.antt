use Rattle.std.proofs.Common.{◌≡◌, ◌∙◌, ◌++◌, ◌∷◌, [], ap, codes}
use Rattle.peer_trace.specs.Head.{fields_in}
use Rattle.peer_trace.proofs.Heads.{behind, plain_lines-counted}
use Rattle.peer_trace.proofs.head.without_name.Goals as goal

pub returns-in-Some-count_of : goal.returns-in-Some-count_of
returns-in-Some-count_of c =
    let plain = c.lines.plain.items in
    let count = c.in-Some-count_of.count.now in
    let after = c.in-Some.after.now in
    let all : c.extend_from_slice-in-Some-count_of-3.new.self.items ≡ (((plain ++ codes "trace ") ++ count) ++ 10 ∷ []) ++ after =
    cc (
      c.in_ok-extend_from_slice.ensures.items,
      c.in_ok-extend_from_slice-2.ensures.items,
      c.in_ok-extend_from_slice-3.ensures.items,
      c.in_ok-extend_from_slice-4.ensures.items,
    ) in
    ap fields_in (all ∙ behind plain count after)
    ∙ c.lines.invariant (codes "trace " ++ count ++ 10 ∷ after)
    (plain_lines-counted c.lines.rest.now c.in-Some.line.now after count c.in-Some.ensures.some c.in-Some-count_of.ensures.some)
