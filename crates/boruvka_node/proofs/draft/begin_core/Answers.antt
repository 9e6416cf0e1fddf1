use Rattle.std.proofs.Common.{◌≡◌, ◌+◌, ◌∙◌, ap, arith}
use Rattle.ghs_graph.specs.Ports.{far_end}
use Rattle.boruvka_node.specs.Draft.{drafted, goes_on}
use Rattle.boruvka_node.proofs.Closing.{core_begins, far_is_a, far_is_b}
use Rattle.boruvka_node.proofs.Drafts.{gives, if_ok}
use Rattle.boruvka_node.proofs.draft.begin_core.Goals as goal
use Rattle.boruvka_node.proofs.draft.begin_core.Goals.{then-key-number, else-key-number}

pub returns-in-Some : goal.returns-in-Some
returns-in-Some c =
    let n = c.args.node.now in
    let d = c.args.draft in
    let k = c.key-key.result in
    let v = c.number-number.result in
    let far = c.if-key-number.far in
    let end : far ≡ far_end v k = elim c.if-key-number.branch [
      | then-key-number w ↦ far_is_b v far k w.if-key-number.true w.far-is
      | else-key-number w ↦ far_is_a v far k w.if-key-number.false w.far-is
    ] in
    let level : c.in-Some.level ≡ d.head.level + 1 = c.in-Some.ensures.value ∙ ap (λ l. l + 1) c.get.ensures.value in
    let begins = core_begins (drafted n d) c.args.port k v far c.in-Some.level c.key-key.ensures c.number-number.ensures end (omega arith) level in
    if_ok c.enter.result _ _ (λ e g. gives n _ _ e (ap (λ o. goes_on d o) begins) g) c.enter.ensures
