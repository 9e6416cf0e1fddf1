use Rattle.std.proofs.Common.{◌∙◌, ap, arith, count_by}
use Rattle.std.proofs.lemmas.List.{take_all}
use Rattle.boruvka_node.specs.Draft.{drafted}
use Rattle.boruvka_node.specs.State.{is_missing}
use Rattle.boruvka_node.proofs.Drafted.{length_drafted}
use Rattle.boruvka_node.proofs.draft.Draft.count_missing.Goals as goal

pub returns : goal.returns
returns c =
    let n = c.args.node.now in
    let d = c.args.self.now in
    let long = length_drafted n d in
    c.loop-port.invariant.counted ∙ ap (count_by (is_missing d.head.level)) (take_all c.loop-port.port (drafted n d).ports (omega arith))
