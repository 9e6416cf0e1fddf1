use Rattle.std.proofs.lemmas.Result.{IfOk-weaker}
use Rattle.own_judge.proofs.Same.{told_same}
use Rattle.own_judge.proofs.deed.send_the_same.Goals as goal

pub returns : goal.returns
returns c = IfOk-weaker _ _ _ (told_same c.args.one.items c.args.other.items) c.same_at_ports.ensures
