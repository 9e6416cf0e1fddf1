use Rattle.std.proofs.lemmas.Slice.Eq.{slice_eq-Decides}
use Rattle.ghs_core.proofs.Events.{event_decides}
use Rattle.ghs_core.proofs.net.same_events.Goals as goal

pub returns : goal.returns
returns c = slice_eq-Decides event_decides c.args.left.now c.args.right.now c.eq.result c.eq.ensures
