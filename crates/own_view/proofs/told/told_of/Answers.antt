use Rattle.own_view.proofs.Shown.{shown_is_run}
use Rattle.own_view.proofs.told.told_of.Goals as goal

pub data_of-requires : goal.data_of-requires
data_of-requires g c = record {
  setting = c.requires.setting;
  run = rw c.first_events-shown.ensures (shown_is_run g.P.Protocol.rules c.args.graph c.args.events.now c.args.to c.requires.run);
}
