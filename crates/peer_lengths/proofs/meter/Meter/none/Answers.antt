use Rattle.std.proofs.Common.{[], refl}
use Rattle.peer_lengths.proofs.Carrying.{begun_are}
use Rattle.peer_lengths.proofs.Measuring.{none_measured}
use Rattle.peer_lengths.proofs.meter.Meter.none.Goals as goal

pub returns-clause-meter : goal.returns-clause-meter
returns-clause-meter g c =
    let r = g.P.Protocol.rules in
    record {
      scale = c.scale_of.ensures;
      sent = none_measured r c.args.graph.now [] c.none-2.result refl c.none-2.ensures.count c.none-2.ensures.bits c.none-2.ensures.longest;
      chains = λ _. begun_are r c.args.graph.now c.in_ok-none.field-0 c.in_ok-none.ensures.fits c.in_ok-none.ensures.none;
    }
