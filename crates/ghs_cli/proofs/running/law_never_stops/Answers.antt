use Rattle.boruvka.specs.Ended.{HasEnded}
use Rattle.boruvka_node.specs.Boruvka.{boruvka}
use Rattle.boruvka_protocol.specs.Bound.{bound_of}
use Rattle.echo.specs.Echo as wave
use Rattle.echo.specs.Ended as wave_end
use Rattle.gather_node.specs.Gather.{gather}
use Rattle.gather_protocol.specs.Bound as gather_bound
use Rattle.gather_protocol.specs.Laws as gather_laws
use Rattle.ghs_cli.proofs.Ending.{any_never_stops, ghs_never_stops}
use Rattle.ghs_cli.proofs.running.law_never_stops.Goals as goal

pub returns-in-Ghs : goal.returns-in-Ghs
returns-in-Ghs c = rw c.in-Ghs.is ghs_never_stops

pub returns-in-Boruvka : goal.returns-in-Boruvka
returns-in-Boruvka c = rw c.in-Boruvka.is (any_never_stops boruvka HasEnded bound_of c.law_turns.ensures)

pub returns-in-Echo : goal.returns-in-Echo
returns-in-Echo c = rw c.in-Echo.is (any_never_stops wave.echo wave_end.HasEnded wave.bound_of c.law_turns-in-Echo.ensures)

pub returns-in-Gather : goal.returns-in-Gather
returns-in-Gather c = rw c.in-Gather.is (any_never_stops gather gather_laws.HasEnded gather_bound.bound_of c.law_turns-in-Gather.ensures)
