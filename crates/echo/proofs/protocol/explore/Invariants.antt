use Rattle.std.proofs.Common.{◌≡◌}
use Rattle.echo.specs.Echo.{explores}
use Rattle.echo.proofs.protocol.explore.Given as goal

abbrev pub invariant-loop-port : goal.invariant-loop-port
invariant-loop-port l = l.sends.items ≡ explores l.port l.parent
