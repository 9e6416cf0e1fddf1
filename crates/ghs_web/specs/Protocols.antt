-- The protocol of a number, as a page says it.
use Rattle.std.specs.Prelude.{ℕ, zero, suc}
use Rattle.peer_trace.specs.declared.protocol.Protocol.{Protocol}
use Rattle.peer_trace.specs.declared.protocol.Protocol.TheVariants.{Ghs, Boruvka, Echo, Gather}

-- GHS, Borůvka in step, the echo wave, or Gather
abbrev pub protocol_of : ℕ → Protocol
protocol_of zero = Ghs
protocol_of (suc zero) = Boruvka
protocol_of (suc (suc zero)) = Echo
protocol_of (suc (suc (suc n))) = Gather
