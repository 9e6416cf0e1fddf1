use Rattle.std.proofs.Common.{◌≡◌, map, take}
use Rattle.peer_steps.specs.Step.{sent_by}
use Rattle.peer_steps.proofs.sent.sent_by.Given as goal

abbrev pub invariant-loop-port : goal.invariant-loop-port
invariant-loop-port g l = l.list.items ≡ map (sent_by g.P.Spoken.words l.graph l.v) (take l.port-index l.sends)
