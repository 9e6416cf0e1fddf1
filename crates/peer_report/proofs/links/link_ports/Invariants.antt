use Rattle.peer_report.proofs.Walking.{Walked}
use Rattle.peer_report.proofs.links.link_ports.Given as goal

abbrev pub invariant-loop-key : goal.invariant-loop-key
invariant-loop-key l = Walked l.graph l.key-index l.ports.items l.links.items
