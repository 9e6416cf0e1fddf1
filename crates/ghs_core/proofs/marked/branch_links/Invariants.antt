use Rattle.ghs_core.proofs.Finding.{Found}
use Rattle.ghs_core.proofs.marked.branch_links.Given as goal

abbrev pub invariant-loop-key : goal.invariant-loop-key
invariant-loop-key l = Found l.graph l.nodes l.ends l.key-index l.ports.items l.links.items
