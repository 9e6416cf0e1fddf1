-- The ports that links are.
use Rattle.std.specs.Prelude.{ℕ, ◌≤◌, List}
use Rattle.std.specs.List.{All}
use Rattle.ghs_graph.specs.declared.key.Key.{Key}
use Rattle.ghs_graph.specs.Ports.{port_number}
use Rattle.peer_report.specs.declared.links.LinkPorts.{LinkPorts}

-- a link, with its port at each of its ends
abbrev pub on_link : List Key → Key → LinkPorts
on_link ks k = record { key = k; at_a = port_number ks k.a k; at_b = port_number ks k.b k }

-- both ends of each are nodes of 1 to n
abbrev pub AreWithin : ℕ → List LinkPorts → Type 0
AreWithin n links = All (λ (l : LinkPorts). (1 ≤ l.key.a) × (l.key.a ≤ n) × (1 ≤ l.key.b) × (l.key.b ≤ n)) links
