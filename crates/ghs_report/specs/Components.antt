-- Components with their cores: those of the graph alone, and those with which a run ends.
use Rattle.std.specs.Prelude.{◌≡◌, ℕ, ◌≤◌, ◌<◌, ◌+◌, List}
use Rattle.std.specs.List.{All, AllPairs, Contains}
use Rattle.ghs_graph.specs.Components.{IsRoot}
use Rattle.ghs_graph.specs.Graph.{Shape}
use Rattle.ghs_protocol.specs.Cores.{MergesTo}
use Rattle.ghs_protocol.specs.Marks.{HasHalted}
use Rattle.ghs_protocol.specs.Net.{Net}
use Rattle.ghs_report.specs.declared.component.Component.{Component}

-- of the components whose least nodes are below m each once, by rising least node, and of each this holds
pub record AreBelow (g : Shape) (holds : Component → Type 0) (m : ℕ) (cs : List Component) : Type 0 where
  pub rising : AllPairs (λ (c d : Component). c.root < d.root) cs
  pub each : All (λ (c : Component). (1 ≤ c.root) × (c.root < m) × (c.root ≤ g.nodes) × IsRoot g.keys c.root c.root × holds c) cs
  pub all : (v : ℕ) → 1 ≤ v → v < m → IsRoot g.keys v v → (c : Component) × Contains cs c × (c.root ≡ v)

-- of all components
abbrev pub AreAll : Shape → (Component → Type 0) → List Component → Type 0
AreAll g holds cs = AreBelow g holds (g.nodes + 1) cs

-- merging the graph alone leads to this core at this level, in some order and so in each
abbrev pub IsOfGraph : Shape → Component → Type 0
IsOfGraph g c = MergesTo g c.root c.level c.link

-- a node of the component has halted, at this level and with this core for its name
pub record HasEndedIn (g : Shape) (w : Net) (c : Component) : Type 0 where
  pub node : ℕ
  pub some : 1 ≤ node
  pub within : node ≤ g.nodes
  pub root : IsRoot g.keys node c.root
  pub halted : HasHalted w node
  pub level : (w.node node).head.level ≡ c.level
  pub name : (w.node node).head.name ≡ c.link
