-- What two runs of one graph have in common, whatever the orders of their events and whoever wakes.
use Rattle.std.specs.Prelude.{◌≡◌, ℕ, ◌≤◌}
use Rattle.ghs_graph.specs.Graph.{Shape}
use Rattle.ghs_graph.specs.Links.{Joined, links}
use Rattle.ghs_protocol.specs.Cores.{IsQuietAt}
use Rattle.ghs_protocol.specs.Marks.{HasEnded, HasHalted}
use Rattle.ghs_protocol.specs.Net.{Net}

pub record HaveOneEnd (g : Shape) (w w' : Net) : Type 0 where
  -- nodes of one component that have halted have one level and one name
  pub core : (v u : ℕ) → 1 ≤ v → v ≤ g.nodes → Joined (links g.keys) v u → HasHalted w v → HasHalted w' u →
      ((w.node v).head.level ≡ (w'.node u).head.level) × ((w.node v).head.name ≡ (w'.node u).head.name)
  -- once both runs have ended as many Connects have been sent
  pub connects : HasEnded g w → HasEnded g w' → w.sent 0 ≡ w'.sent 0
  -- where nothing waits in either, a node of a component that has woken in both is the same
  pub nodes : (u : ℕ) → IsQuietAt g w u → IsQuietAt g w' u → w.node u ≡ w'.node u
