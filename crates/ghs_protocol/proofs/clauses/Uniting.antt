-- Two fragments become one.
use Rattle.std.specs.Prelude.{◌≡◌, ℕ, suc, true, Option, Some, List, ◌∷◌, ◌==◌, ◌||◌, length, slice_index_or, if◌then◌else◌}
use Rattle.ghs_graph.specs.declared.key.Key.{Key}
use Rattle.ghs_node.specs.declared.mark.Mark.{Mark}
use Rattle.ghs_node.specs.declared.mark.Mark.TheVariants.{Rejected}
use Rattle.ghs_node.specs.declared.message.Phase.TheVariants.{Found}
use Rattle.ghs_node.specs.declared.message.Message.{Message}
use Rattle.ghs_node.specs.declared.message.Message.TheVariants.{Report, ChangeRoot}
use Rattle.ghs_node.specs.Words.{below, best_key}
use Rattle.peer_network.specs.Network.{Network, port_at, far}
use Rattle.ghs_protocol.proofs.clauses.Scene.{Member, Scene}

-- a node of fragment c or a comes to fragment a, of this coming level and name
abbrev pub joining : ℕ → ℕ → ℕ → Option Key → Member → Member
joining c a l n m = if (m.fragment == c) || (m.fragment == a) then record m { fragment = a; coming = l; coming_name = n } else m

-- all nodes of fragments c and a come to fragment a, of this coming level and name
abbrev pub relabel : ℕ → ℕ → ℕ → Option Key → Scene → Scene
relabel c a l n w = record w { at = λ v. joining c a l n (w.at v) }

-- the fragments at both ends of port p of v merge, v's Connect having met that of the far end
abbrev pub meet : Network → ℕ → ℕ → Scene → Scene
meet g v p w = relabel (w.at (far g v p)).fragment (w.at v).fragment (suc (w.at v).head.level) (Some (port_at g v p).key) w

-- the fragment at the far end of port p of v is absorbed
abbrev pub absorb : Network → ℕ → ℕ → Scene → Scene
absorb g v p w = relabel (w.at (far g v p)).fragment (w.at v).fragment (w.at v).coming (w.at v).coming_name w

-- the member's marks are these, in port order
pub record MarksAre (g : Network) (u : ℕ) (m : Member) (ms : List Mark) : Type 0 where
  pub ports : length ms ≡ length (g.ports u)
  pub marks : (p : ℕ) → m.mark p ≡ slice_index_or ms p Rejected

-- the first tree message at port j of u, others after it, sends the root on: a better Report of the other half of the core, or a ChangeRoot
pub data SendsRoot (w : Scene) (u j : ℕ) (ms : List Message) : Type 0 where
  By_report : (k : Option Key) →
      (w.seen u j).tree ≡ Report k ∷ ms →
      (w.at u).head.in_branch ≡ Some j →
      (w.at u).head.phase ≡ Found →
      below (best_key (w.at u).head.best) k ≡ true →
      SendsRoot w u j ms
  By_root : (w.seen u j).tree ≡ ChangeRoot ∷ ms → SendsRoot w u j ms
