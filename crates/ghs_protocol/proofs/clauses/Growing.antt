-- How what is remembered of fragments changes: not at all, or two of them become one over the least link that leads out.
use Rattle.std.specs.Prelude.{◌⊎◌, ◌≡◌, ◌≢◌, ℕ, suc, ◌<◌, false, Option, Some}
use Rattle.ghs_graph.specs.declared.key.Key.{Key}
use Rattle.ghs_graph.specs.Key.{key_lt}
use Rattle.peer_network.specs.Network.{Network, port_at, far, far_port, At}
use Rattle.ghs_protocol.specs.Net.{Net}
use Rattle.ghs_protocol.proofs.clauses.Scene.{Ghost, scene}
use Rattle.ghs_protocol.proofs.clauses.Floors.{Sound}

-- the link at port p of v is the least that leads out of v's fragment; frag tells fragments
pub record LeastPort (g : Network) (frag : ℕ → ℕ) (v p : ℕ) : Type 0 where
  pub at : At g v p
  pub out : frag (far g v p) ≢ frag v
  pub least : (t q : ℕ) → At g t q → frag t ≡ frag v → frag (far g t q) ≢ frag v → key_lt (port_at g t q).key (port_at g v p).key ≡ false

-- fragments c and a are a, of this coming level and name
pub record Grouped (gh gh' : Ghost) (c a l : ℕ) (n : Option Key) : Type 0 where
  pub inside : (u : ℕ) → (gh.fragment u ≡ c) ⊎ (gh.fragment u ≡ a) → gh'.fragment u ≡ a
  pub outside : (u : ℕ) → gh.fragment u ≢ c → gh.fragment u ≢ a → gh'.fragment u ≡ gh.fragment u
  pub level : gh'.coming a ≡ l
  pub name : gh'.coming_name a ≡ n
  pub levels : (b : ℕ) → b ≢ a → gh'.coming b ≡ gh.coming b
  pub names : (b : ℕ) → b ≢ a → gh'.coming_name b ≡ gh.coming_name b

-- the numbers are those of fragments taken in, and of links over which fragments become one
pub data Grows (g : Network) (gh gh' : Ghost) : ℕ → ℕ → Type 0 where
  As_it_was : gh'.fragment ≡ gh.fragment → gh'.coming ≡ gh.coming → gh'.coming_name ≡ gh.coming_name → Grows g gh gh' 0 0
  Meets : (v p : ℕ) →
      LeastPort g gh.fragment v p →
      LeastPort g gh.fragment (far g v p) (far_port g v p) →
      gh.coming (gh.fragment v) ≡ gh.coming (gh.fragment (far g v p)) →
      Grouped gh gh' (gh.fragment (far g v p)) (gh.fragment v) (suc (gh.coming (gh.fragment v))) (Some (port_at g v p).key) →
      Grows g gh gh' 0 1
  Takes_in : (v p : ℕ) →
      At g v p →
      LeastPort g gh.fragment (far g v p) (far_port g v p) →
      gh.coming (gh.fragment (far g v p)) < gh.coming (gh.fragment v) →
      Grouped gh gh' (gh.fragment (far g v p)) (gh.fragment v) (gh.coming (gh.fragment v)) (gh.coming_name (gh.fragment v)) →
      Grows g gh gh' 1 1

-- after a step: some memory with these ways to the root makes all clauses of floors hold, and has grown so
pub record Kept (g : Network) (took : ℕ) (before : Ghost) (up : ℕ → Option ℕ) (n : Net) : Type 0 where
  pub ghost : Ghost
  pub holds : Sound g (scene n ghost)
  pub ups : ghost.up ≡ up
  pub steps : ℕ
  pub grows : Grows g before ghost took steps
