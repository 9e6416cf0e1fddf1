-- Clauses of fragments, of the links that join them, and of their roots.
use Rattle.std.specs.Prelude.{◌⊎◌, ◌≡◌, ℕ, ◌^◌, true, false, Some, None}
use Rattle.ghs_graph.specs.declared.key.Key.{Key}
use Rattle.peer_network.specs.Network.{Network, port_at, far, far_port, At, InNetwork}
use Rattle.ghs_protocol.specs.Marks.{Leads}
use Rattle.ghs_protocol.specs.Interleavings.{HaveAtLeast}
use Rattle.ghs_protocol.proofs.clauses.Scene.{Forest}

-- the link at port p of v is Branch at both ends
pub record IsJoinedIn (g : Network) (s : Forest) (v p : ℕ) : Type 0 where
  pub here : s.branch v p ≡ true
  pub there : s.branch (far g v p) (far_port g v p) ≡ true

-- a joined link of fragment a has key k
pub record Names (g : Network) (s : Forest) (a : ℕ) (k : Key) : Type 0 where
  pub node : ℕ
  pub port : ℕ
  pub at : At g node port
  pub joined : IsJoinedIn g s node port
  pub fragment : s.fragment node ≡ a
  pub key : (port_at g node port).key ≡ k

-- a fragment has a coming name where its coming level isn't 0, and the name is a joined link of its own
pub record NamesWithin (g : Network) (s : Forest) : Type 0 where
  pub none : (v : ℕ) → InNetwork g v → s.coming_name v ≡ None → ◌≡◌ {A = ℕ} (s.coming v) 0
  pub at_zero : (v : ℕ) → InNetwork g v → ◌≡◌ {A = ℕ} (s.coming v) 0 → s.coming_name v ≡ None
  pub inside : (v : ℕ) → (k : Key) → InNetwork g v → s.coming_name v ≡ Some k → Names g s (s.fragment v) k

-- a fragment of coming level L has at least 2^L nodes
abbrev pub LargeFragments : Network → Forest → Type 0
LargeFragments g s = (v : ℕ) → InNetwork g v → HaveAtLeast (2 ^ s.coming v) (λ u. InNetwork g u × (s.fragment u ≡ s.fragment v))

-- a joined link lies inside one fragment
abbrev pub JoinedWithin : Network → Forest → Type 0
JoinedWithin g s = (v p : ℕ) → At g v p → IsJoinedIn g s v p → s.fragment v ≡ s.fragment (far g v p)

-- two nodes of one fragment are joined by joined links
abbrev pub FragmentsJoined : Network → Forest → Type 0
FragmentsJoined g s = (u v : ℕ) → InNetwork g u → InNetwork g v → s.fragment u ≡ s.fragment v → Leads g (IsJoinedIn g s) u v

-- each joined link is the way to the root of one of its ends
abbrev pub JoinedLinksLead : Network → Forest → Type 0
JoinedLinksLead g s = (v p : ℕ) → At g v p → IsJoinedIn g s v p → (s.up v ≡ Some p) ⊎ (s.up (far g v p) ≡ Some (far_port g v p))

-- the way to the root ends here: over a Connect under way, or at a link that is the way of both its ends
pub data Root (g : Network) (s : Forest) (v p : ℕ) : Type 0 where
  Goes_out : s.branch v p ≡ true → s.branch (far g v p) (far_port g v p) ≡ false → Root g s v p
  Both_ways : IsJoinedIn g s v p → s.up v ≡ Some p → s.up (far g v p) ≡ Some (far_port g v p) → Root g s v p

-- a fragment has one root
abbrev pub OneRoot : Network → Forest → Type 0
OneRoot g s =
    (v p u q : ℕ) → At g v p →
    At g u q →
    Root g s v p →
    Root g s u q →
    s.fragment v ≡ s.fragment u →
    ((v ≡ u) × (p ≡ q)) ⊎ ((far g v p ≡ u) × (far_port g v p ≡ q))

-- the way from v leads to a root
pub data Reach (g : Network) (s : Forest) : ℕ → Type 0 where
  At_root : {v : ℕ} (p : ℕ) → At g v p → s.up v ≡ Some p → Root g s v p → Reach g s v
  By_step : {v : ℕ} (p : ℕ) → At g v p → s.up v ≡ Some p → IsJoinedIn g s v p → Reach g s (far g v p) → Reach g s v

-- each way leads to a root
abbrev pub RootsReached : Network → Forest → Type 0
RootsReached g s = (v p : ℕ) → InNetwork g v → s.up v ≡ Some p → Reach g s v

-- coming level and name are of the fragment
abbrev pub GhostsByFragment : Network → Forest → Type 0
GhostsByFragment g s = (u v : ℕ) → s.fragment u ≡ s.fragment v → (s.coming u ≡ s.coming v) × (s.coming_name u ≡ s.coming_name v)

-- all clauses of fragments and roots
pub record ForestFits (g : Network) (s : Forest) : Type 0 where
  pub by_fragment : GhostsByFragment g s
  pub names_within : NamesWithin g s
  pub sizes : LargeFragments g s
  pub joined_within : JoinedWithin g s
  pub connected : FragmentsJoined g s
  pub joined_lead : JoinedLinksLead g s
  pub one_root : OneRoot g s
  pub reached : RootsReached g s
