-- Clauses of one node.
use Rattle.std.specs.Prelude.{◌≡◌, ◌≢◌, ℕ, ◌<◌, ◌≤◌, false, Some, None}
use Rattle.ghs_graph.specs.declared.key.Key.{Key}
use Rattle.ghs_node.specs.declared.mark.Mark.TheVariants.{Branch, Rejected}
use Rattle.ghs_node.specs.declared.message.Phase.TheVariants.{Sleeping, Find}
use Rattle.ghs_protocol.proofs.clauses.Scene.{Member}

-- the ports named are ports, and marks are of ports
pub record OwnPorts (n : ℕ) (m : Member) : Type 0 where
  pub probe : (p : ℕ) → m.head.probe ≡ Some p → p < n
  pub in_branch : (p : ℕ) → m.head.in_branch ≡ Some p → p < n
  pub mark : (p : ℕ) → m.mark p ≢ Rejected → p < n

-- as at the opening
pub record Untouched (m : Member) : Type 0 where
  pub level : ◌≡◌ {A = ℕ} m.head.level 0
  pub name : m.head.name ≡ None
  pub in_branch : m.head.in_branch ≡ None
  pub best : m.head.best ≡ None
  pub probe : m.head.probe ≡ None
  pub find_count : ◌≡◌ {A = ℕ} m.head.find_count 0
  pub halted : m.head.halted ≡ false
  pub marks : (p : ℕ) → m.mark p ≢ Branch
  pub up : m.up ≡ None
  pub coming : ◌≡◌ {A = ℕ} m.coming 0

-- who sleeps is untouched (that it is a fragment of its own is a clause of the net)
abbrev pub AsleepUntouched : Member → Type 0
AsleepUntouched m = m.head.phase ≡ Sleeping → Untouched m

-- who has the level that its fragment comes to
abbrev pub IsAtTop : Member → Type 0
IsAtTop m = m.head.level ≡ m.coming

-- the way to the root goes over a Branch port
pub record IsUp (n : ℕ) (m : Member) : Type 0 where
  pub port : ℕ
  pub up : m.up ≡ Some port
  pub within : port < n
  pub mark : m.mark port ≡ Branch

-- who is awake and has ports points along a Branch; n is the number of ports
abbrev pub AwakePoints : ℕ → Member → Type 0
AwakePoints n m = m.head.phase ≢ Sleeping → 0 < n → IsUp n m

-- only in phase Find a node probes or waits for Reports
abbrev pub IdleUnlessFind : Member → Type 0
IdleUnlessFind m = m.head.phase ≢ Find → (m.head.probe ≡ None) × (◌≡◌ {A = ℕ} m.head.find_count 0)

-- at the coming level, and the way to the root is in_branch
pub record Searching (m : Member) : Type 0 where
  pub level : m.head.level ≡ m.coming
  pub port : ℕ
  pub in_branch : m.head.in_branch ≡ Some port
  pub up : m.up ≡ Some port

-- who searches is at the coming level, and has its in_branch for its way
abbrev pub SearchAtTop : Member → Type 0
SearchAtTop m = m.head.phase ≡ Find → Searching m

-- name, level and in_branch come with the first Initiate
pub record NameWithLevel (m : Member) : Type 0 where
  pub level : m.head.name ≡ None → ◌≡◌ {A = ℕ} m.head.level 0
  pub in_branch : ◌≡◌ {A = ℕ} m.head.level 0 → m.head.in_branch ≡ None
  pub name : m.head.in_branch ≡ None → m.head.name ≡ None

-- levels lag behind the coming level; who has reached it has the coming name
pub record LevelLags (m : Member) : Type 0 where
  pub level : m.head.level ≤ m.coming
  pub name : m.head.level ≡ m.coming → m.head.name ≡ m.coming_name

-- best is a port other than in_branch
abbrev pub BestIsOther : ℕ → Member → Type 0
BestIsOther n m = (p : ℕ) → (k : Key) → m.head.best ≡ Some (p, k) → (p < n) × (m.head.in_branch ≢ Some p)

-- all clauses of one node
pub record NodeFits (n : ℕ) (m : Member) : Type 0 where
  pub own_ports : OwnPorts n m
  pub untouched : AsleepUntouched m
  pub points : AwakePoints n m
  pub idle : IdleUnlessFind m
  pub searching : SearchAtTop m
  pub naming : NameWithLevel m
  pub lag : LevelLags m
  pub best_port : BestIsOther n m
