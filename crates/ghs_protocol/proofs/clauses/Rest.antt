-- Clauses of the whole net: sleepers, names, fragments at rest, Reports owed.
use Rattle.std.specs.Prelude.{◌≡◌, ℕ, Bool, true, false, not, ◌&&◌, ◌||◌, Some, List, [], ◌∷◌, length, if◌then◌else◌}
use Rattle.ghs_graph.specs.declared.key.Key.{Key}
use Rattle.ghs_node.specs.declared.message.Phase.TheVariants.{Sleeping, Find, Found}
use Rattle.ghs_node.specs.declared.message.Message.{Message}
use Rattle.ghs_node.specs.declared.message.Message.TheVariants.{Initiate, Report}
use Rattle.ghs_node.specs.Words.{is_find, is_at}
use Rattle.peer_network.specs.Network.{Network, far, far_port, At, InNetwork}
use Rattle.peer_network.specs.Sums.{sum_below}
use Rattle.ghs_protocol.proofs.clauses.Scene.{Scene, End, end, tree_end, forest}
use Rattle.ghs_protocol.proofs.clauses.Links.{Out}
use Rattle.ghs_protocol.proofs.clauses.TreeMessages.{Moved}
use Rattle.ghs_protocol.proofs.clauses.Fragments.{Names}

-- a sleeping node is a fragment of its own
abbrev pub Alone : Network → Scene → Type 0
Alone g w = (v u : ℕ) → InNetwork g v → InNetwork g u → (w.at v).head.phase ≡ Sleeping → (w.at u).fragment ≡ (w.at v).fragment → u ≡ v

-- a node's name is the key of a joined link of its fragment
abbrev pub Named : Network → Scene → Type 0
Named g w = (v : ℕ) → (k : Key) → InNetwork g v → (w.at v).head.name ≡ Some k → Names g (forest w) (w.at v).fragment k

-- an Initiate that starts a search is among them
abbrev pub has_call : List Message → Bool
has_call [] = false
has_call (Initiate l f Find ∷ ms) = true
has_call (_ ∷ ms) = has_call ms

-- a Report is among them
abbrev pub has_report : List Message → Bool
has_report [] = false
has_report (Report k ∷ ms) = true
has_report (_ ∷ ms) = has_report ms

-- a fragment at rest: nobody searches, and nobody is called to
pub record Quiet (g : Network) (w : Scene) (a : ℕ) : Type 0 where
  pub found : (v : ℕ) → InNetwork g v → (w.at v).fragment ≡ a → (w.at v).head.phase ≡ Found
  pub uncalled : (v p : ℕ) → At g v p → (w.at v).fragment ≡ a → has_call (w.seen v p).tree ≡ false

-- a fragment with a Connect or a ChangeRoot under way is at rest
pub record Resting (g : Network) (w : Scene) : Type 0 where
  pub out : (v p : ℕ) → At g v p → Out (tree_end (end g w v p)) (tree_end (end g w (far g v p) (far_port g v p))) → Quiet g w (w.at v).fragment
  pub moved : (v p : ℕ) → At g v p → Moved (tree_end (end g w v p)) (tree_end (end g w (far g v p) (far_port g v p))) → Quiet g w (w.at v).fragment

-- the far node still owes this one a Report
abbrev pub owes : End → End → Bool
owes e f = has_report e.seen.tree || (has_call f.seen.tree || (is_find f.is.head.phase && is_at f.is.head.in_branch f.port))

-- 1 where the far node owes a Report and isn't on the way to the root
abbrev pub debt : End → End → ℕ
debt e f = if not (is_at e.is.up e.port) && owes e f then 1 else 0

-- how many Reports v is owed
abbrev pub debts : Network → Scene → ℕ → ℕ
debts g w v = sum_below (length (g.ports v)) (λ p. debt (end g w v p) (end g w (far g v p) (far_port g v p)))

-- find_count counts the Reports owed
abbrev pub DebtsCounted : Network → Scene → Type 0
DebtsCounted g w = (v : ℕ) → InNetwork g v → (w.at v).head.find_count ≡ debts g w v
