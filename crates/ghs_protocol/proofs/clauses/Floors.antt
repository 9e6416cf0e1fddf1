-- Clauses of the least links that lead out of a fragment: of each node is remembered a floor, below which no key leads out at the
-- node or further from the root.
use Rattle.std.specs.Prelude.{◌||◌, ◌&&◌, ◌≡◌, ◌≢◌, ℕ, Bool, true, false, not, Option, Some, None, [], ◌∷◌}
use Rattle.ghs_graph.specs.declared.key.Key.{Key}
use Rattle.ghs_graph.specs.Key.{key_lt}
use Rattle.ghs_node.specs.declared.mark.Mark.TheVariants.{Basic, Branch}
use Rattle.ghs_node.specs.declared.message.Phase.TheVariants.{Sleeping, Find, Found}
use Rattle.ghs_node.specs.declared.message.Message.TheVariants.{Report, ChangeRoot}
use Rattle.ghs_node.specs.Words.{below, best_key, is_find, is_at}
use Rattle.peer_network.specs.Network.{Network, port_at, far, far_port, At, InNetwork}
use Rattle.ghs_protocol.specs.Marks.{Leads}
use Rattle.ghs_protocol.specs.Net.{Net}
use Rattle.ghs_protocol.proofs.clauses.Whole.{Invariant}
use Rattle.ghs_protocol.proofs.clauses.Scene.{Ghost, scene, Scene, Member, End, end, TreeEnd, tree_end}
use Rattle.ghs_protocol.proofs.clauses.Links.{Joins, Out, Child}
use Rattle.ghs_protocol.proofs.clauses.TreeMessages.{Core, Moved}
use Rattle.ghs_protocol.proofs.clauses.Rest.{has_report, has_call}
use Rattle.ghs_protocol.proofs.clauses.UnderWay.{Lives}

-- Nothing is known, or no key below this one leads out; a missing key stands for infinity.
abbrev pub Floor : Type 0
Floor = Option (Option Key)

-- the first floor isn't above the second
abbrev pub lower : Floor → Floor → Bool
lower None k = true
lower (Some f) None = false
lower (Some f) (Some k) = not (below k f)

-- the far node still owes this one a Report
abbrev pub owing : TreeEnd → TreeEnd → Bool
owing e f = has_report e.tree || (has_call f.tree || (is_find f.phase && is_at f.in_branch f.port))

-- no link that leads out here is below the floor
abbrev pub NoneBelow : TreeEnd → TreeEnd → Floor → Type 0
NoneBelow e f a = f.fragment ≢ e.fragment → lower a (Some (Some e.key)) ≡ true

-- floors fall towards the root: a is the child's, b the parent's
abbrev pub FloorsFall : TreeEnd → TreeEnd → Floor → Floor → Type 0
FloorsFall e f a b = Child e f → lower b a ≡ true

-- a child that owes its parent no Report is covered by the parent's best
abbrev pub Covered : TreeEnd → TreeEnd → Floor → Type 0
Covered e f a = f.phase ≡ Find → Child e f → owing f e ≡ false → lower (Some (best_key f.best)) a ≡ true

-- a Report under way to the parent is its sender's floor
abbrev pub ReportIsFloor : TreeEnd → TreeEnd → Floor → Type 0
ReportIsFloor e f a = (k : Option Key) → Child e f → f.tree ≡ Report k ∷ [] → a ≡ Some k

-- a core end that has begun and is done: its floor is its best
abbrev pub CoreIsFloor : TreeEnd → TreeEnd → Floor → Type 0
CoreIsFloor e f a = Core e f → e.level ≡ e.coming → e.phase ≡ Found → a ≡ Some (best_key e.best)

-- a Connect under way is over the floor itself
abbrev pub OutIsFloor : TreeEnd → TreeEnd → Floor → Type 0
OutIsFloor e f a = Out e f → a ≡ Some (Some e.key)

-- the root that has moved: both ends have one floor, the best of the end to which the ChangeRoot goes
abbrev pub MovedIsFloor : TreeEnd → TreeEnd → Floor → Floor → Type 0
MovedIsFloor e f a b = Moved e f → e.tree ≡ ChangeRoot ∷ [] → (a ≡ Some (best_key e.best)) × (b ≡ a)

-- a best link that a child reported is the child's floor
abbrev pub BestIsFloor : TreeEnd → TreeEnd → Floor → Type 0
BestIsFloor e f b = (k : Key) → e.best ≡ Some (e.port, k) → e.level ≡ e.coming → Joins e f → b ≡ Some (Some k)

-- all clauses of floors at one link, from e: a is the floor of e's node, b that of f's
pub record FloorsFit (e f : TreeEnd) (a b : Floor) : Type 0 where
  pub none_below : NoneBelow e f a
  pub falls : FloorsFall e f a b
  pub covered : Covered e f a
  pub report : ReportIsFloor e f a
  pub core : CoreIsFloor e f a
  pub out : OutIsFloor e f a
  pub moved : MovedIsFloor e f a b
  pub best : BestIsFloor e f b

abbrev pub FloorsAt : End → End → Floor → Floor → Type 0
FloorsAt e f a b = FloorsFit (tree_end e) (tree_end f) a b

-- ports are tested in key order: a Basic port's key isn't below that of the port probed, nor, where none is probed, below the best
pub record ScansInOrder (g : Network) (v : ℕ) (m : Member) : Type 0 where
  pub probing : (p q : ℕ) → m.head.phase ≡ Find → m.head.probe ≡ Some p → m.mark q ≡ Basic → key_lt (port_at g v q).key (port_at g v p).key ≡ false
  pub done : (q : ℕ) → m.head.phase ≡ Find → m.head.probe ≡ None → m.mark q ≡ Basic → below (Some (port_at g v q).key) (best_key m.head.best) ≡ false

-- all clauses of a node's floor
pub record NodeFloor (m : Member) (a : Floor) : Type 0 where
  pub asleep : m.head.phase ≡ Sleeping → a ≡ None
  pub search : m.head.phase ≡ Find → a ≡ None

-- the ends of the link at port p of v aren't joined by links with smaller keys
abbrev pub IsTreeLink : Network → ℕ → ℕ → Type 0
IsTreeLink g v p = Leads g (λ a b. key_lt (port_at g a b).key (port_at g v p).key ≡ true) v (far g v p) → ⊥

-- each Branch link is one of the minimum spanning forest
abbrev pub BranchesInTree : Network → Scene → Type 0
BranchesInTree g w = (v p : ℕ) → At g v p → (w.at v).mark p ≡ Branch → IsTreeLink g v p

-- no link leads out of the fragment of a node that has halted
abbrev pub HaltedIsWhole : Network → Scene → Type 0
HaltedIsWhole g w =
    (v t p : ℕ) → InNetwork g v →
    (w.at v).head.halted ≡ true →
    At g t p →
    (w.at t).fragment ≡ (w.at v).fragment →
    (w.at (far g t p)).fragment ≡ (w.at v).fragment

abbrev pub AllNodeFloors : Network → Scene → (ℕ → Floor) → Type 0
AllNodeFloors g w floor = (v : ℕ) → InNetwork g v → NodeFloor (w.at v) (floor v)

-- all clauses of floors, trees and halts but the order of tests
pub record Floors (g : Network) (w : Scene) (floor : ℕ → Floor) : Type 0 where
  pub nodes : AllNodeFloors g w floor
  pub links : (v p : ℕ) → At g v p → FloorsAt (end g w v p) (end g w (far g v p) (far_port g v p)) (floor v) (floor (far g v p))
  pub in_tree : BranchesInTree g w
  pub halted : HaltedIsWhole g w

-- all nodes test in order, but v, which has yet to test its next port
abbrev pub AllScanBut : Network → Scene → ℕ → Type 0
AllScanBut g w v = (u : ℕ) → InNetwork g u → u ≢ v → ScansInOrder g u (w.at u)

abbrev pub AllScan : Network → Scene → Type 0
AllScan g w = (u : ℕ) → InNetwork g u → ScansInOrder g u (w.at u)

-- no Basic port's key is below the node's floor, and who has no best link has its way to the core for its way to the root
pub record Tried (g : Network) (v : ℕ) (m : Member) (a : Floor) : Type 0 where
  pub untried : (q : ℕ) → m.mark q ≡ Basic → lower a (Some (Some (port_at g v q).key)) ≡ true
  pub way : m.head.best ≡ None → m.head.in_branch ≢ None → m.up ≡ m.head.in_branch

abbrev pub AllTried : Network → Scene → (ℕ → Floor) → Type 0
AllTried g w floor = (u : ℕ) → InNetwork g u → Tried g u (w.at u) (floor u)

-- the invariant, with floors, with tests in order, and with what is always under way
pub record Sound (g : Network) (w : Scene) : Type 0 where
  pub first : Invariant g w
  pub floor : ℕ → Floor
  pub floors : Floors g w floor
  pub scans : AllScan g w
  pub tried : AllTried g w floor
  pub lives : Lives g w

-- the same while node u has yet to test its next port
pub record Nearly (g : Network) (w : Scene) (u : ℕ) : Type 0 where
  pub first : Invariant g w
  pub floor : ℕ → Floor
  pub floors : Floors g w floor
  pub scans : AllScanBut g w u
  pub tried : AllTried g w floor
  pub lives : Lives g w

-- some memory makes all this hold
pub record HasSound (g : Network) (n : Net) : Type 0 where
  pub ghost : Ghost
  pub holds : Sound g (scene n ghost)
