-- Clauses of the tree messages (Connect, Initiate, Report, ChangeRoot) on a link.
use Rattle.std.specs.Prelude.{◌≡◌, ◌≢◌, ℕ, suc, ◌<◌, ◌≤◌, true, Option, Some, None, List, [], ◌∷◌, ◌++◌, ⊤}
use Rattle.ghs_graph.specs.declared.key.Key.{Key}
use Rattle.ghs_node.specs.declared.mark.Mark.TheVariants.{Basic, Branch}
use Rattle.ghs_node.specs.declared.message.Phase.TheVariants.{Sleeping, Find, Found}
use Rattle.ghs_node.specs.declared.message.Message.{Message}
use Rattle.ghs_node.specs.declared.message.Message.TheVariants.{Connect, Initiate, Report, ChangeRoot}
use Rattle.ghs_node.specs.Words.{below, best_key}
use Rattle.ghs_protocol.proofs.clauses.Scene.{TreeEnd}
use Rattle.ghs_protocol.proofs.clauses.Links.{Joins, Out, Ups, Child, Mutual}

-- a Connect under way is the only tree message of its link, and leads to another fragment of at least its level
pub record ConnectUnderWay (e f : TreeEnd) : Type 0 where
  pub mark : f.mark ≡ Basic
  pub up : Ups e
  pub apart : f.fragment ≢ e.fragment
  pub level : e.level ≡ e.coming
  pub higher : e.level ≤ f.level
  pub one : f.tree ≡ Connect e.level ∷ []
  pub none : e.tree ≡ []

-- a Branch whose far end is none has its Connect under way
abbrev pub OutIsConnect : TreeEnd → TreeEnd → Type 0
OutIsConnect e f = Out e f → ConnectUnderWay e f

-- no tree message where neither end is Branch
abbrev pub SilentAside : TreeEnd → TreeEnd → Type 0
SilentAside e f = e.mark ≢ Branch → f.mark ≢ Branch → e.tree ≡ []

-- an end of the core link hangs on it
pub record OnCore (e : TreeEnd) : Type 0 where
  pub at_top : e.level ≡ e.coming → e.in_branch ≡ Some e.port
  pub below : e.level ≢ e.coming → Ups e

-- the link of the coming name is the way of both its ends
abbrev pub CoreEnds : TreeEnd → TreeEnd → Type 0
CoreEnds e f = Joins e f → e.coming_name ≡ Some e.key → OnCore e

-- e has reported k, being at the coming level
pub record Reported (e : TreeEnd) (k : Option Key) : Type 0 where
  pub phase : e.phase ≡ Found
  pub in_branch : e.in_branch ≡ Some e.port
  pub level : e.level ≡ e.coming
  pub key : best_key e.best ≡ k

-- what f, the parent, may have to read from its child e
pub data Upward (e f : TreeEnd) : Type 0 where
  Nothing_up : f.tree ≡ [] → Upward e f
  Report_up : (k : Option Key) → f.tree ≡ Report k ∷ [] → Reported e k → Upward e f

-- from a child to its parent: nothing, or one Report of a child that has reported
abbrev pub UpwardQueue : TreeEnd → TreeEnd → Type 0
UpwardQueue e f = Child e f → Upward e f

-- Initiates that rise from level l, the last at most t; N are the names of the fragment's links
abbrev pub Chain : (Key → Type 0) → ℕ → Option Key → ℕ → ℕ → List Message → Type 0
Chain N coming coming_name t l [] = l ≤ t
Chain N coming coming_name t l (Initiate k f s ∷ ms) =
    (l < k) × N f × (k ≡ coming → coming_name ≡ Some f) × (s ≢ Sleeping) × (s ≡ Find → k ≡ coming) × Chain N coming coming_name t k ms
Chain N coming coming_name t l (_ ∷ ms) = Prim.⊥

-- e's chain of Initiates, from its parent f
abbrev pub Falls : (Key → Type 0) → TreeEnd → TreeEnd → List Message → Type 0
Falls N e f ms = Chain N e.coming e.coming_name f.level e.level ms

-- a Report of the other end of a former core, not better than one's own best
pub record Harmless (e f : TreeEnd) (k : Option Key) (ms : List Message) : Type 0 where
  pub in_branch : e.in_branch ≡ Some e.port
  pub phase : e.phase ≡ Found
  pub worse : below k (best_key e.best) ≡ true
  pub there : ms ≡ [] → f.in_branch ≡ Some f.port

-- what e, the child, may have to read from its parent f
pub data Downward (N : Key → Type 0) (e f : TreeEnd) : Type 0 where
  Initiates : Falls N e f e.tree → Downward N e f
  Old_report : (k : Option Key) → (ms : List Message) → e.tree ≡ Report k ∷ ms → Harmless e f k ms → Falls N e f ms → Downward N e f

-- from a parent to its child: Initiates, and before them an old Report at most
abbrev pub DownwardQueue : (ℕ → Key → Type 0) → TreeEnd → TreeEnd → Type 0
DownwardQueue N e f = Child e f → Downward (N e.fragment) e f

-- a core end: its own Connect waits at the far end, or its Initiate waits, or it has begun to search
pub data Stage : Type 0 where
  Asking Called Begun : Stage  -- its Connect waits, its Initiate waits, it has begun

-- before it begins, a core end is one level below
abbrev pub AtStage : TreeEnd → Stage → Type 0
AtStage e Asking = suc e.level ≡ e.coming
AtStage e Called = suc e.level ≡ e.coming
AtStage e Begun = e.level ≡ e.coming

-- who has begun has served the other's Connect
abbrev pub Served : Stage → Stage → Type 0
Served Begun Asking = Prim.⊥
Served _ _ = ⊤

-- the far end's Connect, of level l, while the far end is at this stage
abbrev pub asked : ℕ → Stage → List Message
asked l Asking = Connect l ∷ []
asked l Called = []
asked l Begun = []

-- the Initiate that waits at an end of this stage
abbrev pub called : ℕ → Key → Stage → List Message
called l k Asking = []
called l k Called = Initiate l k Find ∷ []
called l k Begun = []

-- e's part of the core queue: a is its stage, b that of f
pub data CoreQueue (e f : TreeEnd) (a b : Stage) : Type 0 where
  Plain : e.tree ≡ asked f.level b ++ called e.coming e.key a → CoreQueue e f a b
  With_report : (k : Option Key) →
      e.tree ≡ called e.coming e.key a ++ Report k ∷ [] →
      b ≡ Begun →
      f.phase ≡ Found →
      best_key f.best ≡ k →
      CoreQueue e f a b

-- the root link that has the coming name
pub record Core (e f : TreeEnd) : Type 0 where
  pub both : Mutual e f
  pub named : e.coming_name ≡ Some e.key

-- both stages, and both queues as they should be
pub record CoreFits (e f : TreeEnd) : Type 0 where
  pub here : Stage
  pub there : Stage
  pub at_here : AtStage e here
  pub at_there : AtStage f there
  pub served : Served here there
  pub served_beyond : Served there here
  pub queue : CoreQueue e f here there
  pub queue_beyond : CoreQueue f e there here

-- the core link's two queues are those of its two stages
abbrev pub CoreQueues : TreeEnd → TreeEnd → Type 0
CoreQueues e f = Core e f → CoreFits e f

-- the ChangeRoot is under way to e
pub record Moving (e f : TreeEnd) : Type 0 where
  pub queue : e.tree ≡ ChangeRoot ∷ []
  pub queue_beyond : f.tree ≡ []
  pub level : e.level ≡ e.coming
  pub level_beyond : f.level ≡ e.coming
  pub in_branch : e.in_branch ≡ Some e.port
  pub best : e.best ≢ None

-- a root link that hasn't the coming name
pub record Moved (e f : TreeEnd) : Type 0 where
  pub both : Mutual e f
  pub unnamed : e.coming_name ≢ Some e.key

-- the ChangeRoot is under way to one of the ends
pub data MovedFits (e f : TreeEnd) : Type 0 where
  To_here : Moving e f → MovedFits e f
  To_there : Moving f e → MovedFits e f

-- a root that has moved has one ChangeRoot under way
abbrev pub MovedRoot : TreeEnd → TreeEnd → Type 0
MovedRoot e f = Moved e f → MovedFits e f

-- all clauses of tree messages at one link
pub record TreeFits (N : ℕ → Key → Type 0) (e f : TreeEnd) : Type 0 where
  pub out_connect : OutIsConnect e f
  pub silent : SilentAside e f
  pub core_ends : CoreEnds e f
  pub upward : UpwardQueue e f
  pub downward : DownwardQueue N e f
  pub core_queues : CoreQueues e f
  pub moved_root : MovedRoot e f
