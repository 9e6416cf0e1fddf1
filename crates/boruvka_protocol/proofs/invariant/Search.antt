-- Clauses of the search for the least way out.
use Rattle.std.specs.Prelude.{◌≡◌, ◌≢◌, ℕ, ◌≤◌, Bool, true, false, Some, None, List}
use Rattle.ghs_graph.specs.declared.key.Key.{Key}
use Rattle.ghs_graph.specs.Key.{key_lt}
use Rattle.ghs_node.specs.Words.{Best}
use Rattle.peer_network.specs.Network.{Network, At, port_at, far}
use Rattle.boruvka_node.specs.declared.head.Head.{Head}
use Rattle.boruvka_node.specs.declared.mark.Mark.TheVariants.{Branch}
use Rattle.boruvka_node.specs.declared.message.Message.{Message}
use Rattle.boruvka_node.specs.declared.message.Phase.TheVariants.{Search, Rest}
use Rattle.boruvka_node.specs.Words.{is_basic}
use Rattle.boruvka_node.specs.State.{State, mark_at, missing}
use Rattle.boruvka_protocol.proofs.invariant.Words.{IsWayUp, IsSubAt, HasNoSub}
use Rattle.boruvka_protocol.proofs.invariant.Sides.{Side, calls_in}
use Rattle.boruvka_protocol.proofs.invariant.Children.{HasReported, IsChild}

-- who searches waits for something: a Report, or a Name of its level at a Basic port
abbrev pub LacksSome : State → Type 0
LacksSome n = n.head.phase ≡ Search → 1 ≤ missing n

module _ (ks : List Key) where
  -- Which Reports are owed. e is an end of a link, f the other one; q is what waits at e but Names.

  pub record OwesFit (e f : Side) (owes : Bool) (q : List Message) : Type 0 where
    -- from Branch children alone, and not where the child has reported
    pub child : owes ≡ true → (e.mark ≡ Branch) × IsChild ks e f
    pub open_yet : owes ≡ true → HasReported e.level f.level f.phase q → ⊥
    -- who searches is owed one by each of them that hasn't
    pub heard : e.phase ≡ Search → e.mark ≡ Branch → IsChild ks e f → owes ≡ false → HasReported e.level f.level f.phase q
    -- out of search nothing is owed
    pub rest : e.phase ≢ Search → owes ≡ false

  -- The node v in the state n, with the variables of the nodes at the far ends of its ports, and what waits at each of its ports.
  module _ (g : Network) (v : ℕ) (n : State) (fars : ℕ → Head) (queues : ℕ → List Message) where
    -- port p is one of v's, Branch, and leads to a child
    pub record HasChild (p : ℕ) : Type 0 where
      pub at : At g v p
      pub mark : mark_at n p ≡ Branch
      pub child : IsWayUp ks n.head.level (far g v p) (port_at g v p).key

    -- the child at port p has reported k
    pub record HasHeard (p : ℕ) (k : Key) : Type 0 where
      pub child : HasChild p
      pub reported : HasReported n.head.level (fars p).level (fars p).phase (calls_in (queues p))
      pub sub : IsSubAt ks n.head.level (far g v p) k

    -- while v searches, best is the least that its children have reported, and the port of the child
    abbrev pub BestIsHeard : Best → Type 0
    BestIsHeard None = (p : ℕ) (k : Key) → HasHeard p k → ⊥
    BestIsHeard (Some b) = HasHeard b.0 b.1 × ((p : ℕ) (k : Key) → HasHeard p k → key_lt k b.1 ≡ false)

    pub record IsSearching : Type 0 where
      pub best : BestIsHeard n.head.best
      pub stays : n.head.out ≡ None
      pub goes_on : n.head.halted ≡ false

    -- the port p leads to k: as a Basic port of this key, or by the child there, from which or from below which k leaves
    pub data LeadsTo (p : ℕ) (k : Key) : Type 0 where
      Own : At g v p → is_basic (mark_at n p) ≡ true → (port_at g v p).key ≡ k → LeadsTo p k
      By_child : HasChild p → IsSubAt ks n.head.level (far g v p) k → LeadsTo p k

    -- at rest, best is the least key that leaves from v or below it, by its port
    abbrev pub BestIsSub : Best → Type 0
    BestIsSub None = HasNoSub ks n.head.level v
    BestIsSub (Some b) = IsSubAt ks n.head.level v b.1 × LeadsTo b.0 b.1

    pub record SearchFits : Type 0 where
      pub search : n.head.phase ≡ Search → IsSearching
      pub rest : n.head.phase ≡ Rest → 1 ≤ n.head.level → BestIsSub n.head.best
