-- Clauses of the token: from the end of its root's search on each class has one, which goes to the end of its least way out and over it.
use Rattle.std.specs.Prelude.{◌≡◌, ℕ, ◌<◌, true, Some, List}
use Rattle.ghs_graph.specs.declared.key.Key.{Key}
use Rattle.ghs_graph.specs.Key.{ends_at}
use Rattle.boruvka_protocol.specs.Levels.{InClass, HasWayOut, IsOfLevel}
use Rattle.boruvka_protocol.specs.WaysUp.{IsTop}
use Rattle.peer_network.specs.Network.{Network, InNetwork, At}
use Rattle.peer_machine.specs.Net.{Net}
use Rattle.boruvka_node.specs.declared.message.Message.{Message}
use Rattle.boruvka_node.specs.declared.message.Phase.TheVariants.{Rest}
use Rattle.boruvka_node.specs.State.{State}
use Rattle.boruvka_protocol.proofs.invariant.Words.{IsPast, IsLeast, IsRoot}
use Rattle.boruvka_protocol.proofs.invariant.Sides.{passes_in}

-- where a token may be: in a ChangeRoot that waits, at a node that has gone out, on with the end of the least way out,
-- or at a node that has halted
pub data Place : Type 0 where
  Waits : Place
  Out : Place
  On : Place
  Ended : Place

module _ (ks : List Key) (g : Network) (w : Net State Message) where
  -- a token of level l is at the node u, in this way
  pub data IsTokenAt (l u : ℕ) : Place → Type 0 where
    In_message : (p : ℕ) → At g u p → (w.node u).head.level ≡ l → 0 < passes_in (w.queue u p) → IsTokenAt l u Waits
    Gone_out : (p : ℕ) → At g u p → (w.node u).head.level ≡ l → (w.node u).head.out ≡ Some p → IsTokenAt l u Out
    Gone_on : (k : Key) → l < (w.node u).head.level → IsLeast ks l u k → ends_at u k ≡ true → IsTokenAt l u On
    At_end : (w.node u).head.level ≡ l → (w.node u).head.halted ≡ true → IsTokenAt l u Ended

  -- a token of the class of v at level l
  pub record Token (l v : ℕ) : Type 0 where
    pub node : ℕ
    pub place : Place
    pub inside : InClass ks l v node
    pub in_network : InNetwork g node
    pub at : IsTokenAt l node place

  -- the root of the class of v at level l has ended its search of that level
  pub record RootIsPast (l v : ℕ) : Type 0 where
    pub root : ℕ
    pub top : IsTop ks l v root
    pub past : IsPast l (w.node root).head.level (w.node root).head.phase

  pub record TokenFits (l v : ℕ) : Type 0 where
    pub some : RootIsPast l v → Token l v
    pub one : (s t : Token l v) → (s.node ≡ t.node) × (s.place ≡ t.place)
    pub none : Token l v → RootIsPast l v

  -- who has halted is the root of a class without a way out, at rest
  pub record HaltFits (v : ℕ) (n : State) : Type 0 where
    pub whole : HasWayOut ks n.head.level v → ⊥
    pub root : IsRoot ks n.head.level v
    pub rest : n.head.phase ≡ Rest

  abbrev pub HaltsFit : Type 0
  HaltsFit = (v : ℕ) → InNetwork g v → (w.node v).head.halted ≡ true → HaltFits v (w.node v)

  pub record TokensFit : Type 0 where
    pub halted : HaltsFit
    pub one : (l v : ℕ) → InNetwork g v → IsOfLevel ks l v → TokenFits l v
