-- Clauses of Connects. e is an end of a link and f the other one; q is what waits at e but Names, and r what waits at f.
use Rattle.std.specs.Prelude.{◌≡◌, ◌≢◌, ◌⊎◌, ℕ, suc, ◌<◌, true, Some, List}
use Rattle.ghs_graph.specs.declared.key.Key.{Key}
use Rattle.boruvka_node.specs.declared.mark.Mark.TheVariants.{Asked, Branch}
use Rattle.boruvka_node.specs.declared.message.Message.{Message}
use Rattle.boruvka_node.specs.declared.message.Phase.TheVariants.{Search, Rest}
use Rattle.boruvka_node.specs.Words.{is_basic}
use Rattle.boruvka_protocol.proofs.invariant.Words.{IsPast, IsLeast, IsWayUp}
use Rattle.boruvka_protocol.proofs.invariant.Sides.{Side, connects_in, initiates_in}

module _ (ks : List Key) where
  -- what has become of f, which sent e a Connect of level m: it waits, or is the lesser end of a core and has entered the next level
  pub data HasAsked (m : ℕ) (e f : Side) : Type 0 where
    Waits : f.level ≡ m → f.out ≡ Some f.port → HasAsked m e f
    Has_begun : f.level ≡ suc m → IsLeast ks m e.node e.key → f.node < e.node → f.mark ≡ Branch → HasAsked m e f

  -- f chose the link at level m
  pub record HasChosen (m : ℕ) (e f : Side) : Type 0 where
    pub least : IsLeast ks m f.node e.key
    pub past : IsPast m f.level f.phase
    pub sender : HasAsked m e f

  -- a Connect of level m finds e at that level, or one above it in search
  abbrev pub Finds : ℕ → Side → Type 0
  Finds m e = (m ≡ e.level) ⊎ ((suc m ≡ e.level) × (e.phase ≡ Search) × (is_basic e.mark ≡ true))

  -- a Connect of level m that waits at e
  pub record ConnectFits (m : ℕ) (e f : Side) : Type 0 where
    pub chosen : HasChosen m e f
    pub finds : Finds m e

  -- what has become of the Connect that went out from e: it waits at f, or is noted there, or f has entered the next level, and its call waits
  pub data Answered (e f : Side) (q r : List Message) : Type 0 where
    Comes : ◌≡◌ {A = ℕ} (connects_in r) 1 → f.mark ≢ Asked → Answered e f q r
    Noted : ◌≡◌ {A = ℕ} (connects_in r) 0 → f.mark ≡ Asked → f.level ≡ e.level → Answered e f q r
    Called : ◌≡◌ {A = ℕ} (connects_in r) 0 → f.mark ≡ Branch → f.level ≡ suc e.level → IsWayUp ks (suc e.level) e.node e.key →
        ◌≡◌ {A = ℕ} (initiates_in q) 1 → Answered e f q r

  -- e has gone out over the link
  pub record OutFits (e f : Side) (q r : List Message) : Type 0 where
    pub least : IsLeast ks e.level e.node e.key
    pub rest : e.phase ≡ Rest
    pub basic : is_basic e.mark ≡ true
    pub answer : Answered e f q r
    -- asked there too, it is the greater end of a core: the lesser one would have entered the next level
    pub greater : e.mark ≡ Asked → f.node < e.node

  pub record ConnectsFit (e f : Side) (q r : List Message) : Type 0 where
    pub asked : e.mark ≡ Asked → HasChosen e.level e f
    pub out : e.out ≡ Some e.port → OutFits e f q r
