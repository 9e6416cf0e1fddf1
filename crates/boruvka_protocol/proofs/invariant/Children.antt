-- Clauses of parent and child. e is an end of a link, f the other one; q is what waits at e but Names, and r what waits at f.
use Rattle.std.specs.Prelude.{◌≡◌, ◌⊎◌, ℕ, suc, ◌≤◌, List}
use Rattle.ghs_graph.specs.declared.key.Key.{Key}
use Rattle.boruvka_node.specs.declared.mark.Mark.TheVariants.{Branch}
use Rattle.boruvka_node.specs.declared.message.Message.{Message}
use Rattle.boruvka_node.specs.declared.message.Phase.{Phase}
use Rattle.boruvka_node.specs.declared.message.Phase.TheVariants.{Search, Rest}
use Rattle.boruvka_protocol.proofs.invariant.Words.{IsPast, IsWayUp}
use Rattle.boruvka_protocol.proofs.invariant.Sides.{Side, initiates_in, reports_in}

-- a node of this level and phase has ended its search of level l, and of what it sent q no Report of that level waits
pub record HasReported (l level : ℕ) (phase : Phase) (q : List Message) : Type 0 where
  pub past : IsPast l level phase
  pub heard : level ≡ l → ◌≡◌ {A = ℕ} (reports_in q) 0

module _ (ks : List Key) where
  -- the link is the way up of f at e's level: f is a child of e
  abbrev pub IsChild : Side → Side → Type 0
  IsChild e f = IsWayUp ks e.level f.node e.key

  -- a child that is a level below: e is in search, and where the link is Branch its call waits
  pub record IsBehind (e f : Side) (r : List Message) : Type 0 where
    pub search : e.phase ≡ Search
    pub rest : e.mark ≡ Branch → f.phase ≡ Rest
    pub called : e.mark ≡ Branch → ◌≡◌ {A = ℕ} (initiates_in r) 1

  pub record ChildFits (e f : Side) (q r : List Message) : Type 0 where
    -- it is a level below at most
    pub level : e.level ≤ suc f.level
    pub behind : suc f.level ≡ e.level → IsBehind e f r
    -- while it searches, e does
    pub search : f.level ≡ e.level → f.phase ≡ Search → e.phase ≡ Search
    -- who is at rest has heard of all its children
    pub rest : e.phase ≡ Rest → HasReported e.level f.level f.phase q

  -- the parent is at e's level or one above, and both ends are Branch
  pub record ParentFits (e f : Side) : Type 0 where
    pub level : (f.level ≡ e.level) ⊎ (f.level ≡ suc e.level)
    pub mark : e.mark ≡ Branch
    pub far_mark : f.mark ≡ Branch

  pub record ChildrenFit (e f : Side) (q r : List Message) : Type 0 where
    pub child : IsChild e f → ChildFits e f q r
    pub parent : IsWayUp ks e.level e.node e.key → ParentFits e f
