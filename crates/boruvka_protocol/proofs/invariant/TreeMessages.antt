-- Clauses of what waits at a port but Names. e is that end of the link, f the other one.
use Rattle.std.specs.Prelude.{◌≡◌, ◌⊎◌, ℕ, suc, Option, Some, None, List, [], ◌∷◌}
use Rattle.ghs_graph.specs.declared.key.Key.{Key}
use Rattle.boruvka_protocol.specs.Levels.{Taken}
use Rattle.boruvka_protocol.specs.Cores.{IsCore}
use Rattle.boruvka_node.specs.declared.mark.Mark.TheVariants.{Branch}
use Rattle.boruvka_node.specs.declared.message.Message.{Message}
use Rattle.boruvka_node.specs.declared.message.Message.TheVariants.{Connect, Initiate, Report, ChangeRoot}
use Rattle.boruvka_node.specs.declared.message.Phase.TheVariants.{Search, Rest}
use Rattle.boruvka_protocol.proofs.invariant.Words.{IsLeast, IsWayUp, IsSubAt, SubIs}
use Rattle.boruvka_protocol.proofs.invariant.Sides.{Side}
use Rattle.boruvka_protocol.proofs.invariant.Connects.{ConnectFits}

module _ (ks : List Key) where
  -- an Initiate of this level and name comes down the way up of the next level, from a node in search to one at rest
  pub record CallFits (l : ℕ) (name : Key) (e f : Side) : Type 0 where
    pub level : l ≡ suc e.level
    pub core : IsCore ks e.level e.node name
    pub up : IsWayUp ks (suc e.level) e.node e.key
    pub rest : e.phase ≡ Rest
    pub sender_level : f.level ≡ suc e.level
    pub sender_search : f.phase ≡ Search
    pub sender_mark : f.mark ≡ Branch
    -- over a link of its own class, or over the one that it has gone out over
    pub over : Taken ks e.level e.key ⊎ (e.out ≡ Some e.port)

  -- a Report comes up, from a child that has ended its search to a node in search; it is the least key that leaves from the child or below it
  pub record ReportFits (least : Option Key) (e f : Side) : Type 0 where
    pub up : IsWayUp ks e.level f.node e.key
    pub sender_level : f.level ≡ e.level
    pub sender_rest : f.phase ≡ Rest
    pub search : e.phase ≡ Search
    pub mark : e.mark ≡ Branch
    pub sub : SubIs ks e.level f.node least

  -- a ChangeRoot comes down the way to the least way out
  pub record PassFits (e f : Side) : Type 0 where
    pub up : IsWayUp ks e.level e.node e.key
    pub rest : e.phase ≡ Rest
    pub stays : e.out ≡ None
    pub least : (k : Key) × IsLeast ks e.level e.node k × IsSubAt ks e.level e.node k

  -- one Connect waits at most, and one of the others; a Connect stands before an Initiate, and none beside another one
  pub data CallsFit (e f : Side) : List Message → Type 0 where
    Nothing : CallsFit e f []
    Chosen : (m : ℕ) → ConnectFits ks m e f → CallsFit e f (Connect m ∷ [])
    Called : (l : ℕ) (name : Key) → CallFits l name e f → CallsFit e f (Initiate l name ∷ [])
    Chosen_called : (m l : ℕ) (name : Key) → ConnectFits ks m e f → CallFits l name e f → CallsFit e f (Connect m ∷ Initiate l name ∷ [])
    Reported : (least : Option Key) → ReportFits least e f → CallsFit e f (Report least ∷ [])
    Passed : PassFits e f → CallsFit e f (ChangeRoot ∷ [])
