-- Clauses of marks. e is an end of a link, f the other one, q what waits at e but Names, and heard the level that was heard at e.
use Rattle.std.specs.Prelude.{◌≡◌, ◌≢◌, ◌↔◌, ℕ, suc, ◌≤◌, true, Some, List}
use Rattle.ghs_graph.specs.declared.key.Key.{Key}
use Rattle.ghs_graph.specs.Links.{InTree}
use Rattle.boruvka_protocol.specs.Levels.{Taken, InClass}
use Rattle.boruvka_node.specs.declared.mark.Mark.TheVariants.{Branch, Inside}
use Rattle.boruvka_node.specs.declared.message.Message.{Message}
use Rattle.boruvka_node.specs.declared.message.Phase.TheVariants.{Search}
use Rattle.boruvka_node.specs.Words.{is_basic}
use Rattle.boruvka_protocol.proofs.invariant.Words.{IsLeast}
use Rattle.boruvka_protocol.proofs.invariant.Sides.{Side, connects_in}

module _ (ks : List Key) where
  -- a link that is taken up to level m + 1, that of e, and isn't Branch there yet: f chose it alone, and its Connect is still to come
  pub record IsLate (m : ℕ) (e f : Side) (q : List Message) : Type 0 where
    pub basic : is_basic e.mark ≡ true
    pub search : e.phase ≡ Search
    pub chosen : IsLeast ks m f.node e.key
    pub alone : IsLeast ks m e.node e.key → ⊥
    pub level : f.level ≡ m
    pub connect : (f.out ≡ Some f.port) ↔ (◌≡◌ {A = ℕ} (connects_in q) 1)

  pub record MarksFit (e f : Side) (heard : ℕ) (q : List Message) : Type 0 where
    -- Branch: the link is taken
    pub branch : e.mark ≡ Branch → Taken ks e.level e.key
    -- Inside: its ends lie in one class, and it isn't in the forest
    pub inside : e.mark ≡ Inside → InClass ks e.level e.node f.node × (InTree ks e.key → ⊥)
    -- taken, and not Branch
    pub late : (m : ℕ) → e.level ≡ suc m → Taken ks e.level e.key → e.mark ≢ Branch → IsLate m e f q
    -- Basic, where the node's level was heard: the link leads out
    pub leads_out : is_basic e.mark ≡ true → 1 ≤ e.level → e.level ≤ heard → InClass ks e.level e.node f.node → ⊥
