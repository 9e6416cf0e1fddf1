-- An act by which a node changes at one port alone, or sends: what all nodes' searches keep.
use Rattle.std.proofs.Common.{◌≡◌, ℕ, List, Some, None, sym, ◌∙◌, ap, subst, ⊎_elim}
use Rattle.std.proofs.lemmas.Bool.{cases_eq}
use Rattle.ghs_graph.specs.declared.key.Key.{Key}
use Rattle.ghs_node.specs.Words.{Best}
use Rattle.peer_network.specs.Network.{Network, far}
use Rattle.peer_machine.specs.Rules.{Outgoing}
use Rattle.peer_machine.specs.Net.{Net}
use Rattle.boruvka_node.specs.declared.head.Head.{Head}
use Rattle.boruvka_node.specs.declared.mark.Mark.TheVariants.{Branch}
use Rattle.boruvka_node.specs.declared.message.Message.{Message}
use Rattle.boruvka_node.specs.declared.message.Phase.TheVariants.{Rest}
use Rattle.boruvka_node.specs.declared.port_state.PortState.{PortState}
use Rattle.boruvka_node.specs.Words.{is_basic}
use Rattle.boruvka_node.specs.State.{State, mark_at}
use Rattle.boruvka_protocol.proofs.invariant.Sides.{calls_in}
use Rattle.boruvka_protocol.proofs.invariant.Children.{HasReported}
use Rattle.boruvka_protocol.proofs.invariant.Search.{HasChild, HasHeard, BestIsHeard, LeadsTo, Own, By_child, BestIsSub, SearchFits}
use Rattle.boruvka_protocol.proofs.invariant.Whole.{SearchesFit}
use Rattle.boruvka_protocol.proofs.rows.Acts.{Acts}
use Rattle.boruvka_protocol.proofs.rows.Alike.{SameHeads, AsManyReports, levels_alike, phases_alike}
use Rattle.boruvka_protocol.proofs.rows.Searches.{search_seen}

-- The node n with other ports: Branch ports are those that were, but for children that haven't reported; at rest Basic ports are.
module _ (ks : List Key) (g : Network) (v : ℕ) (n : State) (ports : List PortState) (fars : ℕ → Head) (queues : ℕ → List Message)
    (to : (p : ℕ) → mark_at n p ≡ Branch → mark_at (record n { ports = ports }) p ≡ Branch)
    (from : (p : ℕ) → HasReported n.head.level (fars p).level (fars p).phase (calls_in (queues p)) →
    mark_at (record n { ports = ports }) p ≡ Branch → mark_at n p ≡ Branch)
    (basic : n.head.phase ≡ Rest → (p : ℕ) → is_basic (mark_at (record n { ports = ports }) p) ≡ is_basic (mark_at n p)) where
  abbrev now : State
  now = record n { ports = ports }

  child_now : (p : ℕ) → HasChild ks g v n fars queues p → HasChild ks g v now fars queues p
  child_now p c = record { at = c.at; mark = to p c.mark; child = c.child }

  heard_now : (p : ℕ) (k : Key) → HasHeard ks g v n fars queues p k → HasHeard ks g v now fars queues p k
  heard_now p k h = record { child = child_now p h.child; reported = h.reported; sub = h.sub }

  heard_before : (p : ℕ) (k : Key) → HasHeard ks g v now fars queues p k → HasHeard ks g v n fars queues p k
  heard_before p k h = record {
    child = record { at = h.child.at; mark = from p h.reported h.child.mark; child = h.child.child };
    reported = h.reported;
    sub = h.sub;
  }

  best_now : (b : Best) → BestIsHeard ks g v n fars queues b → BestIsHeard ks g v now fars queues b
  best_now None h = λ p k x. h p k (heard_before p k x)
  best_now (Some b) h = (heard_now b.0 b.1 h.0, λ p k x. h.1 p k (heard_before p k x))

  module _ (rest : n.head.phase ≡ Rest) where
    leads_now : (p : ℕ) (k : Key) → LeadsTo ks g v n fars queues p k → LeadsTo ks g v now fars queues p k
    leads_now p k (Own at b key) = Own at (basic rest p ∙ b) key
    leads_now p k (By_child c sub) = By_child (child_now p c) sub

    sub_now : (b : Best) → BestIsSub ks g v n fars queues b → BestIsSub ks g v now fars queues b
    sub_now None h = h
    sub_now (Some b) h = (h.0, leads_now b.0 b.1 h.1)

  pub search_now : SearchFits ks g v n fars queues → SearchFits ks g v now fars queues
  search_now h = record {
    search = λ s. let x = h.search s in record { best = best_now n.head.best x.best; stays = x.stays; goes_on = x.goes_on };
    rest = λ r lo. sub_now r n.head.best (h.rest r lo);
  }

module _ (ks : List Key) (g : Network) (w w' : Net State Message) (v : ℕ) (n : State) (own : ℕ → List Message) (ss : Outgoing Message)
    (a : Acts g w w' v n own ss) where
  -- where the node that acts keeps a variable, all nodes do
  pub variable_act : {A : Type 0} (f : Head → A) → f (w.node v).head ≡ f n.head → (u : ℕ) → f (w.node u).head ≡ f (w'.node u).head
  variable_act f e u = ⊎_elim
      (λ (x : u ≡ v). subst (λ y. f (w.node y).head ≡ f (w'.node y).head) (sym x) (e ∙ ap (λ (z : State). f z.head) (sym a.node)))
      (λ ne. ap (λ (z : State). f z.head) (a.others u ne))
      (cases_eq u v)

  pub heads_act : (w.node v).head ≡ n.head → SameHeads w w'
  heads_act e = variable_act {A = Head} (λ x. x) e

  -- and where no Report comes or goes, and the search of the node that acts keeps its clauses, all searches do
  pub searches_act : SameHeads w w' → AsManyReports g w w' →
      SearchesFit ks g w → SearchFits ks g v n (λ p. (w.node (far g v p)).head) (λ p. w.queue v p) → SearchesFit ks g w'
  searches_act heads reports before now u at = search_seen ks g u (w'.node u) (λ p. (w.node (far g u p)).head) (λ p. (w'.node (far g u p)).head)
      (λ p. w.queue u p) (λ p. w'.queue u p) (λ p x. levels_alike w w' heads (far g u p)) (λ p x. phases_alike w w' heads (far g u p))
      (λ p x. reports u p x)
      (⊎_elim
      (λ (e : u ≡ v).
      subst (λ y. SearchFits ks g y (w'.node y) (λ p. (w.node (far g y p)).head) (λ p. w.queue y p)) (sym e)
      (subst (λ (x : State). SearchFits ks g v x (λ p. (w.node (far g v p)).head) (λ p. w.queue v p)) (sym a.node) now))
      (λ ne.
      subst (λ (x : State). SearchFits ks g u x (λ p. (w.node (far g u p)).head) (λ p. w.queue u p)) (a.others u ne) (before u at))
      (cases_eq u v))
