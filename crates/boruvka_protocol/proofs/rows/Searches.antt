-- The search at a node whose children have reported as before: it keeps its clauses.
use Rattle.std.proofs.Common.{◌≡◌, ℕ, None, Some, List, sym, ◌∙◌, subst}
use Rattle.ghs_graph.specs.declared.key.Key.{Key}
use Rattle.ghs_node.specs.Words.{Best}
use Rattle.peer_network.specs.Network.{Network, At}
use Rattle.boruvka_node.specs.declared.head.Head.{Head}
use Rattle.boruvka_node.specs.declared.message.Message.{Message}
use Rattle.boruvka_node.specs.declared.message.Phase.{Phase}
use Rattle.boruvka_node.specs.State.{State}
use Rattle.boruvka_protocol.proofs.invariant.Words.{IsPast}
use Rattle.boruvka_protocol.proofs.invariant.Sides.{calls_in, reports_in}
use Rattle.boruvka_protocol.proofs.invariant.Children.{HasReported}
use Rattle.boruvka_protocol.proofs.invariant.Search.{HasChild, HasHeard, BestIsHeard, LeadsTo, Own, By_child, BestIsSub, SearchFits}

module _ (ks : List Key) (g : Network) (v : ℕ) (n : State) (fars fars' : ℕ → Head) (queues queues' : ℕ → List Message) where
  -- What each child has reported is given in both directions.
  module _ (to : (p : ℕ) → HasChild ks g v n fars queues p →
      HasReported n.head.level (fars p).level (fars p).phase (calls_in (queues p)) →
      HasReported n.head.level (fars' p).level (fars' p).phase (calls_in (queues' p)))
      (from : (p : ℕ) → HasChild ks g v n fars queues p →
      HasReported n.head.level (fars' p).level (fars' p).phase (calls_in (queues' p)) →
      HasReported n.head.level (fars p).level (fars p).phase (calls_in (queues p))) where
    heard_to : (p : ℕ) (k : Key) → HasHeard ks g v n fars queues p k → HasHeard ks g v n fars' queues' p k
    heard_to p k h = record {
      child = record { at = h.child.at; mark = h.child.mark; child = h.child.child };
      reported = to p h.child h.reported;
      sub = h.sub;
    }

    heard_from : (p : ℕ) (k : Key) → HasHeard ks g v n fars' queues' p k → HasHeard ks g v n fars queues p k
    heard_from p k h =
        let c : HasChild ks g v n fars queues p = record { at = h.child.at; mark = h.child.mark; child = h.child.child } in
        record { child = c; reported = from p c h.reported; sub = h.sub }

    best_to : (b : Best) → BestIsHeard ks g v n fars queues b → BestIsHeard ks g v n fars' queues' b
    best_to None h = λ p k x. h p k (heard_from p k x)
    best_to (Some b) h = (heard_to b.0 b.1 h.0, λ p k x. h.1 p k (heard_from p k x))

    leads_to : (p : ℕ) (k : Key) → LeadsTo ks g v n fars queues p k → LeadsTo ks g v n fars' queues' p k
    leads_to p k (Own at basic key) = Own at basic key
    leads_to p k (By_child c sub) = By_child (record { at = c.at; mark = c.mark; child = c.child }) sub

    sub_to : (b : Best) → BestIsSub ks g v n fars queues b → BestIsSub ks g v n fars' queues' b
    sub_to None h = h
    sub_to (Some b) h = (h.0, leads_to b.0 b.1 h.1)

    pub search_by : SearchFits ks g v n fars queues → SearchFits ks g v n fars' queues'
    search_by h = record {
      search = λ s. let x = h.search s in record { best = best_to n.head.best x.best; stays = x.stays; goes_on = x.goes_on };
      rest = λ r lo. sub_to n.head.best (h.rest r lo);
    }

  -- so where its far ends have the same levels and phases, and as many Reports wait
  pub search_seen : ((p : ℕ) → At g v p → ◌≡◌ {A = ℕ} (fars p).level (fars' p).level) →
      ((p : ℕ) → At g v p → ◌≡◌ {A = Phase} (fars p).phase (fars' p).phase) →
      ((p : ℕ) → At g v p → ◌≡◌ {A = ℕ} (reports_in (calls_in (queues p))) (reports_in (calls_in (queues' p)))) →
      SearchFits ks g v n fars queues → SearchFits ks g v n fars' queues'
  search_seen levels phases reports = search_by
      (λ p c r. record {
        past = subst (λ x. IsPast n.head.level (fars' p).level x) (phases p c.at)
            (subst (λ x. IsPast n.head.level x (fars p).phase) (levels p c.at) r.past);
        heard = λ x. sym (reports p c.at) ∙ r.heard (levels p c.at ∙ x);
      })
      (λ p c r. record {
        past = subst (λ x. IsPast n.head.level (fars p).level x) (sym (phases p c.at))
            (subst (λ x. IsPast n.head.level x (fars' p).phase) (sym (levels p c.at)) r.past);
        heard = λ x. reports p c.at ∙ r.heard (sym (levels p c.at) ∙ x);
      })
