-- What a world from which nothing is out finds, is the next in turn.
use Rattle.std.proofs.Common.{◌≡◌, ◌≢◌, ℕ, suc, ◌+◌, ◌-◌, ◌≤◌, Bool, true, false, ◌&&◌, not, nat_lt, Option, Some, None, List, [], ◌∷◌, ◌++◌, length, take, filter, refl, sym, ◌∙◌, ap, subst, inl, ⊎_elim, arith}
use Rattle.std.specs.List.{find, range_with_len, slice_get}
use Rattle.std.specs.Prelude.{MatchOption}
use Rattle.std.proofs.lemmas.Bool.{and_from, and_parts, cases_Bool, ltb-false, ltb-true}
use Rattle.std.proofs.lemmas.List.{take_all}
use Rattle.std.proofs.lemmas.Option.{get_or_from_slice_get, slice_get_within}
use Rattle.std.proofs.Math.Path.{fun_ext}
use Rattle.std.proofs.Math.Seq.{take-suc}
use Rattle.ghs_graph.specs.Graph.{Shape, IsGraph}
use Rattle.ghs_node.specs.declared.message.Phase.TheVariants.{Sleeping}
use Rattle.peer_network.specs.declared.event.Event.{Event}
use Rattle.peer_network.specs.declared.event.Event.TheVariants.{Wake, Take}
use Rattle.peer_network.specs.Network.{network_of}
use Rattle.peer_network.proofs.lemmas.Graphs.{graph_few}
use Rattle.ghs_core.specs.NetState.{event_node, network}
use Rattle.peer_index.specs.Places.{HasPlace, all_events, place}
use Rattle.ghs_protocol.specs.Run.{IsRun, net_after}
use Rattle.ghs_world.specs.Outs.{Outs, is_out}
use Rattle.ghs_world.specs.Ready.{has_lawful, has_ready, in_turn, is_ready, next_node_of, next_of, ready_events}
use Rattle.ghs_world.specs.WorldState.{WorldState, home, may_happen, wakers}
use Rattle.ghs_orders.proofs.Happened.{last_there}
use Rattle.ghs_orders.proofs.Nexts.{FromNode, event_found, has_one, in_order, node_found, node_none, none_then, nothing_found}
use Rattle.ghs_orders.proofs.Picked.{behind_more}
use Rattle.ghs_orders.specs.Worlds.{IsNextFrom, NoneIsNext}
use Rattle.ghs_orders.specs.Turns.{place_behind, ports_done}

module _ (s : WorldState) (out : s.outs ≡ []) where
  -- what is ready is what is lawful
  ready_is : (e : Event) → is_ready s e ≡ may_happen s e
  ready_is e = ap (λ (o : Outs). not (is_out o (event_node e)) && may_happen s e) out

  node_is : (v : ℕ) → has_ready s v ≡ has_lawful s v
  node_is v = ap (λ (o : Outs). not (is_out o v) && has_lawful s v) out

  -- of a node, and of all nodes
  of_node : (v low : ℕ) → next_of s v low ≡ find (may_happen s) (in_order (wakers s) (network s.net) (home s) v low)
  unfolding next_of
  of_node v low = ap (λ (p : Event → Bool). find p (in_turn (network s.net) v low)) (fun_ext ready_is)

  of_nodes : (v : ℕ) → next_node_of s v ≡
      find (has_one (wakers s) (network s.net) (home s)) (range_with_len v (s.net.graph.nodes + 1 - v) ++ range_with_len 1 s.net.graph.nodes)
  unfolding next_node_of
  of_nodes v =
      ap (λ (q : ℕ → Bool). find q (range_with_len v (s.net.graph.nodes + 1 - v) ++ range_with_len 1 s.net.graph.nodes)) (fun_ext node_is)

  -- a lawful event is ready
  pub ready : (e : Event) → may_happen s e ≡ true → is_ready s e ≡ true
  ready e lawful = and_from (not (is_out s.outs (event_node e))) (may_happen s e) (ap (λ (o : Outs). not (is_out o (event_node e))) out) lawful

  -- the node that is found from one on, and its first event
  pub from_node : (v : ℕ) → 1 ≤ v → (o : Option ℕ) → o ≡ next_node_of s v → (u : ℕ) → o ≡ Some u →
      FromNode (wakers s) (network s.net) (home s) v u
  from_node v lo o is u some = node_found (wakers s) (network s.net) (home s) v lo o (is ∙ of_nodes v) u some

  pub from_node_next : (v : ℕ) → 1 ≤ v → (o : Option ℕ) → o ≡ next_node_of s v → (u : ℕ) → o ≡ Some u →
      (r : Option Event) → r ≡ next_of s u 0 → MatchOption r (NoneIsNext s) (IsNextFrom s (place (network s.net) (Wake v)))
  from_node_next v lo o is u some r event = (from_node v lo o is u some).next r (event ∙ of_node u 0)

  pub from_no_node : (v : ℕ) (o : Option ℕ) → o ≡ next_node_of s v → o ≡ None → NoneIsNext s
  from_no_node v o is none = node_none (wakers s) (network s.net) (home s) v o (is ∙ of_nodes v) none

  -- behind an event of a node that is awake
  module _ (last : Event) (has : HasPlace (network s.net) last) (awake : ((home s).node (event_node last)).head.phase ≢ Sleeping) (v low : ℕ)
      (node : v ≡ event_node last) (ports : low ≡ ports_done last) where
    same_next : next_of s v low ≡ find (may_happen s) (in_order (wakers s) (network s.net) (home s) (event_node last) (ports_done last))
    same_next = rw (node, ports) (of_node (event_node last) (ports_done last))

    pub behind_place : (o : Option Event) → o ≡ next_of s v low → (e : Event) → o ≡ Some e → HasPlace (network s.net) e
    behind_place o is e some = (event_found (wakers s) (network s.net) (home s) last has awake o (is ∙ same_next) e some).0

    -- the event that is found stands behind it, and is next
    pub behind_found : (o : Option Event) → o ≡ next_of s v low → (e : Event) → o ≡ Some e →
        nat_lt (place (network s.net) last) (place (network s.net) e) ≡ true → IsNextFrom s (suc (place (network s.net) last)) e
    behind_found o is e some t =
        inl ((event_found (wakers s) (network s.net) (home s) last has awake o (is ∙ same_next) e some).1
        (ltb-true (place (network s.net) last) (place (network s.net) e) t))

    -- or what is next from the next node on is
    abbrev Next : ℕ → Option Event → Type 0
    Next from r = MatchOption r (NoneIsNext s) (IsNextFrom s from)

    pub behind_before : (o : Option Event) → o ≡ next_of s v low → (e : Event) → o ≡ Some e →
        nat_lt (place (network s.net) last) (place (network s.net) e) ≡ false →
        (r : Option Event) → Next (place (network s.net) (Wake (v + 1))) r → Next (suc (place (network s.net) last)) r
    behind_before o is e some f r next =
        none_then (wakers s) (network s.net) (home s) last has awake
        ((event_found (wakers s) (network s.net) (home s) last has awake o (is ∙ same_next) e some).2
        (ltb-false (place (network s.net) last) (place (network s.net) e) f)) r
        (subst (λ x. Next (place (network s.net) (Wake (x + 1))) r) node next)

    pub behind_none : (o : Option Event) → o ≡ next_of s v low → o ≡ None →
        (r : Option Event) → Next (place (network s.net) (Wake (v + 1))) r → Next (suc (place (network s.net) last)) r
    behind_none o is none r next =
        none_then (wakers s) (network s.net) (home s) last has awake
        (nothing_found (wakers s) (network s.net) (home s) last has awake o (is ∙ same_next) none) r
        (subst (λ x. Next (place (network s.net) (Wake (x + 1))) r) node next)

  -- something is next where something is ready
  pub some_next : (ready_events s ≡ [] → ⊥) → NoneIsNext s → ⊥
  some_next some none = some (none_passes (all_events (network s.net)))
    where
      not_ready : (e : Event) → is_ready s e ≡ false
      not_ready e = ⊎_elim
          (λ (t : is_ready s e ≡ true).
          absurd (let lt = none e (and_parts (not (is_out s.outs (event_node e))) (may_happen s e) t).1 in omega (arith, lt)))
          (λ f. f)
          (cases_Bool (is_ready s e))

      none_passes : (es : List Event) → filter (is_ready s) es ≡ []
      none_passes [] = refl
      none_passes (e ∷ es) = rw (not_ready e) (none_passes es)

-- The last event of a world's trace.
module _ (s : WorldState) (graph : IsGraph s.net.graph) (is_run : IsRun (network s.net) s.net.trace) (last : Event)
    (is : Some last ≡ slice_get s.net.trace (length s.net.trace - 1)) where
  -- the trace is what was before it, and this one
  split : s.net.trace ≡ take (length s.net.trace - 1) s.net.trace ++ last ∷ []
  split =
      let lt = slice_get_within s.net.trace (length s.net.trace - 1) last (sym is) in
      let up : suc (length s.net.trace - 1) ≡ length s.net.trace = omega (arith, lt) in
      sym (take_all (length s.net.trace) s.net.trace (omega arith)) ∙ ap (λ n. take n s.net.trace) (sym up)
      ∙ take-suc s.net.trace (length s.net.trace - 1) last lt
      ∙ ap (λ (x : Event). take (length s.net.trace - 1) s.net.trace ++ x ∷ [])
      (get_or_from_slice_get s.net.trace (length s.net.trace - 1) last last (sym is))

  there : HasPlace (network s.net) last ×
      (((net_after s.net.graph (take (length s.net.trace - 1) s.net.trace ++ last ∷ [])).node (event_node last)).head.phase ≢ Sleeping)
  there = last_there s.net.graph graph (take (length s.net.trace - 1) s.net.trace) last (subst (IsRun (network s.net)) split is_run)

  pub last_place : HasPlace (network s.net) last
  last_place = there.0

  pub last_awake : ((home s).node (event_node last)).head.phase ≢ Sleeping
  last_awake = subst (λ (es : List Event). ((net_after s.net.graph es).node (event_node last)).head.phase ≢ Sleeping) (sym split) there.1

  pub last_behind : suc (place (network s.net) last) ≡ place_behind (network s.net) s.net.trace
  last_behind = sym (ap (place_behind (network s.net)) split ∙ behind_more (network s.net) 0 (take (length s.net.trace - 1) s.net.trace) last)

-- what is behind an event fits a word
pub few_done : (g : Shape) → IsGraph g → (e : Event) → HasPlace (network_of g) e → ports_done e ≤ 8388608
few_done g graph (Wake v) h = omega arith
few_done g graph (Take v p) h = let few = graph_few g graph v in let lt = h.port in omega (arith, few, lt)

pub node_within : (g : Shape) → IsGraph g → (e : Event) → HasPlace (network_of g) e → event_node e ≤ 8388608
node_within g graph (Wake v) h = let few = graph.nodes in let hi = h.1 in omega (arith, few, hi)
node_within g graph (Take v p) h = let few = graph.nodes in let hi = h.node in omega (arith, few, hi)
