-- The parts of a run, once an event more has happened.
use Rattle.std.proofs.Common.{◌≡◌, ◌≢◌, ℕ, ◌+◌, ◌-◌, ◌<◌, ◌≤◌, ◌^◌, Option, Some, List, [], ◌∷◌, ◌++◌, length, get_or, set, slice_index, refl, sym, ◌∙◌, ap, ap₂, subst, ⊎_elim, arith, get_or-set_same, get_or-set_other, length-set, length-append, replicate, map, false}
use Rattle.std.specs.List.{sum_by}
use Rattle.std.specs.declared.alloc.AllocError.{AllocError}
use Rattle.std.proofs.lemmas.Bool.{cases_eq}
use Rattle.std.specs.Prelude.{Result, Ok, Err, OnOk}
use Rattle.std.specs.Result.{is_err}
use Rattle.std.proofs.lemmas.List.{ext_get_or, get_or-replicate, length-replicate}
use Rattle.std.proofs.lemmas.List.FromFn.{get_or-map-range_with_len, length-map-range_with_len}
use Rattle.ghs_graph.specs.Graph.{Shape, IsGraph}
use Rattle.peer_network.specs.declared.event.Event.{Event}
use Rattle.peer_network.specs.Network.{network_of}
use Rattle.peer_network.proofs.lemmas.Sums.{term_le}
use Rattle.peer_machine.specs.Rules.{Rules, Outcome, Outgoing, messages}
use Rattle.peer_machine.specs.Net.{event_node, opening}
use Rattle.peer_machine.specs.Run as machine
use Rattle.peer_machine.specs.Run.{IsRun}
use Rattle.peer_machine.proofs.lemmas.Events.{happening}
use Rattle.peer_machine.specs.Ledger.{of_kind}
use Rattle.peer_machine.specs.Protocol.{IsBoundedBy, FitsGraphs}
use Rattle.peer_machine.proofs.lemmas.Runs.{run_splits, after_is_net}
use Rattle.peer_net.specs.NetState.{NetState, network, net_of}
use Rattle.peer_runs.specs.Following.{HasHappened}
use Rattle.peer_words.specs.Words.{Words}
use Rattle.peer_lengths.specs.Sends.{sends_of}
use Rattle.peer_parts.specs.Deeds.{Deed, deed_at, deeds, sent_of}
use Rattle.peer_parts.specs.Kept.{AreNodeParts, HasCounted, IsRowOf, counts_at, with_use}
use Rattle.peer_parts.specs.Parts as parts
use Rattle.peer_parts.specs.declared.rows.RowCount.{RowCount}
use Rattle.peer_parts.proofs.AddingUp.{all_sent_of}
use Rattle.peer_parts.proofs.Doing.{deeds_more, node_within, run_done}
use Rattle.peer_parts.proofs.EachRow.{used_more}
use Rattle.peer_parts.proofs.lemmas.Summing.{part_le, sum_other, sum_own}

-- a row is added unless there is an error
pub used_if : (x : Result (Unit {0}) AllocError) (old new : List RowCount) (row : List ℕ) → is_err x ≡ false → OnOk x (new ≡ with_use old row) →
    new ≡ with_use old row
used_if (Ok u) old new row h is = is
used_if (Err e) old new row h is = cc

-- an event has happened
module _ {S M : Type 0} (r : Rules S M) (words : Words S M) (s t : NetState) (e : Event) (ss : Outgoing M) (run : IsRun r (network t) t.trace)
    (h : HasHappened r s e t ss) where
  abbrev deed : Deed M
  deed = deed_at r words (net_of r s) e

  here : IsRun r (network s) (s.trace ++ e ∷ [])
  here = subst (λ (es : List Event). IsRun r (network s) es) h.trace (subst (λ (g : Shape). IsRun r (network_of g) t.trace) h.graph run)

  before : machine.run r (network s) s.trace (opening r (network s)) ≡ Some (net_of r s)
  before =
      after_is_net r s.graph s.trace
      (run_splits r (network s) s.trace (e ∷ []) (opening r (network s)) here.0 here.1 (λ x at _. (x, at)))

  -- there is a deed more
  pub more : deeds r words (network t) t.trace ≡ deeds r words (network s) s.trace ++ deed ∷ []
  more =
      ap (λ (g : Shape). deeds r words (network_of g) t.trace) h.graph ∙ ap (deeds r words (network s)) h.trace
      ∙ deeds_more r words (network s) s.trace e (net_of r s) (net_of r t) before h.event

  sends_are : deed.sends ≡ messages ss
  sends_are =
      let a = h.sends in
      ap (λ (o : Option (Outcome S M)). messages (sends_of o)) a.1 ∙ ap (λ (l : Outgoing M). messages l) (sym a.2)

  counts_sends : (k : ℕ) → sent_of r k deed ≡ of_kind r k (messages ss)
  counts_sends k = ap (of_kind r k) sends_are

  -- all that was sent of a kind is below 2^64
  few : IsGraph t.graph → (bound : Shape → ℕ) → IsBoundedBy r bound → FitsGraphs bound → (k : ℕ) → k < r.kinds → (net_of r t).sent k < 2 ^ 64
  few graph bound bounded fits k lt =
      let after = after_is_net r t.graph t.trace run in
      let a = bounded t.graph (net_of r t) (record { graph = graph; events = t.trace; run = after }) in
      let b = fits t.graph graph in
      let c = term_le r.kinds k (net_of r t).sent lt in
      omega (arith, a, b, c)

  module _ (old : List (List ℕ)) (are : AreNodeParts r words s.graph s.trace old) where
    there : (1 ≤ event_node e) × (event_node e < 1 + s.graph.nodes)
    there = node_within r words (network s) (net_of r s) (net_of r t) e (happening r (network s) (net_of r s) (net_of r t) e h.event)

    low : 1 ≤ event_node e
    low = there.0

    high : event_node e ≤ s.graph.nodes
    high = let v = there.1 in omega (arith, v)

    -- the node's counts are kept
    pub node_kept : event_node e - 1 < length old
    node_kept = let a = are.nodes in let b = low in let c = high in omega (arith, a, b, c)

    pub counts_kept : length (counts_at old (event_node e)) ≡ r.kinds
    counts_kept = are.kinds (event_node e) low high

    -- there is room for what it sends
    pub room : IsGraph t.graph → (bound : Shape → ℕ) → IsBoundedBy r bound → FitsGraphs bound → (k : ℕ) → k < r.kinds →
        slice_index (counts_at old (event_node e)) k + of_kind r k (messages ss) < 2 ^ 64
    room graph bound bounded fits k lt =
        let ds = deeds r words (network s) s.trace in
        let v = event_node e in
        let had = are.each v k low high lt in
        let own = sum_own parts.node_of v (sent_of r k) ds deed refl in
        let most = part_le parts.node_of v (sent_of r k) (ds ++ deed ∷ []) in
        let all : sum_by (sent_of r k) (ds ++ deed ∷ []) ≡ (net_of r t).sent k =
        ap (sum_by (sent_of r k)) (sym more) ∙ all_sent_of r words t.graph t.trace (net_of r t) k (after_is_net r t.graph t.trace run) in
        let one = counts_sends k in
        let less = few graph bound bounded fits k lt in
        omega (arith, had, own, most, all, one, less)

    -- they follow the event
    pub followed : (counts : List ℕ) (new : List (List ℕ)) → HasCounted r (messages ss) (counts_at old (event_node e)) counts →
        new ≡ set old (event_node e - 1) counts → AreNodeParts r words t.graph t.trace new
    followed counts new counted is = rw (h.graph, is) (record {
      nodes = length-set old (event_node e - 1) counts ∙ are.nodes;
      kinds = λ v lo hi. ⊎_elim (own_kinds v) (other_kinds v lo hi) (cases_eq v (event_node e));
      each = λ v k lo hi lt. ⊎_elim (own_each v k lt) (other_each v k lo hi lt) (cases_eq v (event_node e));
    })
      where
        all : deeds r words (network s) t.trace ≡ deeds r words (network s) s.trace ++ deed ∷ []
        all = ap (λ (g : Shape). deeds r words (network_of g) t.trace) (sym h.graph) ∙ more

        hit : get_or (set old (event_node e - 1) counts) (event_node e - 1) [] ≡ counts
        hit = get_or-set_same old (event_node e - 1) counts [] node_kept

        miss : (v : ℕ) → 1 ≤ v → v ≢ event_node e → counts_at (set old (event_node e - 1) counts) v ≡ counts_at old v
        miss v lo ne =
            let first = low in
            get_or-set_other old (event_node e - 1) (v - 1) counts [] (λ z. ne (omega (arith, z, lo, first)))

        own_kinds : (v : ℕ) → v ≡ event_node e → length (counts_at (set old (event_node e - 1) counts) v) ≡ r.kinds
        own_kinds v z = rw (z, hit) (counted.kinds ∙ counts_kept)

        other_kinds : (v : ℕ) → 1 ≤ v → v ≤ s.graph.nodes → v ≢ event_node e →
            length (counts_at (set old (event_node e - 1) counts) v) ≡ r.kinds
        other_kinds v lo hi ne = ap (λ (l : List ℕ). length l) (miss v lo ne) ∙ are.kinds v lo hi

        own_each : (v k : ℕ) → k < r.kinds → v ≡ event_node e →
            slice_index (counts_at (set old (event_node e - 1) counts) v) k ≡ parts.sent_by_node r words s.graph t.trace v k
        own_each v k lt z =
            let ds = deeds r words (network s) s.trace in
            let had = are.each (event_node e) k low high lt in
            let now = counted.each k lt in
            let own = sum_own parts.node_of (event_node e) (sent_of r k) ds deed refl in
            let one = counts_sends k in
            let sum : slice_index counts k ≡ parts.sum_in parts.node_of (event_node e) (sent_of r k) (ds ++ deed ∷ []) =
            omega (arith, had, now, own, one) in
            rw (z, hit, all) sum

        other_each : (v k : ℕ) → 1 ≤ v → v ≤ s.graph.nodes → k < r.kinds → v ≢ event_node e →
            slice_index (counts_at (set old (event_node e - 1) counts) v) k ≡ parts.sent_by_node r words s.graph t.trace v k
        other_each v k lo hi lt ne =
            let ds = deeds r words (network s) s.trace in
            let had = are.each v k lo hi lt in
            let other = sum_other parts.node_of v (sent_of r k) ds deed (λ z. ne (sym z)) in
            ap (λ (l : List ℕ). slice_index l k) (miss v lo ne) ∙ had ∙ sym other
            ∙ ap (parts.sum_in parts.node_of v (sent_of r k)) (sym all)

  -- before it there were fewer deeds than there are events now
  pub deeds_fewer : (n : ℕ) → length t.trace < n → length (deeds r words (network s) s.trace) < n
  deeds_fewer n lt =
      let done = (run_done r words (network s) 0 s.trace (net_of r s) before).count in
      let one : length t.trace ≡ length (s.trace ++ e ∷ []) = ap (λ (es : List Event). length es) h.trace in
      let both = length-append s.trace (e ∷ []) in
      let none : length {A = Deed M} [] ≡ 0 = refl in
      omega (arith, done, one, both, none, lt)

  -- the rows follow it
  pub rows_followed : (old new : List RowCount) (row : List ℕ) → old ≡ parts.row_parts r words s.graph s.trace → IsRowOf r words s e row →
      new ≡ with_use old row → new ≡ parts.row_parts r words t.graph t.trace
  rows_followed old new row are is used =
      let ds = deeds r words (network s) s.trace in
      used ∙ ap₂ (λ (l : List RowCount) (x : List ℕ). with_use l x) are is
      ∙ sym (used_more ds deed)
      ∙ ap (λ (l : List (Deed M)). map (parts.row_count l) (parts.rows_in l)) (sym more)

-- before the first event no node has sent a message
pub none_sent : {S M : Type 0} (r : Rules S M) (words : Words S M) (g : Shape) (all : List (List ℕ)) →
    all ≡ replicate g.nodes (replicate r.kinds 0) → AreNodeParts r words g [] all
unfolding deeds
none_sent r words g all is = rw is (record {
  nodes = length-replicate g.nodes (replicate r.kinds 0);
  kinds = λ v lo hi. ap (λ (l : List ℕ). length l) (at v lo hi) ∙ length-replicate r.kinds 0;
  each = λ v k lo hi lt. ap (λ (l : List ℕ). slice_index l k) (at v lo hi) ∙ get_or-replicate r.kinds k 0 0 lt;
})
  where
    at : (v : ℕ) → 1 ≤ v → v ≤ g.nodes → counts_at (replicate g.nodes (replicate r.kinds 0)) v ≡ replicate r.kinds 0
    at v lo hi = get_or-replicate g.nodes (v - 1) (replicate r.kinds 0) [] (omega (arith, lo, hi))

-- nor has a row applied
pub none_applied : {S M : Type 0} (r : Rules S M) (words : Words S M) (g : Shape) → parts.row_parts r words g [] ≡ []
unfolding deeds
none_applied r words g = refl

-- what is kept is what the definition says
pub nodes_listed : {S M : Type 0} (r : Rules S M) (words : Words S M) (g : Shape) (es : List Event) (all : List (List ℕ)) →
    AreNodeParts r words g es all → all ≡ parts.node_parts r words g es
nodes_listed r words g es all are = ext_get_or [] all (parts.node_parts r words g es) same each
  where
    same : length all ≡ length (parts.node_parts r words g es)
    same = are.nodes ∙ sym (length-map-range_with_len (parts.counts_of r words g es) 1 g.nodes)

    counted : (v : ℕ) → 1 ≤ v → v ≤ g.nodes → (k : ℕ) → k < length (counts_at all v) →
        get_or (counts_at all v) k 0 ≡ get_or (parts.counts_of r words g es v) k 0
    counted v lo hi k lt =
        let many = are.kinds v lo hi in
        let small : k < r.kinds = omega (arith, lt, many) in
        let at : 0 + k ≡ k = omega arith in
        are.each v k lo hi small ∙ sym (get_or-map-range_with_len (λ j. parts.sent_by_node r words g es v j) 0 r.kinds k k 0 small at)

    listed : (v : ℕ) → 1 ≤ v → v ≤ g.nodes → counts_at all v ≡ parts.counts_of r words g es v
    listed v lo hi =
        ext_get_or 0 (counts_at all v) (parts.counts_of r words g es v)
        (are.kinds v lo hi ∙ sym (length-map-range_with_len (λ k. parts.sent_by_node r words g es v k) 0 r.kinds))
        (counted v lo hi)

    each : (i : ℕ) → i < length all → get_or all i [] ≡ get_or (parts.node_parts r words g es) i []
    each i lt =
        let many = are.nodes in
        let few : i < g.nodes = omega (arith, lt, many) in
        let place : i ≡ 1 + i - 1 = omega arith in
        ap (λ j. get_or all j []) place ∙ listed (1 + i) (omega arith) (omega (arith, few))
        ∙ sym (get_or-map-range_with_len (parts.counts_of r words g es) 1 g.nodes i (1 + i) [] few refl)
