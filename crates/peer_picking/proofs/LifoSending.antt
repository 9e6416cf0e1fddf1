-- Ranks that are kept, message by message.
use Rattle.std.proofs.Common.{◌≡◌, ◌≢◌, ℕ, suc, ◌+◌, ◌^◌, ◌<◌, ◌≤◌, ◌&&◌, Bool, true, false, Some, nat_lt, List, [], ◌∷◌, ◌++◌, length, drop, drop-cons, get_or, set, refl, sym, ◌∙◌, ap, subst, subst₂, ◌⊎◌, inl, inr, ⊎_elim, arith, lt-ltb, ltb-true, length-set, length-append, get_or-set_same, get_or-set_other}
use Rattle.std.proofs.lemmas.Bool.{and_parts, cases_eq}
use Rattle.std.proofs.lemmas.Option.{same_Some}
use Rattle.std.proofs.Math.ListN.{drop_of_length-le}
use Rattle.ghs_graph.specs.Graph.{Shape, IsGraph}
use Rattle.peer_network.specs.declared.event.Event.{Event}
use Rattle.peer_network.specs.declared.event.Event.TheVariants as events
use Rattle.peer_network.specs.Network.{At, Network, far, far_port, is_port, network_of}
use Rattle.peer_network.proofs.lemmas.Events.{is_port_of}
use Rattle.peer_network.proofs.lemmas.Graphs.{graph_wired}
use Rattle.peer_network.proofs.lemmas.Updates.{one_place, put_at_hit, put_at_miss}
use Rattle.peer_network.proofs.lemmas.Wired.{IsWired}
use Rattle.peer_index.specs.Places.{HasPlace, far_take, place}
use Rattle.peer_index.proofs.lemmas.Places.{of_own_node, place_apart, place_within}
use Rattle.peer_machine.specs.Rules.{Rules, Outcome, Outgoing}
use Rattle.peer_machine.specs.Net.{Net, are_on_ports, event_node, is_lawful, opening, put, send, send_all, take_first}
use Rattle.peer_machine.specs.Run.{IsRun}
use Rattle.peer_machine.specs.Steps.{Happens, Took, Woke}
use Rattle.peer_machine.proofs.lemmas.Events.{happening}
use Rattle.peer_machine.proofs.lemmas.Runs.{run_splits}
use Rattle.peer_net.specs.NetState.{NetState, delivery, net_of, network, work_at}
use Rattle.peer_runs.specs.WorldState.{WorldState}
use Rattle.peer_picking.specs.LifoKept.{AreLatestBefore, AreRanks, AreRanksBut, IsFor, LatestState, last_to, rank_if, rank_in, with_one}
use Rattle.peer_picking.specs.Newest.{Newest, newest_of, sent, sent_on}
use Rattle.peer_picking.specs.LifoRuns.{newest_in}
use Rattle.peer_picking.proofs.Counting.{newest_of_more, sent_count}

-- a number more at the far end of a port
pub for_one : (g : Network) (v p : ℕ) (x : LatestState) → IsFor g x → IsFor g (with_one g v p x)
for_one g v p x h = record { bases = h.bases; many = length-set x.ranks (place g (far_take g v p)) (suc x.count) ∙ h.many; few = h.few }

-- an event is another, or the same
one_event : (g : Network) (e f : Event) → HasPlace g e → HasPlace g f → (e ≡ f) ⊎ (e ≢ f)
one_event g e f one two = ⊎_elim
    (λ same. inl (place_apart g e f one two same))
    (λ ne. inr (λ z. ne (ap (place g) z)))
    (cases_eq (place g e) (place g f))

module _ {S M : Type 0} (r : Rules S M) (g : Network) where
  -- these messages of node v are still to go out from a net, whose ranks are kept
  pub record IsLeft (v : ℕ) (e : Event) (ss : Outgoing M) (w' : Net S M) (n' : Newest) (x : LatestState) : Type 0 where
    pub net : Net S M
    pub newest : Newest
    pub ranks : AreRanksBut g e net newest x
    pub net_left : send_all r g v ss net ≡ w'
    pub newest_left : sent g v ss newest ≡ n'
    pub on_ports : are_on_ports r g v ss ≡ true

  -- before the first
  pub left_begins : (w w' : Net S M) (e : Event) (ss : Outgoing M) (o : Outcome S M) (n : Newest) (x : LatestState) → Happens r g w e w' →
      r.reaction (w.node (event_node e)) (work_at w e) ≡ Some o → ss ≡ o.sends → AreRanks g w n x →
      IsLeft (event_node e) e ss w' (sent g (event_node e) ss n) x
  left_begins w _ _ ss o n x (Woke v a lo hi s h t) is out ranks =
      let same : ss ≡ a.sends = out ∙ ap (λ (z : Outcome S M). z.sends) (same_Some o a (sym is ∙ h)) in
      record {
        net = record w { node = put w.node v a.state };
        newest = n;
        ranks = record { is_for = ranks.is_for; count = ranks.count; rank = rank; own = ranks.rank (events.Wake v) (lo, hi) };
        net_left = ap (λ (l : Outgoing M). send_all r g v l (record w { node = put w.node v a.state })) same;
        newest_left = refl;
        on_ports = ap (are_on_ports r g v) same ∙ t;
      }
    where
      rank : (f : Event) → HasPlace g f → f ≢ events.Wake v →
          get_or x.ranks (place g f) 0 ≡ rank_in (record w { node = put w.node v a.state }) n f
      rank (events.Wake u) there ne = ranks.rank (events.Wake u) there
      rank (events.Take u q) there ne = ranks.rank (events.Take u q) there
  left_begins w _ _ ss o n x (Took v p m ms a at q h t) is out ranks =
      let rule : r.reaction (w.node v) (work_at w (events.Take v p)) ≡ Some a =
      ap (λ (l : List M). r.reaction (w.node v) (delivery p l)) q ∙ h in
      let same : ss ≡ a.sends = out ∙ ap (λ (z : Outcome S M). z.sends) (same_Some o a (sym is ∙ rule)) in
      record {
        net = record (take_first r g v p m ms w) { node = put w.node v a.state };
        newest = n;
        ranks = record {
          is_for = ranks.is_for;
          count = ranks.count;
          rank = rank;
          own =
              ranks.rank (events.Take v p) at
              ∙ ap (λ (b : Bool). rank_if b (n.last v p)) (ap (λ (l : List M). nat_lt 0 (length l)) q ∙ lt-ltb 0 (length (m ∷ ms)) (omega arith));
        };
        net_left = ap (λ (l : Outgoing M). send_all r g v l (record (take_first r g v p m ms w) { node = put w.node v a.state })) same;
        newest_left = refl;
        on_ports = ap (are_on_ports r g v) same ∙ t;
      }
    where
      rank : (f : Event) → HasPlace g f → f ≢ events.Take v p →
          get_or x.ranks (place g f) 0 ≡ rank_in (record (take_first r g v p m ms w) { node = put w.node v a.state }) n f
      rank (events.Wake u) there ne = ranks.rank (events.Wake u) there
      rank (events.Take u i) there ne =
          ranks.rank (events.Take u i) there
          ∙ ap (λ (l : List M). rank_if (nat_lt 0 (length l)) (n.last u i))
          (sym (put_at_miss w.queue v p u i _ (λ z. ne (ap (λ k. events.Take k i) z.0 ∙ ap (events.Take v) z.1))))

  module _ (wired : IsWired g) (v : ℕ) (low : 1 ≤ v) (high : v ≤ g.count) (e : Event) (has : HasPlace g e) (w' : Net S M) (n' : Newest) where
    -- the port of the next one
    pub left_port : (s : ℕ × M) (ss : Outgoing M) (x : LatestState) → IsLeft v e (s ∷ ss) w' n' x → At g v s.0
    left_port s ss x h = record { some = low; node = high; port = ltb-true s.0 _ (and_parts _ _ h.on_ports).0 }

    -- and its number
    pub left_room : (s : ℕ × M) (ss : Outgoing M) (x : LatestState) → n'.count < 2 ^ 64 → IsLeft v e (s ∷ ss) w' n' x → x.count + 1 < 2 ^ 64
    left_room s ss x few h =
        let count = h.ranks.count in
        let all = sent_count g v (s ∷ ss) h.newest in
        let end : (sent g v (s ∷ ss) h.newest).count ≡ n'.count = ap (λ (n : Newest). n.count) h.newest_left in
        omega (arith, count, all, end, few)

    -- once it is out
    pub left_less : (s : ℕ × M) (ss : Outgoing M) (x : LatestState) → IsLeft v e (s ∷ ss) w' n' x → IsLeft v e ss w' n' (with_one g v s.0 x)
    left_less s ss x h = record {
      net = send r g v h.net s;
      newest = sent_on g v s.0 h.newest;
      ranks = record {
        is_for = for_one g v s.0 x h.ranks.is_for;
        count = ap suc h.ranks.count;
        rank = rank;
        own = own e has h.ranks.own;
      };
      net_left = h.net_left;
      newest_left = h.newest_left;
      on_ports = (and_parts _ _ h.on_ports).1;
    }
      where
        a : ℕ
        a = far g v s.0

        b : ℕ
        b = far_port g v s.0

        there : At g a b
        there = wired.there v s.0 (left_port s ss x h)

        hit : get_or (set x.ranks (place g (events.Take a b)) (suc x.count)) (place g (events.Take a b)) 0 ≡ suc x.count
        hit =
            let within = place_within g (events.Take a b) there in
            let many = h.ranks.is_for.many in
            get_or-set_same x.ranks (place g (events.Take a b)) (suc x.count) 0 (omega (arith, within, many))

        miss : (f : Event) → HasPlace g f → f ≢ events.Take a b →
            get_or (set x.ranks (place g (events.Take a b)) (suc x.count)) (place g f) 0 ≡ get_or x.ranks (place g f) 0
        miss f here ne =
            get_or-set_other x.ranks (place g (events.Take a b)) (place g f) (suc x.count) 0
            (λ z. ne (place_apart g f (events.Take a b) here there z))

        -- a message waits where it has come
        arrived : nat_lt 0 (length (h.net.queue a b ++ s.1 ∷ [])) ≡ true
        arrived = let l = length-append (h.net.queue a b) (s.1 ∷ []) in lt-ltb 0 _ (omega (arith, l))

        at_far : (u q : ℕ) → (u ≡ a) × (q ≡ b) → (last_is : last_to (sent_on g v s.0 h.newest) (events.Take u q) ≡ suc h.newest.count) →
            get_or (with_one g v s.0 x).ranks (place g (events.Take u q)) 0 ≡ last_to (sent_on g v s.0 h.newest) (events.Take u q)
        at_far u q z last_is =
            ap (λ (f : Event). get_or (with_one g v s.0 x).ranks (place g f) 0) (ap (λ k. events.Take k q) z.0 ∙ ap (events.Take a) z.1)
            ∙ hit ∙ ap suc h.ranks.count ∙ sym last_is

        rank : (f : Event) → HasPlace g f → f ≢ e →
            get_or (with_one g v s.0 x).ranks (place g f) 0 ≡ rank_in (send r g v h.net s) (sent_on g v s.0 h.newest) f
        rank (events.Wake u) here ne = miss (events.Wake u) here (λ z. cc z) ∙ h.ranks.rank (events.Wake u) here ne
        rank (events.Take u q) here ne = ⊎_elim
            (λ z.
            let last_is = put_at_hit h.newest.last a b u q (suc h.newest.count) z.0 z.1 in
            let queue = put_at_hit h.net.queue a b u q (h.net.queue a b ++ s.1 ∷ []) z.0 z.1 in
            at_far u q z last_is
            ∙ sym (ap (λ (t : Bool). rank_if t (last_to (sent_on g v s.0 h.newest) (events.Take u q)))
            (ap (λ (l : List M). nat_lt 0 (length l)) queue ∙ arrived)))
            (λ far_off.
            let last_is = put_at_miss h.newest.last a b u q (suc h.newest.count) far_off in
            let queue = put_at_miss h.net.queue a b u q (h.net.queue a b ++ s.1 ∷ []) far_off in
            miss (events.Take u q) here (λ z. far_off (cc z, cc z)) ∙ h.ranks.rank (events.Take u q) here ne
            ∙ sym (ap (λ (t : ℕ). rank_if (nat_lt 0 (length ((send r g v h.net s).queue u q))) t) last_is
            ∙ ap (λ (l : List M). rank_if (nat_lt 0 (length l)) (h.newest.last u q)) queue))
            (one_place a b u q)

        own : (f : Event) → HasPlace g f → get_or x.ranks (place g f) 0 ≡ last_to h.newest f →
            get_or (with_one g v s.0 x).ranks (place g f) 0 ≡ last_to (sent_on g v s.0 h.newest) f
        own (events.Wake u) here was = miss (events.Wake u) here (λ z. cc z) ∙ was
        own (events.Take u q) here was = ⊎_elim
            (λ z. at_far u q z (put_at_hit h.newest.last a b u q (suc h.newest.count) z.0 z.1))
            (λ far_off.
            miss (events.Take u q) here (λ z. far_off (cc z, cc z)) ∙ was ∙ sym (put_at_miss h.newest.last a b u q (suc h.newest.count) far_off))
            (one_place a b u q)

    -- once all are out
    pub left_none : (x : LatestState) → IsLeft v e [] w' n' x → AreRanksBut g e w' n' x
    left_none x h =
        subst (λ (n : Newest). AreRanksBut g e w' n x) h.newest_left (subst (λ (w : Net S M). AreRanksBut g e w h.newest x) h.net_left h.ranks)

  module _ (e : Event) (has : HasPlace g e) (w : Net S M) (n : Newest) (x : LatestState) (h : AreRanksBut g e w n x) where
    own_rank : (f : Event) → HasPlace g f → is_lawful r g w f ≡ true → last_to n f ≡ rank_in w n f
    own_rank (events.Wake u) here t = refl
    own_rank (events.Take u q) here t = sym (ap (λ (b : Bool). rank_if b (n.last u q)) (and_parts (is_port g u q) _ t).1)

    -- where a message waits for the event too
    pub ranks_kept : is_lawful r g w e ≡ true → AreRanks g w n x
    ranks_kept t = record {
      is_for = h.is_for;
      count = h.count;
      rank = λ f here. ⊎_elim
          (λ z. subst (λ k. get_or x.ranks (place g k) 0 ≡ rank_in w n k) z (h.own ∙ own_rank e has t))
          (λ ne. h.rank f here (λ z. ne (sym z)))
          (one_event g e f has here);
    }

    no_rank : (f : Event) → HasPlace g f → is_lawful r g w f ≡ false → rank_in w n f ≡ 0
    no_rank (events.Wake u) here t = refl
    no_rank (events.Take u q) here t =
        ap (λ (b : Bool). rank_if b (n.last u q))
        (sym (ap (λ (b : Bool). b && nat_lt 0 (length (w.queue u q))) (is_port_of g u q here)) ∙ t)

    -- and where none does
    pub ranks_without : is_lawful r g w e ≡ false → AreRanks g w n (record x { ranks = set x.ranks (place g e) 0 })
    ranks_without t = record {
      is_for = record { bases = h.is_for.bases; many = length-set x.ranks (place g e) 0 ∙ h.is_for.many; few = h.is_for.few };
      count = h.count;
      rank = λ f here. ⊎_elim
          (λ z.
          let within = place_within g e has in
          let many = h.is_for.many in
          subst (λ k. get_or (set x.ranks (place g e) 0) (place g k) 0 ≡ rank_in w n k) z
          (get_or-set_same x.ranks (place g e) 0 0 (omega (arith, within, many)) ∙ sym (no_rank e has t)))
          (λ ne.
          get_or-set_other x.ranks (place g e) (place g f) 0 0 (λ z. ne (place_apart g e f has here (sym z)))
          ∙ h.rank f here (λ z. ne (sym z)))
          (one_event g e f has here);
    }

-- a list that has another element at a place
pub next_left : {A : Type 0} (i : ℕ) (ss : List A) (s : A) → i < length ss → s ≡ get_or ss i s → drop i ss ≡ s ∷ drop (i + 1) ss
next_left {A} i ss s lt is =
    let up : suc i ≡ i + 1 = omega arith in
    drop-cons ss i s lt ∙ ap (λ (y : A). y ∷ drop (suc i) ss) (sym is) ∙ ap (λ (k : ℕ). s ∷ drop k ss) up

-- What an event leaves of what is kept.
module _ {S M : Type 0} (r : Rules S M) (t : WorldState) (e : Event) (ss : Outgoing M) (x : LatestState) (h : AreLatestBefore r t e ss x)
    (k : IsRun r (network t.net) t.net.trace) where
  abbrev s : NetState
  s = h.before.net

  run_before : IsRun r (network s) s.trace
  run_before =
      let run = subst₂ (λ (g : Shape) (es : List Event). IsRun r (network_of g) es) h.played.graph h.played.trace k in
      run_splits r (network s) s.trace (e ∷ []) (opening r (network s)) run.0 run.1 (λ y a b. (y, a))

  newest_is : newest_of r (network s) t.net.trace ≡ sent (network s) (event_node e) ss (newest_in r s)
  newest_is =
      ap (λ (es : List Event). newest_of r (network s) es) h.played.trace
      ∙ newest_of_more r s e h.sends.0 (net_of r t.net) run_before h.played.event h.sends.1
      ∙ ap (λ (l : Outgoing M). sent (network s) (event_node e) l (newest_in r s)) (sym h.sends.2)

  here : IsLeft r (network s) (event_node e) e ss (net_of r t.net) (newest_of r (network s) t.net.trace) x
  here =
      subst (λ (n : Newest). IsLeft r (network s) (event_node e) e ss (net_of r t.net) n x) (sym newest_is)
      (left_begins r (network s) (net_of r s) (net_of r t.net) e ss h.sends.0 (newest_in r s) x
      (happening r (network s) (net_of r s) (net_of r t.net) e h.played.event) h.sends.1 h.sends.2 h.latest)

  pub left_before : IsLeft r (network t.net) (event_node e) e ss (net_of r t.net) (newest_in r t.net) x
  left_before =
      subst (λ (g : Shape). IsLeft r (network_of g) (event_node e) e ss (net_of r t.net) (newest_of r (network_of g) t.net.trace) x)
      (sym h.played.graph) here

-- The same, of what the node of an event has sent: message i is next.
module _ {S M : Type 0} (r : Rules S M) (t : NetState) (ok : IsGraph t.graph) (e : Event) (has : HasPlace (network t) e) (ss : Outgoing M) where
  abbrev pub Left : ℕ → LatestState → Type 0
  Left i x = IsLeft r (network t) (event_node e) e (drop i ss) (net_of r t) (newest_in r t) x

  own_node : (1 ≤ event_node e) × (event_node e ≤ t.graph.nodes)
  own_node = of_own_node (network t) e has

  module _ (i : ℕ) (s : ℕ × M) (x : LatestState) (lt : i < length ss) (is : s ≡ get_or ss i s) (h : Left i x) where
    split : IsLeft r (network t) (event_node e) e (s ∷ drop (i + 1) ss) (net_of r t) (newest_in r t) x
    split =
        subst (λ (l : Outgoing M). IsLeft r (network t) (event_node e) e l (net_of r t) (newest_in r t) x) (next_left i ss s lt is) h

    pub next_port : At (network t) (event_node e) s.0
    next_port =
        left_port r (network t) (graph_wired t.graph ok) (event_node e) own_node.0 own_node.1 e has (net_of r t) (newest_in r t) s (drop (i + 1) ss) x
        split

    pub next_room : (newest_in r t).count < 2 ^ 64 → x.count + 1 < 2 ^ 64
    next_room few =
        left_room r (network t) (graph_wired t.graph ok) (event_node e) own_node.0 own_node.1 e has (net_of r t) (newest_in r t) s (drop (i + 1) ss) x
        few split

    pub next_less : Left (i + 1) (with_one (network t) (event_node e) s.0 x)
    next_less =
        left_less r (network t) (graph_wired t.graph ok) (event_node e) own_node.0 own_node.1 e has (net_of r t) (newest_in r t) s (drop (i + 1) ss) x
        split

  -- once all are out
  pub none_left : (i : ℕ) (x : LatestState) → length ss ≤ i → Left i x → AreRanksBut (network t) e (net_of r t) (newest_in r t) x
  none_left i x end h =
      left_none r (network t) (graph_wired t.graph ok) (event_node e) own_node.0 own_node.1 e has (net_of r t) (newest_in r t) x
      (subst (λ (l : Outgoing M). IsLeft r (network t) (event_node e) e l (net_of r t) (newest_in r t) x) (drop_of_length-le ss end) h)
