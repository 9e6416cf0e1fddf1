-- Counts of a round's events, and the index of those that are counted.
use Rattle.std.proofs.Common.{◌≡◌, ◌≢◌, ℕ, suc, ◌+◌, ◌-◌, ◌*◌, ◌≤◌, ◌⊎◌, inl, inr, true, false, nat_lt, [], ◌∷◌, length, replicate, refl, sym, ◌∙◌, ap, subst, ⊎_elim, arith, length-set, get_or-set_same, get_or-set_other, ltb-true}
use Rattle.std.specs.List.{Contains}
use Rattle.std.proofs.lemmas.List.{get_or-replicate, length-replicate}
use Rattle.std.proofs.lemmas.Bool.{and_parts, cases_eq}
use Rattle.ghs_graph.specs.Graph.{Shape, IsGraph}
use Rattle.ghs_graph.proofs.lemmas.Members.{first_in}
use Rattle.peer_network.specs.declared.event.Event.{Event}
use Rattle.peer_network.specs.declared.event.Event.TheVariants.{Wake, Take}
use Rattle.peer_network.specs.Events.{event_node}
use Rattle.peer_network.specs.Network.{At, Network, far, far_port, network_of}
use Rattle.peer_network.specs.Updates.{put_at}
use Rattle.peer_network.proofs.lemmas.Graphs.{twice_links}
use Rattle.peer_network.proofs.lemmas.Updates.{one_place, put_at_hit, put_at_miss}
use Rattle.peer_network.proofs.lemmas.Wired.{IsWired}
use Rattle.peer_index.specs.Index.{IndexState, IsFor, IsIndexOf}
use Rattle.peer_index.specs.Places.{HasPlace, all_events, far_take, place}
use Rattle.peer_index.proofs.lemmas.Marks.{but_of, but_set, is_for, of_but}
use Rattle.peer_index.proofs.lemmas.Places.{length_to, place_apart, place_within}
use Rattle.peer_machine.specs.Rules.{Outgoing, Rules}
use Rattle.peer_machine.specs.Net.{are_on_ports}
use Rattle.peer_picking.specs.Kept.{IsRound, RoundState, count_of, sent_to, taken_in, with_count, without}
use Rattle.peer_picking.proofs.Counted.{adds, took}

-- a graph has so many events
pub many_events : (g : Shape) → IsGraph g → g.nodes + 2 * length g.keys ≡ length (all_events (network_of g))
many_events g ok = let all = length_to (network_of g) g.nodes in let twice = twice_links g ok in omega (arith, all, twice)

module _ (g : Network) where
  -- another event has another place
  apart : (e f : Event) → HasPlace g e → HasPlace g f → f ≢ e → place g f ≢ place g e
  apart e f has there ne same = ne (place_apart g f e there has same)

  pub count_here : (x : RoundState) (e : Event) (n : ℕ) → IsRound g x → HasPlace g e → count_of g (with_count g e n x) e ≡ n
  count_here x e n h has =
      let within = place_within g e has in
      let many = h.many in
      get_or-set_same x.counts (place g e) n 0 (omega (arith, within, many))

  pub count_there : (x : RoundState) (e f : Event) (n : ℕ) → HasPlace g e → HasPlace g f → f ≢ e →
      count_of g (with_count g e n x) f ≡ count_of g x f
  count_there x e f n has there ne = get_or-set_other x.counts (place g e) (place g f) n 0 (apart e f has there ne)

  -- a round with another count is one
  pub round_with : (x : RoundState) (e : Event) (n : ℕ) → IsRound g x → HasPlace g e → IsRound g (with_count g e n x)
  round_with x e n h has = record {
    many = length-set x.counts (place g e) n ∙ h.many;
    index =
        of_but g (λ f. nat_lt 0 (count_of g (with_count g e n x) f)) _
        (but_set g (λ f. nat_lt 0 (count_of g (with_count g e n x) f)) e [] x.index (nat_lt 0 n)
        (but_of g (λ f. nat_lt 0 (count_of g x f)) (λ f. nat_lt 0 (count_of g (with_count g e n x) f)) (e ∷ []) x.index h.index
        (λ f there none. ap (nat_lt 0) (count_there x e f n has there (λ same. none (subst (λ (z : Event). Contains (e ∷ []) z) (sym same)
        (first_in e []))))))
        has (ap (nat_lt 0) (sym (count_here x e n h has))));
  }

  -- where none is counted
  pub none_counted : (n : ℕ) (index : IndexState) (e : Event) → n ≡ length (all_events g) → HasPlace g e →
      count_of g (record { counts = replicate n 0; index = index }) e ≡ 0
  none_counted n index e many has = let within = place_within g e has in get_or-replicate n (place g e) 0 0 (omega (arith, within, many))

  pub none_round : (n : ℕ) (index : IndexState) → n ≡ length (all_events g) → IsIndexOf g (λ _. false) index →
      IsRound g (record { counts = replicate n 0; index = index })
  none_round n index many of = record {
    many = length-replicate n 0 ∙ many;
    index =
        of_but g (λ f. nat_lt 0 (count_of g (record { counts = replicate n 0; index = index }) f)) index
        (but_of g (λ _. false) (λ f. nat_lt 0 (count_of g (record { counts = replicate n 0; index = index }) f)) [] index of
        (λ f there none. ap (nat_lt 0) (none_counted n index f many there)));
  }

  pub round_for : (x : RoundState) → IsRound g x → IsFor g x.index
  round_for x h = is_for g (λ e. nat_lt 0 (count_of g x e)) x.index h.index

  -- an event is another, or the same
  pub one_event : (e f : Event) → HasPlace g e → HasPlace g f → (f ≡ e) ⊎ (f ≢ e)
  one_event e f has there = ⊎_elim
      (λ same. inl (place_apart g f e there has same))
      (λ ne. inr (λ z. ne (ap (place g) z)))
      (cases_eq (place g f) (place g e))

  take_ne : (v u q : ℕ) → Take u q ≢ Wake v
  take_ne v u q z = cc z

  wake_ne : (u v q : ℕ) → Wake u ≢ Take v q
  wake_ne u v q z = cc z

  other_take : (v p u q : ℕ) → ((u ≡ v) × (q ≡ p) → ⊥) → Take u q ≢ Take v p
  other_take v p u q ne z = ne (cc z, cc z)

  -- a message is taken, and its node is awake
  module _ (x : RoundState) (h : IsRound g x) where
    pub without_round : (e : Event) → HasPlace g e → IsRound g (without g e x)
    without_round (Wake v) has = round_with x (Wake v) 0 h has
    without_round (Take v p) has =
        let y = with_count g (Wake v) 0 x in
        round_with y (Take v p) (count_of g y (Take v p) - 1) (round_with x (Wake v) 0 h (has.some, has.node)) has

    pub without_takes : (e : Event) → HasPlace g e → (u q : ℕ) → At g u q →
        taken_in g (without g e x) u q ≡ took e (taken_in g x) u q
    without_takes (Wake v) has u q at = count_there x (Wake v) (Take u q) 0 has at (take_ne v u q)
    without_takes (Take v p) has u q at =
        let y = with_count g (Wake v) 0 x in
        let n = count_of g y (Take v p) - 1 in
        let wake : HasPlace g (Wake v) = (has.some, has.node) in
        ⊎_elim
        (λ (z : (u ≡ v) × (q ≡ p)).
        let one : count_of g (with_count g (Take v p) n y) (Take v p) ≡ n = count_here y (Take v p) n (round_with x (Wake v) 0 h wake) has in
        let two : count_of g y (Take v p) ≡ count_of g x (Take v p) = count_there x (Wake v) (Take v p) 0 wake has (take_ne v v p) in
        let three = put_at_hit (taken_in g x) v p u q (taken_in g x v p - 1) z.0 z.1 in
        let here : count_of g (with_count g (Take v p) n y) (Take u q) ≡ n = rw (z.0, z.1) one in
        here ∙ ap (λ (k : ℕ). k - 1) two ∙ sym three)
        (λ ne.
        let one = count_there y (Take v p) (Take u q) n has at (other_take v p u q ne) in
        let two = count_there x (Wake v) (Take u q) 0 wake at (take_ne v u q) in
        let three = put_at_miss (taken_in g x) v p u q (taken_in g x v p - 1) ne in
        one ∙ two ∙ sym three)
        (one_place v p u q)

    pub without_own : (e : Event) → HasPlace g e → count_of g (without g e x) (Wake (event_node e)) ≡ 0
    without_own (Wake v) has = count_here x (Wake v) 0 h has
    without_own (Take v p) has =
        let y = with_count g (Wake v) 0 x in
        let wake : HasPlace g (Wake v) = (has.some, has.node) in
        count_there y (Take v p) (Wake v) (count_of g y (Take v p) - 1) has wake (wake_ne v v p) ∙ count_here x (Wake v) 0 h wake

    pub without_other : (e : Event) → HasPlace g e → (u : ℕ) → HasPlace g (Wake u) → u ≢ event_node e →
        count_of g (without g e x) (Wake u) ≡ count_of g x (Wake u)
    without_other (Wake v) has u there ne = count_there x (Wake v) (Wake u) 0 has there (λ (z : Wake u ≡ Wake v). ne (cc z))
    without_other (Take v p) has u there ne =
        let y = with_count g (Wake v) 0 x in
        let wake : HasPlace g (Wake v) = (has.some, has.node) in
        count_there y (Take v p) (Wake u) (count_of g y (Take v p) - 1) has there (wake_ne u v p)
        ∙ count_there x (Wake v) (Wake u) 0 wake there (λ (z : Wake u ≡ Wake v). ne (cc z))

  -- what is added where the counts are the same on all ports is the same there
  module _ {S M : Type 0} (r : Rules S M) (wired : IsWired g) (v : ℕ) (low : 1 ≤ v) (high : v ≤ g.count) where
    port_of : (s : ℕ × M) (ss : Outgoing M) → are_on_ports r g v (s ∷ ss) ≡ true → At g v s.0
    port_of s ss on = record { some = low; node = high; port = ltb-true s.0 _ (and_parts _ _ on).0 }

    adds_same : (ss : Outgoing M) (a b : ℕ → ℕ → ℕ) → are_on_ports r g v ss ≡ true → ((u q : ℕ) → At g u q → a u q ≡ b u q) →
        (u q : ℕ) → At g u q → adds g v ss a u q ≡ adds g v ss b u q
    adds_same [] a b on same u q at = same u q at
    adds_same (s ∷ ss) a b on same u q at =
        let w = far g v s.0 in
        let i = far_port g v s.0 in
        let there : At g w i = wired.there v s.0 (port_of s ss on) in
        adds_same ss (put_at a w i (suc (a w i))) (put_at b w i (suc (b w i))) (and_parts _ _ on).1
        (λ c d has. ⊎_elim
        (λ (z : (c ≡ w) × (d ≡ i)).
        put_at_hit a w i c d (suc (a w i)) z.0 z.1 ∙ ap suc (same w i there) ∙ sym (put_at_hit b w i c d (suc (b w i)) z.0 z.1))
        (λ ne. put_at_miss a w i c d (suc (a w i)) ne ∙ same c d has ∙ sym (put_at_miss b w i c d (suc (b w i)) ne))
        (one_place w i c d))
        u q at

    pub sent_round : (ss : Outgoing M) (x : RoundState) → are_on_ports r g v ss ≡ true → IsRound g x → IsRound g (sent_to g v ss x)
    sent_round [] x on h = h
    sent_round (s ∷ ss) x on h =
        let there : At g (far g v s.0) (far_port g v s.0) = wired.there v s.0 (port_of s ss on) in
        sent_round ss (with_count g (far_take g v s.0) (suc (count_of g x (far_take g v s.0))) x) (and_parts _ _ on).1
        (round_with x (far_take g v s.0) (suc (count_of g x (far_take g v s.0))) h there)

    pub sent_takes : (ss : Outgoing M) (x : RoundState) → are_on_ports r g v ss ≡ true → IsRound g x → (u q : ℕ) → At g u q →
        taken_in g (sent_to g v ss x) u q ≡ adds g v ss (taken_in g x) u q
    sent_takes [] x on h u q at = refl
    sent_takes (s ∷ ss) x on h u q at =
        let w = far g v s.0 in
        let i = far_port g v s.0 in
        let there : At g w i = wired.there v s.0 (port_of s ss on) in
        let n = suc (count_of g x (Take w i)) in
        sent_takes ss (with_count g (Take w i) n x) (and_parts _ _ on).1 (round_with x (Take w i) n h there) u q at
        ∙ adds_same ss (taken_in g (with_count g (Take w i) n x)) (put_at (taken_in g x) w i n) (and_parts _ _ on).1
        (λ c d has. ⊎_elim
        (λ (z : (c ≡ w) × (d ≡ i)).
        let one : taken_in g (with_count g (Take w i) n x) c d ≡ n = rw (z.0, z.1) (count_here x (Take w i) n h there) in
        one ∙ sym (put_at_hit (taken_in g x) w i c d n z.0 z.1))
        (λ ne. count_there x (Take w i) (Take c d) n there has (other_take w i c d ne) ∙ sym (put_at_miss (taken_in g x) w i c d n ne))
        (one_place w i c d))
        u q at

    pub sent_wakes : (ss : Outgoing M) (x : RoundState) → are_on_ports r g v ss ≡ true → (u : ℕ) → HasPlace g (Wake u) →
        count_of g (sent_to g v ss x) (Wake u) ≡ count_of g x (Wake u)
    sent_wakes [] x on u has = refl
    sent_wakes (s ∷ ss) x on u has =
        let there : At g (far g v s.0) (far_port g v s.0) = wired.there v s.0 (port_of s ss on) in
        let n = suc (count_of g x (far_take g v s.0)) in
        sent_wakes ss (with_count g (far_take g v s.0) n x) (and_parts _ _ on).1 u has
        ∙ count_there x (far_take g v s.0) (Wake u) n there has (wake_ne u (far g v s.0) (far_port g v s.0))
