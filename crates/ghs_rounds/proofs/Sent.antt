-- By rounds a message that was sent in round t ends a chain of t + 1 messages, so both ways to tell the events of a round tell the same.
use Rattle.std.proofs.Common.{◌≡◌, ℕ, suc, ◌≤◌, Bool, true, false, ◌&&◌, ◌==◌, cond, List, [], ◌∷◌, ◌++◌, filter, refl, sym, ◌∙◌, ap, ap₂, subst, ⊎_elim, ◌⊎◌, arith}
use Rattle.std.specs.Prelude.{nat_le, nat_lt}
use Rattle.std.specs.List.{Contains, slice_get}
use Rattle.std.proofs.lemmas.Bool.{cases_Bool, cases_eq, eq-eqb, leb-false, leb-true, le-ltb, lt-ltb}
use Rattle.std.proofs.lemmas.Option.{same_Some}
use Rattle.ghs_graph.specs.Graph.{Shape, IsGraph}
use Rattle.ghs_node.specs.declared.delta.Delta.{Delta}
use Rattle.ghs_node.specs.declared.delta.Fate.{Fate}
use Rattle.ghs_node.specs.declared.delta.Fate.TheVariants.{Consumed, Requeued}
use Rattle.ghs_node.specs.Words.{Outgoing, is_sleeping}
use Rattle.peer_network.specs.declared.event.Event.{Event}
use Rattle.peer_network.specs.declared.event.Event.TheVariants.{Wake, Take}
use Rattle.peer_network.specs.Events.{event_node}
use Rattle.peer_network.specs.Network.{Network, far, far_port, network_of}
use Rattle.peer_network.specs.Updates.{put_at}
use Rattle.peer_network.proofs.lemmas.Updates.{one_place, put_at_hit, put_at_miss}
use Rattle.ghs_protocol.specs.Interleavings.{EventsHaveRules}
use Rattle.ghs_protocol.specs.Marks.{HasEnded}
use Rattle.ghs_protocol.specs.Net.{Net, is_lawful, is_lawful_under}
use Rattle.ghs_protocol.specs.Run.{net_after}
use Rattle.ghs_protocol.specs.Schedules.{PatienceLasts}
use Rattle.ghs_protocol.proofs.lemmas.Runs.{lawful_under}
use Rattle.peer_index.specs.Places.{HasPlace, all_events}
use Rattle.peer_schedule.specs.Picks.{IsPick}
use Rattle.peer_chains.specs.Chains.{Chains, behind, hears, sent, sent_on, taken}
use Rattle.ghs_following.specs.Chains.{chains_of, is_deferred, reacted}
use Rattle.ghs_patient.specs.Patience.{moves_on, or_else, puts_back}
use Rattle.ghs_patient.proofs.lemmas.Picked.{picked_in}
use Rattle.ghs_rounds.specs.Moments.{GoesByRounds, IsByRounds, IsPickedByMoments, IsReaction, Moments, first_taken, is_before, is_before_early, is_early, moved, none_sent, round_of, sent_in, taken_by}
use Rattle.ghs_rounds.specs.Moments as moments
use Rattle.ghs_rounds.specs.Rounds.{events_in, hides_due, is_by, moves_due, round_events}
use Rattle.ghs_rounds.specs.Runs.{IsPickedByRounds}
use Rattle.ghs_rounds.specs.Runs as runs
use Rattle.ghs_rounds.proofs.AnyOrder.{Begun, ByNumbers, FromByNumbers, Over, Went, by_numbers, goes_on}
use Rattle.ghs_rounds.proofs.Picked.{lawful_pick, of_round}
use Rattle.ghs_rounds.proofs.Steps.{Promised, moves_give}
use Rattle.ghs_rounds.proofs.Told as of
use Rattle.ghs_rounds.proofs.Told.{IsTold, told}

-- one more of each
abbrev nexts : List ℕ → List ℕ
nexts [] = []
nexts (t ∷ ts) = suc t ∷ nexts ts

nexts_append : (ts us : List ℕ) → nexts (ts ++ us) ≡ nexts ts ++ nexts us
nexts_append [] us = refl
nexts_append (t ∷ ts) us = ap (λ (l : List ℕ). suc t ∷ l) (nexts_append ts us)

-- each message ends a chain longer by one than the round in which it was sent
abbrev pub AreSent : Chains → Moments → Type 0
AreSent c m = (v p : ℕ) → c.queue v p ≡ nexts (m v p)

-- What is taken.
left_sent : (f : Fate) (t : ℕ) (ts : List ℕ) → behind (is_deferred f) (suc t) (nexts ts) ≡ nexts (first_taken f (t ∷ ts))
left_sent Consumed t ts = refl
left_sent Requeued t ts = sym (nexts_append ts (t ∷ []))

none_left : (f : Fate) → first_taken f [] ≡ []
none_left Consumed = refl
none_left Requeued = refl

module _ (v p : ℕ) (asleep : Bool) (f : Fate) (c : Chains) (m : Moments) (are : AreSent c m) where
  here : (u q : ℕ) → (u ≡ v) × (q ≡ p) → m u q ≡ m v p
  here u q e = ap (λ a. m a q) e.0 ∙ ap (m v) e.1

  taken_sent : (ts : List ℕ) → m v p ≡ ts → AreSent (taken v p asleep (is_deferred f) (nexts ts) c) (put_at m v p (first_taken f ts))
  taken_sent [] is u q = ⊎_elim
      (λ (e : (u ≡ v) × (q ≡ p)).
      are u q ∙ ap nexts (here u q e ∙ is ∙ sym (none_left f) ∙ sym (put_at_hit m v p u q (first_taken f []) e.0 e.1)))
      (λ ne. are u q ∙ ap nexts (sym (put_at_miss m v p u q (first_taken f []) ne)))
      (one_place v p u q)
  taken_sent (t ∷ ts) is u q = ⊎_elim
      (λ (e : (u ≡ v) × (q ≡ p)).
      put_at_hit c.queue v p u q (behind (is_deferred f) (suc t) (nexts ts)) e.0 e.1
      ∙ left_sent f t ts
      ∙ ap nexts (sym (put_at_hit m v p u q (first_taken f (t ∷ ts)) e.0 e.1)))
      (λ ne.
      put_at_miss c.queue v p u q (behind (is_deferred f) (suc t) (nexts ts)) ne
      ∙ are u q
      ∙ ap nexts (sym (put_at_miss m v p u q (first_taken f (t ∷ ts)) ne)))
      (one_place v p u q)

hears_sent : (e : Event) (asleep : Bool) (f : Fate) (c : Chains) (m : Moments) → AreSent c m →
    AreSent (hears e asleep (is_deferred f) c) (taken_by e f m)
hears_sent (Wake v) asleep f c m are = are
hears_sent (Take v p) asleep f c m are =
    subst (λ (l : List ℕ). AreSent (taken v p asleep (is_deferred f) l c) (put_at m v p (first_taken f (m v p)))) (sym (are v p))
    (taken_sent v p asleep f c m are (m v p) refl)

-- What is sent by a node that has the round's number.
module _ (r : ℕ) (g : Network) (v : ℕ) where
  one_sent : (p : ℕ) (c : Chains) (m : Moments) → c.node v ≡ r → AreSent c m →
      AreSent (sent_on g v p c) (put_at m (far g v p) (far_port g v p) (m (far g v p) (far_port g v p) ++ r ∷ []))
  one_sent p c m is are u q = ⊎_elim
      (λ (e : (u ≡ far g v p) × (q ≡ far_port g v p)).
      put_at_hit c.queue (far g v p) (far_port g v p) u q _ e.0 e.1
      ∙ ap₂ (λ (l : List ℕ) (n : ℕ). l ++ suc n ∷ []) (are (far g v p) (far_port g v p)) is
      ∙ sym (nexts_append (m (far g v p) (far_port g v p)) (r ∷ []))
      ∙ ap nexts (sym (put_at_hit m (far g v p) (far_port g v p) u q _ e.0 e.1)))
      (λ ne.
      put_at_miss c.queue (far g v p) (far_port g v p) u q _ ne ∙ are u q
      ∙ ap nexts (sym (put_at_miss m (far g v p) (far_port g v p) u q _ ne)))
      (one_place (far g v p) (far_port g v p) u q)

  all_sent : (ss : Outgoing) (c : Chains) (m : Moments) → c.node v ≡ r → AreSent c m → AreSent (sent g v ss c) (sent_in r g v ss m)
  all_sent [] c m is are = are
  all_sent (s ∷ ss) c m is are = all_sent ss (sent_on g v s.0 c) _ is (one_sent s.0 c m is are)

  none_sent_there : (ss : Outgoing) → ss ≡ [] → (c : Chains) (m : Moments) → AreSent c m → AreSent (sent g v ss c) (sent_in r g v ss m)
  none_sent_there [] e c m are = are
  none_sent_there (s ∷ ss) e c m are = absurd (let z : s ∷ ss ≡ [] = e in cc)

-- The events of a round.
less_next : (t r : ℕ) → nat_le (suc t) r ≡ nat_lt t r
less_next t r = ⊎_elim
    (λ y. let le = leb-true (suc t) r y in y ∙ sym (lt-ltb t r (omega (arith, le))))
    (λ n. let le = leb-false (suc t) r n in n ∙ sym (le-ltb t r (omega (arith, le))))
    (cases_Bool (nat_le (suc t) r))

first_same : (ts : List ℕ) (r : ℕ) → is_before r (slice_get ts 0) ≡ is_by r (slice_get (nexts ts) 0)
first_same [] r = refl
first_same (t ∷ ts) r = sym (less_next t r)

second_same : (ts : List ℕ) (r : ℕ) → is_before r (slice_get ts 1) ≡ is_by r (slice_get (nexts ts) 1)
second_same [] r = refl
second_same (t ∷ []) r = refl
second_same (t ∷ (u ∷ us)) r = sym (less_next u r)

filters_agree : (p q : Event → Bool) → ((e : Event) → p e ≡ q e) → (es : List Event) → filter p es ≡ filter q es
filters_agree p q same [] = refl
filters_agree p q same (e ∷ es) = ap₂ (λ (b : Bool) (l : List Event). cond b (e ∷ l) l) (same e) (filters_agree p q same es)

module _ (may : ℕ → Bool) (g : Network) (w : Net) (c : Chains) (m : Moments) (r : ℕ) (are : AreSent c m)
    (woken : 1 ≤ r → (v : ℕ) → is_lawful_under may g w (Wake v) ≡ true → ⊥) where
  -- after round 0 no node is left to wake
  wake_same : (v : ℕ) (b : Bool) → is_lawful_under may g w (Wake v) ≡ b → (b && true) && (r == 0) ≡ (b && true) && true
  wake_same v false e = refl
  wake_same v true e = ⊎_elim
      (λ (zero : r ≡ 0). ap (λ (b : Bool). (true && true) && b) (eq-eqb r 0 zero))
      (λ ne. absurd (woken (omega (arith, ne)) v e))
      (cases_eq r 0)

  moves_same : (e : Event) → (moves_on may g w e && is_early r m e) ≡ moves_due may g w c r e
  moves_same (Wake v) = wake_same v (is_lawful_under may g w (Wake v)) refl
  moves_same (Take v p) =
      ap (λ (b : Bool). moves_on may g w (Take v p) && b)
      (first_same (m v p) r ∙ ap (λ (l : List ℕ). is_by r (slice_get l 0)) (sym (are v p)))

  hides_same : (e : Event) → (puts_back w e && is_before_early r m e) ≡ hides_due w c r e
  hides_same (Wake v) = refl
  hides_same (Take v p) =
      ap (λ (b : Bool). puts_back w (Take v p) && b)
      (second_same (m v p) r ∙ ap (λ (l : List ℕ). is_by r (slice_get l 1)) (sym (are v p)))

  pub same_events : round_of may g w m r ≡ round_events may g w c r
  same_events =
      ap₂ or_else
      (filters_agree (λ e. moves_on may g w e && is_early r m e) (moves_due may g w c r) moves_same (all_events g))
      (filters_agree (λ e. puts_back w e && is_before_early r m e) (hides_due w c r) hides_same (all_events g))

-- Runs.
module _ (law : Promised) (rules : EventsHaveRules) (lasts : PatienceLasts) (may : ℕ → Bool) (g : Shape) (ok : IsGraph g) where
  abbrev AreSentIn : List Event → Moments → Type 0
  AreSentIn es m = AreSent (chains_of (network_of g) es) m

  none_at_first : AreSentIn [] none_sent
  none_at_first v p = ap (λ (c : Chains). c.queue v p) (of.chains_begin (network_of g))

  module _ (es : List Event) (r : ℕ) (m : Moments) (by : ByNumbers may g es r) (are : AreSentIn es m) where
    so_far : IsTold may g es r
    so_far = told law rules lasts may g ok es r by

    pub events_same : round_of may (network_of g) (net_after g es) m r ≡ events_in may g es r
    events_same = same_events may (network_of g) (net_after g es) (chains_of (network_of g) es) m r are so_far.timed.woken

    module _ (going : HasEnded g (net_after g es) → ⊥) (e : Event) (one : Contains (events_in may g es r) e) where
      abbrev w : Net
      w = net_after g es

      abbrev c : Chains
      c = chains_of (network_of g) es

      chosen : HasPlace (network_of g) e × ((moves_due may (network_of g) w c r e ≡ true) ⊎ (hides_due w c r e ≡ true))
      chosen = of_round may (network_of g) w c r e one

      lawful : is_lawful (network_of g) w e ≡ true
      lawful = ((lawful_under may (network_of g) w e).0 (lawful_pick may (network_of g) w c r e chosen)).1

      pub reacts : Delta
      reacts = of.d law rules lasts may g ok es r so_far going e chosen.0 lawful

      pub answers : IsReaction w e reacts
      unfolding reacts
      answers = of.answer law rules lasts may g ok es r so_far going e chosen.0 lawful

      abbrev asleep : Bool
      asleep = is_sleeping (w.node (event_node e)).head.phase

      reacted_sent : AreSent (reacted (network_of g) w e reacts c) (moved r (network_of g) e reacts m)
      unfolding reacts
      reacted_sent =
          let came = hears_sent e asleep reacts.fate c m are in
          ⊎_elim
          (λ moves.
          all_sent r (network_of g) (event_node e) reacts.sends (hears e asleep (is_deferred reacts.fate) c) (taken_by e reacts.fate m)
          (moves_give law may g w (of.is_net law rules lasts may g ok es r so_far going) c r so_far.timed e reacts answers moves) came)
          (λ hides.
          none_sent_there r (network_of g) (event_node e) reacts.sends
          (of.back_sends law rules lasts may g ok es r so_far going e chosen.0 lawful hides) (hears e asleep (is_deferred reacts.fate) c)
          (taken_by e reacts.fate m) came)
          chosen.1

      pub sent_more : (d : Delta) → IsReaction w e d → AreSentIn (es ++ e ∷ []) (moved r (network_of g) e d m)
      unfolding reacts
      sent_more d answer =
          subst (λ (y : Delta). AreSentIn (es ++ e ∷ []) (moved r (network_of g) e y m)) (same_Some reacts d (sym answers ∙ answer))
          (subst (λ (y : Chains). AreSent y (moved r (network_of g) e reacts m))
          (sym (of.chains_are law rules lasts may g ok es r so_far going e chosen.0 lawful)) reacted_sent)

  abbrev Told : List Event → ℕ → Moments → Type 0
  Told es r m = ByNumbers may g es r × AreSentIn es m

  -- a run by the moments of sending is one by chains
  pub goes_by_numbers : (start : List Event) (first : ℕ) (before : Moments) → Told start first before → (es : List Event) (r : ℕ) (m : Moments) →
      GoesByRounds may g start first before es r m → FromByNumbers may g start first es r × AreSentIn es m
  goes_by_numbers start first before begun _ _ _ moments.Stands = (Begun, begun.1)
  goes_by_numbers start first before begun _ _ _ (moments.Happened es r m e d so_far going one answer) =
      let t = goes_by_numbers start first before begun es r m so_far in
      let by = goes_on may g start first begun.0 es r t.0 in
      let same = events_same es r m by t.1 in
      let chosen : Contains (events_in may g es r) e = subst (λ (l : List Event). Contains l e) same one in
      (Went es r e t.0 going chosen, sent_more es r m by t.1 going e chosen d answer)
  goes_by_numbers start first before begun _ _ _ (moments.Passed es r m so_far going over) =
      let t = goes_by_numbers start first before begun es r m so_far in
      let by = goes_on may g start first begun.0 es r t.0 in
      (Over es r t.0 going (sym (events_same es r m by t.1) ∙ over), t.1)

  pub by_moments : (es : List Event) (r : ℕ) (m : Moments) → IsByRounds may g es r m → Told es r m
  by_moments es r m by = goes_by_numbers [] 0 none_sent (Begun, none_at_first) es r m by

  -- and what a schedule picks by chains is one by the moments of sending, which picks the same
  pub picks_by_rounds : (turns : ℕ) (words : List ℕ) (es : List Event) (r : ℕ) (s : List ℕ) → IsPickedByRounds may g turns words es r s →
      (m : Moments) × IsByRounds may g es r m × IsPickedByMoments may g turns words es r s m × AreSentIn es m
  picks_by_rounds turns words _ _ _ runs.Begun = (none_sent, moments.Stands, moments.Begun, none_at_first)
  picks_by_rounds turns words _ _ _ (runs.Picked es r s e before going less pick) =
      let t = picks_by_rounds turns words es r s before in
      let by = by_numbers may g turns words es r s before in
      let same = events_same es r t.0 by t.3 in
      let one = picked_in (events_in may g es r) s e pick in
      let d = reacts es r t.0 by t.3 going e one in
      let answer = answers es r t.0 by t.3 going e one in (
        moved r (network_of g) e d t.0,
        moments.Happened es r t.0 e d t.1 going (subst (λ (l : List Event). Contains l e) (sym same) one) answer,
        moments.Picked es r s t.0 e d t.2 going less (subst (λ (l : List Event). IsPick l s e) (sym same) pick) answer,
        sent_more es r t.0 by t.3 going e one d answer,
      )
  picks_by_rounds turns words _ _ _ (runs.Over es r s before going less over) =
      let t = picks_by_rounds turns words es r s before in
      let by = by_numbers may g turns words es r s before in
      let none = events_same es r t.0 by t.3 ∙ over in
      (t.0, moments.Passed es r t.0 t.1 going none, moments.Over es r s t.0 t.2 going less none, t.3)

  pub picks_by_moments : (turns : ℕ) (words : List ℕ) (es : List Event) (r : ℕ) (s : List ℕ) (m : Moments) →
      IsPickedByMoments may g turns words es r s m → IsPickedByRounds may g turns words es r s × AreSentIn es m
  picks_by_moments turns words _ _ _ _ moments.Begun = (runs.Begun, none_at_first)
  picks_by_moments turns words _ _ _ _ (moments.Picked es r s m e d before going less pick answer) =
      let t = picks_by_moments turns words es r s m before in
      let by = by_numbers may g turns words es r s t.0 in
      let same = events_same es r m by t.1 in
      let now : IsPick (events_in may g es r) s e = subst (λ (l : List Event). IsPick l s e) same pick in
      (runs.Picked es r s e t.0 going less now, sent_more es r m by t.1 going e (picked_in (events_in may g es r) s e now) d answer)
  picks_by_moments turns words _ _ _ _ (moments.Over es r s m before going less over) =
      let t = picks_by_moments turns words es r s m before in
      let by = by_numbers may g turns words es r s t.0 in
      (runs.Over es r s t.0 going less (sym (events_same es r m by t.1) ∙ over), t.1)
