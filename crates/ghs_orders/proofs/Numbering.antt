-- Numbers that are kept, message by message.
use Rattle.std.proofs.Common.{◌≡◌, ◌≢◌, ℕ, zero, suc, ◌+◌, ◌<◌, ◌≤◌, List, [], ◌∷◌, length, get_or, set, refl, sym, ◌∙◌, ap, subst, ⊎_elim, arith, length-set, get_or-set_same, get_or-set_other}
use Rattle.std.specs.List.{All, Contains}
use Rattle.ghs_graph.proofs.lemmas.Members.{first_in, later_in}
use Rattle.ghs_node.specs.declared.message.Message.{Message}
use Rattle.ghs_node.specs.Words.{Outgoing}
use Rattle.peer_network.specs.declared.event.Event.{Event}
use Rattle.peer_network.specs.declared.event.Event.TheVariants.{Take}
use Rattle.peer_network.specs.Updates.{put_at}
use Rattle.peer_network.specs.Network.{At, Network, far, far_port}
use Rattle.peer_network.proofs.lemmas.Wired.{IsWired}
use Rattle.peer_network.proofs.lemmas.Updates.{one_place, put_at_hit, put_at_miss}
use Rattle.peer_index.specs.Places.{HasPlace, place}
use Rattle.peer_index.proofs.lemmas.Places.{place_apart, place_within}
use Rattle.ghs_patient.specs.Choices.{far_takes}
use Rattle.ghs_orders.specs.Kept.{AreFor, AreNumbers, NumbersState, with_all, with_one}
use Rattle.ghs_orders.specs.Newest.{Newest, sent, sent_on}

-- a row with another number is no greater than before, or than that
set_most : (xs : List ℕ) (i x m j : ℕ) → x ≤ m → ((k : ℕ) → get_or xs k 0 ≤ m) → get_or (set xs i x) j 0 ≤ m
set_most [] i x m j le all = all j
set_most (y ∷ ys) zero x m zero le all = le
set_most (y ∷ ys) zero x m (suc j) le all = all (suc j)
set_most (y ∷ ys) (suc i) x m zero le all = all zero
set_most (y ∷ ys) (suc i) x m (suc j) le all = set_most ys i x m j le (λ k. all (suc k))

module _ (g : Network) where
  pub for_one : (v p : ℕ) (k : NumbersState) → AreFor g k → AreFor g (with_one g v p k)
  for_one v p k h = record {
    bases = h.bases;
    many = length-set k.newest (place g (Take (far g v p) (far_port g v p))) (suc k.count) ∙ h.many;
    most = λ i. set_most k.newest (place g (Take (far g v p) (far_port g v p))) (suc k.count) (suc k.count) i (omega arith)
        (λ j. let le = h.most j in omega (arith, le));
  }

  pub for_all : (v : ℕ) (ss : Outgoing) (k : NumbersState) → AreFor g k → AreFor g (with_all g v ss k)
  for_all v [] k h = h
  for_all v (s ∷ ss) k h = for_all v ss (with_one g v s.0 k) (for_one v s.0 k h)

  -- as many more as were sent
  pub count_all : (v : ℕ) (ss : Outgoing) (k : NumbersState) → (with_all g v ss k).count ≡ k.count + length ss
  count_all v [] k = omega arith
  count_all v (s ∷ ss) k = let rest = count_all v ss (with_one g v s.0 k) in omega (arith, rest)

  -- what is kept has a message more, as what is meant
  pub one_more : (n : Newest) (v p : ℕ) (k : NumbersState) → AreNumbers g n k → At g (far g v p) (far_port g v p) →
      AreNumbers g (sent_on g v p n) (with_one g v p k)
  one_more n v p k h there = record { for_all = for_one v p k h.for_all; count = ap suc h.count; last = last }
    where
      e : Event
      e = Take (far g v p) (far_port g v p)

      last : (u q : ℕ) → At g u q → get_or (set k.newest (place g e) (suc k.count)) (place g (Take u q)) 0 ≡
          put_at n.last (far g v p) (far_port g v p) (suc n.count) u q
      last u q at = ⊎_elim
          (λ (z : (u ≡ far g v p) × (q ≡ far_port g v p)).
          let same : Take u q ≡ e = ap (λ x. Take x q) z.0 ∙ ap (Take (far g v p)) z.1 in
          let within = place_within g e there in
          let many = h.for_all.many in
          ap (λ f. get_or (set k.newest (place g e) (suc k.count)) (place g f) 0) same
          ∙ get_or-set_same k.newest (place g e) (suc k.count) 0 (omega (arith, within, many))
          ∙ ap suc h.count ∙ sym (put_at_hit n.last (far g v p) (far_port g v p) u q (suc n.count) z.0 z.1))
          (λ ne.
          let other : place g (Take u q) ≢ place g e = λ z. let one = place_apart g (Take u q) e at there z in ne (cc one, cc one) in
          get_or-set_other k.newest (place g e) (place g (Take u q)) (suc k.count) 0 other ∙ h.last u q at
          ∙ sym (put_at_miss n.last (far g v p) (far_port g v p) u q (suc n.count) ne))
          (one_place (far g v p) (far_port g v p) u q)

  module _ (wired : IsWired g) (v : ℕ) (low : 1 ≤ v) (high : v ≤ g.count) where
    there : (ss : Outgoing) (s : ℕ × Message) → All (λ (m : ℕ × Message). m.0 < length (g.ports v)) (s ∷ ss) → At g (far g v s.0) (far_port g v s.0)
    there ss s all = wired.there v s.0 (record { some = low; node = high; port = all 0 s (omega arith) })

    pub all_more : (ss : Outgoing) (n : Newest) (k : NumbersState) → All (λ (m : ℕ × Message). m.0 < length (g.ports v)) ss → AreNumbers g n k →
        AreNumbers g (sent g v ss n) (with_all g v ss k)
    all_more [] n k all h = h
    all_more (s ∷ ss) n k all h =
        all_more ss (sent_on g v s.0 n) (with_one g v s.0 k) (λ i d lt. all (suc i) d (omega (arith, lt))) (one_more n v s.0 k h (there ss s all))

    -- where nothing was sent to, the number stays
    pub other_kept : (ss : Outgoing) (k : NumbersState) (f : Event) → All (λ (m : ℕ × Message). m.0 < length (g.ports v)) ss → HasPlace g f →
        (Contains (far_takes g v ss) f → ⊥) → get_or (with_all g v ss k).newest (place g f) 0 ≡ get_or k.newest (place g f) 0
    other_kept [] k f all has none = refl
    other_kept (s ∷ ss) k f all has none =
        let e : Event = Take (far g v s.0) (far_port g v s.0) in
        let other : place g f ≢ place g e =
        λ z. none (subst (λ (x : Event). Contains (x ∷ far_takes g v ss) f) (place_apart g f e has (there ss s all) z)
        (first_in f (far_takes g v ss))) in
        other_kept ss (with_one g v s.0 k) f (λ i d lt. all (suc i) d (omega (arith, lt))) has (λ h. none (later_in e f (far_takes g v ss) h))
        ∙ get_or-set_other k.newest (place g e) (place g f) (suc k.count) 0 other

-- as many were sent as are numbered
pub sent_count : (g : Network) (v : ℕ) (ss : Outgoing) (n : Newest) → (sent g v ss n).count ≡ n.count + length ss
sent_count g v [] n = omega arith
sent_count g v (s ∷ ss) n = let rest = sent_count g v ss (sent_on g v s.0 n) in omega (arith, rest)
