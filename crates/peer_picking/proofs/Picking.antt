-- What is picked so is one list.
use Rattle.std.proofs.Common.{◌≡◌, ◌%◌, ◌<◌, ◌≤◌, ◌∙◌, ℕ, Bool, true, false, nat_lt, Option, Some, None, List, [], ◌∷◌, ◌++◌, length, take, slice_get, refl, sym, ap, ap₂, subst, arith, ⊎_elim, take_all, length-append, unwrap_or}
use Rattle.std.specs.List.{Contains}
use Rattle.std.proofs.lemmas.Bool.{and_parts, cases_lt}
use Rattle.std.proofs.lemmas.List.{take-append-le}
use Rattle.std.proofs.lemmas.Option.{same_Some}
use Rattle.ghs_graph.specs.Graph.{Shape}
use Rattle.ghs_graph.proofs.lemmas.Members.{filter_has, nothing_in}
use Rattle.peer_network.specs.declared.event.Event.{Event}
use Rattle.peer_network.specs.declared.event.Event.TheVariants.{Wake, Take}
use Rattle.peer_network.specs.Network.{Network, is_port, network_of}
use Rattle.peer_index.specs.Places.{all_events}
use Rattle.peer_index.proofs.lemmas.Listed.{listed}
use Rattle.peer_schedule.specs.Picks.{IsPick}
use Rattle.peer_schedule.specs.Schedule.{next_of, word_of}
use Rattle.peer_machine.specs.Rules.{Rules}
use Rattle.peer_machine.specs.Net.{Net, opening}
use Rattle.peer_machine.specs.Run.{net_after, run}
use Rattle.peer_machine.proofs.lemmas.Runs.{net_after_is}
use Rattle.peer_runs.specs.Lawful.{is_lawful_under, lawful_events}
use Rattle.peer_runs.specs.Picks.{IsOver}
use Rattle.peer_picking.specs.Latest.{IsLatest, NoTake}
use Rattle.peer_picking.specs.Newest.{Newest, newest_of}
use Rattle.peer_picking.specs.LifoPicks.{Begun, IsLifoRun, IsPickedLast, Latest, LatestIsOne, LifoPicksAreOne, LifoRunIsOne, Picked}
use Rattle.peer_picking.proofs.Apart.{AreOf, of_run}

module _ {S M : Type 0} (r : Rules S M) where
  module _ (g : Network) (w : Net S M) (n : Newest) where
    -- where a Take is the latest, a message waits
    pub not_both : (e : Event) → IsLatest r g w n e → NoTake r g w → ⊥
    not_both (Wake v) l none = l
    not_both (Take v p) l none = let wrong : true ≡ false = sym l.0 ∙ none v p in cc wrong

    one_latest : AreOf r g w n → (e f : Event) → IsLatest r g w n e → IsLatest r g w n f → e ≡ f
    one_latest h (Wake v) f a b = absurd a
    one_latest h (Take v p) (Wake u) a b = absurd b
    one_latest h (Take v p) (Take u q) a b =
        let le = a.1 u q b.0 in
        let ge = b.1 v p a.0 in
        let some = h.some v p (and_parts (is_port g v p) _ a.0).1 in
        let same = h.numbers.apart v u p q some (omega (arith, le, ge)) in
        ap (λ x. Take x p) same.0 ∙ ap (Take u) same.1

  none_opens : (g : Network) (n : Newest) (e : Event) → IsLatest r g (opening r g) n e → ⊥
  none_opens g n (Wake v) l = l
  none_opens g n (Take v p) l = let waits : nat_lt 0 0 ≡ true = (and_parts (is_port g v p) _ l.0).1 in cc waits

  module _ (g : Shape) (es : List Event) where
    abbrev IsLatestOf : Event → Type 0
    IsLatestOf e = IsLatest r (network_of g) (net_after r g es) (newest_of r (network_of g) es) e

    -- events that are no run leave the opening net
    no_run : run r (network_of g) es (opening r (network_of g)) ≡ None → net_after r g es ≡ opening r (network_of g)
    unfolding net_after
    no_run k = ap (λ (o : Option (Net S M)). unwrap_or o (opening r (network_of g))) k

    latest_of : (e : Event) → IsLatestOf e → AreOf r (network_of g) (net_after r g es) (newest_of r (network_of g) es)
    latest_of e l = go (run r (network_of g) es (opening r (network_of g))) refl
      where
        go : (o : Option (Net S M)) → run r (network_of g) es (opening r (network_of g)) ≡ o →
            AreOf r (network_of g) (net_after r g es) (newest_of r (network_of g) es)
        go (Some w) k =
            subst (λ (x : Net S M). AreOf r (network_of g) x (newest_of r (network_of g) es)) (sym (net_after_is r g es w k))
            (of_run r (network_of g) es w k)
        go None k =
            absurd (none_opens (network_of g) (newest_of r (network_of g) es) e
            (subst (λ (x : Net S M). IsLatest r (network_of g) x (newest_of r (network_of g) es) e) (no_run k) l))

    one_of : (e f : Event) → IsLatestOf e → IsLatestOf f → e ≡ f
    one_of e f a b = one_latest (network_of g) (net_after r g es) (newest_of r (network_of g) es) (latest_of e a) e f a b

    -- the latest is lawful
    latest_lawful : (may : ℕ → Bool) (e : Event) → IsLatestOf e → Contains (lawful_events r may g es) e
    latest_lawful may (Wake v) l = absurd l
    latest_lawful may (Take v p) l =
        filter_has (is_lawful_under r may (network_of g) (net_after r g es)) (all_events (network_of g)) (Take v p)
        (listed (network_of g) (Take v p) (and_parts (is_port (network_of g) v p) _ l.0).0) l.0

  pub latest_is_one : LatestIsOne r
  latest_is_one g es e f a b = one_of g es e f a b

module _ {S M : Type 0} (r : Rules S M) (may : ℕ → Bool) (g : Shape) (turns : ℕ) (trace : List Event) (words : List ℕ) where
  longer : {es : List Event} {s : List ℕ} → IsPickedLast r may g turns trace words es s → length trace ≤ length es
  longer Begun = omega arith
  longer (Latest es s e p few l) = omega (arith, longer p, length-append es (e ∷ []))
  longer (Picked es s e p few none pick) = omega (arith, longer p, length-append es (e ∷ []))

  same_latest : (es fs : List Event) (e : Event) → es ≡ fs → IsLatestOf r g fs e → IsLatestOf r g es e
  same_latest es fs e same l = subst (λ (xs : List Event). IsLatestOf r g xs e) (sym same) l

  same_none : (es fs : List Event) → es ≡ fs → NoTake r (network_of g) (net_after r g fs) → NoTake r (network_of g) (net_after r g es)
  same_none es fs same none = subst (λ (xs : List Event). NoTake r (network_of g) (net_after r g xs)) (sym same) none

  one_pick : (es fs : List Event) (s t : List ℕ) (e f : Event) → IsPick (lawful_events r may g es) s e →
      IsPick (lawful_events r may g fs) t f → (es ≡ fs) × (s ≡ t) → e ≡ f
  one_pick es fs s t e f h k same =
      same_Some e f (sym h.1 ∙ ap₂
      (λ (xs : List Event) (w : List ℕ). slice_get (lawful_events r may g xs) (word_of w % length (lawful_events r may g xs))) same.0 same.1 ∙ k.1)

  one_run : {es fs : List Event} {s t : List ℕ} → IsPickedLast r may g turns trace words es s → IsPickedLast r may g turns trace words fs t →
      length es ≡ length fs → (es ≡ fs) × (s ≡ t)
  one_run Begun Begun e = (refl, refl)
  one_run Begun (Latest fs t f q few l) e = absurd (omega (arith, e, longer q, length-append fs (f ∷ [])))
  one_run Begun (Picked fs t f q few none pick) e = absurd (omega (arith, e, longer q, length-append fs (f ∷ [])))
  one_run (Latest es s x p few l) Begun e = absurd (omega (arith, e, longer p, length-append es (x ∷ [])))
  one_run (Picked es s x p few none pick) Begun e = absurd (omega (arith, e, longer p, length-append es (x ∷ [])))
  one_run (Latest es s x p few l) (Latest fs t f q few' l') e =
      let same = one_run p q (omega (arith, e, length-append es (x ∷ []), length-append fs (f ∷ []))) in
      (ap₂ (λ (xs : List Event) (y : Event). xs ++ y ∷ []) same.0 (one_of r g es x f l (same_latest es fs f same.0 l')), same.1)
  one_run (Picked es s x p few none pick) (Picked fs t f q few' none' pick') e =
      let same = one_run p q (omega (arith, e, length-append es (x ∷ []), length-append fs (f ∷ []))) in
      (ap₂ (λ (xs : List Event) (y : Event). xs ++ y ∷ []) same.0 (one_pick es fs s t x f pick pick' same), ap next_of same.1)
  one_run (Latest es s x p few l) (Picked fs t f q few' none' pick') e =
      let same = one_run p q (omega (arith, e, length-append es (x ∷ []), length-append fs (f ∷ []))) in
      absurd (not_both r (network_of g) (net_after r g es) (newest_of r (network_of g) es) x l (same_none es fs same.0 none'))
  one_run (Picked es s x p few none pick) (Latest fs t f q few' l') e =
      let same = one_run p q (omega (arith, e, length-append es (x ∷ []), length-append fs (f ∷ []))) in
      absurd (not_both r (network_of g) (net_after r g es) (newest_of r (network_of g) es) f (same_latest es fs f same.0 l') none)

  -- a list with one event more
  begins_more : (es fs : List Event) (f : Event) → (length es ≤ length fs → take (length es) fs ≡ es) →
      (length es ≡ length (fs ++ f ∷ []) → es ≡ fs ++ f ∷ []) → length es ≤ length (fs ++ f ∷ []) → take (length es) (fs ++ f ∷ []) ≡ es
  begins_more es fs f shorter same le =
      let b = length-append fs (f ∷ []) in
      ⊎_elim
      (λ (lt : length es < length (fs ++ f ∷ [])).
      take-append-le (length es) fs (f ∷ []) (omega (arith, b, lt)) ∙ shorter (omega (arith, b, lt)))
      (λ (ge : length (fs ++ f ∷ []) ≤ length es).
      take_all (length es) (fs ++ f ∷ []) ge ∙ sym (same (omega (arith, le, ge))))
      (cases_lt (length es) (length (fs ++ f ∷ [])))

  begins_with : {es fs : List Event} {s t : List ℕ} → IsPickedLast r may g turns trace words es s → IsPickedLast r may g turns trace words fs t →
      length es ≤ length fs → take (length es) fs ≡ es
  begins_with {es} p Begun le = take_all (length es) trace (omega (arith, longer p)) ∙ sym (one_run p Begun (omega (arith, le, longer p))).0
  begins_with {es} p (Latest fs t f q few l) le =
      begins_more es fs f (λ k. begins_with p q k) (λ e. (one_run p (Latest fs t f q few l) e).0) le
  begins_with {es} p (Picked fs t f q few none pick) le =
      begins_more es fs f (λ k. begins_with p q k) (λ e. (one_run p (Picked fs t f q few none pick) e).0) le

  -- where an event is lawful and a turn is left, a run isn't over
  not_over : (es fs : List Event) → es ≡ fs → IsOver r may g turns es → length fs < turns → (lawful_events r may g fs ≡ [] → ⊥) → ⊥
  not_over es fs same over few some = ⊎_elim
      (λ full. omega (arith, full, few, ap (λ (xs : List Event). length xs) same))
      (λ none. some (sym (ap (λ (xs : List Event). lawful_events r may g xs) same) ∙ none))
      over

  -- behind a run that is over nothing is picked
  none_behind : {es fs : List Event} {s t : List ℕ} → IsLifoRun r may g turns trace words es s → IsPickedLast r may g turns trace words fs t →
      length fs ≤ length es
  none_behind p Begun = longer p.picked
  none_behind {es} p (Latest fs t f q few l) = ⊎_elim
      (λ (lt : length fs < length es). omega (arith, lt, length-append fs (f ∷ [])))
      (λ (ge : length es ≤ length fs).
      let same = (one_run p.picked q (omega (arith, ge, none_behind p q))).0 in
      absurd (not_over es fs same p.over few
      (λ none. nothing_in f (subst (λ (xs : List Event). Contains xs f) none (latest_lawful r g fs may f l)))))
      (cases_lt (length fs) (length es))
  none_behind {es} p (Picked fs t f q few none pick) = ⊎_elim
      (λ (lt : length fs < length es). omega (arith, lt, length-append fs (f ∷ [])))
      (λ (ge : length es ≤ length fs).
      let same = (one_run p.picked q (omega (arith, ge, none_behind p q))).0 in
      absurd (not_over es fs same p.over few (λ z. omega (arith, pick.0, ap (λ (xs : List Event). length xs) z))))
      (cases_lt (length fs) (length es))

module _ {S M : Type 0} (r : Rules S M) where
  pub picks_are_one : LifoPicksAreOne r
  picks_are_one may g turns trace words es fs s t p q le = begins_with r may g turns trace words p q le

  pub lifo_run_is_one : LifoRunIsOne r
  lifo_run_is_one may g turns trace words es s p = record {
    begins = λ fs t q. begins_with r may g turns trace words q p.picked (none_behind r may g turns trace words p q);
    one =
        λ fs t q.
        let low = none_behind r may g turns trace words p q.picked in
        let high = none_behind r may g turns trace words q p.picked in
        one_run r may g turns trace words q.picked p.picked (omega (arith, low, high));
  }
