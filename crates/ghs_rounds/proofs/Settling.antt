-- The next round.
use Rattle.std.proofs.Common.{◌≡◌, ℕ, suc, ◌<◌, ◌≤◌, Bool, true, ◌&&◌, not, Some, List, [], ◌∷◌, length, filter, refl, sym, ◌∙◌, ap, subst, ⊎_elim, inl, inr, ◌⊎◌, arith}
use Rattle.std.specs.List.{All, Contains, slice_get}
use Rattle.std.proofs.lemmas.Bool.{and_from, and_parts, cases_Bool, le-leb}
use Rattle.ghs_graph.specs.Graph.{Shape, IsGraph}
use Rattle.ghs_graph.proofs.lemmas.Members.{filter_has, first_in, in_filter, nothing_in}
use Rattle.ghs_node.specs.declared.message.Message.{Message}
use Rattle.peer_network.specs.declared.event.Event.{Event}
use Rattle.peer_network.specs.declared.event.Event.TheVariants.{Wake, Take}
use Rattle.ghs_protocol.specs.Marks.{HasEnded}
use Rattle.ghs_protocol.specs.Net.{Net, is_lawful_under, is_waiting, opening}
use Rattle.peer_network.specs.Network.{is_port, Network}
use Rattle.ghs_protocol.specs.Run.{IsRun, run}
use Rattle.ghs_protocol.specs.Schedules.{PatienceLasts}
use Rattle.peer_network.proofs.lemmas.Events.{is_port_of}
use Rattle.ghs_protocol.proofs.lemmas.Queues.{all_first, all_rest}
use Rattle.ghs_protocol.proofs.lemmas.Runs.{after_is_net}
use Rattle.ghs_core.specs.NetState.{network}
use Rattle.peer_index.specs.Places.{all_events}
use Rattle.peer_index.proofs.lemmas.Marks.{is_for, mark_is}
use Rattle.ghs_world.specs.WorldState.{WorldState, home, wakers}
use Rattle.peer_network.proofs.lemmas.Waking.{each_is_woken}
use Rattle.std.proofs.lemmas.List.Elements.{All-nil}
use Rattle.peer_chains.specs.Chains.{Chains, no_chains}
use Rattle.peer_chains.specs.Kept.{Fits, seen}
use Rattle.ghs_following.proofs.lemmas.Following.{none_are}
use Rattle.ghs_patient.specs.Patience.{moves_on, or_else, patient_events, puts_back, second_goes, uncovers}
use Rattle.ghs_patient.proofs.lemmas.Picks.{is_net, some_patient}
use Rattle.ghs_rounds.specs.Choices.{AreChoices, AreChoicesBut, AreRounds, ChoicesState, HasSettled, IsPast, RoundsState, events_of, hides_in, marked_all, moves_in}
use Rattle.ghs_rounds.specs.Clock.{ClockState}
use Rattle.ghs_rounds.specs.Rounds.{has_due_second, hides_due, is_by, is_due, moves_due}
use Rattle.ghs_following.proofs.lemmas.Lengths.{SameLengths, same_lengths}
use Rattle.ghs_rounds.proofs.Marking.{all_right, right_all}
use Rattle.ghs_patient.proofs.lemmas.Picked.{second_there}
use Rattle.ghs_patient.proofs.lemmas.Places.{placed_of}

-- the clock of the next round
abbrev pub advanced : ClockState → ClockState
advanced k = record k { round = suc k.round }

-- Of a queue whose numbers are no greater than the round the next round says the same.
by_next : (t r : ℕ) → t ≤ r → is_by (suc r) (Some t) ≡ is_by r (Some t)
by_next t r le = le-leb t (suc r) (omega (arith, le)) ∙ sym (le-leb t r le)

first_next : (ts : List ℕ) (r : ℕ) → All (λ t. t ≤ r) ts → is_by (suc r) (slice_get ts 0) ≡ is_by r (slice_get ts 0)
first_next [] r all = refl
first_next (t ∷ ts) r all = by_next t r (all_first (λ t. t ≤ r) t ts all)

second_next : (ts : List ℕ) (r : ℕ) → All (λ t. t ≤ r) ts → is_by (suc r) (slice_get ts 1) ≡ is_by r (slice_get ts 1)
second_next [] r all = refl
second_next (t ∷ []) r all = refl
second_next (t ∷ (u ∷ us)) r all = by_next u r (all_first (λ t. t ≤ r) u us (all_rest (λ t. t ≤ r) t (u ∷ us) all))

due_next : (k : ClockState) (f : Event) → IsPast k f → is_due (seen k.kept) (suc k.round) f ≡ is_due (seen k.kept) k.round f
due_next k (Wake v) past = refl
due_next k (Take v p) past = first_next ((seen k.kept).queue v p) k.round past

second_due_next : (k : ClockState) (f : Event) → IsPast k f → has_due_second (seen k.kept) (suc k.round) f ≡ has_due_second (seen k.kept) k.round f
second_due_next k (Wake v) past = refl
second_due_next k (Take v p) past = second_next ((seen k.kept).queue v p) k.round past

module _ (s : WorldState) (x : RoundsState) (are : AreRounds s x) where
  but_fresh : AreChoicesBut s (advanced x.clock) (λ f. Contains x.fresh f) x.choices
  but_fresh = record {
    for_all = record {
      moving = is_for (network s.net) (moves_in s x.clock) x.choices.moving are.choices.moving;
      hidden = is_for (network s.net) (hides_in s x.clock) x.choices.hidden are.choices.hidden;
    };
    moving = λ f there none.
        mark_is (network s.net) (moves_in s x.clock) x.choices.moving f are.choices.moving there
        ∙ sym (ap (λ (b : Bool). moves_on (wakers s) (network s.net) (home s) f && b) (due_next x.clock f (are.past f there none)));
    hidden = λ f there none.
        mark_is (network s.net) (hides_in s x.clock) x.choices.hidden f are.choices.hidden there
        ∙ sym (ap (λ (b : Bool). puts_back (home s) f && b) (second_due_next x.clock f (are.past f there none)));
  }

  pub next_round : AreRounds s (record { clock = advanced x.clock; choices = marked_all s (advanced x.clock) x.fresh x.choices; fresh = [] })
  next_round = record {
    chains = are.chains;
    by_round = record {
      node = λ v. let a = are.by_round.node v in omega (arith, a);
      queue = λ v p i d lt. let a = are.by_round.queue v p i d lt in omega (arith, a);
    };
    choices = all_right s (advanced x.clock) (λ f. Contains x.fresh f × (Contains x.fresh f → ⊥)) _
        (right_all s (advanced x.clock) (λ f. Contains x.fresh f) x.fresh x.choices but_fresh are.places) (λ f there w. w.1 w.0);
    places = λ f h. absurd (nothing_in f h);
    past = λ f there none. past f;
  }
    where
      past : (f : Event) → IsPast (advanced x.clock) f
      past (Wake v) = tt
      past (Take v p) = are.by_round.queue v p

-- In the next round something may come, until the run has ended.
first_by : (ts : List ℕ) (ms : List Message) (r : ℕ) → All (λ t. t ≤ r) ts → length ts ≡ length ms → is_waiting ms ≡ true →
    is_by r (slice_get ts 0) ≡ true
first_by ts [] r all many w = cc
first_by [] (m ∷ ms) r all many w = absurd (let z : 0 ≡ suc (length ms) = many in omega (arith, z))
first_by (t ∷ ts) (m ∷ ms) r all many w = le-leb t r (all_first (λ t. t ≤ r) t ts all)

module _ (g : Network) (may : ℕ → Bool) (w : Net) (c : Chains) (r : ℕ) (same : SameLengths w c)
    (by : (v p : ℕ) → All (λ t. t ≤ r) (c.queue v p)) where
  due : (e : Event) → is_lawful_under may g w e ≡ true → is_due c r e ≡ true
  due (Wake v) t = refl
  due (Take v p) t = first_by (c.queue v p) (w.queue v p) r (by v p) (same.queue v p) (and_parts (is_port g v p) _ t).1

  second_by : (v p : ℕ) (ts : List ℕ) (ms : List Message) → All (λ t. t ≤ r) ts → length ts ≡ length ms → second_goes (w.node v) p ms ≡ true →
      is_by r (slice_get ts 1) ≡ true
  second_by v p ts [] all many t = cc
  second_by v p ts (m ∷ []) all many t = cc
  second_by v p [] (m ∷ (k ∷ ms)) all many t = absurd (let z : 0 ≡ suc (suc (length ms)) = many in omega (arith, z))
  second_by v p (a ∷ []) (m ∷ (k ∷ ms)) all many t = absurd (let z : 1 ≡ suc (suc (length ms)) = many in omega (arith, z))
  second_by v p (a ∷ (b ∷ ts)) (m ∷ (k ∷ ms)) all many t = le-leb b r (all_first (λ t. t ≤ r) b ts (all_rest (λ t. t ≤ r) a (b ∷ ts) all))

  some_of : (es fs : List Event) (e : Event) → Contains es e ⊎ Contains fs e → 0 < length (or_else es fs)
  some_of [] fs e h = ⊎_elim (λ k. absurd (nothing_in e k)) (λ k. let lt = k.1 in omega (arith, lt)) h
  some_of (x ∷ es) fs e h = omega arith

  some_first : (es : List Event) → 0 < length es → (e : Event) × Contains es e
  some_first [] lt = absurd (omega (arith, lt))
  some_first (e ∷ es) lt = (e, first_in e es)

  moving : (e : Event) → Contains (all_events g) e → moves_on may g w e ≡ true → Contains (filter (moves_due may g w c r) (all_events g)) e
  moving e there t = filter_has (moves_due may g w c r) (all_events g) e there
      (and_from (moves_on may g w e) (is_due c r e) t (due e (and_parts (is_lawful_under may g w e) _ t).0))

  hiding : (e : Event) → Contains (all_events g) e → uncovers w e ≡ true → (moves_on may g w e ≡ true → ⊥) →
      Contains (filter (hides_due w c r) (all_events g)) e
  hiding (Wake v) there t none = cc
  hiding (Take v p) there t none =
      let lawful : is_lawful_under may g w (Take v p) ≡ true =
      and_from (is_port g v p) (is_waiting (w.queue v p)) (is_port_of g v p (placed_of g (Take v p) there))
      (second_there (w.node v) p (w.queue v p) t) in
      let back : puts_back w (Take v p) ≡ true =
      ⊎_elim (λ z. z) (λ z. absurd (none (and_from _ (not (puts_back w (Take v p))) lawful (ap not z)))) (cases_Bool (puts_back w (Take v p))) in
      filter_has (hides_due w c r) (all_events g) (Take v p) there
      (and_from (puts_back w (Take v p)) _ back (second_by v p (c.queue v p) (w.queue v p) (by v p) (same.queue v p) t))

  pub some_now : 0 < length (patient_events may g w) →
      0 < length (or_else (filter (moves_due may g w c r) (all_events g)) (filter (hides_due w c r) (all_events g)))
  some_now lt = go (filter (moves_on may g w) (all_events g)) refl lt
    where
      go : (es : List Event) → filter (moves_on may g w) (all_events g) ≡ es → 0 < length (or_else es (filter (uncovers w) (all_events g))) →
          0 < length (or_else (filter (moves_due may g w c r) (all_events g)) (filter (hides_due w c r) (all_events g)))
      go [] is lt =
          let z = some_first (filter (uncovers w) (all_events g)) lt in
          let k = in_filter (uncovers w) (all_events g) z.0 z.1 in
          some_of _ _ z.0
          (inr (hiding z.0 k.0 k.1
          (λ t. nothing_in z.0 (subst (λ (es : List Event). Contains es z.0) is (filter_has (moves_on may g w) (all_events g) z.0 k.0 t)))))
      go (e ∷ es) is lt =
          let k = in_filter (moves_on may g w) (all_events g) e (subst (λ (fs : List Event). Contains fs e) (sym is) (first_in e es)) in
          some_of _ _ e (inl (moving e k.0 k.1))

pub some_next : (s : WorldState) (x : RoundsState) → AreRounds s x → IsGraph s.net.graph → IsRun (network s.net) s.net.trace → PatienceLasts →
    (HasEnded s.net.graph (home s) → ⊥) → 0 < length (events_of s (advanced x.clock))
some_next s x are graph is_run law going =
    let r : run (network s.net) s.net.trace (opening (network s.net)) ≡ Some (home s) = after_is_net s.net.graph s.net.trace is_run in
    let same : SameLengths (home s) (seen x.clock.kept) =
    subst (λ (c : Chains). SameLengths (home s) c) (sym are.chains.same) (same_lengths (network s.net) s.net.trace (home s) r) in
    some_now (network s.net) (wakers s) (home s) (seen x.clock.kept) (suc x.clock.round) same are.by_round.queue
    (some_patient s.net.graph (wakers s) (home s) law (is_net s.net graph is_run) (each_is_woken s.net.graph s.wake graph) going)

-- the next round has begun, where this one was over
pub settled : (s : WorldState) (x : RoundsState) → AreRounds s x → IsGraph s.net.graph → IsRun (network s.net) s.net.trace → PatienceLasts →
    (HasEnded s.net.graph (home s) → ⊥) → (clock : ClockState) (choices : ChoicesState) (fresh some : List Event) → clock ≡ advanced x.clock →
    choices ≡ marked_all s clock some x.choices → some ≡ x.fresh → fresh ≡ [] → events_of s x.clock ≡ [] →
    HasSettled s x (record { clock = clock; choices = choices; fresh = fresh })
settled s x are graph is_run law going clock choices fresh some is_clock is_choices is_some is_fresh over =
    rw (is_choices, is_some, is_fresh, is_clock) (record {
      rounds = next_round s x are;
      some = some_next s x are graph is_run law going;
      clock = inr (refl, over);
    })

-- the first round, of a world that stands at its opening
pub begun : (s : WorldState) (clock : ClockState) (choices : ChoicesState) (fresh : List Event) (g : Shape) → g ≡ s.net.graph → s.net.trace ≡ [] →
    Fits g clock.kept →
    seen clock.kept ≡ no_chains → AreChoices s clock choices → fresh ≡ [] → AreRounds s (record { clock = clock; choices = choices; fresh = fresh })
begun s clock choices fresh g graph trace fits none are is_fresh = record {
  chains = none_are s.net clock.kept g (sym graph) trace fits none;
  by_round = record { node = λ v. rw none (omega arith); queue = λ v p. rw none (All-nil (λ t. t ≤ suc clock.round)) };
  choices = are;
  places = λ f h. absurd (nothing_in f (subst (λ (fs : List Event). Contains fs f) is_fresh h));
  past = λ f there no. past f;
}
  where
    past : (f : Event) → IsPast clock f
    past (Wake v) = tt
    past (Take v p) = rw none (All-nil (λ t. t ≤ clock.round))
