-- Round 0 of a world at its opening.
use Rattle.std.proofs.Common.{◌≡◌, ◌≢◌, ℕ, ◌+◌, ◌<◌, inl, nat_lt, List, [], refl, sym, ◌∙◌, ap, subst, ⊎_elim, arith}
use Rattle.std.proofs.lemmas.Bool.{cases_eq}
use Rattle.peer_network.specs.declared.event.Event.{Event}
use Rattle.peer_network.specs.declared.event.Event.TheVariants.{Wake, Take}
use Rattle.peer_network.specs.Network.{At}
use Rattle.peer_index.specs.Places.{HasPlace}
use Rattle.peer_machine.specs.Rules.{Rules}
use Rattle.peer_net.specs.NetState.{network}
use Rattle.peer_lengths.specs.Chain.{numbers_of}
use Rattle.peer_runs.specs.WorldState.{WorldState, is_ready}
use Rattle.peer_picking.specs.Kept.{AreCounted, AreRounds, HasOpened, IsRound, RoundState, count_of, taken_in, with_count}
use Rattle.peer_picking.proofs.Rounding.{count_here, count_there, round_with}

module _ {S M : Type 0} (r : Rules S M) (s : WorldState) where
  -- the wakes of the nodes below v are counted
  pub record HasOpenedTo (v : ℕ) (x : RoundState) : Type 0 where
    pub round : IsRound (network s.net) x
    pub wakes : (u : ℕ) → HasPlace (network s.net) (Wake u) → u < v → nat_lt 0 (count_of (network s.net) x (Wake u)) ≡ is_ready r s (Wake u)
    pub takes : (u p : ℕ) → At (network s.net) u p → count_of (network s.net) x (Take u p) ≡ 0

  pub none_opened : (x : RoundState) → IsRound (network s.net) x →
      ((e : Event) → HasPlace (network s.net) e → count_of (network s.net) x e ≡ 0) → HasOpenedTo 1 x
  none_opened x round none = record {
    round = round;
    wakes = λ u has lt. absurd (let low = has.0 in omega (arith, low, lt));
    takes = λ u p at. none (Take u p) at;
  }

  wake_apart : (v u : ℕ) → u ≢ v → Wake u ≢ Wake v
  wake_apart v u ne z = ne (cc z)

  take_apart : (v u p : ℕ) → Take u p ≢ Wake v
  take_apart v u p z = cc z

  pub one_opened : (v n : ℕ) (x : RoundState) → HasPlace (network s.net) (Wake v) → nat_lt 0 n ≡ is_ready r s (Wake v) → HasOpenedTo v x →
      HasOpenedTo (v + 1) (with_count (network s.net) (Wake v) n x)
  one_opened v n x here ready h = record {
    round = round_with (network s.net) x (Wake v) n h.round here;
    wakes = λ u has lt. ⊎_elim
        (λ (same : u ≡ v).
        rw same (ap (nat_lt 0) (count_here (network s.net) x (Wake v) n h.round here) ∙ ready))
        (λ (ne : u ≢ v).
        ap (nat_lt 0) (count_there (network s.net) x (Wake v) (Wake u) n here has (wake_apart v u ne)) ∙ h.wakes u has (omega (arith, lt, ne)))
        (cases_eq u v);
    takes = λ u p at. count_there (network s.net) x (Wake v) (Take u p) n here at (take_apart v u p) ∙ h.takes u p at;
  }

  pub all_opened : (v : ℕ) (x : RoundState) → s.net.graph.nodes < v → HasOpenedTo v x → HasOpened r s x
  all_opened v x past h = record {
    round = h.round;
    wakes = λ u has. h.wakes u has (let high = has.1 in omega (arith, past, high));
    takes = h.takes;
  }

  -- no number waits anywhere
  start : (here next : RoundState) → HasOpened r s here → ((e : Event) → HasPlace (network s.net) e → count_of (network s.net) next e ≡ 0) →
      AreCounted (network s.net) (numbers_of r (network s.net) []) 0 (taken_in (network s.net) here) (taken_in (network s.net) next)
  unfolding numbers_of
  start here next opened none = record {
    node = λ v. omega arith;
    queue = λ v p at. rw (opened.takes v p at, none (Take v p) at) refl;
  }

  none_counted : (here next : RoundState) → s.net.trace ≡ [] → HasOpened r s here →
      ((e : Event) → HasPlace (network s.net) e → count_of (network s.net) next e ≡ 0) →
      AreCounted (network s.net) (numbers_of r (network s.net) s.net.trace) 0 (taken_in (network s.net) here) (taken_in (network s.net) next)
  none_counted here next first opened none =
      subst (λ (es : List Event). AreCounted (network s.net) (numbers_of r (network s.net) es) 0 (taken_in (network s.net) here)
      (taken_in (network s.net) next)) (sym first) (start here next opened none)

  pub rounds_open : (here next : RoundState) → s.net.trace ≡ [] → HasOpened r s here → IsRound (network s.net) next →
      ((e : Event) → HasPlace (network s.net) e → count_of (network s.net) next e ≡ 0) →
      AreRounds r s (record { round = 0; here = here; next = next })
  rounds_open here next first opened round none = record {
    here = opened.round;
    next = round;
    ports = none_counted here next first opened none;
    wakes = record { here = opened.wakes; next = λ v has. none (Wake v) has; first = inl refl };
  }
