-- Runs done again: the first event that isn't lawful, and that a run has none.
use Rattle.std.proofs.Common.{◌≡◌, ◌+◌, ◌-◌, ◌<◌, ◌∙◌, ℕ, suc, true, false, List, [], ◌∷◌, ◌++◌, length, take, drop, get_or, Some, sym, ap, subst, arith, length-take-le}
use Rattle.std.specs.Result.{is_err, OnErr, OnOk}
use Rattle.std.specs.Prelude.{Result, Ok, Err}
use Rattle.std.proofs.Math.Seq.{split_at}
use Rattle.std.proofs.lemmas.Bool.{false≢true}
use Rattle.std.proofs.lemmas.Option.{slice_get-get_or, get_or_from_slice_get, slice_get_within}
use Rattle.std.proofs.lemmas.List.{take_more}
use Rattle.ghs_graph.specs.Graph.{Shape}
use Rattle.peer_network.specs.declared.event.Event.{Event}
use Rattle.peer_network.specs.Network.{network_of}
use Rattle.peer_network.specs.Events.{MayWake}
use Rattle.peer_network.proofs.lemmas.Events.{if_some}
use Rattle.peer_network.specs.declared.wake_set.WakeSet.{WakeSet}
use Rattle.peer_network.specs.Wakes.{may_wake}
use Rattle.peer_machine.specs.Rules.{Rules}
use Rattle.peer_machine.specs.Net.{Net, effect, happens, is_lawful, opening}
use Rattle.peer_machine.specs.Run.{IsRunUnder, net_after, run}
use Rattle.peer_machine.proofs.lemmas.Runs.{both_some, net_after_is, run_splits}
use Rattle.peer_net.specs.NetState.{network}
use Rattle.peer_runs.specs.Lawful.{is_lawful_under}
use Rattle.peer_runs.specs.WorldState.{WorldState, wakers, is_ready, HasPlayed}
use Rattle.peer_runs.specs.Replays.{HasReplayed, IsFirstUnlawful}
use Rattle.peer_runs.proofs.lemmas.Lawful.{lawful_from}

-- one event more
pub replayed_more : {S M : Type 0} (r : Rules S M) (g : Shape) (wake : WakeSet) (es : List Event) (i : ℕ) (d : Event) (s new : WorldState) →
    HasReplayed g wake (take i es) s → i < length es → HasPlayed r s (get_or es i d) new → HasReplayed g wake (take (i + 1) es) new
replayed_more r g wake es i d s new done lt played = record {
  graph = played.graph ∙ done.graph;
  wake_set = played.wake ∙ done.wake_set;
  trace = played.trace ∙ ap (λ (l : List Event). l ++ get_or es i d ∷ []) done.trace ∙ sym (take_more es i d lt);
}

module _ {S M : Type 0} (r : Rules S M) (g : Shape) (wake : WakeSet) (es : List Event) where
  -- the first event that isn't ready is the first that isn't lawful
  pub first_unlawful : (i k : ℕ) (s : WorldState) (d : Event) → HasReplayed g wake (take i es) s → i < length es →
      is_ready r s (get_or es i d) ≡ false → IsRunUnder r (wakers s) (network s.net) s.net.trace → k ≡ length s.net.trace →
      IsFirstUnlawful r g wake es (k + 1)
  first_unlawful i k s d done lt refused is_run same =
      let many : length (take i es) ≡ i = length-take-le i es (omega (arith, lt)) in
      let is : k ≡ i = same ∙ ap (λ (l : List Event). length l) done.trace ∙ many in
      let back : i + 1 - 1 ≡ i = omega arith in
      rw is (record {
        counted = omega arith;
        event = get_or es i d;
        here = rw back (slice_get-get_or es i d lt);
        before = rw (back, ← done.trace, ← done.wake_set, ← done.graph) is_run;
        unlawful = rw (back, ← done.trace, ← done.wake_set, ← done.graph) refused;
      })

  -- what happens is lawful
  lawful_if : (w x : Net S M) (e : Event) → happens r (network_of g) w e ≡ Some x → is_lawful r (network_of g) w e ≡ true
  lawful_if w x e h = if_some (is_lawful r (network_of g) w e) (effect r (network_of g) w e) x h (λ lawful _. lawful)

  -- each event of a run is lawful where it stands
  lawful_at : (j : ℕ) (d : Event) → IsRunUnder r (may_wake g wake) (network_of g) es → j < length es →
      is_lawful_under r (may_wake g wake) (network_of g) (net_after r g (take j es)) (get_or es j d) ≡ true
  lawful_at j d is_run lt =
      let n = network_of g in
      let e = get_or es j d in
      let cut : es ≡ take j es ++ e ∷ drop (suc j) es = split_at es j d lt in
      let whole : run r n (take j es ++ e ∷ drop (suc j) es) (opening r n) ≡ Some is_run.0.0 =
      subst (λ fs. run r n fs (opening r n) ≡ Some is_run.0.0) cut is_run.0.1 in
      let may_e : MayWake (may_wake g wake) e = is_run.1 j d lt in
      run_splits r n (take j es) (e ∷ drop (suc j) es) (opening r n) is_run.0.0 whole (λ x front rest.
      both_some r (happens r n x e) (λ y. run r n (drop (suc j) es) y) is_run.0.0 rest (λ y here _.
      subst (λ w. is_lawful_under r (may_wake g wake) n w e ≡ true) (sym (net_after_is r g (take j es) x front))
      (lawful_from r (may_wake g wake) n x e may_e (lawful_if x y e here))))

  -- so a run has none that isn't
  pub never_unlawful : (k : ℕ) → IsRunUnder r (may_wake g wake) (network_of g) es → IsFirstUnlawful r g wake es k → ⊥
  never_unlawful k is_run first =
      let lt = slice_get_within es (k - 1) first.event first.here in
      let at = get_or_from_slice_get es (k - 1) first.event first.event first.here in
      false≢true (sym first.unlawful
      ∙ subst (λ e. is_lawful_under r (may_wake g wake) (network_of g) (net_after r g (take (k - 1) es)) e ≡ true) at
      (lawful_at (k - 1) first.event is_run lt))

-- what holds if there is none, where there is none
pub on_ok : {A E P : Type 0} (r : Result A E) → is_err r ≡ false → OnOk r P → P
on_ok (Ok x) h p = p
on_ok (Err e) h p = cc

-- what holds if there is an error, where there is one
pub on_err : {A E P : Type 0} (r : Result A E) → is_err r ≡ true → OnErr r P → P
on_err (Ok x) h p = cc
on_err (Err e) h p = p
