-- What a run by what is kept of a world comes to.
use Rattle.std.proofs.Common.{◌≡◌, ℕ, true, List, [], refl}
use Rattle.peer_network.specs.declared.event.Event.{Event}
use Rattle.ghs_protocol.specs.Marks.{HasEnded}
use Rattle.ghs_protocol.specs.Schedules.{IsPatientIn}
use Rattle.ghs_core.specs.NetState.{network}
use Rattle.ghs_world.specs.WorldState.{WorldState, has_turn, home, wakers}
use Rattle.ghs_sched.specs.Picks as Picks
use Rattle.ghs_sched.specs.Picks.{IsPickedAmong, Offers}
use Rattle.ghs_sched.specs.Runs.{HasRunAmong, HasRunBy}
use Rattle.ghs_sched.proofs.lemmas.Runs.{among_more, run_begins, run_stays}
use Rattle.ghs_patient.specs.Keeping.{Begun, HasGone, HasGoneOn, IsNextAmong, Stayed, Then}
use Rattle.ghs_patient.proofs.lemmas.Growing.{HasGrown, grown_next, grown_not, grown_stays}

-- Where one event more leaves a run of the kind, the whole is one.
module _ (is_next : WorldState → List ℕ → Event → List ℕ → Type 0) (old : WorldState) (words : List ℕ) (leads : List Event → List ℕ → Type 0)
    (begun : leads old.net.trace words)
    (more : (s new : WorldState) (used after : List ℕ) → HasRunBy leads old s used → (HasEnded s.net.graph (home s) → ⊥) → has_turn s ≡ true →
    HasGoneOn is_next s new used after → HasRunBy leads old new after) where
  pub gone_run : {new : WorldState} {after : List ℕ} → HasGone is_next (record old { outs = [] }) words new after → HasRunBy leads old new after
  gone_run Begun = run_begins leads old (record old { outs = [] }) words begun refl
  gone_run (Then s new used after gone going turn next) = more s new used after (gone_run gone) going turn next
  gone_run (Stayed s new used gone same) = run_stays leads old s new used (gone_run gone) same

  -- and where each is patient, its trace has grown patiently
  module _ (patient : (s : WorldState) (used after : List ℕ) (e : Event) → s.outs ≡ [] → is_next s used e after →
      IsPatientIn (network s.net) (home s) e) where
    pub gone_grown : {new : WorldState} {after : List ℕ} → HasGone is_next (record old { outs = [] }) words new after →
        HasGrown old.net.graph old.net.trace new.net.trace
    gone_grown Begun = grown_not old.net.graph old.net.trace
    gone_grown (Then s new used after gone going turn next) =
        let run = gone_run gone in
        grown_next old.net.graph old.net.trace s new next.event run.graph (patient s used after next.event run.outs next.next) next.made
        (gone_grown gone)
    gone_grown (Stayed s new used gone same) = grown_stays old.net.graph old.net.trace s new same (gone_grown gone)

-- Where a schedule's words pick of the events that are offered.
module _ (offers : Offers) (old : WorldState) (words : List ℕ) where
  among_next : (s new : WorldState) (used after : List ℕ) → HasRunAmong offers old s words used → (HasEnded s.net.graph (home s) → ⊥) →
      has_turn s ≡ true → HasGoneOn (IsNextAmong offers) s new used after → HasRunAmong offers old new words after
  among_next s new used after run going turn on =
      among_more offers old s new words used after run going turn
      (record { event = on.event; pick = on.next.0; made = on.made; rest = on.next.1 })

  pub among_run : {new : WorldState} {after : List ℕ} → HasGone (IsNextAmong offers) (record old { outs = [] }) words new after →
      HasRunAmong offers old new words after
  among_run gone =
      gone_run (IsNextAmong offers) old words (IsPickedAmong offers (wakers old) old.net.graph old.turns old.net.trace words) Picks.Begun
      among_next gone

  pub among_grown : (patient : (s : WorldState) (used after : List ℕ) (e : Event) → s.outs ≡ [] → IsNextAmong offers s used e after →
      IsPatientIn (network s.net) (home s) e) →
      {new : WorldState} {after : List ℕ} → HasGone (IsNextAmong offers) (record old { outs = [] }) words new after →
      HasGrown old.net.graph old.net.trace new.net.trace
  among_grown patient gone =
      gone_grown (IsNextAmong offers) old words (IsPickedAmong offers (wakers old) old.net.graph old.turns old.net.trace words) Picks.Begun
      among_next patient gone
