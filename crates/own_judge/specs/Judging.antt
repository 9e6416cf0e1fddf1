-- What the judge has gathered while it goes over the events of a run.
use Rattle.std.specs.Prelude.{◌≡◌, ℕ, ◌+◌, Bool, true, false, List, [], ◌∷◌, ◌++◌, Option, Some, None}
use Rattle.ghs_graph.specs.Graph.{Shape}
use Rattle.ghs_sched.specs.Replays.{IsFirstUnlawful}
use Rattle.own_judge.specs.Report.{amiss_text, difference_text, event_text, row_text, verdict_text}
use Rattle.own_judge.specs.Verdict.{Asks, Verdict, end_of, questions_in, verdict_from}
use Rattle.own_judge.specs.declared.end.End.{End}
use Rattle.own_judge.specs.declared.end.End.TheVariants as end
use Rattle.own_judge.specs.declared.look.Look.{Look}
use Rattle.own_judge.specs.declared.look.Look.TheVariants as look
use Rattle.peer_network.specs.declared.event.Event.{Event}
use Rattle.peer_network.specs.declared.wake_set.WakeSet.{WakeSet}
use Rattle.peer_network.specs.Events.{event_node}
use Rattle.peer_schedule.specs.declared.fault.ReplayFault.{ReplayFault}
use Rattle.peer_schedule.specs.declared.fault.ReplayFault.TheVariants.{NotLawful, Unforeseen, Memory}

abbrev pub is_open : Look → Bool
is_open (look.Open question) = true
is_open (look.Agrees state) = false
is_open look.Silent = false
is_open (look.Fails a) = false
is_open (look.Differs d) = false

-- the verdict of what comes of the events behind so many; where a question has been open already, these have been
abbrev pub carried : Bool → List ℕ → ℕ → List Look → Verdict
carried true questions k ls = Asks (questions ++ questions_in ls)
carried false questions k ls = verdict_from k ls

-- how a verdict ends, and what is printed of it
pub record IsTold (g : Shape) (es : List Event) (v : Verdict) (end : End) (text : List ℕ) : Type 0 where
  pub ends : end ≡ end_of v
  pub printed : text ≡ verdict_text g es v

-- an event that decides: its text is appended, and the judging ends
abbrev pub HasDecided : Shape → List Event → Event → Look → List ℕ → List ℕ → Option End → Type 0
HasDecided g done e (look.Fails a) old new ends = (ends ≡ Some end.Fails) × (new ≡ old ++ event_text g done e ++ amiss_text a)
HasDecided g done e (look.Differs d) old new ends =
    (ends ≡ Some end.Differs) × (new ≡ old ++ event_text g done e ++ row_text g done e ++ difference_text g (event_node e) d)
HasDecided g done e (look.Agrees state) old new ends = (ends ≡ None) × (new ≡ old)
HasDecided g done e (look.Open question) old new ends = (ends ≡ None) × (new ≡ old)
HasDecided g done e look.Silent old new ends = (ends ≡ None) × (new ≡ old)

-- an event that doesn't end the judging: what comes of the events behind it is gone on with
pub record GoesOn (l : Look) (asked : Bool) (old : List ℕ) (asked' : Bool) (new : List ℕ) : Type 0 where
  pub on : (k : ℕ) (ls : List Look) → carried asked old k (l ∷ ls) ≡ carried asked' new (k + 1) ls
  pub unasked : asked' ≡ false → new ≡ []

abbrev pub HasWeighed : Shape → List Event → Event → Look → Bool → List ℕ → Bool → List ℕ → Option End → Type 0
HasWeighed g done e l asked old asked' new None = GoesOn l asked old asked' new
HasWeighed g done e l asked old asked' new (Some ends) = (asked ≡ false) × HasDecided g done e l old new (Some ends)

-- why a stored run isn't judged
abbrev pub CantJudge : Shape → WakeSet → List Event → ReplayFault → Type 0
CantJudge g wake es (NotLawful k) = IsFirstUnlawful g wake es k
CantJudge g wake es (Unforeseen k) = ⊥
CantJudge g wake es Memory = Unit {0}
