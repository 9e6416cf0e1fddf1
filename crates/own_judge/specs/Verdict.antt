-- The verdict of a run: the earliest event at which the book doesn't agree decides.
use Rattle.std.specs.Prelude.{ℕ, ◌+◌, ◌-◌, List, [], ◌∷◌, ◌++◌, replicate, slice_index_or, slice_set}
use Rattle.std.specs.List.{flat_map}
use Rattle.ghs_graph.specs.Graph.{Shape}
use Rattle.own_book.specs.Entry.{Entry}
use Rattle.own_judge.specs.Look.{greeting_of, look_at}
use Rattle.own_judge.specs.declared.end.End.{End}
use Rattle.own_judge.specs.declared.end.End.TheVariants as end
use Rattle.own_judge.specs.declared.look.Amiss.{Amiss}
use Rattle.own_judge.specs.declared.look.Difference.{Difference}
use Rattle.own_judge.specs.declared.look.Greeting.{Greeting}
use Rattle.own_judge.specs.declared.look.Greeting.TheVariants as greeting
use Rattle.own_judge.specs.declared.look.Look.{Look}
use Rattle.own_judge.specs.declared.look.Look.TheVariants as look
use Rattle.own_judge.specs.declared.look.Own.{Own}
use Rattle.own_judge.specs.declared.look.Own.TheVariants as own
use Rattle.peer_network.specs.declared.event.Event.{Event}
use Rattle.peer_network.specs.Events.{event_node}

-- what is known of node v, where these are the nodes from 1 on
abbrev pub own_at : List Own → ℕ → Own
own_at owns v = slice_index_or owns (v - 1) own.Unopened

-- the node's state is known as long as its book agrees
abbrev pub own_after : Look → Own
own_after (look.Agrees state) = own.Known state
own_after (look.Open question) = own.Unknown
own_after look.Silent = own.Unknown
own_after (look.Fails a) = own.Unknown
own_after (look.Differs d) = own.Unknown

-- what comes of each event, where these have happened and this is known of the nodes
abbrev pub looks_behind : List Entry → List ℕ → Shape → List Event → List Own → List Event → List Look
looks_behind book kinds g done owns [] = []
looks_behind book kinds g done owns (e ∷ es) =
    let l = look_at book kinds g done e (own_at owns (event_node e)) in
    l ∷ looks_behind book kinds g (done ++ e ∷ []) (slice_set owns (event_node e - 1) (own_after l)) es

-- a node is opened at its first event
abbrev pub looks : List Entry → List ℕ → Shape → List Event → List Look
looks book kinds g es = looks_behind book kinds g [] (replicate g.nodes own.Unopened) es

-- The book agrees at each event; these questions are open, a line each; the answer to the greeting has a fault; or, at the event behind so
-- many, an answer has a fault or differs.
pub data Verdict : Type 0 where
  Agreed : Verdict
  Asks : (questions : List ℕ) → Verdict
  Ungreeted : Amiss → Verdict
  Failed : ℕ → Amiss → Verdict
  Differed : ℕ → Difference → Verdict

abbrev pub line : List ℕ → List ℕ
line text = text ++ 10 ∷ []

-- the line of a question that is open
abbrev pub question_line : Look → List ℕ
question_line (look.Open question) = line question
question_line (look.Agrees state) = []
question_line look.Silent = []
question_line (look.Fails a) = []
question_line (look.Differs d) = []

abbrev pub questions_in : List Look → List ℕ
questions_in ls = flat_map question_line ls

-- the verdict of what has come of events, behind so many that agreed
abbrev pub verdict_from : ℕ → List Look → Verdict
verdict_from k [] = Agreed
verdict_from k (look.Agrees state ∷ ls) = verdict_from (k + 1) ls
verdict_from k (look.Silent ∷ ls) = verdict_from (k + 1) ls
verdict_from k (look.Open question ∷ ls) = Asks (line question ++ questions_in ls)
verdict_from k (look.Fails a ∷ ls) = Failed k a
verdict_from k (look.Differs d ∷ ls) = Differed k d

-- the greeting comes before all events; without it no kind is known
abbrev pub behind_greeting : List Entry → Shape → List Event → Greeting → Verdict
behind_greeting book g es (greeting.Kinds kinds) = verdict_from 0 (looks book kinds g es)
behind_greeting book g es (greeting.Open question) = Asks (line question ++ questions_in (looks book [] g es))
behind_greeting book g es (greeting.Fails a) = Ungreeted a

abbrev pub verdict : List Entry → Shape → List Event → Verdict
verdict book g es = behind_greeting book g es (greeting_of book)

abbrev pub end_of : Verdict → End
end_of Agreed = end.Agrees
end_of (Asks questions) = end.Asks
end_of (Ungreeted a) = end.Fails
end_of (Failed k a) = end.Fails
end_of (Differed k d) = end.Differs
