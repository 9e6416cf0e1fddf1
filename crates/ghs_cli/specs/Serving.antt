-- What the program's work comes to.
use Rattle.std.specs.Prelude.{◌≡◌, ◌⊎◌, ℕ, ◌<◌, ◌≤◌, Bool, true, false, ◌&&◌, ◌||◌, List, length, map, Option, Some, None, Result, Ok, Err, IfSome}
use Rattle.ghs_gr.specs.RawGraph.{RawShape}
use Rattle.ghs_gr.specs.Judgement.{TextIs}
use Rattle.ghs_gr.specs.Text.{IsTooLong}
use Rattle.ghs_gr.specs.declared.fault.GrFault.TheVariants as gr
use Rattle.ghs_graph.specs.declared.key.Key.{Key}
use Rattle.ghs_graph.specs.Graph.{Shape}
use Rattle.ghs_graph.specs.Key.{key_of}
use Rattle.ghs_graph.specs.Links.{IsTree}
use Rattle.ghs_report.specs.Components.{IsOfGraph}
use Rattle.ghs_make.specs.Network.{IsNetwork, IsNetworkOf, IsRefusal}
use Rattle.ghs_make.specs.Text.{text_of}
use Rattle.ghs_make.specs.declared.fault.MakeFault.TheVariants as make
use Rattle.ghs_make.specs.declared.network.Network.{Network}
use Rattle.ghs_make.specs.declared.plan.Asked.{Asked}
use Rattle.ghs_report.specs.TreeText.{tree_text}
use Rattle.ghs_report.specs.Writing.{HasWritten}
use Rattle.peer_network.specs.Wakes.{missing}
use Rattle.peer_network.specs.declared.event.Event.{Event}
use Rattle.peer_network.specs.declared.wake_set.WakeSet.{WakeSet}
use Rattle.peer_network.specs.declared.wake_set.WakeSet.TheVariants.{All}
use Rattle.peer_texts.specs.declared.fault.TraceFault.TheVariants as trace
use Rattle.peer_trace.specs.Reading.{HasEventsOf, HasFaultOf}
use Rattle.peer_trace.specs.declared.fault.StoredFault.{StoredFault}
use Rattle.peer_trace.specs.declared.fault.StoredFault.TheVariants.{Other, Own, Trace}
use Rattle.peer_trace.specs.declared.protocol.Protocol.{Protocol}
use Rattle.ghs_commands.specs.declared.job.Show.{Show}
use Rattle.ghs_commands.specs.declared.job.Show.TheVariants.{Summary, Events, Time}
use Rattle.ghs_commands.specs.declared.job.Task.{Task}
use Rattle.ghs_commands.specs.declared.job.Task.TheVariants as task
use Rattle.ghs_answers.specs.declared.fault.ServeFault.{ServeFault}
use Rattle.ghs_answers.specs.declared.fault.ServeFault.TheVariants as serve
use Rattle.ghs_answers.specs.Causes.{IsStoredCause, is_memory, is_write}
use Rattle.ghs_cli.specs.Charts.{IsSweepText}
use Rattle.ghs_cli.specs.Running.{HaveCores}
use Rattle.ghs_answers.specs.Stepping.{CantTell}
use Rattle.ghs_cli.specs.Verbs.{verbs_of}

-- the keys of a graph's links
abbrev pub keys_of : RawShape → List Key
keys_of g = map key_of g.keys

-- the graph that is built of it
abbrev pub shape_of : RawShape → Shape
shape_of g = record { nodes = g.nodes; keys = keys_of g }

-- the input is the text of this graph, which has each node that the wake set lists
pub record IsRead (wake : WakeSet) (input : List ℕ) (graph : RawShape) : Type 0 where
  pub text : TextIs input (Ok graph)
  pub has : missing wake graph.nodes ≡ None

-- this is the graph that is built of it
abbrev pub IsTextOf : WakeSet → List ℕ → Shape → Type 0
IsTextOf wake input g = (graph : RawShape) × IsRead wake input graph × (g ≡ shape_of graph)

-- what is stored is the text of these events, of a run of the protocol
abbrev pub IsTraceText : Protocol → List ℕ → List Event → Type 0
IsTraceText p stored events = (IsTooLong stored → ⊥) × HasEventsOf p stored events

-- to who asks for a run of this protocol
abbrev pub IsTraceCause : Protocol → List ℕ → ServeFault → Type 0
IsTraceCause p stored = IsStoredCause (HasFaultOf p stored) stored

-- the input gives this fault, or is the text of a graph that lacks a node which the wake set lists; the reader and memory may fail for any
abbrev pub IsGraphCause : WakeSet → List ℕ → ServeFault → Type 0
IsGraphCause wake input (serve.BadLine line) = TextIs input (Err (gr.BadLine line))
IsGraphCause wake input (serve.ArcBeforeProblem line) = TextIs input (Err (gr.ArcBeforeProblem line))
IsGraphCause wake input (serve.SecondProblem line) = TextIs input (Err (gr.SecondProblem line))
IsGraphCause wake input (serve.Number line) = TextIs input (Err (gr.Number line))
IsGraphCause wake input (serve.NodeRange line) = TextIs input (Err (gr.NodeRange line))
IsGraphCause wake input serve.NoProblem = TextIs input (Err gr.NoProblem)
IsGraphCause wake input (serve.ArcCount said found) = TextIs input (Err (gr.ArcCount said found))
IsGraphCause wake input serve.TooLong = TextIs input (Err gr.TooLong)
IsGraphCause wake input (serve.NoNode v) = (graph : RawShape) × TextIs input (Ok graph) × (missing wake graph.nodes ≡ Some v)
IsGraphCause wake input serve.Memory = Unit {0}
IsGraphCause wake input serve.Read = Unit {0}
IsGraphCause wake input _ = ⊥

-- the input is the text of a graph, and the output is of this graph
abbrev pub IsOfText : WakeSet → (Shape → List ℕ → Type 0) → List ℕ → List ℕ → Type 0
IsOfText wake Tells input output = (graph : RawShape) × IsRead wake input graph × Tells (shape_of graph) output

-- why there is no output: the graph's text, or the graph
abbrev pub IsTextCause : WakeSet → (Shape → ServeFault → Type 0) → List ℕ → ServeFault → Type 0
IsTextCause wake Fails input fault = IsGraphCause wake input fault ⊎ ((graph : RawShape) × IsRead wake input graph × Fails (shape_of graph) fault)

-- the input is the text of a graph, what is stored that of events of a protocol, and the output tells of both
pub record IsOfBoth (p : Protocol) (wake : WakeSet) (Tells : Shape → List Event → List ℕ → Type 0) (stored input output : List ℕ) : Type 0 where
  pub graph : RawShape
  pub text : IsRead wake input graph
  pub events : List Event
  pub trace : IsTraceText p stored events
  pub told : Tells (shape_of graph) events output

-- a trace is stored and the input is the text of a graph, and they give this fault together
pub record GiveFault (p : Protocol) (wake : WakeSet) (Fails : Shape → List Event → ServeFault → Type 0)
    (stored input : List ℕ) (fault : ServeFault) : Type 0 where
  pub events : List Event
  pub trace : IsTraceText p stored events
  pub graph : RawShape
  pub text : IsRead wake input graph
  pub cause : Fails (shape_of graph) events fault

-- why there is no output: the trace, which is read first, the graph's text, or both together
abbrev pub IsBothCause : Protocol → WakeSet → (Shape → List Event → ServeFault → Type 0) → List ℕ → List ℕ → ServeFault → Type 0
IsBothCause p wake Fails stored input fault =
    IsTraceCause p stored fault
    ⊎ (((events : List Event) × IsTraceText p stored events × IsGraphCause wake input fault) ⊎ GiveFault p wake Fails stored input fault)

-- the input is the text of a graph, and the output that of its minimum spanning forest, with the cores to which merging it leads,
-- where they are asked for
pub record IsTreeText (core : Bool) (input output : List ℕ) : Type 0 where
  pub graph : RawShape
  pub text : TextIs input (Ok graph)
  pub tree : List Key
  pub least : IsTree (keys_of graph) tree
  pub printed : HaveCores core (shape_of graph) (IsOfGraph (shape_of graph)) (tree_text tree) output

-- the output is the text of the network that is asked for
pub record IsMade (asked : Asked) (output : List ℕ) : Type 0 where
  pub network : Network
  pub sound : IsNetwork network
  pub fits : IsNetworkOf asked network
  pub printed : output ≡ text_of network

-- why a network isn't made: what is asked for is refused, it has too many links, or, if it is neither, memory runs out
abbrev pub IsMakeCause : Asked → ServeFault → Type 0
IsMakeCause asked serve.NodesOutside = IsRefusal asked make.Nodes
IsMakeCause asked serve.LinksGiven = IsRefusal asked make.LinksGiven
IsMakeCause asked serve.WeightsGiven = IsRefusal asked make.WeightsGiven
IsMakeCause asked (serve.LinksOutside least most) = IsRefusal asked (make.Links least most)
IsMakeCause asked serve.TooManyLinks = IsRefusal asked make.TooManyLinks
IsMakeCause asked serve.Memory = IsRefusal asked make.Memory
IsMakeCause asked _ = ⊥

-- whether the events of a run are asked for
abbrev pub is_events : Show → Bool
is_events Events = true
is_events Summary = false
is_events Time = false

-- What a task means: what it prints, of what is stored and of the input; what it prints before it answers that its turns are used; why
-- it doesn't end well; that it never answers by its turns; and whether it shows the events of a run, prints by portions, and reads what
-- is stored.
pub record Meaning : Type 1 where
  pub prints : List ℕ → List ℕ → List ℕ → Type 0
  pub prints_at_limit : List ℕ → List ℕ → List ℕ → Type 0
  pub cause : List ℕ → List ℕ → ServeFault → Type 0
  pub is_bounded : List ℕ → Type 0
  pub shows_events : Bool
  pub by_portions : Bool
  pub reads_trace : Bool

-- a task that prints a whole text, of the input alone
abbrev pub of_input : (List ℕ → List ℕ → Type 0) → (List ℕ → ServeFault → Type 0) → Meaning
of_input prints cause = record {
  prints = λ stored. prints;
  prints_at_limit = λ stored input output. ⊥;
  cause = λ stored. cause;
  is_bounded = λ input. ⊥;
  shows_events = false;
  by_portions = false;
  reads_trace = false;
}

-- and of what is stored
abbrev pub of_both : Protocol → WakeSet → (Shape → List Event → List ℕ → Type 0) → (Shape → List Event → ServeFault → Type 0) → Meaning
of_both p wake Tells Fails = record {
  prints = IsOfBoth p wake Tells;
  prints_at_limit = λ stored input output. ⊥;
  cause = IsBothCause p wake Fails;
  is_bounded = λ input. ⊥;
  shows_events = false;
  by_portions = false;
  reads_trace = true;
}

abbrev pub meaning_of : Task → Meaning
meaning_of (task.Tree core) = of_input (IsTreeText core) (IsGraphCause All)
meaning_of (task.Run p o) = record (of_input (IsOfText o.wake (λ g. (verbs_of p).runs o g false)) (IsTextCause o.wake ((verbs_of p).stops o))) {
  prints_at_limit = λ stored. IsOfText o.wake (λ g. (verbs_of p).runs o g true);
  is_bounded = λ input. (graph : RawShape) × TextIs input (Ok graph) × (verbs_of p).is_bounded o (shape_of graph);
  shows_events = is_events o.show;
}
meaning_of (task.Replay p wake) = of_both p wake ((verbs_of p).replays wake) ((verbs_of p).cant_replay wake)
meaning_of (task.Steps p o) = record (of_both p o.wake ((verbs_of p).tells o) (λ g events. CantTell ((verbs_of p).is_unlawful o.wake g events))) {
  by_portions = true;
}
meaning_of (task.Sweep ps o) = of_input (IsOfText o.wake (IsSweepText ps.items o.sheet o)) (IsGraphCause o.wake)
meaning_of (task.View p o) = of_input (IsOfText o.wake ((verbs_of p).views o)) (IsTextCause o.wake ((verbs_of p).cant_view o))
meaning_of (task.StoredView p o) = of_both p o.wake ((verbs_of p).views_stored o) ((verbs_of p).cant_view_stored o)
meaning_of (task.Explore p o) = of_input (IsOfText o.wake ((verbs_of p).explores o)) (IsTextCause o.wake ((verbs_of p).cant_explore o))
meaning_of (task.Make asked) = record (of_input (λ input. IsMade asked) (λ input. IsMakeCause asked)) { by_portions = true }

-- where the events of a run are asked for, they have gone out before the answer that its turns are used
abbrev pub HasShown : Meaning → List ℕ → List ℕ → Option (List ℕ) → Option (List ℕ) → Type 0
HasShown m stored input old new =
    m.shows_events ≡ true → (output : List ℕ) × m.prints_at_limit stored input output × HasWritten old new output (length output)

-- a task that prints by portions may have printed the first bytes before memory ran out
abbrev pub HasBegun : Meaning → List ℕ → List ℕ → Option (List ℕ) → Option (List ℕ) → Type 0
HasBegun m stored input old new =
    m.by_portions ≡ true →
    (new ≡ old) ⊎ ((output : List ℕ) × m.prints stored input output × ((k : ℕ) × (k ≤ length output) × HasWritten old new output k))

-- what has gone out: all of what the task prints, or only its first bytes, where a write failed
abbrev pub Fulfils : Meaning → List ℕ → List ℕ → Option (List ℕ) → Option (List ℕ) → Result (Unit {0}) ServeFault → Type 0
Fulfils m stored input old new (Ok u) = (output : List ℕ) × m.prints stored input output × HasWritten old new output (length output)
Fulfils m stored input old new (Err (serve.Write written)) =
    (output : List ℕ) × (m.prints stored input output ⊎ m.prints_at_limit stored input output) × (written < length output)
    × HasWritten old new output written
Fulfils m stored input old new (Err serve.TurnLimit) = m.cause stored input serve.TurnLimit × HasShown m stored input old new
Fulfils m stored input old new (Err serve.Memory) = m.cause stored input serve.Memory × HasBegun m stored input old new
Fulfils m stored input old new (Err fault) = m.cause stored input fault

abbrev pub Serves : Task → List ℕ → List ℕ → Option (List ℕ) → Option (List ℕ) → Result (Unit {0}) ServeFault → Type 0
Serves job = Fulfils (meaning_of job)

-- what is stored, where it is read
abbrev pub IfRead : Bool → Option (List ℕ) → (List ℕ → Type 0) → Type 0
IfRead true stored P = IfSome stored P
IfRead false stored P = (bytes : List ℕ) → P bytes

-- and where the task reads it; other tasks read nothing
abbrev pub IfStored : Task → Option (List ℕ) → (List ℕ → Type 0) → Type 0
IfStored job = IfRead (meaning_of job).reads_trace

abbrev pub is_limit : ServeFault → Bool
is_limit serve.TurnLimit = true
is_limit _ = false

-- a fault that may come behind output
abbrev pub is_late : Task → ServeFault → Bool
is_late job fault =
    is_write fault || (is_memory fault && (meaning_of job).by_portions) || (is_limit fault && (meaning_of job).shows_events)

-- where no write was tried, the writer is as it was
abbrev pub IsUnwritten : {W : Type 0} → Task → W → W → Result (Unit {0}) ServeFault → Type 0
IsUnwritten job old new (Ok u) = Unit {0}
IsUnwritten job old new (Err fault) = is_late job fault ≡ false → new ≡ old

-- only a task that reads a stored run touches the trace
abbrev pub IsUnread : {T : Type 0} → Task → T → T → Type 0
IsUnread job old new = (meaning_of job).reads_trace ≡ false → new ≡ old

-- a run with turns for all the events that it may have
abbrev pub IsBoundedTask : Task → List ℕ → Type 0
IsBoundedTask job = (meaning_of job).is_bounded
