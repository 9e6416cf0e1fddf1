-- A fault as a line of JSON.
use Rattle.std.specs.Prelude.{ℕ, List, ◌++◌, codes, decimal}
use Rattle.ghs_gr.specs.declared.fault.GrFault.{GrFault}
use Rattle.ghs_gr.specs.declared.fault.GrFault.TheVariants as gr
use Rattle.peer_texts.specs.declared.fault.TraceFault.{TraceFault}
use Rattle.peer_texts.specs.declared.fault.TraceFault.TheVariants as trace
use Rattle.peer_trace.specs.Protocol.{name_of}
use Rattle.peer_trace.specs.declared.protocol.Protocol.{Protocol}
use Rattle.peer_hand.specs.declared.fault.HandFault.{HandFault}
use Rattle.peer_hand.specs.declared.fault.HandFault.TheVariants.{Graph, Trace, Other, Own, NotLawful, TurnLimit, Memory}

-- a number between words
abbrev pub between : List ℕ → ℕ → List ℕ → List ℕ
between lead n tail = lead ++ decimal n ++ tail

-- a line's number, and what is wrong with it
abbrev pub line_words : ℕ → List ℕ → List ℕ
line_words n what = codes "line " ++ decimal n ++ codes ": " ++ what

-- what a head has said, and what there is
abbrev pub counts_words : List ℕ → ℕ → ℕ → List ℕ
counts_words lead said found = lead ++ decimal said ++ codes ", found " ++ decimal found

unfoldable pub graph_words : GrFault → List ℕ
graph_words gr.Read = codes "read failed"
graph_words gr.TooLong = codes "input too long"
graph_words gr.Memory = codes "out of memory"
graph_words (gr.BadLine n) = line_words n (codes "not a line of this format")
graph_words (gr.ArcBeforeProblem n) = line_words n (codes "arc before the problem line")
graph_words (gr.SecondProblem n) = line_words n (codes "second problem line")
graph_words (gr.Number n) = line_words n (codes "number missing or out of range")
graph_words (gr.NodeRange n) = line_words n (codes "no such node")
graph_words gr.NoProblem = codes "no problem line"
graph_words (gr.ArcCount said found) = counts_words (codes "arcs said ") said found

unfoldable pub trace_words : TraceFault → List ℕ
trace_words (trace.BadLine n) = line_words n (codes "not a line of this format")
trace_words (trace.Number n) = line_words n (codes "number missing or out of range")
trace_words (trace.Count said found) = counts_words (codes "events said ") said found
trace_words trace.Memory = codes "out of memory"

-- a run of another protocol
unfoldable pub other_words : Protocol → List ℕ
other_words p = codes "trace\",\"words\":\"the trace is of --protocol " ++ name_of p

-- an event that isn't lawful, counted from 1
unfoldable pub event_words : ℕ → List ℕ
event_words k = between (codes "event\",\"words\":\"event ") k (codes " is not lawful")

-- what has the fault, and the fault's words
unfoldable pub fault_members : HandFault → List ℕ
fault_members (Graph f) = codes "graph\",\"words\":\"" ++ graph_words f
fault_members (Trace f) = codes "trace\",\"words\":\"" ++ trace_words f
fault_members (Other p) = other_words p
fault_members Own = codes "trace\",\"words\":\"the trace is of --protocol own"
fault_members (NotLawful k) = event_words k
fault_members TurnLimit = codes "run\",\"words\":\"turn limit reached"
fault_members Memory = codes "memory\",\"words\":\"out of memory"

unfoldable pub fault_json : HandFault → List ℕ
fault_json f = codes "{\"fault\":\"" ++ fault_members f ++ codes "\"}\n"
