-- The program's faults.
use Rattle.std.specs.Prelude.{ℕ}
use Rattle.ghs_gr.specs.declared.fault.GrFault.{GrFault}
use Rattle.ghs_gr.specs.declared.fault.GrFault.TheVariants as gr
use Rattle.ghs_gr.specs.declared.text.TextFault.{TextFault}
use Rattle.ghs_gr.specs.declared.text.TextFault.TheVariants as text
use Rattle.peer_schedule.specs.declared.fault.ReplayFault.{ReplayFault}
use Rattle.peer_schedule.specs.declared.fault.ReplayFault.TheVariants as replay
use Rattle.peer_texts.specs.declared.fault.TraceFault.{TraceFault}
use Rattle.peer_texts.specs.declared.fault.TraceFault.TheVariants as trace
use Rattle.ghs_make.specs.declared.fault.MakeFault.{MakeFault}
use Rattle.ghs_make.specs.declared.fault.MakeFault.TheVariants as make
use Rattle.ghs_report.specs.declared.portions.WriteFault.{WriteFault}
use Rattle.ghs_report.specs.declared.portions.WriteFault.TheVariants as write
use Rattle.peer_steps.specs.declared.fault.StepsFault.{StepsFault}
use Rattle.peer_steps.specs.declared.fault.StepsFault.TheVariants as steps
use Rattle.peer_trace.specs.declared.fault.StoredFault.{StoredFault}
use Rattle.peer_trace.specs.declared.fault.StoredFault.TheVariants as stored
use Rattle.ghs_answers.specs.declared.fault.ServeFault.{ServeFault}
use Rattle.ghs_answers.specs.declared.fault.ServeFault.TheVariants as serve

-- a fault of the reading or of the text, as one of the program
abbrev pub of_gr : GrFault → ServeFault
of_gr gr.Read = serve.Read
of_gr gr.TooLong = serve.TooLong
of_gr gr.Memory = serve.Memory
of_gr (gr.BadLine line) = serve.BadLine line
of_gr (gr.ArcBeforeProblem line) = serve.ArcBeforeProblem line
of_gr (gr.SecondProblem line) = serve.SecondProblem line
of_gr (gr.Number line) = serve.Number line
of_gr (gr.NodeRange line) = serve.NodeRange line
of_gr gr.NoProblem = serve.NoProblem
of_gr (gr.ArcCount said found) = serve.ArcCount said found

-- the same of the reading of a trace, of its text and of a replay
abbrev pub of_text : TextFault → ServeFault
of_text text.Read = serve.Read
of_text text.TooLong = serve.TooLong
of_text text.Memory = serve.Memory

abbrev pub of_trace : TraceFault → ServeFault
of_trace (trace.BadLine line) = serve.TraceBadLine line
of_trace (trace.Number line) = serve.TraceNumber line
of_trace (trace.Count said found) = serve.TraceCount said found
of_trace trace.Memory = serve.Memory

abbrev pub of_stored : StoredFault → ServeFault
of_stored (stored.Other p) = serve.TraceOf p
of_stored stored.Own = serve.TraceOfOwn
of_stored (stored.Trace fault) = of_trace fault

abbrev pub of_replay : ReplayFault → ServeFault
of_replay (replay.NotLawful k) = serve.NotLawful k
of_replay (replay.Unforeseen k) = serve.Unforeseen
of_replay replay.Memory = serve.Memory

-- and of the steps of a stored run
abbrev pub of_steps : StepsFault → ServeFault
of_steps (steps.NotLawful k) = serve.NotLawful k
of_steps steps.Memory = serve.Memory
of_steps (steps.Write written) = serve.Write written

-- and of a network that is made, and of its text
abbrev pub of_make : MakeFault → ServeFault
of_make make.Nodes = serve.NodesOutside
of_make make.LinksGiven = serve.LinksGiven
of_make make.WeightsGiven = serve.WeightsGiven
of_make (make.Links least most) = serve.LinksOutside least most
of_make make.TooManyLinks = serve.TooManyLinks
of_make make.Memory = serve.Memory

abbrev pub of_unwritten : WriteFault → ServeFault
of_unwritten write.Memory = serve.Memory
of_unwritten (write.Write written) = serve.Write written

-- the exit status: 1 for input that is refused, 3 for a run that hasn't ended or states above their limit, 4 for lack of memory or of a thread,
-- 5 for a read or a write that failed, 6 for a state without a rule or workers that stop without a reason
abbrev pub status_of : ServeFault → ℕ
status_of (serve.BadLine line) = 1
status_of (serve.ArcBeforeProblem line) = 1
status_of (serve.SecondProblem line) = 1
status_of (serve.Number line) = 1
status_of (serve.NodeRange line) = 1
status_of serve.NoProblem = 1
status_of (serve.NoNode node) = 1
status_of (serve.ArcCount said found) = 1
status_of serve.TooLong = 1
status_of (serve.TraceBadLine line) = 1
status_of (serve.TraceNumber line) = 1
status_of (serve.TraceCount said found) = 1
status_of (serve.TraceOf p) = 1
status_of serve.TraceOfOwn = 1
status_of (serve.NotLawful k) = 1
status_of serve.PageTooLarge = 1
status_of serve.NodesOutside = 1
status_of serve.LinksGiven = 1
status_of serve.WeightsGiven = 1
status_of (serve.LinksOutside least most) = 1
status_of serve.TooManyLinks = 1
status_of serve.TooLargeToExplore = 1
status_of serve.TooManyKinds = 1
status_of (serve.NoSuchEnd ends) = 1
status_of (serve.StateLimit limit) = 3
status_of serve.PartLimit = 3
status_of serve.TurnLimit = 3
status_of serve.Stalled = 3
status_of serve.NotEnded = 3
status_of serve.Memory = 4
status_of serve.NoThread = 4
status_of serve.Read = 5
status_of (serve.Write written) = 5
status_of serve.Strange = 6
status_of serve.Unforeseen = 6
