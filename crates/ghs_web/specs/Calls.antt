-- What a page is answered, by each protocol. A further protocol has a line in each of these.
use Rattle.std.specs.Prelude.{ℕ, Bool, List}
use Rattle.peer_network.specs.declared.wake_set.WakeSet.{WakeSet}
use Rattle.peer_trace.specs.declared.protocol.Protocol.TheVariants as protocol
use Rattle.peer_trace.specs.declared.protocol.Protocol.{Protocol}
use Rattle.peer_hand.specs.Answers as any
use Rattle.peer_hand.specs.Timed as any_timed
use Rattle.ghs_hand.specs.Answers as ghs
use Rattle.ghs_hand.specs.Timed as ghs_timed
use Rattle.boruvka.specs.Ended as in_step
use Rattle.boruvka.specs.Looks as in_step_looks
use Rattle.boruvka.specs.Words as in_step_words
use Rattle.boruvka_node.specs.Boruvka.{boruvka}
use Rattle.boruvka_protocol.specs.Bound as in_step_bound
use Rattle.echo.specs.Echo as wave
use Rattle.echo.specs.Ended as wave_end
use Rattle.echo.specs.Looks as wave_looks
use Rattle.echo.specs.Words as wave_words
use Rattle.gather.specs.Looks as gather_looks
use Rattle.gather.specs.Words as gather_words
use Rattle.gather_node.specs.Gather.{gather}
use Rattle.gather_protocol.specs.Bound as gather_bound
use Rattle.gather_protocol.specs.Laws as gather_laws

-- of a graph's text and a trace's text what the run so far is, and what may come next, or the first fault
abbrev pub IsSeenBy : Protocol → WakeSet → List ℕ → List ℕ → List ℕ → Type 0
IsSeenBy protocol.Ghs wake graph trace text = ghs.IsSeenAnswer wake graph trace text
IsSeenBy protocol.Boruvka wake graph trace text =
    any.IsSeenAnswer boruvka in_step_words.words in_step_looks.looks in_step_bound.bound_of in_step.HasEnded protocol.Boruvka wake graph trace text
IsSeenBy protocol.Echo wake graph trace text =
    any.IsSeenAnswer wave.echo wave_words.words wave_looks.looks wave.bound_of wave_end.HasEnded protocol.Echo wake graph trace text
IsSeenBy protocol.Gather wake graph trace text =
    any.IsSeenAnswer gather gather_words.words gather_looks.looks gather_bound.bound_of gather_laws.HasEnded protocol.Gather wake graph trace text

-- the run that goes on from there by a seed; that it is patient makes no difference where nothing is deferred
abbrev pub IsRunBy : Protocol → WakeSet → List ℕ → List ℕ → Bool → ℕ → List ℕ → Type 0
IsRunBy protocol.Ghs wake graph trace patient seed text = ghs.IsRunAnswer wake graph trace patient seed text
IsRunBy protocol.Boruvka wake graph trace patient seed text = any.IsRunAnswer boruvka in_step.HasEnded protocol.Boruvka wake graph trace seed text
IsRunBy protocol.Echo wake graph trace patient seed text = any.IsRunAnswer wave.echo wave_end.HasEnded protocol.Echo wake graph trace seed text
IsRunBy protocol.Gather wake graph trace patient seed text = any.IsRunAnswer gather gather_laws.HasEnded protocol.Gather wake graph trace seed text

-- the run by rounds that a seed picks
abbrev pub IsTimedBy : Protocol → WakeSet → List ℕ → ℕ → List ℕ → Type 0
IsTimedBy protocol.Ghs wake graph seed text = ghs_timed.IsTimedAnswer wake graph seed text
IsTimedBy protocol.Boruvka wake graph seed text = any_timed.IsTimedAnswer boruvka in_step.HasEnded protocol.Boruvka wake graph seed text
IsTimedBy protocol.Echo wake graph seed text = any_timed.IsTimedAnswer wave.echo wave_end.HasEnded protocol.Echo wake graph seed text
IsTimedBy protocol.Gather wake graph seed text = any_timed.IsTimedAnswer gather gather_laws.HasEnded protocol.Gather wake graph seed text
