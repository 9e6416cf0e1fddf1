use Rattle.std.proofs.Common.{◌≡◌, List, ℕ, Option, Vec, Global, refl, subst}
use Rattle.std.specs.Prelude.{IfOk, IfSome, Result}
use Rattle.peer_trace.specs.declared.protocol.Protocol.{Protocol}
use Rattle.ghs_commands.specs.declared.job.SweepOptions.{SweepOptions}
use Rattle.ghs_answers.specs.declared.fault.ServeFault.{ServeFault}
use Rattle.ghs_cli.specs.Charts.{IsSweepText}
use Rattle.ghs_commands.specs.declared.job.Task.TheVariants as task
use Rattle.ghs_cli.specs.Serving.{IsOfText, Serves}
use Rattle.ghs_cli.proofs.Ending.{ends_as, ends_other}
use Rattle.ghs_answers.proofs.lemmas.Known.{for_some}
use Rattle.ghs_cli.proofs.Serves.{serves_as, serves_stored, serves_unread, unread_as, unread_by, unwritten_as, unwritten_but_for_write}
use Rattle.ghs_cli.proofs.serve.serve.Goals as goal

-- what is printed of these protocols, which a list lends
text_of_these : (ps qs : List Protocol) (o : SweepOptions) (left : Option (List ℕ)) (r : Result (Vec ℕ Global) ServeFault) → ps ≡ qs →
    IfOk r (λ text. IfSome left (λ input. IsOfText o.wake (IsSweepText ps o.sheet o) input text.items)) →
    IfOk r (λ text. IfSome left (λ input. IsOfText o.wake (IsSweepText qs o.sheet o) input text.items))
text_of_these ps qs o left r same =
    subst (λ (l : List Protocol). IfOk r (λ text. IfSome left (λ input. IsOfText o.wake (IsSweepText l o.sheet o) input text.items))) same

pub returns-in-Tree-clause-serves : goal.returns-in-Tree-clause-serves
returns-in-Tree-clause-serves g c =
    serves_as c.args.job.now.task (task.Tree c.in-Tree.core) (g.T.Source.left c.args.trace.now) (g.R.Source.left c.args.graph.now) _ _
    c.print.result c.in-Tree.is
    (serves_unread (task.Tree c.in-Tree.core) (g.R.Source.left c.args.graph.now) c.tree_text_of.result _ _
    c.print.result refl refl c.tree_text_of.ensures.early c.print.ensures.printed
    (λ s. c.tree_text_of.ensures.text) (λ s. c.tree_text_of.ensures.fault))

pub returns-in-Tree-clause-ends : goal.returns-in-Tree-clause-ends
returns-in-Tree-clause-ends g c =
    ends_other c.args.job.now.task (task.Tree c.in-Tree.core) (g.R.Source.left c.args.graph.now) c.print.result c.in-Tree.is (λ i bounded. bounded)

pub returns-in-Tree-clause-unwritten : goal.returns-in-Tree-clause-unwritten
returns-in-Tree-clause-unwritten g c = unwritten_but_for_write c.args.job.now.task _ _ c.print.result c.print.ensures.unwritten

pub returns-in-Tree-clause-trace : goal.returns-in-Tree-clause-trace
returns-in-Tree-clause-trace g c = unread_as c.args.job.now.task (task.Tree c.in-Tree.core) _ _ c.in-Tree.is (λ reads. refl)

pub returns-in-Replay-clause-serves : goal.returns-in-Replay-clause-serves
returns-in-Replay-clause-serves g c =
    serves_as c.args.job.now.task (task.Replay c.in-Replay.protocol c.in-Replay.wake) (g.T.Source.left c.args.trace.now)
    (g.R.Source.left c.args.graph.now) _ _
    c.print-in-Replay.result c.in-Replay.is
    (serves_stored (task.Replay c.in-Replay.protocol c.in-Replay.wake) (g.T.Source.left c.args.trace.now) (g.R.Source.left c.args.graph.now)
    c.replay_text_of.result _ _
    c.print-in-Replay.result refl refl c.replay_text_of.ensures.early c.print-in-Replay.ensures.printed
    c.replay_text_of.ensures.text c.replay_text_of.ensures.fault)

pub returns-in-Replay-clause-ends : goal.returns-in-Replay-clause-ends
returns-in-Replay-clause-ends g c =
    ends_other c.args.job.now.task (task.Replay c.in-Replay.protocol c.in-Replay.wake) (g.R.Source.left c.args.graph.now)
    c.print-in-Replay.result c.in-Replay.is (λ i bounded. bounded)

pub returns-in-Replay-clause-unwritten : goal.returns-in-Replay-clause-unwritten
returns-in-Replay-clause-unwritten g c =
    unwritten_but_for_write c.args.job.now.task _ _ c.print-in-Replay.result c.print-in-Replay.ensures.unwritten

pub returns-in-Replay-clause-trace : goal.returns-in-Replay-clause-trace
returns-in-Replay-clause-trace g c = unread_as c.args.job.now.task (task.Replay c.in-Replay.protocol c.in-Replay.wake) _ _ c.in-Replay.is
    (unread_by (task.Replay c.in-Replay.protocol c.in-Replay.wake) _ _ refl)

pub returns-in-Sweep-clause-serves : goal.returns-in-Sweep-clause-serves
returns-in-Sweep-clause-serves g c =
    serves_as c.args.job.now.task (task.Sweep c.in-Sweep.protocols c.in-Sweep.options) (g.T.Source.left c.args.trace.now)
    (g.R.Source.left c.args.graph.now) _ _
    c.print-in-Sweep.result c.in-Sweep.is
    (serves_unread (task.Sweep c.in-Sweep.protocols c.in-Sweep.options) (g.R.Source.left c.args.graph.now) c.sweep_text_of.result _ _
    c.print-in-Sweep.result refl refl c.sweep_text_of.ensures.early c.print-in-Sweep.ensures.printed
    (λ s. text_of_these c.deref.result.now c.in-Sweep.protocols.items c.in-Sweep.options (g.R.Source.left c.args.graph.now) c.sweep_text_of.result
    c.deref.ensures.value c.sweep_text_of.ensures.text) (λ s. c.sweep_text_of.ensures.fault))

pub returns-in-Sweep-clause-ends : goal.returns-in-Sweep-clause-ends
returns-in-Sweep-clause-ends g c =
    ends_other c.args.job.now.task (task.Sweep c.in-Sweep.protocols c.in-Sweep.options)
    (g.R.Source.left c.args.graph.now) c.print-in-Sweep.result c.in-Sweep.is (λ i bounded. bounded)

pub returns-in-Sweep-clause-unwritten : goal.returns-in-Sweep-clause-unwritten
returns-in-Sweep-clause-unwritten g c = unwritten_but_for_write c.args.job.now.task _ _ c.print-in-Sweep.result c.print-in-Sweep.ensures.unwritten

pub returns-in-Sweep-clause-trace : goal.returns-in-Sweep-clause-trace
returns-in-Sweep-clause-trace g c = unread_as c.args.job.now.task (task.Sweep c.in-Sweep.protocols c.in-Sweep.options) _ _ c.in-Sweep.is
    (λ reads. refl)

pub returns-in-View-clause-serves : goal.returns-in-View-clause-serves
returns-in-View-clause-serves g c =
    serves_as c.args.job.now.task (task.View c.in-View.protocol c.in-View.options) (g.T.Source.left c.args.trace.now)
    (g.R.Source.left c.args.graph.now) _ _
    c.print-in-View.result c.in-View.is
    (serves_unread (task.View c.in-View.protocol c.in-View.options) (g.R.Source.left c.args.graph.now) c.view_text_of.result _ _
    c.print-in-View.result refl refl c.view_text_of.ensures.early c.print-in-View.ensures.printed
    (λ s. c.view_text_of.ensures.text) (λ s. c.view_text_of.ensures.fault))

pub returns-in-View-clause-ends : goal.returns-in-View-clause-ends
returns-in-View-clause-ends g c =
    ends_other c.args.job.now.task (task.View c.in-View.protocol c.in-View.options)
    (g.R.Source.left c.args.graph.now) c.print-in-View.result c.in-View.is (λ i bounded. bounded)

pub returns-in-View-clause-unwritten : goal.returns-in-View-clause-unwritten
returns-in-View-clause-unwritten g c = unwritten_but_for_write c.args.job.now.task _ _ c.print-in-View.result c.print-in-View.ensures.unwritten

pub returns-in-View-clause-trace : goal.returns-in-View-clause-trace
returns-in-View-clause-trace g c = unread_as c.args.job.now.task (task.View c.in-View.protocol c.in-View.options) _ _ c.in-View.is (λ reads. refl)

pub returns-in-StoredView-clause-serves : goal.returns-in-StoredView-clause-serves
returns-in-StoredView-clause-serves g c =
    let page = task.StoredView c.in-StoredView.protocol c.in-StoredView.options in
    serves_as c.args.job.now.task page (g.T.Source.left c.args.trace.now) (g.R.Source.left c.args.graph.now) _ _
    c.print-in-StoredView.result c.in-StoredView.is
    (serves_stored page (g.T.Source.left c.args.trace.now) (g.R.Source.left c.args.graph.now) c.stored_view_of.result _ _
    c.print-in-StoredView.result refl refl c.stored_view_of.ensures.early c.print-in-StoredView.ensures.printed
    c.stored_view_of.ensures.text c.stored_view_of.ensures.fault)

pub returns-in-StoredView-clause-ends : goal.returns-in-StoredView-clause-ends
returns-in-StoredView-clause-ends g c =
    let page = task.StoredView c.in-StoredView.protocol c.in-StoredView.options in
    ends_other c.args.job.now.task page (g.R.Source.left c.args.graph.now) c.print-in-StoredView.result c.in-StoredView.is (λ i bounded. bounded)

pub returns-in-StoredView-clause-unwritten : goal.returns-in-StoredView-clause-unwritten
returns-in-StoredView-clause-unwritten g c =
    unwritten_but_for_write c.args.job.now.task _ _ c.print-in-StoredView.result c.print-in-StoredView.ensures.unwritten

pub returns-in-StoredView-clause-trace : goal.returns-in-StoredView-clause-trace
returns-in-StoredView-clause-trace g c =
    let page = task.StoredView c.in-StoredView.protocol c.in-StoredView.options in
    unread_as c.args.job.now.task page _ _ c.in-StoredView.is (unread_by page _ _ refl)

pub returns-in-Explore-clause-serves : goal.returns-in-Explore-clause-serves
returns-in-Explore-clause-serves g c =
    serves_as c.args.job.now.task (task.Explore c.in-Explore.protocol c.in-Explore.options) (g.T.Source.left c.args.trace.now)
    (g.R.Source.left c.args.graph.now) _ _
    c.print-in-Explore.result c.in-Explore.is
    (serves_unread (task.Explore c.in-Explore.protocol c.in-Explore.options) (g.R.Source.left c.args.graph.now) c.explored_text_of.result _ _
    c.print-in-Explore.result refl refl c.explored_text_of.ensures.early c.print-in-Explore.ensures.printed
    (λ s. c.explored_text_of.ensures.text) (λ s. c.explored_text_of.ensures.fault))

pub returns-in-Explore-clause-ends : goal.returns-in-Explore-clause-ends
returns-in-Explore-clause-ends g c =
    ends_other c.args.job.now.task (task.Explore c.in-Explore.protocol c.in-Explore.options)
    (g.R.Source.left c.args.graph.now) c.print-in-Explore.result
    c.in-Explore.is (λ i bounded. bounded)

pub returns-in-Explore-clause-unwritten : goal.returns-in-Explore-clause-unwritten
returns-in-Explore-clause-unwritten g c =
    unwritten_but_for_write c.args.job.now.task _ _ c.print-in-Explore.result c.print-in-Explore.ensures.unwritten

pub returns-in-Explore-clause-trace : goal.returns-in-Explore-clause-trace
returns-in-Explore-clause-trace g c = unread_as c.args.job.now.task
    (task.Explore c.in-Explore.protocol c.in-Explore.options) _ _ c.in-Explore.is (λ reads. refl)

pub returns-in-Run-clause-serves : goal.returns-in-Run-clause-serves
returns-in-Run-clause-serves g c =
    serves_as c.args.job.now.task (task.Run c.in-Run.protocol c.in-Run.options) (g.T.Source.left c.args.trace.now)
    (g.R.Source.left c.args.graph.now) _ _
    c.write_run_of.result c.in-Run.is c.write_run_of.ensures.serves

pub returns-in-Run-clause-ends : goal.returns-in-Run-clause-ends
returns-in-Run-clause-ends g c =
    ends_as c.args.job.now.task (task.Run c.in-Run.protocol c.in-Run.options) (g.R.Source.left c.args.graph.now) c.write_run_of.result c.in-Run.is
    c.write_run_of.ensures.ends

pub returns-in-Run-clause-unwritten : goal.returns-in-Run-clause-unwritten
returns-in-Run-clause-unwritten g c =
    unwritten_as c.args.job.now.task (task.Run c.in-Run.protocol c.in-Run.options) _ _ c.write_run_of.result c.in-Run.is
    c.write_run_of.ensures.unwritten

pub returns-in-Run-clause-trace : goal.returns-in-Run-clause-trace
returns-in-Run-clause-trace g c = unread_as c.args.job.now.task (task.Run c.in-Run.protocol c.in-Run.options) _ _ c.in-Run.is (λ reads. refl)

pub returns-in-Steps-clause-serves : goal.returns-in-Steps-clause-serves
returns-in-Steps-clause-serves g c =
    serves_as c.args.job.now.task (task.Steps c.in-Steps.protocol c.in-Steps.options) (g.T.Source.left c.args.trace.now)
    (g.R.Source.left c.args.graph.now) _ _
    c.write_steps_of.result c.in-Steps.is c.write_steps_of.ensures.serves

pub returns-in-Steps-clause-ends : goal.returns-in-Steps-clause-ends
returns-in-Steps-clause-ends g c =
    ends_other c.args.job.now.task (task.Steps c.in-Steps.protocol c.in-Steps.options)
    (g.R.Source.left c.args.graph.now) c.write_steps_of.result c.in-Steps.is (λ i bounded. bounded)

pub returns-in-Steps-clause-unwritten : goal.returns-in-Steps-clause-unwritten
returns-in-Steps-clause-unwritten g c =
    unwritten_as c.args.job.now.task (task.Steps c.in-Steps.protocol c.in-Steps.options) _ _ c.write_steps_of.result c.in-Steps.is
    c.write_steps_of.ensures.unwritten

pub returns-in-Steps-clause-trace : goal.returns-in-Steps-clause-trace
returns-in-Steps-clause-trace g c = unread_as c.args.job.now.task (task.Steps c.in-Steps.protocol c.in-Steps.options) _ _ c.in-Steps.is
    (unread_by (task.Steps c.in-Steps.protocol c.in-Steps.options) _ _ refl)

pub returns-in-Make-clause-serves : goal.returns-in-Make-clause-serves
returns-in-Make-clause-serves g c =
    serves_as c.args.job.now.task (task.Make c.in-Make.asked) (g.T.Source.left c.args.trace.now) (g.R.Source.left c.args.graph.now) _ _
    c.write_network_of.result c.in-Make.is
    (λ s. for_some (g.R.Source.left c.args.graph.now) (λ i. Serves (task.Make c.in-Make.asked) s i _ _ c.write_network_of.result)
    (c.write_network_of.ensures.serves s))

pub returns-in-Make-clause-ends : goal.returns-in-Make-clause-ends
returns-in-Make-clause-ends g c =
    ends_other c.args.job.now.task (task.Make c.in-Make.asked) (g.R.Source.left c.args.graph.now) c.write_network_of.result c.in-Make.is
    (λ i bounded. bounded)

pub returns-in-Make-clause-unwritten : goal.returns-in-Make-clause-unwritten
returns-in-Make-clause-unwritten g c =
    unwritten_as c.args.job.now.task (task.Make c.in-Make.asked) _ _ c.write_network_of.result c.in-Make.is c.write_network_of.ensures.unwritten

pub returns-in-Make-clause-trace : goal.returns-in-Make-clause-trace
returns-in-Make-clause-trace g c = unread_as c.args.job.now.task (task.Make c.in-Make.asked) _ _ c.in-Make.is (λ reads. refl)
