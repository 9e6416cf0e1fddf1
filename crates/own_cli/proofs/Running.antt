-- What goes out of a run by a book is of that run.
use Rattle.std.proofs.Common.{List, Option, Result, Ok, Err}
use Rattle.std.specs.Prelude.{IfErr, IfOk}
use Rattle.ghs_choices.specs.declared.check.Check.{Check}
use Rattle.ghs_graph.specs.Graph.{Shape}
use Rattle.own_book.specs.Entry.{Entry}
use Rattle.own_rules.specs.declared.run.BookRun.{BookRun}
use Rattle.ghs_commands.specs.declared.job.RunOptions.{RunOptions}
use Rattle.own_cli.specs.Run.{IsOutputOf, IsOwnOutput, IsOwnRun, StopsOutput, StopsOwn}
use Rattle.own_cli.specs.declared.run.OwnOutput.{OwnOutput}
use Rattle.ghs_answers.specs.declared.fault.ServeFault.{ServeFault}
use Rattle.ghs_answers.specs.declared.fault.ServeFault.TheVariants as serve

module _ (o : RunOptions) (check : Option Check) (g : Shape) (book : List Entry) (ran : BookRun) (run : IsOwnRun o check g book ran) where
  pub output_of_run : (x : Result OwnOutput ServeFault) →
      IfOk x (λ out. IsOutputOf o.show book g ran out.end out.text.items) →
      IfOk x (λ out. IsOwnOutput o check g book out.end out.text.items)
  output_of_run (Ok out) printed = record { ran = ran; run = run; printed = printed }
  output_of_run (Err fault) printed = tt

  stop_so : (fault : ServeFault) → StopsOutput o.show ran fault → StopsOwn o check g book fault
  stop_so serve.TurnLimit stops = record { ran = ran; run = run; stops = stops }
  stop_so serve.Memory stops = tt
  stop_so fault stops = absurd stops

  pub stop_of_run : (x : Result OwnOutput ServeFault) → IfErr x (StopsOutput o.show ran) → IfErr x (StopsOwn o check g book)
  stop_of_run (Ok out) stops = tt
  stop_of_run (Err fault) stops = stop_so fault stops
