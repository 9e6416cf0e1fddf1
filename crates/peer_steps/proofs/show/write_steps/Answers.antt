use Rattle.std.proofs.Common.{inr, ◌∙◌}
use Rattle.peer_steps.proofs.lemmas.Replayed.{replayed}
use Rattle.peer_steps.proofs.show.write_steps.Goals as goal

pub write_run-requires-clause-run : goal.write_run-requires-clause-run
write_run-requires-clause-run g c =
    rw (c.into_graph.ensures ∙ c.in-Ok.ensures.ok.graph)
    (replayed g.P.Protocol.rules c.args.graph c.args.wake c.args.events.now _ c.in-Ok.ensures.ok c.net.ensures.run).0

pub returns-in-Ok-write_run-clause-run : goal.returns-in-Ok-write_run-clause-run
returns-in-Ok-write_run-clause-run g c = replayed g.P.Protocol.rules c.args.graph c.args.wake c.args.events.now _ c.in-Ok.ensures.ok c.net.ensures.run

pub returns-in-Err-Memory-clause-err : goal.returns-in-Err-Memory-clause-err
returns-in-Err-Memory-clause-err g c =
    inr (
      replayed g.P.Protocol.rules c.args.graph c.args.wake c.args.events.now _ c.in-Ok.ensures.ok c.net.ensures.run,
      rw (c.into_graph.ensures ∙ c.in-Ok.ensures.ok.graph, c.in-Err-Memory.field-0-is) at c.in-Err-Memory.ensures.err,
    )

pub returns-in-Err-Write-clause-err : goal.returns-in-Err-Write-clause-err
returns-in-Err-Write-clause-err g c = (
  replayed g.P.Protocol.rules c.args.graph c.args.wake c.args.events.now _ c.in-Ok.ensures.ok c.net.ensures.run,
  rw (c.into_graph.ensures ∙ c.in-Ok.ensures.ok.graph, c.in-Err-Write.field-0-is) at c.in-Err-Write.ensures.err,
)
