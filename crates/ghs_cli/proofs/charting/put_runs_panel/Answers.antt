use Rattle.std.proofs.Common.{refl}
use Rattle.peer_sweep.specs.declared.measure.Measure.TheVariants.{Chain, Requeued, Sent}
use Rattle.ghs_cli.proofs.Charted.{many_rising}
use Rattle.ghs_cli.proofs.charting.put_runs_panel.Goals as goal

pub put_panel-requires-clause-sent : goal.put_panel-requires-clause-sent
put_panel-requires-clause-sent c =
    many_rising Sent (λ f. f.sent) (λ f. refl) c.args.runs.now c.in_ok-sent.sent.items c.deref.result.now c.deref.ensures.value
    c.in_ok-sent.ensures c.requires.some
    c.requires.few

pub put_panel-requires-clause-requeued : goal.put_panel-requires-clause-requeued
put_panel-requires-clause-requeued c =
    many_rising Requeued (λ f. f.requeued) (λ f. refl) c.args.runs.now c.in_ok-requeued.requeued.items c.deref-2.result.now
    c.deref-2.ensures.value c.in_ok-requeued.ensures
    c.requires.some c.requires.few

pub put_panel-requires-clause-chains : goal.put_panel-requires-clause-chains
put_panel-requires-clause-chains c =
    many_rising Chain (λ f. f.lengths.chain) (λ f. refl) c.args.runs.now c.in_ok-chains.chains.items c.deref-3.result.now
    c.deref-3.ensures.value c.in_ok-chains.ensures c.requires.some
    c.requires.few
