use Rattle.std.proofs.Common.{◌<◌, length, rules}
use Rattle.ghs_outcomes.specs.Outcomes.{by_any}
use Rattle.ghs_outcomes.proofs.Telling.{no_runs, one_more}
use Rattle.ghs_outcomes.proofs.any.put_runs.Goals as goal

pub loop-k-init : goal.loop-k-init
loop-k-init g c =
    no_runs (by_any g.P.Protocol.rules g.P.Spoken.words.kind g.P.Protocol.bound c.args.protocol) c.args.explored.now.graph c.args.explored.now.wake
    c.args.explored.now.rows c.args.text.now.items

pub loop-k-preserved : goal.loop-k-preserved
loop-k-preserved g c =
    let x = c.args.explored.now in
    let within : c.loop-k.k < length x.rows = search rules in
    one_more (by_any g.P.Protocol.rules g.P.Spoken.words.kind g.P.Protocol.bound c.args.protocol) x.graph x.wake x.rows c.loop-k.k
    c.in_ok-events.events.items c.deref.result.now c.in_ok-run.run'.items c.deref-in-loop-k.result.now c.args.text.now.items c.loop-k.text.items
    c.extend_from_slice.new.self.items within c.loop-k.invariant c.in_ok-events.ensures.ends
    c.deref.ensures.value c.in_ok-run.ensures c.deref-in-loop-k.ensures.value c.in_ok-extend_from_slice.ensures.items
