use Rattle.std.proofs.Common.{subst, sym}
use Rattle.ghs_graph.specs.Graph.{IsGraph}
use Rattle.ghs_outcomes.specs.Outcomes.{by_ghs}
use Rattle.ghs_outcomes.proofs.Telling.{outcomes}
use Rattle.ghs_outcomes.proofs.ghs.outcomes_text.Goals as goal

pub returns : goal.returns
returns c =
    let x = c.args.explored.now in
    outcomes by_ghs c.args.graph.now x.graph c.args.wake x.wake c.args.limit x.rows x.states c.in_ok-text.text.items c.put_runs.new.text.items
    c.requires.graph c.requires.wake c.requires.few c.rows.ensures.ends
    (c.law_range.ensures x.graph x.wake x.rows (subst IsGraph (sym c.requires.graph) c.nodes.ensures.graph) c.rows.ensures.ends)
    (rw (c.states.ensures.number) at c.states.ensures.states) c.in_ok-text.ensures c.in_ok-put_runs.ensures
