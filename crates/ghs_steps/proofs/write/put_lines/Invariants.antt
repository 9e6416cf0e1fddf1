use Rattle.std.proofs.Common.{◌≡◌, ◌++◌, take}
use Rattle.std.specs.List.{flat_map}
use Rattle.ghs_steps.specs.Lines.{line_in}
use Rattle.ghs_steps.specs.Step.{steps}
use Rattle.ghs_steps.proofs.write.put_lines.Given as goal

abbrev pub invariant-loop-event : goal.invariant-loop-event
invariant-loop-event l = record {
  graph : l.net.graph ≡ l.fn.graph;
  trace : l.net.trace ≡ take l.event-index l.events;
  text : l.text.items ≡ l.fn.text.items ++ flat_map (line_in l.form) (steps l.fn.graph (take l.event-index l.events));
}
