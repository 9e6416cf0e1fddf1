use Rattle.std.proofs.Common.{◌≡◌, ◌++◌, vec_capacity}
use Rattle.ghs_shared.specs.Bags.{Bags}
use Rattle.ghs_shared.proofs.queue.ReadyQueue.drain.Given as goal

abbrev pub invariant-loop : goal.invariant-loop
invariant-loop g l = record {
  pass : ◌≡◌ {A = Bags} l.pass record l.initial.pass { taken = l.initial.pass.taken ++ l.rest.items };
  room : vec_capacity l.rest ≡ vec_capacity l.initial.rest;
}
