use Rattle.std.proofs.Common.{◌≡◌, ◌≤◌, ◌+◌, length, drop}
use Rattle.ghs_node.specs.declared.message.Message.{Message}
use Rattle.ghs_node.specs.Words.{on_branches, on_branches_from}
use Rattle.ghs_node.proofs.responses.other_branches.Given as goal

abbrev pub invariant-loop-branch : goal.invariant-loop-branch
invariant-loop-branch l = record {
  few : l.count ≤ l.branch;
  counted : (m : Message)
      → l.count + length (on_branches_from l.branch (drop l.branch l.node.marks) l.port m) ≡ length (on_branches l.node.marks l.port m);
}
