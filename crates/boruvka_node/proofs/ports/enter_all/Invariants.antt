use Rattle.std.proofs.Common.{◌≡◌, ◌≤◌, ◌<◌, ℕ, length, get_or}
use Rattle.boruvka_node.specs.State.{no_port}
use Rattle.boruvka_node.specs.Entering.{entered_port}
use Rattle.boruvka_node.proofs.ports.enter_all.Given as goal

abbrev pub invariant-loop-port : goal.invariant-loop-port
invariant-loop-port l = record {
  long : length l.ports ≡ length l.initial.ports;
  done : (k : ℕ) → k < l.port → get_or l.ports k no_port ≡ entered_port l.entry k (get_or l.initial.ports k no_port);
  rest : (k : ℕ) → l.port ≤ k → get_or l.ports k no_port ≡ get_or l.initial.ports k no_port;
}
