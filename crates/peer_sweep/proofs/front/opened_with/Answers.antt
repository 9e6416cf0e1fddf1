use Rattle.std.proofs.Common.{rules}
use Rattle.peer_sweep.proofs.Naming.{print_opened}
use Rattle.peer_sweep.proofs.front.opened_with.Goals as goal

pub returns : goal.returns
returns c = search (rules, print_opened c.args.name.now)
