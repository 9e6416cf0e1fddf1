use Rattle.std.proofs.Common.{refl}
use Rattle.peer_chains.specs.Kept.{Kept}
use Rattle.peer_chains.proofs.Placing.{one_pushed}
use Rattle.peer_chains.proofs.chains.Chains.push.Goals as goal

pub returns-clause-last : goal.returns-clause-last
returns-clause-last c =
    let k : Kept = record { numbers = c.self.inside.numbers.items; rows = c.self.inside.rows } in
    rw (← c.self.view_is) (one_pushed k _ c.args.v c.args.port c.args.number refl c.in_ok-push.ensures)
