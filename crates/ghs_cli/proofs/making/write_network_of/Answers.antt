use Rattle.std.proofs.Common.{rules}
use Rattle.ghs_cli.proofs.MadeNetworks.{serves_made, serves_refused, serves_unmade}
use Rattle.ghs_cli.proofs.making.write_network_of.Goals as goal

pub returns-in_err-network-clause-serves : goal.returns-in_err-network-clause-serves
returns-in_err-network-clause-serves g c =
    serves_refused c.args.asked.now (g.W.Sink.held c.args.out.now) c.from_residual.result c.in_err-network.field-0.0 (search rules)
    c.in_err-network.ensures.refused

pub returns-in_err-write_network-clause-serves : goal.returns-in_err-write_network-clause-serves
returns-in_err-write_network-clause-serves g c =
    serves_unmade c.args.asked.now c.in_ok-network.network _ _ c.from_residual-in_err-write_network.result c.in_err-write_network.field-0.0
    (search rules) c.in_ok-network.ensures.network c.in_ok-network.ensures.asked c.in_ok-network.ensures.unrefused
    c.in_err-write_network.ensures.err

pub returns-clause-serves : goal.returns-clause-serves
returns-clause-serves g c =
    serves_made c.args.asked.now c.in_ok-network.network _ _ c.in_ok-network.ensures.network c.in_ok-network.ensures.asked
    c.in_ok-write_network.ensures.ok
