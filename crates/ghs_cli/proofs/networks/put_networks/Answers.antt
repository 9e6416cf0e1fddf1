use Rattle.std.proofs.Common.{[], append-nil, sym}
use Rattle.ghs_cli.specs.Networks.{NoNetwork}
use Rattle.ghs_cli.proofs.Named.{one_network_more}
use Rattle.ghs_cli.proofs.networks.put_networks.Goals as goal

pub loop-place-init : goal.loop-place-init
loop-place-init g c = ([], NoNetwork, sym (append-nil c.args.text.now.items))

pub loop-place-preserved : goal.loop-place-preserved
loop-place-preserved g c =
    one_network_more c.args.protocols.now c.args.options.now c.args.networks.now c.loop-place.place c.index-networks-place.result
    c.args.text.now.items c.loop-place.text.items c.put_network.new.text.items c.index-networks-place.is c.loop-place-test.true c.loop-place.invariant
    c.in_ok-put_network.ensures
