use Rattle.std.proofs.Common.{◌≡◌, [], append-nil, rules, string_bytes, sym}
use Rattle.ghs_cli.specs.Networks.{NoPanels}
use Rattle.ghs_cli.proofs.Charted.{one_network_charted}
use Rattle.ghs_cli.proofs.charting.put_panels.Goals as goal

pub loop-place-init : goal.loop-place-init
loop-place-init g c = ([], NoPanels, sym (append-nil c.args.text.now.items))

pub loop-place-preserved : goal.loop-place-preserved
loop-place-preserved g c =
    let named : c.as_str-name.result.now ≡ string_bytes c.index-networks-place.result.name = search rules in
    one_network_charted c.args.protocols.now c.args.options.now c.args.networks.now c.loop-place.place c.in_ok-first.first
    c.index-networks-place.result c.as_str-name.result.now c.args.text.now.items
    c.loop-place.text.items c.put_panels_by.new.text.items c.index-networks-place.is c.loop-place-test.true c.in_ok-first.ensures named
    c.loop-place.invariant c.in_ok-put_panels_by.ensures
