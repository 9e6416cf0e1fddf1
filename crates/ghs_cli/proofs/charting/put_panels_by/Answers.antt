use Rattle.std.proofs.Common.{◌≡◌, ◌+◌, [], append-nil, arith, refl, rules, sym}
use Rattle.std.specs.List.{slice_index_or}
use Rattle.peer_trace.specs.declared.protocol.Protocol.TheVariants.{Ghs}
use Rattle.ghs_cli.specs.Fronts.{panel_name}
use Rattle.ghs_cli.specs.Charts.{NoPanel}
use Rattle.ghs_cli.proofs.Charted.{all_panels, one_panel_more}
use Rattle.ghs_cli.proofs.charting.put_panels_by.Goals as goal

pub loop-index-init : goal.loop-index-init
loop-index-init g c = ([], NoPanel, sym (append-nil c.args.text.now.items))

pub loop-index-preserved : goal.loop-index-preserved
loop-index-preserved g c =
    let p = slice_index_or c.args.protocols.now c.loop-index.index Ghs in
    let named : c.as_str-name.result.now ≡ panel_name c.are_several-several.result c.args.name.now p = search rules in
    let at : c.in-Some.place ≡ c.args.first + c.loop-index.index = search rules in
    one_panel_more c.args.protocols.now c.are_several-several.result c.args.options.now c.args.first c.args.name.now c.as_str-name.result.now
    c.args.graph.now c.loop-index.index c.in-Some.place p c.args.text.now.items c.loop-index.text.items
    c.put_network_panel.new.text.items refl c.loop-index-test.true at named c.loop-index.invariant
    c.in_ok-put_network_panel.ensures

pub returns : goal.returns
returns g c =
    all_panels c.args.protocols.now c.are_several-several.result c.args.options.now c.args.first c.args.name.now c.args.graph.now
    c.loop-index.index c.args.text.now.items c.loop-index.text.items c.are_several-several.ensures (omega arith) c.loop-index.invariant
