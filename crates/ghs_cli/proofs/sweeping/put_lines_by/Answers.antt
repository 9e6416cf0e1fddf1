use Rattle.std.proofs.Common.{◌≡◌, [], append-nil, arith, refl, rules, sym}
use Rattle.std.specs.List.{slice_index_or}
use Rattle.peer_trace.specs.declared.protocol.Protocol.TheVariants.{Ghs}
use Rattle.ghs_cli.specs.Fronts.{front_by}
use Rattle.ghs_cli.specs.Sweeping.{NoProtocol}
use Rattle.ghs_cli.proofs.Sheets.{all_lines, one_protocol_more}
use Rattle.ghs_cli.proofs.sweeping.put_lines_by.Goals as goal

pub loop-protocol-init : goal.loop-protocol-init
loop-protocol-init g c = ([], NoProtocol, sym (append-nil c.args.text.now.items))

pub loop-protocol-preserved : goal.loop-protocol-preserved
loop-protocol-preserved g c =
    let o = c.args.options.now in
    let p = slice_index_or c.args.protocols.now c.loop-protocol.protocol-index Ghs in
    let begun : c.deref.result.now ≡ front_by c.says_protocol-says.result o.form c.args.front.now p = search rules in
    one_protocol_more c.args.protocols.now c.says_protocol-says.result o c.args.front.now c.deref.result.now
    c.args.graph.now c.loop-protocol.protocol-index p c.args.text.now.items c.loop-protocol.text.items
    c.put_lines_of.new.text.items refl c.loop-protocol-test.true begun c.loop-protocol.invariant c.in_ok-put_lines_of.ensures

pub returns : goal.returns
returns g c =
    all_lines c.args.protocols.now c.says_protocol-says.result c.args.options.now c.args.front.now c.args.graph.now
    c.loop-protocol.protocol-index c.args.text.now.items c.loop-protocol.text.items c.says_protocol-says.ensures
    (omega arith) c.loop-protocol.invariant
