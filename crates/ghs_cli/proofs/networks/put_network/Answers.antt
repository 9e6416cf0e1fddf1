use Rattle.std.proofs.Common.{◌≡◌, rules, string_bytes}
use Rattle.peer_sweep.specs.Front.{front_of}
use Rattle.ghs_cli.proofs.Named.{lines_behind}
use Rattle.ghs_cli.proofs.networks.put_network.Goals as goal

pub returns : goal.returns
returns g c =
    let is : c.deref.result.now ≡ front_of c.args.options.now.form (string_bytes c.args.network.now.name) = search rules in
    lines_behind c.args.protocols.now c.args.options.now c.args.network.now c.deref.result.now
    c.args.text.now.items c.put_lines_by.new.text.items is c.in_ok-put_lines_by.ensures
