use Rattle.ghs_cli.proofs.Named.{networks_behind}
use Rattle.std.proofs.Common.{◌∙◌}
use Rattle.ghs_cli.proofs.networks.networks_text.Goals as goal

pub returns : goal.returns
returns g c =
    networks_behind c.args.protocols.now c.args.options.now c.args.networks.now c.in_ok-text.text.items c.put_heads.new.text.items
    c.put_networks.new.text.items (c.in_ok-text.ensures.items ∙ c.front_head.ensures) c.in_ok-put_heads.ensures c.in_ok-put_networks.ensures
