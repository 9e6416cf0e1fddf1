use Rattle.std.proofs.Common.{rules, tests, lit<}
use Rattle.std.proofs.lemmas.Iterator.{YieldsList-from_map, items_from_collect}
use Rattle.std.proofs.lemmas.Iterator.Splits.{YieldsList-from_str_split}
use Rattle.ghs_commands.specs.Protocols.{protocol_by}
use Rattle.ghs_commands.proofs.protocols.protocols_named.Goals as goal

pub returns : goal.returns
returns c =
    items_from_collect _ c.collect.ensures.ran
    (YieldsList-from_map _ protocol_by
    (YieldsList-from_str_split 44 c.args.value.now (lit< tt) (cc) (cc) (cc))
    c.map.ensures.closure (λ x r q k. search (rules, tests)))
