use Rattle.std.proofs.Common.{◌≡◌, Option, Some, None, refl, rules, tests, lit<}
use Rattle.std.specs.Prelude.{is_none, is_some, not}
use Rattle.std.proofs.lemmas.Iterator.Search.{find_from_yields_List}
use Rattle.std.proofs.lemmas.Iterator.Splits.{YieldsList-from_str_split}
use Rattle.peer_trace.specs.Protocol.{protocol_named}
use Rattle.peer_trace.specs.declared.protocol.Protocol.{Protocol}
use Rattle.ghs_commands.specs.Protocols.{names_of}
use Rattle.ghs_commands.proofs.Names.{none_found}
use Rattle.ghs_commands.proofs.protocols.unknown_in.Goals as goal

some_is : (o : Option Protocol) → is_some o ≡ not (is_none o)
some_is None = refl
some_is (Some p) = refl

pub returns : goal.returns
returns c =
    let parts = YieldsList-from_str_split 44 c.args.value.now (lit< tt) c.split.ensures.text c.split.ensures.has_more c.split.ensures.pattern in
    none_found _ c.find.result (λ n. is_none (protocol_named n)) (λ n. is_some (protocol_named n)) (λ n. some_is (protocol_named n))
    (names_of c.args.value.now)
    (find_from_yields_List (λ n. is_none (protocol_named n)) _ _ c.find.result c.find.ensures.ran parts (λ x b q k. search (rules, tests)))
