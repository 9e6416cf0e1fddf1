use Rattle.std.proofs.Common.{codes, rules, tests, lit<}
use Rattle.std.specs.Prelude.{not}
use Rattle.std.specs.Str.{bytes_eq}
use Rattle.std.proofs.lemmas.Iterator.Search.{find_from_yields_List}
use Rattle.std.proofs.lemmas.Iterator.Splits.{YieldsList-from_str_split}
use Rattle.ghs_commands.specs.Protocols.{names_of}
use Rattle.ghs_commands.proofs.Names.{none_found, not_not}
use Rattle.ghs_commands.proofs.protocols.other_in.Goals as goal

pub returns : goal.returns
returns c =
    let parts = YieldsList-from_str_split 44 c.in-Some.value.now (lit< tt) c.split.ensures.text c.split.ensures.has_more c.split.ensures.pattern in
    rw c.in-Some.is
    (none_found _ c.find.result (λ n. not (bytes_eq n (codes "ghs"))) (λ n. bytes_eq n (codes "ghs")) (λ n. not_not (bytes_eq n (codes "ghs")))
    (names_of c.in-Some.value.now)
    (find_from_yields_List (λ n. not (bytes_eq n (codes "ghs"))) _ _ c.find.result c.find.ensures.ran parts (λ x b q k. search (rules, tests))))
