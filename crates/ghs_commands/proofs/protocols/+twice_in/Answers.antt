use Rattle.std.proofs.Common.{◌∙◌, None, Some, sym, rules, tests, lit<}
use Rattle.std.specs.Str.{bytes_eq}
use Rattle.std.proofs.lemmas.Iterator.Search.{any_from_yields_List}
use Rattle.std.proofs.lemmas.Iterator.Splits.{YieldsList-from_str_split}
use Rattle.std.proofs.lemmas.Str.Pattern.{split_once_first}
use Rattle.ghs_commands.proofs.Names.{first_name, one_name, stands_again, stands_once}
use Rattle.ghs_commands.proofs.protocols.+twice_in.Goals as goal

pub returns-in_default : goal.returns-in_default
returns-in_default t c = one_name c.args.value.now (split_once_first 44 c.args.value.now None c.in_default.ensures.cases (lit< tt))

pub returns-then-any : goal.returns-then-any
returns-then-any t c =
    let value = c.args.value.now in
    let first = c.in-Some.first.now in
    let rest = c.in-Some.rest.now in
    let parts = YieldsList-from_str_split 44 rest (lit< tt) c.split.ensures.text c.split.ensures.has_more c.split.ensures.pattern in
    stands_again value first rest
    (first_name value first rest (split_once_first 44 value (Some (c.in-Some.first, c.in-Some.rest)) c.in-Some.ensures.cases (lit< tt)))
    (sym (any_from_yields_List (λ m. bytes_eq m first) _ _ c.any.result c.any.ensures.ran parts (λ x b q k. search (rules, tests))) ∙ c.if-any.true)

pub returns : goal.returns
returns t c =
    let value = c.args.value.now in
    let first = c.in-Some.first.now in
    let rest = c.in-Some.rest.now in
    let parts = YieldsList-from_str_split 44 rest (lit< tt) c.split.ensures.text c.split.ensures.has_more c.split.ensures.pattern in
    c.twice_in.ensures
    ∙ stands_once value first rest
    (first_name value first rest (split_once_first 44 value (Some (c.in-Some.first, c.in-Some.rest)) c.in-Some.ensures.cases (lit< tt)))
    (sym (any_from_yields_List (λ m. bytes_eq m first) _ _ c.any.result c.any.ensures.ran parts (λ x b q k. search (rules, tests))) ∙ c.if-any.false)
