use Rattle.std.proofs.Common.{◌≡◌, ◌∷◌, [], List, false, subst, sym}
use Rattle.std.specs.List.{All}
use Rattle.std.proofs.lemmas.List.Elements.{All-cons, All-nil}
use Rattle.clap.specs.declared.builder.arg.Arg.{Arg}
use Rattle.ghs_commands.proofs.grammar.sweep.Goals as goal

-- no argument goes with all commands
pub command-requires : goal.command-requires
command-requires c =
    let P : Arg → Type 0 = λ a. a.global ≡ false in
    let none : List Arg = [] in
    let all_none : All P none = All-nil P in
    let from_seeds_told : List Arg = c.seeds_told.result ∷ none in
    let all_seeds_told : All P from_seeds_told = All-cons P c.seeds_told.result none c.seeds_told.ensures.local all_none in
    let from_json : List Arg = c.json.result ∷ from_seeds_told in
    let all_json : All P from_json = All-cons P c.json.result from_seeds_told c.json.ensures.local all_seeds_told in
    let from_names : List Arg = c.names.result ∷ from_json in
    let all_names : All P from_names = All-cons P c.names.result from_json c.names.ensures.local all_json in
    let from_by : List Arg = c.by.result ∷ from_names in
    let all_by : All P from_by = All-cons P c.by.result from_names c.by.ensures.local all_names in
    let from_sheet : List Arg = c.sheet.result ∷ from_by in
    let all_sheet : All P from_sheet = All-cons P c.sheet.result from_by c.sheet.ensures.local all_by in
    let from_turns : List Arg = c.turns.result ∷ from_sheet in
    let all_turns : All P from_turns = All-cons P c.turns.result from_sheet c.turns.ensures.local all_sheet in
    let from_wake : List Arg = c.wake.result ∷ from_turns in
    let all_wake : All P from_wake = All-cons P c.wake.result from_turns c.wake.ensures.local all_turns in
    let from_sharers : List Arg = c.sharers.result ∷ from_wake in
    let all_sharers : All P from_sharers = All-cons P c.sharers.result from_wake c.sharers.ensures.local all_wake in
    let from_schedule : List Arg = c.schedule.result ∷ from_sharers in
    let all_schedule : All P from_schedule = All-cons P c.schedule.result from_sharers c.schedule.ensures.local all_sharers in
    let from_seeds : List Arg = c.seeds.result ∷ from_schedule in
    let all_seeds : All P from_seeds = All-cons P c.seeds.result from_schedule c.seeds.ensures.local all_schedule in
    let from_check : List Arg = c.check.result ∷ from_seeds in
    let all_check : All P from_check = All-cons P c.check.result from_seeds c.check.ensures.local all_seeds in
    let from_rule_book : List Arg = c.rule_book.result ∷ from_check in
    let all_rule_book : All P from_rule_book = All-cons P c.rule_book.result from_check c.rule_book.ensures.local all_check in
    let from_protocols : List Arg = c.protocols.result ∷ from_rule_book in
    let all_protocols : All P from_protocols = All-cons P c.protocols.result from_rule_book c.protocols.ensures.local all_rule_book in
    let from_files : List Arg = c.files.result ∷ from_protocols in
    let all_files : All P from_files = All-cons P c.files.result from_protocols c.files.ensures.local all_protocols in
    subst (All P) (sym c.in_ok-arguments.ensures.items) all_files
