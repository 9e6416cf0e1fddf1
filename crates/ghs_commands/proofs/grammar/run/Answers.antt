use Rattle.std.proofs.Common.{◌≡◌, ◌∷◌, [], List, false, subst, sym}
use Rattle.std.specs.List.{All}
use Rattle.std.proofs.lemmas.List.Elements.{All-cons, All-nil}
use Rattle.clap.specs.declared.builder.arg.Arg.{Arg}
use Rattle.ghs_commands.proofs.grammar.run.Goals as goal

-- no argument goes with all commands
pub command-requires : goal.command-requires
command-requires c =
    let P : Arg → Type 0 = λ a. a.global ≡ false in
    let none : List Arg = [] in
    let all_none : All P none = All-nil P in
    let from_tally : List Arg = c.tally.result ∷ none in
    let all_tally : All P from_tally = All-cons P c.tally.result none c.tally.ensures.local all_none in
    let from_progress : List Arg = c.progress.result ∷ from_tally in
    let all_progress : All P from_progress = All-cons P c.progress.result from_tally c.progress.ensures.local all_tally in
    let from_core : List Arg = c.core.result ∷ from_progress in
    let all_core : All P from_core = All-cons P c.core.result from_progress c.core.ensures.local all_progress in
    let from_print : List Arg = c.print.result ∷ from_core in
    let all_print : All P from_print = All-cons P c.print.result from_core c.print.ensures.local all_core in
    let from_turns : List Arg = c.turns.result ∷ from_print in
    let all_turns : All P from_turns = All-cons P c.turns.result from_print c.turns.ensures.local all_print in
    let from_wake : List Arg = c.wake.result ∷ from_turns in
    let all_wake : All P from_wake = All-cons P c.wake.result from_turns c.wake.ensures.local all_turns in
    let from_workers : List Arg = c.workers.result ∷ from_wake in
    let all_workers : All P from_workers = All-cons P c.workers.result from_wake c.workers.ensures.local all_wake in
    let from_schedule : List Arg = c.schedule.result ∷ from_workers in
    let all_schedule : All P from_schedule = All-cons P c.schedule.result from_workers c.schedule.ensures.local all_workers in
    let from_seed : List Arg = c.seed.result ∷ from_schedule in
    let all_seed : All P from_seed = All-cons P c.seed.result from_schedule c.seed.ensures.local all_schedule in
    let from_check : List Arg = c.check.result ∷ from_seed in
    let all_check : All P from_check = All-cons P c.check.result from_seed c.check.ensures.local all_seed in
    let from_rule_book : List Arg = c.rule_book.result ∷ from_check in
    let all_rule_book : All P from_rule_book = All-cons P c.rule_book.result from_check c.rule_book.ensures.local all_check in
    let from_protocol : List Arg = c.protocol.result ∷ from_rule_book in
    let all_protocol : All P from_protocol = All-cons P c.protocol.result from_rule_book c.protocol.ensures.local all_rule_book in
    let from_file : List Arg = c.file.result ∷ from_protocol in
    let all_file : All P from_file = All-cons P c.file.result from_protocol c.file.ensures.local all_protocol in
    subst (All P) (sym c.in_ok-arguments.ensures.items) all_file
