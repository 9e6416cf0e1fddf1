-- Arguments put to a command, as the app that a parse reads.
use Rattle.std.proofs.Common.{◌≡◌, ◌||◌, false, Bool, List, [], ◌∷◌, ap, map, sym, ◌∙◌}
use Rattle.std.specs.List.{All}
use Rattle.std.proofs.lemmas.List.Elements.{All-head, All-tail}
use Rattle.clap.specs.Built.{AddsArg, AddsInTurn}
use Rattle.clap.specs.Words.{App, app_of, rule_of, with_rule}
use Rattle.clap.specs.declared.builder.arg.Arg.{Arg}
use Rattle.clap.specs.declared.builder.command.Command.{Command}
use Rattle.clap.specs.declared.builder.command.Command.TheViews.{out-Command}
use Rattle.ghs_commands.specs.Grammar.{with_rules}

-- an argument that is for its command alone
abbrev IsLocal : Arg → Type 0
IsLocal a = a.global ≡ false

-- some arguments more
pub with_arguments : (old new : Command) (arguments : List Arg) (app : App) →
    AddsInTurn AddsArg old arguments new →
    All IsLocal arguments →
    app_of old ≡ app →
    app_of new ≡ with_rules (map rule_of arguments) app
with_arguments old new [] app is local before = ap app_of (sym is) ∙ before
with_arguments old new (one ∷ more) app (next, adds, rest) local before =
    with_arguments next new more (with_rule app (rule_of one)) rest (All-tail IsLocal one more local)
    (adds.shape (All-head IsLocal one more local) ∙ ap (λ b. with_rule b (rule_of one)) before)

-- none of them is for all commands
pub with_locals : (old new : Command) (arguments : List Arg) →
    AddsInTurn AddsArg old arguments new →
    All IsLocal arguments →
    (out-Command old).has_globals ≡ false →
    (out-Command new).has_globals ≡ false
with_locals old new [] is local before = rw (← is) before
with_locals old new (one ∷ more) (next, adds, rest) local before =
    with_locals next new more rest (All-tail IsLocal one more local)
    (adds.globals ∙ (ap (λ (g : Bool). g || one.global) before ∙ All-head IsLocal one more local))
