use Rattle.std.proofs.Common.{◌≡◌, ◌∙◌, ◌∷◌, ap}
use Rattle.ghs_lines.specs.Fields.{fields_of}
use Rattle.peer_trace.specs.Mark.{mark_behind}
use Rattle.peer_trace.proofs.Heads.{if_unmarked, mark_behind-others}
use Rattle.peer_trace.proofs.mark.head_behind.Goals as goal

pub returns-in_err-sum-clause-none : goal.returns-in_err-sum-clause-none
returns-in_err-sum-clause-none c =
    let all : fields_of c.args.fields.now ≡ c.in_ok-own.own.now ∷ c.in_ok-name.name.now ∷ c.in_ok-entries_word.entries_word.now
    ∷ c.in_ok-entries.entries.now ∷ c.in_ok-sum_word.sum_word.now ∷ fields_of c.in_ok-sum_word.fields.now =
    cc (
      c.in_ok-own.ensures.some,
      c.in_ok-name.ensures.some,
      c.in_ok-entries_word.ensures.some,
      c.in_ok-entries.ensures.some,
      c.in_ok-sum_word.ensures.some,
    ) in
    if_unmarked c.from_residual-in_err-sum.result (fields_of c.args.fields.now) (ap mark_behind all
    ∙ mark_behind-others c.in_ok-own.own.now c.in_ok-name.name.now c.in_ok-entries_word.entries_word.now c.in_ok-entries.entries.now
    c.in_ok-sum_word.sum_word.now (fields_of c.in_ok-sum_word.fields.now) c.in_err-sum.ensures.none)
