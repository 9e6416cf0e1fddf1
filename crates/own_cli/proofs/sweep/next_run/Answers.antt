use Rattle.std.proofs.Common.{rules}
use Rattle.own_cli.proofs.Sweeping.{next_sound, next_troubled}
use Rattle.own_cli.proofs.sweep.next_run.Goals as goal

pub returns-in-Some-clause-some : goal.returns-in-Some-clause-some
returns-in-Some-clause-some c =
    next_troubled c.args.rules.now c.args.check c.args.graph.now c.args.setup c.args.first c.args.runs.now.items c.in_ok-ran.ran c.args.seed
    c.requires.before c.requires.next c.in_ok-ran.ensures c.in_ok-told.field-0 c.in-Some.told c.in-Some.is c.in_ok-told.ensures.some

pub returns-clause-none : goal.returns-clause-none
returns-clause-none c = (
  next_sound c.args.rules.now c.args.check c.args.graph.now c.args.setup c.args.first c.args.runs.now.items c.in_ok-ran.ran c.args.seed
      c.requires.before c.requires.next c.in_ok-ran.ensures c.in_ok-told.field-0 c.in-None.is c.in_ok-told.ensures.none
      c.push.new.self.items c.in_ok-push-in-None.ensures.items,
  search rules,
)
