use Rattle.std.proofs.Common.{sym, subst}
use Rattle.ghs_choices.specs.declared.schedule_kind.ScheduleKind.{ScheduleKind}
use Rattle.peer_report.specs.Runs.{HasRunBy}
use Rattle.peer_report.proofs.Ran.{lifo_by, rounds_by, seeded_by}
use Rattle.peer_report.proofs.run.run_on.Goals as goal

pub returns-in-Lifo-clause-run : goal.returns-in-Lifo-clause-run
returns-in-Lifo-clause-run g c =
    let ran = c.run_followed in
    subst (λ (k : ScheduleKind). HasRunBy k g.P.Protocol.rules c.args.turns c.args.world.now ran.new.world c.args.schedule.now ran.new.schedule)
    (sym c.in-Lifo.is)
    (lifo_by g.P.Protocol.rules c.args.turns c.args.world.now ran.new.world c.args.schedule.now ran.new.schedule c.requires.trace ran.ensures.run)

pub returns-in-Rounds-clause-run : goal.returns-in-Rounds-clause-run
returns-in-Rounds-clause-run g c =
    let ran = c.run_followed-end in
    subst (λ (k : ScheduleKind). HasRunBy k g.P.Protocol.rules c.args.turns c.args.world.now ran.new.world c.args.schedule.now ran.new.schedule)
    (sym c.in-Rounds.is)
    (rounds_by g.P.Protocol.rules c.args.turns c.args.world.now ran.new.world c.args.schedule.now ran.new.schedule c.requires.trace ran.result.0
    ran.ensures.run)

pub returns-in-Seeded : goal.returns-in-Seeded
returns-in-Seeded g c =
    let ran = c.run_followed-in-Seeded in
    record {
      run =
          seeded_by g.P.Protocol.rules c.args.turns c.args.world.now ran.new.world c.args.schedule.now ran.new.schedule c.requires.trace
          ran.ensures.run c.args.schedule_kind c.in-Seeded.is;
      over = ran.ensures.over;
      limit = ran.ensures.limit;
      kept = ran.ensures.kept;
    }
