use Rattle.own_cli.proofs.Exploring.{endless_printed, failure_printed, found_printed, lacking_printed, miss_printed}
use Rattle.own_cli.proofs.explore.told_as.Goals as goal

pub returns-in-Lacks-clause-told : goal.returns-in-Lacks-clause-told
returns-in-Lacks-clause-told c =
    lacking_printed c.args.options.now c.args.check c.args.graph.now c.args.rules.now c.args.told c.requires.told c.in-Lacks.text c.in-Lacks.is

pub returns-in_ok-failed-in-Fails-clause-told : goal.returns-in_ok-failed-in-Fails-clause-told
returns-in_ok-failed-in-Fails-clause-told c =
    failure_printed c.args.options.now c.args.check c.args.graph.now c.args.rules.now c.args.told c.requires.told c.in-Fails.failure
    c.in_ok-failed-in-Fails.field-0.items c.in-Fails.is (c.in_ok-failed-in-Fails.ensures c.args.rules.now c.requires.mark)

pub returns-in_ok-missed-in-Endless-clause-told : goal.returns-in_ok-missed-in-Endless-clause-told
returns-in_ok-missed-in-Endless-clause-told c =
    let said = c.in_ok-endless-in-Endless.ensures in
    let printed = c.in_ok-missed-in-Endless.ensures in
    endless_printed c.args.options.now c.args.check c.args.graph.now c.args.rules.now c.args.told c.requires.told c.in-Endless.events
    c.in_ok-endless-in-Endless.field-0 c.in_ok-missed-in-Endless.field-0 c.in-Endless.is said.events said.text printed.end
    (printed.text c.args.rules.now c.requires.mark)

pub returns-in_ok-missed-in-Misses-clause-told : goal.returns-in_ok-missed-in-Misses-clause-told
returns-in_ok-missed-in-Misses-clause-told c =
    let printed = c.in_ok-missed-in-Misses.ensures in
    miss_printed c.args.options.now c.args.check c.args.graph.now c.args.rules.now c.args.told c.requires.told c.in-Misses.failure
    c.in_ok-missed-in-Misses.field-0 c.in-Misses.is printed.end (printed.text c.args.rules.now c.requires.mark)

pub returns-in_ok-found_text-in-Whole-clause-told : goal.returns-in_ok-found_text-in-Whole-clause-told
returns-in_ok-found_text-in-Whole-clause-told c =
    found_printed c.args.options.now c.args.check c.args.graph.now c.args.rules.now c.args.told c.requires.told c.in-Whole.found
    c.in_ok-found_text-in-Whole.field-0.items c.in-Whole.is c.in_ok-found_text-in-Whole.ensures.text
