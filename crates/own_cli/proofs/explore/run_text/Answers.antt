use Rattle.std.proofs.Common.{rules}
use Rattle.own_cli.proofs.explore.run_text.Goals as goal

pub returns-clause-fault : goal.returns-clause-fault
returns-clause-fault c = record {
  found = c.args.found;
  is = c.requires.told;
  none = c.in-None.is;
  number = search rules;
}
