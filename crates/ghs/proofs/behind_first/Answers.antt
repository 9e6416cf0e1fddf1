use Rattle.ghs.proofs.Words.{rest_of}
use Rattle.ghs.proofs.behind_first.Goals as goal

pub returns : goal.returns
returns c = rest_of c.args.words c.next.new.self c.next.result c.collect.result c.next.ensures.items c.next.ensures.cases c.collect.ensures.ran
