use Rattle.ghs_report.proofs.Taking.{merged_united}
use Rattle.ghs_report.proofs.fragments.Fragments.take.Goals as goal

pub returns-then-a-b-clause-merged : goal.returns-then-a-b-clause-merged
returns-then-a-b-clause-merged c ks t rising more is s =
    merged_united ks rising t more c.args.self.now.parents.items c.args.self.now.levels.items c.args.self.now.cores.items s c.args.key is c.requires.a
    c.requires.b c.leader-a.result c.leader-b.result c.leader-a.ensures c.leader-b.ensures c.if-a-b.true c.unite.new.self.parents.items
    c.unite.new.self.levels.items c.unite.new.self.cores.items c.unite.ensures
