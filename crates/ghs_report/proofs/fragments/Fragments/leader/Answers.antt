use Rattle.std.proofs.Common.{◌≡◌, ◌∙◌, ◌<◌, length, get_or, ap}
use Rattle.std.proofs.lemmas.Grind.{get_or_default_zero}
use Rattle.ghs_report.proofs.fragments.Fragments.leader.Goals as goal

pub loop-at-preserved : goal.loop-at-preserved
loop-at-preserved c =
    let inside : c.loop-at.at < length c.args.self.now.parents.items = c.loop-at.invariant.inside in
    let read : c.index-at.result.now ≡ get_or c.args.self.now.parents.items c.loop-at.at 0 =
    c.index-at.ensures ∙ get_or_default_zero c.args.self.now.parents.items c.loop-at.at c.index-at.result.now inside in
    record {
      inside = rw read (c.requires.trees.inside c.loop-at.at inside);
      same = λ f along. ap f read ∙ along c.loop-at.at inside ∙ c.loop-at.invariant.same f along;
    }
