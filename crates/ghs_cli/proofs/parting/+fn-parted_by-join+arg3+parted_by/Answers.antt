use Rattle.ghs_cli.proofs.Parted.{parted_by_both}
use Rattle.ghs_cli.proofs.parting.+fn-parted_by-join+arg3+parted_by.Goals as goal

pub returns : goal.returns
returns g t c =
    parted_by_both c.args.options.now c.args.parting c.args.front.now c.args.graph.now c.args.first c.args.count c.share_of-share.result
    c.join-mine.result.0 c.join-mine.result.1 c.in_ok-lines.lines c.in_ok-others.field-0 c.append.new.self.items c.share_of-share.ensures.left
    c.join-mine.ensures.first c.join-mine.ensures.second c.in_ok-lines.was c.in_ok-others.was c.in_ok-append.ensures.items
