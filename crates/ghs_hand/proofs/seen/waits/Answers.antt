use Rattle.ghs_hand.proofs.Waiting.{told_is}
use Rattle.ghs_hand.proofs.seen.waits.Goals as goal

pub returns-in-Take : goal.returns-in-Take
returns-in-Take c =
    told_is c.args.world.now c.net.result.now c.args.event c.in-Take.v c.in-Take.port c.waits_at.result
    c.net.ensures.net c.in-Take.is c.requires c.waits_at.ensures.waits
