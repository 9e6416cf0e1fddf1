use Rattle.ghs_world.proofs.lemmas.Ready.{ready_lawful}
use Rattle.ghs_picking.proofs.Happening.{made_kept}
use Rattle.ghs_picking.proofs.making.react_to.Goals as goal

pub answer_placed-requires-clause-lawful : goal.answer_placed-requires-clause-lawful
answer_placed-requires-clause-lawful g c = ready_lawful c.args.world.now c.args.placed.event c.requires.ready

pub follow-requires-clause-lawful : goal.follow-requires-clause-lawful
follow-requires-clause-lawful g c = rw c.net.ensures.net (ready_lawful c.args.world.now c.args.placed.event c.requires.ready)

pub returns-clause-kept : goal.returns-clause-kept
returns-clause-kept g c =
    made_kept g.F.Follower.is_of c.args.world.now c.make_answered_placed.new.self c.net.result.now c.args.placed.event c.follow.new.self
    c.net.ensures.net c.in_ok-follow.ensures c.in_ok-make_answered_placed.ensures.made
