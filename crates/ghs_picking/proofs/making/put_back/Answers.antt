use Rattle.std.proofs.Common.{subst}
use Rattle.ghs_world.specs.Steps.{Makes}
use Rattle.peer_network.specs.declared.event.Event.TheVariants.{Take}
use Rattle.ghs_picking.proofs.Happening.{made_kept}
use Rattle.ghs_picking.proofs.making.put_back.Goals as goal

pub returns-clause-kept : goal.returns-clause-kept
returns-clause-kept g c =
    made_kept g.F.Follower.is_of c.args.world.now c.make_placed.new.self c.net.result.now (Take c.args.v c.args.port) c.follow_back.new.self
    c.net.ensures.net c.in_ok-follow_back.ensures
    (subst (λ e. Makes c.args.world.now e c.make_placed.new.self) c.requires.event c.in_ok-make_placed.ensures.made)
