use Rattle.peer_hand.specs.Seen.{offer_json}
use Rattle.peer_runs.specs.WorldState.{ready_events}
use Rattle.peer_hand.proofs.Offering.{one_more}
use Rattle.peer_hand.proofs.seen.put_offers.Goals as goal

pub loop-k-preserved : goal.loop-k-preserved
loop-k-preserved g c =
    one_more offer_json (ready_events g.P.Protocol.rules c.args.world.now) c.loop-k.k c.ready_at.result c.args.text.now.items c.loop-k.text.items
    c.put_choice.new.text.items c.ready_at.ensures c.loop-k.invariant c.in_ok-put_choice.ensures
