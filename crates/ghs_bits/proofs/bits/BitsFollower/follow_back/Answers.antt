use Rattle.std.proofs.Common.{refl}
use Rattle.ghs_node.specs.Reaction.{requeues}
use Rattle.peer_network.specs.declared.event.Event.TheVariants.{Take}
use Rattle.ghs_core.specs.NetState.{net_of}
use Rattle.ghs_bits.proofs.Bounding.{put_back_are}
use Rattle.ghs_bits.proofs.bits.BitsFollower.follow_back.Goals as goal

pub returns : goal.returns
returns c =
    let s = c.args.net.now in
    let v = c.args._v in
    put_back_are s c.trace.ensures.graph c.trace.ensures.run (Take v c.args._port) c.requires.lawful (requeues ((net_of s).node v).head)
    c.requires.back refl c.args.self.now c.requires.kept
