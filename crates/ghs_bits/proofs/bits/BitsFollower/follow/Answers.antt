use Rattle.std.proofs.Common.{arith}
use Rattle.ghs_bits.proofs.Bounding.{few_bits, grown_are}
use Rattle.ghs_bits.proofs.bits.BitsFollower.follow.Goals as goal

pub send-requires : goal.send-requires
send-requires c = record {
  few = rw c.as_slice.ensures
      (few_bits c.args.net.now c.trace.ensures.graph c.trace.ensures.run c.args._event c.requires.lawful c.args.delta.now c.requires.answer
      c.args.self.now c.requires.kept (let a = c.longest.ensures.longest in let b = c.longest.ensures.small in omega (arith, a, b)));
}

pub returns : goal.returns
returns c =
    let sent = rw c.as_slice.ensures at c.send.ensures.sent in
    let longest = rw c.as_slice.ensures at c.send.ensures.longest in
    grown_are c.args.net.now c.trace.ensures.graph c.trace.ensures.run c.args._event c.requires.lawful c.args.delta.now c.requires.answer
    c.args.self.now c.requires.kept c.send.new.self c.send.ensures.widths sent longest
