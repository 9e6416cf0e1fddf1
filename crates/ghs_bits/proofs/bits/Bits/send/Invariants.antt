use Rattle.std.proofs.Common.{◌≡◌, ◌+◌, max, take}
use Rattle.ghs_bits.specs.Bits.{bits_in, longest_in, messages_of}
use Rattle.ghs_bits.proofs.bits.Bits.send.Given as goal

abbrev pub invariant-loop-message : goal.invariant-loop-message
invariant-loop-message l = record {
  widths : l.self.widths ≡ l.fn.self.widths;
  sent : l.self.sent ≡ l.fn.self.sent + bits_in l.fn.self.widths (messages_of (take l.message-index l.sends));
  longest : l.self.longest ≡ max l.fn.self.longest (longest_in l.fn.self.widths (messages_of (take l.message-index l.sends)));
}
