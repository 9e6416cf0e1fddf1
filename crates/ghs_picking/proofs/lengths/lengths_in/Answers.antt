use Rattle.ghs_picking.proofs.lengths.lengths_in.Goals as goal

pub returns : goal.returns
returns c = λ g es chains bits i. record {
  chain = c.longest.ensures g es chains i;
  bits = bits.sent i;
  longest = bits.longest i;
}
