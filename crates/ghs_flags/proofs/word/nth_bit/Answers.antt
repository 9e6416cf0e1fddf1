use Rattle.std.proofs.Common.{◌≡◌, ◌+◌, arith}
use Rattle.ghs_flags.proofs.Bits.{nth-zero, nth-suc, ones-cleared, pos_from_ones}
use Rattle.ghs_flags.proofs.word.nth_bit.Goals as goal

pub loop-init : goal.loop-init
loop-init c = record { some = omega arith; last = λ r i e nth. rw (let same : r ≡ c.args.k = omega arith in same) at nth }

pub overflow_sub-word : goal.overflow_sub-word
overflow_sub-word c = pos_from_ones c.loop.word (omega arith)

pub loop-preserved : goal.loop-preserved
loop-preserved c =
    let some = pos_from_ones c.loop.word (omega arith) in
    let less = ones-cleared c.loop.word some c.loop.auto.word-fits.fits in
    record {
      some = omega arith;
      last = λ r i e nth. c.loop.invariant.last (r + 1) i (omega arith) (nth-suc c.loop.word r i some c.loop.auto.word-fits.fits nth);
    }

pub returns : goal.returns
returns c =
    let some = pos_from_ones c.loop.word (omega arith) in
    c.loop.invariant.last 0 _ (omega arith) (nth-zero c.loop.word some c.loop.auto.word-fits.fits)
