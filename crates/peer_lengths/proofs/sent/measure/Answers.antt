use Rattle.std.proofs.Common.{ℕ, refl, ◌∙◌, ap, arith}
use Rattle.std.proofs.lemmas.List.{take_all}
use Rattle.peer_lengths.proofs.Measuring.{one_measured, all_measured}
use Rattle.peer_lengths.proofs.sent.measure.Goals as goal

pub loop-i-preserved : goal.loop-i-preserved
loop-i-preserved g c = record {
  few = let a = c.loop-i.invariant.few in let b = c.bits-length.type_inv in omega (arith, a, b);
  come = λ s is.
      let length = c.bits-length.ensures s is ∙ ap (λ (x : ℕ × g.row.P-Message.Denot). g.P.Protocol.rules.bits s x.1) c.index-sends-i.is in
      one_measured g.P.Protocol.rules s c.args.sends.now c.loop-i.i c.index-sends-i.result c.loop-i.bits c.loop-i.longest _ _ c.bits-length.result
      c.loop-i-test.true (c.loop-i.invariant.come s is) length refl c.max-longest.ensures;
}

pub returns : goal.returns
returns g c = λ s is.
    let a = c.loop-i.invariant.few in
    all_measured g.P.Protocol.rules s c.args.sends.now c.loop-i.i _
    (take_all c.loop-i.i c.args.sends.now (omega (arith, c.loop-i-test.false))) refl (omega (arith, a)) (c.loop-i.invariant.come s is)
