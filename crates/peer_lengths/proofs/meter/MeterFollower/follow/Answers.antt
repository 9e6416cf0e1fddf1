use Rattle.std.proofs.Common.{◌∙◌, List, subst, subst₂, sym}
use Rattle.std.proofs.lemmas.Bool.{false≢true}
use Rattle.ghs_graph.specs.Graph.{Shape}
use Rattle.peer_network.specs.declared.event.Event.{Event}
use Rattle.peer_lengths.proofs.Playing.{played_of}
use Rattle.peer_lengths.proofs.Measuring.{IsRunMeasured, fits, grown}
use Rattle.peer_lengths.proofs.Carrying.{if_carried}
use Rattle.peer_lengths.proofs.meter.MeterFollower.follow.Goals as goal

pub add-requires : goal.add-requires
add-requires g c =
    let r = g.P.Protocol.rules in
    let b = c.requires in
    let s = b.before in
    let kept = rw (← c.self.view_is) at b.kept in
    let played = played_of r s c.args.net.now c.args.event c.args.sends.now c.trace.ensures.graph c.trace.ensures.run b.happened in
    let more = c.measure.ensures s.graph kept.scale in
    let room =
    fits r s c.args.event _ c.args.sends.now played c.self.inside.sent c.measure.result kept.sent more g.met.P.Protocol.has_kinds g.P.Protocol.bound
    g.met.P.Protocol.is_bounded g.met.P.Protocol.bound_fits in
    record { count = room.0; bits = room.1 }

pub carry-requires : goal.carry-requires
carry-requires g c =
    let b = c.requires in
    let kept = rw (← c.self.view_is) at b.kept in
    (b.before, b.happened, b.seen, kept.chains c.if-not-self.true)

pub returns-then-not-self : goal.returns-then-not-self
returns-then-not-self g c =
    let r = g.P.Protocol.rules in
    let b = c.requires in
    let s = b.before in
    let kept = rw (← c.self.view_is) at b.kept in
    let played = played_of r s c.args.net.now c.args.event c.args.sends.now c.trace.ensures.graph c.trace.ensures.run b.happened in
    let more = c.measure.ensures s.graph kept.scale in
    let sent =
    subst₂ (λ (h : Shape) (es : List Event). IsRunMeasured r h es c.add.new.self) (sym b.happened.graph) (sym b.happened.trace)
    (grown r s c.args.event _ c.args.sends.now played c.self.inside.sent c.measure.result kept.sent more c.add.new.self c.add.ensures.count
    c.add.ensures.bits c.add.ensures.longest) in
    let scale = subst (λ (h : Shape). g.P.Measured.is_of h c.self.inside.scale) (sym b.happened.graph) kept.scale in
    record { scale = scale; sent = sent; chains = λ here. if_carried c.carry.result (sym c.is_err-self-inside.ensures.value ∙ here) c.carry.ensures }

pub returns-else-not-self : goal.returns-else-not-self
returns-else-not-self g c =
    let r = g.P.Protocol.rules in
    let b = c.requires in
    let s = b.before in
    let kept = rw (← c.self.view_is) at b.kept in
    let played = played_of r s c.args.net.now c.args.event c.args.sends.now c.trace.ensures.graph c.trace.ensures.run b.happened in
    let more = c.measure.ensures s.graph kept.scale in
    let sent =
    subst₂ (λ (h : Shape) (es : List Event). IsRunMeasured r h es c.add.new.self) (sym b.happened.graph) (sym b.happened.trace)
    (grown r s c.args.event _ c.args.sends.now played c.self.inside.sent c.measure.result kept.sent more c.add.new.self c.add.ensures.count
    c.add.ensures.bits c.add.ensures.longest) in
    let scale = subst (λ (h : Shape). g.P.Measured.is_of h c.self.inside.scale) (sym b.happened.graph) kept.scale in
    record { scale = scale; sent = sent; chains = λ here. absurd (false≢true (sym here ∙ c.if-not-self.false)) }
