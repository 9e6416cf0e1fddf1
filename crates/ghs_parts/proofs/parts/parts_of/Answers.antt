use Rattle.std.proofs.Common.{◌≡◌, ◌+◌, ◌∙◌, ◌++◌, ◌∷◌, [], List, ap, arith, sym, take}
use Rattle.std.specs.List.{slice_index_or}
use Rattle.std.proofs.lemmas.List.{take_all, take_more}
use Rattle.peer_network.specs.declared.event.Event.{Event}
use Rattle.peer_network.specs.declared.event.Event.TheVariants.{Wake}
use Rattle.ghs_parts.specs.Tally.{parts_kept}
use Rattle.ghs_steps.proofs.lemmas.{lawful_net}
use Rattle.ghs_parts.proofs.Tallying.{kept_count, kept_parts, parts_listed}
use Rattle.ghs_parts.proofs.parts.parts_of.Goals as goal

pub follow-requires-clause-lawful : goal.follow-requires-clause-lawful
follow-requires-clause-lawful c =
    let inv = c.loop-event.invariant in
    lawful_net c.loop-event.net c.args.graph.now c.args.events.now c.loop-event.event-index (Wake 0) inv.graph inv.trace
    c.requires.run c.loop-event-test.true

pub loop-event-preserved : goal.loop-event-preserved
loop-event-preserved c =
    let inv = c.loop-event.invariant in
    let graph : c.follow.new.net.graph ≡ c.args.graph.now = c.in_ok-follow.ensures.graph ∙ inv.graph in
    let trace : c.follow.new.net.trace ≡ take (c.loop-event.event-index + 1) c.args.events.now =
    c.in_ok-follow.ensures.trace ∙ ap (λ (l : List Event). l ++ slice_index_or c.args.events.now c.loop-event.event-index (Wake 0) ∷ []) inv.trace
    ∙ sym (take_more c.args.events.now c.loop-event.event-index (Wake 0) c.loop-event-test.true) in
    record { graph = graph; trace = trace; tally = rw (graph, trace) at c.in_ok-follow.ensures.tally }

pub returns : goal.returns
returns c =
    let all : take c.loop-event.event-index c.args.events.now ≡ c.args.events.now = take_all _ _ (let end = c.loop-event-test.false in omega arith) in
    let tally = rw all at c.loop-event.invariant.tally in
    let parts = c.loop-event.tally.parts.items in
    let level = c.loop-event.tally.level in
    c.parts_in.ensures
    ∙ parts_listed c.args.by c.args.graph.now c.args.events.now (parts_kept c.args.by parts level)
    (kept_count c.args.by c.args.graph.now c.args.events.now parts level tally)
    (kept_parts c.args.by c.args.graph.now c.args.events.now parts level tally)
