use Rattle.std.proofs.Common.{◌≡◌, ℕ, ◌+◌, ◌∙◌, List, [], arith, subst, sym, take}
use Rattle.std.proofs.lemmas.List.{take_all}
use Rattle.peer_network.specs.declared.event.Event.TheVariants.{Wake}
use Rattle.ghs_report.specs.declared.portions.WriteFault.TheVariants.{Memory}
use Rattle.ghs_report.specs.Written.{IsOut}
use Rattle.ghs_report.proofs.lemmas.Gone.{out_all, out_front, out_start}
use Rattle.peer_steps.proofs.Going.{front_of_lines, grown, next_lawful, out_next}
use Rattle.peer_steps.proofs.write.write_run.Goals as goal

pub loop-event-init : goal.loop-event-init
loop-event-init g c =
    let held = g.W.Sink.held c.args.writer.now in
    record {
      graph = c.in-Ok.ensures.graph;
      trace = c.in-Ok.ensures.trace;
      sound = c.requires.sound;
      out = subst (λ (t : List ℕ). IsOut held held [] 0 t) (sym c.new-text.ensures.items) (out_start held);
      small = omega arith;
    }

pub show-requires : goal.show-requires
show-requires g c =
    let inv = c.loop-event.invariant in
    next_lawful g.P.Protocol.rules c.loop-event.net c.args.graph c.args.events.now c.loop-event.event-index
    (Wake 0) inv.graph inv.trace c.requires.run
    c.loop-event-test.true

pub returns-in-Err-show-clause-err : goal.returns-in-Err-show-clause-err
returns-in-Err-show-clause-err g c =
    front_of_lines g.P.Protocol.rules g.P.Spoken.words _ _ c.args.form c.args.graph c.args.choice.now c.args.events.now c.loop-event.event-index
    Memory
    (out_front _ _ _ _ _ c.loop-event.invariant.out)

pub returns-in-Err-send_portion-clause-err : goal.returns-in-Err-send_portion-clause-err
returns-in-Err-send_portion-clause-err g c =
    let inv = c.loop-event.invariant in
    let out =
    out_next g.P.Protocol.rules g.P.Spoken.words c.args.form c.args.graph c.args.choice.now _ _ c.args.events.now c.loop-event.event-index _
    (Wake 0) c.loop-event.net _ _
    inv.graph inv.trace c.loop-event-test.true inv.out c.in-Ok-show.ensures.text in
    front_of_lines g.P.Protocol.rules g.P.Spoken.words _ _ c.args.form c.args.graph c.args.choice.now c.args.events.now
    (c.loop-event.event-index + 1) _
    (c.in-Err-send_portion.ensures.front _ _ out)

pub loop-event-preserved : goal.loop-event-preserved
loop-event-preserved g c =
    let inv = c.loop-event.invariant in
    let out =
    out_next g.P.Protocol.rules g.P.Spoken.words c.args.form c.args.graph c.args.choice.now _ _ c.args.events.now c.loop-event.event-index _
    (Wake 0) c.loop-event.net _ _
    inv.graph inv.trace c.loop-event-test.true inv.out c.in-Ok-show.ensures.text in
    record {
      graph = c.in-Ok-show.ensures.graph ∙ inv.graph;
      trace = grown c.loop-event.net.trace c.show.new.net.trace c.args.events.now c.loop-event.event-index (Wake 0) inv.trace
          c.loop-event-test.true c.in-Ok-show.ensures.trace;
      sound = c.in-Ok-send_portion.ensures.sound;
      out = c.in-Ok-send_portion.ensures.out _ _ out;
      small = (let more = c.in-Ok-send_portion.ensures.more in let small = inv.small in omega arith);
    }

pub returns-in-Ok-send_off-clause-ok : goal.returns-in-Ok-send_off-clause-ok
returns-in-Ok-send_off-clause-ok g c =
    let all : take c.loop-event.event-index c.args.events.now ≡ c.args.events.now = take_all _ _
    (let end = c.loop-event-test.false in omega arith) in
    let out = c.in-Ok-send_off.ensures.out _ _ c.loop-event.invariant.out in
    rw all at (out_all _ _ _ _ (rw c.in-Ok-send_off.ensures.empty at out))

pub returns-clause-err : goal.returns-clause-err
returns-clause-err g c =
    front_of_lines g.P.Protocol.rules g.P.Spoken.words _ _ c.args.form c.args.graph c.args.choice.now c.args.events.now c.loop-event.event-index _
    (c.in-Err-send_off.ensures.front _ _ c.loop-event.invariant.out)
