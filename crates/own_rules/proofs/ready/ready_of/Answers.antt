use Rattle.own_rules.proofs.Readying.{next_ready}
use Rattle.own_rules.proofs.ready.ready_of.Goals as goal

pub loop-index-preserved : goal.loop-index-preserved
loop-index-preserved c =
    let i = c.loop-index in
    let next = next_ready c.args.texts.now c.args.kinds.now c.args.book.now i.all.items c.push.new.self.items c.in_ok-ready_at.field-0 i.index
    i.invariant.many i.invariant.ready c.in_ok-push.ensures.items c.in_ok-ready_at.ensures in
    record { many = next.0; ready = next.1 }
