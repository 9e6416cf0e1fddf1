use Rattle.std.proofs.Common.{◌-◌, ◌^◌, ◌∙◌, sym}
use Rattle.peer_net.specs.NetState.{network}
use Rattle.peer_parts.specs.Deeds.{deeds}
use Rattle.peer_parts.specs.Parts.{rows_in}
use Rattle.peer_parts.proofs.EachRow.{counts_few}
use Rattle.peer_parts.proofs.Playing.{deeds_fewer, rows_followed, used_if}
use Rattle.peer_parts.proofs.rows.RowPartsFollower.follow.Goals as goal

pub add-requires : goal.add-requires
add-requires g c =
    let r = g.P.Protocol.rules in
    let words = g.P.Spoken.words in
    let b = c.requires in
    let s = b.before in
    let kept = rw (← c.self.view_is) at b.kept in
    let rows = kept c.if-not-self.true in
    let short = rw c.trace.ensures.trace at c.are_few.ensures in
    let few = deeds_fewer r words s c.args.net.now c.args._event c.args._sends.now c.trace.ensures.run b.happened (2 ^ 64 - 1) short in
    rw rows (counts_few (2 ^ 64 - 1) (deeds r words (network s) s.trace) (rows_in (deeds r words (network s) s.trace)) few)

pub returns-then-not-self : goal.returns-then-not-self
returns-then-not-self g c = λ kept_on.
    let r = g.P.Protocol.rules in
    let words = g.P.Spoken.words in
    let b = c.requires in
    let s = b.before in
    let kept = rw (← c.self.view_is) at b.kept in
    let rows = kept c.if-not-self.true in
    let used = used_if c.add.result c.self.inside.list.items c.add.new.list.items c.args.seen.row.now
    (sym c.is_err-self-inside.ensures.value ∙ kept_on) c.add.ensures in
    rows_followed r words s c.args.net.now c.args._event c.args._sends.now c.trace.ensures.run b.happened c.self.inside.list.items
    c.add.new.list.items c.args.seen.row.now rows b.seen used
