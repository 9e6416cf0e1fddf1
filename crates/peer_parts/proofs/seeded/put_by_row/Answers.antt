use Rattle.std.proofs.Common.{◌∙◌, sym}
use Rattle.peer_parts.proofs.Playing.{none_applied}
use Rattle.peer_parts.proofs.Printing.{rows_printed}
use Rattle.peer_parts.proofs.seeded.put_by_row.Goals as goal

pub run_followed_by_seed-requires : goal.run_followed_by_seed-requires
run_followed_by_seed-requires g c = record {
  setting = c.requires;
  kept = λ l. c.none-rows.ensures.list ∙ sym (none_applied g.P.Protocol.rules g.P.Spoken.words c.in_ok-copy.copy);
}

pub returns : goal.returns
returns g c =
    let r = g.P.Protocol.rules in
    let ran = c.in_ok-run_followed_by_seed.ensures in
    let all = c.in_ok-all.ensures in
    rows_printed r g.P.Spoken.words g.P.Ends.has_ended c.args.form c.args.front.now c.args.columns.now c.args.graph.now c.in_ok-copy.copy
    c.args.setup c.args.seed _ _ c.in_ok-copy.ensures ran.run _ c.in_ok-all.field-0.now c.args.text.now.items c.put_rows.new.text.items
    c.put_rows.result ran.kept all.list all.kept c.put_rows.ensures
