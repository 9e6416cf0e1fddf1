use Rattle.ghs_answers.proofs.Sheeting.{summary_behind}
use Rattle.ghs_answers.proofs.sheets.put_measures.Goals as goal

pub returns : goal.returns
returns c =
    summary_behind c.args.options.now c.args.front.now c.args.table.now c.args.setup c.args.runs.now c.args.text.now.items
    c.put_summary.new.text.items c.requires.sheet
    c.in_ok-put_summary.ensures
