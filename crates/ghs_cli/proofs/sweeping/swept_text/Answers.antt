use Rattle.std.proofs.Common.{◌++◌, ◌∙◌, List, ℕ, ap}
use Rattle.ghs_cli.specs.Sweeping.{heads_of}
use Rattle.ghs_cli.proofs.Sheets.{swept_behind}
use Rattle.ghs_cli.proofs.sweeping.swept_text.Goals as goal

pub returns : goal.returns
returns g c =
    let o = c.args.options.now in
    swept_behind c.args.protocols.now o c.args.graph.now c.bare_front-front.result.now c.put_heads.new.text.items
    c.put_lines_by.new.text.items c.bare_front-front.ensures
    (c.in_ok-put_heads.ensures ∙ ap (λ (t : List ℕ). t ++ heads_of c.args.protocols.now o) c.new-text.ensures.items)
    c.in_ok-put_lines_by.ensures
