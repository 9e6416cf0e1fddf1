use Rattle.std.proofs.Common.{◌≡◌, ◌++◌, take, arith, ap, ◌∙◌}
use Rattle.std.proofs.lemmas.List.{take_all}
use Rattle.std.specs.List.{flat_map}
use Rattle.ghs_report.specs.TreeText.{tree_text, link_line, total_line}
use Rattle.ghs_report.proofs.tree_text.tree_text.Goals as goal

-- the loop has gone over all links
pub returns : goal.returns
unfolding tree_text
returns c =
    let all : take c.loop-key.key-index c.args.tree.now ≡ c.args.tree.now = take_all _ _ (omega arith) in
    let lines = c.loop-key.invariant ∙ ap (flat_map link_line) all in
    c.in_ok-put_total.ensures ∙
    (ap (λ t. t ++ total_line c.total_weight.result) lines
    ∙ ap (λ n. flat_map link_line c.args.tree.now ++ total_line n) c.total_weight.ensures.total)
