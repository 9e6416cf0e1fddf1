use Rattle.std.proofs.Common.{◌∙◌, ap}
use Rattle.boruvka_node.specs.Draft.{drafted, goes_on, goes_out_if}
use Rattle.boruvka_node.specs.Reaction.{goes_out, moves}
use Rattle.boruvka_node.proofs.Drafts.{gives, gives_done, if_ok}
use Rattle.boruvka_node.proofs.react.on_change_root.Goals as goal

pub returns-in-Some-chosen : goal.returns-in-Some-chosen
returns-in-Some-chosen c =
    let n = c.args.node.now in
    let d = c.in_ok-draft.draft in
    let so = ap (λ b. goes_on c.args.draft (moves (drafted n c.args.draft) b)) c.in-Some.is ∙ c.in_ok-draft.ensures.so goes_out
    ∙ ap (λ x. goes_on d (goes_out_if goes_out (drafted n d) x)) c.in-Some-chosen.is in
    if_ok c.go_out.result _ _ (λ e g. gives n _ _ e so g) c.go_out.ensures

pub returns-in-None : goal.returns-in-None
returns-in-None c =
    let n = c.args.node.now in
    let d = c.in_ok-draft.draft in
    let so = ap (λ b. goes_on c.args.draft (moves (drafted n c.args.draft) b)) c.in-Some.is ∙ c.in_ok-draft.ensures.so goes_out
    ∙ ap (λ x. goes_on d (goes_out_if goes_out (drafted n d) x)) c.in-None.is in
    gives n _ _ d so (gives_done n d)
