use Rattle.std.proofs.Common.{◌∙◌, ap}
use Rattle.boruvka_node.specs.Draft.{drafted, goes_on, goes_out_if}
use Rattle.boruvka_node.specs.Reaction.{connects}
use Rattle.boruvka_node.proofs.Drafts.{if_ok}
use Rattle.boruvka_node.proofs.Entries.{entering, entering_node, enters_done}
use Rattle.boruvka_node.proofs.draft.enter.Goals as goal

pub returns-in-Some : goal.returns-in-Some
returns-in-Some c =
    let n = c.args.node.now in
    let d = c.args.draft in
    let t = entering d c.in_ok-draft.draft c.args.level c.args.name c.args.parent in
    let e = c.in_ok-draft-2.draft in
    let node = entering_node n d c.in_ok-draft.draft c.args.level c.args.name c.args.parent c.requires c.in_ok-draft.ensures.change in
    let so = c.in_ok-draft-2.ensures.so connects ∙ ap (λ x. goes_on e (goes_out_if connects (drafted n e) x)) c.in-Some.is in
    if_ok c.connect_over.result _ _
    (λ r g. enters_done n d t c.args.level c.args.name c.args.parent r c.in_ok-draft.ensures.sends node (so ∙ g)) c.connect_over.ensures.so

pub returns-in-None : goal.returns-in-None
returns-in-None c =
    let n = c.args.node.now in
    let d = c.args.draft in
    let t = entering d c.in_ok-draft.draft c.args.level c.args.name c.args.parent in
    let e = c.in_ok-draft-2.draft in
    let node = entering_node n d c.in_ok-draft.draft c.args.level c.args.name c.args.parent c.requires c.in_ok-draft.ensures.change in
    let so = c.in_ok-draft-2.ensures.so connects ∙ ap (λ x. goes_on e (goes_out_if connects (drafted n e) x)) c.in-None.is in
    enters_done n d t c.args.level c.args.name c.args.parent e c.in_ok-draft.ensures.sends node so
