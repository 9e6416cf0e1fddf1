use Rattle.std.proofs.Common.{ap}
use Rattle.boruvka_node.specs.Draft.{drafted, goes_on}
use Rattle.boruvka_node.specs.Reaction.{closes, heard, is_next_name}
use Rattle.boruvka_node.proofs.Drafts.{gives, gives_if, if_ok}
use Rattle.boruvka_node.proofs.Responding.{heard_draft}
use Rattle.boruvka_node.proofs.react.on_name.Goals as goal

pub returns : goal.returns
returns c =
    let n = c.args.node.now in
    let d = c.args.draft in
    let j = c.args.port in
    let l = c.args.level in
    let f = c.args.fragment in
    let same = heard_draft n d j l f c.port-state.result c.heard_mark-mark.result c.requires.port c.requires.entry
    c.port-state.ensures c.heard_mark-mark.ensures in
    let closed = closes (heard (drafted n d) j l f) in
    if_ok c.close_and_go.result _ _
    (λ e g. gives_if n e d.sends.items (is_next_name (drafted n d) j l) closed (gives n _ _ e (ap (λ x. goes_on d (closes x)) same) g))
    c.close_and_go.ensures
