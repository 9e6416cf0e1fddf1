use Rattle.boruvka_node.specs.declared.message.Message.TheVariants.{Name, Report}
use Rattle.boruvka_node.proofs.Drafts.{if_ok}
use Rattle.boruvka_node.proofs.Responding.{began}
use Rattle.boruvka_node.proofs.react.respond.Goals as goal

pub returns-in-Name : goal.returns-in-Name
returns-in-Name c =
    let n = c.args.node.now in
    let d = c.in_ok-draft.draft in
    rw c.in-Name.is
    (if_ok c.on_name.result _ _
    (λ e g. began n c.args.port d e (Name c.in-Name.level c.in-Name.name) c.in_ok-draft.ensures.so g) c.on_name.ensures)

pub returns-in-Report : goal.returns-in-Report
returns-in-Report c =
    let n = c.args.node.now in
    let d = c.in_ok-draft.draft in
    rw c.in-Report.is
    (if_ok c.on_report.result _ _
    (λ e g. began n c.args.port d e (Report c.in-Report.key) c.in_ok-draft.ensures.so g) c.on_report.ensures)
