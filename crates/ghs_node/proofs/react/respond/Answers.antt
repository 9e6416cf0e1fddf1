use Rattle.std.proofs.Common.{subst}
use Rattle.ghs_node.specs.Draft.{Answers}
use Rattle.ghs_node.proofs.Going.{begun_count, begun_plain, connect_begins, test_begins, accept_answers, reject_answers, report_answers, root_answers}
use Rattle.ghs_node.proofs.react.respond.Goals as goal

pub on_connect-requires-clause-count : goal.on_connect-requires-clause-count
on_connect-requires-clause-count c = begun_count _ c.requires.node _ c.in_ok-begin-in-Connect.ensures.ok

pub on_test-requires-clause-plain : goal.on_test-requires-clause-plain
on_test-requires-clause-plain c = begun_plain _ c.requires.node _ c.in_ok-begin-in-Test.ensures.ok

pub returns-in_ok-begin-in-Connect : goal.returns-in_ok-begin-in-Connect
returns-in_ok-begin-in-Connect c =
    rw c.in-Connect.is
    (subst (λ o. Answers c.on_connect.result c.on_connect.new.delta o)
    (connect_begins _ c.requires.node _ c.in_ok-begin-in-Connect.ensures.ok c.args.port c.in-Connect.level c.requires.port)
    c.on_connect.ensures)

pub returns-in_ok-begin-in-Test : goal.returns-in_ok-begin-in-Test
returns-in_ok-begin-in-Test c =
    rw c.in-Test.is
    (subst (λ o. Answers c.on_test.result c.on_test.new.delta o)
    (test_begins _ c.requires.node _ c.in_ok-begin-in-Test.ensures.ok c.args.port c.in-Test.level c.in-Test.name c.requires.port)
    c.on_test.ensures)

pub returns-in-Accept : goal.returns-in-Accept
returns-in-Accept c =
    rw c.in-Accept.is
    (subst (λ o. Answers c.on_accept.result c.on_accept.new.delta o) (accept_answers _ c.args.port c.requires.node) c.on_accept.ensures)

pub returns-in-Reject : goal.returns-in-Reject
returns-in-Reject c =
    rw c.in-Reject.is
    (subst (λ o. Answers c.on_reject.result c.on_reject.new.delta o) (reject_answers _ c.args.port c.requires.node) c.on_reject.ensures)

pub returns-in-Report : goal.returns-in-Report
returns-in-Report c =
    rw c.in-Report.is
    (subst (λ o. Answers c.on_report.result c.on_report.new.delta o) (report_answers _ c.args.port c.requires.node c.in-Report.key)
    c.on_report.ensures)

pub returns-in-ChangeRoot : goal.returns-in-ChangeRoot
returns-in-ChangeRoot c =
    rw c.in-ChangeRoot.is
    (subst (λ o. Answers c.change_root.result c.change_root.new.delta o) (root_answers _ c.args.port c.requires.node) c.change_root.ensures)
