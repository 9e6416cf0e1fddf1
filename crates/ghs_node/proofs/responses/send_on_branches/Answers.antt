use Rattle.std.proofs.Common.{◌≡◌, get_or, sym, ◌∙◌, arith, rules}
use Rattle.ghs_node.specs.declared.mark.Mark.TheVariants.{Branch, Rejected}
use Rattle.ghs_node.proofs.Branches.{some_branch}
use Rattle.ghs_node.proofs.Equal.{mark_decides}
use Rattle.ghs_node.proofs.responses.send_on_branches.Goals as goal

-- the message that found no room goes out on a branch
pub returns-in_err-send-clause-err : goal.returns-in_err-send-clause-err
returns-in_err-send-clause-err c =
    let ms = c.args.node.now.marks in
    let branch : get_or ms c.loop-branch.branch Rejected ≡ Branch = sym c.mark.ensures ∙ (mark_decides _ _).0 (sym c.if-eq.ensures) in
    let sent = c.loop-branch.invariant in
    let some = some_branch ms c.loop-branch.branch c.args.port c.args.message.now _ _ (omega arith) branch c.if-branch-port.true sent.grown sent.sends
    in
    search (rules, some)
