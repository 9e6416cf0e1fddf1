use Rattle.std.proofs.Common.{◌≡◌, ◌++◌, subst, sym}
use Rattle.std.specs.Prelude.{IfOk}
use Rattle.peer_hand.specs.declared.fault.HandFault.{HandFault}
use Rattle.peer_hand.specs.Words.{fault_members}
use Rattle.peer_hand.proofs.words.put_members.Goals as goal

pub returns-in-TurnLimit : goal.returns-in-TurnLimit
unfolding fault_members
returns-in-TurnLimit c =
    let put = c.put_words-in-TurnLimit in
    subst (λ (f : HandFault). IfOk put.result (λ _. put.new.text.items ≡ c.args.text.now.items ++ fault_members f))
    (sym c.in-TurnLimit.is) put.ensures

pub returns-in-Memory : goal.returns-in-Memory
unfolding fault_members
returns-in-Memory c =
    let put = c.put_words-in-Memory in
    subst (λ (f : HandFault). IfOk put.result (λ _. put.new.text.items ≡ c.args.text.now.items ++ fault_members f))
    (sym c.in-Memory.is) put.ensures

pub returns-in-Own : goal.returns-in-Own
unfolding fault_members
returns-in-Own c =
    let put = c.put_words in
    subst (λ (f : HandFault). IfOk put.result (λ _. put.new.text.items ≡ c.args.text.now.items ++ fault_members f))
    (sym c.in-Own.is) put.ensures
