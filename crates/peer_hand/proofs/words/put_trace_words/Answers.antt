use Rattle.std.proofs.Common.{◌≡◌, ◌++◌, subst, sym}
use Rattle.std.specs.Prelude.{IfOk}
use Rattle.peer_texts.specs.declared.fault.TraceFault.{TraceFault}
use Rattle.peer_hand.specs.Words.{trace_words}
use Rattle.peer_hand.proofs.words.put_trace_words.Goals as goal

pub returns-in-Count : goal.returns-in-Count
unfolding trace_words
returns-in-Count c =
    let put = c.put_counts in
    subst (λ (f : TraceFault). IfOk put.result (λ _. put.new.text.items ≡ c.args.text.now.items ++ trace_words f)) (sym c.in-Count.is) put.ensures

pub returns-in-Memory : goal.returns-in-Memory
unfolding trace_words
returns-in-Memory c =
    let put = c.put_words in
    subst (λ (f : TraceFault). IfOk put.result (λ _. put.new.text.items ≡ c.args.text.now.items ++ trace_words f)) (sym c.in-Memory.is) put.ensures
