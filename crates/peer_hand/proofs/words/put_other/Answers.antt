use Rattle.std.proofs.Common.{◌++◌, ◌∙◌, ap, codes}
use Rattle.std.proofs.lemmas.List.{append_assoc}
use Rattle.peer_hand.specs.Words.{other_words}
use Rattle.peer_hand.proofs.words.put_other.Goals as goal

pub returns : goal.returns
unfolding other_words
returns c =
    let text = c.args.text.now.items in
    let lead = codes "trace\",\"words\":\"the trace is of --protocol " in
    let word = c.as_bytes.result.now in
    c.in_ok-extend_from_slice-2.ensures.items
    ∙ ap (λ l. l ++ word) c.in_ok-extend_from_slice.ensures.items
    ∙ append_assoc text lead word
    ∙ ap (λ l. text ++ (lead ++ l)) (c.as_bytes.ensures.value ∙ c.name.ensures.name)
