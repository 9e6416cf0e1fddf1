use Rattle.std.proofs.Common.{◌≡◌, ◌+◌, ◌<◌, ◌++◌, List, [], length, sym, ◌∙◌, ap, append-nil, arith}
use Rattle.std.proofs.lemmas.List.{get_or_default}
use Rattle.peer_steps.specs.declared.change.Change.{Change}
use Rattle.peer_steps.specs.Changes.{marks_below}
use Rattle.peer_steps.proofs.Differing.{next_mark, none_before, none_behind}
use Rattle.peer_steps.proofs.noting.note_marks.Goals as goal

pub loop-at-init : goal.loop-at-init
loop-at-init g c = λ old noted.
    let words = g.P.Spoken.words in
    let b = c.args.before.now in
    let now = c.args.node.now in
    sym
    (ap (λ (t : List Change). c.args.list.now.items ++ t)
    (ap (marks_below words old now) (let e : b.first + 0 ≡ b.first = omega arith in e)
    ∙ none_before words old now b.ports b.first b.marks.items b.variables.items noted)
    ∙ append-nil c.args.list.now.items)

pub loop-at-preserved : goal.loop-at-preserved
loop-at-preserved g c = λ old noted.
    let b = c.args.before.now in
    let lt : c.loop-at.at < length b.marks.items =
    let lt = c.loop-at-test.true in let few = c.loop-at.auto.at-end in let end = c.len-at-end.ensures in omega (arith, lt, few, end) in
    next_mark g.P.Spoken.words old c.args.node.now b.ports b.first b.marks.items b.variables.items noted c.loop-at.at _ _ _ lt
    (c.loop-at.invariant old noted)
    (rw (c.index.ensures ∙ get_or_default b.marks.items c.loop-at.at _ [] lt) at c.in_ok-note_mark.ensures)

pub returns : goal.returns
returns g c = λ old noted.
    let b = c.args.before.now in
    let words = g.P.Spoken.words in
    let all : c.loop-at.at ≡ length b.marks.items =
    let past = c.loop-at-test.false in let few = c.loop-at.auto.at-end in let end = c.len-at-end.ensures in omega (arith, past, few, end) in
    c.loop-at.invariant old noted
    ∙ ap (λ (t : List Change). c.args.list.now.items ++ t)
    (ap (λ n. marks_below words old c.args.node.now (b.first + n)) all
    ∙ none_behind words old c.args.node.now b.ports b.first b.marks.items b.variables.items noted)
