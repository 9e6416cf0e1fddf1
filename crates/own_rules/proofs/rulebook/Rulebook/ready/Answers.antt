use Rattle.std.proofs.Common.{◌≡◌, ◌∙◌, ◌≤◌, ap, subst, sym, Option, Some, slice_get}
use Rattle.std.proofs.lemmas.Option.{slice_get-get_or}
use Rattle.own_rules.specs.Ready.{price}
use Rattle.own_rules.specs.declared.ready.Ready.{Ready}
use Rattle.own_rules.proofs.Readying.{deed_at}
use Rattle.own_rules.proofs.rulebook.Rulebook.ready.Goals as goal

pub returns-then-price-from : goal.returns-then-price-from
returns-then-price-from c =
    let i = c.self.invariant in
    let f = c.self.inside in
    let got = c.in_ok-get.ensures.lookup.3 in
    let there : slice_get f.ready.items c.in_ok-place.place ≡ Some c.in_ok-get.field-0.now =
    sym (ap (λ xs. slice_get xs c.in_ok-place.place) c.deref.ensures.value)
    ∙ slice_get-get_or c.deref.result.now c.in_ok-place.place c.in_ok-get.field-0.now got.0
    ∙ ap (λ (o : Option Ready). Some o) (sym (got.1 c.in_ok-get.field-0.now)) in
    let it : Some c.in_ok-it.it.now ≡ c.in_ok-get.field-0.now = c.in_ok-it.ensures.value in
    let rich : price c.args.left c.in_ok-it.it.now ≤ c.args.left.messages =
    subst (λ n. n ≤ c.args.left.messages) c.price.ensures (subst (λ n. c.price.result ≤ n) c.from.ensures c.if-price-from.true) in
    deed_at f.book c.args.self.now f.texts f.kinds.items f.ready.items c.args.lookup c.in_ok-place.place c.args.ports c.args.left c.in_ok-it.it.now
    i.texts i.kinds c.self.view_is i.ready (sym (c.in_ok-place.ensures ∙ i.places c.args.lookup))
    (there ∙ ap (λ (o : Option Ready). Some o) (sym it)) c.if-it-ports.true rich
