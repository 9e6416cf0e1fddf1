use Rattle.std.proofs.Common.{◌∙◌, ap, subst}
use Rattle.own_rules.specs.Looks.{looks_in}
use Rattle.own_rules.specs.Ready.{AreReady}
use Rattle.own_rules.specs.Texts.{names_of}
use Rattle.own_rules.proofs.rulebook.Rulebook.of.Goals as goal

pub invariant_of-result : goal.invariant_of-result
invariant_of-result c = record {
  kinds = c.in_ok-kinds.ensures.kinds;
  readable = c.in_ok-kinds.ensures.readable;
  names = c.in_ok-names.ensures ∙ ap names_of c.deref.ensures.value;
  texts = c.in_ok-texts.ensures;
  places = c.in_ok-places.ensures;
  title = c.in_ok-title.ensures;
  looks = c.in_ok-looks.ensures ∙ ap looks_in c.deref-3.ensures.value;
  ready = subst (λ k. AreReady c.in_ok-texts.texts k c.args.book c.in_ok-ready.ready.items) c.deref-2.ensures.value c.in_ok-ready.ensures;
}
