use Rattle.std.proofs.Common.{◌≡◌, ◌∙◌, ◌++◌, ◌∷◌, [], true, false, List, ap, ap₂, sym, map}
use Rattle.std.specs.List.{list_any}
use Rattle.std.specs.Str.{bytes_eq}
use Rattle.std.proofs.lemmas.Bool.{cond-false, cond-true}
use Rattle.std.proofs.lemmas.List.{map-append}
use Rattle.own_rules.specs.Texts.{Text}
use Rattle.own_rules.proofs.Numbering.{any_is}
use Rattle.own_rules.proofs.texts.Texts.note.Goals as goal

pub returns-then-contains : goal.returns-then-contains
returns-then-contains c =
    let text = c.args.text.now in
    let some : list_any (bytes_eq text) c.args.self.now ≡ true =
    ap (list_any (bytes_eq text)) (sym c.self.view_is) ∙ sym (any_is (λ v. v.items) text c.self.inside.set.keys) ∙ sym c.contains.ensures
    ∙ c.if-contains.true in
    sym (cond-true (list_any (bytes_eq text) c.args.self.now) c.args.self.now (c.args.self.now ++ text ∷ []) some)

pub returns : goal.returns
returns c =
    let text = c.args.text.now in
    let same = c.in_ok-text.ensures.items in
    let none : list_any (bytes_eq text) c.args.self.now ≡ false =
    ap (list_any (bytes_eq text)) (sym c.self.view_is) ∙ sym (any_is (λ v. v.items) text c.self.inside.set.keys) ∙ sym c.contains.ensures
    ∙ c.if-contains.false in
    let absent = sym c.contains.ensures ∙ c.if-contains.false in
    let own = ap (λ (t : Text). list_any (λ v. bytes_eq t v.items) c.self.inside.set.keys) same ∙ absent in
    ap (map (λ v. v.items)) (c.in_ok-insert.ensures.keys ∙ cond-false _ _ _ own)
    ∙ map-append (λ v. v.items) c.self.inside.set.keys (c.in_ok-text.text ∷ [])
    ∙ ap₂ (λ (ts : List Text) (t : Text). ts ++ t ∷ []) c.self.view_is same
    ∙ sym (cond-false (list_any (bytes_eq text) c.args.self.now) c.args.self.now (c.args.self.now ++ text ∷ []) none)
