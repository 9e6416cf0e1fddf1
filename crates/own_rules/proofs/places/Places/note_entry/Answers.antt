use Rattle.std.proofs.Common.{◌≡◌, refl, subst, OnOk, Result, Ok, Err, Some, None}
use Rattle.std.proofs.lemmas.Option.{same_Some}
use Rattle.own_rules.specs.Places.{first_at, place_in}
use Rattle.own_rules.specs.declared.node.Lookup.{Lookup}
use Rattle.own_rules.proofs.Placing.{places_more}
use Rattle.own_rules.proofs.places.Places.note_entry.Goals as goal

on_ok : {A E P Q : Type 0} (r : Result A E) → (P → Q) → OnOk r P → OnOk r Q
on_ok (Ok x) f p = f p
on_ok (Err e) f p = tt

pub returns-in-None : goal.returns-in-None
returns-in-None c = λ is.
    places_more c.args.texts.now c.args.book.now c.args.index c.args.self.now c.args.self.now None c.requires is c.in-None.ensures
    (λ k h. cc) (λ h. refl)

pub returns-in-Some : goal.returns-in-Some
returns-in-Some c =
    on_ok c.note.result
    (λ noted is.
    places_more c.args.texts.now c.args.book.now c.args.index c.args.self.now c.note.new.self (Some c.in-Some.lookup) c.requires is
    c.in-Some.ensures
    (λ k h l. subst (λ (x : Lookup). place_in c.note.new.self l ≡ first_at c.args.self.now x c.args.index l) (same_Some _ _ h) (noted l))
    (λ h. cc))
    c.note.ensures
