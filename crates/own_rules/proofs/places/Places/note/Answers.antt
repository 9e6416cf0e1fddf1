use Rattle.std.proofs.Common.{◌∙◌, ap, sym}
use Rattle.std.specs.Option.{is_some}
use Rattle.own_rules.specs.Places.{first_at, place_in}
use Rattle.own_rules.proofs.Placing.{kept_in, noted_in}
use Rattle.own_rules.proofs.places.Places.note.Goals as goal

pub returns-then-is_some : goal.returns-then-is_some
returns-then-is_some c =
    kept_in c.args.self.now c.args.lookup c.args.place (ap is_some (sym c.place.ensures) ∙ sym c.is_some.ensures ∙ c.if-is_some.true)

pub returns : goal.returns
returns c = λ l.
    noted_in c.self.inside.map.entries c.insert.new.self.entries c.args.lookup c.args.place
    (ap (λ es. is_some (place_in es c.args.lookup)) c.self.view_is ∙ ap is_some (sym c.place.ensures) ∙ sym c.is_some.ensures
    ∙ c.if-is_some.false)
    c.in_ok-insert.ensures.updates.0 l
    ∙ ap (λ es. first_at es c.args.lookup c.args.place l) c.self.view_is
