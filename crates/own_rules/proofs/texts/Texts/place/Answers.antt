use Rattle.std.proofs.Common.{◌∙◌, ap}
use Rattle.std.specs.Prelude.{position}
use Rattle.std.specs.Str.{bytes_eq}
use Rattle.own_rules.proofs.Numbering.{place_is}
use Rattle.own_rules.proofs.texts.Texts.place.Goals as goal

pub returns : goal.returns
returns c =
    c.get_index_of.ensures.index ∙ place_is (λ v. v.items) c.args.text.now c.self.inside.set.keys
    ∙ ap (position (bytes_eq c.args.text.now)) c.self.view_is
