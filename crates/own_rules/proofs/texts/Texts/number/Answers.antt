use Rattle.std.proofs.Common.{◌∙◌, sym}
use Rattle.std.specs.Str.{bytes_eq}
use Rattle.own_rules.proofs.Numbering.{none_len}
use Rattle.own_rules.proofs.texts.Texts.number.Goals as goal

pub returns-in-None : goal.returns-in-None
returns-in-None c = c.len.ensures ∙ sym (none_len (bytes_eq c.args.text.now) c.args.self.now (sym c.in-None.ensures))
