use Rattle.std.proofs.Common.{sym}
use Rattle.ghs_flags.proofs.Ranks.{length-flags_of}
use Rattle.ghs_flags.proofs.row.Row.len.Goals as goal

pub returns : goal.returns
returns c = rw (← c.self.view_is) (sym (length-flags_of c.self.inside.words.items c.self.inside.len))
