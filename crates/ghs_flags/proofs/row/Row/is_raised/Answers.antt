use Rattle.std.proofs.Common.{◌∙◌, arith}
use Rattle.std.proofs.lemmas.List.{get_or_default}
use Rattle.ghs_flags.proofs.Ranks.{length-flags_of, at-flags_of}
use Rattle.ghs_flags.proofs.Rows.{word_within}
use Rattle.ghs_flags.proofs.row.Row.is_raised.Goals as goal

pub index-requires : goal.index-requires
index-requires c = let word = word_within c.self.invariant c.args.place (rw c.self.view_is c.requires) in omega arith

pub returns : goal.returns
returns c =
    let lt = rw (← c.self.view_is, length-flags_of) at c.requires in
    let word = word_within c.self.invariant c.args.place (rw c.self.view_is c.requires) in
    let read = c.index.ensures ∙ get_or_default _ _ _ 0 word in
    rw (← c.self.view_is, at-flags_of, ← read) c.has_bit.ensures
