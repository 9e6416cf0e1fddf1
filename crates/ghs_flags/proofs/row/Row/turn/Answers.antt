use Rattle.std.proofs.Common.{◌∙◌, arith}
use Rattle.std.proofs.lemmas.List.{get_or_default}
use Rattle.ghs_flags.proofs.Ranks.{length-flags_of, at-flags_of}
use Rattle.ghs_flags.proofs.Rows.{word_within}
use Rattle.ghs_flags.proofs.Turning.{row_turned, flags-turned}
use Rattle.ghs_flags.proofs.row.Row.turn.Goals as goal

pub index-requires : goal.index-requires
index-requires c = let word = word_within c.self.invariant c.args.place (rw c.self.view_is c.requires) in omega arith

pub index_mut-requires : goal.index_mut-requires
index_mut-requires c = let word = word_within c.self.invariant c.args.place (rw c.self.view_is c.requires) in omega arith

pub invariant_of-self : goal.invariant_of-self
invariant_of-self c =
    let word = word_within c.self.invariant c.args.place (rw c.self.view_is c.requires) in
    let lt = rw (← c.self.view_is, length-flags_of) at c.requires in
    let read = c.index.ensures ∙ get_or_default _ _ _ 0 word in
    rw (c.turned.ensures, read) (row_turned c.self.inside.words.items c.args.place word c.self.invariant.bits c.self.inside.len c.self.invariant lt)

pub returns : goal.returns
returns c =
    let word = word_within c.self.invariant c.args.place (rw c.self.view_is c.requires) in
    let lt = rw (← c.self.view_is, length-flags_of) at c.requires in
    let read = c.index.ensures ∙ get_or_default _ _ _ 0 word in
    rw (c.turned.ensures, read, ← c.self.view_is, at-flags_of) (flags-turned c.self.inside.words.items c.args.place word c.self.inside.len lt)
