-- Which steps are shown.
use Rattle.std.specs.Prelude.{ℕ, Bool, true, ◌&&◌, ◌==◌, nat_le, Option, Some, None}
use Rattle.ghs_choices.specs.declared.choice.Choice.{Choice}

-- the node is the one that is asked for; where none is, all are
abbrev pub is_wanted : Option ℕ → ℕ → Bool
is_wanted None v = true
is_wanted (Some u) v = u == v

-- by the event's number and its node
abbrev pub is_chosen : Choice → ℕ → ℕ → Bool
is_chosen c number v = nat_le c.from number && nat_le number c.to && is_wanted c.node v
