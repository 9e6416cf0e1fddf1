-- How many bits a message has.
use Rattle.std.specs.Prelude.{ℕ, ◌+◌, Some, None}
use Rattle.ghs_bits.specs.declared.widths.Widths.{Widths}
use Rattle.ghs_bits.specs.Length.{key_width}
use Rattle.boruvka_node.specs.declared.message.Message.{Message}
use Rattle.boruvka_node.specs.declared.message.Message.TheVariants.{Connect, Initiate, Name, Report, ChangeRoot}

-- three bits for the kind, and one for whether a Report has a key
abbrev pub length_of : Widths → Message → ℕ
length_of w (Connect l) = 3 + w.level
length_of w (Initiate l f) = 3 + w.level + key_width w
length_of w (Name l f) = 3 + w.level + key_width w
length_of w (Report None) = 3 + 1
length_of w (Report (Some k)) = 3 + 1 + key_width w
length_of w ChangeRoot = 3
