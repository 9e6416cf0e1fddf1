-- The rules of Borůvka in step, as the rules of a protocol.
use Rattle.std.specs.Prelude.{ℕ, false}
use Rattle.ghs_bits.specs.Length.{widths_of}
use Rattle.peer_machine.specs.Rules.{Rules}
use Rattle.boruvka_node.specs.declared.message.Message.{Message}
use Rattle.boruvka_node.specs.declared.message.Message.TheVariants.{Connect, Initiate, Name, Report, ChangeRoot}
use Rattle.boruvka_node.specs.Words.{is_sleeping}
use Rattle.boruvka_node.specs.State.{State, sleeper}
use Rattle.boruvka_node.specs.Reaction.{reaction}
use Rattle.boruvka_node.specs.Length.{length_of}

-- the kind of a message, from 0 on
abbrev pub kind_of : Message → ℕ
kind_of (Connect l) = 0
kind_of (Initiate l f) = 1
kind_of (Name l f) = 2
kind_of (Report w) = 3
kind_of ChangeRoot = 4

abbrev pub boruvka : Rules State Message
boruvka = record {
  opening = sleeper;
  is_asleep = λ n. is_sleeping n.head.phase;
  has_halted = λ n. n.head.halted;
  reaction = reaction;
  defers = λ n k. false;
  kinds = 5;
  kind_of = kind_of;
  bits = λ g m. length_of (widths_of g) m;
}
