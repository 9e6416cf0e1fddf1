-- Gather: waves collect all links at a leader, which computes the forest and sends it back; the wave of the smallest number wins.
use Rattle.std.specs.Prelude.{◌≡◌, ℕ, false, is_none}
use Rattle.peer_machine.specs.Rules.{Rules, Outcome, Outgoing}
use Rattle.gather_node.specs.declared.change.Change.{Change}
use Rattle.gather_node.specs.declared.message.Message.{Message}
use Rattle.gather_node.specs.declared.message.Message.TheVariants.{Explore, Back, Tree}
use Rattle.gather_node.specs.Length.{length_of}
use Rattle.gather_node.specs.Reaction.{reaction}
use Rattle.gather_node.specs.State.{State, after, sleeper}

-- the kind of a message, from 0 on
abbrev pub kind_of : Message → ℕ
kind_of (Explore x) = 0
kind_of (Back x ks) = 1
kind_of (Tree ks) = 2

-- who knows the tree has halted
abbrev pub gather : Rules State Message
gather = record {
  opening = sleeper;
  is_asleep = λ n. is_none n.head.wave;
  has_halted = λ n. n.head.halted;
  reaction = reaction;
  defers = λ n k. false;
  kinds = 3;
  kind_of = kind_of;
  bits = length_of;
}

-- a change and what goes out are those of an outcome
abbrev pub IsAnswer : State → Change → Outgoing Message → Outcome State Message → Type 0
IsAnswer n c sends o = record { state = after n c; sends = sends } ≡ o
