-- What a node does with its work, and when two nodes do the same.
use Rattle.std.specs.Prelude.{ℕ, Bool, true, false, cond, not, ◌&&◌, ◌==◌, map, ◌++◌, List}
use Rattle.std.specs.Cmp.Lexicographic.{pointwise}
use Rattle.std.specs.List.{list_all}
use Rattle.std.specs.Str.{bytes_eq}
use Rattle.ghs_node.specs.declared.delta.Delta.{Delta}
use Rattle.ghs_node.specs.declared.delta.Fate.{Fate}
use Rattle.ghs_node.specs.declared.delta.Fate.TheVariants.{Consumed, Requeued}
use Rattle.ghs_node.specs.declared.message.Message.{Message}
use Rattle.ghs_steps.specs.Words.{says}
use Rattle.own_book.specs.Sends.{Sending, at_port}
use Rattle.own_book.specs.Variables.{says_halted}
use Rattle.own_book.specs.Answer.{sends_in}
use Rattle.peer_words.specs.Text.{message_text}

-- whether it defers the message, what it sends in order, whether it halts
pub record DeedState : Type 0 where
  pub waits : Bool
  pub sends : List Sending
  pub halts : Bool

abbrev pub is_deferred : Fate → Bool
is_deferred Consumed = false
is_deferred Requeued = true

-- a message that goes out, as an answer spells it
abbrev pub spelled : ℕ × Message → Sending
spelled s = (s.0, message_text (says s.1))

-- what the proved node does
abbrev pub deed_of : Delta → DeedState
deed_of d = record { waits = is_deferred d.fate; sends = map spelled d.sends; halts = d.halts }

-- what an answer does; a node halts with the answer by which its state gets `halted=yes`
abbrev pub deed_in : (before after : List ℕ) → Bool → (sends : List ℕ) → DeedState
deed_in before after waits sends = record { waits = waits; sends = sends_in sends; halts = says_halted after && not (says_halted before) }

abbrev pub same_sending : Sending → Sending → Bool
same_sending s t = s.0 == t.0 && bytes_eq s.1 t.1

-- the same messages at each port of either, in the same order
abbrev pub same_sends : List Sending → List Sending → Bool
same_sends one other = list_all (λ (s : Sending). pointwise same_sending (at_port s.0 one) (at_port s.0 other)) (one ++ other)

abbrev pub is_same : Bool → Bool → Bool
is_same b c = cond b c (not c)

abbrev pub agree : DeedState → DeedState → Bool
agree one other = is_same one.waits other.waits && is_same one.halts other.halts && same_sends one.sends other.sends
