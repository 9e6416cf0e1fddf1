-- The words of a protocol.
use Rattle.std.specs.Prelude.{ℕ, List}
use Rattle.peer_machine.specs.declared.work.Work.{Work}
use Rattle.peer_words.specs.declared.value.Said.{Said}
use Rattle.peer_words.specs.declared.value.Saying.{Saying}

-- Its name; a message in words, and the name of each kind of messages; the row by which a node reacts to some work; the variables of a node, in
-- the order of the texts, and the mark
-- of each of its ports.
pub record Words (S M : Type 0) : Type 0 where
  pub name : List ℕ
  pub says : M → Saying
  pub kind : ℕ → List ℕ
  pub row : S → Work M → List ℕ
  pub variables : S → List Said
  pub mark : S → ℕ → List ℕ
