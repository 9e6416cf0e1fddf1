-- What a page is told of a protocol, besides its words.
use Rattle.std.specs.Prelude.{ℕ, List}

-- Its title; of each kind of messages, by its number, and of the protocol as a whole the members of JSON that say how they look.
pub record Looks : Type 0 where
  pub title : List ℕ
  pub kind : ℕ → List ℕ
  pub rest : List ℕ
