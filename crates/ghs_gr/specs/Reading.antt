-- What is known of a text while it is read.
use Rattle.std.specs.Prelude.{ℕ, ◌≡◌, ◌≢◌, ◌<◌, ◌≤◌, ◌++◌, ◌∷◌, [], length, slice_index, List}
use Rattle.ghs_lines.specs.Lines.{lines_of}
use Rattle.ghs_gr.specs.Line.{meanings}
use Rattle.ghs_gr.specs.Pass.{IsPass}
use Rattle.ghs_gr.specs.declared.reading.Reading.{Reading}

-- the last byte is a line feed
abbrev pub EndsInFeed : List ℕ → Type 0
EndsInFeed bytes = (front : List ℕ) × (bytes ≡ front ++ 10 ∷ [])

abbrev pub HasNoFeed : List ℕ → Type 0
HasNoFeed bytes = (k : ℕ) → k < length bytes → slice_index bytes k ≢ 10

-- whatever bytes come behind, they begin a line
abbrev pub EndsLine : List ℕ → Type 0
EndsLine bytes = (more : List ℕ) → lines_of (bytes ++ more) ≡ lines_of bytes ++ lines_of more

-- the pass is over the lines of this text, but for the last one, if its line feed hasn't come yet: its bytes are kept
pub record HasTaken (reading : Reading) (text : List ℕ) : Type 0 where
  pub gone : List ℕ
  pub all : text ≡ gone ++ reading.cut.items
  pub whole : EndsLine gone
  pub cut : HasNoFeed reading.cut.items
  pub pass : IsPass (meanings gone) reading.pass
  pub few : reading.pass.lines ≤ length gone
