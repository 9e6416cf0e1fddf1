-- What of a text that goes out by portions has gone out.
use Rattle.std.specs.Prelude.{◌≡◌, ℕ, ◌≤◌, ◌<◌, Bool, false, true, Option, List, ◌++◌, length}
use Rattle.std.specs.Io.KnownBytes.{Appends}
use Rattle.ghs_report.specs.Writing.{HasWritten}
use Rattle.ghs_report.specs.declared.portions.WriteFault.{WriteFault}
use Rattle.ghs_report.specs.declared.portions.WriteFault.TheVariants.{Memory, Write}

-- the first `gone` bytes of the text so far have gone out, and the others wait
pub record IsOut (old now : Option (List ℕ)) (text : List ℕ) (gone : ℕ) (waiting : List ℕ) : Type 0 where
  pub front : List ℕ
  pub cut : text ≡ front ++ waiting
  pub count : length front ≡ gone
  pub out : Appends old now front

-- only a front of the text has gone out: as much as the fault says, or some
abbrev pub IsFront : Option (List ℕ) → Option (List ℕ) → List ℕ → WriteFault → Type 0
IsFront old new text Memory = (k : ℕ) × (k ≤ length text) × HasWritten old new text k
IsFront old new text (Write k) = (k < length text) × HasWritten old new text k

-- the writer failed, or took no byte
abbrev pub is_write : WriteFault → Bool
is_write Memory = false
is_write (Write k) = true
