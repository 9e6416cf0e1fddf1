-- What a writer holds after a text went out to it.
use Rattle.std.specs.Prelude.{ℕ, List, take, Option}
use Rattle.std.specs.Io.KnownBytes.{Appends}

-- where a writer's bytes are known: the first `count` of these bytes stand behind what it held
abbrev pub HasWritten : Option (List ℕ) → Option (List ℕ) → List ℕ → ℕ → Type 0
HasWritten old new bytes count = Appends old new (take count bytes)
