-- The ports whose marks a change may change.
use Rattle.std.specs.Prelude.{ℕ, Bool, true, false, ◌==◌}
use Rattle.peer_words.specs.declared.spoken.Touched.{Touched}
use Rattle.peer_words.specs.declared.spoken.Touched.TheVariants.{NoPort, OnePort, AllPorts}

abbrev pub is_touched : Touched → ℕ → Bool
is_touched NoPort p = false
is_touched (OnePort q) p = p == q
is_touched AllPorts p = true
