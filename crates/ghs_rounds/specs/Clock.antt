-- Which round it is, and the chains by which it is seen what is due.
use Rattle.std.specs.Prelude.{ℕ}
use Rattle.peer_chains.specs.Kept.{Kept}

pub record ClockState : Type 0 where
  pub kept : Kept
  pub round : ℕ
