-- What is told of a protocol by lines of its runs.
use Rattle.std.specs.Prelude.{ℕ, Bool, List}
use Rattle.peer_sweep.specs.declared.measure.Measure.{Measure}

-- Its name; how many kinds of messages it has, and the name of each; and which measures have one value in all runs of a graph that have ended.
pub record About : Type 0 where
  pub name : List ℕ
  pub kinds : ℕ
  pub kind : ℕ → List ℕ
  pub is_fixed : Measure → Bool
