-- The lines of a text, each judged by what the lines before it say.
use Rattle.std.specs.Prelude.{ℕ, ◌≡◌, ◌<◌, ◌≤◌, ◌-◌, length, take, slice_index_or, List, Option, Some, None}

-- what lines have said, the first fault of a line where those before it have said this, and a line that says nothing
pub record Judge (Line Said Fault : Type 0) : Type 0 where
  pub said_in : List Line → Said
  pub line_fault : Said → Line → Option Fault
  pub passed : Line

-- the first fault of line k, counted from 0
abbrev pub fault_at : {Line Said Fault : Type 0} → Judge Line Said Fault → List Line → ℕ → Option Fault
fault_at judge lines k = judge.line_fault (judge.said_in (take k lines)) (slice_index_or lines k judge.passed)

-- no line has a fault
abbrev pub AreSound : {Line Said Fault : Type 0} → Judge Line Said Fault → List Line → Type 0
AreSound judge lines = (k : ℕ) → k < length lines → fault_at judge lines k ≡ None

-- the first faulty line has this number, counted from 1, and this is its first fault
pub record IsFirstFault {Line Said Fault : Type 0} (judge : Judge Line Said Fault) (lines : List Line) (number : ℕ) (fault : Fault) : Type 0 where
  pub counted : 1 ≤ number
  pub here : fault_at judge lines (number - 1) ≡ Some fault
  pub before : (k : ℕ) → k < number - 1 → fault_at judge lines k ≡ None
