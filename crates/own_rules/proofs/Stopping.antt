-- The nodes that have stopped are those of the net.
use Rattle.std.proofs.Common.{◌≤◌, ℕ, zero, suc, [], arith}
use Rattle.std.specs.List.{All}
use Rattle.std.proofs.lemmas.List.Elements.{All-append, All-nil, All-push, All-weaker}
use Rattle.own_rules.specs.Stops.{AreWithin, stop_in, stops_in}
use Rattle.own_rules.specs.declared.node.Node.{Node}
use Rattle.own_rules.specs.declared.node.State.{State}
use Rattle.own_rules.specs.declared.node.State.TheVariants.{Runs, Stopped}
use Rattle.own_rules.specs.declared.node.Stop.{Stop}

abbrev IsWithin : ℕ → ℕ × Stop → Type 0
IsWithin n s = (1 ≤ s.0) × (s.0 ≤ n)

first : (n : ℕ) → 1 ≤ suc n
first n = omega (arith)

last : (n : ℕ) → suc n ≤ suc n
last n = omega (arith)

later : (m n : ℕ) → m ≤ n → m ≤ suc n
later m n h = omega (arith, h)

one_within : (n : ℕ) (s : State) → All (IsWithin (suc n)) (stop_in (suc n) s)
one_within n (Runs text asleep left) = All-nil _
one_within n (Stopped s) = All-push (IsWithin (suc n)) [] (suc n, s) (All-nil _) (first n, last n)

pub stops_within : (node : ℕ → Node) (n : ℕ) → AreWithin n (stops_in node n)
stops_within node zero = All-nil _
stops_within node (suc n) =
    All-append (IsWithin (suc n)) (stops_in node n) (stop_in (suc n) (node (suc n)).state)
    (All-weaker (IsWithin n) (IsWithin (suc n)) (λ s h. (h.0, later s.0 n h.1)) (stops_in node n) (stops_within node n))
    (one_within n (node (suc n)).state)
