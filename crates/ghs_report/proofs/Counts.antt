-- Counts of messages that are the same for each of the seven kinds.
use Rattle.std.proofs.Common.{◌≡◌, ℕ, ◌<◌, arith, refl}
use Rattle.ghs_graph.specs.Bound.{IsBound}
use Rattle.ghs_report.specs.ReportText.{messages_line}

-- the same line
pub same_line : (f g : ℕ → ℕ) → ((k : ℕ) → k < 7 → f k ≡ g k) → messages_line f ≡ messages_line g
same_line f g same =
    rw (same 0 (omega arith)) (rw (same 1 (omega arith)) (rw (same 2 (omega arith))
    (rw (same 3 (omega arith)) (rw (same 4 (omega arith)) (rw (same 5 (omega arith)) (rw (same 6 (omega arith)) refl))))))

-- the same bound
pub same_bound : (n m e f b : ℕ) → n ≡ m → e ≡ f → IsBound n e b → IsBound m f b
same_bound n m e f b nodes links bound = rw (← nodes) (rw (← links) bound)
