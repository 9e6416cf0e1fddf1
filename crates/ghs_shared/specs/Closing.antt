-- How a queue is closed.
use Rattle.std.specs.Prelude.{◌≡◌, ◌≢◌, ℕ, ◌+◌, List, ◌++◌}
use Rattle.ghs_shared.specs.Bags.{Line, Bags, times}
use Rattle.ghs_shared.specs.declared.queue.CloseFault.{CloseFault}
use Rattle.ghs_shared.specs.declared.queue.CloseFault.TheVariants.{PassMissing, Memory}

-- all shares are here, and each number was taken or is left as often as it was put; where there is one share, in this order
pub record Closes (queue : Line) (pass : Bags) (rest : List ℕ) : Type 0 where
  pub shares : pass.shares ≡ queue.name.all
  pub bags : (n : ℕ) → times n pass.put ≡ times n pass.taken + times n rest
  pub order : queue.name.all ≡ 1 → pass.put ≡ pass.taken ++ rest

-- why a queue isn't closed: shares are missing exactly at the first
abbrev pub Refuses : Line → Bags → CloseFault → Type 0
Refuses queue pass PassMissing = pass.shares ≢ queue.name.all
Refuses queue pass Memory = pass.shares ≡ queue.name.all
