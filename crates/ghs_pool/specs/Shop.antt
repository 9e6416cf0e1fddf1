-- A world and what was published of it.
use Rattle.std.specs.Prelude.{◌≡◌, ◌↔◌, true, [], ◌∷◌, ◌++◌, length}
use Rattle.ghs_protocol.specs.Marks.{HasEnded}
use Rattle.ghs_shared.specs.declared.progress.Progress.{Progress}
use Rattle.ghs_shared.specs.Progress.{last_of}
use Rattle.ghs_shared.specs.Board.{Published}
use Rattle.ghs_core.specs.NetState.{NetState, net_of}
use Rattle.ghs_world.specs.WorldState.{WorldState}

-- what contracts see of a shop: its world, and all that was published
pub record ShopState : Type 0 where
  pub world : WorldState
  pub told : Published

-- the pair is the net's: how many events there were, and whether the run has ended
pub record IsPairOf (n : NetState) (p : Progress) : Type 0 where
  pub commits : p.commits ≡ length n.trace
  pub ended : (p.halted ≡ true) ↔ HasEnded n.graph (net_of n)

-- the last pair that was published is that of the world's home view
abbrev pub IsTold : WorldState → Published → Type 0
IsTold s told = IsPairOf s.net (last_of told.list)

-- one pair more is published, that of the world's home view
pub record Publishes (old new : Published) (s : WorldState) : Type 0 where
  pub pair : Progress
  pub of_world : IsPairOf s.net pair
  pub table : new.table ≡ old.table
  pub list : new.list ≡ old.list ++ pair ∷ []
