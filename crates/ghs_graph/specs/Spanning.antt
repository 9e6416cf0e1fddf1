-- Roots that tell which nodes links join.
use Rattle.std.specs.Prelude.{◌≡◌, ℕ, ◌+◌, ◌<◌, List, length}
use Rattle.ghs_graph.specs.declared.key.Key.{Key}
use Rattle.ghs_graph.specs.Links.{Joined, links, IsTree}
use Rattle.ghs_graph.specs.Classes.{AreTogether}

-- numbers have the same root exactly where the links join them
pub record AreTold (rs : List ℕ) (ks : List Key) : Type 0 where
  pub joined : (u v : ℕ) → u < length rs → v < length rs → AreTogether rs u v → Joined (links ks) u v
  pub together : (u v : ℕ) → u < length rs → v < length rs → Joined (links ks) u v → AreTogether rs u v

-- the roots of 0 and n nodes tell what the links join, and a list is the links' minimum spanning forest
pub record IsSpanned (n : ℕ) (ks : List Key) (rs : List ℕ) (forest : List Key) : Type 0 where
  pub count : length rs ≡ n + 1
  pub told : AreTold rs ks
  pub tree : IsTree ks forest
