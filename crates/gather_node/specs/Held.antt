-- What holds of a node's lists.
use Rattle.std.specs.Prelude.{◌≡◌, ◌<◌, ◌^◌, Bool, Option, List, length}
use Rattle.ghs_graph.specs.declared.key.Key.{Key}

-- as many places for links as keys, and few of them
pub record IsHeld (keys : List Key) (brought : List (Option (List Key))) (branches : List Bool) : Type 0 where
  pub few : length keys < 2 ^ 24
  pub links : length brought ≡ length keys
  pub marks : length branches ≡ length keys
