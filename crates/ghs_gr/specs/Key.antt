-- Keys of links.
use Rattle.std.specs.Prelude.{ℕ, ◌+◌, ◌*◌, ◌^◌, ◌<◌, Contains, List, ◌↔◌}
use Rattle.ghs_gr.specs.RawGraph.{Triple}

-- the same keys, in whatever order and however often each
abbrev pub AreSameKeys : List Triple → List Triple → Type 0
AreSameKeys keys others = (key : Triple) → Contains keys key ↔ Contains others key

-- a key as one number; where ends are small, keys stand in the order of these
abbrev pub code_of : Triple → ℕ
code_of k = (k.0 * 2 ^ 32 + k.1) * 2 ^ 32 + k.2

-- ends below 2^32
abbrev pub HasSmallEnds : Triple → Type 0
HasSmallEnds k = (k.1 < 2 ^ 32) × (k.2 < 2 ^ 32)
