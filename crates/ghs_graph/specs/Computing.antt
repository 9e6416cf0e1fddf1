-- What links join, and roots, computed from the list of links alone: plain and slow.
use Rattle.std.specs.Prelude.{ℕ, zero, suc, Bool, true, not, ◌==◌, ◌&&◌, ◌||◌, List, [], ◌∷◌}
use Rattle.ghs_graph.specs.declared.key.Key.{Key}

-- whether links join u and v: without the first link, or over it
abbrev pub joins : List Key → ℕ → ℕ → Bool
joins [] u v = u == v
joins (k ∷ ks) u v = joins ks u v || ((joins ks u k.a && joins ks k.b v) || (joins ks u k.b && joins ks k.a v))

abbrev pub none_below : (ℕ → Bool) → ℕ → Bool
none_below test zero = true
none_below test (suc n) = not (test n) && none_below test n

-- r is joined with v, and no smaller number is
abbrev pub is_root : List Key → ℕ → ℕ → Bool
is_root ks v r = joins ks v r && none_below (joins ks v) r
