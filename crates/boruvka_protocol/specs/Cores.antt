-- The core of a class: the one link that two of its parts took.
use Rattle.std.specs.Prelude.{◌≡◌, ℕ, suc, true, List}
use Rattle.ghs_graph.specs.declared.key.Key.{Key}
use Rattle.ghs_graph.specs.Key.{key_lt, ends_at}
use Rattle.ghs_graph.specs.Links.{Joined}
use Rattle.boruvka_protocol.specs.Levels.{IsLeastOut, Taken, InClass}

-- k is the core of the class of v a level above l: it lies in the class, and is the least way out of both parts that it joins
pub record IsCore (ks : List Key) (l v : ℕ) (k : Key) : Type 0 where
  pub inside : InClass ks (suc l) v k.a
  pub of_a : IsLeastOut ks (Taken ks l) k.a k
  pub of_b : IsLeastOut ks (Taken ks l) k.b k

-- u is the end of k that S doesn't join with v
abbrev pub IsBeyond : (Key → Type 0) → ℕ → Key → ℕ → Type 0
IsBeyond S v k u = (ends_at u k ≡ true) × (Joined S v u → ⊥)

-- from the class of v least ways out lead to c, each to a class with a lesser one, until c is that of both classes at its ends
pub data LeadsTo (ks : List Key) (S : Key → Type 0) : ℕ → Key → Type 0 where
  There : {v : ℕ} {c : Key} → IsLeastOut ks S v c → IsLeastOut ks S c.a c → IsLeastOut ks S c.b c → LeadsTo ks S v c
  Falls : {v : ℕ} {c : Key} (k : Key) (u : ℕ) (j : Key) → IsLeastOut ks S v k → IsBeyond S v k u → IsLeastOut ks S u j → key_lt j k ≡ true →
      LeadsTo ks S u c → LeadsTo ks S v c
