-- Links that lead out of a class: a way out of it goes over one.
use Rattle.std.proofs.Common.{ℕ, zero, suc, ◌⊎◌, inl, inr, ⊎_elim, List}
use Rattle.std.specs.List.{Contains}
use Rattle.std.proofs.lemmas.Bool.{both_ways}
use Rattle.ghs_graph.specs.declared.key.Key.{Key}
use Rattle.ghs_graph.specs.Key.{key_lt}
use Rattle.ghs_graph.specs.Links.{Joined, Same, Over, Back, InTree}
use Rattle.ghs_graph.proofs.lemmas.Joining.{joined_then, joined_back, joined_within}
use Rattle.boruvka_protocol.specs.Levels.{Leaves, IsLeastOut, Taken, InClass}
use Rattle.boruvka_protocol.specs.LevelLaws.{TakenInTree}

-- links none of which leads out of the class of v don't lead out of it together
pub stays : {S P : Key → Type 0} {x y : ℕ} (v : ℕ) → ((k : Key) → P k → Leaves S v k → ⊥) → Joined P x y → Joined S v x → (Joined S v y → ⊥) → ⊥
stays v none Same inside out = out inside
stays v none (Over k p way) inside out = none k p (inl (inside, λ far. stays v none way far out))
stays v none (Back k p way) inside out = none k p (inr (inside, λ far. stays v none way far out))

-- The nodes of a class have the same ways out.

pub leaves_at : {S : Key → Type 0} {v u : ℕ} (k : Key) → Joined S v u → Leaves S v k → Leaves S u k
leaves_at k way (inl p) = inl (joined_then (joined_back way) p.0, λ far. p.1 (joined_then way far))
leaves_at k way (inr p) = inr (joined_then (joined_back way) p.0, λ far. p.1 (joined_then way far))

pub least_at : {ks : List Key} {S : Key → Type 0} {v u : ℕ} {k : Key} → Joined S v u → IsLeastOut ks S v k → IsLeastOut ks S u k
least_at {k = k} way h = record {
  link = h.link;
  leaves = leaves_at k way h.leaves;
  least = λ j is out. h.least j is (leaves_at j (joined_back way) out);
}

-- the link is the least way out at the end of it that lies inside
pub least_at_end : {ks : List Key} {S : Key → Type 0} {v : ℕ} {k : Key} → IsLeastOut ks S v k → IsLeastOut ks S k.a k ⊎ IsLeastOut ks S k.b k
least_at_end h = ⊎_elim (λ p. inl (least_at p.0 h)) (λ p. inr (least_at p.0 h)) h.leaves

-- What is taken lies in the forest.

pub least_in_tree : (ks : List Key) (S : Key → Type 0) (v : ℕ) (k : Key) → IsLeastOut ks S v k → InTree ks k
least_in_tree ks S v k h = (
  h.link,
  λ way.
      ⊎_elim (λ p. stays v (λ j s out. both_ways (key_lt j k) (h.least j s.0 out) s.1) way p.0 p.1)
      (λ p. stays v (λ j s out. both_ways (key_lt j k) (h.least j s.0 out) s.1) (joined_back way) p.0 p.1) h.leaves,
)

pub taken_in_tree : (ks : List Key) (l : ℕ) (k : Key) → Taken ks l k → InTree ks k
taken_in_tree ks zero k h = absurd h
taken_in_tree ks (suc l) k (inl h) = taken_in_tree ks l k h
taken_in_tree ks (suc l) k (inr h) = least_in_tree ks (Taken ks l) h.0 k h.1

pub taken_links : (ks : List Key) (l : ℕ) {u v : ℕ} → InClass ks l u v → Joined (λ k. Contains ks k) u v
taken_links ks l way = joined_within (λ k h. (taken_in_tree ks l k h).0) way

pub taken_are_tree : TakenInTree
taken_are_tree g ok l k h = taken_in_tree g.keys l k h
