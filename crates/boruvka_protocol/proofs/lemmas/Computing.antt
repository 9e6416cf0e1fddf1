-- The links that are taken, computed level by level: plain and slow. So it is decided what lies in a class, and what leads out of it.
use Rattle.std.proofs.Common.{◌≡◌, ℕ, zero, suc, inl, inr, ⊎_elim, Bool, true, not, ◌&&◌, ◌||◌, List, [], ◌++◌, get_or, refl}
use Rattle.std.specs.Bool.{Decides}
use Rattle.std.specs.List.{All, Contains, filter, list_all}
use Rattle.std.proofs.lemmas.Bool.{both_ways, false_from_ne_true}
use Rattle.std.proofs.lemmas.Bool.Decides.{Decides-like, Decides-and, Decides-or, Decides-not, Decides-by_and}
use Rattle.std.proofs.lemmas.List.Elements.{All-contains, Contains-get_or, Contains-append_left, Contains-append_right, Contains-append_cases}
use Rattle.ghs_graph.specs.Computing.{joins}
use Rattle.ghs_graph.specs.declared.key.Key.{Key}
use Rattle.ghs_graph.specs.Key.{key_lt}
use Rattle.ghs_graph.specs.Links.{Joined, links}
use Rattle.ghs_graph.proofs.lemmas.Members.{nothing_in, in_filter, filter_has}
use Rattle.ghs_graph.proofs.lemmas.Joining.{joined_within, joins_tells, Decided, decided, decided_alike}
use Rattle.boruvka_protocol.specs.Levels.{Leaves, IsLeastOut, Taken, InClass, HasWayOut}
use Rattle.boruvka_protocol.proofs.lemmas.Cuts.{least_at_end}

-- Sets with the same links.

pub record AreAlike (S T : Key → Type 0) : Type 0 where
  pub to : (k : Key) → S k → T k
  pub from : (k : Key) → T k → S k

turned : {S T : Key → Type 0} → AreAlike S T → AreAlike T S
turned r = record { to = r.from; from = r.to }

pub leaves_like : {S T : Key → Type 0} {v : ℕ} (k : Key) → AreAlike S T → Leaves S v k → Leaves T v k
leaves_like k r (inl p) = inl (joined_within r.to p.0, λ far. p.1 (joined_within r.from far))
leaves_like k r (inr p) = inr (joined_within r.to p.0, λ far. p.1 (joined_within r.from far))

pub least_like : {ks : List Key} {S T : Key → Type 0} {v : ℕ} {k : Key} → AreAlike S T → IsLeastOut ks S v k → IsLeastOut ks T v k
least_like {k = k} r h = record {
  link = h.link;
  leaves = leaves_like k r h.leaves;
  least = λ j is out. h.least j is (leaves_like j (turned r) out);
}

-- Ways out, of what the links of a list join.

abbrev pub leaves : List Key → ℕ → Key → Bool
leaves xs v k = (joins xs v k.a && not (joins xs v k.b)) || (joins xs v k.b && not (joins xs v k.a))

pub leaves_tells : (xs : List Key) (v : ℕ) (k : Key) → Decides (leaves xs v k) (Leaves (links xs) v k)
leaves_tells xs v k =
    Decides-or (joins xs v k.a && not (joins xs v k.b)) (joins xs v k.b && not (joins xs v k.a)) (one k.a k.b) (one k.b k.a)
  where
    one : (p q : ℕ) → Decides (joins xs v p && not (joins xs v q)) (Joined (links xs) v p × (Joined (links xs) v q → ⊥))
    one p q = Decides-and (joins xs v p) (not (joins xs v q)) (joins_tells xs v p) (Decides-not (joins xs v q) (joins_tells xs v q))

-- no way out is less
abbrev pub none_less : List Key → List Key → ℕ → Key → Bool
none_less ks xs v k = list_all (λ j. not (leaves xs v j && key_lt j k)) ks

none_less_tells : (ks xs : List Key) (v : ℕ) (k : Key)
    → Decides (none_less ks xs v k) (All (λ j. Leaves (links xs) v j × (key_lt j k ≡ true) → ⊥) ks)
none_less_tells ks xs v k =
    Decides-by_and (λ j. not (leaves xs v j && key_lt j k)) (λ j. Leaves (links xs) v j × (key_lt j k ≡ true) → ⊥)
    (list_all (λ j. not (leaves xs v j && key_lt j k)))
    (λ j.
    Decides-not (leaves xs v j && key_lt j k) (Decides-and (leaves xs v j) (key_lt j k) (leaves_tells xs v j) (λ e. e, λ e. e))) refl
    (λ j js. refl) ks

abbrev pub is_least_out : List Key → List Key → ℕ → Key → Bool
is_least_out ks xs v k = leaves xs v k && none_less ks xs v k

pub least_tells : (ks xs : List Key) (v : ℕ) (k : Key) → Contains ks k → Decides (is_least_out ks xs v k) (IsLeastOut ks (links xs) v k)
least_tells ks xs v k is = Decides-like (is_least_out ks xs v k)
    (λ h. record {
      link = is;
      leaves = h.0;
      least =
          λ j in_ks out.
          false_from_ne_true (key_lt j k) (λ lt. All-contains (λ i. Leaves (links xs) v i × (key_lt i k ≡ true) → ⊥) ks j h.1 in_ks (out, lt));
    })
    (λ h. (
      h.leaves,
      λ i d lt p. both_ways (key_lt (get_or ks i d) k) (h.least (get_or ks i d) (Contains-get_or ks i d lt) p.0) p.1,
    ))
    (Decides-and (leaves xs v k) (none_less ks xs v k) (leaves_tells xs v k) (none_less_tells ks xs v k))

-- The links that are taken, in a list.

-- at one of its ends the link is the least way out
abbrev pub is_picked : List Key → List Key → Key → Bool
is_picked ks xs k = is_least_out ks xs k.a k || is_least_out ks xs k.b k

picked_tells : (ks xs : List Key) (S : Key → Type 0) (k : Key) → AreAlike S (links xs) → Contains ks k
    → Decides (is_picked ks xs k) ((v : ℕ) × IsLeastOut ks S v k)
picked_tells ks xs S k r is = Decides-like (is_picked ks xs k)
    (⊎_elim (λ h. (k.a, least_like (turned r) h)) (λ h. (k.b, least_like (turned r) h)))
    (λ h. least_at_end (least_like r h.1))
    (Decides-or (is_least_out ks xs k.a k) (is_least_out ks xs k.b k) (least_tells ks xs k.a k is) (least_tells ks xs k.b k is))

abbrev pub taken : List Key → ℕ → List Key
taken ks zero = []
taken ks (suc l) = taken ks l ++ filter (is_picked ks (taken ks l)) ks

-- the next level, where xs are the links taken so far
alike_more : (ks xs : List Key) (l : ℕ) → AreAlike (Taken ks l) (links xs)
    → AreAlike (Taken ks (suc l)) (links (xs ++ filter (is_picked ks xs) ks))
alike_more ks xs l r = record {
  to = λ k h. ⊎_elim
      (λ o. Contains-append_left xs (filter (is_picked ks xs) ks) k (r.to k o))
      (λ n.
      Contains-append_right xs (filter (is_picked ks xs) ks) k (filter_has (is_picked ks xs) ks k n.1.link ((tells k n.1.link).1 n)))
      h;
  from =
      λ k h.
      ⊎_elim (λ o. inl (r.from k o)) (λ n. let p = in_filter (is_picked ks xs) ks k n in inr ((tells k p.0).0 p.1))
      (Contains-append_cases xs (filter (is_picked ks xs) ks) k h);
}
  where
    tells : (k : Key) → Contains ks k → Decides (is_picked ks xs k) ((v : ℕ) × IsLeastOut ks (Taken ks l) v k)
    tells k is = picked_tells ks xs (Taken ks l) k r is

pub taken_alike : (ks : List Key) (l : ℕ) → AreAlike (Taken ks l) (links (taken ks l))
taken_alike ks zero = record { to = λ k h. absurd h; from = λ k h. absurd (nothing_in k h) }
taken_alike ks (suc l) = alike_more ks (taken ks l) l (taken_alike ks l)

-- What is decided.

pub taken_decided : (ks : List Key) (l : ℕ) (k : Key) → Contains ks k → Decided (Taken ks l k)
taken_decided ks zero k is = inr (λ h. h)
taken_decided ks (suc l) k is =
    ⊎_elim (λ o. inl (inl o)) (λ no. ⊎_elim (λ n. inl (inr n)) (λ none. inr (⊎_elim no none)) new) (taken_decided ks l k is)
  where
    new : Decided ((v : ℕ) × IsLeastOut ks (Taken ks l) v k)
    new = decided (is_picked ks (taken ks l) k) (picked_tells ks (taken ks l) (Taken ks l) k (taken_alike ks l) is)

pub in_class_tells : (ks : List Key) (l u v : ℕ) → Decides (joins (taken ks l) u v) (InClass ks l u v)
in_class_tells ks l u v = Decides-like (joins (taken ks l) u v) (joined_within (taken_alike ks l).from) (joined_within (taken_alike ks l).to)
    (joins_tells (taken ks l) u v)

pub in_class_decided : (ks : List Key) (l u v : ℕ) → Decided (InClass ks l u v)
in_class_decided ks l u v = decided (joins (taken ks l) u v) (in_class_tells ks l u v)

pub leaves_decided : (ks : List Key) (l v : ℕ) (k : Key) → Decided (Leaves (Taken ks l) v k)
leaves_decided ks l v k = decided_alike (leaves_like k (turned (taken_alike ks l))) (leaves_like k (taken_alike ks l))
    (decided (leaves (taken ks l) v k) (leaves_tells (taken ks l) v k))

-- What examples compute.

pub least_out_tells : (ks : List Key) (l v : ℕ) (k : Key) → Contains ks k
    → Decides (is_least_out ks (taken ks l) v k) (IsLeastOut ks (Taken ks l) v k)
least_out_tells ks l v k is =
    Decides-like (is_least_out ks (taken ks l) v k) (least_like (turned (taken_alike ks l))) (least_like (taken_alike ks l))
    (least_tells ks (taken ks l) v k is)

-- no link leads out of a class
abbrev pub none_leaves : List Key → ℕ → ℕ → Bool
none_leaves ks l v = list_all (λ k. not (leaves (taken ks l) v k)) ks

pub none_leaves_tells : (ks : List Key) (l v : ℕ) → Decides (none_leaves ks l v) (HasWayOut ks l v → ⊥)
none_leaves_tells ks l v = Decides-like (none_leaves ks l v)
    (λ all h. All-contains (λ k. Leaves (Taken ks l) v k → ⊥) ks h.0 all h.1 h.2)
    (λ none i d lt out. none (get_or ks i d, Contains-get_or ks i d lt, out))
    (Decides-by_and (λ k. not (leaves (taken ks l) v k)) (λ k. Leaves (Taken ks l) v k → ⊥) (list_all (λ k. not (leaves (taken ks l) v k)))
    (λ k.
    Decides-not (leaves (taken ks l) v k)
    (Decides-like (leaves (taken ks l) v k) (leaves_like k (turned (taken_alike ks l))) (leaves_like k (taken_alike ks l))
    (leaves_tells (taken ks l) v k))) refl (λ k js. refl) ks)
