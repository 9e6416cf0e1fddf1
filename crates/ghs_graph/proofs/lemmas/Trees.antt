-- The minimum spanning forest of rising links, and of one link more.
use Rattle.std.proofs.Common.{◌≡◌, ◌⊎◌, ⊎_elim, true, false, List, [], ◌∷◌, ◌++◌, get_or, sym, subst, arith}
use Rattle.std.specs.List.{Contains}
use Rattle.std.proofs.lemmas.Bool.{both_ways}
use Rattle.std.proofs.lemmas.List.Quantifiers.{all_pairs_push}
use Rattle.std.proofs.lemmas.List.Elements.{Contains-get_or, Contains-push, Contains-push_cases, Contains-append_left}
use Rattle.ghs_graph.specs.declared.key.Key.{Key}
use Rattle.ghs_graph.specs.Key.{key_lt}
use Rattle.ghs_graph.specs.Links.{Joined, links, links_below, AllBelow, InTree, IsTree}
use Rattle.ghs_graph.proofs.lemmas.Members.{nothing_in}
use Rattle.ghs_graph.proofs.lemmas.Keys.{lt_irreflexive, lt_asymmetric}
use Rattle.ghs_graph.proofs.lemmas.Joining.{joined_within}

pub older : (ks : List Key) (k j : Key) → links ks j → links (ks ++ k ∷ []) j
older ks k j h = Contains-append_left ks (k ∷ []) j h

pub newest : (ks : List Key) (k : Key) → links (ks ++ k ∷ []) k
newest ks k = Contains-push ks k

pub older_or_newest : (ks : List Key) (k j : Key) → links (ks ++ k ∷ []) j → links ks j ⊎ (k ≡ j)
older_or_newest ks k j h = Contains-push_cases ks k j h

-- the links below an older one stay the same
below_older : (ks : List Key) (k j : Key) → key_lt j k ≡ true → (i : Key) → links_below (ks ++ k ∷ []) j i → links_below ks j i
below_older ks k j lt i s = (
  ⊎_elim (λ o. o) (λ e. absurd (both_ways (key_lt k j) (lt_asymmetric j k lt) (subst (λ (x : Key). key_lt x j ≡ true) (sym e) s.1)))
      (older_or_newest ks k i s.0),
  s.1,
)

-- the links below the newest one are older
below_newest : (ks : List Key) (k i : Key) → links_below (ks ++ k ∷ []) k i → links ks i
below_newest ks k i s =
    ⊎_elim (λ o. o) (λ e. absurd (both_ways (key_lt i k) (subst (λ (x : Key). key_lt x k ≡ false) e (lt_irreflexive k)) s.1))
    (older_or_newest ks k i s.0)

still_in_tree : (ks : List Key) (k j : Key) → AllBelow ks k → InTree ks j → InTree (ks ++ k ∷ []) j
still_in_tree ks k j below h = (older ks k j h.0, λ way. h.1 (joined_within (below_older ks k j (below j h.0)) way))

was_in_tree : (ks : List Key) (k j : Key) → InTree (ks ++ k ∷ []) j → Contains ks j → InTree ks j
was_in_tree ks k j h o = (o, λ way. h.1 (joined_within (λ x s. (older ks k x s.0, s.1)) way))

pub tree_of_none : IsTree [] []
tree_of_none = record { rising = λ i j d lt l. absurd (omega arith); has = λ k h. absurd (nothing_in k h); all = λ k h. h.0 }

-- the newest link's ends aren't joined: the tree takes it
pub tree_takes : (ks tree : List Key) (k : Key) → AllBelow ks k → IsTree ks tree → (Joined (links ks) k.a k.b → ⊥)
    → IsTree (ks ++ k ∷ []) (tree ++ k ∷ [])
tree_takes ks tree k below t apart = record {
  rising =
      all_pairs_push (λ i j. key_lt i j ≡ true) tree k t.rising
      (λ i d lt. below (get_or tree i d) (t.has (get_or tree i d) (Contains-get_or tree i d lt)).0);
  has =
      λ j h.
      ⊎_elim (λ o. still_in_tree ks k j below (t.has j o))
      (λ e. subst (λ (x : Key). InTree (ks ++ k ∷ []) x) e (newest ks k, λ way. apart (joined_within (below_newest ks k) way)))
      (older_or_newest tree k j h);
  all =
      λ j h.
      ⊎_elim (λ o. older tree k j (t.all j (was_in_tree ks k j h o))) (λ e. subst (λ (x : Key). Contains (tree ++ k ∷ []) x) e (newest tree k))
      (older_or_newest ks k j h.0);
}

-- they are joined: the tree leaves it
pub tree_leaves : (ks tree : List Key) (k : Key) → AllBelow ks k → IsTree ks tree → Joined (links ks) k.a k.b → IsTree (ks ++ k ∷ []) tree
tree_leaves ks tree k below t joined = record {
  rising = t.rising;
  has = λ j h. still_in_tree ks k j below (t.has j h);
  all =
      λ j h.
      ⊎_elim (λ o. t.all j (was_in_tree ks k j h o)) (λ e. absurd (not_newest (subst (λ (x : Key). InTree (ks ++ k ∷ []) x) (sym e) h)))
      (older_or_newest ks k j h.0);
}
  where
    not_newest : InTree (ks ++ k ∷ []) k → ⊥
    not_newest h = h.1 (joined_within (λ i s. (older ks k i s, below i s)) joined)
