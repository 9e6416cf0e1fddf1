-- One more link, in key order: the roots that tell what is joined.
use Rattle.std.proofs.Common.{◌≡◌, ◌≢◌, ℕ, ◌<◌, ◌≤◌, ◌+◌, max, min, ◌⊎◌, inl, inr, ⊎_elim, List, [], ◌∷◌, ◌++◌, length, take, get_or, refl, sym, ◌∙◌, ap, subst, arith}
use Rattle.std.proofs.lemmas.Bool.{cases_eq, cases_lt}
use Rattle.std.proofs.lemmas.Grind.{same_number_lists}
use Rattle.std.proofs.lemmas.List.{take_more}
use Rattle.ghs_graph.specs.declared.key.Key.{Key}
use Rattle.ghs_graph.specs.Key.{no_key}
use Rattle.ghs_graph.specs.Links.{Joined, Same, Over, links, AllBelow, IsRising}
use Rattle.ghs_graph.specs.Classes.{AreTogether, IsFresh, Moves, Unites}
use Rattle.ghs_graph.specs.Spanning.{AreTold, IsSpanned}
use Rattle.ghs_graph.proofs.lemmas.Members.{nothing_in}
use Rattle.ghs_graph.proofs.lemmas.Keys.{below_at}
use Rattle.ghs_graph.proofs.lemmas.Joining.{joined_within, joined_through, joined_by_none, JoinedOver, one_more, from_one_more}
use Rattle.ghs_graph.proofs.lemmas.Trees.{older, newest, older_or_newest, tree_of_none, tree_takes, tree_leaves}

pub told_fresh : (ls : List ℕ) → IsFresh ls → AreTold ls []
told_fresh ls alone = record {
  joined = λ u v ul vl e. subst (λ x. Joined (links []) u x) (sym (alone u ul) ∙ e ∙ alone v vl) Same;
  together = λ u v ul vl way. ap (λ x. get_or ls x 0) (joined_by_none nothing_in way);
}

-- The ends have different roots: their classes are made one.

-- two numbers are in one class now: they were, or one was in the class of u and one in that of v
abbrev AreUnited : List ℕ → ℕ → ℕ → ℕ → ℕ → Type 0
AreUnited rs u v x y =
    AreTogether rs x y ⊎ ((AreTogether rs x u × AreTogether rs v y) ⊎ (AreTogether rs x v × AreTogether rs u y))

-- what a class that has moved to another makes of two numbers
record Makes (old new : List ℕ) (u v : ℕ) : Type 0 where
  to : (x y : ℕ) → x < length old → y < length old → AreTogether new x y → AreUnited old u v x y
  keeps : (x y : ℕ) → x < length old → y < length old → AreTogether old x y → AreTogether new x y
  joins : AreTogether new u v

moved_makes : (old new : List ℕ) (u v : ℕ) → u < length old → v < length old → get_or old u 0 ≢ get_or old v 0
    → Moves old new (get_or old u 0) (get_or old v 0) → Makes old new u v
moved_makes old new u v ul vl ne m = record {
  to = λ x y xl yl e. ⊎_elim
      (λ (p : get_or old x 0 ≡ get_or old u 0). ⊎_elim
      (λ (q : get_or old y 0 ≡ get_or old u 0). inl (p ∙ sym q))
      (λ nq. inr (inl (p, sym (m.moved x xl p) ∙ e ∙ m.stay y yl nq)))
      (cases_eq (get_or old y 0) (get_or old u 0)))
      (λ np. ⊎_elim
      (λ (q : get_or old y 0 ≡ get_or old u 0). inr (inr (sym (m.stay x xl np) ∙ e ∙ m.moved y yl q, sym q)))
      (λ nq. inl (sym (m.stay x xl np) ∙ e ∙ m.stay y yl nq))
      (cases_eq (get_or old y 0) (get_or old u 0)))
      (cases_eq (get_or old x 0) (get_or old u 0));
  keeps = λ x y xl yl e. ⊎_elim
      (λ (p : get_or old x 0 ≡ get_or old u 0). m.moved x xl p ∙ sym (m.moved y yl (sym e ∙ p)))
      (λ np. m.stay x xl np ∙ e ∙ sym (m.stay y yl (λ q. np (e ∙ q))))
      (cases_eq (get_or old x 0) (get_or old u 0));
  joins = m.moved u ul refl ∙ sym (m.stay v vl (λ q. ne (sym q)));
}

turned : (rs : List ℕ) (u v x y : ℕ) → AreUnited rs u v x y → AreUnited rs v u x y
turned rs u v x y (inl e) = inl e
turned rs u v x y (inr (inl p)) = inr (inr p)
turned rs u v x y (inr (inr p)) = inr (inl p)

other_way : (old new : List ℕ) (u v : ℕ) → Makes old new u v → Makes old new v u
other_way old new u v m = record { to = λ x y xl yl e. turned old u v x y (m.to x y xl yl e); keeps = m.keeps; joins = sym m.joins }

makes : (old new : List ℕ) (u v : ℕ) → u < length old → v < length old → get_or old u 0 ≢ get_or old v 0 → Unites old new u v → Makes old new u v
makes old new u v ul vl ne m = ⊎_elim
    (λ (lt : get_or old u 0 < get_or old v 0).
    let high : max (get_or old u 0) (get_or old v 0) ≡ get_or old v 0 = omega (arith, lt) in
    let low : min (get_or old u 0) (get_or old v 0) ≡ get_or old u 0 = omega (arith, lt) in
    other_way old new v u (moved_makes old new v u vl ul (λ e. ne (sym e)) (rw (high, low) at m)))
    (λ (le : get_or old v 0 ≤ get_or old u 0).
    let high : max (get_or old u 0) (get_or old v 0) ≡ get_or old u 0 = omega (arith, le) in
    let low : min (get_or old u 0) (get_or old v 0) ≡ get_or old v 0 = omega (arith, le) in
    moved_makes old new u v ul vl ne (rw (high, low) at m))
    (cases_lt (get_or old u 0) (get_or old v 0))

pub told_united : (ls new : List ℕ) (ks : List Key) (k : Key) → k.a < length ls → k.b < length ls → AreTold ls ks
    → (AreTogether ls k.a k.b → ⊥) → Unites ls new k.a k.b → AreTold new (ks ++ k ∷ [])
told_united ls new ks k al bl told apart unites = record {
  joined =
      λ u v ul vl e.
      from_one_more (links ks) (links (ks ++ k ∷ [])) k (older ks k) (newest ks k)
      (over u v (in_old ul) (in_old vl) (n.to u v (in_old ul) (in_old vl) e));
  together = λ u v ul vl way. under u v (in_old ul) (in_old vl) (one_more (links ks) (links (ks ++ k ∷ [])) k (older_or_newest ks k) way);
}
  where
    n : Makes ls new k.a k.b
    n = makes ls new k.a k.b al bl apart unites

    in_old : {v : ℕ} → v < length new → v < length ls
    in_old lt = let e = unites.same in omega (arith, lt, e)

    over : (u v : ℕ) → u < length ls → v < length ls → AreUnited ls k.a k.b u v → JoinedOver (links ks) k u v
    over u v ul vl (inl e) = inl (told.joined u v ul vl e)
    over u v ul vl (inr (inl p)) = inr (inl (told.joined u k.a ul al p.0, told.joined k.b v bl vl p.1))
    over u v ul vl (inr (inr p)) = inr (inr (told.joined u k.b ul bl p.0, told.joined k.a v al vl p.1))

    kept : (u v : ℕ) → u < length ls → v < length ls → Joined (links ks) u v → AreTogether new u v
    kept u v ul vl way = n.keeps u v ul vl (told.together u v ul vl way)

    under : (u v : ℕ) → u < length ls → v < length ls → JoinedOver (links ks) k u v → AreTogether new u v
    under u v ul vl (inl way) = kept u v ul vl way
    under u v ul vl (inr (inl p)) = kept u k.a ul al p.0 ∙ n.joins ∙ kept k.b v bl vl p.1
    under u v ul vl (inr (inr p)) = kept u k.b ul bl p.0 ∙ sym n.joins ∙ kept k.a v al vl p.1

-- where they were one, nothing has changed
united_still : (old new : List ℕ) (u v : ℕ) → AreTogether old u v → Unites old new u v → new ≡ old
united_still old new u v e m = same_number_lists new old m.same (λ x lt. stays x (let s = m.same in omega (arith, lt, s)))
  where
    high : max (get_or old u 0) (get_or old v 0) ≡ get_or old u 0
    high = omega (arith, e)

    low : min (get_or old u 0) (get_or old v 0) ≡ get_or old u 0
    low = omega (arith, e)

    stays : (x : ℕ) → x < length old → get_or new x 0 ≡ get_or old x 0
    stays x lt = ⊎_elim
        (λ (q : get_or old x 0 ≡ max (get_or old u 0) (get_or old v 0)). m.moved x lt q ∙ low ∙ sym high ∙ sym q)
        (λ ne. m.stay x lt ne)
        (cases_eq (get_or old x 0) (max (get_or old u 0) (get_or old v 0)))

-- the ends have the same root: nothing new is joined
pub told_still : (ls : List ℕ) (ks : List Key) (k : Key) → k.a < length ls → k.b < length ls → AreTold ls ks → AreTogether ls k.a k.b
    → AreTold ls (ks ++ k ∷ [])
told_still ls ks k al bl told e = record {
  joined = λ u v ul vl q. joined_within (older ks k) (told.joined u v ul vl q);
  together = λ u v ul vl way. told.together u v ul vl (joined_through joins way);
}
  where
    joins : (j : Key) → links (ks ++ k ∷ []) j → Joined (links ks) j.a j.b
    joins j s =
        ⊎_elim (λ o. Over j o Same) (λ q. subst (λ (x : Key). Joined (links ks) x.a x.b) q (told.joined k.a k.b al bl e)) (older_or_newest ks k j s)

-- With the forest.

pub spanned_none : (n : ℕ) (ls : List ℕ) (tree : List Key) → length ls ≡ n + 1 → IsFresh ls → tree ≡ [] → IsSpanned n [] ls tree
spanned_none n ls tree count alone e = record { count = count; told = told_fresh ls alone; tree = rw e tree_of_none }

pub spanned_united : (n : ℕ) (ks : List Key) (k : Key) (ls new : List ℕ) (tree longer : List Key) → k.a < length ls → k.b < length ls → AllBelow ks k
    → IsSpanned n ks ls tree → (AreTogether ls k.a k.b → ⊥) → Unites ls new k.a k.b → longer ≡ tree ++ k ∷ [] → IsSpanned n (ks ++ k ∷ []) new longer
spanned_united n ks k ls new tree longer al bl below s apart u e = record {
  count = u.same ∙ s.count;
  told = told_united ls new ks k al bl s.told apart u;
  tree = rw e (tree_takes ks tree k below s.tree (λ way. apart (s.told.together k.a k.b al bl way)));
}

pub spanned_still : (n : ℕ) (ks : List Key) (k : Key) (ls new : List ℕ) (tree : List Key) → k.a < length ls → k.b < length ls → AllBelow ks k
    → IsSpanned n ks ls tree → AreTogether ls k.a k.b → Unites ls new k.a k.b → IsSpanned n (ks ++ k ∷ []) new tree
spanned_still n ks k ls new tree al bl below s e u = rw (united_still ls new k.a k.b e u) (record {
  count = s.count;
  told = told_still ls ks k al bl s.told e;
  tree = tree_leaves ks tree k below s.tree (s.told.joined k.a k.b al bl e);
})

-- one link more of a list
pub spanned_more : (n : ℕ) (ks : List Key) (i : ℕ) (k : Key) (old new : List ℕ) (tree longer : List Key) → IsRising ks → i < length ks
    → k ≡ get_or ks i no_key → ((js : List Key) → AllBelow js k → IsSpanned n js old tree → IsSpanned n (js ++ k ∷ []) new longer)
    → IsSpanned n (take i ks) old tree → IsSpanned n (take (i + 1) ks) new longer
spanned_more n ks i k old new tree longer r lt e step s =
    rw (take_more ks i no_key lt, ← e) (step (take i ks) (rw e (below_at ks i no_key r lt)) s)
