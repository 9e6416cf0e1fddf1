-- Each move keeps the rule of the queue.
use Rattle.std.proofs.Common.{◌≡◌, ◌≢◌, ℕ, zero, suc, ◌+◌, ◌-◌, ◌<◌, ◌≤◌, true, false, true≢false, List, [], ◌∷◌, ◌++◌, length, set, refl, sym, ap, ◌∙◌, subst, ⊎_elim, append_assoc, arith, append-nil, ◌==◌, if◌then◌else◌}
use mathlib.Core.Option.{some, some-ne-none, some-injective}
use lib.ListN.{get_elem?}
use Rattle.crossbeam_queue.specs.Fifo.{Pushes, Pops, Forks, Merges, Learns, Held}
use Rattle.crossbeam_queue.proofs.Lists.{at_set, at_snoc}
use Rattle.ghs_shared.specs.declared.pass_view.PassView.{PassView}
use Rattle.ghs_shared.specs.Closing.{Closes}
use Rattle.ghs_shared.specs.Bags.{Line, Bags, weigh, total, pass_view, nobody, opener, FitsOne, IsReady, Knows, Known, PutOne, TakenOne}

off : false ≡ true → ⊥
off e = true≢false (sym e)

pub weigh-append : (h : ℕ → ℕ) (xs ys : List ℕ) → weigh h (xs ++ ys) ≡ weigh h xs + weigh h ys
weigh-append h [] ys = omega arith
weigh-append h (x ∷ xs) ys = omega (arith, weigh-append h xs ys)

pub weigh-one : (xs : List ℕ) → weigh (λ _. 1) xs ≡ length xs
weigh-one [] = refl
weigh-one (x ∷ xs) = omega (arith, weigh-one xs)

none_left : (xs : List ℕ) → length xs ≡ 0 → xs ≡ []
none_left [] e = refl
none_left (x ∷ xs) e = absurd (omega arith)

-- the total after one view changes
total_set : (f : PassView → ℕ) (views : List PassView) (port : ℕ) (v w : PassView) → get_elem? views port ≡ some v
    → total f (set views port w) + f v ≡ total f views + f w
total_set f [] port v w at = absurd (some-ne-none v (sym at))
total_set f (x ∷ xs) zero v w at = let e : f x ≡ f v = ap f (some-injective x v at) in omega arith
total_set f (x ∷ xs) (suc port) v w at = omega (arith, total_set f xs port v w at)

total_snoc : (f : PassView → ℕ) (views : List PassView) (w : PassView) → total f (views ++ w ∷ []) ≡ total f views + f w
total_snoc f [] w = omega arith
total_snoc f (x ∷ xs) w = omega (arith, total_snoc f xs w)

one_le : (f : PassView → ℕ) (views : List PassView) (port : ℕ) (v : PassView) → get_elem? views port ≡ some v → f v ≤ total f views
one_le f [] port v at = absurd (some-ne-none v (sym at))
one_le f (x ∷ xs) zero v at = let e : f x ≡ f v = ap f (some-injective x v at) in omega arith
one_le f (x ∷ xs) (suc port) v at = omega (arith, one_le f xs port v at)

two_le : (f : PassView → ℕ) (views : List PassView) (i j : ℕ) (v u : PassView) → i ≢ j → get_elem? views i ≡ some v → get_elem? views j ≡ some u
    → f v + f u ≤ total f views
two_le f [] i j v u apart a b = absurd (some-ne-none v (sym a))
two_le f (x ∷ xs) zero zero v u apart a b = absurd (apart refl)
two_le f (x ∷ xs) zero (suc j) v u apart a b = let e : f x ≡ f v = ap f (some-injective x v a) in omega (arith, one_le f xs j u b)
two_le f (x ∷ xs) (suc i) zero v u apart a b = let e : f x ≡ f u = ap f (some-injective x u b) in omega (arith, one_le f xs i v a)
two_le f (x ∷ xs) (suc i) (suc j) v u apart a b = omega (arith, two_le f xs i j v u (λ e. apart (ap suc e)) a b)

-- where g is 0 of each view, f is too
idle_total : (f g : PassView → ℕ) (views : List PassView) → ((j : ℕ) (u : PassView) → get_elem? views j ≡ some u → g u ≡ 0 → f u ≡ 0)
    → total g views ≡ 0 → total f views ≡ 0
idle_total f g [] idle e = refl
idle_total f g (x ∷ xs) idle e =
    let a : g x ≡ 0 = omega arith in
    let b : total g xs ≡ 0 = omega arith in
    let fx : f x ≡ 0 = idle 0 x refl a in
    let fs : total f xs ≡ 0 = idle_total f g xs (λ j u at. idle (suc j) u at) b in omega arith

-- one view has all of g, so it has all of f
alone : (f g : PassView → ℕ) (views : List PassView) (port : ℕ) (v : PassView) → get_elem? views port ≡ some v
    → ((j : ℕ) (u : PassView) → get_elem? views j ≡ some u → g u ≡ 0 → f u ≡ 0) → total g views ≡ g v → total f views ≡ f v
alone f g [] port v at idle e = absurd (some-ne-none v (sym at))
alone f g (x ∷ xs) zero v at idle e =
    let s : x ≡ v = some-injective x v at in
    let gs : g x ≡ g v = ap g s in
    let fs : f x ≡ f v = ap f s in
    let rest : total g xs ≡ 0 = omega arith in
    let none : total f xs ≡ 0 = idle_total f g xs (λ j u a. idle (suc j) u a) rest in omega arith
alone f g (x ∷ xs) (suc port) v at idle e =
    let low : g v ≤ total g xs = one_le g xs port v at in
    let zero_x : g x ≡ 0 = omega arith in
    let fx : f x ≡ 0 = idle 0 x refl zero_x in
    let eq : total g xs ≡ g v = omega arith in
    let fs : total f xs ≡ f v = alone f g xs port v at (λ j u a. idle (suc j) u a) eq in omega arith

-- a view with all shares knows what is in the queue
knows : (items : List ℕ) (views : List PassView) (port : ℕ) (v : PassView) → IsReady items views → get_elem? views port ≡ some v → 0 < v.shares
    → Known v items
knows items views port v h at some_share all =
    let mine = h.each port v at in
    let same : v.all ≡ h.all = mine.knows some_share in
    let whole : total (λ u. u.shares) views ≡ v.shares = h.shares ∙ sym same ∙ sym all in record {
      weights = λ k.
          let p = alone (λ u. weigh k u.put) (λ u. u.shares) views port v at (λ j u a z. ap (weigh k) ((h.each j u a).idle z).0) whole in
          let t = alone (λ u. weigh k u.taken) (λ u. u.shares) views port v at (λ j u a z. ap (weigh k) ((h.each j u a).idle z).1) whole in
          let w = h.weights k in omega arith;
      order = λ one. mine.order (sym same ∙ one) some_share;
    }

pub learns : (port : ℕ) (v : PassView) → 0 < v.shares → Learns IsReady port v (Known v)
learns port v some_share items views h at = knows items views port v h at some_share

-- each view after one changes
each_set : (all : ℕ) (items items' : List ℕ) (views : List PassView) (port : ℕ) (w : PassView) → FitsOne all items' port w
    → ((j : ℕ) (u : PassView) → j ≢ port → get_elem? views j ≡ some u → FitsOne all items' j u) → (j : ℕ) (u : PassView)
    → get_elem? (set views port w) j ≡ some u → FitsOne all items' j u
each_set all items items' views port w mine others j u e =
    ⊎_elim
    (λ (x : (j ≡ port) × (w ≡ u)). subst (λ (y : ℕ × PassView). FitsOne all items' y.0 y.1) (λ i. (sym x.0 i, x.1 i)) mine)
    (λ (x : (j ≢ port) × (get_elem? views j ≡ some u)). others j u x.0 x.1)
    (at_set views port j w u e)

-- where another has a share, there is more than one share in all
not_one : (items : List ℕ) (views : List PassView) (i j : ℕ) (v u : PassView) → IsReady items views → i ≢ j → get_elem? views i ≡ some v
    → get_elem? views j ≡ some u → 0 < v.shares → 0 < u.shares → (n : ℕ) → total (λ w. w.shares) views ≡ n → n ≡ 1 → ⊥
not_one items views i j v u h apart a b p q n is one = let t = two_le (λ w. w.shares) views i j v u apart a b in omega arith

-- other items do not matter to another view
others_fit : (items items' : List ℕ) (views : List PassView) (port : ℕ) (v : PassView) → IsReady items views → get_elem? views port ≡ some v
    → 0 < v.shares → (all : ℕ) → total (λ w. w.shares) views ≡ all → (j : ℕ) (u : PassView) → j ≢ port → get_elem? views j ≡ some u
    → FitsOne all items j u → FitsOne all items' j u
others_fit items items' views port v h at some_share all is j u apart e was = record {
  idle = was.idle;
  knows = was.knows;
  opens = was.opens;
  order = λ one q. absurd (not_one items views port j v u h (λ s. apart (sym s)) at e some_share q all is one);
}

pub puts : (n port : ℕ) (v : PassView) (x : ℕ) → 0 < v.shares → Pushes IsReady n port v x (PutOne v x)
puts n port v x some_share items views room h at =
    let w = pass_view v.all v.shares (v.put ++ x ∷ []) v.taken in
    let items' = items ++ x ∷ [] in
    let mine = h.each port v at in (
      w,
      record {
        all = h.all;
        shares = (let s = total_set (λ u. u.shares) views port v w at in let p = h.shares in omega arith);
        weights = λ k.
            let s = total_set (λ u. weigh k u.put) views port v w at in
            let t = total_set (λ u. weigh k u.taken) views port v w at in
            let p = h.weights k in omega (arith, weigh-append k v.put (x ∷ []), weigh-append k items (x ∷ []));
        each = each_set h.all items items' views port w
            record {
              idle = λ z. absurd (omega arith);
              knows = mine.knows;
              opens = λ o. absurd (off o);
              order = λ one p. ap (λ l. l ++ x ∷ []) (mine.order one p) ∙ append_assoc v.taken items (x ∷ []);
            }
            (λ j u apart e. others_fit items items' views port v h at some_share h.all h.shares j u apart e (h.each j u e));
      },
      refl,
    )

pub takes : (port : ℕ) (v : PassView) → 0 < v.shares → Pops IsReady port v (TakenOne v)
takes port v some_share x items views h at =
    let w = pass_view v.all v.shares v.put (v.taken ++ x ∷ []) in
    let mine = h.each port v at in (
      w,
      record {
        all = h.all;
        shares = (let s = total_set (λ u. u.shares) views port v w at in let p = h.shares in omega arith);
        weights = λ k.
            let s = total_set (λ u. weigh k u.put) views port v w at in
            let t = total_set (λ u. weigh k u.taken) views port v w at in
            let p = h.weights k in omega (arith, weigh-append k v.taken (x ∷ []));
        each = each_set h.all (x ∷ items) items views port w
            record {
              idle = λ z. absurd (omega arith);
              knows = mine.knows;
              opens = λ o. absurd (off o);
              order = λ one p. mine.order one p ∙ sym (append_assoc v.taken (x ∷ []) items);
            }
            (λ j u apart e. others_fit (x ∷ items) items views port v h at some_share h.all h.shares j u apart e (h.each j u e));
      },
      (
        refl,
        λ whole.
            let k = (knows (x ∷ items) views port v h at some_share whole).weights (λ _. 1) in
            omega (arith, weigh-one v.put, weigh-one v.taken),
      ),
    )

-- a change of one view in which no bag changes, and a new view beside it
forked : (items : List ℕ) (views : List PassView) (port : ℕ) (v left right : PassView) (h : IsReady items views) → get_elem? views port ≡ some v
    → (all : ℕ)
    → (total (λ u. u.shares) views + left.shares + right.shares ≡ all + v.shares)
    → ((k : ℕ → ℕ) → (weigh k left.put + weigh k right.put ≡ weigh k v.put) × (weigh k left.taken + weigh k right.taken ≡ weigh k v.taken))
    → FitsOne all items port left → ((j : ℕ) → FitsOne all items j right)
    → ((j : ℕ) (u : PassView) → j ≢ port → get_elem? views j ≡ some u → FitsOne all items j u)
    → IsReady items (set views port left ++ right ∷ [])
forked items views port v left right h at all sum bags mine new others = record {
  all = all;
  shares = (let s = total_set (λ u. u.shares) views port v left at in let t = total_snoc (λ u. u.shares) (set views port left) right in omega arith);
  weights = λ k.
      let s = total_set (λ u. weigh k u.put) views port v left at in
      let t = total_set (λ u. weigh k u.taken) views port v left at in
      let s' = total_snoc (λ u. weigh k u.put) (set views port left) right in
      let t' = total_snoc (λ u. weigh k u.taken) (set views port left) right in
      let b = bags k in
      let p = h.weights k in omega arith;
  each = λ j u e. ⊎_elim
      (λ was. each_set all items items views port left mine others j u was)
      (λ (is : right ≡ u). subst (λ (y : PassView). FitsOne all items j y) is (new j))
      (at_snoc (set views port left) right u j e);
}

nobody_fits : (all : ℕ) (items : List ℕ) (port : ℕ) → FitsOne all items port nobody
nobody_fits all items port = record {
  idle = λ _. (refl, refl);
  knows = λ p. absurd (omega arith);
  opens = λ o. absurd (off o);
  order = λ one p. absurd (omega arith);
}

pub cuts : (port : ℕ) (v : PassView) → 1 < v.shares → Forks IsReady port v (pass_view v.all (v.shares - 1) v.put v.taken) (pass_view v.all 1 [] [])
cuts port v two items views h at =
    let left = pass_view v.all (v.shares - 1) v.put v.taken in
    let right = pass_view v.all 1 [] [] in
    let mine = h.each port v at in
    let many = one_le (λ u. u.shares) views port v at in
    let all = h.shares in
    let knows' : v.all ≡ h.all = mine.knows (omega arith) in
    forked items views port v left right h at h.all (omega arith) (λ k. (omega arith, omega arith))
    record { idle = λ z. absurd (omega arith); knows = λ _. knows'; opens = λ o. absurd (off o); order = λ one p. absurd (omega arith) }
    (λ j. record { idle = λ z. absurd (omega arith); knows = λ _. knows'; opens = λ o. absurd (off o); order = λ one p. absurd (omega arith) })
    (λ j u _ e. h.each j u e)

pub doubles : (port : ℕ) (v : PassView) (n : ℕ) → v.opening ≡ true → Forks IsReady port v (opener n) nobody
doubles port v n opening items views h at =
    let mine = h.each port v at in
    let none = mine.opens opening in
    let low = one_le (λ u. u.shares) views port v at in
    let all = h.shares in
    let no_all = none.1 in
    let zero_v : v.shares ≡ 0 = omega arith in
    let bags = mine.idle zero_v in
    forked items views port v (opener n) nobody h at h.all (omega arith) (λ k. (sym (ap (weigh k) bags.0), sym (ap (weigh k) bags.1)))
    record { idle = λ _. (refl, refl); knows = λ p. absurd (omega arith); opens = λ _. none; order = λ one p. absurd (omega arith) }
    (nobody_fits h.all items)
    (λ j u _ e. h.each j u e)

pub begins : (port : ℕ) (v : PassView) → v.opening ≡ true → Forks IsReady port v (pass_view v.all v.all [] []) nobody
begins port v opening items views h at =
    let mine = h.each port v at in
    let none = mine.opens opening in
    let low = one_le (λ u. u.shares) views port v at in
    let all = h.shares in
    let no_all = none.1 in
    let zero_v : v.shares ≡ 0 = omega arith in
    let bags = mine.idle zero_v in
    let zero_all : total (λ u. u.shares) views ≡ 0 = omega arith in
    let put_none = idle_total (λ u. weigh (λ _. 1) u.put) (λ u. u.shares) views (λ j u a z. ap (weigh (λ _. 1)) ((h.each j u a).idle z).0) zero_all in
    let w = h.weights (λ _. 1) in
    let empty : items ≡ [] = none_left items (omega (arith, weigh-one items)) in
    forked items views port v (pass_view v.all v.all [] []) nobody h at v.all (omega arith)
    (λ k. (sym (ap (weigh k) bags.0), sym (ap (weigh k) bags.1)))
    record { idle = λ _. (refl, refl); knows = λ _. refl; opens = λ o. absurd (off o); order = λ one p. sym empty }
    (nobody_fits v.all items)
    (λ j u other e.
    let was = h.each j u e in
    let le = one_le (λ u. u.shares) views j u e in
    let zero_u : u.shares ≡ 0 = omega arith in record {
      idle = was.idle;
      knows = λ p. absurd (omega arith);
      opens = λ o. absurd (other ((was.opens o).0 ∙ sym none.0));
      order = λ one p. absurd (omega arith);
    })

pub merges : (port : ℕ) (v : PassView) (other : ℕ) (u : PassView) → 0 < v.shares → 0 < u.shares
    → Merges IsReady port v other u (pass_view v.all (v.shares + u.shares) (v.put ++ u.put) (v.taken ++ u.taken)) nobody
merges port v other u a b items views h at apart at' =
    let both = pass_view v.all (v.shares + u.shares) (v.put ++ u.put) (v.taken ++ u.taken) in
    let mine = h.each port v at in
    let was : get_elem? views other ≡ some u = ⊎_elim (λ x. absurd (apart x.0)) (λ x. x.1) (at_set views port other both u at') in
    let vs = set views port both in
    let two = not_one items views port other v u h (λ e. apart (sym e)) at was a b h.all h.shares in record {
      all = h.all;
      shares = (
          let s = total_set (λ y. y.shares) views port v both at in
          let t = total_set (λ y. y.shares) vs other u nobody at' in
          let p = h.shares in omega arith);
      weights = λ k.
          let s = total_set (λ y. weigh k y.put) views port v both at in
          let t = total_set (λ y. weigh k y.taken) views port v both at in
          let s' = total_set (λ y. weigh k y.put) vs other u nobody at' in
          let t' = total_set (λ y. weigh k y.taken) vs other u nobody at' in
          let p = h.weights k in omega (arith, weigh-append k v.put u.put, weigh-append k v.taken u.taken);
      each = each_set h.all items items vs other nobody (nobody_fits h.all items other)
          (λ j y _ e. each_set h.all items items views port both
          record { idle = λ z. absurd (omega arith); knows = λ _. mine.knows a; opens = λ o. absurd (off o); order = λ one p. absurd (two one) }
          (λ i z _ e'. h.each i z e') j y e);
    }

pub starts : IsReady [] (opener 0 ∷ [])
starts = record { all = 0; shares = refl; weights = λ k. refl; each = one }
  where
    one : (port : ℕ) (v : PassView) → get_elem? (opener 0 ∷ []) port ≡ some v → FitsOne 0 [] port v
    one zero v e = subst (FitsOne 0 [] 0) (some-injective _ _ e) record {
      idle = λ _. (refl, refl);
      knows = λ p. absurd (omega arith);
      opens = λ _. (refl, refl);
      order = λ one p. absurd (omega arith);
    }
    one (suc port) v e = absurd (some-ne-none v (sym e))

-- what a pass with all shares sees where the queue held n items
pub held : (v : PassView) (n : ℕ) → Held n (Known v) → v.shares ≡ v.all → length v.put ≡ length v.taken + n
held v n h whole = let k = (h.2 whole).weights (λ _. 1) in let l = h.1 in omega (arith, weigh-one v.put, weigh-one v.taken, weigh-one h.0)

-- a pass that has its shares
pub some_share : (n m : ℕ) → n ≡ m → 1 ≤ n → 0 < m
some_share n m e h = omega arith

-- at an empty queue
pub emptied : (v : PassView) → Held 0 (Known v) → v.shares ≡ v.all → Knows v []
emptied v h whole = subst (Knows v) (none_left h.0 h.1) (h.2 whole)

-- what is left was taken at the end
pub closes_all : (queue : Line) (pass now : Bags) (rest : List ℕ) → now ≡ record pass { taken = pass.taken ++ rest } → Closes queue now []
    → Closes queue pass rest
closes_all queue pass now rest is c =
    let d : Closes queue record pass { taken = pass.taken ++ rest } [] = subst (λ (b : Bags). Closes queue b []) is c in record {
      shares = d.shares;
      bags = λ n. omega (arith, d.bags n, weigh-append (λ m. if m == n then 1 else 0) pass.taken rest);
      order = λ one. d.order one ∙ append-nil (pass.taken ++ rest);
    }
