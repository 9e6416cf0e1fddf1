-- One more link, in key order: what merging leads to.
use Rattle.std.proofs.Common.{◌≡◌, ◌≢◌, ℕ, ◌<◌, ◌≤◌, ◌+◌, inl, inr, ⊎_elim, false, Option, None, List, [], ◌∷◌, ◌++◌, length, get_or, set, sym, ◌∙◌, ap, subst, arith, length-set}
use Rattle.std.specs.List.{Contains}
use Rattle.std.proofs.lemmas.Bool.{cases_eq, cases_lt}
use Rattle.std.proofs.lemmas.List.{get_or_default}
use Rattle.std.proofs.lemmas.List.Elements.{Contains-get_or}
use Rattle.ghs_graph.specs.declared.key.Key.{Key}
use Rattle.ghs_graph.specs.Key.{key_lt, no_key}
use Rattle.ghs_graph.specs.Links.{IsRising}
use Rattle.ghs_graph.proofs.lemmas.Keys.{lt_irreflexive, lt_asymmetric}
use Rattle.ghs_protocol.specs.Merging.{singles, united, Between, IsLeastOut, one_connect, Unites, Done, Then}
use Rattle.ghs_protocol.proofs.lemmas.Merging.{Either, inside, merging_on, outside, still_one, united_even, was_one}
use Rattle.ghs_report.specs.Fragments.{AreMerged, IsLeader}
use Rattle.ghs_report.proofs.Trees.{GoesUnder, trees_within, trees_under, now_child, now_other}

module _ (ks : List Key) (rising : IsRising ks) (t : ℕ) (more : t < length ks) (ps ls : List ℕ) (cs : List (Option Key))
    (s : AreMerged ks t ps ls cs) where
  -- who leads to the same node lies in the same fragment
  pub leader_one : (v r : ℕ) → IsLeader ps v r → s.to.fragment r ≡ s.to.fragment v
  leader_one v r l = l.same s.to.fragment s.one

  -- a link of the graph that leads from one fragment to another is the next one or a later
  later : (j : Key) (h : Contains ks j) → s.to.fragment j.a ≢ s.to.fragment j.b → t ≤ h.0
  later j h ne =
      ⊎_elim
      (λ (lt : h.0 < t).
      absurd (ne (subst (λ (x : Key). s.to.fragment x.a ≡ s.to.fragment x.b) (sym (get_or_default ks h.0 j no_key h.1) ∙ h.2) (s.within h.0 lt))))
      (λ ge. omega (arith, ge)) (cases_lt h.0 t)

  not_less : (j : Key) (h : Contains ks j) → t ≤ h.0 → key_lt j (get_or ks t no_key) ≡ false
  not_less j h le =
      let at : get_or ks h.0 no_key ≡ j = sym (get_or_default ks h.0 j no_key h.1) ∙ h.2 in
      subst (λ (x : Key). key_lt x (get_or ks t no_key) ≡ false) at
      (⊎_elim (λ (e : t ≡ h.0). subst (λ n. key_lt (get_or ks n no_key) (get_or ks t no_key) ≡ false) e (lt_irreflexive (get_or ks t no_key)))
      (λ ne. lt_asymmetric (get_or ks t no_key) (get_or ks h.0 no_key) (rising t h.0 no_key (omega (arith, le, ne)) h.1)) (cases_eq t h.0))

  -- the next link is the least that leads out of either fragment
  pub least_out : (k : Key) (u v : ℕ) → get_or ks t no_key ≡ k → Between k u v → s.to.fragment v ≢ s.to.fragment u → IsLeastOut ks s.to u v k
  least_out k u v e between ne = record {
    link = subst (λ (x : Key). Contains ks x) e (Contains-get_or ks t no_key more);
    ends = between;
    out = ne;
    least =
        λ j x y h ends here away.
        subst (λ (z : Key). key_lt j z ≡ false) e
        (not_less j h (later j h (apart j x y ends (λ q. away (sym q ∙ here)))));
  }
    where
      apart : (j : Key) (x y : ℕ) → Between j x y → s.to.fragment x ≢ s.to.fragment y → s.to.fragment j.a ≢ s.to.fragment j.b
      apart j x y (inl z) q r = q (ap s.to.fragment (sym z.0) ∙ r ∙ ap s.to.fragment z.1)
      apart j x y (inr z) q r = q (ap s.to.fragment (sym z.1) ∙ sym r ∙ ap s.to.fragment z.0)

  -- both ends lie in one fragment: nothing happens
  pub merged_still : (k : Key) → get_or ks t no_key ≡ k → s.to.fragment k.a ≡ s.to.fragment k.b → AreMerged ks (t + 1) ps ls cs
  merged_still k e same = record {
    trees = trees_within t (t + 1) ps ls (omega arith) s.trees;
    places = s.places;
    to = s.to;
    links = s.links;
    connects = s.connects;
    way = s.way;
    even = s.even;
    one = s.one;
    alone = s.alone;
    level = s.level;
    core = s.core;
    within =
        λ i lt.
        ⊎_elim (λ (q : i ≡ t). subst (λ (x : Key). s.to.fragment x.a ≡ s.to.fragment x.b) (sym e ∙ ap (λ n. get_or ks n no_key) (sym q)) same)
        (λ ne. s.within i (omega (arith, lt, ne))) (cases_eq i t);
  }

  -- the fragments of u and v unite: the node that has the first one's level and core goes under that of the second
  module _ (k : Key) (is : get_or ks t no_key ≡ k) (u v child top l : ℕ) (c : Option Key) (ls' : List ℕ) (cs' : List (Option Key)) (cost : ℕ)
      (between : Between k u v) (under : GoesUnder t ps ls ls' child top) (itself : get_or ps child 0 ≡ child)
      (of_u : s.to.fragment child ≡ s.to.fragment u) (of_v : s.to.fragment top ≡ s.to.fragment v)
      (unites : Unites ks one_connect s.to k cost (united u v l c s.to))
      (places : length cs' ≡ length cs) (level : get_or ls' top 0 ≡ l) (core : get_or cs' top None ≡ c)
      (others : (w : ℕ) → w ≢ top → get_or cs' w None ≡ get_or cs w None) where
    first : Either (s.to.fragment u) (s.to.fragment v) (s.to.fragment child)
    first = inl of_u

    second : Either (s.to.fragment u) (s.to.fragment v) (s.to.fragment top)
    second = inr of_v

    both : (x y : ℕ) → Either (s.to.fragment u) (s.to.fragment v) (s.to.fragment x) → Either (s.to.fragment u) (s.to.fragment v) (s.to.fragment y) →
        (united u v l c s.to).fragment x ≡ (united u v l c s.to).fragment y
    both x y p q = (inside s.to u v l c x p).fragment ∙ sym (inside s.to u v l c y q).fragment

    -- who leads to itself now did, and isn't the one that went under
    still : (w : ℕ) → get_or (set ps child top) w 0 ≡ w → (w ≢ child) × (get_or ps w 0 ≡ w)
    still w e =
        ⊎_elim
        (λ (q : w ≡ child). absurd (under.apart (sym q ∙ sym e ∙ ap (λ x. get_or (set ps child top) x 0) q ∙ now_child t ps ls ls' child top under)))
        (λ ne. (ne, sym (now_other t ps ls ls' child top under w ne) ∙ e)) (cases_eq w child)

    is_top : (w : ℕ) → w < length ps → w ≢ child → get_or ps w 0 ≡ w → Either (s.to.fragment u) (s.to.fragment v) (s.to.fragment w) → w ≡ top
    is_top w lt ne e h =
        ⊎_elim (λ z. absurd (ne (s.alone w child lt under.child_in e itself (z ∙ sym of_u))))
        (λ z. s.alone w top lt under.top_in e under.itself (z ∙ sym of_v)) h

    in_old : {w : ℕ} → w < length (set ps child top) → w < length ps
    in_old lt = rw (length-set ps child top) at lt

    aside : (w : ℕ) → w < length ps → w ≢ child → get_or ps w 0 ≡ w → w ≢ top →
        (s.to.fragment w ≢ s.to.fragment u) × (s.to.fragment w ≢ s.to.fragment v)
    aside w lt ne e away = (λ z. away (is_top w lt ne e (inl z)), λ z. away (is_top w lt ne e (inr z)))

    pub merged_more : AreMerged ks (t + 1) (set ps child top) ls' cs'
    merged_more = record {
      trees = trees_under t ps ls ls' child top under s.trees;
      places = places ∙ s.places ∙ sym (length-set ps child top);
      to = united u v l c s.to;
      links = s.links ++ k ∷ [];
      connects = s.connects + (cost + 0);
      way = merging_on ks one_connect singles s.to (united u v l c s.to) s.links (k ∷ []) s.connects (cost + 0) s.way (Then unites Done);
      even = united_even s.to u v l c s.even;
      one = λ w lt. one w (in_old lt);
      alone = λ x y xl yl ex ey e. alone x y (in_old xl) (in_old yl) (still x ex) (still y ey) e;
      level = λ w lt e. level_of w (in_old lt) (still w e);
      core = λ w lt e. core_of w (in_old lt) (still w e);
      within = within;
    }
      where
        one : (w : ℕ) → w < length ps → (united u v l c s.to).fragment (get_or (set ps child top) w 0) ≡ (united u v l c s.to).fragment w
        one w lt =
            ⊎_elim (λ (e : w ≡ child). rw (e, now_child t ps ls ls' child top under) (both top child second first))
            (λ ne. rw (now_other t ps ls ls' child top under w ne) (still_one s.to u v l c (get_or ps w 0) w (s.one w lt))) (cases_eq w child)

        alone : (x y : ℕ) → x < length ps → y < length ps → (x ≢ child) × (get_or ps x 0 ≡ x) → (y ≢ child) × (get_or ps y 0 ≡ y) →
            (united u v l c s.to).fragment x ≡ (united u v l c s.to).fragment y → x ≡ y
        alone x y xl yl ex ey e =
            ⊎_elim (λ z. s.alone x y xl yl ex.1 ey.1 z) (λ z. is_top x xl ex.0 ex.1 z.0 ∙ sym (is_top y yl ey.0 ey.1 z.1))
            (was_one s.to u v l c x y e)

        level_of : (w : ℕ) → w < length ps → (w ≢ child) × (get_or ps w 0 ≡ w) → get_or ls' w 0 ≡ (united u v l c s.to).level w
        level_of w lt e =
            ⊎_elim (λ (q : w ≡ top). subst (λ x. get_or ls' x 0 ≡ (united u v l c s.to).level x) (sym q)
            (level ∙ sym (inside s.to u v l c top second).level))
            (λ ne. let z = aside w lt e.0 e.1 ne in under.others w ne ∙ s.level w lt e.1 ∙ sym (outside s.to u v l c w z.0 z.1).level)
            (cases_eq w top)

        core_of : (w : ℕ) → w < length ps → (w ≢ child) × (get_or ps w 0 ≡ w) → get_or cs' w None ≡ (united u v l c s.to).core w
        core_of w lt e =
            ⊎_elim (λ (q : w ≡ top). subst (λ x. get_or cs' x None ≡ (united u v l c s.to).core x) (sym q)
            (core ∙ sym (inside s.to u v l c top second).core))
            (λ ne. let z = aside w lt e.0 e.1 ne in others w ne ∙ s.core w lt e.1 ∙ sym (outside s.to u v l c w z.0 z.1).core) (cases_eq w top)

        ends : Between k u v → (united u v l c s.to).fragment k.a ≡ (united u v l c s.to).fragment k.b
        ends (inl z) = both k.a k.b (inl (ap s.to.fragment z.0)) (inr (ap s.to.fragment z.1))
        ends (inr z) = both k.a k.b (inr (ap s.to.fragment z.0)) (inl (ap s.to.fragment z.1))

        within : (i : ℕ) → i < t + 1 →
            (united u v l c s.to).fragment (get_or ks i no_key).a ≡ (united u v l c s.to).fragment (get_or ks i no_key).b
        within i lt =
            ⊎_elim
            (λ (q : i ≡ t).
            subst (λ (x : Key). (united u v l c s.to).fragment x.a ≡ (united u v l c s.to).fragment x.b)
            (sym is ∙ ap (λ n. get_or ks n no_key) (sym q)) (ends between))
            (λ ne. still_one s.to u v l c (get_or ks i no_key).a (get_or ks i no_key).b (s.within i (omega (arith, lt, ne)))) (cases_eq i t)
