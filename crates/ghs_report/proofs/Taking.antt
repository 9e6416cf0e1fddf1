-- A link that leads from one fragment to another unites them, whichever level is the higher.
use Rattle.std.proofs.Common.{◌≡◌, ◌≢◌, ℕ, suc, ◌<◌, ◌+◌, inl, inr, Option, None, Some, List, length, get_or, set, refl, sym, ◌∙◌, ap, arith, get_or-set_same, get_or-set_other, length-set}
use Rattle.ghs_graph.specs.declared.key.Key.{Key}
use Rattle.ghs_graph.specs.Key.{no_key}
use Rattle.ghs_graph.specs.Links.{IsRising}
use Rattle.ghs_protocol.specs.Merging.{Between, Merge, Absorb}
use Rattle.ghs_report.specs.Fragments.{AreMerged, HasUnited, First_absorbed, Second_absorbed, Merged, IsLeader}
use Rattle.ghs_report.proofs.Trees.{GoesUnder}
use Rattle.ghs_report.proofs.Uniting.{leader_one, least_out, merged_more}

module _ (ks : List Key) (rising : IsRising ks) (t : ℕ) (more : t < length ks) (ps ls : List ℕ) (cs : List (Option Key)) (s : AreMerged ks t ps ls cs)
    (k : Key) (is : get_or ks t no_key ≡ k) where
  -- the fragment of a lower level is absorbed
  absorbed : (u v a b : ℕ) → Between k u v → IsLeader ps u a → IsLeader ps v b → a ≢ b → get_or ls a 0 < get_or ls b 0 →
      AreMerged ks (t + 1) (set ps a b) ls cs
  absorbed u v a b between la lb apart less =
      merged_more ks rising t more ps ls cs s k is u v a b (s.to.level v) (s.to.core v) ls cs 1 between under la.itself of_a of_b
      (Absorb k u v (least_out ks rising t more ps ls cs s k u v is between out) levels) refl
      (s.level b lb.inside lb.itself ∙ same_level) (s.core b lb.inside lb.itself ∙ same_core) (λ w ne. refl)
    where
      of_a : s.to.fragment a ≡ s.to.fragment u
      of_a = leader_one ks rising t more ps ls cs s u a la

      of_b : s.to.fragment b ≡ s.to.fragment v
      of_b = leader_one ks rising t more ps ls cs s v b lb

      out : s.to.fragment v ≢ s.to.fragment u
      out e = apart (s.alone a b la.inside lb.inside la.itself lb.itself (of_a ∙ sym e ∙ sym of_b))

      same_level : s.to.level b ≡ s.to.level v
      same_level = (s.even b v of_b).0

      same_core : s.to.core b ≡ s.to.core v
      same_core = (s.even b v of_b).1

      levels : s.to.level u < s.to.level v
      levels =
          let x : get_or ls a 0 ≡ s.to.level u = s.level a la.inside la.itself ∙ (s.even a u of_a).0 in
          let y : get_or ls b 0 ≡ s.to.level v = s.level b lb.inside lb.itself ∙ same_level in
          omega (arith, x, y, less)

      under : GoesUnder t ps ls ls a b
      under = record {
        child_in = la.inside;
        top_in = lb.inside;
        apart = apart;
        itself = lb.itself;
        places = refl;
        others = λ v ne. refl;
        grows = omega arith;
        within = let z = s.trees.top b lb.inside in omega (arith, z);
        above = less;
      }

  -- fragments of one level merge
  merged : (a b : ℕ) → IsLeader ps k.a a → IsLeader ps k.b b → a ≢ b → get_or ls a 0 ≡ get_or ls b 0 →
      AreMerged ks (t + 1) (set ps b a) (set ls a (suc (get_or ls a 0))) (set cs a (Some k))
  merged a b la lb apart same =
      merged_more ks rising t more ps ls cs s k is k.b k.a b a (suc (s.to.level k.b)) (Some k) (set ls a (suc (get_or ls a 0))) (set cs a (Some k)) 2
      (inr (refl, refl)) under lb.itself of_b of_a
      (Merge k k.b k.a (least_out ks rising t more ps ls cs s k k.b k.a is (inr (refl, refl)) (λ e. out (sym e)))
      (least_out ks rising t more ps ls cs s k k.a k.b is (inl (refl, refl)) out) levels)
      (length-set cs a (Some k)) now_level (get_or-set_same cs a (Some k) None cs_in) (λ w ne. get_or-set_other cs a w (Some k) None ne)
    where
      of_a : s.to.fragment a ≡ s.to.fragment k.a
      of_a = leader_one ks rising t more ps ls cs s k.a a la

      of_b : s.to.fragment b ≡ s.to.fragment k.b
      of_b = leader_one ks rising t more ps ls cs s k.b b lb

      out : s.to.fragment k.b ≢ s.to.fragment k.a
      out e = apart (s.alone a b la.inside lb.inside la.itself lb.itself (of_a ∙ sym e ∙ sym of_b))

      level_a : get_or ls a 0 ≡ s.to.level k.a
      level_a = s.level a la.inside la.itself ∙ (s.even a k.a of_a).0

      level_b : get_or ls b 0 ≡ s.to.level k.b
      level_b = s.level b lb.inside lb.itself ∙ (s.even b k.b of_b).0

      levels : s.to.level k.b ≡ s.to.level k.a
      levels = sym level_b ∙ sym same ∙ level_a

      ls_in : a < length ls
      ls_in = let z = s.trees.places in let i = la.inside in omega (arith, z, i)

      cs_in : a < length cs
      cs_in = let z = s.places in let i = la.inside in omega (arith, z, i)

      put : get_or (set ls a (suc (get_or ls a 0))) a 0 ≡ suc (get_or ls a 0)
      put = get_or-set_same ls a (suc (get_or ls a 0)) 0 ls_in

      now_level : get_or (set ls a (suc (get_or ls a 0))) a 0 ≡ suc (s.to.level k.b)
      now_level = put ∙ ap suc (same ∙ level_b)

      under : GoesUnder t ps ls (set ls a (suc (get_or ls a 0))) b a
      under = record {
        child_in = lb.inside;
        top_in = la.inside;
        apart = λ e. apart (sym e);
        itself = la.itself;
        places = length-set ls a (suc (get_or ls a 0));
        others = λ v ne. get_or-set_other ls a v (suc (get_or ls a 0)) 0 ne;
        grows = omega (arith, put);
        within = let z = s.trees.top a la.inside in omega (arith, z, put);
        above = omega (arith, same, put);
      }

  pub merged_united : k.a < length ps → k.b < length ps → (a b : ℕ) → IsLeader ps k.a a → IsLeader ps k.b b → a ≢ b →
      (ps' ls' : List ℕ) (cs' : List (Option Key)) → HasUnited ps ls cs ps' ls' cs' a b k → AreMerged ks (t + 1) ps' ls' cs'
  merged_united al bl a b la lb apart _ _ _ (First_absorbed less p l c) =
      rw (p, l, c) (absorbed k.a k.b a b (inl (refl, refl)) la lb apart less)
  merged_united al bl a b la lb apart _ _ _ (Second_absorbed less p l c) =
      rw (p, l, c) (absorbed k.b k.a b a (inr (refl, refl)) lb la (λ e. apart (sym e)) less)
  merged_united al bl a b la lb apart _ _ _ (Merged same p l c) = rw (p, l, c) (merged a b la lb apart same)
