-- The core of a class: least ways out lead to it from each part, and to no other.
use Rattle.std.proofs.Common.{◌≡◌, ℕ, zero, suc, ◌<◌, inl, inr, ⊎_elim, true, List, sym, ◌∙◌, subst, arith}
use Rattle.std.proofs.lemmas.Bool.{both_ways}
use Rattle.ghs_graph.specs.declared.key.Key.{Key}
use Rattle.ghs_graph.specs.Key.{key_lt}
use Rattle.ghs_graph.specs.Links.{Joined, Same, Over, Back, IsRising}
use Rattle.ghs_graph.proofs.lemmas.Joining.{joined_then, joined_back}
use Rattle.ghs_graph.proofs.lemmas.Ports.{end_cases, ends_a, ends_b}
use Rattle.boruvka_protocol.specs.Levels.{Leaves, IsLeastOut, Taken, InClass, HasWayOut}
use Rattle.boruvka_protocol.specs.Cores.{IsCore, IsBeyond, LeadsTo, There, Falls}
use Rattle.boruvka_protocol.specs.LevelLaws.{ClassesHaveOneCore, PartsLeadToCore}
use Rattle.boruvka_protocol.proofs.lemmas.KeyOrder.{key_cases, stands_earlier}
use Rattle.boruvka_protocol.proofs.lemmas.Cuts.{least_at}
use Rattle.boruvka_protocol.proofs.lemmas.WaysOut.{least_out, still_in_class}

-- Least ways out.

pub least_is_one : {ks : List Key} {S : Key → Type 0} {v : ℕ} {j k : Key} → IsLeastOut ks S v j → IsLeastOut ks S v k → j ≡ k
least_is_one {j = j} {k = k} h i = ⊎_elim
    (λ less. absurd (both_ways (key_lt j k) (i.least j h.link h.leaves) less))
    (λ o. ⊎_elim (λ less. absurd (both_ways (key_lt k j) (h.least k i.link i.leaves) less)) (λ e. e) o)
    (key_cases j k)

-- seen from the far end of a least way out
record OtherSide (ks : List Key) (S : Key → Type 0) (v : ℕ) (k : Key) (u : ℕ) : Type 0 where
  leaves : Leaves S u k
  both : IsLeastOut ks S u k → IsLeastOut ks S k.a k × IsLeastOut ks S k.b k
  only : (w : ℕ) → IsBeyond S v k w → w ≡ u

other_side : {ks : List Key} {S : Key → Type 0} {v : ℕ} {k : Key} {u : ℕ} → IsLeastOut ks S v k → IsBeyond S v k u → OtherSide ks S v k u
other_side {ks} {S} {v} {k} {u} h far = ⊎_elim at_a at_b (end_cases u k far.0)
  where
    from_a : Joined S v k.a → (Joined S v k.b → ⊥) → u ≡ k.b → OtherSide ks S v k u
    from_a inside out e = record {
      leaves = subst (λ x. Leaves S x k) (sym e) (inr (Same, λ way. out (joined_then inside (joined_back way))));
      both = λ i. (least_at inside h, subst (λ x. IsLeastOut ks S x k) e i);
      only = λ w o. ⊎_elim (λ q. absurd (o.1 (subst (λ x. Joined S v x) (sym q) inside))) (λ q. q ∙ sym e) (end_cases w k o.0);
    }

    from_b : Joined S v k.b → (Joined S v k.a → ⊥) → u ≡ k.a → OtherSide ks S v k u
    from_b inside out e = record {
      leaves = subst (λ x. Leaves S x k) (sym e) (inl (Same, λ way. out (joined_then inside (joined_back way))));
      both = λ i. (subst (λ x. IsLeastOut ks S x k) e i, least_at inside h);
      only = λ w o. ⊎_elim (λ q. q ∙ sym e) (λ q. absurd (o.1 (subst (λ x. Joined S v x) (sym q) inside))) (end_cases w k o.0);
    }

    at_a : u ≡ k.a → OtherSide ks S v k u
    at_a e = ⊎_elim (λ p. absurd (far.1 (subst (λ x. Joined S v x) (sym e) p.0))) (λ p. from_b p.0 p.1 e) h.leaves

    at_b : u ≡ k.b → OtherSide ks S v k u
    at_b e = ⊎_elim (λ p. from_a p.0 p.1 e) (λ p. absurd (far.1 (subst (λ x. Joined S v x) (sym e) p.0))) h.leaves

-- a least way out has a far end
pub far_end : {ks : List Key} {S : Key → Type 0} {v : ℕ} {k : Key} → IsLeastOut ks S v k → (u : ℕ) × IsBeyond S v k u
far_end {k = k} h = ⊎_elim (λ p. (k.b, (ends_b k, p.1))) (λ p. (k.a, (ends_a k, p.1))) h.leaves

-- Where least ways out lead.

pub leads_at : {ks : List Key} {S : Key → Type 0} {v u : ℕ} {c : Key} → Joined S v u → LeadsTo ks S v c → LeadsTo ks S u c
leads_at way (There h a b) = There (least_at way h) a b
leads_at way (Falls k w j h far n less rest) = Falls k w j (least_at way h) (far.0, λ x. far.1 (joined_then way x)) n less rest

-- from the core no lesser way out leads on
stops_at_core : {ks : List Key} {S : Key → Type 0} {v u : ℕ} {c k j : Key} → IsLeastOut ks S v c → IsLeastOut ks S c.a c → IsLeastOut ks S c.b c
    → IsLeastOut ks S v k → IsBeyond S v k u → IsLeastOut ks S u j → key_lt j k ≡ true → ⊥
stops_at_core {ks} {S} {v} {u} {c} {k} {j} h a b i far n less =
    ⊎_elim (λ q. no k.a (subst (λ (x : Key). IsLeastOut ks S x.a x) e a) q) (λ q. no k.b (subst (λ (x : Key). IsLeastOut ks S x.b x) e b) q)
    (end_cases u k far.0)
  where
    e : c ≡ k
    e = least_is_one h i

    no : (p : ℕ) → IsLeastOut ks S p k → u ≡ p → ⊥
    no p m q = let n' : IsLeastOut ks S p j = subst (λ x. IsLeastOut ks S x j) q n in both_ways (key_lt j k) (m.least j n'.link n'.leaves) less

pub leads_to_one : {ks : List Key} {S : Key → Type 0} {v : ℕ} {c d : Key} → LeadsTo ks S v c → LeadsTo ks S v d → c ≡ d
leads_to_one (There h a b) (There i _ _) = least_is_one h i
leads_to_one (There h a b) (Falls k u j i far n less rest) = absurd (stops_at_core h a b i far n less)
leads_to_one (Falls k u j i far n less rest) (There h a b) = absurd (stops_at_core h a b i far n less)
leads_to_one {ks} {S} {v} {c} {d} (Falls k u j h far n less rest) (Falls k' u' j' h' far' n' less' rest') =
    leads_to_one rest (subst (λ x. LeadsTo ks S x d) same rest')
  where
    same : u' ≡ u
    same = (other_side h far).only u' (subst (λ (x : Key). IsBeyond S v x u') (least_is_one h' h) far')

-- from both sides of a least way out, where from beyond it each lesser one leads somewhere
record FromBoth (ks : List Key) (S : Key → Type 0) (v u : ℕ) : Type 0 where
  core : Key
  here : LeadsTo ks S v core
  there : LeadsTo ks S u core

from_both : (ks : List Key) (l : ℕ) {v : ℕ} {k : Key} (u : ℕ) → IsLeastOut ks (Taken ks l) v k → IsBeyond (Taken ks l) v k u
    → ((j : Key) → IsLeastOut ks (Taken ks l) u j → key_lt j k ≡ true → (c : Key) × LeadsTo ks (Taken ks l) u c) → FromBoth ks (Taken ks l) v u
from_both ks l {v} {k} u h far rest = ⊎_elim falls (λ o. ⊎_elim never there o) (key_cases m.0 k)
  where
    side : OtherSide ks (Taken ks l) v k u
    side = other_side h far

    m : (j : Key) × IsLeastOut ks (Taken ks l) u j
    m = least_out ks l u (k, h.link, side.leaves)

    falls : key_lt m.0 k ≡ true → FromBoth ks (Taken ks l) v u
    falls less = let r = rest m.0 m.1 less in record { core = r.0; here = Falls k u m.0 h far m.1 less r.1; there = r.1 }

    never : key_lt k m.0 ≡ true → FromBoth ks (Taken ks l) v u
    never less = absurd (both_ways (key_lt k m.0) (m.1.least k h.link side.leaves) less)

    there : m.0 ≡ k → FromBoth ks (Taken ks l) v u
    there e =
        let i : IsLeastOut ks (Taken ks l) u k = subst (λ (x : Key). IsLeastOut ks (Taken ks l) u x) e m.1 in
        let b = side.both i in
        record { core = k; here = There h b.0 b.1; there = There i b.0 b.1 }

-- each class with a way out leads to a core: keys fall, so they end
leads_below : (ks : List Key) (l : ℕ) → IsRising ks → (n : ℕ) (v : ℕ) (k : Key) → (h : IsLeastOut ks (Taken ks l) v k) → h.link.0 < n
    → (c : Key) × LeadsTo ks (Taken ks l) v c
leads_below ks l r zero v k h lt = absurd (omega (arith, lt))
leads_below ks l r (suc n) v k h lt =
    let far = far_end h in
    let both = from_both ks l far.0 h far.1
    (λ j i less. let e = stands_earlier ks j k r i.link h.link less in leads_below ks l r n far.0 j i (omega (arith, e, lt))) in
    (both.core, both.here)

pub leads : (ks : List Key) (l : ℕ) → IsRising ks → (v : ℕ) → HasWayOut ks l v → (c : Key) × LeadsTo ks (Taken ks l) v c
leads ks l r v h = let m = least_out ks l v h in leads_below ks l r (suc m.1.link.0) v m.0 m.1 (omega arith)

-- One core.

-- both ends of a least way out lead to the same
across : (ks : List Key) (l : ℕ) → IsRising ks → {p q : ℕ} {k : Key} → IsLeastOut ks (Taken ks l) p k → IsBeyond (Taken ks l) p k q
    → FromBoth ks (Taken ks l) p q
across ks l r {p} {q} {k} h far = from_both ks l q h far (λ j i less. leads ks l r q (j, i.link, i.leaves))

-- the ends of a link that is taken by the next level lead to the same
over_taken : (ks : List Key) (l : ℕ) → IsRising ks → (k c : Key) → Taken ks (suc l) k
    → (LeadsTo ks (Taken ks l) k.a c → LeadsTo ks (Taken ks l) k.b c) × (LeadsTo ks (Taken ks l) k.b c → LeadsTo ks (Taken ks l) k.a c)
over_taken ks l r k c (inl s) = (leads_at (Over k s Same), leads_at (Back k s Same))
over_taken ks l r k c (inr n) = ⊎_elim
    (λ p. let f = across ks l r (least_at p.0 n.1) (ends_b k, λ way. p.1 (joined_then p.0 way)) in (
      λ way. subst (λ (x : Key). LeadsTo ks (Taken ks l) k.b x) (leads_to_one f.here way) f.there,
      λ way. subst (λ (x : Key). LeadsTo ks (Taken ks l) k.a x) (leads_to_one f.there way) f.here,
    ))
    (λ p. let f = across ks l r (least_at p.0 n.1) (ends_a k, λ way. p.1 (joined_then p.0 way)) in (
      λ way. subst (λ (x : Key). LeadsTo ks (Taken ks l) k.b x) (leads_to_one f.there way) f.here,
      λ way. subst (λ (x : Key). LeadsTo ks (Taken ks l) k.a x) (leads_to_one f.here way) f.there,
    ))
    n.1.leaves

-- all parts of a class lead to the same
pub leads_on : (ks : List Key) (l : ℕ) → IsRising ks → {u w : ℕ} {c : Key} → InClass ks (suc l) u w → LeadsTo ks (Taken ks l) u c
    → LeadsTo ks (Taken ks l) w c
leads_on ks l r Same from = from
leads_on ks l r {c = c} (Over k s way) from = leads_on ks l r way ((over_taken ks l r k c s).0 from)
leads_on ks l r {c = c} (Back k s way) from = leads_on ks l r way ((over_taken ks l r k c s).1 from)

-- the next level joins both ends of a least way out
crossed : (ks : List Key) (l : ℕ) {v u : ℕ} {k : Key} → IsLeastOut ks (Taken ks l) v k → IsBeyond (Taken ks l) v k u → InClass ks (suc l) v u
crossed ks l {v} {u} {k} h far = ⊎_elim
    (λ p. subst (λ x. InClass ks (suc l) v x) ((other_side h far).only k.b (ends_b k, p.1))
    (joined_then (still_in_class ks l p.0) (Over k (inr (v, h)) Same)))
    (λ p. subst (λ x. InClass ks (suc l) v x) ((other_side h far).only k.a (ends_a k, p.1))
    (joined_then (still_in_class ks l p.0) (Back k (inr (v, h)) Same)))
    h.leaves

pub leads_to_core : (ks : List Key) (l : ℕ) {v : ℕ} {c : Key} → LeadsTo ks (Taken ks l) v c → IsCore ks l v c
leads_to_core ks l {v} {c} (There h a b) = record {
  inside =
      ⊎_elim (λ p. still_in_class ks l p.0) (λ p. joined_then (still_in_class ks l p.0) (Back c (inr (v, h)) Same)) h.leaves;
  of_a = a;
  of_b = b;
}
leads_to_core ks l (Falls k u j h far n less rest) =
    let r = leads_to_core ks l rest in record { inside = joined_then (crossed ks l h far) r.inside; of_a = r.of_a; of_b = r.of_b }

pub core_leads : (ks : List Key) (l : ℕ) → IsRising ks → {v : ℕ} {c : Key} → IsCore ks l v c → LeadsTo ks (Taken ks l) v c
core_leads ks l r h = leads_on ks l r (joined_back h.inside) (There h.of_a h.of_a h.of_b)

pub classes_have_one_core : ClassesHaveOneCore
classes_have_one_core g ok l v h =
    let to = leads g.keys l ok.rising v (h v Same).1 in
    (to.0, leads_to_core g.keys l to.1, λ k is. leads_to_one (core_leads g.keys l ok.rising is) to.1)

pub parts_lead_to_core : PartsLeadToCore
parts_lead_to_core g ok l v h c is u way = leads_on g.keys l ok.rising way (core_leads g.keys l ok.rising is)
