-- The links of a network: their ends, and that no two have the same.
use Rattle.std.proofs.Common.{◌≡◌, ◌≢◌, ◌∙◌, ℕ, zero, suc, ◌+◌, ◌-◌, ◌<◌, ◌≤◌, List, [], ◌∷◌, ◌++◌, length, refl, sym, ap, arith}
use Rattle.ghs_gr.specs.RawGraph.{IsLinkOf, Triple}
use Rattle.ghs_make.specs.Ends.{smaller_ends}
use Rattle.ghs_make.specs.Laws.{AreSimple}
use Rattle.ghs_make.specs.Network.{IsNetwork, count_of, count_of_nodes, links_at, links_of, links_of_nodes, weight_of}
use Rattle.ghs_make.specs.declared.network.Network.{Network}
use Rattle.ghs_make.proofs.Counts.{count_mono, count_more, length-links, links_more, links_none}
use Rattle.ghs_make.proofs.Each.{Apart, Each, all_each, apart_append, each_append, each_map, pairs_apart}
use Rattle.ghs_make.proofs.Good.{IsBelow, good_ends}
use Rattle.ghs_make.proofs.Weighing.{weight_few}

-- a link with its larger end up to a node, and a small weight
pub record IsFine (v : ℕ) (k : Triple) : Type 0 where
  pub low : 1 ≤ k.1
  pub order : k.1 < k.2
  pub high : k.2 ≤ v
  pub weight : k.0 < 10000000

abbrev pub HaveOtherEnds : Triple → Triple → Type 0
HaveOtherEnds j k = (j.1 ≡ k.1) × (j.2 ≡ k.2) → ⊥

fine_at : (n : Network) → IsNetwork n → (number v : ℕ) (us : List ℕ) → number + length us ≤ n.links → v ≤ n.plan.nodes → Each (IsBelow v) us
    → Each (IsFine v) (links_at n number v us)
fine_at n h number v [] few le below = tt
fine_at n h number v (u ∷ us) few le below = (
  record { low = below.0.0; order = below.0.1; high = omega arith; weight = weight_few n h number u v (omega (arith, few)) le },
  fine_at n h (suc number) v us (omega (arith, few)) le below.1,
)

others_at : (n : Network) (number v w u : ℕ) (us : List ℕ) → Each (λ b. u ≢ b) us → Each (HaveOtherEnds (w, u, v)) (links_at n number v us)
others_at n number v w u [] h = tt
others_at n number v w u (b ∷ us) h = (λ same. h.0 same.0, others_at n (suc number) v w u us h.1)

apart_at : (n : Network) (number v : ℕ) (us : List ℕ) → Apart (λ a b. a ≢ b) us → Apart HaveOtherEnds (links_at n number v us)
apart_at n number v [] h = tt
apart_at n number v (u ∷ us) h = (others_at n (suc number) v (weight_of n number u v) u us h.0, apart_at n (suc number) v us h.1)

ends_at : (n : Network) (number v : ℕ) (us : List ℕ) → Each (λ k. k.2 ≡ v) (links_at n number v us)
ends_at n number v [] = tt
ends_at n number v (u ∷ us) = (refl, ends_at n (suc number) v us)

-- the links of so many nodes
pub record AreFine (v : ℕ) (ks : List Triple) : Type 0 where
  pub each : Each (IsFine v) ks
  pub apart : Apart HaveOtherEnds ks

fine_more : (v v' : ℕ) (ks new : List Triple) → v < v' → AreFine v ks → Each (IsFine v') new → Each (λ k. k.2 ≡ v') new → Apart HaveOtherEnds new
    → AreFine v' (ks ++ new)
fine_more v v' ks new lt h fine ends apart = record {
  each = each_append (IsFine v') ks new
      (each_map (IsFine v) (IsFine v') ks
      (λ k f. record { low = f.low; order = f.order; high = (let high = f.high in omega arith); weight = f.weight }) h.each) fine;
  apart = apart_append HaveOtherEnds ks new h.apart apart
      (each_map (IsFine v) (λ j. Each (HaveOtherEnds j) new) ks
      (λ j f. each_map (λ k. k.2 ≡ v') (HaveOtherEnds j) new
      (λ k e. λ same. let high = f.high in let both = same.1 in absurd (omega (arith, high, both, e, lt))) ends) h.each);
}

pub fine_links : (n : Network) → IsNetwork n → (k : ℕ) → k + 1 ≤ n.plan.nodes → AreFine (k + 1) (links_of_nodes n k)
fine_links n h zero le = rw links_none (record { each = tt; apart = tt })
fine_links n h (suc k) le =
    let v = k + 2 in
    let us = smaller_ends n.plan v in
    let number = count_of_nodes n.plan k in
    let inner : AreFine (k + 1) (links_of_nodes n k) = fine_links n h k (omega arith) in
    let good = good_ends n.plan h.plan v (omega arith) (omega arith) in
    let mono = count_mono n.plan (k + 1) (n.plan.nodes - 1) (omega arith) in
    let more = count_more n.plan k in
    let counted = h.counted in
    let few : number + length us ≤ n.links = omega (arith, mono, more, counted) in
    let one : suc k ≡ k + 1 = omega arith in
    let two : suc k + 1 ≡ k + 2 = omega arith in
    rw (two, one, links_more n k)
    (fine_more (k + 1) v (links_of_nodes n k) (links_at n number v us) (omega arith) inner
    (fine_at n h number v us few (omega arith) good.below) (ends_at n number v us) (apart_at n number v us good.apart))

pub all_fine : (n : Network) → IsNetwork n → AreFine n.plan.nodes (links_of n)
all_fine n h =
    let some = h.plan.some in
    let same : n.plan.nodes - 1 + 1 ≡ n.plan.nodes = omega arith in
    rw same at (fine_links n h (n.plan.nodes - 1) (omega arith))

pub are_simple : (n : Network) → IsNetwork n → AreSimple n
are_simple n h =
    let fine = all_fine n h in
    record {
      among = all_each (IsLinkOf n.plan.nodes) (links_of n)
          (each_map (IsFine n.plan.nodes) (IsLinkOf n.plan.nodes) (links_of n) (λ k f. (f.low, f.order, f.high)) fine.each);
      apart = pairs_apart HaveOtherEnds (links_of n) fine.apart;
      counted = length-links n (n.plan.nodes - 1) ∙ sym h.counted;
    }
