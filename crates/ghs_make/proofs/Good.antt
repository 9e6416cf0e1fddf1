-- The smaller ends of a node's links are smaller nodes, and no node is one twice.
use Rattle.std.proofs.Common.{◌≡◌, ◌≢◌, ◌∙◌, ℕ, zero, suc, ◌+◌, ◌-◌, ◌*◌, ◌/◌, ◌%◌, ◌<◌, ◌≤◌, ◌^◌, ◌⊎◌, ⊎_elim, Bool, true, false, not, ◌&&◌, ◌||◌, ◌==◌, cond, List, [], ◌∷◌, ◌++◌, length, max, refl, sym, ap, subst, arith}
use Rattle.std.specs.Prelude.{min, nat_le, nat_lt}
use Rattle.std.specs.Int.{is_power_of_two, trailing_zeros, w32}
use Rattle.std.proofs.Math.Nat.{mod-lt, mod-one, one-le-pow}
use Rattle.std.proofs.lemmas.Nat.Bits.{bit_at-trailing_zeros, bit_at_above}
use Rattle.std.proofs.lemmas.Bool.{and_parts, cases_lt, eqb-false, leb-true, ltb-true, not-true, leb-false}
use Rattle.ghs_make.specs.Ends.{above_picked, across, along_ends, behind_ends, blocks, both_picked, busy_ends, chain_end, block_end, complete_ends, cross_ends, crosses, ends_by, firsts, front, front_by, goes_beside, goes_up, grid_ends, has_above, has_beside, hung_ends, is_high_asker, last_block, links_among, low_askers, one_and_run, one_if, part_start, path_ends, pick, picked_ends, place, ring_ends, road_ends, smaller_ends, star_ends, twos, wake_ends}
use Rattle.ghs_make.specs.Plan.{IsPlan}
use Rattle.ghs_make.specs.Word.{word}
use Rattle.ghs_make.specs.declared.kind.Kind.{Kind}
use Rattle.ghs_make.specs.declared.kind.Kind.TheVariants.{Path, Ring, Star, Grid, Complete, Tree, Random, Road, Forest, Slow, Busy, FarCore, ChainWake}
use Rattle.ghs_make.specs.declared.plan.Plan.{Plan}
use Rattle.ghs_make.specs.declared.word.TheConstants.{PICKS}
use Rattle.ghs_make.proofs.Each.{Each, Apart, each_append, each_map, apart_append}
use Rattle.ghs_make.proofs.Parts.{part_some, part_within}
use Rattle.ghs_make.proofs.Picking.{div_mono, parts_fit}
use Rattle.ghs_make.proofs.Powers.{half_within, lt_pow, quarter_within}

-- a smaller node
abbrev pub IsBelow : ℕ → ℕ → Type 0
IsBelow v u = (1 ≤ u) × (u < v)

pub record AreGood (v : ℕ) (us : List ℕ) : Type 0 where
  pub below : Each (IsBelow v) us
  pub apart : Apart (λ a b. a ≢ b) us

one : (v u : ℕ) → IsBelow v u → AreGood v (u ∷ [])
one v u h = record { below = (h, tt); apart = (tt, tt) }

two : (v a b : ℕ) → IsBelow v a → IsBelow v b → a ≢ b → AreGood v (a ∷ b ∷ [])
two v a b h i ne = record { below = (h, (i, tt)); apart = ((ne, tt), (tt, tt)) }

none : (v : ℕ) → AreGood v []
none v = record { below = tt; apart = tt }

-- what is given for the first so many numbers

each_firsts : (P : ℕ → Type 0) (f : ℕ → ℕ) (d : ℕ) → ((i : ℕ) → i < d → P (f i)) → Each P (firsts f d)
each_firsts P f zero h = tt
each_firsts P f (suc d) h = each_append P (firsts f d) (f d ∷ []) (each_firsts P f d (λ i lt. h i (omega arith))) (h d (omega arith), tt)

rising_firsts : (v : ℕ) (f : ℕ → ℕ) (d : ℕ) → ((i : ℕ) → i < d → IsBelow v (f i)) → ((i j : ℕ) → i < j → j < d → f i < f j) → AreGood v (firsts f d)
rising_firsts v f zero h up = none v
rising_firsts v f (suc d) h up =
    let inner = rising_firsts v f d (λ i lt. h i (omega arith)) (λ i j l m. up i j l (omega arith)) in
    let other : Each (λ x. Each (λ b. x ≢ b) (f d ∷ [])) (firsts f d) =
    each_firsts (λ x. Each (λ b. x ≢ b) (f d ∷ [])) f d
    (λ i lt. (let less : f i < f d = up i d lt (omega arith) in λ e. absurd (omega (arith, less, e)), tt)) in
    record {
      below = each_firsts (IsBelow v) f (suc d) h;
      apart = apart_append (λ a b. a ≢ b) (firsts f d) (f d ∷ []) inner.apart (tt, tt) other;
    }

-- rows

good_ring : (p : Plan) (v : ℕ) (b : Bool) → 2 ≤ v → (b ≡ true → 2 < v) → AreGood v (one_if b 1 ++ (v - 1) ∷ [])
good_ring p v true low h =
    let far : 2 < v = h refl in two v 1 (v - 1) (omega arith, omega arith) (omega arith, omega arith) (λ e. absurd (omega arith))
good_ring p v false low h = one v (v - 1) (omega arith, omega arith)

apart_rows : (p : Plan) → IsPlan p → (v : ℕ) → 2 ≤ v → has_above p v ≡ true → has_beside p v ≡ true → (1 ≤ p.width) × (v - p.width ≢ v - 1)
apart_rows p h v low above beside =
    let over : p.width < v = ltb-true p.width v above in
    let rest : ((v - 1) % p.width == 0) ≡ false = not-true _ beside in
    let inside : (v - 1) % p.width ≢ 0 = eqb-false ((v - 1) % p.width) 0 rest in
    let next = h.next_square in
    let some = h.some in
    let wide : p.width ≢ 0 = (λ e. let sq : p.nodes < (0 + 1) * (0 + 1) = subst (λ w. p.nodes < (w + 1) * (w + 1)) e next in absurd (omega arith)) in
    let wider : p.width ≢ 1 = (λ e. inside (ap (λ w. (v - 1) % w) e ∙ mod-one (v - 1))) in
    (omega arith, λ e. absurd (omega arith))

above_below : (p : Plan) → IsPlan p → (v : ℕ) → has_above p v ≡ true → IsBelow v (v - p.width)
above_below p h v above =
    let over : p.width < v = ltb-true p.width v above in
    let next = h.next_square in
    let some = h.some in
    let wide : p.width ≢ 0 = (λ e. let sq : p.nodes < (0 + 1) * (0 + 1) = subst (λ w. p.nodes < (w + 1) * (w + 1)) e next in absurd (omega arith)) in
    (omega arith, omega arith)

good_rows : (p : Plan) → IsPlan p → (v : ℕ) → 2 ≤ v → (a b : Bool) → (a ≡ true → has_above p v ≡ true) → (b ≡ true → has_beside p v ≡ true)
    → AreGood v (one_if a (v - p.width) ++ one_if b (v - 1))
good_rows p h v low true true f g =
    two v (v - p.width) (v - 1) (above_below p h v (f refl)) (omega arith, omega arith) (apart_rows p h v low (f refl) (g refl)).1
good_rows p h v low true false f g = one v (v - p.width) (above_below p h v (f refl))
good_rows p h v low false true f g = one v (v - 1) (omega arith, omega arith)
good_rows p h v low false false f g = none v

-- picks

good_picks : (seed first v d : ℕ) → 2 ≤ v → d ≤ v - 1 → AreGood v (firsts (pick seed first (v - 1) d) d)
good_picks seed first v d low fits =
    let c = v - 1 in
    let f = pick seed first c d in
    let inside : (i : ℕ) → i < d → (part_start c d i < f i) × (f i ≤ part_start c d (i + 1)) =
    λ i lt.
    let more = part_some c d i (omega arith) fits in
    let some : 0 < part_start c d (i + 1) - part_start c d i = omega (arith, more) in
    let offset = mod-lt (word seed PICKS (first + i)) some in
    (omega (arith, more, offset), omega (arith, more, offset)) in
    rising_firsts v f d
    (λ i lt.
    let here = inside i lt in
    let end = part_within c d (i + 1) (omega arith) in
    (omega (arith, here.0), omega (arith, here.1, end)))
    (λ i j lt high.
    let some : 0 < d = omega arith in
    let le : (i + 1) * c ≤ j * c = grind arith in
    let parts : part_start c d (i + 1) ≤ part_start c d j = div_mono ((i + 1) * c) (j * c) d some le in
    let less = inside i (omega arith) in
    let more = inside j high in
    omega (arith, parts, less.1, more.0))

pub good_picked : (p : Plan) → IsPlan p → (v : ℕ) → 2 ≤ v → AreGood v (picked_ends p v)
good_picked p h v low =
    let fit = parts_fit p h v low in
    good_picks p.seed (links_among p (v - 1)) v (links_among p v - links_among p (v - 1)) low (omega (arith, fit))

-- chains and blocks

front_by_some : (k : Kind) (p : Plan) → IsPlan p → 2 ≤ front_by k p
front_by_some Slow p h = let half = half_within p h in omega (arith, half)
front_by_some Path p h = let most = h.levels.at_most in omega (arith, most)
front_by_some Ring p h = let most = h.levels.at_most in omega (arith, most)
front_by_some Star p h = let most = h.levels.at_most in omega (arith, most)
front_by_some Grid p h = let most = h.levels.at_most in omega (arith, most)
front_by_some Complete p h = let most = h.levels.at_most in omega (arith, most)
front_by_some Tree p h = let most = h.levels.at_most in omega (arith, most)
front_by_some Random p h = let most = h.levels.at_most in omega (arith, most)
front_by_some Road p h = let most = h.levels.at_most in omega (arith, most)
front_by_some Forest p h = let most = h.levels.at_most in omega (arith, most)
front_by_some Busy p h = let most = h.levels.at_most in omega (arith, most)
front_by_some FarCore p h = let quarter = quarter_within p h in omega (arith, quarter)
front_by_some ChainWake p h = let most = h.levels.at_most in omega (arith, most)

block_by : (v f : ℕ) (b c : Bool) → 2 ≤ f → f < v → (b ≡ true → c ≡ false → 3 ≤ v + 1 - f)
    → IsBelow v (cond b (cond c 1 (f + (v + 1 - f) / 2 - 2)) (v - 1))
block_by v f true true some behind h = (omega arith, omega arith)
block_by v f true false some behind h = let far : 3 ≤ v + 1 - f = h refl refl in (omega arith, omega arith)
block_by v f false c some behind h = (omega arith, omega arith)

chain_by : (p : Plan) (v : ℕ) (b : Bool) → b ≡ nat_le v (front p) → 2 ≤ front p → 2 ≤ v → IsBelow v (cond b (v - 1) (block_end p v))
chain_by p v true e some low = (omega arith, omega arith)
chain_by p v false e some low =
    let behind : front p < v = leb-false v (front p) (sym e) in
    block_by v (front p) (is_power_of_two (place p v)) (place p v == 2) some behind
    (λ _ other. let ne : place p v ≢ 2 = eqb-false (place p v) 2 other in omega (arith, behind, ne))

pub chain_below : (p : Plan) → IsPlan p → (v : ℕ) → 2 ≤ v → IsBelow v (chain_end p v)
chain_below p h v low = chain_by p v (nat_le v (front p)) refl (front_by_some p.kind p h) low

-- what is known of nodes across
abbrev AreAcross : Plan → ℕ → List ℕ → Type 0
AreAcross p v us = Each (λ u. IsBelow v u × (chain_end p v ≢ u)) us × Apart (λ a b. a ≢ b) us

across_by : (p : Plan) (v u : ℕ) (b : Bool) → u < v → b ≡ crosses p v u → Each (λ w. (IsBelow v w × (chain_end p v ≢ w)) × (w ≡ u)) (one_if b u)
across_by p v u true lt e =
    let parts = and_parts (nat_le 1 u) (not (u == chain_end p v)) (sym e) in
    let some : 1 ≤ u = leb-true 1 u parts.0 in
    let other : u ≢ chain_end p v = eqb-false u (chain_end p v) (not-true _ parts.1) in
    ((((some, lt), λ same. other (sym same)), refl), tt)
across_by p v u false lt e = tt

apart_one : (b : Bool) (u : ℕ) → Apart (λ x y. x ≢ y) (one_if b u)
apart_one true u = (tt, tt)
apart_one false u = tt

-- the nodes of two lists differ, where those of one are greater
apart_both : (xs ys : List ℕ) (m : ℕ) → Each (λ x. x < m) xs → Each (λ y. m ≤ y) ys → Each (λ x. Each (λ y. x ≢ y) ys) xs
apart_both xs ys m low high =
    each_map (λ x. x < m) (λ x. Each (λ y. x ≢ y) ys) xs
    (λ x lt. each_map (λ y. m ≤ y) (λ y. x ≢ y) ys (λ y le. λ e. absurd (omega (arith, lt, le, e))) high) low

abbrev IsKnown : Plan → ℕ → ℕ → ℕ → Type 0
IsKnown p v u w = (IsBelow v w × (chain_end p v ≢ w)) × (w ≡ u)

abbrev IsAcross : Plan → ℕ → ℕ → Type 0
IsAcross p v w = IsBelow v w × (chain_end p v ≢ w)

known_is : (p : Plan) (v u : ℕ) (us : List ℕ) → Each (IsKnown p v u) us → Each (IsAcross p v) us
known_is p v u us h = each_map (IsKnown p v u) (IsAcross p v) us (λ w k. k.0) h

good_three : (p : Plan) (v h : ℕ) → 1 ≤ h → 2 ≤ v → AreAcross p v (across p v (v - 3 * h) ++ across p v (v - 2 * h) ++ across p v (v - h))
good_three p v h some low =
    let a = across p v (v - 3 * h) in
    let b = across p v (v - 2 * h) in
    let c = across p v (v - h) in
    let first : Each (IsKnown p v (v - 3 * h)) a = across_by p v (v - 3 * h) (crosses p v (v - 3 * h)) (omega arith) refl in
    let second : Each (IsKnown p v (v - 2 * h)) b = across_by p v (v - 2 * h) (crosses p v (v - 2 * h)) (omega arith) refl in
    let third : Each (IsKnown p v (v - h)) c = across_by p v (v - h) (crosses p v (v - h)) (omega arith) refl in
    let a_low : Each (λ x. x < v - 2 * h) a =
    each_map (IsKnown p v (v - 3 * h)) (λ x. x < v - 2 * h) a (λ w k. let pos = k.0.0.0 in let is = k.1 in omega (arith, pos, is)) first in
    let b_high : Each (λ y. v - 2 * h ≤ y) b =
    each_map (IsKnown p v (v - 2 * h)) (λ y. v - 2 * h ≤ y) b (λ w k. let is = k.1 in omega (arith, is)) second in
    let a_lower : Each (λ x. x < v - h) a = each_map (λ x. x < v - 2 * h) (λ x. x < v - h) a (λ w k. omega (arith, k)) a_low in
    let b_low : Each (λ x. x < v - h) b =
    each_map (IsKnown p v (v - 2 * h)) (λ x. x < v - h) b (λ w k. let pos = k.0.0.0 in let is = k.1 in omega (arith, pos, is)) second in
    let c_high : Each (λ y. v - h ≤ y) c =
    each_map (IsKnown p v (v - h)) (λ y. v - h ≤ y) c (λ w k. let is = k.1 in omega (arith, is)) third in
    let ab : Apart (λ x y. x ≢ y) (a ++ b) =
    apart_append (λ x y. x ≢ y) a b (apart_one _ _) (apart_one _ _) (apart_both a b (v - 2 * h) a_low b_high) in
    let abc : Apart (λ x y. x ≢ y) ((a ++ b) ++ c) =
    apart_append (λ x y. x ≢ y) (a ++ b) c ab (apart_one _ _)
    (apart_both (a ++ b) c (v - h) (each_append (λ x. x < v - h) a b a_lower b_low) c_high) in (
      each_append (IsAcross p v) (a ++ b) c
          (each_append (IsAcross p v) a b (known_is p v (v - 3 * h) a first) (known_is p v (v - 2 * h) b second))
          (known_is p v (v - h) c third),
      abc,
    )

cross_by : (p : Plan) → IsPlan p → (v : ℕ) (b : Bool) → 2 ≤ v
    → AreAcross p v (cond b (across p v (v - 3 * last_block p) ++ across p v (v - 2 * last_block p) ++ across p v (v - last_block p)) [])
cross_by p h v true low = good_three p v (last_block p) (one-le-pow (p.levels - 1) 2 (omega arith)) low
cross_by p h v false low = (tt, tt)

good_busy : (p : Plan) → IsPlan p → (v : ℕ) → 2 ≤ v → AreGood v (busy_ends p v)
good_busy p h v low =
    let cross = cross_by p h v (nat_lt (p.nodes - last_block p) v) low in
    record {
      below = (chain_below p h v low, each_map (IsAcross p v) (IsBelow v) (cross_ends p v) (λ u k. k.0) cross.0);
      apart = (each_map (IsAcross p v) (λ u. chain_end p v ≢ u) (cross_ends p v) (λ u k. k.1) cross.0, cross.1);
    }

-- far cores and chain wakes

good_run : (v u s c : ℕ) → IsBelow v u → ((i : ℕ) → i < c → IsBelow v (s + i) × (u ≢ s + i)) → AreGood v (one_and_run u s c)
good_run v u s c h f =
    let run = rising_firsts v (λ i. s + i) c (λ i lt. (f i lt).0) (λ i j l m. omega (arith, l)) in
    record {
      below = (h, run.below);
      apart = (each_firsts (λ b. u ≢ b) (λ i. s + i) c (λ i lt. (f i lt).1), run.apart);
    }

along_by : (p : Plan) (v : ℕ) (b : Bool) → 2 ≤ v
    → AreGood v (cond b (one_and_run (v - 1) 1 (v - 2)) (one_and_run (v - 1) 2 (min (low_askers p) (v - 3))))
along_by p v true low =
    good_run v (v - 1) 1 (v - 2) (omega arith, omega arith) (λ i lt. ((omega arith, omega (arith, lt)), λ e. absurd (omega (arith, lt, e))))
along_by p v false low =
    good_run v (v - 1) 2 (min (low_askers p) (v - 3)) (omega arith, omega arith)
    (λ i lt. let few : i < v - 3 = omega (arith, lt) in ((omega arith, omega (arith, few)), λ e. absurd (omega (arith, few, e))))

-- f nodes on the path, n blocks, of which this is block k
hung_by : (v k f n : ℕ) (even last : Bool) → f < v → n + 3 ≤ f → k ≤ n
    → AreGood v (one_and_run (cond even 1 f) (cond even (f - k / 2 - cond last (f - 2 - n) 1) (2 + k / 2)) (cond last (f - 2 - n) 1))
hung_by v k f n true true behind long le =
    good_run v 1 (f - k / 2 - (f - 2 - n)) (f - 2 - n) (omega arith, omega arith)
    (λ i lt. ((omega (arith, lt), omega (arith, lt)), λ e. absurd (omega (arith, lt, e))))
hung_by v k f n true false behind long le =
    good_run v 1 (f - k / 2 - 1) 1 (omega arith, omega arith)
    (λ i lt. ((omega (arith, lt), omega (arith, lt)), λ e. absurd (omega (arith, lt, e))))
hung_by v k f n false true behind long le =
    good_run v f (2 + k / 2) (f - 2 - n) (omega arith, omega arith)
    (λ i lt. ((omega (arith, lt), omega (arith, lt)), λ e. absurd (omega (arith, lt, e))))
hung_by v k f n false false behind long le =
    good_run v f (2 + k / 2) 1 (omega arith, omega arith)
    (λ i lt. ((omega (arith, lt), omega (arith, lt)), λ e. absurd (omega (arith, lt, e))))

-- the path of a far core has three nodes more than there are blocks, where there is a node behind it
long_path : (n l f : ℕ) → 2 ^ l ≤ n → f ≡ n + 2 - 2 ^ (l - 2) → f < n → (l - 3) + 3 ≤ f
long_path n zero f most is lt = absurd (omega (arith, is, lt))
long_path n (suc zero) f most is lt = absurd (omega (arith, is, lt))
long_path n (suc (suc l)) f most is lt =
    let more : l < 2 ^ l = lt_pow l in
    let four : 2 ^ suc (suc l) ≡ 4 * 2 ^ l = omega arith in
    let down : suc (suc l) - 2 ≡ l = omega arith in
    let long : f ≡ n + 2 - 2 ^ l = rw down at is in
    omega (arith, most, long, more, four)

-- the place of a block's first node is a power of two below that which all blocks make together
block_of : (q l : ℕ) → 1 ≤ q → q < 2 ^ 32 → q < 2 ^ l → twos q < l
unfolding twos
block_of q l some small few = ⊎_elim (λ lt. lt)
    (λ ge.
    let set = (bit_at-trailing_zeros w32 q some small).1 in
    let clear = bit_at_above q l (trailing_zeros w32 q) few ge in
    absurd (let both : 1 ≡ 0 = sym set ∙ clear in cc))
    (cases_lt (trailing_zeros w32 q) l)

behind_by : (p : Plan) → IsPlan p → p.kind ≡ FarCore → (v : ℕ) (b : Bool) → 2 ≤ v → v ≤ p.nodes → front p < v
    → AreGood v (cond b (hung_ends p (twos (place p v))) ((v - 1) ∷ []))
behind_by p h is v true low high behind =
    let f : front p ≡ p.nodes + 2 - 2 ^ (p.levels - 2) = ap (λ k. front_by k p) is in
    let few = h.few in
    let k = twos (place p v) in
    let one : k < p.levels - 2 = block_of (place p v) (p.levels - 2) (omega arith) (omega arith) (omega (arith, f, quarter_within p h)) in
    hung_by v k (front p) (blocks p) (k % 2 == 0) (k == blocks p) behind
    (long_path p.nodes p.levels (front p) h.levels.at_most f (omega arith)) (omega (arith, one))
behind_by p h is v false low high behind = one v (v - 1) (omega arith, omega arith)

far_by : (p : Plan) → IsPlan p → p.kind ≡ FarCore → (v : ℕ) (b : Bool) → b ≡ nat_le v (front p) → 2 ≤ v → v ≤ p.nodes
    → AreGood v (cond b (along_ends p v) (behind_ends p v))
far_by p h is v true e low high = along_by p v (is_high_asker p v) low
far_by p h is v false e low high = behind_by p h is v (is_power_of_two (place p v)) low high (leb-false v (front p) (sym e))

good_wake : (v : ℕ) → 2 ≤ v → AreGood v (wake_ends v)
good_wake v low = good_run v 1 3 (v - 3) (omega arith, omega arith) (λ i lt. ((omega arith, omega (arith, lt)), λ e. absurd (omega (arith, e))))

good_by : (k : Kind) (p : Plan) → IsPlan p → p.kind ≡ k → (v : ℕ) → 2 ≤ v → v ≤ p.nodes → AreGood v (ends_by k p v)
good_by Path p h is v low high = one v (v - 1) (omega arith, omega arith)
good_by Ring p h is v low high =
    good_ring p v ((v == p.nodes) && nat_lt 2 v) low (λ e. ltb-true 2 v (and_parts (v == p.nodes) (nat_lt 2 v) e).1)
good_by Star p h is v low high = one v 1 (omega arith, omega arith)
good_by Grid p h is v low high = good_rows p h v low (has_above p v) (has_beside p v) (λ e. e) (λ e. e)
good_by Complete p h is v low high = rising_firsts v (λ i. i + 1) (v - 1) (λ i lt. (omega arith, omega arith)) (λ i j l m. omega arith)
good_by Tree p h is v low high = good_picked p h v low
good_by Random p h is v low high = good_picked p h v low
good_by Road p h is v low high =
    good_rows p h v low (goes_up p v) (goes_beside p v) (λ e. (and_parts (has_above p v) _ e).0) (λ e. (and_parts (has_beside p v) _ e).0)
good_by Forest p h is v low high = good_picked p h v low
good_by Slow p h is v low high = one v (chain_end p v) (chain_below p h v low)
good_by Busy p h is v low high = good_busy p h v low
good_by FarCore p h is v low high = far_by p h is v (nat_le v (front p)) refl low high
good_by ChainWake p h is v low high = good_wake v low

pub good_ends : (p : Plan) → IsPlan p → (v : ℕ) → 2 ≤ v → v ≤ p.nodes → AreGood v (smaller_ends p v)
unfolding smaller_ends
good_ends p h v low high = good_by p.kind p h refl v low high
