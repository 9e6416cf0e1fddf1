-- How many links a node has whose links a seed picks: no more than there are nodes before it, and one at least in a tree and a
-- random network.
use Rattle.std.proofs.Common.{◌≡◌, ◌∙◌, ℕ, zero, suc, ◌+◌, ◌-◌, ◌*◌, ◌/◌, ◌%◌, ◌<◌, ◌≤◌, ◌⊎◌, ⊎_elim, max, Bool, true, false, refl, sym, ap, subst, arith}
use Rattle.std.proofs.Math.Nat.{div-mul-le_self, mul-le-mul_left, mul-le-mul_right, div-le_of_le-mul, zero-div}
use Rattle.std.proofs.lemmas.Nat.{div-mul-add, div_below, le-div}
use Rattle.ghs_make.specs.Ends.{links_among, links_by, spare_pairs}
use Rattle.ghs_make.specs.Plan.{IsPlan, TakesLinks, pairs}
use Rattle.ghs_make.specs.declared.kind.Kind.{Kind}
use Rattle.ghs_make.specs.declared.kind.Kind.TheVariants.{Path, Ring, Star, Grid, Complete, Tree, Random, Road, Forest, Slow, Busy, FarCore, ChainWake}
use Rattle.ghs_make.specs.declared.plan.Plan.{Plan}

-- a sum's quotient
div_step : (a b d k : ℕ) → 0 < d → b ≤ d * k → (a + b) / d ≤ a / d + k
div_step a b d k some le =
    let whole : d * (a / d) + a % d ≡ a = omega arith in
    let rest : a % d < d = omega arith in
    let below : a + b < suc (a / d + k) * d = omega (arith, whole, rest, le) in
    let less : (a + b) / d < suc (a / d + k) = div_below (a + b) d (suc (a / d + k)) some below in
    omega (arith, less)

pub div_mono : (a b d : ℕ) → 0 < d → a ≤ b → a / d ≤ b / d
div_mono a b d some le =
    le-div (a / d) b d some (let low : a / d * d ≤ a = div-mul-le_self a d in omega (arith, low, le))

-- one node more makes room for as many links more as there are nodes before it, but for one
spare_more : (u : ℕ) → spare_pairs (suc (suc u)) ≡ spare_pairs (suc u) + u
spare_more zero = refl
spare_more (suc u) =
    let one : suc (suc (suc u)) - 1 ≡ suc (suc u) = omega arith in
    let two : suc (suc (suc u)) - 2 ≡ suc u = omega arith in
    let three : suc (suc u) - 1 ≡ suc u = omega arith in
    let four : suc (suc u) - 2 ≡ u = omega arith in
    let e : suc (suc u) * suc u ≡ suc u * u + 2 * suc u = omega arith in
    let half : suc (suc u) * suc u / 2 ≡ suc u * u / 2 + suc u = omega (arith, e) in
    rw (one, two, three, four) half

spare_within : (n links : ℕ) → links ≤ pairs n → links - (n - 1) ≤ spare_pairs n
spare_within zero links le = let none : links ≤ 0 = le in omega arith
spare_within (suc zero) links le = let none : links ≤ 0 = le in omega arith
spare_within (suc (suc n)) links le =
    let one : suc (suc n) - 1 ≡ suc n = omega arith in
    let two : suc (suc n) - 2 ≡ n = omega arith in
    let e : suc (suc n) * suc n ≡ suc n * n + 2 * suc n = omega arith in
    let half : suc (suc n) * suc n / 2 ≡ suc n * n / 2 + suc n = omega (arith, e) in
    let few : links ≤ suc (suc n) * suc n / 2 = rw one at le in
    let goal : links - suc n ≤ suc n * n / 2 = omega (arith, half, few) in
    rw (one, two) goal

-- what is known of the links by two nodes, one after the other
pub record StepsUp (more less room : ℕ) : Type 0 where
  pub mono : less ≤ more
  pub within : more ≤ less + room

random_steps : (p : Plan) (u : ℕ) → p.links ≤ pairs p.nodes → StepsUp (links_by Random p (suc (suc u))) (links_by Random p (suc u) + 1) u
random_steps p u le =
    let m = p.links - (p.nodes - 1) in
    let d = max 1 (spare_pairs p.nodes) in
    let some : 0 < d = omega arith in
    let few : m ≤ d = omega (arith, spare_within p.nodes p.links le) in
    let e : m * spare_pairs (suc (suc u)) ≡ m * spare_pairs (suc u) + m * u = rw (spare_more u) (omega arith) in
    let room : m * u ≤ d * u = mul-le-mul_right u few in
    let up : (m * spare_pairs (suc u) + m * u) / d ≤ m * spare_pairs (suc u) / d + u = div_step (m * spare_pairs (suc u)) (m * u) d u some room in
    let low : m * spare_pairs (suc u) / d ≤ (m * spare_pairs (suc u) + m * u) / d = div_mono (m * spare_pairs (suc u)) _ d some (omega arith) in
    record {
      mono = rw e (omega (arith, low));
      within = rw e (omega (arith, up));
    }

forest_steps : (p : Plan) (u : ℕ) → p.links ≤ p.nodes - 1 → StepsUp (links_by Forest p (suc (suc u))) (links_by Forest p (suc u)) 1
forest_steps p u le =
    let d = max 1 (p.nodes - 1) in
    let some : 0 < d = omega arith in
    let one : suc (suc u) - 1 ≡ suc u = omega arith in
    let two : suc u - 1 ≡ u = omega arith in
    let e : p.links * suc u ≡ p.links * u + p.links = omega arith in
    let up : (p.links * u + p.links) / d ≤ p.links * u / d + 1 = div_step (p.links * u) p.links d 1 some (omega arith) in
    let low : p.links * u / d ≤ (p.links * u + p.links) / d = div_mono (p.links * u) _ d some (omega arith) in
    record {
      mono = rw (one, two, e) low;
      within = rw (one, two, e) up;
    }

fits_by : (k : Kind) (p : Plan) (u : ℕ) → TakesLinks k p.nodes p.links → links_by k p (suc (suc u)) ≤ links_by k p (suc u) + suc u
fits_by Tree p u h = omega arith
fits_by Random p u h = let s = (random_steps p u h.1).within in omega (arith, s)
fits_by Forest p u h = let s = (forest_steps p u h).within in omega (arith, s)
fits_by Path p u h = omega arith
fits_by Ring p u h = omega arith
fits_by Star p u h = omega arith
fits_by Grid p u h = omega arith
fits_by Complete p u h = omega arith
fits_by Road p u h = omega arith
fits_by Slow p u h = omega arith
fits_by Busy p u h = omega arith
fits_by FarCore p u h = omega arith
fits_by ChainWake p u h = omega arith

-- no more parts than nodes before
pub parts_fit : (p : Plan) → IsPlan p → (v : ℕ) → 2 ≤ v → links_among p v ≤ links_among p (v - 1) + (v - 1)
unfolding links_among
parts_fit p h zero low = absurd (omega arith)
parts_fit p h (suc zero) low = absurd (omega arith)
parts_fit p h (suc (suc u)) low =
    let one : suc (suc u) - 1 ≡ suc u = omega arith in
    rw one (fits_by p.kind p u h.links)

mono_kind : (k : Kind) (p : Plan) (u : ℕ) → TakesLinks k p.nodes p.links → links_by k p (suc u) ≤ links_by k p (suc (suc u))
mono_kind Tree p u h = omega arith
mono_kind Random p u h = let s = (random_steps p u h.1).mono in omega (arith, s)
mono_kind Forest p u h = (forest_steps p u h).mono
mono_kind Path p u h = omega arith
mono_kind Ring p u h = omega arith
mono_kind Star p u h = omega arith
mono_kind Grid p u h = omega arith
mono_kind Complete p u h = omega arith
mono_kind Road p u h = omega arith
mono_kind Slow p u h = omega arith
mono_kind Busy p u h = omega arith
mono_kind FarCore p u h = omega arith
mono_kind ChainWake p u h = omega arith

-- more nodes have no fewer links
pub mono_by : (p : Plan) → IsPlan p → (u : ℕ) → links_among p (u + 1) ≤ links_among p (u + 2)
unfolding links_among
mono_by p h u =
    let one : u + 1 ≡ suc u = omega arith in
    let two : u + 2 ≡ suc (suc u) = omega arith in
    rw (one, two) (mono_kind p.kind p u h.links)

some_kind : (k : Kind) (p : Plan) (u : ℕ) → TakesLinks k p.nodes p.links → (k ≡ Tree) ⊎ (k ≡ Random) →
    links_by k p (suc u) + 1 ≤ links_by k p (suc (suc u))
some_kind Tree p u h is = omega arith
some_kind Random p u h is = (random_steps p u h.1).mono
some_kind Forest p u h is = absurd (⊎_elim (λ e. cc) (λ e. cc) is)
some_kind Path p u h is = absurd (⊎_elim (λ e. cc) (λ e. cc) is)
some_kind Ring p u h is = absurd (⊎_elim (λ e. cc) (λ e. cc) is)
some_kind Star p u h is = absurd (⊎_elim (λ e. cc) (λ e. cc) is)
some_kind Grid p u h is = absurd (⊎_elim (λ e. cc) (λ e. cc) is)
some_kind Complete p u h is = absurd (⊎_elim (λ e. cc) (λ e. cc) is)
some_kind Road p u h is = absurd (⊎_elim (λ e. cc) (λ e. cc) is)
some_kind Slow p u h is = absurd (⊎_elim (λ e. cc) (λ e. cc) is)
some_kind Busy p u h is = absurd (⊎_elim (λ e. cc) (λ e. cc) is)
some_kind FarCore p u h is = absurd (⊎_elim (λ e. cc) (λ e. cc) is)
some_kind ChainWake p u h is = absurd (⊎_elim (λ e. cc) (λ e. cc) is)

-- a node of a tree or a random network has a link to a smaller node
pub some_by : (p : Plan) → IsPlan p → (v : ℕ) → 2 ≤ v → (p.kind ≡ Tree) ⊎ (p.kind ≡ Random) → 1 ≤ links_among p v - links_among p (v - 1)
unfolding links_among
some_by p h zero low is = absurd (omega arith)
some_by p h (suc zero) low is = absurd (omega arith)
some_by p h (suc (suc u)) low is =
    let one : suc (suc u) - 1 ≡ suc u = omega arith in
    let more : links_by p.kind p (suc u) + 1 ≤ links_by p.kind p (suc (suc u)) = some_kind p.kind p u h.links is in
    rw one (omega (arith, more))

-- the first node has no link to a smaller one, and all together have as many as are asked for
none_by : (k : Kind) (p : Plan) → links_by k p 1 ≡ 0
none_by Tree p = refl
none_by Random p =
    let none : (p.links - (p.nodes - 1)) * spare_pairs 1 ≡ 0 = omega arith in
    let e : (p.links - (p.nodes - 1)) * spare_pairs 1 / max 1 (spare_pairs p.nodes) ≡ 0 =
    ap (λ x. x / max 1 (spare_pairs p.nodes)) none ∙ zero-div (max 1 (spare_pairs p.nodes)) in
    omega (arith, e)
none_by Forest p = let none : p.links * (1 - 1) ≡ 0 = omega arith in ap (λ x. x / max 1 (p.nodes - 1)) none ∙ zero-div (max 1 (p.nodes - 1))
none_by Path p = refl
none_by Ring p = refl
none_by Star p = refl
none_by Grid p = refl
none_by Complete p = refl
none_by Road p = refl
none_by Slow p = refl
none_by Busy p = refl
none_by FarCore p = refl
none_by ChainWake p = refl

pub none_among : (p : Plan) → links_among p 1 ≡ 0
unfolding links_among
none_among p = none_by p.kind p

whole_part : (m s : ℕ) → m ≤ s → m * s / max 1 s ≡ m
whole_part m zero le = let none : m ≡ 0 = omega (arith, le) in rw none refl
whole_part m (suc s) le =
    let same : max 1 (suc s) ≡ suc s = omega arith in
    let e : m * suc s ≡ m * suc s + 0 = omega arith in
    rw same (ap (λ x. x / suc s) e ∙ div-mul-add m (suc s) 0 (omega arith))

random_whole : (p : Plan) → 1 ≤ p.nodes → TakesLinks Random p.nodes p.links → links_by Random p p.nodes ≡ p.links
random_whole p some h =
    let m = p.links - (p.nodes - 1) in
    let whole : m * spare_pairs p.nodes / max 1 (spare_pairs p.nodes) ≡ m = whole_part m (spare_pairs p.nodes) (spare_within p.nodes p.links h.1) in
    let least = h.0 in
    omega (arith, whole, least)

forest_whole : (p : Plan) → TakesLinks Forest p.nodes p.links → links_by Forest p p.nodes ≡ p.links
forest_whole p h = whole_part p.links (p.nodes - 1) h

pub random_all : (p : Plan) → IsPlan p → p.kind ≡ Random → links_among p p.nodes ≡ p.links
unfolding links_among
random_all p h is =
    ap (λ k. links_by k p p.nodes) is ∙ random_whole p h.some (subst (λ k. TakesLinks k p.nodes p.links) is h.links)

pub forest_all : (p : Plan) → IsPlan p → p.kind ≡ Forest → links_among p p.nodes ≡ p.links
unfolding links_among
forest_all p h is =
    ap (λ k. links_by k p p.nodes) is ∙ forest_whole p (subst (λ k. TakesLinks k p.nodes p.links) is h.links)

-- a node of a forest has one link to a smaller node at most
pub forest_few : (p : Plan) → IsPlan p → p.kind ≡ Forest → (u : ℕ) → links_among p (u + 2) ≤ links_among p (u + 1) + 1
unfolding links_among
forest_few p h is u =
    let one : u + 1 ≡ suc u = omega arith in
    let two : u + 2 ≡ suc (suc u) = omega arith in
    let few : links_by Forest p (suc (suc u)) ≤ links_by Forest p (suc u) + 1 =
    (forest_steps p u (subst (λ k. TakesLinks k p.nodes p.links) is h.links)).within in
    rw (one, two, is) few
