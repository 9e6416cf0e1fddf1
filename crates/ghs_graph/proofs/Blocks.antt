-- Where each node's block of ports lies, and each port in it.
use Rattle.std.proofs.Common.{◌≡◌, ◌≢◌, ℕ, zero, suc, ◌<◌, ◌≤◌, ◌+◌, ⊎_elim, List, [], ◌∷◌, ◌++◌, length, take, get_or, set, ◌∙◌, ap, arith, add-one}
use Rattle.std.proofs.lemmas.Bool.{cases_eq, cases_lt}
use Rattle.std.proofs.lemmas.List.{get_or_default, length_push, get_or_push, get_or_append_left}
use Rattle.ghs_graph.specs.declared.key.Key.{Key}
use Rattle.ghs_graph.specs.Links.{AreAmong}
use Rattle.ghs_graph.specs.Ports.{degree}
use Rattle.ghs_graph.specs.declared.layout.Places.{Places}
use Rattle.ghs_graph.specs.Layout.{AreDegrees, AreBlocks, ArePlaced}
use Rattle.ghs_graph.specs.Key.{no_key}
use Rattle.ghs_graph.proofs.lemmas.Degrees.{one_counted}
use Rattle.ghs_graph.proofs.lemmas.Ports.{among_at}

-- Places.

-- the counts before a link are the places of its ports
pub one_placed : (n : ℕ) (ks : List Key) (cs : List ℕ) (i : ℕ) (x y : ℕ) (qs new : List Places) → AreAmong n ks → i < length ks
    → AreDegrees n (take i ks) cs → x ≡ get_or cs (get_or ks i no_key).a x → y ≡ get_or cs (get_or ks i no_key).b y → ArePlaced ks i qs
    → new ≡ qs ++ record { a = x; b = y } ∷ []
    → AreDegrees n (take (i + 1) ks) (set (set cs (get_or ks i no_key).a (x + 1)) (get_or ks i no_key).b (y + 1)) × ArePlaced ks (i + 1) new
one_placed n ks cs i x y qs new among lt g ex ey placed e = (
  one_counted n ks cs i no_key x y among lt g x_is y_is,
  rw e (record {
    count = length_push qs q ∙ ap (λ m. m + 1) placed.count;
    at_a = λ m ml. ⊎_elim
        (λ (h : m < i). ap (λ (p : Places). p.a) (old m h) ∙ placed.at_a m h)
        (λ ge. let z : m ≡ i = omega arith in rw z (ap (λ (p : Places). p.a) newest ∙ x_is ∙ g.each k.a a_le))
        (cases_lt m i);
    at_b = λ m ml. ⊎_elim
        (λ (h : m < i). ap (λ (p : Places). p.b) (old m h) ∙ placed.at_b m h)
        (λ ge. let z : m ≡ i = omega arith in rw z (ap (λ (p : Places). p.b) newest ∙ y_is ∙ g.each k.b (among_at n ks i no_key among lt).2))
        (cases_lt m i);
  }),
)
  where
    k : Key
    k = get_or ks i no_key

    q : Places
    q = record { a = x; b = y }

    none : Places
    none = record { a = 0; b = 0 }

    a_le : k.a ≤ n
    a_le = let r = among_at n ks i no_key among lt in omega (arith, r.1, r.2)

    x_is : x ≡ get_or cs k.a 0
    x_is = ex ∙ get_or_default cs k.a x 0 (omega (arith, a_le, g.count))

    y_is : y ≡ get_or cs k.b 0
    y_is = ey ∙ get_or_default cs k.b y 0 (let r = among_at n ks i no_key among lt in omega (arith, r.2, g.count))

    old : (m : ℕ) → m < i → get_or (qs ++ q ∷ []) m none ≡ get_or qs m none
    old m h = get_or_append_left qs (q ∷ []) none m (omega (arith, placed.count))

    newest : get_or (qs ++ q ∷ []) i none ≡ q
    newest = get_or_push qs q none i placed.count

-- Blocks.

pub blocks_up : (n : ℕ) (ks : List Key) (ss : List ℕ) → AreBlocks n ks ss → (u w : ℕ) → u < w → w ≤ n + 1
    → get_or ss u 0 + degree ks u ≤ get_or ss w 0
blocks_up n ks ss b u zero lt le = absurd (omega arith)
blocks_up n ks ss b u (suc w) lt le =
    let h : get_or ss (suc w) 0 ≡ get_or ss w 0 + degree ks w = rw (← add-one w) (b.next w (omega arith)) in
    ⊎_elim
    (λ (e : u ≡ w). omega (arith, h, ap (λ x. get_or ss x 0 + degree ks x) e))
    (λ ne. omega (arith, h, blocks_up n ks ss b u w (omega arith) (omega arith)))
    (cases_eq u w)

-- places of different nodes differ
pub places_apart : (n : ℕ) (ks : List Key) (ss : List ℕ) → AreBlocks n ks ss → (u v i j : ℕ) → u ≤ n → v ≤ n → u ≢ v → i < degree ks u
    → j < degree ks v → get_or ss u 0 + i ≢ get_or ss v 0 + j
places_apart n ks ss b u v i j ul vl ne il jl e = ⊎_elim
    (λ (lt : u < v). let h = blocks_up n ks ss b u v lt (omega arith) in absurd (omega (arith, h)))
    (λ ge. let h = blocks_up n ks ss b v u (omega arith) (omega arith) in absurd (omega (arith, h)))
    (cases_lt u v)

pub place_in : (n : ℕ) (ks : List Key) (ss : List ℕ) → AreBlocks n ks ss → (u i : ℕ) → u ≤ n → i < degree ks u
    → get_or ss u 0 + i < get_or ss (n + 1) 0
place_in n ks ss b u i ul il = let h = blocks_up n ks ss b u (n + 1) (omega arith) (omega arith) in omega (arith, h)
