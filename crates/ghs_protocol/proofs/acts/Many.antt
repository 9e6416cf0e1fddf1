-- At least so many numbers have something: two sets without a common one, and no more than there are nodes.
use Rattle.std.proofs.Common.{◌≡◌, ◌≢◌, ℕ, zero, suc, ◌^◌, ◌≤◌, ◌⊎◌, inl, inr, Bool, true, false, not, ◌==◌, List, [], ◌∷◌, ◌++◌, length, refl, sym, subst, arith, length-append, eqb-true}
use Rattle.std.proofs.lemmas.Bool.{eqb-false}
use Rattle.std.specs.List.{All, AllPairs, filter}
use Rattle.std.proofs.lemmas.List.Elements.{All-nil, All-cons, All-head, All-tail, All-append, All-weaker}
use Rattle.std.proofs.lemmas.List.Kept.{AllPairs-cons, AllPairs-filter}
use Rattle.peer_network.specs.Network.{Network, InNetwork}
use Rattle.ghs_protocol.specs.Interleavings.{HaveAtLeast}

abbrev pub Differ : ℕ → ℕ → Type 0
Differ x y = x ≢ y

pub nothing_apart : AllPairs Differ []
nothing_apart = λ i j d lt lt'. absurd (omega arith)

pub one_apart : (x : ℕ) → AllPairs Differ (x ∷ [])
one_apart x = AllPairs-cons Differ x [] (All-nil (Differ x)) nothing_apart

rest_apart : (x : ℕ) (xs : List ℕ) → AllPairs Differ (x ∷ xs) → AllPairs Differ xs
rest_apart x xs r = λ i j d lt within. r (suc i) (suc j) d (omega arith) (omega arith)

first_apart : (x : ℕ) (xs : List ℕ) → AllPairs Differ (x ∷ xs) → All (Differ x) xs
first_apart x xs r = λ i d lt. r 0 (suc i) d (omega arith) (omega arith)

append_apart : {P Q : ℕ → Type 0} (a b : List ℕ) → ((x : ℕ) → P x → Q x → ⊥) →
    AllPairs Differ a → All P a →
    AllPairs Differ b → All Q b →
    AllPairs Differ (a ++ b)
append_apart [] b no_both r p s q = s
append_apart {P} {Q} (x ∷ a) b no_both r p s q =
    AllPairs-cons Differ x (a ++ b) (All-append (Differ x) a b (first_apart x a r) (All-weaker Q (Differ x) other b q))
    (append_apart a b no_both (rest_apart x a r) (All-tail P x a p) s q)
  where
    other : (y : ℕ) → Q y → x ≢ y
    other y h e = no_both x (All-head P x a p) (subst Q (sym e) h)

-- two sets of 2 ^ n nodes that have none in common
pub doubled : {P Q : ℕ → Type 0} (n : ℕ) → ((x : ℕ) → P x → Q x → ⊥) →
    HaveAtLeast (2 ^ n) P →
    HaveAtLeast (2 ^ n) Q →
    HaveAtLeast (2 ^ (suc n)) (λ x. P x ⊎ Q x)
doubled {P} {Q} n no_both a b = record {
  list = a.list ++ b.list;
  once = append_apart a.list b.list no_both a.once a.each b.once b.each;
  each =
      All-append (λ x. P x ⊎ Q x) a.list b.list (All-weaker P (λ x. P x ⊎ Q x) (λ x h. inl h) a.list a.each)
      (All-weaker Q (λ x. P x ⊎ Q x) (λ x h. inr h) b.list b.each);
  many = let l = length-append a.list b.list in omega (arith, l, a.many, b.many);
}

-- the same numbers have something weaker
pub many_as : {P Q : ℕ → Type 0} (n : ℕ) → ((x : ℕ) → P x → Q x) → HaveAtLeast n P → HaveAtLeast n Q
many_as {P} {Q} n h a = record { list = a.list; once = a.once; each = All-weaker P Q h a.list a.each; many = a.many }

pub no_more : {P : ℕ → Type 0} (m n : ℕ) → m ≤ n → HaveAtLeast n P → HaveAtLeast m P
no_more m n le a = record { list = a.list; once = a.once; each = a.each; many = omega (arith, le, a.many) }

-- different numbers from 1 to n are at most n
abbrev From1 : ℕ → ℕ → Type 0
From1 n x = (1 ≤ x) × (x ≤ n)

abbrev other_than : ℕ → ℕ → Bool
other_than k x = not (x == k)

all_stay : (k : ℕ) (xs : List ℕ) → All (Differ k) xs → filter (other_than k) xs ≡ xs
all_stay k [] h = refl
all_stay k (x ∷ xs) h = go (all_stay k xs (All-tail (Differ k) x xs h)) (x == k) refl
  where
    go : filter (other_than k) xs ≡ xs → (b : Bool) → (x == k) ≡ b → filter (other_than k) (x ∷ xs) ≡ x ∷ xs
    go rest true e = absurd (All-head (Differ k) x xs h (sym (eqb-true x k e)))
    go rest false e = rw (e, rest) refl

one_less : (k : ℕ) (xs : List ℕ) → AllPairs Differ xs → length xs ≤ suc (length (filter (other_than k) xs))
one_less k [] r = omega arith
one_less k (x ∷ xs) r = go (one_less k xs (rest_apart x xs r)) (x == k) refl
  where
    go : length xs ≤ suc (length (filter (other_than k) xs)) → (b : Bool) → (x == k) ≡ b →
        length (x ∷ xs) ≤ suc (length (filter (other_than k) (x ∷ xs)))
    go rest true e =
        let whole = all_stay k xs (subst (λ y. All (Differ y) xs) (eqb-true x k e) (first_apart x xs r)) in
        rw (e, whole) (omega arith)
    go rest false e = rw e (omega (arith, rest))

lower : (n : ℕ) (xs : List ℕ) → All (From1 (suc n)) xs → All (From1 n) (filter (other_than (suc n)) xs)
lower n [] h = All-nil (From1 n)
lower n (x ∷ xs) h = go (lower n xs (All-tail (From1 (suc n)) x xs h)) (x == suc n) refl
  where
    go : All (From1 n) (filter (other_than (suc n)) xs) → (b : Bool) → (x == suc n) ≡ b →
        All (From1 n) (filter (other_than (suc n)) (x ∷ xs))
    go rest true e = rw e rest
    go rest false e =
        let z = All-head (From1 (suc n)) x xs h in
        let ne = eqb-false x (suc n) e in
        rw e (All-cons (From1 n) x (filter (other_than (suc n)) xs) (z.0, omega (arith, z.1, ne)) rest)

pub few_apart : (n : ℕ) (xs : List ℕ) → AllPairs Differ xs → All (λ x. (1 ≤ x) × (x ≤ n)) xs → length xs ≤ n
few_apart zero [] r h = omega arith
few_apart zero (x ∷ xs) r h = absurd (let z = All-head (From1 zero) x xs h in omega (arith, z.0, z.1))
few_apart (suc n) xs r h =
    let rest = few_apart n (filter (other_than (suc n)) xs) (AllPairs-filter Differ (other_than (suc n)) xs r) (lower n xs h) in
    let one = one_less (suc n) xs r in
    omega (arith, rest, one)

-- nodes are no more than the network has
pub few_nodes : {P : ℕ → Type 0} (g : Network) (n : ℕ) → ((x : ℕ) → P x → InNetwork g x) → HaveAtLeast n P → n ≤ g.count
few_nodes {P} g n h a =
    let all = few_apart g.count a.list a.once
    (All-weaker P (λ x. (1 ≤ x) × (x ≤ g.count)) (λ x p. let z = h x p in (z.some, z.node)) a.list a.each) in
    omega (arith, all, a.many)
