-- What sets of links join: ways put together, sets compared, and one more link.
use Rattle.std.proofs.Common.{◌≡◌, ℕ, ◌<◌, ◌≤◌, ◌⊎◌, inl, inr, ⊎_elim, Bool, true, ◌==◌, ◌&&◌, List, [], ◌∷◌, refl, subst, arith}
use Rattle.std.specs.List.{Contains, filter}
use Rattle.std.specs.Bool.{Decides}
use Rattle.std.proofs.lemmas.Bool.{cases_Bool, both_ways}
use Rattle.std.proofs.lemmas.List.Elements.{All-contains}
use Rattle.std.proofs.lemmas.Bool.Decides.{Decides-like, Decides-eqb, Decides-or, Decides-and}
use Rattle.ghs_graph.specs.Computing.{joins}
use Rattle.ghs_graph.specs.declared.key.Key.{Key}
use Rattle.ghs_graph.specs.Links.{Joined, Same, Over, Back, links, AreAmong}
use Rattle.ghs_graph.proofs.lemmas.Members.{nothing_in, first_in, later_in, in_cases, in_filter, filter_has}

-- Ways.

pub joined_then : {S : Key → Type 0} {u v w : ℕ} → Joined S u v → Joined S v w → Joined S u w
joined_then Same rest = rest
joined_then (Over k s way) rest = Over k s (joined_then way rest)
joined_then (Back k s way) rest = Back k s (joined_then way rest)

pub joined_back : {S : Key → Type 0} {u v : ℕ} → Joined S u v → Joined S v u
joined_back Same = Same
joined_back (Over k s way) = joined_then (joined_back way) (Back k s Same)
joined_back (Back k s way) = joined_then (joined_back way) (Over k s Same)

-- a set within another joins no more
pub joined_within : {S T : Key → Type 0} {u v : ℕ} → ((k : Key) → S k → T k) → Joined S u v → Joined T u v
joined_within f Same = Same
joined_within f (Over k s way) = Over k (f k s) (joined_within f way)
joined_within f (Back k s way) = Back k (f k s) (joined_within f way)

-- where T joins the ends of each link of S, it joins all that S joins
pub joined_through : {S T : Key → Type 0} {u v : ℕ} → ((k : Key) → S k → Joined T k.a k.b) → Joined S u v → Joined T u v
joined_through f Same = Same
joined_through f (Over k s way) = joined_then (f k s) (joined_through f way)
joined_through f (Back k s way) = joined_then (joined_back (f k s)) (joined_through f way)

-- One more link.

-- joined by S, or by S and once over the link e
abbrev pub JoinedOver : (Key → Type 0) → Key → ℕ → ℕ → Type 0
JoinedOver S e u v = Joined S u v ⊎ ((Joined S u e.a × Joined S e.b v) ⊎ (Joined S u e.b × Joined S e.a v))

extend : (S : Key → Type 0) (e : Key) {u v w : ℕ} → ((x : ℕ) → Joined S v x → Joined S u x) → JoinedOver S e v w → JoinedOver S e u w
extend S e {w = w} f (inl way) = inl (f w way)
extend S e f (inr (inl p)) = inr (inl (f e.a p.0, p.1))
extend S e f (inr (inr p)) = inr (inr (f e.b p.0, p.1))

over_new : (S : Key → Type 0) (e : Key) {w : ℕ} → JoinedOver S e e.b w → JoinedOver S e e.a w
over_new S e (inl way) = inr (inl (Same, way))
over_new S e (inr (inl p)) = inr (inl (Same, p.1))
over_new S e (inr (inr p)) = inl p.1

back_new : (S : Key → Type 0) (e : Key) {w : ℕ} → JoinedOver S e e.a w → JoinedOver S e e.b w
back_new S e (inl way) = inr (inr (Same, way))
back_new S e (inr (inl p)) = inl p.1
back_new S e (inr (inr p)) = inr (inr (Same, p.1))

-- T has the links of S, and e besides
pub one_more : (S T : Key → Type 0) (e : Key) {u w : ℕ} → ((k : Key) → T k → S k ⊎ (e ≡ k)) → Joined T u w → JoinedOver S e u w
one_more S T e f Same = inl Same
one_more S T e {w = w} f (Over k s way) = ⊎_elim
    (λ o. extend S e (λ x rest. Over k o rest) (one_more S T e f way))
    (λ q. (subst (λ (x : Key). JoinedOver S e x.b w → JoinedOver S e x.a w) q (over_new S e)) (one_more S T e f way))
    (f k s)
one_more S T e {w = w} f (Back k s way) = ⊎_elim
    (λ o. extend S e (λ x rest. Back k o rest) (one_more S T e f way))
    (λ q. (subst (λ (x : Key). JoinedOver S e x.a w → JoinedOver S e x.b w) q (back_new S e)) (one_more S T e f way))
    (f k s)

pub from_one_more : (S T : Key → Type 0) (e : Key) {u w : ℕ} → ((k : Key) → S k → T k) → T e → JoinedOver S e u w → Joined T u w
from_one_more S T e f t (inl way) = joined_within f way
from_one_more S T e f t (inr (inl p)) = joined_then (joined_within f p.0) (Over e t (joined_within f p.1))
from_one_more S T e f t (inr (inr p)) = joined_then (joined_within f p.0) (Back e t (joined_within f p.1))

-- a node is joined with nodes alone
pub joined_nodes : (n : ℕ) (ks : List Key) {v u : ℕ} → AreAmong n ks → 1 ≤ v → v ≤ n → Joined (links ks) v u → (1 ≤ u) × (u ≤ n)
joined_nodes n ks among low high Same = (low, high)
joined_nodes n ks among low high (Over k s way) =
    let r = All-contains (λ (j : Key). (1 ≤ j.a) × (j.a < j.b) × (j.b ≤ n)) ks k among s in joined_nodes n ks among (omega (arith, r.0, r.1)) r.2 way
joined_nodes n ks among low high (Back k s way) =
    let r = All-contains (λ (j : Key). (1 ≤ j.a) × (j.a < j.b) × (j.b ≤ n)) ks k among s in joined_nodes n ks among r.0 (omega (arith, r.1, r.2)) way

-- Whether links of a list join two nodes.

pub joined_by_none : {S : Key → Type 0} → ((k : Key) → S k → ⊥) → {u v : ℕ} → Joined S u v → u ≡ v
joined_by_none none Same = refl
joined_by_none none (Over k s way) = absurd (none k s)
joined_by_none none (Back k s way) = absurd (none k s)

pub joins_tells : (ks : List Key) (u v : ℕ) → Decides (joins ks u v) (Joined (links ks) u v)
joins_tells [] u v = Decides-like (u == v) (λ e. subst (λ x. Joined (links []) u x) e Same) (joined_by_none nothing_in) (Decides-eqb u v)
joins_tells (k ∷ ks) u v = Decides-like (joins (k ∷ ks) u v)
    (from_one_more (links ks) (links (k ∷ ks)) k (λ j s. later_in k j ks s) (first_in k ks))
    (one_more (links ks) (links (k ∷ ks)) k (λ j s. in_cases k j ks s))
    (Decides-or (joins ks u v) _ (joins_tells ks u v) (Decides-or (joins ks u k.a && joins ks k.b v) _
    (Decides-and (joins ks u k.a) (joins ks k.b v) (joins_tells ks u k.a) (joins_tells ks k.b v))
    (Decides-and (joins ks u k.b) (joins ks k.a v) (joins_tells ks u k.b) (joins_tells ks k.a v))))

abbrev pub Decided : Type 0 → Type 0
Decided P = P ⊎ (P → ⊥)

pub decided : {P : Type 0} (b : Bool) → Decides b P → Decided P
decided b d = ⊎_elim (λ e. inl (d.0 e)) (λ e. inr (λ p. both_ways b e (d.1 p))) (cases_Bool b)

pub decided_alike : {P Q : Type 0} → (P → Q) → (Q → P) → Decided P → Decided Q
decided_alike f g (inl p) = inl (f p)
decided_alike f g (inr p) = inr (λ q. p (g q))

-- the links of a list that pass a test
abbrev pub passing : (Key → Bool) → List Key → Key → Type 0
passing test ks j = Contains ks j × (test j ≡ true)

pub decided_joined : (test : Key → Bool) (ks : List Key) (u v : ℕ) → Decided (Joined (passing test ks) u v)
decided_joined test ks u v = decided_alike
    (joined_within (λ j s. in_filter test ks j s))
    (joined_within (λ j s. filter_has test ks j s.0 s.1))
    (decided (joins (filter test ks) u v) (joins_tells (filter test ks) u v))
