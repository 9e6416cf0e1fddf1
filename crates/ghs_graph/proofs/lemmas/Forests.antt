-- The tree joins all, has no spare link, and is the lightest to do so.
use Rattle.std.proofs.Common.{◌≡◌, ℕ, zero, suc, ◌<◌, ◌≤◌, ◌+◌, ◌⊎◌, inl, inr, ⊎_elim, Bool, true, false, not, List, [], ◌∷◌, ◌++◌, length, take, drop, get_or, refl, sym, ◌∙◌, ap, subst, arith, add-one, drop-cons}
use Rattle.std.specs.List.{Contains}
use Rattle.std.proofs.lemmas.Bool.{cases_eq, cases_lt, both_ways, cases_Bool}
use Rattle.std.proofs.lemmas.Bool.Decides.{nat_tests}
use Rattle.std.proofs.lemmas.List.{get_or_default, take_more, take_all, drop_all, length-take, get_or-take}
use Rattle.std.proofs.lemmas.List.Sums.{sum_by-cons}
use Rattle.std.proofs.lemmas.List.Elements.{Contains-get_or, Contains-push, Contains-push_cases, Contains-append_left, Contains-append_right, Contains-append_cases}
use Rattle.ghs_graph.specs.declared.key.Key.{Key}
use Rattle.ghs_graph.specs.Key.{key_lt, no_key}
use Rattle.ghs_graph.specs.Links.{Joined, Same, Over, Back, links, links_below, IsTree, IsRising, total_weight}
use Rattle.ghs_graph.specs.Laws.{TreeJoins, links_but, NoneIsSpare, TreeIsLeast}
use Rattle.ghs_graph.proofs.lemmas.Members.{nothing_in, first_in, later_in, in_cases}
use Rattle.ghs_graph.proofs.lemmas.Keys.{lt_irreflexive, lt_asymmetric, below_at}
use Rattle.ghs_graph.proofs.lemmas.Joining.{joined_then, joined_back, joined_within, joined_through, JoinedOver, one_more, Decided, decided_alike, passing, decided_joined}

-- The first i + 1 of a list.

next_take : (ks : List Key) (i : ℕ) → i < length ks → take (suc i) ks ≡ take i ks ++ get_or ks i no_key ∷ []
next_take ks i lt = ap (λ n. take n ks) (sym (add-one i)) ∙ take_more ks i no_key lt

in_take : (ks : List Key) (i : ℕ) (j : Key) → Contains (take i ks) j → Contains ks j
in_take ks i j h =
    let short : h.0 < i = omega (arith, h.1, length-take i ks) in
    (h.0, omega (arith, h.1, length-take i ks), sym (get_or-take i ks h.0 j short) ∙ h.2)

-- The tree joins what the graph joins.

abbrev not_above : Key → Key → Bool
not_above k j = not (key_lt k j)

not_above_itself : (k : Key) → not_above k k ≡ true
not_above_itself k = grind (arith, nat_tests)

not_above_greater : (j k x : Key) → key_lt j k ≡ true → not_above j x ≡ true → not_above k x ≡ true
not_above_greater j k x h l = grind (arith, nat_tests)

-- in a rising list a smaller key stands earlier
earlier : (ks : List Key) (i : ℕ) (j : Key) → IsRising ks → i < length ks → Contains ks j → key_lt j (get_or ks i no_key) ≡ true
    → Contains (take i ks) j
earlier ks i j r lt h l = ⊎_elim
    (λ (before : h.0 < i). (h.0, omega (arith, length-take i ks, h.1), get_or-take i ks h.0 j before ∙ h.2))
    (λ ge. absurd (⊎_elim
    (λ (e : h.0 ≡ i).
    both_ways (key_lt j j) (lt_irreflexive j)
    (subst (λ (x : Key). key_lt j x ≡ true) (get_or_default ks i no_key j lt ∙ subst (λ n. get_or ks n j ≡ j) e h.2) l))
    (λ ne.
    both_ways (key_lt j (get_or ks i no_key))
    (lt_asymmetric (get_or ks i no_key) j
    (subst (λ (x : Key). key_lt (get_or ks i no_key) x ≡ true) h.2
    (subst (λ (x : Key). key_lt x (get_or ks h.0 j) ≡ true) (get_or_default ks i j no_key lt) (r i h.0 j (omega arith) h.1))))
    l)
    (cases_eq h.0 i)))
    (cases_lt h.0 i)

-- the tree joins each link's ends, by links that aren't above it
abbrev JoinedUpTo : List Key → List Key → Type 0
JoinedUpTo ks tree = (k : Key) → Contains ks k → Joined (passing (not_above k) tree) k.a k.b

-- were they not joined, then the link itself would be in the tree
joined_at : (ks tree : List Key) (i : ℕ) → IsRising ks → IsTree ks tree → i < length ks → JoinedUpTo (take i ks) tree
    → Joined (passing (not_above (get_or ks i no_key)) tree) (get_or ks i no_key).a (get_or ks i no_key).b
joined_at ks tree i r t lt before =
    ⊎_elim (λ way. way)
    (λ never.
    absurd (never (Over k (t.all k (Contains-get_or ks i no_key lt, λ below. never (joined_through around below)), not_above_itself k) Same)))
    (decided_joined (not_above k) tree k.a k.b)
  where
    k : Key
    k = get_or ks i no_key

    around : (j : Key) → links_below ks k j → Joined (passing (not_above k) tree) j.a j.b
    around j s = joined_within (λ x p. (p.0, not_above_greater j k x s.1 p.1)) (before j (earlier ks i j r lt s.0 s.1))

joined_up_to : (ks tree : List Key) → IsRising ks → IsTree ks tree → (i : ℕ) → i ≤ length ks → JoinedUpTo (take i ks) tree
joined_up_to ks tree r t zero le = λ k h. absurd (nothing_in k h)
joined_up_to ks tree r t (suc i) le = λ k h. ⊎_elim
    (λ o. joined_up_to ks tree r t i (omega arith) k o)
    (λ e.
    subst (λ (x : Key). Joined (passing (not_above x) tree) x.a x.b) e
    (joined_at ks tree i r t (omega arith) (joined_up_to ks tree r t i (omega arith))))
    (Contains-push_cases (take i ks) (get_or ks i no_key) k (subst (λ (xs : List Key). Contains xs k) (next_take ks i (omega arith)) h))

all_joined_up_to : (ks tree : List Key) → IsRising ks → IsTree ks tree → JoinedUpTo ks tree
all_joined_up_to ks tree r t =
    subst (λ (xs : List Key). JoinedUpTo xs tree) (take_all (length ks) ks (omega arith)) (joined_up_to ks tree r t (length ks) (omega arith))

pub tree_joins : TreeJoins
tree_joins ks tree r t u v way = joined_through (λ k s. joined_within (λ j p. p.0) (all_joined_up_to ks tree r t k s)) way

-- No link is spare.

abbrev HasNoneSpare : List Key → Type 0
HasNoneSpare ks = (k : Key) → Contains ks k → Joined (links_but ks k) k.a k.b → ⊥

-- a link whose ends the others don't join makes none of them spare
none_spare_more : (ks : List Key) (m : Key) → HasNoneSpare ks → (Joined (links ks) m.a m.b → ⊥) → HasNoneSpare (ks ++ m ∷ [])
none_spare_more ks m none apart k h way = ⊎_elim old new (Contains-push_cases ks m k h)
  where
    plain : {u v : ℕ} → Joined (links_but ks k) u v → Joined (links ks) u v
    plain w = joined_within (λ j s. s.0) w

    -- a way over m would join the ends of m by k and the rest of the way
    old : Contains ks k → ⊥
    old o = ⊎_elim (none k o) (λ over. apart (⊎_elim
        (λ p. joined_then (joined_back (plain p.0)) (Over k o (joined_back (plain p.1))))
        (λ p. joined_then (plain p.1) (Back k o (plain p.0)))
        over)) (one_more (links_but ks k) (links_but (ks ++ m ∷ []) k) m (λ j s. ⊎_elim (λ x. inl (x, s.1)) inr (Contains-push_cases ks m j s.0)) way)

    new : m ≡ k → ⊥
    new e =
        apart
        (subst (λ (x : Key). Joined (links ks) x.a x.b) (sym e)
        (joined_within (λ j s. ⊎_elim (λ x. x) (λ q. absurd (s.1 (sym q ∙ e))) (Contains-push_cases ks m j s.0)) way))

-- the links of the tree before one of them don't join its ends, since they are below it
apart_at : (ks tree : List Key) (i : ℕ) → IsTree ks tree → i < length tree
    → Joined (links (take i tree)) (get_or tree i no_key).a (get_or tree i no_key).b → ⊥
apart_at ks tree i t lt way =
    (t.has (get_or tree i no_key) (Contains-get_or tree i no_key lt)).1
    (joined_within (λ j s. ((t.has j (in_take tree i j s)).0, below_at tree i no_key t.rising lt j s)) way)

none_spare_up_to : (ks tree : List Key) → IsTree ks tree → (i : ℕ) → i ≤ length tree → HasNoneSpare (take i tree)
none_spare_up_to ks tree t zero le = λ k h. absurd (nothing_in k h)
none_spare_up_to ks tree t (suc i) le =
    subst HasNoneSpare (sym (next_take tree i (omega arith)))
    (none_spare_more (take i tree) (get_or tree i no_key) (none_spare_up_to ks tree t i (omega arith)) (apart_at ks tree i t (omega arith)))

pub none_is_spare : NoneIsSpare
none_is_spare ks tree t = subst HasNoneSpare (take_all (length tree) tree (omega arith)) (none_spare_up_to ks tree t (length tree) (omega arith))

-- The tree is lightest: its links take the places of others one by one, in key order.

abbrev in_either : List Key → List Key → Key → Type 0
in_either p r j = Contains p j ⊎ Contains r j

decided_either_joins : (p r : List Key) (u v : ℕ) → Decided (Joined (in_either p r) u v)
decided_either_joins p r u v = decided_alike
    (joined_within (λ j s. Contains-append_cases p r j s.0))
    (joined_within (λ j s. (⊎_elim (λ a. Contains-append_left p r j a) (λ b. Contains-append_right p r j b) s, refl)))
    (decided_joined (λ _. true) (p ++ r) u v)

total_weight-cons : (k : Key) (ks : List Key) → total_weight (k ∷ ks) ≡ k.weight + total_weight ks
total_weight-cons k ks = sum_by-cons (λ (x : Key). x.weight) k ks

-- of the links r beside p, from the last: the first with which u and v become joined, those after it, and all but it
record Joiner (p r : List Key) (u v : ℕ) : Type 0 where
  key : Key
  after : List Key
  rest : List Key
  weighs : total_weight r ≡ key.weight + total_weight rest
  has : Contains r key
  splits : (j : Key) → Contains r j → (key ≡ j) ⊎ Contains rest j
  inside : (j : Key) → Contains rest j → Contains r j
  within : (j : Key) → Contains after j → Contains rest j
  apart : Joined (in_either p after) u v → ⊥
  over : JoinedOver (in_either p after) key u v

joiner : (p r : List Key) (u v : ℕ) → (Joined (links p) u v → ⊥) → Joined (in_either p r) u v → Joiner p r u v
joiner p [] u v never way = absurd (never (joined_within (λ j s. ⊎_elim (λ a. a) (λ b. absurd (nothing_in j b)) s) way))
joiner p (e ∷ r) u v never way = ⊎_elim
    (λ already. let f : Joiner p r u v = joiner p r u v never already in record {
      key = f.key;
      after = f.after;
      rest = e ∷ f.rest;
      weighs = omega (arith, total_weight-cons e r, total_weight-cons e f.rest, f.weighs);
      has = later_in e f.key r f.has;
      splits =
          λ j h.
          ⊎_elim (λ o. ⊎_elim inl (λ b. inr (later_in e j f.rest b)) (f.splits j o))
          (λ q. inr (subst (λ (x : Key). Contains (e ∷ f.rest) x) q (first_in e f.rest))) (in_cases e j r h);
      inside =
          λ j h. ⊎_elim (λ o. later_in e j r (f.inside j o)) (λ q. subst (λ (x : Key). Contains (e ∷ r) x) q (first_in e r)) (in_cases e j f.rest h);
      within = λ j h. later_in e j f.rest (f.within j h);
      apart = f.apart;
      over = f.over;
    })
    (λ apart. record {
      key = e;
      after = r;
      rest = r;
      weighs = total_weight-cons e r;
      has = first_in e r;
      splits = λ j h. ⊎_elim inr inl (in_cases e j r h);
      inside = λ j h. later_in e j r h;
      within = λ j h. h;
      apart = apart;
      over =
          one_more (in_either p r) (in_either p (e ∷ r)) e
          (λ j s. ⊎_elim (λ a. inl (inl a)) (λ b. ⊎_elim (λ o. inl (inr o)) inr (in_cases e j r b)) s) way;
    })
    (decided_either_joins p r u v)

-- what the links p and the new link join beside the rest: all that they joined with the joiner in its place
exchanged : (p r : List Key) (t : Key) (f : Joiner p r t.a t.b) → (j : Key) → in_either p r j → Joined (in_either (p ++ t ∷ []) f.rest) j.a j.b
exchanged p r t f j (inl a) = Over j (inl (Contains-append_left p (t ∷ []) j a)) Same
exchanged p r t f j (inr b) =
    ⊎_elim (λ (e : f.key ≡ j). subst (λ (x : Key). Joined (in_either (p ++ t ∷ []) f.rest) x.a x.b) e around) (λ o. Over j (inr o) Same)
    (f.splits j b)
  where
    wider : {u v : ℕ} → Joined (in_either p f.after) u v → Joined (in_either (p ++ t ∷ []) f.rest) u v
    wider way = joined_within (λ i s. ⊎_elim (λ o. inl (Contains-append_left p (t ∷ []) i o)) (λ o. inr (f.within i o)) s) way

    new : in_either (p ++ t ∷ []) f.rest t
    new = inl (Contains-push p t)

    around : Joined (in_either (p ++ t ∷ []) f.rest) f.key.a f.key.b
    around = ⊎_elim (λ way. absurd (f.apart way)) (λ over. ⊎_elim
        (λ q. joined_then (joined_back (wider q.0)) (Over t new (joined_back (wider q.1))))
        (λ q. joined_then (wider q.1) (Back t new (wider q.0)))
        over) f.over

-- p doesn't join the joiner's ends
joiner_apart : (p r : List Key) (t : Key) (f : Joiner p r t.a t.b) → Joined (links p) f.key.a f.key.b → ⊥
joiner_apart p r t f way = f.apart (⊎_elim (λ o. o) (λ over. ⊎_elim
    (λ q. joined_then q.0 (joined_then (joined_within (λ j s. inl s) way) q.1))
    (λ q. joined_then q.0 (joined_then (joined_back (joined_within (λ j s. inl s) way)) q.1))
    over) f.over)

-- the tree as it grows: the links p are there, and these are to come
data Grows (ks : List Key) : List Key → List Key → Type 0 where
  Grown : {p : List Key} → Grows ks p []
  Next : {p rest : List Key} (t : Key) → Contains ks t → ((k : Key) → Contains ks k → key_lt k t ≡ true → Joined (links p) k.a k.b)
      → (Joined (links p) t.a t.b → ⊥) → Grows ks (p ++ t ∷ []) rest → Grows ks p (t ∷ rest)

not_lighter : (t e : Key) → (key_lt e t ≡ true → ⊥) → t.weight ≤ e.weight
not_lighter t e never = ⊎_elim (λ h. absurd (never h)) heavier (cases_Bool (key_lt e t))
  where
    heavier : key_lt e t ≡ false → t.weight ≤ e.weight
    heavier h = grind (arith, nat_tests)

lightest : (ks p coming r : List Key) → Grows ks p coming → ((k : Key) → Contains ks k → Joined (in_either p r) k.a k.b)
    → ((k : Key) → Contains r k → Contains ks k) → total_weight coming ≤ total_weight r
lightest ks p [] r Grown joins inside = omega arith
lightest ks p (t ∷ rest) r (Next t' is below apart more) joins inside =
    let f : Joiner p r t.a t.b = joiner p r t.a t.b apart (joins t is) in
    let later : total_weight rest ≤ total_weight f.rest = lightest ks (p ++ t ∷ []) rest f.rest more
    (λ k h. joined_through (exchanged p r t f) (joins k h)) (λ k h. inside k (f.inside k h)) in
    let now : t.weight ≤ f.key.weight = not_lighter t f.key (λ h. joiner_apart p r t f (below f.key (inside f.key f.has) h)) in
    omega (arith, total_weight-cons t rest, f.weighs, later, now)

below_through : (x k m : Key) → not_above k x ≡ true → key_lt k m ≡ true → key_lt x m ≡ true
below_through x k m h l = grind (arith, nat_tests)

tree_grows : (ks tree : List Key) → IsRising ks → IsTree ks tree → (n i : ℕ) → n + i ≡ length tree → Grows ks (take i tree) (drop i tree)
tree_grows ks tree r t zero i e = subst (λ (xs : List Key). Grows ks (take i tree) xs) (sym (drop_all i tree (omega arith))) Grown
tree_grows ks tree r t (suc n) i e =
    let lt : i < length tree = omega arith in
    let k : Key = get_or tree i no_key in
    let more : Grows ks (take i tree ++ k ∷ []) (drop (suc i) tree) = subst (λ (xs : List Key). Grows ks xs (drop (suc i) tree)) (next_take tree i lt)
    (tree_grows ks tree r t n (suc i) (omega arith)) in
    subst (λ (xs : List Key). Grows ks (take i tree) xs) (sym (drop-cons tree i no_key lt))
    (Next k (t.has k (Contains-get_or tree i no_key lt)).0
    (λ j is l. joined_within (λ x s. earlier tree i x t.rising lt s.0 (below_through x j k s.1 l)) (all_joined_up_to ks tree r t j is))
    (apart_at ks tree i t lt) more)

pub tree_is_least : TreeIsLeast
tree_is_least ks tree some r t inside joins =
    lightest ks [] tree some (tree_grows ks tree r t (length tree) 0 (omega arith))
    (λ k h. joined_within (λ j s. inr s) (joins k.a k.b (Over k h Same))) inside
