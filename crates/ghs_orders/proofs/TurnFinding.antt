-- What a world finds as a node's next event, and as the next node, is the first at a place or later.
use Rattle.std.proofs.Common.{◌≡◌, ℕ, zero, suc, ◌+◌, ◌-◌, ◌<◌, ◌≤◌, Bool, true, false, ◌||◌, Some, None, List, [], ◌∷◌, ◌++◌, length, refl, sym, ◌∙◌, ap, ap₂, subst, ◌⊎◌, inl, inr, ⊎_elim, arith}
use Rattle.std.specs.List.{find, list_any}
use Rattle.std.specs.Option.{option_or}
use Rattle.std.proofs.lemmas.Bool.{both_ways, cases_Bool, cases_eq, cases_lt}
use Rattle.std.proofs.lemmas.List.Folds.{find-append, list_any-append}
use Rattle.peer_network.specs.declared.event.Event.{Event}
use Rattle.peer_network.specs.declared.event.Event.TheVariants.{Wake, Take}
use Rattle.peer_network.specs.Events.{event_node}
use Rattle.peer_network.specs.Network.{Network}
use Rattle.peer_index.specs.Places.{HasPlace, events_at, node_events, place, takes}
use Rattle.peer_index.proofs.lemmas.Lists.{any_at, find_at, find_none}
use Rattle.peer_index.proofs.lemmas.Places.{take_at, takes_at, takes_only, wake_at}
use Rattle.ghs_orders.proofs.InOrder.{by_node, node_from, place_parts, start, start_past, starts_rise}

-- the first number that passes, of n from a on
pub record FirstOf (q : ℕ → Bool) (a n : ℕ) : Type 0 where
  pub number : ℕ
  pub low : a ≤ number
  pub high : number < a + n
  pub passes : q number ≡ true
  pub none : (u : ℕ) → a ≤ u → u < number → q u ≡ false

abbrev pub NoneOf : (ℕ → Bool) → ℕ → ℕ → Type 0
NoneOf q a n = (u : ℕ) → a ≤ u → u < a + n → q u ≡ false

pub search_numbers : (q : ℕ → Bool) (a n : ℕ) → NoneOf q a n ⊎ FirstOf q a n
search_numbers q a zero = inl (λ u lo hi. absurd (omega (arith, lo, hi)))
search_numbers q a (suc n) = ⊎_elim
    (λ (none : NoneOf q a n). ⊎_elim
    (λ (t : q (a + n) ≡ true).
    inr (record { number = a + n; low = omega arith; high = omega arith; passes = t; none = λ u lo hi. none u lo hi }))
    (λ (f : q (a + n) ≡ false).
    inl (λ u lo hi. ⊎_elim (λ (e : u ≡ a + n). ap q e ∙ f) (λ ne. none u lo (omega (arith, hi, ne))) (cases_eq u (a + n))))
    (cases_Bool (q (a + n))))
    (λ (f : FirstOf q a n).
    let hi = f.high in inr (record { number = f.number; low = f.low; high = omega (arith, hi); passes = f.passes; none = f.none }))
    (search_numbers q a n)

-- of one list, or else of another
module _ {X : Type 0} (p : X → Bool) where
  pub find_left : (xs ys : List X) (x : X) → find p xs ≡ Some x → find p (xs ++ ys) ≡ Some x
  find_left xs ys x e = find-append p xs ys ∙ ap (λ o. option_or o (find p ys)) e

  pub find_right : (xs ys : List X) → find p xs ≡ None → find p (xs ++ ys) ≡ find p ys
  find_right xs ys e = find-append p xs ys ∙ ap (λ o. option_or o (find p ys)) e

  pub find_first : (x : X) (xs : List X) → p x ≡ true → find p (x ∷ xs) ≡ Some x
  find_first x xs t = rw t refl

  pub find_later : (x : X) (xs : List X) → p x ≡ false → find p (x ∷ xs) ≡ find p xs
  find_later x xs f = rw f refl

module _ (p : Event → Bool) where
  -- Takes of node v at n ports from one on
  abbrev pub at_port : ℕ → ℕ → Bool
  at_port v q = p (Take v q)

  pub takes_first : (v low n : ℕ) (f : FirstOf (at_port v) low n) → find p (takes v low n) ≡ Some (Take v f.number)
  takes_first v low n f =
      let lo = f.low in
      let hi = f.high in
      let up : low + (f.number - low) ≡ f.number = omega (arith, lo) in
      find_at p (takes v low n) (f.number - low) (Take v f.number)
      (takes_at v low n (f.number - low) (omega (arith, lo, hi)) ∙ ap (λ q. Some (Take v q)) up)
      f.passes
      (λ j y lt e.
      let z = takes_only v low n j y e in
      let less = z.0 in
      subst (λ (x : Event). p x ≡ false) (sym z.1) (f.none (low + j) (omega arith) (omega (arith, lt, lo))))

  pub takes_none : (v low n : ℕ) → NoneOf (at_port v) low n → find p (takes v low n) ≡ None
  takes_none v low n none =
      find_none p (takes v low n)
      (λ j y e.
      let z = takes_only v low n j y e in
      let less = z.0 in
      subst (λ (x : Event). p x ≡ false) (sym z.1) (none (low + j) (omega arith) (omega (arith, less))))

  -- none of a node's events passes
  pub any_none : (v d : ℕ) → p (Wake v) ≡ false → NoneOf (at_port v) 0 d → list_any p (events_at v d) ≡ false
  any_none v zero w none = rw w refl
  any_none v (suc d) w none =
      list_any-append p (events_at v d) (Take v d ∷ [])
      ∙ ap₂ (λ a b. a || b) (any_none v d w (λ u lo hi. none u lo (omega (arith, hi))))
      (let f = none d (omega arith) (omega arith) in rw f refl)

-- the events that pass have places
module _ (g : Network) (p : Event → Bool) (there : (f : Event) → p f ≡ true → HasPlace g f) where
  -- of those that pass the first at a place or later; none
  pub record First (from : ℕ) (e : Event) : Type 0 where
    pub passes : p e ≡ true
    pub here : from ≤ place g e
    pub first : (f : Event) → p f ≡ true → from ≤ place g f → place g e ≤ place g f

  abbrev pub None_at : ℕ → Type 0
  None_at from = (f : Event) → p f ≡ true → place g f < from

  abbrev pub of_node : ℕ → Bool
  of_node v = list_any p (node_events g v)

  -- the events of a node in their order
  abbrev pub own : ℕ → ℕ → List Event
  own v low = Wake v ∷ takes v low (length (g.ports v) - low) ++ takes v 0 (length (g.ports v))

  passes_at : (f : Event) → p f ≡ true → of_node (event_node f) ≡ true
  passes_at (Wake v) t = any_at p (node_events g v) 0 (Wake v) (wake_at v (length (g.ports v))) t
  passes_at (Take v q) t = any_at p (node_events g v) (suc q) (Take v q) (take_at v (length (g.ports v)) q ((there (Take v q) t).port)) t

  -- the first event of a node
  pub record FirstOfNode (v : ℕ) : Type 0 where
    pub event : Event
    pub node : event_node event ≡ v
    pub passes : p event ≡ true
    pub first : (f : Event) → p f ≡ true → event_node f ≡ v → place g event ≤ place g f
    pub found : find p (own v 0) ≡ Some event

  pub first_of_node : (v : ℕ) → of_node v ≡ true → FirstOfNode v
  first_of_node v any = ⊎_elim
      (λ (t : p (Wake v) ≡ true). record {
        event = Wake v;
        node = refl;
        passes = t;
        first = λ f k same. let a = place_parts g f in let b = place_parts g (Wake v) in let z = ap (start g) same in omega (arith, a, b, z);
        found = find_first p (Wake v) (takes v 0 (length (g.ports v) - 0) ++ takes v 0 (length (g.ports v))) t;
      })
      (λ (w : p (Wake v) ≡ false). ⊎_elim
      (λ (none : NoneOf (at_port p v) 0 (length (g.ports v))).
      absurd (both_ways (of_node v) (any_none p v (length (g.ports v)) w none) any))
      (λ (x : FirstOf (at_port p v) 0 (length (g.ports v))). record {
        event = Take v x.number;
        node = refl;
        passes = x.passes;
        first = λ f k same. first_take x w f k same;
        found =
            find_later p (Wake v) (takes v 0 (length (g.ports v) - 0) ++ takes v 0 (length (g.ports v))) w
            ∙ find_left p (takes v 0 (length (g.ports v) - 0)) (takes v 0 (length (g.ports v))) (Take v x.number)
            (let all : length (g.ports v) - 0 ≡ length (g.ports v) = omega arith in
            ap (λ n. find p (takes v 0 n)) all ∙ takes_first p v 0 (length (g.ports v)) x);
      })
      (search_numbers (at_port p v) 0 (length (g.ports v))))
      (cases_Bool (p (Wake v)))
    where
      first_take : (x : FirstOf (at_port p v) 0 (length (g.ports v))) → p (Wake v) ≡ false → (f : Event) → p f ≡ true → event_node f ≡ v →
          place g (Take v x.number) ≤ place g f
      first_take x w (Wake u) k same = absurd (both_ways (p (Wake v)) w (ap (λ y. p (Wake y)) (sym same) ∙ k))
      first_take x w (Take u q) k same = ⊎_elim
          (λ (lt : q < x.number). absurd (both_ways (p (Take v q)) (x.none q (omega arith) lt) (ap (λ y. p (Take y q)) (sym same) ∙ k)))
          (λ (le : x.number ≤ q). let z = ap (start g) same in omega (arith, le, z))
          (cases_lt q x.number)

  -- the first event of the first node from v on that has one
  pub first_from : (v u : ℕ) → v ≤ u → (x : FirstOfNode u) → ((n : ℕ) → v ≤ n → n < u → of_node n ≡ false) → First (start g v) x.event
  first_from v u le x none =
      let rises = starts_rise g v u le in
      let parts = place_parts g x.event in
      let own_start = ap (start g) x.node in
      record {
        passes = x.passes;
        here = omega (arith, rises, parts, own_start);
        first = λ f k from.
            let n = node_from g v f (there f k) from in
            ⊎_elim
            (λ (lt : event_node f < u). absurd (both_ways (of_node (event_node f)) (none (event_node f) n lt) (passes_at f k)))
            (λ (ge : u ≤ event_node f). ⊎_elim
            (λ (same : event_node f ≡ u). x.first f k same)
            (λ ne.
            let after = by_node g x.event f (there x.event x.passes) (subst (λ y. y < event_node f) (sym x.node) (omega (arith, ge, ne))) in
            omega (arith, after))
            (cases_eq (event_node f) u))
            (cases_lt (event_node f) u);
      }

  -- no node from v on has one
  pub none_from : (v : ℕ) → ((n : ℕ) → v ≤ n → n ≤ g.count → of_node n ≡ false) → None_at (start g v)
  none_from v none f k = ⊎_elim
      (λ (lt : event_node f < v). start_past g f v (there f k) lt)
      (λ (ge : v ≤ event_node f). absurd (both_ways (of_node (event_node f)) (none (event_node f) ge (most f (there f k))) (passes_at f k)))
      (cases_lt (event_node f) v)
    where
      most : (f : Event) → HasPlace g f → event_node f ≤ g.count
      most (Wake u) h = h.1
      most (Take u q) h = h.node
