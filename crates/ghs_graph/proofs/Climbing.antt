-- Roots, and what leaves them as they are.
use Rattle.std.proofs.Common.{◌≡◌, ◌≢◌, ℕ, zero, suc, ◌<◌, ◌≤◌, ◌+◌, max, min, ⊎_elim, List, length, get_or, set, cond, ◌==◌, refl, sym, ◌∙◌, ap, subst, arith, get_or-set_same, get_or-set_other, length-set, eq-eqb}
use Rattle.std.proofs.lemmas.Bool.{cases_eq, cases_lt, ne_eqb}
use Rattle.std.proofs.lemmas.List.{get_or_default, get_or_past}
use Rattle.std.proofs.lemmas.List.FromFn.{get_or-map-range_with_len, length-map-range_with_len}
use Rattle.std.proofs.lemmas.Grind.{same_number_lists}
use Rattle.ghs_graph.specs.Classes.{AreLeast, LeadDown, Moves, Unites, after, root_of, roots_of}

-- Steps.

after_none : (up : List ℕ) (x : ℕ) → after up zero x ≡ x
unfolding after
after_none up x = refl

after_more : (up : List ℕ) (k x : ℕ) → after up (suc k) x ≡ after up k (get_or up x 0)
unfolding after
after_more up k x = refl

stays : (up : List ℕ) (k x : ℕ) → get_or up x 0 ≡ x → after up k x ≡ x
stays up zero x e = after_none up x
stays up (suc k) x e = after_more up k x ∙ ap (after up k) e ∙ stays up k x e

-- all numbers lead down, those outside to 0
all_down : (up : List ℕ) → LeadDown up → (x : ℕ) → get_or up x 0 ≤ x
all_down up h x = ⊎_elim (λ lt. h.down x lt) (λ le. rw (get_or_past up x 0 le) (omega arith)) (cases_lt x (length up))

-- as many steps as the number are enough
enough : (up : List ℕ) → ((x : ℕ) → get_or up x 0 ≤ x) → (j k x : ℕ) → x ≤ j → x ≤ k → after up j x ≡ after up k x
enough up down zero k x a b = let d = down x in after_none up x ∙ sym (stays up k x (omega (arith, a, d)))
enough up down (suc j) zero x a b = let d = down x in stays up (suc j) x (omega (arith, b, d)) ∙ sym (after_none up x)
enough up down (suc j) (suc k) x a b = ⊎_elim
    (λ (lt : get_or up x 0 < x).
    after_more up j x ∙ enough up down j k (get_or up x 0) (omega (arith, lt, a)) (omega (arith, lt, b)) ∙ sym (after_more up k x))
    (λ (le : x ≤ get_or up x 0).
    let d = down x in
    let e : get_or up x 0 ≡ x = omega (arith, d, le) in
    stays up (suc j) x e ∙ sym (stays up (suc k) x e))
    (cases_lt (get_or up x 0) x)

-- Roots.

pub root_ends : (up : List ℕ) (x : ℕ) → get_or up x 0 ≡ x → root_of up x ≡ x
unfolding root_of
root_ends up x e = stays up x x e

pub root_steps : (up : List ℕ) → LeadDown up → (x : ℕ) → root_of up x ≡ root_of up (get_or up x 0)
unfolding root_of
root_steps up h x =
    let down = all_down up h in
    let d = down x in
    enough up down x (suc x) x (omega arith) (omega arith) ∙ after_more up x x
    ∙ enough up down x (get_or up x 0) (get_or up x 0) (omega (arith, d)) (omega arith)

-- a root is no greater than its number, and leads to itself
pub record IsTop (up : List ℕ) (x r : ℕ) : Type 0 where
  pub low : r ≤ x
  pub own : get_or up r 0 ≡ r

root_below : (up : List ℕ) → LeadDown up → (n x : ℕ) → x < n → IsTop up x (root_of up x)
root_below up h zero x a = absurd (omega (arith, a))
root_below up h (suc n) x a = ⊎_elim
    (λ (lt : get_or up x 0 < x).
    let t = root_below up h n (get_or up x 0) (omega (arith, lt, a)) in
    let low = t.low in
    subst (IsTop up x) (sym (root_steps up h x)) (record { low = omega (arith, low, lt); own = t.own }))
    (λ (le : x ≤ get_or up x 0).
    let d = all_down up h x in
    let e : get_or up x 0 ≡ x = omega (arith, d, le) in
    subst (IsTop up x) (sym (root_ends up x e)) (record { low = omega arith; own = e }))
    (cases_lt (get_or up x 0) x)

pub root_is : (up : List ℕ) → LeadDown up → (x : ℕ) → IsTop up x (root_of up x)
root_is up h x = root_below up h (suc x) x (omega arith)

-- what ends where the steps end, and is kept by each step, is the root
pub record IsKept (up : List ℕ) (f : ℕ → ℕ) : Type 0 where
  pub ends : (x : ℕ) → x < length up → get_or up x 0 ≡ x → f x ≡ x
  pub steps : (x : ℕ) → x < length up → f x ≡ f (get_or up x 0)

one_below : (up : List ℕ) → LeadDown up → (f : ℕ → ℕ) → IsKept up f → (n x : ℕ) → x < n → x < length up → f x ≡ root_of up x
one_below up h f k zero x a lt = absurd (omega (arith, a))
one_below up h f k (suc n) x a lt = ⊎_elim
    (λ (less : get_or up x 0 < x).
    k.steps x lt ∙ one_below up h f k n (get_or up x 0) (omega (arith, less, a)) (omega (arith, less, lt)) ∙ sym (root_steps up h x))
    (λ (le : x ≤ get_or up x 0).
    let d = h.down x lt in
    let e : get_or up x 0 ≡ x = omega (arith, d, le) in
    k.ends x lt e ∙ sym (root_ends up x e))
    (cases_lt (get_or up x 0) x)

-- The list of them.

pub length-roots_of : (up : List ℕ) → length (roots_of up) ≡ length up
unfolding roots_of
length-roots_of up = length-map-range_with_len (root_of up) 0 (length up)

pub root_at : (up : List ℕ) (x : ℕ) → x < length up → get_or (roots_of up) x 0 ≡ root_of up x
unfolding roots_of
root_at up x lt = get_or-map-range_with_len (root_of up) 0 (length up) x x 0 lt (omega arith)

pub roots_are : (up rs : List ℕ) → length rs ≡ length up → ((x : ℕ) → x < length up → get_or rs x 0 ≡ root_of up x) → rs ≡ roots_of up
roots_are up rs e all =
    same_number_lists rs (roots_of up) (e ∙ sym (length-roots_of up))
    (λ x lt. let in_up : x < length up = omega (arith, lt, e) in all x in_up ∙ sym (root_at up x in_up))

pub roots_least : (up : List ℕ) → LeadDown up → AreLeast (roots_of up)
roots_least up h = record {
  low = λ v lt. rw (root_at up v (inside v lt)) (root_is up h v).low;
  own = λ v lt.
      let t = root_is up h v in
      let low = t.low in
      let at : v < length up = inside v lt in
      rw (root_at up v at) (root_at up (root_of up v) (omega (arith, low, at)) ∙ root_ends up (root_of up v) t.own);
}
  where
    inside : (v : ℕ) → v < length (roots_of up) → v < length up
    inside v lt = let e = length-roots_of up in omega (arith, lt, e)

-- a number with a root is one that leads
pub inside_up : (up rs : List ℕ) → roots_of up ≡ rs → (x : ℕ) → x < length rs → x < length up
inside_up up rs e x lt = let n = length-roots_of up in let m = ap (λ (xs : List ℕ). length xs) e in omega (arith, lt, n, m)

-- each number alone
pub roots_fresh : (up : List ℕ) → ((v : ℕ) → v < length up → get_or up v 0 ≡ v) → (v : ℕ) → v < length (roots_of up) → get_or (roots_of up) v 0 ≡ v
roots_fresh up alone v lt =
    let e = length-roots_of up in
    let at : v < length up = omega (arith, lt, e) in
    root_at up v at ∙ root_ends up v (alone v at)

-- A number leads one step further.

down_set : (up : List ℕ) → LeadDown up → (at to : ℕ) → at < length up → to ≤ at → LeadDown (set up at to)
down_set up h at to lt le = record {
  few = let few = h.few in let e = length-set up at to in omega (arith, few, e);
  down = λ x xl. ⊎_elim
      (λ (e : x ≡ at). rw (e, get_or-set_same up at to 0 lt) le)
      (λ ne. rw (get_or-set_other up at x to 0 ne) (h.down x (let e = length-set up at to in omega (arith, xl, e))))
      (cases_eq x at);
}

pub record IsHalved (up new : List ℕ) : Type 0 where
  pub same : length new ≡ length up
  pub down : LeadDown new
  pub roots : roots_of new ≡ roots_of up
  pub root : (x : ℕ) → x < length up → root_of new x ≡ root_of up x

pub halved_none : (up : List ℕ) → LeadDown up → IsHalved up up
halved_none up h = record { same = refl; down = h; roots = refl; root = λ x lt. refl }

pub halved_then : (up mid new : List ℕ) → IsHalved up mid → IsHalved mid new → IsHalved up new
halved_then up mid new a b = record {
  same = b.same ∙ a.same;
  down = b.down;
  roots = b.roots ∙ a.roots;
  root = λ x lt. let e = a.same in b.root x (omega (arith, lt, e)) ∙ a.root x lt;
}

pub halved : (up : List ℕ) (at above next : ℕ) → LeadDown up → at < length up → above ≡ get_or up at 0 → above ≢ at → next ≡ get_or up above 0
    → IsHalved up (set up at next)
halved up at above next h lt ea ne en = record {
  same = length-set up at next;
  down = down;
  roots =
      sym (roots_are (set up at next) (roots_of up) (length-roots_of up ∙ sym (length-set up at next))
      (λ x xl. root_at up x (inside x xl) ∙ same x xl));
  root = λ x xl. sym (same x (let e = length-set up at next in omega (arith, xl, e)));
}
  where
    inside : (x : ℕ) → x < length (set up at next) → x < length up
    inside x xl = let e = length-set up at next in omega (arith, xl, e)

    less : next < at
    less =
        let a = h.down at lt in
        let above_less : above < at = omega (arith, a, ea, ne) in
        let b = h.down above (omega (arith, above_less, lt)) in
        omega (arith, above_less, b, en)

    down : LeadDown (set up at next)
    down = down_set up h at next lt (omega (arith, less))

    kept : IsKept (set up at next) (root_of up)
    kept = record {
      ends = λ x xl e. ⊎_elim
          (λ (q : x ≡ at).
          let r : next ≡ at = sym (get_or-set_same up at next 0 lt) ∙ subst (λ y. get_or (set up at next) y 0 ≡ y) q e in
          absurd (omega (arith, r, less)))
          (λ other. root_ends up x (sym (get_or-set_other up at x next 0 other) ∙ e))
          (cases_eq x at);
      steps = λ x xl. ⊎_elim
          (λ (q : x ≡ at).
          rw (q, get_or-set_same up at next 0 lt, en, ea) (root_steps up h at ∙ root_steps up h (get_or up at 0)))
          (λ other. rw (get_or-set_other up at x next 0 other) (root_steps up h x))
          (cases_eq x at);
    }

    same : (x : ℕ) → x < length (set up at next) → root_of up x ≡ root_of (set up at next) x
    same x xl = one_below (set up at next) down (root_of up) kept (suc x) x (omega arith) xl

-- On the way up from x, at a number and with what it leads to at hand.
pub record IsClimbing (up now : List ℕ) (x at above : ℕ) : Type 0 where
  pub inside : at < length up
  pub step : above ≡ get_or now at above
  pub halved : IsHalved up now
  pub root : root_of up at ≡ root_of up x

pub climb_none : (up : List ℕ) (x above : ℕ) → LeadDown up → x < length up → above ≡ get_or up x above → IsClimbing up up x x above
climb_none up x above h lt e = record { inside = lt; step = e; halved = halved_none up h; root = refl }

module _ (up now : List ℕ) (x at above : ℕ) (w : IsClimbing up now x at above) where
  in_now : at < length now
  in_now = let lt = w.inside in let e = w.halved.same in omega (arith, lt, e)

  here : above ≡ get_or now at 0
  here = w.step ∙ get_or_default now at above 0 in_now

  pub climb_low : above ≤ at
  climb_low = let d = w.halved.down.down at in_now in omega (arith, d, here)

  pub climb_inside : above < length now
  climb_inside = let a = climb_low in let b = in_now in omega (arith, a, b)

  pub climb_end : above ≡ at → at ≡ root_of up x
  climb_end e = sym (root_ends now at (sym here ∙ e)) ∙ w.halved.root at w.inside ∙ w.root

  module _ (next : ℕ) (read : next ≡ get_or now above next) where
    there : next ≡ get_or now above 0
    there = read ∙ get_or_default now above next 0 climb_inside

    pub next_low : next ≤ above
    next_low = let d = w.halved.down.down above climb_inside in omega (arith, d, there)

    pub next_less : above ≢ at → next < at
    next_less ne = let a = climb_low in let b = next_low in omega (arith, a, b, ne)

    pub climb_more : (again : ℕ) → above ≢ at → again ≡ get_or (set now at next) next again → IsClimbing up (set now at next) x next again
    climb_more again ne e = record {
      inside = in_up;
      step = e;
      halved = halved_then up now (set now at next) w.halved (halved now at above next w.halved.down in_now here ne there);
      root =
          sym (w.halved.root next in_up)
          ∙ ap (root_of now) there
          ∙ sym (root_steps now w.halved.down above)
          ∙ ap (root_of now) here
          ∙ sym (root_steps now w.halved.down at)
          ∙ w.halved.root at w.inside
          ∙ w.root;
    }
      where
        in_up : next < length up
        in_up = let a = next_less ne in let b = w.inside in omega (arith, a, b)

-- One root leads to another.

moved : ℕ → ℕ → ℕ → ℕ
moved from to x = cond (x == from) to x

moved_from : (from to x : ℕ) → x ≡ from → moved from to x ≡ to
unfolding moved
moved_from from to x e = rw (eq-eqb x from e) refl

moved_not : (from to x : ℕ) → x ≢ from → moved from to x ≡ x
unfolding moved
moved_not from to x ne = rw (ne_eqb x from ne) refl

pub hung : (up : List ℕ) (from to : ℕ) → LeadDown up → from < length up → to < from → get_or up from 0 ≡ from → get_or up to 0 ≡ to
    → Moves (roots_of up) (roots_of (set up from to)) from to
hung up from to h lt less ef et = record {
  same = length-roots_of (set up from to) ∙ length-set up from to ∙ sym (length-roots_of up);
  moved = λ x xl e. let at = in_up x xl in root x at ∙ moved_from from to (root_of up x) (sym (root_at up x at) ∙ e);
  stay = λ x xl ne.
      let at = in_up x xl in
      root x at ∙ moved_not from to (root_of up x) (λ e. ne (root_at up x at ∙ e)) ∙ sym (root_at up x at);
}
  where
    down : LeadDown (set up from to)
    down = down_set up h from to lt (omega (arith, less))

    in_up : (x : ℕ) → x < length (roots_of up) → x < length up
    in_up x xl = let e = length-roots_of up in omega (arith, xl, e)

    kept : IsKept (set up from to) (λ x. moved from to (root_of up x))
    kept = record {
      ends = λ x xl e. ⊎_elim
          (λ (q : x ≡ from).
          let r : to ≡ from = sym (get_or-set_same up from to 0 lt) ∙ subst (λ y. get_or (set up from to) y 0 ≡ y) q e in
          absurd (omega (arith, r, less)))
          (λ other.
          let r : root_of up x ≡ x = root_ends up x (sym (get_or-set_other up from x to 0 other) ∙ e) in
          ap (moved from to) r ∙ moved_not from to x other)
          (cases_eq x from);
      steps = λ x xl. ⊎_elim
          (λ (q : x ≡ from).
          let t : root_of up to ≡ to = root_ends up to et in
          rw (q, get_or-set_same up from to 0 lt)
          (moved_from from to (root_of up from) (root_ends up from ef)
          ∙ sym (moved_not from to (root_of up to) (λ e. omega (arith, e, t, less)) ∙ t)))
          (λ other. rw (get_or-set_other up from x to 0 other) (ap (moved from to) (root_steps up h x)))
          (cases_eq x from);
    }

    root : (x : ℕ) → x < length up → get_or (roots_of (set up from to)) x 0 ≡ moved from to (root_of up x)
    root x at =
        let inside : x < length (set up from to) = let e = length-set up from to in omega (arith, at, e) in
        root_at (set up from to) x inside
        ∙ sym (one_below (set up from to) down (λ y. moved from to (root_of up y)) kept (suc x) x (omega arith) inside)

-- two numbers and their roots
pub record AreTops (up rs : List ℕ) (u v of_u of_v : ℕ) : Type 0 where
  pub view : roots_of up ≡ rs
  pub down : LeadDown up
  pub u_in : u < length rs
  pub v_in : v < length rs
  pub u_is : of_u ≡ get_or rs u 0
  pub v_is : of_v ≡ get_or rs v 0

module _ (up rs : List ℕ) (u v of_u of_v : ℕ) (w : AreTops up rs u v of_u of_v) where
  top : (x r : ℕ) → x < length rs → r ≡ get_or rs x 0 → IsTop up x r
  top x r lt e =
      let at = inside_up up rs w.view x lt in
      let is : root_of up x ≡ r = sym (root_at up x at) ∙ ap (λ (xs : List ℕ). get_or xs x 0) w.view ∙ sym e in
      subst (IsTop up x) is (root_is up w.down x)

  u_top : IsTop up u of_u
  u_top = top u of_u w.u_in w.u_is

  v_top : IsTop up v of_v
  v_top = top v of_v w.v_in w.v_is

  pub max_inside : (hi : ℕ) → hi ≡ max of_u of_v → hi < length up
  max_inside hi e =
      let a = u_top.low in
      let b = v_top.low in
      let c = inside_up up rs w.view u w.u_in in
      let d = inside_up up rs w.view v w.v_in in
      omega (arith, a, b, c, d, e)

  joined : (hi lo : ℕ) → hi ≡ max of_u of_v → lo ≡ min of_u of_v → of_u ≢ of_v → Moves (roots_of up) (roots_of (set up hi lo)) hi lo
  joined hi lo eh el ne = ⊎_elim
      (λ (lt : of_u < of_v).
      let h : hi ≡ of_v = omega (arith, eh, lt) in
      let l : lo ≡ of_u = omega (arith, el, lt) in
      rw (h, l) (hung up of_v of_u w.down (rw h at (max_inside hi eh)) lt v_top.own u_top.own))
      (λ (le : of_v ≤ of_u).
      let h : hi ≡ of_u = omega (arith, eh, le) in
      let l : lo ≡ of_v = omega (arith, el, le) in
      rw (h, l) (hung up of_u of_v w.down (rw h at (max_inside hi eh)) (omega (arith, le, ne)) u_top.own v_top.own))
      (cases_lt of_u of_v)

  pub join_unites : (hi lo : ℕ) → hi ≡ max of_u of_v → lo ≡ min of_u of_v → of_u ≢ of_v → Unites rs (roots_of (set up hi lo)) u v
  join_unites hi lo eh el ne = rw (← w.u_is, ← w.v_is, ← eh, ← el, ← w.view) (joined hi lo eh el ne)

-- Each number leads to its root at once.

pub record AreSettled (up new : List ℕ) (x : ℕ) : Type 0 where
  pub same : length new ≡ length up
  pub done : (v : ℕ) → v < x → v < length up → get_or new v 0 ≡ root_of up v
  pub left : (v : ℕ) → x ≤ v → get_or new v 0 ≡ get_or up v 0

pub settled_none : (up : List ℕ) → AreSettled up up 0
settled_none up = record { same = refl; done = λ v lt vl. absurd (omega (arith, lt)); left = λ v le. refl }

pub settled_more : (up new : List ℕ) (x above r : ℕ) → LeadDown up → x < length up → AreSettled up new x
    → above ≡ get_or new x above → r ≡ get_or new above r → AreSettled up (set new x r) (x + 1)
settled_more up new x above r h lt s read_above read_r = record {
  same = length-set new x r ∙ s.same;
  done = λ v vl in_up. ⊎_elim
      (λ (e : v ≡ x). rw (e, get_or-set_same new x r 0 (let n = s.same in omega (arith, lt, n))) is)
      (λ ne. get_or-set_other new x v r 0 ne ∙ s.done v (omega (arith, vl, ne)) in_up)
      (cases_eq v x);
  left = λ v le. get_or-set_other new x v r 0 (λ e. absurd (omega (arith, e, le))) ∙ s.left v (omega (arith, le));
}
  where
    ea : above ≡ get_or new x 0
    ea = read_above ∙ get_or_default new x above 0 (let n = s.same in omega (arith, lt, n))

    there : above ≡ get_or up x 0
    there = ea ∙ s.left x (omega arith)

    er : r ≡ get_or new above 0
    er = read_r ∙ get_or_default new above r 0 (let n = s.same in let d = h.down x lt in omega (arith, lt, n, d, there))

    is : r ≡ root_of up x
    is = ⊎_elim
        (λ (less : above < x). er ∙ s.done above less (omega (arith, less, lt)) ∙ ap (root_of up) there ∙ sym (root_steps up h x))
        (λ (le : x ≤ above).
        let d = h.down x lt in
        let e : above ≡ x = omega (arith, d, there, le) in
        er ∙ ap (λ y. get_or new y 0) e ∙ sym ea ∙ e ∙ sym (root_ends up x (sym there ∙ e)))
        (cases_lt above x)

pub settled_all : (up new : List ℕ) (x : ℕ) → length up ≤ x → AreSettled up new x → new ≡ roots_of up
settled_all up new x le s = roots_are up new s.same (λ v lt. s.done v (omega (arith, lt, le)) lt)
