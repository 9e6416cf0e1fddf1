-- The next node that has something to do.
use Rattle.std.proofs.Common.{◌≡◌, ℕ, zero, suc, ◌+◌, ◌-◌, ◌<◌, ◌≤◌, Bool, true, false, ◌&&◌, not, cond, Some, None, refl, sym, ◌∙◌, ap, arith, ⊎_elim, max}
use Rattle.std.specs.List.{find, range_with_len}
use Rattle.std.proofs.lemmas.Bool.{cases_lt, cases_Bool}
use Rattle.std.proofs.lemmas.Option.{same_Some}
use Rattle.std.proofs.lemmas.List.Folds.{find-append}
use Rattle.peer_index.proofs.lemmas.Lists.{first_found, none_found}
use Rattle.ghs_world.specs.Outs.{is_out}
use Rattle.ghs_world.specs.WorldState.{WorldState}
use Rattle.ghs_world.specs.Ready.{has_lawful, has_ready, next_node_of}
use Rattle.ghs_world.proofs.Listing.{none_ready}

module _ (s : WorldState) (from : ℕ) where
  pub found_next : (v : ℕ) → find (has_ready s) (range_with_len from (s.net.graph.nodes + 1 - from)) ≡ Some v → next_node_of s from ≡ Some v
  unfolding next_node_of
  found_next v e = find-append (has_ready s) (range_with_len from (s.net.graph.nodes + 1 - from)) (range_with_len 1 s.net.graph.nodes) ∙ rw e refl

  pub else_next : find (has_ready s) (range_with_len from (s.net.graph.nodes + 1 - from)) ≡ None →
      next_node_of s from ≡ find (has_ready s) (range_with_len 1 (s.net.graph.nodes + 1 - 1))
  unfolding next_node_of
  else_next e =
      let n : s.net.graph.nodes + 1 - 1 ≡ s.net.graph.nodes = omega arith in
      rw n (find-append (has_ready s) (range_with_len from (s.net.graph.nodes + 1 - from)) (range_with_len 1 s.net.graph.nodes) ∙ rw e refl)

-- what a search over numbers tells
pub record Tells (p : ℕ → Bool) (a n v : ℕ) : Type 0 where
  pub from : a ≤ v
  pub to : v < a + n
  pub here : p v ≡ true
  pub none : (u : ℕ) → a ≤ u → u < v → p u ≡ false

module _ (p : ℕ → Bool) where
  pub found_tells : (a n v : ℕ) → find p (range_with_len a n) ≡ Some v → Tells p a n v
  found_tells a zero v e = cc
  found_tells a (suc n) v e = ⊎_elim
      (λ (yes_here : p a ≡ true).
      let same : a ≡ v = same_Some a v (sym (ap (λ (b : Bool). cond b (Some a) (find p (range_with_len (a + 1) n))) yes_here) ∙ e) in
      record { from = omega arith; to = omega arith; here = sym (ap p same) ∙ yes_here; none = λ u lo hi. absurd (omega arith) })
      (λ (not_here : p a ≡ false).
      let rest = found_tells (a + 1) n v (sym (ap (λ (b : Bool). cond b (Some a) (find p (range_with_len (a + 1) n))) not_here) ∙ e) in
      let from = rest.from in
      let to = rest.to in
      record {
        from = omega arith;
        to = omega arith;
        here = rest.here;
        none = λ u lo hi. ⊎_elim (λ (lt : a < u). rest.none u (omega arith) hi)
            (λ (le : u ≤ a). let z : u ≡ a = omega arith in rw z not_here) (cases_lt a u);
      })
      (cases_Bool (p a))

  pub none_tells : (a n : ℕ) → find p (range_with_len a n) ≡ None → (u : ℕ) → a ≤ u → u < a + n → p u ≡ false
  none_tells a zero e u lo hi = absurd (omega arith)
  none_tells a (suc n) e u lo hi = ⊎_elim
      (λ (yes_here : p a ≡ true). let k = sym (ap (λ (b : Bool). cond b (Some a) (find p (range_with_len (a + 1) n))) yes_here) ∙ e in cc)
      (λ (not_here : p a ≡ false).
      let rest = sym (ap (λ (b : Bool). cond b (Some a) (find p (range_with_len (a + 1) n))) not_here) ∙ e in
      ⊎_elim (λ (lt : a < u). none_tells (a + 1) n rest u (omega arith) (omega arith))
      (λ (le : u ≤ a). let z : u ≡ a = omega arith in rw z not_here) (cases_lt a u))
      (cases_Bool (p a))

-- where nothing may happen, or the node is out, nothing is ready
and_none : (b : Bool) → (b && false) ≡ false
and_none true = refl
and_none false = refl

pub none_lawful : (s : WorldState) (v : ℕ) → has_lawful s v ≡ false → has_ready s v ≡ false
none_lawful s v e = rw e (and_none (not (is_out s.outs v)))

pub out_not_ready : (s : WorldState) (v : ℕ) → is_out s.outs v ≡ true → has_ready s v ≡ false
out_not_ready s v e = rw e refl

pub home_ready : (s : WorldState) (v : ℕ) → is_out s.outs v ≡ false → has_lawful s v ≡ true → has_ready s v ≡ true
home_ready s v e h = rw (e, h) refl

-- as far as the search for a ready node has come
pub record IsPast (s : WorldState) (low from : ℕ) : Type 0 where
  pub some : 1 ≤ from
  pub order : low ≤ from
  pub none : (u : ℕ) → low ≤ u → u < from → has_ready s u ≡ false

pub past_more : (s : WorldState) (low from v : ℕ) → IsPast s low from → Tells (has_lawful s) from (s.net.graph.nodes + 1 - from) v →
    is_out s.outs v ≡ true → IsPast s low (v + 1)
past_more s low from v past tells out = record {
  some = omega arith;
  order = (let a = tells.from in let b = past.order in omega arith);
  none = λ u lo hi. ⊎_elim
      (λ (lt : u < from). past.none u lo lt)
      (λ (le : from ≤ u). ⊎_elim
      (λ (below : u < v). none_lawful s u (tells.none u le below))
      (λ (above : v ≤ u). let z : u ≡ v = omega arith in rw z (out_not_ready s v out))
      (cases_lt u v))
      (cases_lt u from);
}

pub past_found : (s : WorldState) (low from v : ℕ) → IsPast s low from → Tells (has_lawful s) from (s.net.graph.nodes + 1 - from) v →
    is_out s.outs v ≡ false → find (has_ready s) (range_with_len low (s.net.graph.nodes + 1 - low)) ≡ Some v
past_found s low from v past tells home =
    let a = tells.from in
    let b = tells.to in
    let o = past.order in
    first_found (has_ready s) low (s.net.graph.nodes + 1 - low) v (omega arith) (omega arith)
    (λ u lo hi. ⊎_elim (λ (lt : u < from). past.none u lo lt) (λ (le : from ≤ u). none_lawful s u (tells.none u le hi)) (cases_lt u from))
    (home_ready s v home tells.here)

pub past_none : (s : WorldState) (low from : ℕ) → IsPast s low from →
    find (has_lawful s) (range_with_len from (s.net.graph.nodes + 1 - from)) ≡ None →
    find (has_ready s) (range_with_len low (s.net.graph.nodes + 1 - low)) ≡ None
past_none s low from past e = none_found (has_ready s) low (s.net.graph.nodes + 1 - low) (λ u lo hi. ⊎_elim
    (λ (lt : u < from). past.none u lo lt)
    (λ (le : from ≤ u). none_lawful s u (none_tells (has_lawful s) from (s.net.graph.nodes + 1 - from) e u le (omega arith)))
    (cases_lt u from))

pub past_all : (s : WorldState) (low from : ℕ) → IsPast s low from → s.net.graph.nodes < from →
    find (has_ready s) (range_with_len low (s.net.graph.nodes + 1 - low)) ≡ None
past_all s low from past above = none_found (has_ready s) low (s.net.graph.nodes + 1 - low) (λ u lo hi. past.none u lo (omega arith))

-- the search begins at a number, and at node 1 at least
pub past_start : (s : WorldState) (low from : ℕ) → from ≡ max low 1 → IsPast s low from
past_start s low from e = record {
  some = omega arith;
  order = omega arith;
  none = λ u lo hi. (let z : u ≡ 0 = omega arith in rw z (none_ready s 0 refl));
}
