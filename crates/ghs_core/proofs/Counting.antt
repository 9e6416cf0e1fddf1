-- The classes of numbers, counted one number after another.
use Rattle.std.proofs.Common.{◌≡◌, ℕ, ◌+◌, ◌<◌, ◌≤◌, List, [], ◌∷◌, ◌++◌, length, get_or, set, max, refl, sym, ◌∙◌, ap, ⊎_elim, arith, length-set, get_or-set_same, get_or-set_other}
use Rattle.std.specs.List.{Contains}
use Rattle.std.proofs.lemmas.Bool.{cases_eq, cases_lt}
use Rattle.std.proofs.lemmas.List.{length_push, get_or_default, get_or_push, get_or_append_left}
use Rattle.std.proofs.lemmas.List.Elements.{Contains-push, Contains-push_cases, Contains-append_left}
use Rattle.std.proofs.Math.Nat.{le-max_left, le-max_right, max-eq_left, max-eq_right}
use Rattle.ghs_graph.proofs.lemmas.Members.{nothing_in}
use Rattle.ghs_core.specs.declared.census.FragmentRow.{FragmentRow}
use Rattle.ghs_core.specs.Census.{CountsClass, CountClasses, with_one, no_row}
use Rattle.ghs_core.proofs.Alike.{none_alike, alike_more, alike_less}

module _ (roots : List ℕ) (level : ℕ → ℕ) where
  -- before any number
  pub none_counted : (f : ℕ) → CountsClass roots level 1 f (record { least = f; level = 0; nodes = 0 })
  none_counted f = record {
    least = refl;
    members = [];
    are = none_alike roots f [] refl;
    has = λ lt. absurd (omega (arith, lt));
    most = λ u h. absurd (nothing_in u h);
    nodes = refl;
    few = omega arith;
  }

  -- the next number is of the class
  pub one_counted : (v f : ℕ) (row : FragmentRow) → 1 ≤ v → get_or roots v 0 ≡ f → CountsClass roots level v f row →
      CountsClass roots level (v + 1) f (with_one row (level v))
  one_counted v f row low e c = record {
    least = c.least;
    members = c.members ++ v ∷ [];
    are = alike_more roots v f c.members low e c.are;
    has = has;
    most = most;
    nodes = length_push c.members v ∙ ap (λ n. n + 1) c.nodes;
    few = let few = c.few in omega (arith, few);
  }
    where
      has : 0 < max row.level (level v) → (u : ℕ) × Contains (c.members ++ v ∷ []) u × (level u ≡ max row.level (level v))
      has lt = ⊎_elim
          (λ (less : row.level < level v). (v, Contains-push c.members v, sym (max-eq_right (omega (arith, less)))))
          (λ (more : level v ≤ row.level).
          let top : max row.level (level v) ≡ row.level = max-eq_left more in
          let old = c.has (rw top at lt) in
          (old.0, Contains-append_left c.members (v ∷ []) old.0 old.1, old.2 ∙ sym top))
          (cases_lt row.level (level v))

      most : (u : ℕ) → Contains (c.members ++ v ∷ []) u → level u ≤ max row.level (level v)
      most u h = ⊎_elim
          (λ i. let a = c.most u i in let b = le-max_left row.level (level v) in omega (arith, a, b))
          (λ (z : v ≡ u). rw (← z) (le-max_right row.level (level v)))
          (Contains-push_cases c.members v u h)

  -- the next number isn't
  pub other_counted : (v f : ℕ) (row : FragmentRow) → (get_or roots v 0 ≡ f → ⊥) → CountsClass roots level v f row →
      CountsClass roots level (v + 1) f row
  other_counted v f row ne c = record {
    least = c.least;
    members = c.members;
    are = alike_less roots v f c.members ne c.are;
    has = c.has;
    most = c.most;
    nodes = c.nodes;
    few = let few = c.few in omega (arith, few);
  }

  -- all rows
  pub counted_more : (v f : ℕ) (row : FragmentRow) (rows : List FragmentRow) → 1 ≤ v → get_or roots v 0 ≡ f → f < length roots →
      row ≡ get_or rows f row → CountClasses roots level v rows → CountClasses roots level (v + 1) (set rows f (with_one row (level v)))
  counted_more v f row rows low e lt is c = record { places = length-set rows f _ ∙ c.places; each = each }
    where
      inside : f < length rows
      inside = let p = c.places in omega (arith, p, lt)

      there : row ≡ get_or rows f no_row
      there = is ∙ get_or_default rows f row no_row inside

      each : (k : ℕ) → k < length roots → CountsClass roots level (v + 1) k (get_or (set rows f (with_one row (level v))) k no_row)
      each k kl = ⊎_elim
          (λ (q : k ≡ f). rw (q, get_or-set_same rows f (with_one row (level v)) no_row inside)
          (one_counted v f row low e (rw (← there) at (c.each f lt))))
          (λ ne. rw (get_or-set_other rows f k (with_one row (level v)) no_row ne)
          (other_counted v k (get_or rows k no_row) (λ z. ne (sym z ∙ e)) (c.each k kl)))
          (cases_eq k f)

-- the first rows, before any number
pub record AreBlank (n : ℕ) (rows : List FragmentRow) : Type 0 where
  pub places : length rows ≡ n
  pub each : (k : ℕ) → k < n → get_or rows k no_row ≡ record { least = k; level = 0; nodes = 0 }

pub blank_more : (n : ℕ) (rows : List FragmentRow) → AreBlank n rows → AreBlank (n + 1) (rows ++ record { least = n; level = 0; nodes = 0 } ∷ [])
blank_more n rows b = record {
  places = length_push rows _ ∙ ap (λ (k : ℕ). k + 1) b.places;
  each = λ k lt. ⊎_elim
      (λ (e : k ≡ n). rw (e, get_or_push rows (record { least = n; level = 0; nodes = 0 }) no_row n b.places) refl)
      (λ ne. rw (get_or_append_left rows (record { least = n; level = 0; nodes = 0 } ∷ []) no_row k (let p = b.places in omega (arith, p, ne, lt)))
      (b.each k (omega (arith, ne, lt))))
      (cases_eq k n);
}

pub blank_counted : (roots : List ℕ) (n : ℕ) (rows : List FragmentRow) → n ≡ length roots → AreBlank n rows → (level : ℕ → ℕ) →
    CountClasses roots level 1 rows
blank_counted roots n rows e b level =
    record { places = b.places ∙ e; each = λ f lt. rw (b.each f (omega (arith, e, lt))) (none_counted roots level f) }
