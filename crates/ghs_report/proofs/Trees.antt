-- Trees of fragments as one is put under another.
use Rattle.std.proofs.Common.{◌≡◌, ◌≢◌, ℕ, ◌<◌, ◌≤◌, ◌+◌, inl, inr, ◌⊎◌, ⊎_elim, List, length, get_or, set, sym, ◌∙◌, subst, arith, get_or-set_same, get_or-set_other, length-set}
use Rattle.std.proofs.lemmas.Bool.{cases_eq}
use Rattle.ghs_report.specs.Fragments.{AreTrees}

pub trees_within : (s t : ℕ) (ps ls : List ℕ) → s ≤ t → AreTrees s ps ls → AreTrees t ps ls
trees_within s t ps ls le a = record {
  places = a.places;
  inside = a.inside;
  higher = a.higher;
  top = λ v lt. let z = a.top v lt in omega (arith, z, le);
}

-- one that leads to itself goes under another, which is above it now
pub record GoesUnder (t : ℕ) (ps ls more : List ℕ) (child top : ℕ) : Type 0 where
  pub child_in : child < length ps
  pub top_in : top < length ps
  pub apart : child ≢ top
  pub itself : get_or ps top 0 ≡ top
  pub places : length more ≡ length ls
  pub others : (v : ℕ) → v ≢ top → get_or more v 0 ≡ get_or ls v 0
  pub grows : get_or ls top 0 ≤ get_or more top 0
  pub within : get_or more top 0 ≤ t + 1
  pub above : get_or ls child 0 < get_or more top 0

module _ (t : ℕ) (ps ls more : List ℕ) (child top : ℕ) (u : GoesUnder t ps ls more child top) where
  pub now_child : get_or (set ps child top) child 0 ≡ top
  now_child = get_or-set_same ps child top 0 u.child_in

  pub now_other : (v : ℕ) → v ≢ child → get_or (set ps child top) v 0 ≡ get_or ps v 0
  now_other v ne = get_or-set_other ps child v top 0 ne

  pub trees_under : AreTrees t ps ls → AreTrees (t + 1) (set ps child top) more
  trees_under a = record {
    places = u.places ∙ a.places ∙ sym (length-set ps child top);
    inside = λ v lt. rw (length-set ps child top) (inside v (rw (length-set ps child top) at lt));
    higher = λ v lt. higher v (rw (length-set ps child top) at lt);
    top = λ v lt. at_most v (rw (length-set ps child top) at lt);
  }
    where
      inside : (v : ℕ) → v < length ps → get_or (set ps child top) v 0 < length ps
      inside v lt =
          ⊎_elim (λ (e : v ≡ child). rw (e, now_child) u.top_in) (λ ne. rw (now_other v ne) (a.inside v lt)) (cases_eq v child)

      rises : (v : ℕ) → v < length ps → get_or ls v 0 < get_or ls (get_or ps v 0) 0 → get_or more v 0 < get_or more (get_or ps v 0) 0
      rises v lt less =
          let here : get_or more v 0 ≡ get_or ls v 0 =
          u.others v (λ (e : v ≡ top). absurd (let z : get_or ls top 0 < get_or ls top 0 = (subst (λ x. get_or ls top 0 < get_or ls x 0) u.itself
          (subst (λ x. get_or ls x 0 < get_or ls (get_or ps x 0) 0) e less)) in omega (arith, z))) in
          ⊎_elim
          (λ (e : get_or ps v 0 ≡ top).
          let g = u.grows in let z : get_or ls v 0 < get_or ls top 0 = (subst (λ x. get_or ls v 0 < get_or ls x 0) e less) in
          rw (e, here) (omega (arith, g, z)))
          (λ ne. rw (here, u.others (get_or ps v 0) ne) less) (cases_eq (get_or ps v 0) top)

      higher : (v : ℕ) → v < length ps →
          (get_or (set ps child top) v 0 ≡ v) ⊎ (get_or more v 0 < get_or more (get_or (set ps child top) v 0) 0)
      higher v lt =
          ⊎_elim
          (λ (e : v ≡ child). inr (rw (e, now_child, u.others child u.apart) u.above))
          (λ ne. rw (now_other v ne) (⊎_elim (λ e. inl e) (λ less. inr (rises v lt less)) (a.higher v lt)))
          (cases_eq v child)

      at_most : (v : ℕ) → v < length ps → get_or more v 0 ≤ t + 1
      at_most v lt =
          ⊎_elim (λ (e : v ≡ top). rw e u.within) (λ ne. let z = a.top v lt in rw (u.others v ne) (omega (arith, z))) (cases_eq v top)
