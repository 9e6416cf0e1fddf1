-- Marks that are set one by one.
use Rattle.std.proofs.Common.{◌≡◌, ◌≢◌, ℕ, suc, Bool, true, false, List, [], ◌∷◌, length, map, filter, set, refl, sym, ◌∙◌, ap, ⊎_elim, arith, length-set, get_or-set_same, get_or-set_other}
use Rattle.std.specs.List.{Contains, slice_get}
use Rattle.std.proofs.lemmas.Bool.{cases_eq, cases_Bool}
use Rattle.std.proofs.lemmas.Option.{same_Some}
use Rattle.std.proofs.lemmas.List.Sums.{sum_by-cons}
use Rattle.ghs_graph.proofs.lemmas.Members.{nothing_in, in_cases}
use Rattle.peer_network.specs.declared.event.Event.{Event}
use Rattle.peer_network.specs.Network.{Network}
use Rattle.ghs_flags.specs.Flags.{count, at, one_if}
use Rattle.peer_index.specs.Places.{all_events, place, HasPlace}
use Rattle.peer_index.specs.Index.{IndexState, IsFor, IsIndexOf, IsIndexBut}
use Rattle.peer_index.proofs.lemmas.Lists.{map_at, map_of}
use Rattle.peer_index.proofs.lemmas.Places.{placed, place_within, only_place}

-- as many are marked as pass
pub count_is : {X : Type 0} (p : X → Bool) (xs : List X) → count (map p xs) ≡ length (filter p xs)
count_is p [] = refl
count_is p (x ∷ xs) = sum_by-cons one_if (p x) (map p xs) ∙ ⊎_elim
    (λ (t : p x ≡ true). rw (t, count_is p xs) (omega arith))
    (λ (f : p x ≡ false). rw (f, count_is p xs) (omega arith)) (cases_Bool (p x))

module _ (g : Network) where
  pub is_for : (p : Event → Bool) (x : IndexState) → IsIndexOf g p x → IsFor g x
  is_for p x of = record { bases = of.bases; fars = of.fars; many = ap length of.marks ∙ many p (all_events g) }
    where
      many : (p : Event → Bool) (es : List Event) → length (map p es) ≡ length es
      many p [] = refl
      many p (e ∷ es) = ap suc (many p es)

  -- a mark more is set, or taken away
  pub for_set : (x : IndexState) (i : ℕ) (marked : Bool) → IsFor g x → IsFor g (record x { marks = set x.marks i marked })
  for_set x i marked is = record { bases = is.bases; fars = is.fars; many = length-set x.marks i marked ∙ is.many }

  pub mark_is : (p : Event → Bool) (x : IndexState) (e : Event) → IsIndexOf g p x → HasPlace g e → at x.marks (place g e) ≡ p e
  mark_is p x e of has = ap (λ bs. at bs (place g e)) of.marks ∙ map_at p (all_events g) (place g e) e (placed g e has)

  -- where another test says the same but for some events
  pub but_of : (p q : Event → Bool) (some : List Event) (x : IndexState) → IsIndexOf g p x →
      ((e : Event) → HasPlace g e → (Contains some e → ⊥) → q e ≡ p e) → IsIndexBut g q some x
  but_of p q some x of same = record {
    index = is_for p x of;
    marks = λ e has none. mark_is p x e of has ∙ sym (same e has none);
  }

  -- where none is left
  pub of_but : (p : Event → Bool) (x : IndexState) → IsIndexBut g p [] x → IsIndexOf g p x
  of_but p x but = record {
    bases = but.index.bases;
    fars = but.index.fars;
    marks = map_of p (all_events g) x.marks but.index.many
        (λ i e h. let there = only_place g i e h in ap (at x.marks) there.1 ∙ but.marks e there.0 (nothing_in e));
  }

  -- one less
  pub but_set : (p : Event → Bool) (e : Event) (some : List Event) (x : IndexState) (marked : Bool) → IsIndexBut g p (e ∷ some) x → HasPlace g e →
      marked ≡ p e → IsIndexBut g p some (record x { marks = set x.marks (place g e) marked })
  but_set p e some x marked but has right = record {
    index = for_set x (place g e) marked but.index;
    marks = λ f there none. ⊎_elim
        (λ (same : place g f ≡ place g e).
        let one : f ≡ e = same_Some f e (sym (placed g f there) ∙ ap (slice_get (all_events g)) same ∙ placed g e has) in
        let within = place_within g e has in
        let many = but.index.many in
        ap (at (set x.marks (place g e) marked)) same ∙ get_or-set_same x.marks (place g e) marked false (omega arith) ∙ right ∙ ap p (sym one))
        (λ (other : place g f ≢ place g e).
        get_or-set_other x.marks (place g e) (place g f) marked false other
        ∙ but.marks f there (λ h. ⊎_elim none (λ (z : e ≡ f). other (ap (place g) (sym z))) (in_cases e f some h)))
        (cases_eq (place g f) (place g e));
  }

-- one event more is marked as it should be
pub marked_one : (g : Network) (p : Event → Bool) (e : Event) (x y : IndexState) (marked : Bool) →
    y ≡ record x { marks = set x.marks (place g e) marked } → marked ≡ p e → HasPlace g e →
    (others : List Event) → IsIndexBut g p (e ∷ others) x → IsIndexBut g p others y
marked_one g p e x y marked same right has others but = rw same (but_set g p e others x marked but has right)
