-- Messages counted by their kinds, one after another.
use Rattle.std.proofs.Common.{◌≡◌, ◌≢◌, ℕ, ◌+◌, ◌<◌, ◌≤◌, ◌==◌, List, [], ◌∷◌, ◌++◌, length, get_or, set, take, drop, refl, sym, ◌∙◌, ap, cond, ⊎_elim, eq-eqb, ne_eqb, arith, get_or-set_same, get_or-set_other, length-set}
use Rattle.std.proofs.lemmas.Bool.{cases_eq}
use Rattle.std.proofs.lemmas.List.{take_more, take-append-drop, map-append}
use Rattle.peer_machine.specs.Rules.{Rules, Outgoing, messages}
use Rattle.peer_machine.specs.Ledger.{of_kind}
use Rattle.peer_machine.proofs.lemmas.Balance.{of_kind_append}
use Rattle.peer_parts.specs.Kept.{HasCounted}

module _ {S M : Type 0} (r : Rules S M) where
  front_kinds : (k i : ℕ) (ss : Outgoing M) → of_kind r k (messages (take i ss)) ≤ of_kind r k (messages ss)
  front_kinds k i ss =
      let both = of_kind_append r k (messages (take i ss)) (messages (drop i ss)) in
      let parts : messages (take i ss) ++ messages (drop i ss) ≡ messages ss =
      sym (map-append (λ (s : ℕ × M). s.1) (take i ss) (drop i ss)) ∙ ap (λ (l : Outgoing M). messages l) (take-append-drop i ss) in
      let all : of_kind r k (messages (take i ss) ++ messages (drop i ss)) ≡ of_kind r k (messages ss) = ap (of_kind r k) parts in
      omega (arith, both, all)

  next_messages : (i : ℕ) (ss : Outgoing M) (d x : ℕ × M) → i < length ss → x ≡ get_or ss i d →
      messages (take (i + 1) ss) ≡ messages (take i ss) ++ x.1 ∷ []
  next_messages i ss d x lt is =
      ap (λ (l : Outgoing M). messages l) (take_more ss i d lt ∙ ap (λ (y : ℕ × M). take i ss ++ y ∷ []) (sym is))
      ∙ map-append (λ (s : ℕ × M). s.1) (take i ss) (x ∷ [])

  -- the next message counts once for its own kind, and not for another
  own_kind : (k : ℕ) (ms : List M) (m : M) → k ≡ r.kind_of m → of_kind r k (ms ++ m ∷ []) ≡ of_kind r k ms + 1
  own_kind k ms m e =
      let both = of_kind_append r k ms (m ∷ []) in
      let one : ◌≡◌ {A = ℕ} (cond (r.kind_of m == k) 1 0) 1 = rw (eq-eqb (r.kind_of m) k (sym e)) refl in
      omega (arith, both, one)

  other_kind : (k : ℕ) (ms : List M) (m : M) → k ≢ r.kind_of m → of_kind r k (ms ++ m ∷ []) ≡ of_kind r k ms
  other_kind k ms m ne =
      let both = of_kind_append r k ms (m ∷ []) in
      let none : ◌≡◌ {A = ℕ} (cond (r.kind_of m == k) 1 0) 0 = rw (ne_eqb (r.kind_of m) k (λ z. ne (sym z))) refl in
      omega (arith, both, none)

  -- there is one more of its kind than before it
  pub one_more : (i k : ℕ) (ss : Outgoing M) (d x : ℕ × M) → i < length ss → x ≡ get_or ss i d → k ≡ r.kind_of x.1 →
      of_kind r k (messages (take i ss)) + 1 ≤ of_kind r k (messages ss)
  one_more i k ss d x lt is e =
      let own = own_kind k (messages (take i ss)) x.1 e in
      let next : of_kind r k (messages (take (i + 1) ss)) ≡ of_kind r k (messages (take i ss) ++ x.1 ∷ []) =
      ap (of_kind r k) (next_messages i ss d x lt is) in
      let front = front_kinds k (i + 1) ss in
      omega (arith, own, next, front)

  -- one message more is counted
  pub counted_more : (i k : ℕ) (ss : Outgoing M) (d x : ℕ × M) (old now : List ℕ) → length old ≡ r.kinds → i < length ss → x ≡ get_or ss i d →
      k ≡ r.kind_of x.1 → k < r.kinds → HasCounted r (messages (take i ss)) old now →
      HasCounted r (messages (take (i + 1) ss)) old (set now k (get_or now k 0 + 1))
  counted_more i k ss d x old now width lt is e small counts = rw (next_messages i ss d x lt is) (record {
    kinds = length-set now k _ ∙ counts.kinds;
    each = λ j below. ⊎_elim (hit j below) (miss j below) (cases_eq j k);
  })
    where
      inside : k < length now
      inside = let same = counts.kinds in omega (arith, same, width, small)

      hit : (j : ℕ) → j < r.kinds → j ≡ k →
          get_or (set now k (get_or now k 0 + 1)) j 0 ≡ get_or old j 0 + of_kind r j (messages (take i ss) ++ x.1 ∷ [])
      hit j below z =
          let put : get_or (set now k (get_or now k 0 + 1)) j 0 ≡ get_or now j 0 + 1 =
          rw z (get_or-set_same now k (get_or now k 0 + 1) 0 inside) in
          let own = own_kind j (messages (take i ss)) x.1 (z ∙ e) in
          let had = counts.each j below in
          omega (arith, put, own, had)

      miss : (j : ℕ) → j < r.kinds → j ≢ k →
          get_or (set now k (get_or now k 0 + 1)) j 0 ≡ get_or old j 0 + of_kind r j (messages (take i ss) ++ x.1 ∷ [])
      miss j below ne =
          let kept : get_or (set now k (get_or now k 0 + 1)) j 0 ≡ get_or now j 0 = get_or-set_other now k j (get_or now k 0 + 1) 0 ne in
          let other = other_kind j (messages (take i ss)) x.1 (λ z. ne (z ∙ sym e)) in
          let had = counts.each j below in
          omega (arith, kept, other, had)
