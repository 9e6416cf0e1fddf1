-- The least Basic port, and what a change of one port makes of it.
use Rattle.std.proofs.Common.{◌≡◌, ◌≢◌, ℕ, ◌+◌, ◌<◌, ◌≤◌, Bool, true, false, List, length, set, Some, None, min, sym, ◌∙◌, ap, ⊎_elim, arith, length-set, get_or-set_same, get_or-set_other, zero-le}
use Rattle.std.specs.List.{position_or_len}
use Rattle.std.proofs.lemmas.Bool.{cases_eq, cases_lt, lt-ltb, le-ltb}
use Rattle.std.proofs.lemmas.List.Sums.{position_or_len_is}
use Rattle.boruvka_node.specs.declared.port_state.PortState.{PortState}
use Rattle.boruvka_node.specs.Words.{is_basic}
use Rattle.boruvka_node.specs.State.{least_basic, no_port}
use Rattle.boruvka_node.specs.Counters.{IsFirstBasic, is_basic_at}

abbrev basic : PortState → Bool
basic x = is_basic x.mark

pub least_some : (ps : List PortState) (i : ℕ) → IsFirstBasic ps 0 i → i < length ps → least_basic ps ≡ Some i
least_some ps i f lt =
    let at : position_or_len basic ps ≡ i = position_or_len_is basic ps i no_port (omega arith) (λ k h. f.before k zero-le h) (λ h. f.here lt) in
    rw (at, lt-ltb i (length ps) lt)

pub least_none : (ps : List PortState) (i : ℕ) → IsFirstBasic ps 0 i → length ps ≤ i → least_basic ps ≡ None
least_none ps i f le =
    let at : position_or_len basic ps ≡ length ps =
    position_or_len_is basic ps (length ps) no_port (omega arith) (λ k h. f.before k zero-le (omega arith)) (λ h. absurd (omega arith)) in
    rw (at, le-ltb (length ps) (length ps) (omega arith))

module _ (ps : List PortState) (p : ℕ) (lt : p < length ps) (x : PortState) where
  at_port : is_basic_at (set ps p x) p ≡ is_basic x.mark
  at_port = ap basic (get_or-set_same ps p x no_port lt)

  elsewhere : (k : ℕ) → k ≢ p → is_basic_at (set ps p x) k ≡ is_basic_at ps k
  elsewhere k ne = ap basic (get_or-set_other ps p k x no_port ne)

  -- one that is Basic now: at the port at the latest
  pub basic_with : (i : ℕ) → is_basic x.mark ≡ true → IsFirstBasic ps 0 i → IsFirstBasic (set ps p x) 0 (min p i)
  basic_with i b f = record {
    from = zero-le;
    within = let l = length-set ps p x in omega arith;
    before = λ k lo hi. elsewhere k (λ e. absurd (omega arith)) ∙ f.before k lo (omega arith);
    here = λ h. ⊎_elim
        (λ (e : min p i ≡ p). rw e (at_port ∙ b))
        (λ ne. let e : min p i ≡ i = omega arith in
        rw e (elsewhere i (λ z. ne (omega arith)) ∙ f.here (omega arith)))
        (cases_eq (min p i) p);
  }

  -- the least one is so no more: the next one
  pub next_with : (i j : ℕ) → is_basic x.mark ≡ false → p ≡ i → IsFirstBasic ps 0 i → IsFirstBasic ps (i + 1) j → IsFirstBasic (set ps p x) 0 j
  next_with i j other here f n = record {
    from = zero-le;
    within = let l = length-set ps p x in let w = n.within in omega arith;
    before = λ k lo hi. ⊎_elim
        (λ (e : k ≡ p). rw e (at_port ∙ other))
        (λ ne. ⊎_elim
        (λ (below : k < i). elsewhere k ne ∙ f.before k zero-le below)
        (λ (above : i ≤ k). elsewhere k ne ∙ n.before k (omega arith) hi)
        (cases_lt k i))
        (cases_eq k p);
    here = λ h. let l = length-set ps p x in let o = n.from in elsewhere j (λ z. absurd (omega arith)) ∙ n.here (omega arith);
  }

  -- another one isn't Basic: the same
  pub same_with : (i : ℕ) → is_basic x.mark ≡ false → p ≢ i → IsFirstBasic ps 0 i → IsFirstBasic (set ps p x) 0 i
  same_with i other apart f = record {
    from = zero-le;
    within = let l = length-set ps p x in let w = f.within in omega arith;
    before = λ k lo hi. ⊎_elim
        (λ (e : k ≡ p). rw e (at_port ∙ other))
        (λ ne. elsewhere k ne ∙ f.before k lo hi) (cases_eq k p);
    here = λ h. let l = length-set ps p x in elsewhere i (λ z. apart (sym z)) ∙ f.here (omega arith);
  }

  pub least_basic_one : (i : ℕ) → is_basic x.mark ≡ true → IsFirstBasic ps 0 i → least_basic (set ps p x) ≡ Some (min p i)
  least_basic_one i b f =
      let l = length-set ps p x in
      least_some (set ps p x) (min p i) (basic_with i b f) (omega arith)

  pub least_next : (i j : ℕ) → is_basic x.mark ≡ false → p ≡ i → IsFirstBasic ps 0 i → IsFirstBasic ps (i + 1) j → j < length ps
      → least_basic (set ps p x) ≡ Some j
  least_next i j other here f n in-list =
      let l = length-set ps p x in
      least_some (set ps p x) j (next_with i j other here f n) (omega arith)

  pub least_gone : (i j : ℕ) → is_basic x.mark ≡ false → p ≡ i → IsFirstBasic ps 0 i → IsFirstBasic ps (i + 1) j → length ps ≤ j
      → least_basic (set ps p x) ≡ None
  least_gone i j other here f n past =
      let l = length-set ps p x in
      least_none (set ps p x) j (next_with i j other here f n) (omega arith)

  pub least_same : (i : ℕ) → is_basic x.mark ≡ false → p ≢ i → IsFirstBasic ps 0 i → least_basic (set ps p x) ≡ least_basic ps
  least_same i other apart f =
      let l = length-set ps p x in
      let after = same_with i other apart f in
      ⊎_elim
      (λ (some : i < length ps). least_some (set ps p x) i after (omega arith) ∙ sym (least_some ps i f some))
      (λ (none : length ps ≤ i). least_none (set ps p x) i after (omega arith) ∙ sym (least_none ps i f none))
      (cases_lt i (length ps))
