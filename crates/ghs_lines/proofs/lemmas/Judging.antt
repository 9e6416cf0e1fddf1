-- Lines that are judged, with more lines behind them, and the first of their faults.
use Rattle.std.proofs.Common.{◌≡◌, ◌-◌, ◌<◌, ◌≤◌, ◌∙◌, ℕ, zero, suc, List, [], ◌∷◌, ◌++◌, length, take, get_or, refl, sym, ap, arith, ⊎_elim, Option, Some, None, Result, Err, take_all}
use Rattle.std.specs.Option.{option_map, option_or}
use Rattle.std.proofs.Math.ListN.{get_or-append, get_or-eq_default}
use Rattle.std.proofs.Math.Seq.{get_or-append_seam}
use Rattle.std.proofs.lemmas.Bool.{cases_lt, cases_order}
use Rattle.std.proofs.lemmas.List.{length-append, take-append-le}
use Rattle.ghs_lines.specs.Judging.{AreSound, IsFirstFault, Judge, fault_at}

module _ {Line Said Fault : Type 0} (judge : Judge Line Said Fault) where
  -- the lines behind a line don't matter for its fault
  pub fault_at-append : (ls more : List Line) (k : ℕ) → k < length ls → fault_at judge (ls ++ more) k ≡ fault_at judge ls k
  fault_at-append ls more k l =
      ap (λ xs. judge.line_fault (judge.said_in xs) (get_or (ls ++ more) k judge.passed)) (take-append-le k ls more (omega arith))
      ∙ ap (judge.line_fault (judge.said_in (take k ls))) (get_or-append ls more judge.passed k l)

  fault_at-end : (ls : List Line) (l : Line) → fault_at judge (ls ++ l ∷ []) (length ls) ≡ judge.line_fault (judge.said_in ls) l
  fault_at-end ls l =
      ap (λ xs. judge.line_fault (judge.said_in xs) (get_or (ls ++ l ∷ []) (length ls) judge.passed))
      (take-append-le (length ls) ls (l ∷ []) (omega arith) ∙ take_all (length ls) ls (omega arith))
      ∙ ap (judge.line_fault (judge.said_in ls)) (get_or-append_seam ls l [] judge.passed)

  -- one more line without a fault
  pub sound_more : (ls : List Line) (l : Line) → AreSound judge ls → judge.line_fault (judge.said_in ls) l ≡ None → AreSound judge (ls ++ l ∷ [])
  sound_more ls l sound here = λ k b. ⊎_elim
      (λ below. fault_at-append ls (l ∷ []) k below ∙ sound k below)
      (λ end. let at : k ≡ length ls = omega (arith, length-append ls (l ∷ [])) in ap (fault_at judge (ls ++ l ∷ [])) at ∙ fault_at-end ls l ∙ here)
      (cases_lt k (length ls))

  -- a line that says nothing has no fault
  abbrev pub Passes : Type 0
  Passes = (said : Said) → judge.line_fault said judge.passed ≡ None

  module _ (passes : Passes) where
    -- behind the last line there is no fault
    no_line : (ls : List Line) (k : ℕ) → length ls ≤ k → fault_at judge ls k ≡ None
    no_line ls k l = ap (judge.line_fault (judge.said_in (take k ls))) (get_or-eq_default ls judge.passed l) ∙ passes (judge.said_in (take k ls))

    inside : (ls : List Line) (k : ℕ) (f : Fault) → fault_at judge ls k ≡ Some f → k < length ls
    inside ls k f e = ⊎_elim
        (λ below. below)
        (λ behind. let same : Some f ≡ None = sym e ∙ no_line ls k behind in cc)
        (cases_lt k (length ls))

    -- lines behind the first faulty one change nothing
    pub IsFirstFault-append : (ls more : List Line) (n : ℕ) (f : Fault) → IsFirstFault judge ls n f → IsFirstFault judge (ls ++ more) n f
    IsFirstFault-append ls more n f h =
        let below : n - 1 < length ls = inside ls (n - 1) f h.here in
        record {
          counted = h.counted;
          here = fault_at-append ls more (n - 1) below ∙ h.here;
          before = λ k l. fault_at-append ls more k (omega arith) ∙ h.before k l;
        }

    pub not_sound : (ls : List Line) (n : ℕ) (f : Fault) → IsFirstFault judge ls n f → AreSound judge ls → ⊥
    not_sound ls n f h sound = let e : Some f ≡ None = sym h.here ∙ sound (n - 1) (inside ls (n - 1) f h.here) in cc

  -- with faults of the whole text, by the fault of a line and its number
  module _ {Whole : Type 0} (of_line : Fault → ℕ → Whole) where
    -- there is one first fault
    pub same_fault : (ls : List Line) (n m : ℕ) (f g : Fault) → IsFirstFault judge ls n f → IsFirstFault judge ls m g → of_line f n ≡ of_line g m
    same_fault ls n m f g p q = ⊎_elim
        (λ e. let faults : Some f ≡ Some g = sym p.here ∙ ap (λ k. fault_at judge ls (k - 1)) e ∙ q.here in
        let same : f ≡ g = cc in ap (of_line f) e ∙ ap (λ h. of_line h m) same)
        (λ apart. ⊎_elim
        (λ l. let e : Some f ≡ None = sym p.here ∙ q.before (n - 1) (omega (arith, p.counted)) in cc)
        (λ l. let e : Some g ≡ None = sym q.here ∙ p.before (m - 1) (omega (arith, q.counted)) in cc) apart)
        (cases_order n m)

    -- the first fault among the first k lines, found one line after the other
    abbrev pub first_fault : List Line → ℕ → Option Whole
    first_fault ls zero = None
    first_fault ls (suc k) = option_or (first_fault ls k) (option_map (λ fault. of_line fault (suc k)) (fault_at judge ls k))

    -- none of the first k lines has a fault, or this is the first
    abbrev pub FirstBelow : List Line → ℕ → Option Whole → Type 0
    FirstBelow ls k None = (j : ℕ) → j < k → fault_at judge ls j ≡ None
    FirstBelow ls k (Some g) = (n : ℕ) × (f : Fault) × IsFirstFault judge ls n f × (g ≡ of_line f n)

    one_more : (ls : List Line) (k : ℕ) (a : Option Whole) (o : Option Fault) → FirstBelow ls k a → fault_at judge ls k ≡ o
        → FirstBelow ls (suc k) (option_or a (option_map (λ f. of_line f (suc k)) o))
    one_more ls k None None h e = λ j l. ⊎_elim
        (λ low. h j low)
        (λ high. let same : j ≡ k = omega arith in ap (fault_at judge ls) same ∙ e)
        (cases_lt j k)
    one_more ls k None (Some f) h e =
        let at : suc k - 1 ≡ k = omega arith in
        (suc k, f, record { counted = omega arith; here = ap (fault_at judge ls) at ∙ e; before = λ j l. h j (omega arith) }, refl)
    one_more ls k (Some g) o h e = h

    pub first_below : (ls : List Line) (k : ℕ) → FirstBelow ls k (first_fault ls k)
    first_below ls zero = λ j l. absurd (omega arith)
    first_below ls (suc k) = one_more ls k (first_fault ls k) (fault_at judge ls k) (first_below ls k) refl

-- a fault, or else what the lines are
abbrev pub or_fault : {A Fault : Type 0} → Option Fault → Result A Fault → Result A Fault
or_fault None r = r
or_fault (Some fault) r = Err fault
