-- Lines of the parts of runs, one run's behind another's.
use Rattle.std.proofs.Common.{◌≡◌, ◌++◌, ◌+◌, ◌-◌, ◌<◌, ◌≤◌, List, ℕ, [], append-nil, append_assoc, arith, subst, sym, Vec, Global}
use Rattle.std.specs.Prelude.{IfOk, Result, Ok}
use Rattle.std.specs.declared.alloc.AllocError.{AllocError}
use Rattle.ghs_graph.specs.Graph.{Shape}
use Rattle.ghs_commands.specs.declared.job.SweepOptions.{SweepOptions}
use Rattle.ghs_cli.specs.declared.parting.Parting.{Parting}
use Rattle.ghs_cli.specs.Sweeping.{ArePartedRuns, IsPartedRun, NextRun, NoRun}

module _ (o : SweepOptions) (x : Parting) (front : List ℕ) (g : Shape) where
  -- with the lines of the next run there are those of one run more
  pub one_run_more : (first n : ℕ) (old new : List ℕ) → ArePartedRuns o x front g first n old →
      (lines : List ℕ) × IsPartedRun o x front g (first + n) lines × (new ≡ old ++ lines) →
      ArePartedRuns o x front g first (n + 1) new
  one_run_more first n old new before (lines, is, printed) =
      subst (ArePartedRuns o x front g first (n + 1)) (sym printed) (NextRun n old lines before is)

  -- the lines of some runs, and behind them those of the next
  pub runs_joined : (first n m : ℕ) (text more : List ℕ) → ArePartedRuns o x front g first n text → ArePartedRuns o x front g (first + n) m more →
      ArePartedRuns o x front g first (n + m) (text ++ more)
  runs_joined first n _ text _ before NoRun =
      let none : n ≡ n + 0 = omega arith in
      subst (λ (k : ℕ). ArePartedRuns o x front g first k (text ++ [])) none
      (subst (ArePartedRuns o x front g first n) (sym (append-nil text)) before)
  runs_joined first n _ text _ before (NextRun k lines last rest is) =
      let here = runs_joined first n k text lines before rest in
      let seed : first + n + k ≡ first + (n + k) = omega arith in
      let one = NextRun (n + k) (text ++ lines) last here (subst (λ (s : ℕ). IsPartedRun o x front g s last) seed is) in
      let count : n + k + 1 ≡ n + (k + 1) = omega arith in
      subst (λ (t : List ℕ). ArePartedRuns o x front g first (n + (k + 1)) t) (append_assoc text lines last)
      (subst (λ (j : ℕ). ArePartedRuns o x front g first j (text ++ lines ++ last)) count one)

-- the lines of two shares, where both have theirs
pub parted_by_both : (o : SweepOptions) (x : Parting) (front : List ℕ) (g : Shape) (first count share : ℕ) (r s : Result (Vec ℕ Global) AllocError)
    (mine others : Vec ℕ Global) (lines : List ℕ) →
    share < count →
    IfOk r (λ v. ArePartedRuns o x front g first share v.items) →
    IfOk s (λ v. ArePartedRuns o x front g (first + share) (count - share) v.items) →
    r ≡ Ok mine →
    s ≡ Ok others →
    lines ≡ mine.items ++ others.items →
    ArePartedRuns o x front g first count lines
parted_by_both o x front g first count share r s mine others lines less first_ones rest is_mine is_others joined =
    let one : ArePartedRuns o x front g first share mine.items =
    subst (λ (z : Result (Vec ℕ Global) AllocError). IfOk z (λ v. ArePartedRuns o x front g first share v.items)) is_mine first_ones in
    let two : ArePartedRuns o x front g (first + share) (count - share) others.items =
    subst (λ (z : Result (Vec ℕ Global) AllocError). IfOk z (λ v. ArePartedRuns o x front g (first + share) (count - share) v.items))
    is_others rest in
    let all : share + (count - share) ≡ count = omega (arith, less) in
    subst (λ (l : List ℕ). ArePartedRuns o x front g first count l) (sym joined)
    (subst (λ (n : ℕ). ArePartedRuns o x front g first n (mine.items ++ others.items)) all
    (runs_joined o x front g first share (count - share) mine.items others.items one two))

-- before the first portion there are none
pub none_yet : (o : SweepOptions) (x : Parting) (front : List ℕ) (g : Shape) (count : ℕ) (lines : List ℕ) → lines ≡ [] →
    ArePartedRuns o x front g o.seeds.first (count - count) lines
none_yet o x front g count lines empty =
    let none : 0 ≡ count - count = omega arith in
    subst (λ (l : List ℕ). ArePartedRuns o x front g o.seeds.first (count - count) l) (sym empty)
    (subst (λ (n : ℕ). ArePartedRuns o x front g o.seeds.first n []) none NoRun)

-- with the lines of the next portion there are those of so many runs more
pub one_portion_more : (o : SweepOptions) (x : Parting) (front : List ℕ) (g : Shape) (count left portion next : ℕ) (old more new : List ℕ) →
    portion ≤ left → left ≤ count → next ≡ o.seeds.first + (count - left) →
    ArePartedRuns o x front g o.seeds.first (count - left) old →
    ArePartedRuns o x front g next portion more →
    new ≡ old ++ more →
    ArePartedRuns o x front g o.seeds.first (count - (left - portion)) new
one_portion_more o x front g count left portion next old more new within some is before after joined =
    let all : count - left + portion ≡ count - (left - portion) = omega (arith, within, some) in
    subst (λ (l : List ℕ). ArePartedRuns o x front g o.seeds.first (count - (left - portion)) l) (sym joined)
    (subst (λ (n : ℕ). ArePartedRuns o x front g o.seeds.first n (old ++ more)) all
    (runs_joined o x front g o.seeds.first (count - left) portion old more before
    (subst (λ (s : ℕ). ArePartedRuns o x front g s portion more) is after)))
