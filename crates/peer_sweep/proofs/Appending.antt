-- Runs of seeds, one list behind another.
use Rattle.std.proofs.Common.{◌≡◌, ℕ, zero, suc, ◌+◌, ◌*◌, ◌/◌, ◌<◌, ◌≤◌, ◌∷◌, List, [], ◌++◌, append-nil, append_assoc, arith, length, length-append, subst, sym, Vec, Global}
use Rattle.std.specs.Prelude.{Result, Ok, IfOk}
use Rattle.std.specs.declared.alloc.AllocError.{AllocError}
use Rattle.std.proofs.Math.Nat.{div-mul-le_self, le-mul_of_pos_right, lt-mul-div-succ, mul-le-mul_left, mul-suc}
use Rattle.ghs_graph.specs.Graph.{Shape}
use Rattle.peer_sweep.specs.declared.figures.Figures.{Figures}
use Rattle.peer_sweep.specs.declared.setup.Setup.{Setup}
use Rattle.peer_sweep.specs.Sweep.{AreRuns, NextRun, NoRun}

-- the runs of the next seeds stand behind those of the first ones
pub runs_behind : (are : Shape → Setup → ℕ → Figures → Type 0) (g : Shape) (setup : Setup) (first : ℕ) (some next : List Figures) →
    AreRuns are g setup first some →
    AreRuns are g setup (first + length some) next →
    AreRuns are g setup first (some ++ next)
runs_behind are g setup first some _ have NoRun = subst (λ (l : List Figures). AreRuns are g setup first l) (sym (append-nil some)) have
runs_behind are g setup first some _ have (NextRun runs f before last) =
    let all : length (some ++ runs) ≡ length some + length runs = length-append some runs in
    let seed : first + length some + length runs ≡ first + length (some ++ runs) = omega (arith, all) in
    let joined : some ++ runs ++ f ∷ [] ≡ some ++ (runs ++ f ∷ []) = append_assoc some runs (f ∷ []) in
    subst (λ (l : List Figures). AreRuns are g setup first l) joined
    (NextRun (some ++ runs) f (runs_behind are g setup first some runs have before)
    (subst (λ (s : ℕ). are g setup s f) seed last))

-- the run of the next seed stands behind them
pub one_run_more : (are : Shape → Setup → ℕ → Figures → Type 0) (g : Shape) (setup : Setup) (first n : ℕ) (runs new : List Figures) (f : Figures) →
    AreRuns are g setup first runs →
    length runs ≡ n →
    are g setup (first + n) f →
    new ≡ runs ++ f ∷ [] →
    AreRuns are g setup first new
one_run_more are g setup first n runs new f before count next is =
    subst (λ (l : List Figures). AreRuns are g setup first l) (sym is)
    (NextRun runs f before (subst (λ (k : ℕ). are g setup (first + k) f) (sym count) next))

-- the runs of so many seeds
abbrev pub AreSome : (Shape → Setup → ℕ → Figures → Type 0) → Shape → Setup → ℕ → ℕ → List Figures → Type 0
AreSome are g setup first count runs = AreRuns are g setup first runs × (length runs ≡ count)

-- the runs of two shares, where both have theirs
pub runs_of_both : (are : Shape → Setup → ℕ → Figures → Type 0) (g : Shape) (setup : Setup) (first count share : ℕ)
    (r s : Result (Vec Figures Global) AllocError)
    (mine others : Vec Figures Global) (runs : List Figures) →
    IfOk r (λ v. AreSome are g setup first share v.items) →
    IfOk s (λ v. AreSome are g setup (first + share) count v.items) →
    r ≡ Ok mine →
    s ≡ Ok others →
    runs ≡ mine.items ++ others.items →
    AreRuns are g setup first runs
runs_of_both are g setup first count share r s mine others runs first_ones rest is_mine is_others joined =
    let one : AreSome are g setup first share mine.items =
    subst (λ (x : Result (Vec Figures Global) AllocError). IfOk x (λ v. AreSome are g setup first share v.items)) is_mine first_ones in
    let two : AreSome are g setup (first + share) count others.items =
    subst (λ (x : Result (Vec Figures Global) AllocError). IfOk x (λ v. AreSome are g setup (first + share) count v.items)) is_others rest in
    subst (λ (l : List Figures). AreRuns are g setup first l) (sym joined)
    (runs_behind are g setup first mine.items others.items one.0
    (subst (λ (n : ℕ). AreRuns are g setup (first + n) others.items) (sym one.1) two.0))

-- the part of one thread among two or more is less than all
pub part_less : (n t : ℕ) → 2 ≤ n → 2 ≤ t → n / t < n
part_less n zero some two = absurd (omega (arith, two))
part_less n (suc k) some two =
    let most = div-mul-le_self n (suc k) in
    let product = mul-suc (n / suc k) k in
    let grows = le-mul_of_pos_right {m = k} (n / suc k) (omega (arith, two)) in
    omega (arith, some, most, product, grows)

-- the greater of that part and 1: so many for each leave fewer than there are threads
pub part_covers : (n t share : ℕ) → 2 ≤ t → n / t ≤ share → n < t * (share + 1)
part_covers n t share two le =
    let part = lt-mul-div-succ n {b = t} (omega (arith, two)) in
    let grows = mul-le-mul_left {m = n / t + 1} {n = share + 1} t (omega (arith, le)) in
    omega (arith, part, grows)
