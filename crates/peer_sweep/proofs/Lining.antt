-- Lines of runs, one behind another.
use Rattle.std.proofs.Common.{◌≡◌, ℕ, ◌+◌, ◌<◌, ◌∷◌, ◌∙◌, List, [], ◌++◌, append-nil, append_assoc, ap, arith, length, sym, take}
use Rattle.std.specs.List.{slice_index_or}
use Rattle.std.proofs.lemmas.List.{length-take-le, take_more}
use Rattle.peer_sweep.specs.declared.figures.Figures.{Figures}
use Rattle.peer_sweep.specs.Lines.{run_lines}

-- the line of the next run is the last
pub last_line : (line : ℕ → Figures → List ℕ) (first : ℕ) (fs : List Figures) (f : Figures) →
    run_lines line first (fs ++ f ∷ []) ≡ run_lines line first fs ++ line (first + length fs) f
last_line line first [] f =
    let seed : first ≡ first + 0 = omega arith in
    append-nil (line first f) ∙ ap (λ (s : ℕ). line s f) seed
last_line line first (x ∷ fs) f =
    let seed : first + 1 + length fs ≡ first + length (x ∷ fs) = omega arith in
    let rest = last_line line (first + 1) fs f ∙ ap (λ (s : ℕ). run_lines line (first + 1) fs ++ line s f) seed in
    ap (λ (l : List ℕ). line first x ++ l) rest
    ∙ sym (append_assoc (line first x) (run_lines line (first + 1) fs) (line (first + length (x ∷ fs)) f))

-- with the line of the next run a text has the lines of one run more
pub one_line_more : (line : ℕ → Figures → List ℕ) (first i : ℕ) (runs : List Figures) (f : Figures) (head old new : List ℕ) →
    i < length runs →
    old ≡ head ++ run_lines line first (take i runs) →
    new ≡ old ++ line (first + i) (slice_index_or runs i f) →
    new ≡ head ++ run_lines line first (take (i + 1) runs)
one_line_more line first i runs f head old new within before last =
    let count : length (take i runs) ≡ i = length-take-le i runs (omega (arith, within)) in
    let next = slice_index_or runs i f in
    let lines = last_line line first (take i runs) next in
    let all : run_lines line first (take (i + 1) runs) ≡ run_lines line first (take i runs) ++ line (first + i) next =
    ap (λ (l : List Figures). run_lines line first l) (take_more runs i f within)
    ∙ (lines ∙ ap (λ (n : ℕ). run_lines line first (take i runs) ++ line (first + n) next) count) in
    last ∙ (ap (λ (t : List ℕ). t ++ line (first + i) next) before
    ∙ (append_assoc head (run_lines line first (take i runs)) (line (first + i) next) ∙ ap (λ (l : List ℕ). head ++ l) (sym all)))
