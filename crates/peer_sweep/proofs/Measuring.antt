-- Lines of measures, one behind another.
use Rattle.std.proofs.Common.{[], ◌∷◌, ◌≡◌, ◌++◌, ◌+◌, ◌<◌, ◌∙◌, List, ℕ, ap, append_assoc, length, subst, sym, take}
use Rattle.std.specs.List.{slice_index_or}
use Rattle.std.proofs.lemmas.List.{take_more}
use Rattle.ghs_choices.specs.declared.form.Form.{Form}
use Rattle.peer_sweep.specs.declared.figures.Figures.{Figures}
use Rattle.peer_sweep.specs.declared.column.Column.{Column}
use Rattle.peer_sweep.specs.Summary.{AreSummaryLines, IsMeasureLine, NextMeasure}

-- where the lines of the first measures stand behind a text, and then that of the next, those of one more do
pub one_measure_more : (form : Form) (front : List ℕ) (runs : List Figures) (cs : List Column) (i : ℕ) (c : Column) (old text new : List ℕ) →
    c ≡ slice_index_or cs i c →
    i < length cs →
    (lines : List ℕ) × AreSummaryLines form front runs (take i cs) lines × (text ≡ old ++ lines) →
    (line : List ℕ) × IsMeasureLine form front runs c line × (new ≡ text ++ line) →
    (lines : List ℕ) × AreSummaryLines form front runs (take (i + 1) cs) lines × (new ≡ old ++ lines)
one_measure_more form front runs cs i c old text new is within (lines, before, first) (line, next, last) = (
  lines ++ line,
  subst (λ (l : List Column). AreSummaryLines form front runs l (lines ++ line))
      (ap (λ (d : Column). take i cs ++ d ∷ []) is ∙ sym (take_more cs i c within))
      (NextMeasure (take i cs) c lines line before next),
  last ∙ (ap (λ (t : List ℕ). t ++ line) first ∙ append_assoc old lines line),
)
