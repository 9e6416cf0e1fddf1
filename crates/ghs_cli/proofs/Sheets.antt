-- Sheets of sweeps.
use Rattle.std.proofs.Common.{◌≡◌, ◌++◌, ◌+◌, ◌<◌, ◌≤◌, ◌∙◌, Bool, List, ℕ, [], ◌∷◌, ap, append_assoc, length, refl, subst, sym, take}
use Rattle.std.specs.List.{slice_index_or}
use Rattle.std.proofs.lemmas.List.{take_all, take_more}
use Rattle.ghs_graph.specs.Graph.{Shape}
use Rattle.peer_sweep.specs.declared.figures.Figures.{Figures}
use Rattle.peer_sweep.specs.declared.setup.Setup.{Setup}
use Rattle.peer_sweep.specs.Front.{bare_front}
use Rattle.peer_sweep.specs.Columns.{Layout}
use Rattle.peer_trace.specs.declared.protocol.Protocol.{Protocol}
use Rattle.peer_trace.specs.declared.protocol.Protocol.TheVariants.{Ghs}
use Rattle.ghs_cli.specs.Fronts.{front_by, says_protocol}
use Rattle.ghs_answers.specs.Sheets.{AreSheetLines, count_of, setup_of}
use Rattle.ghs_cli.specs.Swept.{AreRunsBy, layout_by}
use Rattle.ghs_commands.specs.declared.job.SweepOptions.{SweepOptions}
use Rattle.ghs_cli.specs.Sweeping.{AreLines, AreLinesBy, AreLinesByEach, AreSweptLines, IsSwept, NextProtocol, heads_of}

-- what is printed of the runs of just the sweep's seeds is the lines of the sweep
pub sheet_is_swept : (p : Protocol) (o : SweepOptions) (front : List ℕ) (g : Shape) (l : Layout) (setup : Setup) (all runs : List Figures)
    (old new : List ℕ) →
    l ≡ layout_by p →
    setup ≡ setup_of o →
    runs ≡ all →
    AreRunsBy p g (setup_of o) o.seeds.first all →
    length all ≡ count_of o →
    (lines : List ℕ) × AreSheetLines o.sheet o.form front l setup o.seeds.first runs lines × (new ≡ old ++ lines) →
    (lines : List ℕ) × AreSweptLines p o front g lines × (new ≡ old ++ lines)
sheet_is_swept p o front g l setup all runs old new laid same_setup same are count (lines, sheet, printed) = (
  lines,
  record {
    runs = all;
    are = are;
    all = count;
    printed = subst (λ (rs : List Figures). AreSheetLines o.sheet o.form front (layout_by p) (setup_of o) o.seeds.first rs lines) same
        (subst (λ (s : Setup). AreSheetLines o.sheet o.form front (layout_by p) s o.seeds.first runs lines) same_setup
        (subst (λ (x : Layout). AreSheetLines o.sheet o.form front x setup o.seeds.first runs lines) laid sheet));
  },
  printed,
)

-- where the lines by the first protocols stand behind a text, and then those by the next, those by one more do
pub one_protocol_more : (ps : List Protocol) (says : Bool) (o : SweepOptions) (front own : List ℕ) (g : Shape) (i : ℕ) (p : Protocol)
    (old text new : List ℕ) →
    p ≡ slice_index_or ps i Ghs →
    i < length ps →
    own ≡ front_by says o.form front p →
    (lines : List ℕ) × AreLinesByEach says o front g (take i ps) lines × (text ≡ old ++ lines) →
    (lines : List ℕ) × AreLines says p o.by o own g lines × (new ≡ text ++ lines) →
    (lines : List ℕ) × AreLinesByEach says o front g (take (i + 1) ps) lines × (new ≡ old ++ lines)
one_protocol_more ps says o front own g i p old text new is within begun (lines, before, first) (more, next, last) = (
  lines ++ more,
  subst (λ (l : List Protocol). AreLinesByEach says o front g l (lines ++ more))
      (ap (λ (q : Protocol). take i ps ++ q ∷ []) is ∙ sym (take_more ps i Ghs within))
      (NextProtocol (take i ps) p lines more before (subst (λ (f : List ℕ). AreLines says p o.by o f g more) begun next)),
  last ∙ (ap (λ (t : List ℕ). t ++ more) first ∙ append_assoc old lines more),
)

-- with those by the last they are all
pub all_lines : (ps : List Protocol) (says : Bool) (o : SweepOptions) (front : List ℕ) (g : Shape) (i : ℕ) (old new : List ℕ) →
    says ≡ says_protocol o.sheet o.by ps →
    length ps ≤ i →
    (lines : List ℕ) × AreLinesByEach says o front g (take i ps) lines × (new ≡ old ++ lines) →
    (lines : List ℕ) × AreLinesBy ps o front g lines × (new ≡ old ++ lines)
all_lines ps says o front g i old new same past (lines, each, printed) = (
  lines,
  subst (λ (s : Bool). AreLinesByEach s o front g ps lines) same
      (subst (λ (l : List Protocol). AreLinesByEach says o front g l lines) (take_all i ps past) each),
  printed,
)

-- the lines of a graph's sweep behind the head line are its text
pub swept_behind : (ps : List Protocol) (o : SweepOptions) (g : Shape) (front old new : List ℕ) →
    front ≡ bare_front o.form →
    old ≡ heads_of ps o →
    (lines : List ℕ) × AreLinesBy ps o front g lines × (new ≡ old ++ lines) →
    IsSwept ps o g new
swept_behind ps o g front old new bare head (lines, are, printed) = record {
  lines = lines;
  are = subst (λ (f : List ℕ). AreLinesBy ps o f g lines) bare are;
  printed = printed ∙ ap (λ (h : List ℕ). h ++ lines) head;
}
