-- Sweeps of a graph.
use Rattle.std.specs.Prelude.{◌≡◌, ℕ, ◌+◌, Bool, List, [], ◌∷◌, ◌++◌, length, Option, Some, None}
use Rattle.ghs_graph.specs.Graph.{Shape}
use Rattle.ghs_choices.specs.declared.by.By.{By}
use Rattle.peer_parts.specs.Line.{head_line}
use Rattle.ghs_choices.specs.declared.form.Form.{Form}
use Rattle.ghs_choices.specs.declared.form.Form.TheVariants.{Text, Json}
use Rattle.peer_sweep.specs.declared.figures.Figures.{Figures}
use Rattle.peer_sweep.specs.Columns.{Layout}
use Rattle.peer_sweep.specs.Front.{bare_front}
use Rattle.peer_trace.specs.declared.protocol.Protocol.{Protocol}
use Rattle.peer_trace.specs.declared.protocol.Protocol.TheVariants as protocol
use Rattle.ghs_commands.specs.declared.job.Sheet.{Sheet}
use Rattle.ghs_commands.specs.declared.job.SweepOptions.{SweepOptions}
use Rattle.ghs_answers.specs.Sheets.{AreSheetLines, count_of, head_of, setup_of}
use Rattle.ghs_cli.specs.Fronts.{front_by, protocol_head, says_protocol}
use Rattle.ghs_cli.specs.Swept.{AreRunsBy, IsPartedBy, layout_by, part_columns}
use Rattle.ghs_cli.specs.declared.parting.Parting.{Parting}

-- the lines of the sweep of a graph by a protocol, printed of the runs of just its seeds, each behind a front
pub record AreSweptLines (p : Protocol) (o : SweepOptions) (front : List ℕ) (g : Shape) (lines : List ℕ) : Type 0 where
  pub runs : List Figures
  pub are : AreRunsBy p g (setup_of o) o.seeds.first runs
  pub all : length runs ≡ count_of o
  pub printed : AreSheetLines o.sheet o.form front (layout_by p) (setup_of o) o.seeds.first runs lines

-- a seed's run by parts: a line for each of them, each behind a front
abbrev pub IsPartedRun : SweepOptions → Parting → List ℕ → Shape → ℕ → List ℕ → Type 0
IsPartedRun o x front g seed lines = IsPartedBy x.protocol o x.by (part_columns x.several x.protocol x.by) front g seed lines

-- the runs of so many seeds by parts, from the first on, one's lines behind another's
pub data ArePartedRuns (o : SweepOptions) (x : Parting) (front : List ℕ) (g : Shape) (first : ℕ) : ℕ → List ℕ → Type 0 where
  NoRun : ArePartedRuns o x front g first 0 []
  NextRun : (n : ℕ) (text lines : List ℕ) → ArePartedRuns o x front g first n text → IsPartedRun o x front g (first + n) lines →
      ArePartedRuns o x front g first (n + 1) (text ++ lines)

-- the lines of the sweep of a graph by a protocol: of its runs, or of their parts
abbrev pub AreLines : Bool → Protocol → Option By → SweepOptions → List ℕ → Shape → List ℕ → Type 0
AreLines says p None o front g lines = AreSweptLines p o front g lines
AreLines says p (Some by) o front g lines =
    ArePartedRuns o (record { protocol = p; by = by; several = says }) front g o.seeds.first (count_of o) lines

-- the names of its columns
abbrev pub head_by : Bool → Protocol → Layout → Option By → Form → Sheet → List ℕ
head_by says p l None form sheet = head_of l form sheet
head_by says p l (Some by) Text sheet = head_line by (part_columns says p by)
head_by says p l (Some by) Json sheet = []

-- the lines of the sweeps of a graph by protocols, one's behind another's
pub data AreLinesByEach (says : Bool) (o : SweepOptions) (front : List ℕ) (g : Shape) : List Protocol → List ℕ → Type 0 where
  NoProtocol : AreLinesByEach says o front g [] []
  NextProtocol : (ps : List Protocol) (p : Protocol) (text lines : List ℕ) → AreLinesByEach says o front g ps text →
      AreLines says p o.by o (front_by says o.form front p) g lines → AreLinesByEach says o front g (ps ++ p ∷ []) (text ++ lines)

abbrev pub AreLinesBy : List Protocol → SweepOptions → List ℕ → Shape → List ℕ → Type 0
AreLinesBy ps o front g lines = AreLinesByEach (says_protocol o.sheet o.by ps) o front g ps lines

-- the first of the protocols
abbrev pub first_of : List Protocol → Protocol
first_of [] = protocol.Ghs
first_of (p ∷ ps) = p

-- the names of their columns, which are the same for each protocol
abbrev pub heads_of : List Protocol → SweepOptions → List ℕ
heads_of ps o =
    let says = says_protocol o.sheet o.by ps in
    protocol_head says o.form ++ head_by says (first_of ps) (layout_by protocol.Ghs) o.by o.form o.sheet

-- the text of the sweep by protocols that options ask for
pub record IsSwept (ps : List Protocol) (o : SweepOptions) (g : Shape) (text : List ℕ) : Type 0 where
  pub lines : List ℕ
  pub are : AreLinesBy ps o (bare_front o.form) g lines
  pub printed : text ≡ heads_of ps o ++ lines
