-- What the sweep of a network prints: lines, or a chart, whose panels show how figures of its runs lie by the bound.
use Rattle.std.specs.Prelude.{◌≡◌, ℕ, ◌+◌, Bool, List, [], ◌∷◌, ◌++◌, length}
use Rattle.ghs_graph.specs.Graph.{Shape}
use Rattle.ghs_chart.specs.Chart.{chart_head, panel_text}
use Rattle.ghs_chart.specs.declared.panel.Caption.{Caption}
use Rattle.ghs_chart.specs.declared.texts.TheConstants.{CHART_TAIL}
use Rattle.peer_sweep.specs.declared.figures.Figures.{Figures}
use Rattle.peer_sweep.specs.declared.measure.Measure.TheVariants.{Chain, Requeued, Sent}
use Rattle.peer_sweep.specs.Summary.{IsRising, values_of}
use Rattle.peer_trace.specs.declared.protocol.Protocol.{Protocol}
use Rattle.ghs_commands.specs.declared.job.Sheet.{Sheet}
use Rattle.ghs_commands.specs.declared.job.Sheet.TheVariants.{Chart, Runs, Summary}
use Rattle.ghs_commands.specs.declared.job.SweepOptions.{SweepOptions}
use Rattle.ghs_cli.specs.Fronts.{are_several, panel_name}
use Rattle.ghs_answers.specs.Sheets.{setup_of}
use Rattle.ghs_cli.specs.Swept.{AreRunsBy, IsBoundBy}
use Rattle.ghs_answers.specs.Sheets.{count_of}
use Rattle.ghs_cli.specs.Sweeping.{IsSwept}

-- what is said of a network and its runs
pub record IsCaption (p : Protocol) (g : Shape) (runs : ℕ) (c : Caption) : Type 0 where
  pub nodes : c.nodes ≡ g.nodes
  pub links : c.links ≡ length g.keys
  pub many : c.runs ≡ runs
  pub bound : IsBoundBy p g c.bound

-- the panel of runs of a network, at a place and with a name
pub record IsPanelOf (p : Protocol) (place : ℕ) (name : List ℕ) (g : Shape) (runs : List Figures) (panel : List ℕ) : Type 0 where
  pub caption : Caption
  pub about : IsCaption p g (length runs) caption
  pub sent : List ℕ
  pub sent_rise : IsRising (values_of Sent runs) sent
  pub requeued : List ℕ
  pub requeued_rise : IsRising (values_of Requeued runs) requeued
  pub chains : List ℕ
  pub chains_rise : IsRising (values_of Chain runs) chains
  pub printed : panel ≡ panel_text place name caption sent requeued chains

-- the panel of a network's sweep, of the runs of just its seeds
pub record IsPanel (p : Protocol) (o : SweepOptions) (place : ℕ) (name : List ℕ) (g : Shape) (panel : List ℕ) : Type 0 where
  pub runs : List Figures
  pub are : AreRunsBy p g (setup_of o) o.seeds.first runs
  pub all : length runs ≡ count_of o
  pub drawn : IsPanelOf p place name g runs panel

-- the panels of a network's sweeps by protocols, from a place on, one's below another's
pub data ArePanelsByEach (several : Bool) (o : SweepOptions) (place : ℕ) (name : List ℕ) (g : Shape) : List Protocol → List ℕ → Type 0 where
  NoPanel : ArePanelsByEach several o place name g [] []
  NextPanel : (ps : List Protocol) (p : Protocol) (text panel : List ℕ) → ArePanelsByEach several o place name g ps text →
      IsPanel p o (place + length ps) (panel_name several name p) g panel →
      ArePanelsByEach several o place name g (ps ++ p ∷ []) (text ++ panel)

abbrev pub ArePanelsBy : List Protocol → SweepOptions → ℕ → List ℕ → Shape → List ℕ → Type 0
ArePanelsBy ps o place name g panels = ArePanelsByEach (are_several ps) o place name g ps panels

-- the chart of one network without its name
pub record IsNamelessChart (ps : List Protocol) (o : SweepOptions) (g : Shape) (text : List ℕ) : Type 0 where
  pub panels : List ℕ
  pub each : ArePanelsBy ps o 0 [] g panels
  pub printed : text ≡ chart_head (length ps) ++ panels ++ CHART_TAIL.now

-- what a sweep of a graph by protocols prints: lines, or a chart
abbrev pub IsSweepText : List Protocol → Sheet → SweepOptions → Shape → List ℕ → Type 0
IsSweepText ps Runs o g text = IsSwept ps o g text
IsSweepText ps Summary o g text = IsSwept ps o g text
IsSweepText ps Chart o g text = IsNamelessChart ps o g text
