-- Sweeps of networks, whose lines begin with names, or whose charts have a panel for each.
use Rattle.std.specs.Prelude.{◌≡◌, ℕ, ◌*◌, ◌<◌, List, [], ◌∷◌, ◌++◌, length, string_bytes, Option, Result, Ok, Err}
use Rattle.ghs_report.specs.Writing.{HasWritten}
use Rattle.ghs_chart.specs.Chart.{chart_head}
use Rattle.ghs_chart.specs.declared.texts.TheConstants.{CHART_TAIL}
use Rattle.ghs_choices.specs.declared.form.Form.{Form}
use Rattle.ghs_choices.specs.declared.form.Form.TheVariants.{Text, Json}
use Rattle.peer_sweep.specs.declared.front.TheConstants.{FRONT_HEAD}
use Rattle.peer_sweep.specs.Front.{front_of}
use Rattle.ghs_commands.specs.declared.job.Sheet.{Sheet}
use Rattle.ghs_commands.specs.declared.job.Sheet.TheVariants.{Chart, Runs, Summary}
use Rattle.ghs_commands.specs.declared.job.SweepOptions.{SweepOptions}
use Rattle.ghs_answers.specs.declared.fault.ServeFault.{ServeFault}
use Rattle.ghs_answers.specs.declared.fault.ServeFault.TheVariants as serve
use Rattle.ghs_cli.specs.declared.networks.Network.{Network}
use Rattle.ghs_cli.specs.Charts.{ArePanelsBy}
use Rattle.ghs_cli.specs.Sweeping.{AreLinesBy, heads_of}
use Rattle.peer_trace.specs.declared.protocol.Protocol.{Protocol}

-- the lines of a network begin with its name
pub record AreLinesOf (ps : List Protocol) (o : SweepOptions) (n : Network) (lines : List ℕ) : Type 0 where
  pub swept : AreLinesBy ps o (front_of o.form (string_bytes n.name)) n.graph lines

-- the lines of networks, one's behind another's
pub data AreLinesOfAll (ps : List Protocol) (o : SweepOptions) : List Network → List ℕ → Type 0 where
  NoNetwork : AreLinesOfAll ps o [] []
  NextNetwork : (ns : List Network) (n : Network) (text lines : List ℕ) → AreLinesOfAll ps o ns text → AreLinesOf ps o n lines →
      AreLinesOfAll ps o (ns ++ n ∷ []) (text ++ lines)

-- the name of the column of names
abbrev pub front_head : Form → List ℕ
front_head Text = FRONT_HEAD.now
front_head Json = []

-- the text of a sweep of networks by protocols: one head line, and the lines of each network, by each protocol
pub record IsNetworksText (ps : List Protocol) (o : SweepOptions) (ns : List Network) (text : List ℕ) : Type 0 where
  pub lines : List ℕ
  pub each : AreLinesOfAll ps o ns lines
  pub printed : text ≡ front_head o.form ++ heads_of ps o ++ lines

-- the panels of networks by protocols, one's below another's
pub data ArePanels (ps : List Protocol) (o : SweepOptions) : List Network → List ℕ → Type 0 where
  NoPanels : ArePanels ps o [] []
  NextPanels : (ns : List Network) (n : Network) (text panels : List ℕ) → ArePanels ps o ns text →
      ArePanelsBy ps o (length ns * length ps) (string_bytes n.name) n.graph panels → ArePanels ps o (ns ++ n ∷ []) (text ++ panels)

-- the chart of networks
pub record IsChart (ps : List Protocol) (o : SweepOptions) (ns : List Network) (text : List ℕ) : Type 0 where
  pub panels : List ℕ
  pub each : ArePanels ps o ns panels
  pub printed : text ≡ chart_head (length ns * length ps) ++ panels ++ CHART_TAIL.now

-- what a sweep of networks by protocols prints
abbrev pub IsSweepOf : List Protocol → Sheet → SweepOptions → List Network → List ℕ → Type 0
IsSweepOf ps Runs o ns text = IsNetworksText ps o ns text
IsSweepOf ps Summary o ns text = IsNetworksText ps o ns text
IsSweepOf ps Chart o ns text = IsChart ps o ns text

-- what has gone out of a sweep of networks: all of its text, or only its first bytes, where a write failed; nothing where memory ran out
abbrev pub HasSwept : List Protocol → SweepOptions → List Network → Option (List ℕ) → Option (List ℕ) → Result (Unit {0}) ServeFault → Type 0
HasSwept ps o ns old new (Ok u) = (output : List ℕ) × IsSweepOf ps o.sheet o ns output × HasWritten old new output (length output)
HasSwept ps o ns old new (Err (serve.Write written)) =
    (output : List ℕ) × IsSweepOf ps o.sheet o ns output × (written < length output) × HasWritten old new output written
HasSwept ps o ns old new (Err serve.Memory) = new ≡ old
HasSwept ps o ns old new (Err fault) = ⊥
