-- How each protocol is swept. A further protocol has a line in each definition by protocols here.
use Rattle.std.specs.Prelude.{◌≡◌, ℕ, Bool, true, false, List, [], ◌∷◌, codes, length}
use Rattle.ghs_graph.specs.Bound.{IsBound}
use Rattle.ghs_graph.specs.Graph.{Shape}
use Rattle.ghs_choices.specs.declared.by.By.{By}
use Rattle.ghs_commands.specs.declared.job.SweepOptions.{SweepOptions}
use Rattle.peer_trace.specs.declared.protocol.Protocol.{Protocol}
use Rattle.peer_trace.specs.declared.protocol.Protocol.TheVariants as protocol
use Rattle.boruvka.specs.Ended.{HasEnded, marks_branch}
use Rattle.boruvka.specs.Words.{words}
use Rattle.boruvka_node.specs.Boruvka.{boruvka}
use Rattle.boruvka_protocol.specs.Bound.{bound_of}
use Rattle.echo.specs.Echo as wave
use Rattle.echo.specs.Ended as wave_end
use Rattle.echo.specs.Words as wave_words
use Rattle.gather.specs.Words as gather_words
use Rattle.gather_node.specs.Gather.{gather}
use Rattle.gather_protocol.specs.Bound as gather_bound
use Rattle.gather_protocol.specs.Laws as gather_laws
use Rattle.ghs_answers.specs.Sheets.{setup_of}
use Rattle.ghs_cli.specs.Parted.{IsPartedByGhs}
use Rattle.ghs_sweep.specs.Measure.{about_ghs}
use Rattle.ghs_sweep.specs.Sweep as ghs
use Rattle.peer_machine.specs.Net.{Net}
use Rattle.peer_machine.specs.Rules.{Rules}
use Rattle.peer_parts.specs.Columns.{columns_by, names_of}
use Rattle.peer_parts.specs.Seeded.{IsPartedRun}
use Rattle.peer_parts.specs.declared.columns.Column.{Column}
use Rattle.peer_sweep.specs.About.{About}
use Rattle.peer_sweep.specs.Columns.{Layout, layout_of}
use Rattle.peer_sweep.specs.Runs as rules
use Rattle.peer_sweep.specs.Sweep.{AreRuns}
use Rattle.peer_sweep.specs.declared.figures.Figures.{Figures}
use Rattle.peer_sweep.specs.declared.setup.Setup.{Setup}
use Rattle.peer_words.specs.Words.{Words}

-- the names of the columns of kinds of messages: those of GHS, and behind them those that only others have
abbrev pub kind_columns : List (List ℕ)
kind_columns =
    codes "connect"
    ∷ codes "initiate"
    ∷ codes "test"
    ∷ codes "accept"
    ∷ codes "reject"
    ∷ codes "report"
    ∷ codes "changeroot"
    ∷ codes "name"
    ∷ codes "explore"
    ∷ codes "echo"
    ∷ codes "back"
    ∷ codes "tree"
    ∷ []

-- what its lines tell of a protocol
abbrev pub about_of : Protocol → About
about_of protocol.Ghs = about_ghs
about_of protocol.Boruvka = rules.about_rules boruvka words
about_of protocol.Echo = rules.about_rules wave.echo wave_words.words
about_of protocol.Gather = rules.about_rules gather gather_words.words

abbrev pub layout_by : Protocol → Layout
layout_by p = layout_of (about_of p) kind_columns

-- the figures of the run of a graph by a protocol, a setup and a seed
abbrev pub AreFiguresBy : Protocol → Shape → Setup → ℕ → Figures → Type 0
AreFiguresBy protocol.Ghs = ghs.AreFiguresOf
AreFiguresBy protocol.Boruvka = rules.AreFiguresOf boruvka bound_of marks_branch HasEnded
AreFiguresBy protocol.Echo = rules.AreFiguresOf wave.echo wave.bound_of wave_end.marks_parent wave_end.HasEnded
AreFiguresBy protocol.Gather = rules.AreFiguresOf gather gather_bound.bound_of gather_laws.marks_branch gather_laws.HasEnded

-- the figures of the runs of seeds from the first on
abbrev pub AreRunsBy : Protocol → Shape → Setup → ℕ → List Figures → Type 0
AreRunsBy p = AreRuns (AreFiguresBy p)

-- the bound on the messages of a run of a graph
abbrev pub IsBoundBy : Protocol → Shape → ℕ → Type 0
IsBoundBy protocol.Ghs g n = IsBound g.nodes (length g.keys) n
IsBoundBy protocol.Boruvka g n = n ≡ bound_of g
IsBoundBy protocol.Echo g n = n ≡ wave.bound_of g
IsBoundBy protocol.Gather g n = n ≡ gather_bound.bound_of g

-- the names of the kinds of messages that have columns by parts: the protocol's own, or where there are several protocols those of all
abbrev pub part_names : Bool → Protocol → List (List ℕ)
part_names true p = kind_columns
part_names false p = names_of (about_of p)

-- the columns of the counts of its parts
abbrev pub part_columns : Bool → Protocol → By → List Column
part_columns several p by = columns_by by (about_of p) (part_names several p)

-- the lines of the parts of the run of a graph by a seed, by rules
abbrev pub IsPartedByRules : {S M : Type 0} → Rules S M → Words S M → (Shape → Net S M → Type 0) → SweepOptions → By →
    List Column → List ℕ → Shape → ℕ → List ℕ → Type 0
IsPartedByRules r words has_ended o by columns front g = IsPartedRun r words has_ended o.form front by columns g (setup_of o)

-- and by a protocol
abbrev pub IsPartedBy : Protocol → SweepOptions → By → List Column → List ℕ → Shape → ℕ → List ℕ → Type 0
IsPartedBy protocol.Ghs = IsPartedByGhs
IsPartedBy protocol.Boruvka = IsPartedByRules boruvka words HasEnded
IsPartedBy protocol.Echo = IsPartedByRules wave.echo wave_words.words wave_end.HasEnded
IsPartedBy protocol.Gather = IsPartedByRules gather gather_words.words gather_laws.HasEnded
