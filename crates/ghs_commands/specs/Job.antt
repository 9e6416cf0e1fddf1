-- Command lines: what the words of the program ask for, and what is said of others.
use Rattle.std.specs.Prelude.{◌≡◌, ◌≢◌, ◌↔◌, ◌⊎◌, ℕ, ◌≤◌, Bool, true, ◌&&◌, ◌||◌, not, codes, List, [], ◌∷◌, Option, Some, None, is_none, unwrap_or, if◌then◌else◌}
use Rattle.std.specs.Option.{option_and_then, option_map}
use Rattle.clap.specs.Kinds.{Kinds, IsAmong, or_else}
use Rattle.clap.specs.Words.{Row, Text, fault_of, first_of, subcommand_of}
use Rattle.clap.specs.declared.error.kind.ErrorKind.{ErrorKind}
use Rattle.clap.specs.declared.error.kind.ErrorKind.TheVariants as kind
use Rattle.ghs_make.specs.Kind.{kind_named}
use Rattle.ghs_make.specs.Weights.{weights_named}
use Rattle.ghs_make.specs.declared.kind.Kind.{Kind}
use Rattle.ghs_make.specs.declared.kind.Kind.TheVariants.{Path}
use Rattle.ghs_make.specs.declared.plan.Asked.{Asked}
use Rattle.ghs_make.specs.declared.weights.Weights.{Weights}
use Rattle.ghs_choices.specs.declared.schedule_kind.ScheduleKind.{ScheduleKind}
use Rattle.ghs_choices.specs.declared.schedule_kind.ScheduleKind.TheVariants.{Lifo, Patient, RoundRobin, Rounds, Waits}
use Rattle.peer_texts.specs.declared.trace.TheConstants.{EVENT_LIMIT}
use Rattle.peer_network.specs.declared.wake_set.WakeSet.{WakeSet}
use Rattle.peer_network.specs.declared.wake_set.WakeSet.TheVariants.{All}
use Rattle.ghs_commands.specs.Grammar.{program}
use Rattle.ghs_commands.specs.declared.job.JobFault.{JobFault}
use Rattle.ghs_commands.specs.declared.job.JobFault.TheVariants as fault
use Rattle.ghs_choices.specs.declared.choice.Choice.{Choice}
use Rattle.ghs_choices.specs.declared.form.Form.{Form}
use Rattle.ghs_choices.specs.declared.form.Form.TheVariants.{Json}
use Rattle.ghs_commands.specs.declared.exploring.ExploreOptions.{ExploreOptions}
use Rattle.ghs_commands.specs.declared.exploring.Finding.{Finding}
use Rattle.ghs_commands.specs.declared.exploring.Finding.TheVariants.{Run}
use Rattle.ghs_commands.specs.declared.exploring.TheConstants.{MOST_STATES}
use Rattle.ghs_commands.specs.declared.job.RunOptions.{RunOptions}
use Rattle.ghs_commands.specs.declared.job.Sheet.{Sheet}
use Rattle.ghs_commands.specs.declared.job.Sheet.TheVariants.{Chart, Summary}
use Rattle.ghs_commands.specs.declared.job.Show.{Show}
use Rattle.ghs_commands.specs.declared.job.Show.TheVariants.{Events, Time}
use Rattle.ghs_commands.specs.declared.job.StepsOptions.{StepsOptions}
use Rattle.ghs_commands.specs.declared.job.StoredViewOptions.{StoredViewOptions}
use Rattle.ghs_commands.specs.declared.job.SweepOptions.{SweepOptions}
use Rattle.ghs_commands.specs.declared.job.TheConstants.{MOST_NODES, MOST_WORKERS}
use Rattle.ghs_commands.specs.declared.job.Task.{Task}
use Rattle.ghs_commands.specs.declared.job.Task.TheVariants as task
use Rattle.ghs_commands.specs.declared.job.ViewOptions.{ViewOptions}
use Rattle.ghs_commands.specs.declared.two_seeds.TwoSeeds.{TwoSeeds}
use Rattle.ghs_commands.specs.declared.values.Seeds.{Seeds}
use Rattle.ghs_commands.specs.Networks.{are_read_once, are_several, named_of, values_in}
use Rattle.ghs_choices.specs.declared.by.By.{By}
use Rattle.ghs_choices.specs.declared.check.Check.{Check}
use Rattle.ghs_commands.specs.Checks.{check_named, is_check}
use Rattle.peer_trace.specs.Protocol.{protocol_named}
use Rattle.peer_trace.specs.declared.protocol.Protocol.{Protocol}
use Rattle.peer_trace.specs.declared.protocol.Protocol.TheVariants.{Ghs}
use Rattle.ghs_commands.specs.Parts.{by_named, go_together, is_part, is_said}
use Rattle.ghs_commands.specs.Protocols.{are_ghs, are_protocols, is_protocol, protocols_of}
use Rattle.ghs_commands.specs.TwoSeeds.{are_two, two_seeds_of}
use Rattle.ghs_commands.specs.Wakers.{is_wake, wake_named}
use Rattle.ghs_commands.specs.Values.{AreSeeds, are_apart, are_weights, is_among, is_kind, is_number, is_range, number_in, seeds_of}

-- the words of a command line, with the program's name before them
abbrev pub with_name : List Text → List Text
with_name words = codes "ghs" ∷ words

-- a command, and what was read for it
abbrev pub Used : Type 0
Used = Option (Text × List Row)

-- the command that the words name
abbrev pub command_in : List Text → Used
command_in words = subcommand_of program (with_name words)

-- its name
abbrev pub name_in : Used → Option Text
name_in command = option_map (λ p. p.0) command

-- the value that one of its arguments has
abbrev pub value_in : Text → Used → Option Text
value_in id command = option_and_then (λ p. first_of id p.1) command

-- the wake set that `--wake` names; it names one, or the words are refused
abbrev pub wake_in : Used → WakeSet
wake_in command = unwrap_or (option_and_then wake_named (value_in (codes "wake") command)) All

abbrev pub IsWake : Used → WakeSet → Type 0
IsWake command wake = wake ≡ wake_in command

-- what of a run is printed, as `--print` says
pub record IsShow (command : Used) (show : Show) : Type 0 where
  pub events : (show ≡ Events) ↔ (value_in (codes "print") command ≡ Some (codes "trace"))
  pub time : (show ≡ Time) ↔ (value_in (codes "print") command ≡ Some (codes "time"))

-- what of a sweep is printed, as its `--print` says
pub record IsSheet (command : Used) (sheet : Sheet) : Type 0 where
  pub summary : (sheet ≡ Summary) ↔ (value_in (codes "sheet") command ≡ Some (codes "summary"))
  pub chart : (sheet ≡ Chart) ↔ (value_in (codes "sheet") command ≡ Some (codes "chart"))

-- by which parts messages are counted, as `--by` says; nothing where it isn't given
abbrev pub by_in : Used → Option By
by_in command = option_and_then by_named (value_in (codes "by") command)

-- what the end of a run is checked for, as `--check` says; nothing where it isn't given
abbrev pub check_in : Used → Option Check
check_in command = option_and_then check_named (value_in (codes "check") command)

-- among which events a schedule picks, as `--schedule` says
pub record IsScheduleKind (command : Used) (schedule_kind : ScheduleKind) : Type 0 where
  pub patient : (schedule_kind ≡ Patient) ↔ (value_in (codes "schedule") command ≡ Some (codes "patient"))
  pub rounds : (schedule_kind ≡ Rounds) ↔ (value_in (codes "schedule") command ≡ Some (codes "rounds"))
  pub waits : (schedule_kind ≡ Waits) ↔ (value_in (codes "schedule") command ≡ Some (codes "waits"))
  pub lifo : (schedule_kind ≡ Lifo) ↔ (value_in (codes "schedule") command ≡ Some (codes "lifo"))
  pub round_robin : (schedule_kind ≡ RoundRobin) ↔ (value_in (codes "schedule") command ≡ Some (codes "round-robin"))

-- whether it is told how far the run has come, as `--progress` says, which has no value of its own
abbrev pub IsToldOf : Used → Bool → Type 0
IsToldOf command progress = (progress ≡ true) ↔ (value_in (codes "progress") command ≡ Some (codes "true"))

-- whether it is told at the end what each of the threads has done, as `--tally` says, which has no value of its own
abbrev pub IsTallyOf : Used → Bool → Type 0
IsTallyOf command tally = (tally ≡ true) ↔ (value_in (codes "tally") command ≡ Some (codes "true"))

-- whether the core of each component is printed too, as `--core` says, which has no value of its own
abbrev pub IsCoreOf : Used → Bool → Type 0
IsCoreOf command core = (core ≡ true) ↔ (value_in (codes "core") command ≡ Some (codes "true"))

-- the form of the lines, as `--json` says, which has no value of its own
abbrev pub IsForm : Used → Form → Type 0
IsForm command form = (form ≡ Json) ↔ (value_in (codes "json") command ≡ Some (codes "true"))

-- the number that an option of the command has; it has one in its range, or the words are refused
abbrev pub number_at : Text → ℕ → ℕ → Used → ℕ
number_at id low high command = unwrap_or (option_and_then (number_in low high) (value_in id command)) low

abbrev pub seed_in : Used → ℕ
seed_in = number_at (codes "seed") 0 18446744073709551615

abbrev pub workers_in : Used → ℕ
workers_in = number_at (codes "workers") 0 MOST_WORKERS

abbrev pub turns_in : Used → ℕ
turns_in = number_at (codes "turns") 1 EVENT_LIMIT

-- the first and the last event that are shown
abbrev pub from_in : Used → ℕ
from_in = number_at (codes "from") 1 EVENT_LIMIT

abbrev pub to_in : Used → ℕ
to_in = number_at (codes "to") 1 EVENT_LIMIT

-- the node that `--node` names
abbrev pub node_in : Used → Option ℕ
node_in command = option_and_then (number_in 1 4294967295) (value_in (codes "node") command)

-- the seeds that `--seeds` names; a sweep has some, or the words are refused
abbrev pub seeds_at : Used → Seeds
seeds_at command = unwrap_or (option_and_then seeds_of (value_in (codes "seeds") command)) (record { first = 0; last = 0 })

-- the two seeds that `--seeds` of a view names, where it is given
abbrev pub pair_in : Used → Option TwoSeeds
pair_in command = option_and_then two_seeds_of (value_in (codes "pair") command)

-- the first of them, or the one that `--seed` names; the second
abbrev pub first_seed_in : Used → ℕ
first_seed_in command = unwrap_or (option_map (λ s. s.first) (pair_in command)) (seed_in command)

abbrev pub second_seed_in : Used → Option ℕ
second_seed_in command = option_map (λ s. s.second) (pair_in command)

-- how a command asks for a network to be run
pub record AreOptions (command : Used) (o : RunOptions) : Type 0 where
  pub seed : o.seed ≡ seed_in command
  pub schedule_kind : IsScheduleKind command o.schedule_kind
  pub workers : o.workers ≡ workers_in command
  pub wake : IsWake command o.wake
  pub turns : o.turns ≡ turns_in command
  pub show : IsShow command o.show
  pub core : IsCoreOf command o.core
  pub progress : IsToldOf command o.progress
  pub tally : IsTallyOf command o.tally

-- a run may be by a user's own protocol, and so may a stored run be that is played again or told, one that is shown, and all that are explored
abbrev pub may_be_own : Used → Bool
may_be_own command =
    is_said (codes "run") (name_in command)
    || is_said (codes "replay") (name_in command)
    || is_said (codes "steps") (name_in command)
    || is_said (codes "view") (name_in command)
    || is_said (codes "explore") (name_in command)

-- it is, or the runs of a sweep are: the rules are the lines of a book
abbrev pub is_own : Used → Bool
is_own command =
    (may_be_own command && is_said (codes "own") (value_in (codes "protocol") command))
    || is_said (codes "own") (value_in (codes "protocols") command)

-- the protocol that `--protocol` names; it names one that there is, or the words are refused, and a command without it is of GHS, as one
-- by a user's own, whose book counts in its place
abbrev pub protocol_in : Used → Protocol
protocol_in command = unwrap_or (option_and_then protocol_named (value_in (codes "protocol") command)) Ghs

-- the protocols that `--protocol` of a sweep names, in their order
abbrev pub protocols_in : Used → List Protocol
protocols_in command = protocols_of (unwrap_or (value_in (codes "protocols") command) (codes "ghs"))

-- which runs a command asks to be swept
pub record AreSweepOptions (command : Used) (o : SweepOptions) : Type 0 where
  pub seeds : o.seeds ≡ seeds_at command
  pub schedule_kind : IsScheduleKind command o.schedule_kind
  pub workers : o.workers ≡ workers_in command
  pub wake : IsWake command o.wake
  pub turns : o.turns ≡ turns_in command
  pub sheet : IsSheet command o.sheet
  pub by : o.by ≡ by_in command
  pub form : IsForm command o.form
  pub progress : IsToldOf command o.progress

-- the networks of a sweep whose lines begin with names, as the files and `--names`, which has no value of its own, say
pub record AreNetworks (command : Used) (names : List Text) : Type 0 where
  pub asked : Bool
  pub said : (asked ≡ true) ↔ (value_in (codes "names") command ≡ Some (codes "true"))
  pub named : names ≡ named_of asked (values_in (codes "FILE") command)

-- which events a command asks to be shown
pub record IsChoice (command : Used) (choice : Choice) : Type 0 where
  pub from : choice.from ≡ from_in command
  pub to : choice.to ≡ to_in command
  pub node : choice.node ≡ node_in command

-- which steps of a stored run it asks for
pub record AreStepsOptions (command : Used) (o : StepsOptions) : Type 0 where
  pub wake : IsWake command o.wake
  pub choice : IsChoice command o.choice
  pub form : IsForm command o.form

-- which page a command asks for: of the run that a seed picks, or of the runs of two; of a stored one
pub record AreViewOptions (command : Used) (o : ViewOptions) : Type 0 where
  pub seed : o.seed ≡ first_seed_in command
  pub beside : o.beside ≡ second_seed_in command
  pub schedule_kind : IsScheduleKind command o.schedule_kind
  pub wake : IsWake command o.wake
  pub turns : o.turns ≡ turns_in command
  pub from : o.from ≡ from_in command
  pub to : o.to ≡ to_in command

pub record AreStoredViewOptions (command : Used) (o : StoredViewOptions) : Type 0 where
  pub wake : IsWake command o.wake
  pub from : o.from ≡ from_in command
  pub to : o.to ≡ to_in command

-- the kind that KIND names; a network that is made has one, or the words are refused
abbrev pub kind_in : Used → Kind
kind_in command = unwrap_or (option_and_then kind_named (value_in (codes "KIND") command)) Path

-- how many links `--links` asks for, and which weights `--weights` names
abbrev pub links_in : Used → Option ℕ
links_in command = option_and_then (number_in 0 4294967295) (value_in (codes "links") command)

abbrev pub weights_in : Used → Option Weights
weights_in command = option_and_then weights_named (value_in (codes "weights") command)

-- which network a command asks to be made
pub record IsAsked (command : Used) (asked : Asked) : Type 0 where
  pub kind : asked.kind ≡ kind_in command
  pub nodes : asked.nodes ≡ number_at (codes "NODES") 1 MOST_NODES command
  pub seed : asked.seed ≡ seed_in command
  pub links : asked.links ≡ links_in command
  pub weights : asked.weights ≡ weights_in command

-- what of an exploration is printed, as its `--print` says
abbrev pub IsFinding : Used → Finding → Type 0
IsFinding command finding = (finding ≡ Run) ↔ (value_in (codes "found") command ≡ Some (codes "trace"))

-- which exploration a command asks for
pub record AreExploreOptions (command : Used) (o : ExploreOptions) : Type 0 where
  pub wake : IsWake command o.wake
  pub limit : o.limit ≡ number_at (codes "limit") 1 MOST_STATES command
  pub finding : IsFinding command o.finding
  pub end : o.end ≡ number_at (codes "end") 1 4294967295 command
  pub progress : IsToldOf command o.progress

-- a command of this name plays a stored run again, perhaps beside the node that a book is
abbrev pub PlaysAgain : Option Text → Type 0
PlaysAgain name = (name ≡ Some (codes "replay")) ⊎ (name ≡ Some (codes "judge"))

-- it has another name than these
pub record IsNoOther (command : Used) : Type 0 where
  pub run : name_in command ≢ Some (codes "run")
  pub replay : PlaysAgain (name_in command) → ⊥
  pub steps : name_in command ≢ Some (codes "steps")
  pub sweep : name_in command ≢ Some (codes "sweep")
  pub view : name_in command ≢ Some (codes "view")
  pub make : name_in command ≢ Some (codes "make")
  pub explore : name_in command ≢ Some (codes "explore")

-- it asks for a page of a seed's run, or of a stored one
abbrev pub IsOfSeed : Used → Type 0
IsOfSeed command = value_in (codes "TRACE") command ≡ None

abbrev pub IsOfStored : Used → Type 0
IsOfStored command = value_in (codes "TRACE") command ≢ None

-- it has this name, and the protocol that it names is this one
pub record IsOf (command : Used) (name : Text) (protocol : Protocol) : Type 0 where
  pub named : name_in command ≡ Some name
  pub by : protocol_in command ≡ protocol

pub record IsReplayOf (command : Used) (protocol : Protocol) : Type 0 where
  pub named : PlaysAgain (name_in command)
  pub by : protocol_in command ≡ protocol

-- it is a sweep, and the protocols that it names are these
pub record IsSweepOf (command : Used) (protocols : List Protocol) : Type 0 where
  pub named : name_in command ≡ Some (codes "sweep")
  pub by : protocols ≡ protocols_in command

-- the task that a command asks for
abbrev pub IsTask : Used → Task → Type 0
IsTask command (task.Tree core) = IsNoOther command × IsCoreOf command core
IsTask command (task.Run p options) = IsOf command (codes "run") p × AreOptions command options
IsTask command (task.Replay p wake) = IsReplayOf command p × IsWake command wake
IsTask command (task.Steps p options) = IsOf command (codes "steps") p × AreStepsOptions command options
IsTask command (task.Sweep ps options) = IsSweepOf command ps.items × AreSweepOptions command options
IsTask command (task.View p options) = IsOf command (codes "view") p × IsOfSeed command × AreViewOptions command options
IsTask command (task.StoredView p options) = IsOf command (codes "view") p × IsOfStored command × AreStoredViewOptions command options
IsTask command (task.Explore p options) = IsOf command (codes "explore") p × AreExploreOptions command options
IsTask command (task.Make asked) = (name_in command ≡ Some (codes "make")) × IsAsked command asked

-- numbers are within their limits
pub record AreWithinLimits (o : RunOptions) : Type 0 where
  pub workers : o.workers ≤ MOST_WORKERS
  pub some : 1 ≤ o.turns
  pub few : o.turns ≤ EVENT_LIMIT

pub record AreSweepLimits (o : SweepOptions) : Type 0 where
  pub seeds : AreSeeds o.seeds
  pub workers : o.workers ≤ MOST_WORKERS
  pub some : 1 ≤ o.turns
  pub few : o.turns ≤ EVENT_LIMIT

pub record AreViewLimits (o : ViewOptions) : Type 0 where
  pub some : 1 ≤ o.turns
  pub few : o.turns ≤ EVENT_LIMIT

pub record AreExploreLimits (o : ExploreOptions) : Type 0 where
  pub some : 1 ≤ o.limit
  pub first : 1 ≤ o.end

-- a task's numbers are
abbrev pub IsWithinLimits : Task → Type 0
IsWithinLimits (task.Run p options) = AreWithinLimits options
IsWithinLimits (task.Sweep ps options) = AreSweepLimits options
IsWithinLimits (task.View p options) = AreViewLimits options
IsWithinLimits (task.Explore p options) = AreExploreLimits options
IsWithinLimits _ = Unit {0}

-- what is printed of a run, of a sweep or of an exploration is one of its choices
abbrev pub has_prints : Used → Bool
has_prints command =
    is_among (codes "report" ∷ codes "trace" ∷ codes "time" ∷ []) (value_in (codes "print") command)
    && is_among (codes "runs" ∷ codes "summary" ∷ codes "chart" ∷ []) (value_in (codes "sheet") command)
    && is_among (codes "report" ∷ codes "trace" ∷ []) (value_in (codes "found") command)

-- each choice of the command is one that there is
abbrev pub has_choices : Used → Bool
has_choices command =
    is_wake (value_in (codes "wake") command)
    && has_prints command
    && is_among (codes "seeded" ∷ codes "patient" ∷ codes "rounds" ∷ codes "waits" ∷ codes "lifo" ∷ codes "round-robin" ∷ [])
    (value_in (codes "schedule") command)

-- the numbers of how a network is run, of which events are shown, and of a network that is made and of an exploration
abbrev pub has_course : Used → Bool
has_course command =
    is_number 0 18446744073709551615 (value_in (codes "seed") command)
    && is_number 0 MOST_WORKERS (value_in (codes "workers") command)
    && is_number 1 EVENT_LIMIT (value_in (codes "turns") command)

abbrev pub has_events : Used → Bool
has_events command =
    is_number 1 EVENT_LIMIT (value_in (codes "from") command)
    && is_number 1 EVENT_LIMIT (value_in (codes "to") command)
    && is_number 1 4294967295 (value_in (codes "node") command)

abbrev pub has_sizes : Used → Bool
has_sizes command =
    is_number 0 4294967295 (value_in (codes "links") command)
    && is_number 1 MOST_STATES (value_in (codes "limit") command)
    && is_number 1 4294967295 (value_in (codes "end") command)

-- each number of the command is one, and in its range
abbrev pub has_numbers : Used → Bool
has_numbers command = has_course command && has_events command && has_sizes command

-- a network that is made has a number of nodes, a kind and weights
abbrev pub has_network : Used → Bool
has_network command =
    is_number 1 MOST_NODES (value_in (codes "NODES") command)
    && is_kind (value_in (codes "KIND") command)
    && are_weights (value_in (codes "weights") command)

-- the seeds of a sweep are some, and those of a view two
abbrev pub has_seeds : Used → Bool
has_seeds command = is_range (value_in (codes "seeds") command) && are_two (value_in (codes "pair") command)

-- only a sweep has a sheet
abbrev pub is_sweep : Used → Bool
is_sweep command = not (is_none (value_in (codes "sheet") command))

-- only an exploration has a limit
abbrev pub is_exploration : Used → Bool
is_exploration command = not (is_none (value_in (codes "limit") command))

-- how a network is run goes with every protocol: no threads but those of a sweep, no schedule that prefers what waits or goes by round robin, no
-- cores, no book; nothing is told of the run, but a sweep and an exploration may tell how far they have come
abbrev pub runs_so : Used → Bool
runs_so command =
    (is_sweep command || is_number 0 0 (value_in (codes "workers") command))
    && is_among (codes "seeded" ∷ codes "patient" ∷ codes "rounds" ∷ codes "lifo" ∷ []) (value_in (codes "schedule") command)
    && not (is_said (codes "true") (value_in (codes "core") command))
    && (is_sweep command || is_exploration command || not (is_said (codes "true") (value_in (codes "progress") command)))
    && not (is_said (codes "true") (value_in (codes "tally") command))
    && is_none (value_in (codes "book") command)

-- what is swept does: the figures of runs, also by node and by rule, but not by level
abbrev pub sweeps_so : Used → Bool
sweeps_so command = not (is_said (codes "level") (value_in (codes "by") command))

-- all that is asked for does
abbrev pub fits_every : Used → Bool
fits_every command = runs_so command && sweeps_so command

-- GHS alone goes with everything
abbrev pub is_of_ghs : Used → Bool
is_of_ghs command = are_ghs (value_in (codes "protocol") command) && are_ghs (value_in (codes "protocols") command)

-- it has a book
abbrev pub has_book : Used → Bool
has_book command = not (is_none (value_in (codes "book") command))

-- a book has rules, but for one whose node is compared with the protocol, in a stored run or in all
abbrev pub has_rules : Used → Bool
has_rules command = ((may_be_own command && not (is_exploration command)) || is_sweep command) && has_book command

-- the end of a run is checked
abbrev pub has_check : Used → Bool
has_check command = not (is_none (value_in (codes "check") command))

-- a protocol that there is has rules of its own, so no run of it goes by a book, and how its runs end is proved, so none is checked
abbrev pub fits_known : Used → Bool
fits_known command = not (has_rules command) && not (has_check command) && (is_of_ghs command || fits_every command)

-- how a network is run goes with a user's own protocol: no threads, and the schedule that picks among all events alone; nothing is told of the
-- run, and it has no cores
abbrev pub runs_own : Used → Bool
runs_own command =
    is_number 0 0 (value_in (codes "workers") command)
    && is_among (codes "seeded" ∷ []) (value_in (codes "schedule") command)
    && not (is_said (codes "true") (value_in (codes "core") command))
    && not (is_said (codes "true") (value_in (codes "progress") command))
    && not (is_said (codes "true") (value_in (codes "tally") command))

-- what is swept does: the figures of the runs of one network and their statistics, but no parts and no picture
abbrev pub sweeps_own : Used → Bool
sweeps_own command =
    is_none (value_in (codes "by") command)
    && not (is_said (codes "chart") (value_in (codes "sheet") command))
    && not (is_said (codes "true") (value_in (codes "names") command))
    && not (are_several (values_in (codes "FILE") command))

abbrev pub goes_with_own : Used → Bool
goes_with_own command = runs_own command && sweeps_own command

-- a user's own has to have a book
abbrev pub fits_own : Used → Bool
fits_own command = has_book command && goes_with_own command

abbrev pub fits_protocol : Used → Bool
fits_protocol command = if is_own command then fits_own command else fits_known command

-- it names a protocol that there is, or those of a sweep, or a user's own where that may be
abbrev pub names_protocol : Used → Bool
names_protocol command = is_own command || (is_protocol (value_in (codes "protocol") command) && are_protocols (value_in (codes "protocols") command))

-- there is such a protocol, or are such protocols of a sweep, and all that is asked for goes with them
abbrev pub has_protocol : Used → Bool
has_protocol command = names_protocol command && fits_protocol command

-- the figures of a sweep can be printed as it is asked for
abbrev pub has_figures : Used → Bool
has_figures command =
    is_part (value_in (codes "by") command)
    && go_together (value_in (codes "sheet") command) (value_in (codes "by") command) (value_in (codes "json") command)

-- standard input isn't read twice
abbrev pub has_sources : Used → Bool
has_sources command =
    are_apart (value_in (codes "TRACE") command) (value_in (codes "FILE") command)
    && are_read_once (values_in (codes "FILE") command)

-- each option of the command has a value that it may have, and standard input isn't read twice
abbrev pub has_values : Used → Bool
has_values command =
    has_choices command
    && has_numbers command
    && has_network command
    && has_seeds command
    && has_protocol command
    && has_figures command
    && is_check (value_in (codes "check") command)
    && has_sources command

-- what is wrong with the values of a command's options
abbrev pub option_kinds : Used → Kinds
option_kinds command = if has_values command then [] else kind.InvalidValue ∷ []

-- why the words are no command line of the program; nothing where they are one
abbrev pub kinds_of : List Text → Kinds
kinds_of words = or_else (fault_of program (with_name words)) (option_kinds (command_in words))

-- help or the version was asked for
abbrev pub IsRequest : ErrorKind → Type 0
IsRequest k = (k ≡ kind.DisplayHelp) ⊎ (k ≡ kind.DisplayVersion)

-- what was asked for is for those who ask for it, a refusal for every other fault of the words; memory may run out at any time
abbrev pub IsSaidOf : Kinds → JobFault → Type 0
IsSaidOf kinds (fault.Help text) = (k : ErrorKind) × IsAmong k kinds × IsRequest k
IsSaidOf kinds (fault.Refused text) = (k : ErrorKind) × IsAmong k kinds × (IsRequest k → ⊥)
IsSaidOf kinds fault.Memory = Unit {0}

-- what is said of a fault of this kind
abbrev pub IsSaid : ErrorKind → JobFault → Type 0
IsSaid k (fault.Help text) = IsRequest k
IsSaid k (fault.Refused text) = (IsRequest k → ⊥) × (k ≢ kind.OutOfMemory)
IsSaid k fault.Memory = Unit {0}

-- a refusal, or lack of memory
abbrev pub IsRefused : JobFault → Type 0
IsRefused (fault.Help text) = ⊥
IsRefused (fault.Refused text) = Unit {0}
IsRefused fault.Memory = Unit {0}
