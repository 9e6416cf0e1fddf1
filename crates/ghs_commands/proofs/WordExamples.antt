-- Command lines, computed from the definitions.
use Rattle.std.proofs.Common.{◌≡◌, codes, false, true, List, Some, None, [], ◌∷◌, refl}
use Rattle.clap.specs.declared.error.kind.ErrorKind.TheVariants as kind
use Rattle.clap.proofs.OnLiterals.{clap_on_literals}
use Rattle.clap.specs.Words.{Text}
use Rattle.ghs_choices.specs.declared.check.Check.TheVariants.{Halted, Leader, Spanning, Tree}
use Rattle.ghs_commands.specs.Grammar.{program}
use Rattle.peer_trace.specs.declared.protocol.Protocol.TheVariants.{Boruvka, Ghs}
use Rattle.ghs_commands.specs.Wakers.{listed}
use Rattle.ghs_commands.specs.Job.{check_in, command_in, is_own, kinds_of, name_in, protocols_in, value_in}

tree-taken : kinds_of (codes "tree" ∷ []) ≡ []
unfolding program clap_on_literals
tree-taken = refl

tree-input : value_in (codes "FILE") (command_in (codes "tree" ∷ [])) ≡ None
unfolding program clap_on_literals
tree-input = refl

file-taken : kinds_of (codes "tree" ∷ codes "map.gr" ∷ []) ≡ []
unfolding program clap_on_literals
file-taken = refl

file-named : value_in (codes "FILE") (command_in (codes "tree" ∷ codes "map.gr" ∷ [])) ≡ Some (codes "map.gr")
unfolding program clap_on_literals
file-named = refl

dashes-named : value_in (codes "FILE") (command_in (codes "tree" ∷ codes "--" ∷ codes "-map" ∷ [])) ≡ Some (codes "-map")
unfolding program clap_on_literals
dashes-named = refl

dash-named : value_in (codes "FILE") (command_in (codes "tree" ∷ codes "-" ∷ [])) ≡ Some (codes "-")
unfolding program clap_on_literals
dash-named = refl

one_input-taken : kinds_of (codes "replay" ∷ codes "-" ∷ codes "map.gr" ∷ []) ≡ []
unfolding program clap_on_literals
one_input-taken = refl

two_inputs-refused : kinds_of (codes "replay" ∷ codes "-" ∷ []) ≡ kind.InvalidValue ∷ []
unfolding program clap_on_literals
two_inputs-refused = refl

nothing-refused : kinds_of [] ≡ kind.MissingSubcommand ∷ []
unfolding program clap_on_literals
nothing-refused = refl

two_files-refused : kinds_of (codes "tree" ∷ codes "a" ∷ codes "b" ∷ []) ≡ kind.UnknownArgument ∷ []
unfolding program clap_on_literals
two_files-refused = refl

help-asked : kinds_of (codes "--help" ∷ []) ≡ kind.DisplayHelp ∷ []
unfolding program clap_on_literals
help-asked = refl

version-asked : kinds_of (codes "--version" ∷ []) ≡ kind.DisplayVersion ∷ []
unfolding program clap_on_literals
version-asked = refl

wake-taken : kinds_of (codes "replay" ∷ codes "--wake" ∷ codes "first" ∷ codes "run.trace" ∷ []) ≡ []
unfolding program clap_on_literals
wake-taken = refl

replay-called : name_in (command_in (codes "replay" ∷ codes "run.trace" ∷ [])) ≡ Some (codes "replay")
unfolding program clap_on_literals
replay-called = refl

wake-not_given : value_in (codes "wake") (command_in (codes "replay" ∷ codes "run.trace" ∷ [])) ≡ Some (codes "all")
unfolding program clap_on_literals
wake-not_given = refl

wake-refused : kinds_of (codes "replay" ∷ codes "--wake" ∷ codes "none" ∷ codes "run.trace" ∷ []) ≡ kind.InvalidValue ∷ []
unfolding program clap_on_literals listed
wake-refused = refl

wakers-taken : kinds_of (codes "run" ∷ codes "--wake" ∷ codes "7,5" ∷ []) ≡ []
unfolding program clap_on_literals listed
wakers-taken = refl

wakers-refused : kinds_of (codes "run" ∷ codes "--wake" ∷ codes "7," ∷ []) ≡ kind.InvalidValue ∷ []
unfolding program clap_on_literals listed
wakers-refused = refl

replay-named : value_in (codes "TRACE") (command_in (codes "replay" ∷ codes "run.trace" ∷ codes "map.gr" ∷ [])) ≡ Some (codes "run.trace")
unfolding program clap_on_literals
replay-named = refl

no_trace-refused : kinds_of (codes "replay" ∷ []) ≡ kind.MissingRequiredArgument ∷ []
unfolding program clap_on_literals
no_trace-refused = refl

boruvka-taken : kinds_of (codes "run" ∷ codes "--protocol" ∷ codes "boruvka" ∷ codes "map.gr" ∷ []) ≡ []
unfolding program clap_on_literals
boruvka-taken = refl

protocol-not_given : value_in (codes "protocol") (command_in (codes "run" ∷ codes "map.gr" ∷ [])) ≡ Some (codes "ghs")
unfolding program clap_on_literals
protocol-not_given = refl

protocol-refused : kinds_of (codes "run" ∷ codes "--protocol" ∷ codes "prim" ∷ []) ≡ kind.InvalidValue ∷ []
unfolding program clap_on_literals
protocol-refused = refl

threads-refused : kinds_of (codes "run" ∷ codes "--protocol" ∷ codes "boruvka" ∷ codes "--workers" ∷ codes "2" ∷ []) ≡ kind.InvalidValue ∷ []
unfolding program clap_on_literals
threads-refused = refl

time-taken : kinds_of (codes "run" ∷ codes "--protocol" ∷ codes "boruvka" ∷ codes "--print" ∷ codes "time" ∷ []) ≡ []
unfolding program clap_on_literals
time-taken = refl

steps_in_step-taken : kinds_of (codes "steps" ∷ codes "--protocol" ∷ codes "boruvka" ∷ codes "run.trace" ∷ []) ≡ []
unfolding program clap_on_literals
steps_in_step-taken = refl

json_in_step-taken : kinds_of (codes "steps" ∷ codes "--protocol" ∷ codes "boruvka" ∷ codes "--json" ∷ codes "run.trace" ∷ []) ≡ []
unfolding program clap_on_literals
json_in_step-taken = refl

page_in_step-taken : kinds_of (codes "view" ∷ codes "--protocol" ∷ codes "boruvka" ∷ codes "map.gr" ∷ []) ≡ []
unfolding program clap_on_literals
page_in_step-taken = refl

two_runs_in_step-taken :
    kinds_of (codes "view" ∷ codes "--protocol" ∷ codes "boruvka" ∷ codes "--seeds" ∷ codes "1,2" ∷ []) ≡ []
unfolding program clap_on_literals
two_runs_in_step-taken = refl

echo-taken : kinds_of (codes "explore" ∷ codes "--protocol" ∷ codes "echo" ∷ codes "map.gr" ∷ []) ≡ []
unfolding program clap_on_literals
echo-taken = refl

-- a run by a user's own protocol, and what else is asked for
abbrev by_own : List Text → List Text
by_own words = codes "run" ∷ codes "--protocol" ∷ codes "own" ∷ words

-- it, by a book
abbrev by_book : List Text → List Text
by_book words = by_own (codes "--book" ∷ codes "b.txt" ∷ words)

own-taken : kinds_of (by_book []) ≡ []
unfolding program clap_on_literals
own-taken = refl

own-asked : is_own (command_in (by_book [])) ≡ true
unfolding program clap_on_literals
own-asked = refl

own-not_asked : is_own (command_in (codes "run" ∷ codes "--protocol" ∷ codes "echo" ∷ [])) ≡ false
unfolding program clap_on_literals
own-not_asked = refl

book-named : value_in (codes "book") (command_in (by_book [])) ≡ Some (codes "b.txt")
unfolding program clap_on_literals
book-named = refl

seed_of_own-taken :
    kinds_of (by_book (codes "--seed" ∷ codes "7" ∷ codes "--wake" ∷ codes "first" ∷ codes "--turns" ∷ codes "9" ∷ codes "map.gr" ∷ []))
    ≡ []
unfolding program clap_on_literals
seed_of_own-taken = refl

no_book-refused : kinds_of (by_own []) ≡ kind.InvalidValue ∷ []
unfolding program clap_on_literals
no_book-refused = refl

threads_of_own-refused : kinds_of (by_book (codes "--workers" ∷ codes "2" ∷ [])) ≡ kind.InvalidValue ∷ []
unfolding program clap_on_literals
threads_of_own-refused = refl

last_of_own-refused : kinds_of (by_book (codes "--schedule" ∷ codes "lifo" ∷ [])) ≡ kind.InvalidValue ∷ []
unfolding program clap_on_literals
last_of_own-refused = refl

events_of_own-taken : kinds_of (by_book (codes "--print" ∷ codes "trace" ∷ [])) ≡ []
unfolding program clap_on_literals
events_of_own-taken = refl

time_of_own-taken : kinds_of (by_book (codes "--print" ∷ codes "time" ∷ [])) ≡ []
unfolding program clap_on_literals
time_of_own-taken = refl

core_of_own-refused : kinds_of (by_book (codes "--core" ∷ [])) ≡ kind.InvalidValue ∷ []
unfolding program clap_on_literals
core_of_own-refused = refl

-- all runs by it
abbrev all_by_own : List Text → List Text
all_by_own words = codes "explore" ∷ codes "--protocol" ∷ codes "own" ∷ words

own_in_all_runs-taken : kinds_of (all_by_own (codes "--book" ∷ codes "b.txt" ∷ [])) ≡ []
unfolding program clap_on_literals
own_in_all_runs-taken = refl

own_in_all_runs-asked : is_own (command_in (all_by_own (codes "--book" ∷ codes "b.txt" ∷ []))) ≡ true
unfolding program clap_on_literals
own_in_all_runs-asked = refl

all_runs_without_book-refused : kinds_of (all_by_own []) ≡ kind.InvalidValue ∷ []
unfolding program clap_on_literals
all_runs_without_book-refused = refl

-- many runs by it
abbrev many_by_own : List Text → List Text
many_by_own words = codes "sweep" ∷ codes "--seeds" ∷ codes "1..2" ∷ codes "--protocol" ∷ codes "own" ∷ words

sweep_of_own-taken : kinds_of (many_by_own (codes "--book" ∷ codes "b.txt" ∷ codes "--print" ∷ codes "summary" ∷ [])) ≡ []
unfolding program clap_on_literals
sweep_of_own-taken = refl

sweep_of_own-asked : is_own (command_in (many_by_own (codes "--book" ∷ codes "b.txt" ∷ []))) ≡ true
unfolding program clap_on_literals
sweep_of_own-asked = refl

sweep_without_book-refused : kinds_of (many_by_own []) ≡ kind.InvalidValue ∷ []
unfolding program clap_on_literals
sweep_without_book-refused = refl

chart_of_own-refused : kinds_of (many_by_own (codes "--book" ∷ codes "b.txt" ∷ codes "--print" ∷ codes "chart" ∷ [])) ≡ kind.InvalidValue ∷ []
unfolding program clap_on_literals
chart_of_own-refused = refl

parts_of_own-refused : kinds_of (many_by_own (codes "--book" ∷ codes "b.txt" ∷ codes "--by" ∷ codes "node" ∷ [])) ≡ kind.InvalidValue ∷ []
unfolding program clap_on_literals
parts_of_own-refused = refl

names_of_own-refused : kinds_of (many_by_own (codes "--book" ∷ codes "b.txt" ∷ codes "--names" ∷ [])) ≡ kind.InvalidValue ∷ []
unfolding program clap_on_literals
names_of_own-refused = refl

two_files_of_own-refused : kinds_of (many_by_own (codes "--book" ∷ codes "b.txt" ∷ codes "a" ∷ codes "b" ∷ [])) ≡ kind.InvalidValue ∷ []
unfolding program clap_on_literals
two_files_of_own-refused = refl

own_among_others-refused :
    kinds_of (codes "sweep" ∷ codes "--seeds" ∷ codes "1..2" ∷ codes "--protocol" ∷ codes "ghs,own" ∷ codes "--book" ∷ codes "b.txt" ∷ [])
    ≡ kind.InvalidValue ∷ []
unfolding program clap_on_literals
own_among_others-refused = refl

sweep_of_ghs_by_book-refused :
    kinds_of (codes "sweep" ∷ codes "--seeds" ∷ codes "1..2" ∷ codes "--book" ∷ codes "b.txt" ∷ []) ≡ kind.InvalidValue ∷ []
unfolding program clap_on_literals
sweep_of_ghs_by_book-refused = refl

-- a page of a run by it
page_of_own-taken :
    kinds_of (codes "view" ∷ codes "--protocol" ∷ codes "own" ∷ codes "--book" ∷ codes "b.txt" ∷ codes "--seeds" ∷ codes "2,9" ∷ []) ≡ []
unfolding program clap_on_literals
page_of_own-taken = refl

book_of_ghs-refused : kinds_of (codes "run" ∷ codes "--book" ∷ codes "b.txt" ∷ []) ≡ kind.InvalidValue ∷ []
unfolding program clap_on_literals
book_of_ghs-refused = refl

-- a stored run by a user's own protocol
abbrev again_by_own : Text → List Text → List Text
again_by_own name words = name ∷ codes "run.trace" ∷ codes "map.gr" ∷ codes "--protocol" ∷ codes "own" ∷ words

replay_of_own-taken : kinds_of (again_by_own (codes "replay") (codes "--book" ∷ codes "b.txt" ∷ codes "--wake" ∷ codes "first" ∷ [])) ≡ []
unfolding program clap_on_literals
replay_of_own-taken = refl

steps_of_own-asked : is_own (command_in (again_by_own (codes "steps") (codes "--book" ∷ codes "b.txt" ∷ codes "--json" ∷ []))) ≡ true
unfolding program clap_on_literals
steps_of_own-asked = refl

replay_without_book-refused : kinds_of (again_by_own (codes "replay") []) ≡ kind.InvalidValue ∷ []
unfolding program clap_on_literals
replay_without_book-refused = refl

steps_by_book_of_ghs-refused :
    kinds_of (codes "steps" ∷ codes "run.trace" ∷ codes "map.gr" ∷ codes "--book" ∷ codes "b.txt" ∷ []) ≡ kind.InvalidValue ∷ []
unfolding program clap_on_literals
steps_by_book_of_ghs-refused = refl

-- a check of a run's end by it
abbrev checked_for : Text → List Text
checked_for name = by_book (codes "--check" ∷ name ∷ [])

tree-checked : check_in (command_in (checked_for (codes "tree"))) ≡ Some Tree
unfolding program clap_on_literals
tree-checked = refl

spanning-checked : check_in (command_in (checked_for (codes "spanning"))) ≡ Some Spanning
unfolding program clap_on_literals
spanning-checked = refl

leader-checked : check_in (command_in (checked_for (codes "leader"))) ≡ Some Leader
unfolding program clap_on_literals
leader-checked = refl

halted-checked : check_in (command_in (checked_for (codes "halted"))) ≡ Some Halted
unfolding program clap_on_literals
halted-checked = refl

nothing-checked : check_in (command_in (by_book [])) ≡ None
unfolding program clap_on_literals
nothing-checked = refl

check-taken : kinds_of (checked_for (codes "leader")) ≡ []
unfolding program clap_on_literals
check-taken = refl

unknown_check-refused : kinds_of (checked_for (codes "forest")) ≡ kind.InvalidValue ∷ []
unfolding program clap_on_literals
unknown_check-refused = refl

check_in_a_sweep-taken : kinds_of (many_by_own (codes "--book" ∷ codes "b.txt" ∷ codes "--check" ∷ codes "tree" ∷ [])) ≡ []
unfolding program clap_on_literals
check_in_a_sweep-taken = refl

check_of_all_runs-taken : kinds_of (all_by_own (codes "--book" ∷ codes "b.txt" ∷ codes "--check" ∷ codes "halted" ∷ [])) ≡ []
unfolding program clap_on_literals
check_of_all_runs-taken = refl

check_of_a_replay-taken : kinds_of (again_by_own (codes "replay") (codes "--book" ∷ codes "b.txt" ∷ codes "--check" ∷ codes "tree" ∷ [])) ≡ []
unfolding program clap_on_literals
check_of_a_replay-taken = refl

check_of_steps-refused :
    kinds_of (again_by_own (codes "steps") (codes "--book" ∷ codes "b.txt" ∷ codes "--check" ∷ codes "tree" ∷ [])) ≡ kind.UnknownArgument ∷ []
unfolding program clap_on_literals
check_of_steps-refused = refl

check_of_ghs-refused : kinds_of (codes "run" ∷ codes "--check" ∷ codes "tree" ∷ []) ≡ kind.InvalidValue ∷ []
unfolding program clap_on_literals
check_of_ghs-refused = refl

check_of_boruvka-refused :
    kinds_of (codes "run" ∷ codes "--protocol" ∷ codes "boruvka" ∷ codes "--check" ∷ codes "tree" ∷ []) ≡ kind.InvalidValue ∷ []
unfolding program clap_on_literals
check_of_boruvka-refused = refl

check_beside_a_judge-refused :
    kinds_of (codes "explore" ∷ codes "--book" ∷ codes "b.txt" ∷ codes "--check" ∷ codes "tree" ∷ []) ≡ kind.InvalidValue ∷ []
unfolding program clap_on_literals
check_beside_a_judge-refused = refl

judge-not_own : is_own (command_in (codes "judge" ∷ codes "--book" ∷ codes "b.txt" ∷ codes "run.trace" ∷ [])) ≡ false
unfolding program clap_on_literals
judge-not_own = refl

book_of_echo-refused :
    kinds_of (codes "run" ∷ codes "--protocol" ∷ codes "echo" ∷ codes "--book" ∷ codes "b.txt" ∷ []) ≡ kind.InvalidValue ∷ []
unfolding program clap_on_literals
book_of_echo-refused = refl

book_in_all_runs-taken : kinds_of (codes "explore" ∷ codes "--book" ∷ codes "b.txt" ∷ []) ≡ []
unfolding program clap_on_literals
book_in_all_runs-taken = refl

judged-taken : kinds_of (codes "judge" ∷ codes "--book" ∷ codes "b.txt" ∷ codes "run.trace" ∷ []) ≡ []
unfolding program clap_on_literals
judged-taken = refl

-- a sweep by Borůvka in step, and what else is asked for
abbrev in_step : List Text → List Text
in_step words = codes "sweep" ∷ codes "--protocol" ∷ codes "boruvka" ∷ codes "--seeds" ∷ codes "1..2" ∷ words

sweep_in_step-taken : kinds_of (in_step []) ≡ []
unfolding program clap_on_literals
sweep_in_step-taken = refl

summary_in_step-taken : kinds_of (in_step (codes "--print" ∷ codes "summary" ∷ [])) ≡ []
unfolding program clap_on_literals
summary_in_step-taken = refl

json_of_a_sweep-taken : kinds_of (in_step (codes "--json" ∷ codes "--names" ∷ [])) ≡ []
unfolding program clap_on_literals
json_of_a_sweep-taken = refl

threads_of_a_sweep-taken : kinds_of (in_step (codes "--workers" ∷ codes "8" ∷ codes "--progress" ∷ [])) ≡ []
unfolding program clap_on_literals
threads_of_a_sweep-taken = refl

nodes_in_step-taken : kinds_of (in_step (codes "--by" ∷ codes "node" ∷ [])) ≡ []
unfolding program clap_on_literals
nodes_in_step-taken = refl

levels_in_step-refused : kinds_of (in_step (codes "--by" ∷ codes "level" ∷ [])) ≡ kind.InvalidValue ∷ []
unfolding program clap_on_literals
levels_in_step-refused = refl

patience_in_step-taken : kinds_of (in_step (codes "--schedule" ∷ codes "patient" ∷ [])) ≡ []
unfolding program clap_on_literals
patience_in_step-taken = refl

last_in_step-taken : kinds_of (in_step (codes "--schedule" ∷ codes "lifo" ∷ [])) ≡ []
unfolding program clap_on_literals
last_in_step-taken = refl

rounds_in_step-taken : kinds_of (in_step (codes "--schedule" ∷ codes "rounds" ∷ [])) ≡ []
unfolding program clap_on_literals
rounds_in_step-taken = refl

waits_in_step-refused : kinds_of (in_step (codes "--schedule" ∷ codes "waits" ∷ [])) ≡ kind.InvalidValue ∷ []
unfolding program clap_on_literals
waits_in_step-refused = refl

turns_in_step-refused : kinds_of (in_step (codes "--schedule" ∷ codes "round-robin" ∷ [])) ≡ kind.InvalidValue ∷ []
unfolding program clap_on_literals
turns_in_step-refused = refl

runs_in_step-taken : kinds_of (in_step (codes "--print" ∷ codes "runs" ∷ [])) ≡ []
unfolding program clap_on_literals
runs_in_step-taken = refl

one_file_in_step-taken : kinds_of (in_step (codes "a" ∷ [])) ≡ []
unfolding program clap_on_literals
one_file_in_step-taken = refl

two_files_in_step-taken : kinds_of (in_step (codes "a" ∷ codes "b" ∷ [])) ≡ []
unfolding program clap_on_literals
two_files_in_step-taken = refl

-- a sweep by protocols
abbrev by_each : Text → List Text
by_each protocols = codes "sweep" ∷ codes "--seeds" ∷ codes "1..2" ∷ codes "--protocol" ∷ protocols ∷ []

protocols-named : protocols_in (command_in (by_each (codes "boruvka,ghs"))) ≡ Boruvka ∷ Ghs ∷ []
unfolding program clap_on_literals
protocols-named = refl

protocols-not_given : protocols_in (command_in (codes "sweep" ∷ codes "--seeds" ∷ codes "1..2" ∷ [])) ≡ Ghs ∷ []
unfolding program clap_on_literals
protocols-not_given = refl

named_twice-refused : kinds_of (by_each (codes "ghs,echo,ghs")) ≡ kind.InvalidValue ∷ []
unfolding program clap_on_literals
named_twice-refused = refl
