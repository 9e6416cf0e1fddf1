-- The words that the program takes.
use Rattle.std.specs.Prelude.{codes, List, [], ◌∷◌, Some, true}
use Rattle.clap.specs.declared.builder.action.ArgAction.TheVariants.{Append, SetTrue}
use Rattle.clap.specs.Words.{App, Rule, Text, new_app, new_rule, with_rule, with_subcommand}

-- an app with more arguments, in their order
abbrev pub with_rules : List Rule → App → App
with_rules [] app = app
with_rules (rule ∷ rules) app = with_rules rules (with_rule app rule)

-- `--NAME VALUE`, of which the program speaks by an id
abbrev pub valued_rule : Text → Text → Rule
valued_rule id name = record (new_rule id) { long = Some name }

-- `--NAME`, which has no value of its own
abbrev pub flag_rule : Text → Rule
flag_rule name = record (new_rule name) { long = Some name; action = Some SetTrue }

-- FILE: the graph
abbrev pub file_rule : Rule
file_rule = new_rule (codes "FILE")

-- FILE ..: the graphs of a sweep
abbrev pub files_rule : Rule
files_rule = record (new_rule (codes "FILE")) { action = Some Append }

-- `--names`: whether lines begin with their graph's name where one is swept
abbrev pub names_rule : Rule
names_rule = flag_rule (codes "names")

-- TRACE: the stored run
abbrev pub trace_rule : Rule
trace_rule = record (new_rule (codes "TRACE")) { required = true }

-- `--NAME VALUE`, and the value where it isn't given
abbrev pub option_rule : Text → Text → Rule
option_rule name default = record (new_rule name) { long = Some name; defaults = default ∷ [] }

-- `--protocol`: which protocol the nodes follow
abbrev pub protocol_rule : Rule
protocol_rule = option_rule (codes "protocol") (codes "ghs")

-- `--protocol` of a sweep, whose values are others: which protocols the nodes follow, one after another
abbrev pub protocols_rule : Rule
protocols_rule = record (new_rule (codes "protocols")) { long = Some (codes "protocol"); defaults = codes "ghs" ∷ [] }

-- `--seed`: which schedule picks the events
abbrev pub seed_rule : Rule
seed_rule = option_rule (codes "seed") (codes "1")

-- `--seeds`: whose schedules pick the runs of a sweep
abbrev pub seeds_rule : Rule
seeds_rule = record (new_rule (codes "seeds")) { long = Some (codes "seeds"); required = true }

-- `--seeds` of a view, which are two: whose runs are shown beside each other
abbrev pub pair_rule : Rule
pair_rule = valued_rule (codes "pair") (codes "seeds")

-- `--schedule`: among which events it picks them
abbrev pub schedule_rule : Rule
schedule_rule = option_rule (codes "schedule") (codes "seeded")

-- `--workers`: how many threads take part
abbrev pub workers_rule : Rule
workers_rule = option_rule (codes "workers") (codes "0")

-- `--turns`: how many events there may be
abbrev pub turns_rule : Rule
turns_rule = option_rule (codes "turns") (codes "1099511627776")

-- `--print`: what of a run is printed
abbrev pub print_rule : Rule
print_rule = option_rule (codes "print") (codes "report")

-- `--print` of a sweep, whose values are others: what of it is printed
abbrev pub sheet_rule : Rule
sheet_rule = record (new_rule (codes "sheet")) { long = Some (codes "print"); defaults = codes "runs" ∷ [] }

-- `--from`, `--to`: the numbers of the first and of the last event that are shown
abbrev pub from_rule : Rule
from_rule = option_rule (codes "from") (codes "1")

abbrev pub to_rule : Rule
to_rule = option_rule (codes "to") (codes "1099511627776")

-- `--node`: whose events are shown
abbrev pub node_rule : Rule
node_rule = valued_rule (codes "node") (codes "node")

-- `--json`: whether the lines are JSON
abbrev pub json_rule : Rule
json_rule = flag_rule (codes "json")

-- `--trace`: the stored run, where one is shown
abbrev pub stored_rule : Rule
stored_rule = valued_rule (codes "TRACE") (codes "trace")

-- `--progress`: whether it is told how far the run has come
abbrev pub progress_rule : Rule
progress_rule = flag_rule (codes "progress")

-- `--tally`: whether it is told what each of the threads has done
abbrev pub tally_rule : Rule
tally_rule = flag_rule (codes "tally")

-- `--by`: by which parts the messages of each run of a sweep are counted
abbrev pub by_rule : Rule
by_rule = valued_rule (codes "by") (codes "by")

-- `--core`: whether the core of each component is printed too
abbrev pub core_rule : Rule
core_rule = flag_rule (codes "core")

-- `--wake`: which nodes wake by themselves
abbrev pub wake_rule : Rule
wake_rule = option_rule (codes "wake") (codes "all")

-- `--book` where it may be left out: the book by whose rules the nodes go, or that all runs are compared with
abbrev pub own_rule : Rule
own_rule = record (new_rule (codes "book")) { long = Some (codes "book") }

-- `--check`: what the end of a run is checked for
abbrev pub check_rule : Rule
check_rule = valued_rule (codes "check") (codes "check")

-- `tree [FILE] [--core]`
abbrev pub tree_command : App
tree_command = with_rules (file_rule ∷ core_rule ∷ []) (new_app (codes "tree"))

-- `run [FILE] [--protocol ghs|boruvka|echo|gather|own] [--book BOOK] [--check tree|spanning|leader|halted] [--seed S]
-- [--schedule seeded|patient|rounds|waits|lifo|round-robin] [--workers W] [--wake all|first|V,..] [--turns T]
-- [--print report|trace|time] [--core] [--progress] [--tally]`
abbrev pub run_command : App
run_command =
    with_rules
    (file_rule ∷ protocol_rule ∷ own_rule ∷ check_rule ∷ seed_rule ∷ schedule_rule ∷ workers_rule ∷ wake_rule
    ∷ turns_rule ∷ print_rule ∷ core_rule ∷ progress_rule ∷ tally_rule ∷ [])
    (new_app (codes "run"))

-- `replay TRACE [FILE] [--protocol ghs|boruvka|echo|gather|own] [--book BOOK] [--check tree|spanning|leader|halted] [--wake all|first|V,..]`
abbrev pub replay_command : App
replay_command = with_rules (trace_rule ∷ file_rule ∷ protocol_rule ∷ own_rule ∷ check_rule ∷ wake_rule ∷ []) (new_app (codes "replay"))

-- `steps TRACE [FILE] [--protocol ghs|boruvka|echo|gather|own] [--book BOOK] [--wake all|first|V,..] [--from A] [--to B] [--node V] [--json]`
abbrev pub steps_command : App
steps_command =
    with_rules
    (trace_rule ∷ file_rule ∷ protocol_rule ∷ own_rule ∷ wake_rule ∷ from_rule ∷ to_rule ∷ node_rule ∷ json_rule ∷ [])
    (new_app (codes "steps"))

-- `--book`: the book by which a stored run is judged
abbrev pub book_rule : Rule
book_rule = record (new_rule (codes "book")) { long = Some (codes "book"); required = true }

-- `judge TRACE [FILE] --book BOOK [--wake all|first|V,..]`
abbrev pub judge_command : App
judge_command = with_rules (trace_rule ∷ file_rule ∷ book_rule ∷ wake_rule ∷ []) (new_app (codes "judge"))

-- `sweep [FILE ..] [--protocol ghs|boruvka|echo|gather,..|own] [--book BOOK] [--check tree|spanning|leader|halted] --seeds FIRST..LAST
-- [--schedule seeded|patient|rounds|waits|lifo|round-robin] [--workers W] [--wake all|first|V,..] [--turns T]
-- [--print runs|summary|chart] [--by node|level|rule] [--names] [--json] [--progress]`
abbrev pub sweep_command : App
sweep_command =
    with_rules
    (files_rule ∷ protocols_rule ∷ own_rule ∷ check_rule ∷ seeds_rule ∷ schedule_rule ∷ workers_rule ∷ wake_rule
    ∷ turns_rule ∷ sheet_rule ∷ by_rule ∷ names_rule ∷ json_rule ∷ progress_rule ∷ [])
    (new_app (codes "sweep"))

-- `view [FILE] [--protocol ghs|boruvka|echo|gather|own] [--book BOOK] [--seed S] [--seeds FIRST,SECOND]
-- [--schedule seeded|patient|rounds|waits|lifo|round-robin] [--wake all|first|V,..] [--turns T] [--trace TRACE] [--from A] [--to B]`
abbrev pub view_command : App
view_command =
    with_rules
    (file_rule ∷ protocol_rule ∷ own_rule ∷ seed_rule ∷ pair_rule ∷ schedule_rule ∷ wake_rule
    ∷ turns_rule ∷ stored_rule ∷ from_rule ∷ to_rule ∷ [])
    (new_app (codes "view"))

-- a word that has to stand at its place
abbrev pub place_rule : Text → Rule
place_rule name = record (new_rule name) { required = true }

-- KIND: the kind of a network
abbrev pub kind_rule : Rule
kind_rule = place_rule (codes "KIND")

-- NODES: how many nodes it has
abbrev pub nodes_rule : Rule
nodes_rule = place_rule (codes "NODES")

-- `--links`: how many links it has
abbrev pub links_rule : Rule
links_rule = valued_rule (codes "links") (codes "links")

-- `--weights`: how they weigh
abbrev pub weights_rule : Rule
weights_rule = valued_rule (codes "weights") (codes "weights")

-- `make KIND NODES [--seed S] [--links M] [--weights random|rising|falling|equal]`
abbrev pub make_command : App
make_command = with_rules (kind_rule ∷ nodes_rule ∷ seed_rule ∷ links_rule ∷ weights_rule ∷ []) (new_app (codes "make"))

-- `--limit`: how many states there may be
abbrev pub limit_rule : Rule
limit_rule = option_rule (codes "limit") (codes "1000000")

-- `--print` of an exploration, whose values are others: what of it is printed
abbrev pub found_rule : Rule
found_rule = record (new_rule (codes "found")) { long = Some (codes "print"); defaults = codes "report" ∷ [] }

-- `--end`: the number of the end whose run is printed
abbrev pub end_rule : Rule
end_rule = option_rule (codes "end") (codes "1")

-- `explore [FILE] [--protocol ghs|boruvka|echo|gather|own] [--book BOOK] [--check tree|spanning|leader|halted] [--wake all|first|V,..]
-- [--limit STATES] [--print report|trace] [--end K] [--progress]`
abbrev pub explore_command : App
explore_command =
    with_rules
    (file_rule ∷ protocol_rule ∷ own_rule ∷ check_rule ∷ wake_rule ∷ limit_rule ∷ found_rule ∷ end_rule ∷ progress_rule ∷ [])
    (new_app (codes "explore"))

-- the program's command line: its name and one of its commands, or a word that asks for its version
unfoldable pub program : App
program =
    let networks = with_subcommand (with_subcommand (new_app (codes "ghs")) tree_command.top) run_command.top in
    let stored = with_subcommand (with_subcommand networks replay_command.top) steps_command.top in
    let judged = with_subcommand stored judge_command.top in
    let shown = with_subcommand (with_subcommand judged sweep_command.top) view_command.top in
    let a = with_subcommand (with_subcommand shown make_command.top) explore_command.top in
    record a { top = record a.top { has_version = true; subcommand_required = true } }
