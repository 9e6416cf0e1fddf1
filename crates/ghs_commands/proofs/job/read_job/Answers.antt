use Rattle.std.proofs.Common.{ap, sym, ◌∙◌, map, string_bytes, true, refl, ◌≡◌, [], List, subst}
use Rattle.std.specs.Prelude.{IfErr, IfOk, OnOk, codes}
use Rattle.std.specs.Option.{option_map}
use Rattle.clap.specs.Kinds.{Kinds, HasKind, or_else}
use Rattle.clap.specs.Words.{Text, fault_of, is_simple, is_simple_and_free, subcommand_of, subcommand_rows_of}
use Rattle.clap.proofs.OnLiterals.{clap_on_literals}
use Rattle.ghs_commands.specs.Grammar.{program}
use Rattle.ghs_commands.specs.Job.{AreNetworks, IsSaidOf, IsTask, Used, check_in, is_own, option_kinds, command_in, kinds_of, value_in, with_name}
use Rattle.ghs_commands.proofs.Said.{said_of, said_first}
use Rattle.ghs_commands.proofs.job.read_job.Goals as goal

-- no argument or setting of the program's command changes how words are read
is_simple-program : is_simple program ≡ true
unfolding program clap_on_literals
is_simple-program = refl

is_free-program : is_simple_and_free program ≡ true
unfolding program clap_on_literals
is_free-program = refl

-- where `clap` finds no fault, what is wrong is wrong with the values of options
values_alone : (words : List Text) (command : Used) → command ≡ command_in words → fault_of program (with_name words) ≡ [] →
    option_kinds command ≡ kinds_of words
values_alone words command is none = ap option_kinds is ∙ sym (ap (λ k. or_else k (option_kinds (command_in words))) none)

-- the command that was read is the one that the words name
command_is : (c : goal.After-drop-line-in-Ok) → subcommand_rows_of c.in-Ok.matches ≡ command_in (map string_bytes c.args.words.now)
command_is c =
    let command = c.in_ok-program.ensures in
    let line : map (λ t. t.now) c.deref.result.now ≡ with_name (map string_bytes c.args.words.now) =
    ap (map (λ t. t.now)) c.deref.ensures.value ∙ c.in_ok-line.ensures in
    let rows = (c.in-Ok.ensures.matches (ap is_simple command ∙ is_simple-program)).1 in
    rows ∙ (ap (λ a. subcommand_of a (map (λ t. t.now) c.deref.result.now)) command ∙ ap (subcommand_of program) line)

no_fault : (c : goal.After-drop-line-in-Ok) → fault_of program (with_name (map string_bytes c.args.words.now)) ≡ []
no_fault c =
    let command = c.in_ok-program.ensures in
    let line : map (λ t. t.now) c.deref.result.now ≡ with_name (map string_bytes c.args.words.now) =
    ap (map (λ t. t.now)) c.deref.ensures.value ∙ c.in_ok-line.ensures in
    let kinds = c.in-Ok.ensures.kinds (ap is_simple_and_free command ∙ is_free-program) in
    sym (ap (fault_of program) line) ∙ (sym (ap (λ a. fault_of a (map (λ t. t.now) c.deref.result.now)) command) ∙ kinds)

pub returns-in-Ok-clause-task : goal.returns-in-Ok-clause-task
returns-in-Ok-clause-task c = subst (λ (u : Used). IfOk c.job_of.result (λ job. IsTask u job.task)) (command_is c) c.job_of.ensures.task

pub returns-in-Ok-clause-trace : goal.returns-in-Ok-clause-trace
returns-in-Ok-clause-trace c = subst (λ (u : Used). IfOk c.job_of.result (λ job. option_map string_bytes job.trace ≡ value_in (codes "TRACE") u))
    (command_is c) c.job_of.ensures.trace

pub returns-in-Ok-clause-graph : goal.returns-in-Ok-clause-graph
returns-in-Ok-clause-graph c = subst (λ (u : Used). IfOk c.job_of.result (λ job. option_map string_bytes job.graph ≡ value_in (codes "FILE") u))
    (command_is c) c.job_of.ensures.graph

pub returns-in-Ok-clause-networks : goal.returns-in-Ok-clause-networks
returns-in-Ok-clause-networks c =
    subst (λ (u : Used). IfOk c.job_of.result (λ job. AreNetworks u (map string_bytes job.networks.items))) (command_is c) c.job_of.ensures.networks

pub returns-in-Ok-clause-book : goal.returns-in-Ok-clause-book
returns-in-Ok-clause-book c = subst (λ (u : Used). IfOk c.job_of.result (λ job. option_map string_bytes job.book ≡ value_in (codes "book") u))
    (command_is c) c.job_of.ensures.book

pub returns-in-Ok-clause-check : goal.returns-in-Ok-clause-check
returns-in-Ok-clause-check c = subst (λ (u : Used). IfOk c.job_of.result (λ job. job.check ≡ check_in u)) (command_is c) c.job_of.ensures.check

pub returns-in-Ok-clause-own : goal.returns-in-Ok-clause-own
returns-in-Ok-clause-own c = subst (λ (u : Used). IfOk c.job_of.result (λ job. job.own ≡ is_own u)) (command_is c) c.job_of.ensures.own

pub returns-in-Ok-clause-taken : goal.returns-in-Ok-clause-taken
returns-in-Ok-clause-taken c =
    subst (λ (k : Kinds). OnOk c.job_of.result (k ≡ [])) (values_alone _ _ (command_is c) (no_fault c)) c.job_of.ensures.taken

pub returns-in-Ok-clause-fault : goal.returns-in-Ok-clause-fault
returns-in-Ok-clause-fault c =
    subst (λ (k : Kinds). IfErr c.job_of.result (IsSaidOf k)) (values_alone _ _ (command_is c) (no_fault c)) c.job_of.ensures.fault

pub returns-clause-fault : goal.returns-clause-fault
returns-clause-fault c =
    let command = c.in_ok-program.ensures in
    let line : map (λ t. t.now) c.deref.result.now ≡ with_name (map string_bytes c.args.words.now) =
    ap (map (λ t. t.now)) c.deref.ensures.value ∙ c.in_ok-line.ensures in
    let kinds = c.in-Err.ensures.kinds (ap is_simple_and_free command ∙ is_free-program) in
    said_first _ _ _ (said_of _ c.in-Err.error c.fault_of.result
    (subst (λ (k : Kinds). HasKind k c.in-Err.error)
    (ap (λ a. fault_of a (map (λ t. t.now) c.deref.result.now)) command ∙ ap (fault_of program) line) kinds)
    c.fault_of.ensures.said c.fault_of.ensures.memory)
