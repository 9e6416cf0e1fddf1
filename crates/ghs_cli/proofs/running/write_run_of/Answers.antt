use Rattle.std.proofs.Common.{◌≡◌, ◌∙◌, Err, Ok, rules, subst, sym}
use Rattle.std.specs.Prelude.{Bool, IfSome, true}
use Rattle.ghs_commands.specs.declared.job.Task.TheVariants as task
use Rattle.ghs_answers.specs.declared.fault.ServeFault.TheVariants as serve
use Rattle.ghs_cli.specs.Serving.{IsOfText, IsTextCause}
use Rattle.ghs_cli.specs.Verbs.{verbs_of}
use Rattle.ghs_cli.proofs.Ending.{either_way, ends_behind, ends_by, ends_else, goes_on, limit_cause}
use Rattle.ghs_answers.proofs.lemmas.Known.{if_some}
use Rattle.ghs_cli.proofs.Serves.{serves_all, serves_fault, serves_limit, serves_part}
use Rattle.ghs_cli.proofs.running.write_run_of.Goals as goal

pub returns-in_err-output-clause-serves : goal.returns-in_err-output-clause-serves
returns-in_err-output-clause-serves g c =
    let is : c.from_residual.result ≡ Err c.in_err-output.field-0.0 = search rules in λ stored.
    if_some (g.S.Source.left c.args.graph.now) (λ input. IsTextCause c.args.options.now.wake
    ((verbs_of c.args.protocol).stops c.args.options.now) input c.in_err-output.field-0.0) _
    (λ input cause. serves_fault (task.Run c.args.protocol c.args.options.now) stored input _ _ c.from_residual.result c.in_err-output.field-0.0 is
    c.in_err-output.ensures.early cause)
    c.in_err-output.ensures.fault

pub returns-in_err-write_out-clause-serves : goal.returns-in_err-write_out-clause-serves
returns-in_err-write_out-clause-serves g c =
    let is : c.from_residual-in_err-write_out.result ≡ Err (serve.Write c.in_err-write_out.field-0.0.written) = search rules in λ stored.
    if_some _ (λ input. IsOfText c.args.options.now.wake
    (λ s. (verbs_of c.args.protocol).runs c.args.options.now s c.in_ok-output.output.at_limit) input
    c.in_ok-output.output.text.items) _
    (λ input out. serves_part (task.Run c.args.protocol c.args.options.now) stored input c.deref.result.now c.in_ok-output.output.text.items
    (g.W.Sink.held c.args.out.now) (g.W.Sink.held c.write_out.new.writer)
    c.from_residual-in_err-write_out.result c.in_err-write_out.field-0.0.written c.deref.ensures.value is c.in_err-write_out.ensures.err.0
    c.in_err-write_out.ensures.err.1 (either_way c.args.protocol c.args.options.now c.in_ok-output.output.at_limit input
    c.in_ok-output.output.text.items out))
    c.in_ok-output.ensures.output

pub returns-then-output-clause-serves : goal.returns-then-output-clause-serves
returns-then-output-clause-serves g c = λ stored.
    if_some _ (λ input. IsOfText c.args.options.now.wake
    (λ s. (verbs_of c.args.protocol).runs c.args.options.now s c.in_ok-output.output.at_limit) input
    c.in_ok-output.output.text.items) _
    (λ input out.
    let stopped = subst (λ (b : Bool). IsOfText c.args.options.now.wake (λ s.
    (verbs_of c.args.protocol).runs c.args.options.now s b) input c.in_ok-output.output.text.items) c.if-output.true out in
    serves_limit (task.Run c.args.protocol c.args.options.now) stored input c.deref.result.now c.in_ok-output.output.text.items
    (g.W.Sink.held c.args.out.now)
    (g.W.Sink.held c.write_out.new.writer) c.deref.ensures.value c.in_ok-write_out.ensures.ok
    (limit_cause c.args.protocol c.args.options.now input c.in_ok-output.output.text.items stopped) stopped)
    c.in_ok-output.ensures.output

pub returns-clause-serves : goal.returns-clause-serves
returns-clause-serves g c = λ stored.
    if_some _ (λ input. IsOfText c.args.options.now.wake
    (λ s. (verbs_of c.args.protocol).runs c.args.options.now s c.in_ok-output.output.at_limit) input
    c.in_ok-output.output.text.items) _
    (λ input out. serves_all (task.Run c.args.protocol c.args.options.now) stored input c.deref.result.now c.in_ok-output.output.text.items
    (g.W.Sink.held c.args.out.now) (g.W.Sink.held c.write_out.new.writer) c.deref.ensures.value c.in_ok-write_out.ensures.ok
    (subst (λ (b : Bool). IsOfText c.args.options.now.wake
    (λ s. (verbs_of c.args.protocol).runs c.args.options.now s b) input c.in_ok-output.output.text.items)
    c.if-output.false out))
    c.in_ok-output.ensures.output

pub returns-in_err-output-clause-ends : goal.returns-in_err-output-clause-ends
returns-in_err-output-clause-ends g c =
    ends_by (task.Run c.args.protocol c.args.options.now) (IsTextCause c.args.options.now.wake ((verbs_of c.args.protocol).stops c.args.options.now))
    (g.S.Source.left c.args.graph.now) c.from_residual.result
    c.in_err-output.field-0.0 c.law_one_judgement.ensures (goes_on c.args.protocol c.args.options.now c.law_never_stops.ensures)
    (search rules) c.in_err-output.ensures.fault

pub returns-in_err-write_out-clause-ends : goal.returns-in_err-write_out-clause-ends
returns-in_err-write_out-clause-ends g c =
    let is : c.from_residual-in_err-write_out.result ≡ Err (serve.Write c.in_err-write_out.field-0.0.written) = search rules in
    ends_else (task.Run c.args.protocol c.args.options.now) (g.S.Source.left c.args.graph.now) c.from_residual-in_err-write_out.result
    (λ limit. let bad : Err (serve.Write c.in_err-write_out.field-0.0.written) ≡ Err serve.TurnLimit = sym is ∙ limit in cc)

pub returns-then-output-clause-ends : goal.returns-then-output-clause-ends
returns-then-output-clause-ends g c =
    ends_behind (task.Run c.args.protocol c.args.options.now) (λ i. IsOfText c.args.options.now.wake (λ s.
    (verbs_of c.args.protocol).runs c.args.options.now s true) i c.in_ok-output.output.text.items)
    (g.S.Source.left c.args.graph.now) (Err serve.TurnLimit) c.law_one_judgement.ensures
    (λ i one out. goes_on c.args.protocol c.args.options.now c.law_never_stops.ensures i one
    (limit_cause c.args.protocol c.args.options.now i c.in_ok-output.output.text.items out))
    (subst (λ (b : Bool). IfSome (g.S.Source.left c.args.graph.now) (λ i. IsOfText c.args.options.now.wake (λ s.
    (verbs_of c.args.protocol).runs c.args.options.now s b) i c.in_ok-output.output.text.items))
    c.if-output.true c.in_ok-output.ensures.output)

pub returns-clause-ends : goal.returns-clause-ends
returns-clause-ends g c = ends_else (task.Run c.args.protocol c.args.options.now) (g.S.Source.left c.args.graph.now) (Ok tt) (λ limit. cc)
