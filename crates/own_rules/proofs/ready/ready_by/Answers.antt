use Rattle.std.proofs.Common.{◌∙◌, sym, subst, Some}
use Rattle.std.specs.Option.{option_map}
use Rattle.own_book.specs.Answer.{said_by}
use Rattle.own_rules.specs.Ready.{IsReady}
use Rattle.own_rules.specs.declared.ready.Ready.{Ready}
use Rattle.own_rules.proofs.Readying.{none_of, reaction_ready}
use Rattle.own_rules.proofs.ready.ready_by.Goals as goal

pub returns : goal.returns
returns c =
    let said = c.in-Reaction in
    let r : Ready = record {
      ports = c.ports_in-ports.result;
      after = c.number.result;
      waits = said.waits;
      sends = c.in_ok-numbered.numbered;
    } in
    let none = none_of c.reaction_fault.result (sym c.is_some.ensures ∙ c.if-is_some.false) in
    subst (λ o. IsReady c.args.texts.now c.args.kinds.now (option_map said_by o) r) (sym c.in-Some.is)
    (subst (λ a. IsReady c.args.texts.now c.args.kinds.now (Some (said_by a)) r) (sym said.is)
    (reaction_ready c.args.texts.now c.args.kinds.now r said.state.now said.sends.now
    (sym c.reaction_fault.ensures ∙ none) c.number.ensures c.in_ok-numbered.ensures))
