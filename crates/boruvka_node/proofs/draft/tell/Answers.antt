use Rattle.std.proofs.Common.{◌++◌, ◌∙◌, sym, ap, arith, append-nil}
use Rattle.std.proofs.lemmas.List.{drop_all}
use Rattle.boruvka_node.specs.declared.change.Change.{Change}
use Rattle.boruvka_node.specs.Draft.{drafted}
use Rattle.boruvka_node.specs.Entering.{after, joined_mark, told_as, told_from}
use Rattle.boruvka_node.specs.State.{port_at}
use Rattle.boruvka_node.proofs.Drafted.{length_drafted}
use Rattle.boruvka_node.proofs.Entered.{told_next}
use Rattle.boruvka_node.proofs.draft.tell.Goals as goal

pub loop-port-preserved : goal.loop-port-preserved
loop-port-preserved c =
    let n = c.args.node.now in
    let e = c.args.entry.now in
    let p = c.loop-port.port in
    let now = c.loop-port.draft in
    let long = length_drafted n c.args.draft in
    let told = c.in_ok-draft.ensures.sends
    ∙ ap (λ (x : Change). now.sends.items ++ told_as e p (joined_mark e p (port_at (after n x) p).mark)) c.loop-port.invariant.change in
    record {
      change = c.in_ok-draft.ensures.change ∙ c.loop-port.invariant.change;
      told = told_next e (drafted n c.args.draft).ports p now.sends.items _ _ (omega arith) told c.loop-port.invariant.told;
    }

pub returns-clause-sends : goal.returns-clause-sends
returns-clause-sends c =
    let n = c.args.node.now in
    let e = c.args.entry.now in
    let p = c.loop-port.port in
    let ss = c.loop-port.draft.sends.items in
    let long = length_drafted n c.args.draft in
    let none = drop_all p (drafted n c.args.draft).ports (omega arith) in
    sym (append-nil ss) ∙ ap (λ ps. ss ++ told_from e p ps) (sym none) ∙ c.loop-port.invariant.told
