use Rattle.std.proofs.Common.{◌∙◌, None, Some, ap, arith, rules, sym}
use Rattle.std.proofs.lemmas.Bool.{lt-ltb}
use Rattle.std.proofs.lemmas.Str.Pattern.{split_once_first}
use Rattle.ghs_commands.specs.Wakers.{node_in}
use Rattle.ghs_commands.proofs.Listing.{last, opened, over, read, refused, uncut}
use Rattle.ghs_commands.proofs.wakers.listed.Goals as goal

pub loop-place-init : goal.loop-place-init
loop-place-init c = (opened c.args.text.now, c.utf8.text)

pub returns-in_default-node_in : goal.returns-in_default-node_in
returns-in_default-node_in c =
    let whole = uncut c.loop-place.rest.now (split_once_first 44 c.loop-place.rest.now None c.in_default.ensures.cases (omega arith)) in
    refused c.args.text.now c.loop-place.rest.now c.loop-place.nodes c.loop-place.place c.loop-place-test.true c.loop-place.invariant.0
    (ap node_in whole.1 ∙ sym c.in_default-node_in.ensures)

pub returns-in_default : goal.returns-in_default
returns-in_default c =
    let whole = uncut c.loop-place.rest.now (split_once_first 44 c.loop-place.rest.now None c.in_default.ensures.cases (omega arith)) in
    last c.args.text.now c.loop-place.rest.now c.loop-place.nodes c.loop-place.place c.loop-place-test.true c.in-Some-node_in.node
    c.loop-place.invariant.0 whole.0 (ap node_in whole.1 ∙ sym c.in-Some-node_in.ensures)

pub returns-in_default-node_in-2 : goal.returns-in_default-node_in-2
returns-in_default-node_in-2 c =
    let cut = split_once_first 44 c.loop-place.rest.now (Some (c.in-Some.first, c.in-Some.behind)) c.in-Some.ensures.cases (omega arith) in
    refused c.args.text.now c.loop-place.rest.now c.loop-place.nodes c.loop-place.place c.loop-place-test.true c.loop-place.invariant.0
    (ap node_in (sym cut.1) ∙ sym c.in_default-node_in-2.ensures)

pub loop-place-preserved : goal.loop-place-preserved
loop-place-preserved c =
    let cut = split_once_first 44 c.loop-place.rest.now (Some (c.in-Some.first, c.in-Some.behind)) c.in-Some.ensures.cases (omega arith) in
    let listed_so = read c.args.text.now c.loop-place.rest.now c.loop-place.nodes c.loop-place.place c.loop-place-test.true
    c.in-Some-node_in-2.node c.loop-place.invariant.0 (lt-ltb _ _ cut.0) (ap node_in (sym cut.1) ∙ sym c.in-Some-node_in-2.ensures) in
    (rw cut.2 listed_so, search rules)

pub returns : goal.returns
returns c =
    let end = c.loop-place-test.false in
    let most = c.loop-place.auto.place-end in
    over c.args.text.now c.loop-place.rest.now c.loop-place.nodes c.loop-place.place (omega (arith, end, most)) c.loop-place.invariant.0
