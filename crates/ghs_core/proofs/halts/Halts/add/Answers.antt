use Rattle.std.proofs.Common.{◌≡◌, ap, Some, ◌∙◌, sym, get_or, true, refl, arith}
use Rattle.std.proofs.lemmas.List.{get_or_default}
use Rattle.ghs_core.proofs.Halting.{root_within, one_running, first_halts, more_halts}
use Rattle.ghs_core.proofs.halts.Halts.add.Goals as goal

pub index-requires : goal.index-requires
index-requires c =
    let within = root_within c.args.graph.now c.requires.halts.1.graph c.args.v c.root-root.result c.requires.low c.requires.high
    c.root-root.ensures.root c.args.self.now c.requires.halts in
    omega (arith, within)

pub index_mut-requires : goal.index_mut-requires
index_mut-requires c =
    let within = root_within c.args.graph.now c.requires.halts.1.graph c.args.v c.root-root.result c.requires.low c.requires.high
    c.root-root.ensures.root c.args.self.now c.requires.halts in
    omega (arith, within)

pub overflow_sub-self : goal.overflow_sub-self
overflow_sub-self c =
    let within = root_within c.args.graph.now c.requires.halts.1.graph c.args.v c.root-root.result c.requires.low c.requires.high
    c.root-root.ensures.root c.args.self.now c.requires.halts in
    one_running c.args.graph.now c.requires.halts.1.graph c.args.v c.root-root.result c.requires.low c.requires.high
    c.root-root.ensures.root c.args.self.now c.requires.halts
    (get_or_default c.args.self.now.ended.items c.root-root.result true _ within ∙ sym c.index.ensures ∙ c.if-not-index.true)

pub returns-then-not-index : goal.returns-then-not-index
returns-then-not-index c = λ halted are.
    let within = root_within c.args.graph.now are.graph c.args.v c.root-root.result c.requires.low c.requires.high c.root-root.ensures.root
    c.args.self.now c.requires.halts in
    let flag : get_or c.args.self.now.ended.items c.root-root.result true ≡ c.index.result.now =
    get_or_default c.args.self.now.ended.items c.root-root.result true _ within ∙ sym c.index.ensures in
    first_halts c.args.graph.now are.graph c.args.v c.root-root.result c.requires.low c.requires.high c.root-root.ensures.root halted
    c.args.self.now _ are (flag ∙ c.if-not-index.true) (ap Some c.lesser_of.ensures) refl
    (let one = one_running c.args.graph.now c.requires.halts.1.graph c.args.v c.root-root.result c.requires.low c.requires.high
    c.root-root.ensures.root c.args.self.now c.requires.halts (flag ∙ c.if-not-index.true) in
    omega (arith, one))

pub returns-else-not-index : goal.returns-else-not-index
returns-else-not-index c = λ halted are.
    let within = root_within c.args.graph.now are.graph c.args.v c.root-root.result c.requires.low c.requires.high c.root-root.ensures.root
    c.args.self.now c.requires.halts in
    let flag : get_or c.args.self.now.ended.items c.root-root.result true ≡ c.index.result.now =
    get_or_default c.args.self.now.ended.items c.root-root.result true _ within ∙ sym c.index.ensures in
    more_halts c.args.graph.now are.graph c.args.v c.root-root.result c.requires.low c.requires.high c.root-root.ensures.root halted
    c.args.self.now _ are (flag ∙ c.if-not-index.false) (ap Some c.lesser_of.ensures) refl refl
