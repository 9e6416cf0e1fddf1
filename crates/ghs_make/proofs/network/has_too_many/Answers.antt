use Rattle.std.proofs.Common.{◌<◌, arith, subst, sym}
use Rattle.std.proofs.lemmas.Bool.{false≢true, ltb-true, lt-ltb}
use Rattle.ghs_make.specs.Network.{A_chain_wake, A_far_core, HasManyEnds}
use Rattle.ghs_make.proofs.Few.{complete_pairs, few_other, only_wake}
use Rattle.ghs_make.proofs.network.has_too_many.Goals as goal

pub returns-in-Complete : goal.returns-in-Complete
returns-in-Complete c =
    let all = complete_pairs c.args.plan.now c.requires.some c.in-Complete.is in
    let pairs = c.pairs.ensures in
    let limit = c.from.ensures in (
      λ more. let over : c.from.result < c.pairs.result = ltb-true _ _ more in omega (arith, over, all, pairs, limit),
      λ over. lt-ltb _ _ (omega (arith, over, all, pairs, limit)),
    )

pub count_many-requires-clause-many : goal.count_many-requires-clause-many
count_many-requires-clause-many c = subst HasManyEnds (sym c.in-FarCore.is) A_far_core

pub count_many-requires-in-ChainWake-clause-many : goal.count_many-requires-in-ChainWake-clause-many
count_many-requires-in-ChainWake-clause-many c = subst HasManyEnds (sym c.in-ChainWake.is) A_chain_wake

pub returns-in_default : goal.returns-in_default
returns-in_default c =
    let few = few_other c.args.plan.now c.requires c.in_default.not-Complete
    (λ many. c.in_default.not-ChainWake (only_wake _ many c.in_default.not-FarCore)) in
    (λ e. absurd (false≢true e), λ over. absurd (omega (arith, few, over)))
