use Rattle.std.proofs.Common.{◌≡◌, true, false, rules, arith}
use Rattle.ghs_flags.specs.Flags.{at}
use Rattle.ghs_flags.proofs.Counted.{sum_blocks, count_few, counted_set, block_some}
use Rattle.ghs_flags.proofs.flags.Flags.set.Goals as goal

pub increase-requires-clause-room : goal.increase-requires-clause-room
increase-requires-clause-room c = let all = sum_blocks c.self.invariant in let few = count_few c.self.invariant in omega arith

pub invariant_of-self : goal.invariant_of-self
invariant_of-self c =
    let down : at c.self.inside.row c.args.place ≡ false = search rules in
    rw (c.turn.ensures, c.increase.ensures, down)
    (counted_set c.self.invariant c.args.place true _ (rw c.self.view_is c.requires) (rw down (omega arith)))

pub decrease-requires-clause-some : goal.decrease-requires-clause-some
decrease-requires-clause-some c =
    let up : at c.self.inside.row c.args.place ≡ true = search rules in
    block_some c.self.invariant c.args.place up

pub invariant_of-self-else-raised : goal.invariant_of-self-else-raised
invariant_of-self-else-raised c =
    let up : at c.self.inside.row c.args.place ≡ true = search rules in
    let some = block_some c.self.invariant c.args.place up in
    rw (c.turn.ensures, c.decrease.ensures, up)
    (counted_set c.self.invariant c.args.place false _ (rw c.self.view_is c.requires) (rw up (omega arith)))
