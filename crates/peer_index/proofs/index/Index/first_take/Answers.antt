use Rattle.std.proofs.Common.{ℕ, Option, subst, ◌+◌}
use Rattle.peer_network.specs.Network.{network_of}
use Rattle.ghs_flags.specs.Flags.{IsFirstFrom}
use Rattle.peer_index.specs.contracts.index.Index.{the_view}
use Rattle.peer_index.proofs.Finding.{past_told, none_told, take_told}
use Rattle.peer_index.proofs.index.Index.first_take.Goals as goal

pub returns-then-end-start : goal.returns-then-end-start
returns-then-end-start c = λ p of.
    past_told (network_of c.args.graph.now) p (the_view c.self.inside)
    (rw (← c.self.view_is) at of) c.args.v c.args.low _ _ c.requires.low c.requires.high
    (rw c.deref.ensures.value at c.span_of-wake.ensures.from) (rw c.deref.ensures.value at c.span_of-wake.ensures.to) c.if-end-start.true

pub returns-in-Some : goal.returns-in-Some
returns-in-Some c = λ p of.
    take_told (network_of c.args.graph.now) p (the_view c.self.inside)
    (rw (← c.self.view_is) at of) c.args.v c.args.low c.span_of-wake.result.0 c.span_of-wake.result.1 c.in-Some.at c.requires.low c.requires.high
    (rw c.deref.ensures.value at c.span_of-wake.ensures.from) (rw c.deref.ensures.value at c.span_of-wake.ensures.to)
    (subst (λ (o : Option ℕ). IsFirstFrom c.self.inside.marks (c.span_of-wake.result.0 + 1 + c.args.low) c.span_of-wake.result.1 o)
    c.in-Some.is c.first_from_to.ensures)

pub returns-in-None : goal.returns-in-None
returns-in-None c = λ p of.
    none_told (network_of c.args.graph.now) p (the_view c.self.inside)
    (rw (← c.self.view_is) at of) c.args.v c.args.low c.span_of-wake.result.0 c.span_of-wake.result.1 c.requires.low c.requires.high
    (rw c.deref.ensures.value at c.span_of-wake.ensures.from) (rw c.deref.ensures.value at c.span_of-wake.ensures.to)
    (subst (λ (o : Option ℕ). IsFirstFrom c.self.inside.marks (c.span_of-wake.result.0 + 1 + c.args.low) c.span_of-wake.result.1 o)
    c.in-None.is c.first_from_to.ensures)
