use Rattle.std.proofs.Common.{◌∙◌}
use Rattle.peer_channels.proofs.Laying.{laid_for, laid_empty, laid_total, laid_kept}
use Rattle.peer_channels.proofs.Slots.{count_queues, count_places}
use Rattle.peer_channels.proofs.channels.Channels.new.Goals as goal

pub empty_queues-requires : goal.empty_queues-requires
empty_queues-requires g c = (c.in_ok-starts.field-0.widest, rw c.deref.ensures.value c.in_ok-starts.ensures.blocks)

pub invariant_of-result : goal.invariant_of-result
invariant_of-result g c =
    let count = rw c.deref.ensures.value at c.in_ok-queues.ensures.count in
    laid_kept c.args.graph.now c.in_ok-starts.ensures.graph _ _ c.in_ok-starts.ensures.blocks _ (count_queues _ ∙ count) _ (count_places _ ∙ count)
    (rw c.deref.ensures.value at c.in_ok-queues.ensures.far) _ c.in_ok-queues.ensures.empty
    (c.in_ok-claims.ensures.items_if_clones_equal (λ y e. e))

pub returns-clause-queues : goal.returns-clause-queues
returns-clause-queues g c =
    let count = rw c.deref.ensures.value at c.in_ok-queues.ensures.count in
    laid_for c.args.graph.now c.in_ok-starts.ensures.graph _ _ c.in_ok-starts.ensures.blocks _ (count_queues _ ∙ count) _ (count_places _ ∙ count)
    (rw c.deref.ensures.value at c.in_ok-queues.ensures.far)

pub returns-clause-empty : goal.returns-clause-empty
returns-clause-empty g c =
    let count = rw c.deref.ensures.value at c.in_ok-queues.ensures.count in
    laid_empty c.args.graph.now c.in_ok-starts.ensures.graph _ _ c.in_ok-starts.ensures.blocks _ (count_queues _ ∙ count) _ (count_places _ ∙ count)
    (rw c.deref.ensures.value at c.in_ok-queues.ensures.far) c.in_ok-queues.ensures.empty

pub returns-clause-total : goal.returns-clause-total
returns-clause-total g c =
    let count = rw c.deref.ensures.value at c.in_ok-queues.ensures.count in
    laid_total c.args.graph.now c.in_ok-starts.ensures.graph _ _ c.in_ok-starts.ensures.blocks _ (count_queues _ ∙ count) _ (count_places _ ∙ count)
    (rw c.deref.ensures.value at c.in_ok-queues.ensures.far) c.in_ok-queues.ensures.empty
