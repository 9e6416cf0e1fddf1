use Rattle.std.proofs.Common.{rules}
use Rattle.std.proofs.lemmas.List.Sorted.{IsNonDecreasingBy-from_sort_by_key, answers_always}
use Rattle.own_book.specs.Sends.{Sending}
use Rattle.own_book.proofs.Order.{same_from_stable}
use Rattle.own_book.proofs.sends.sort_by_port.Goals as goal

pub returns-clause-sorted : goal.returns-clause-sorted
returns-clause-sorted c =
    IsNonDecreasingBy-from_sort_by_key (λ (s : Sending). s.0) _ c.in_ok-sort_by_key.ensures.sorted (λ a r q k. search rules)

pub returns-clause-same : goal.returns-clause-same
returns-clause-same c =
    same_from_stable _ _ (c.sort_by_key.ensures.stable (λ (s : Sending). s.0) (answers_always _ _ _ (λ f a r g h. search rules)))
