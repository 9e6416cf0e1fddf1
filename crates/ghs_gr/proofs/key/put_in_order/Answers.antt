use Rattle.std.proofs.Common.{rules}
use Rattle.std.specs.List.Sorted.{IsNonDecreasingBy}
use Rattle.std.proofs.lemmas.List.Sorted.{IsNonDecreasingBy-from_sort, answers_always}
use Rattle.ghs_gr.specs.Key.{code_of}
use Rattle.ghs_gr.proofs.Keys.{rising, same_keys, sorted_by_code}
use Rattle.ghs_gr.proofs.key.put_in_order.Goals as goal

pub returns-clause-keys : goal.returns-clause-keys
returns-clause-keys c =
    same_keys c.args.keys.now.items c.sort_unstable_by_key.new.self.items c.dedup.new.self.items
    c.sort_unstable_by_key.ensures.permutation c.dedup.ensures.filtered

pub returns-clause-rising : goal.returns-clause-rising
returns-clause-rising c =
    let sorted = c.sort_unstable_by_key.new.self.items in
    let up : IsNonDecreasingBy code_of sorted =
    IsNonDecreasingBy-from_sort code_of _ (c.sort_unstable_by_key.ensures.sorted code_of (answers_always _ _ _ (λ f a r g h. search rules))) in
    rising sorted c.dedup.new.self.items
    (sorted_by_code c.args.keys.now.items sorted c.requires c.sort_unstable_by_key.ensures.permutation up) c.dedup.ensures.filtered
