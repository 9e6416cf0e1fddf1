use Rattle.std.proofs.Common.{IsPermutation, List, subst, ℕ}
use Rattle.std.proofs.lemmas.List.Sorted.{IsNonDecreasingBy-from_sort}
use Rattle.peer_sweep.proofs.summary.rising_of.Goals as goal

pub returns : goal.returns
returns c =
    let rising = c.sort_unstable.new.self.items in
    let given = c.in_ok-values.ensures.values in
    record {
      same = subst (λ (l : List ℕ). IsPermutation l rising) given c.sort_unstable.ensures.permutation;
      order = IsNonDecreasingBy-from_sort (λ (x : ℕ). x) rising c.sort_unstable.ensures.sorted;
    }
