use Rattle.std.proofs.Common.{◌≡◌, ◌++◌, ◌∙◌, IsPermutation, List, ap, refl, subst, ℕ}
use Rattle.std.proofs.lemmas.List.Sorted.{IsNonDecreasingBy-from_sort}
use Rattle.std.specs.List.{sum}
use Rattle.peer_sweep.specs.Summary.{measure_line, values_of}
use Rattle.peer_sweep.proofs.summary.put_measure.Goals as goal

pub returns : goal.returns
returns c =
    let column = c.args.column.now in
    let values = values_of column.measure c.args.runs.now in
    let given : c.in_ok-values.values.items ≡ values = c.in_ok-values.ensures.values in
    let rising = c.sort_unstable.new.self.items in
    let total : c.sum_of-sum.result ≡ sum values = c.sum_of-sum.ensures ∙ ap sum (c.deref.ensures.value ∙ given) in
    let line = measure_line c.args.form c.args.front.now column rising (sum values) in (
      line,
      record {
        rising = rising;
        rises = record {
          same = subst (λ (l : List ℕ). IsPermutation l rising) given c.sort_unstable.ensures.permutation;
          order = IsNonDecreasingBy-from_sort (λ (x : ℕ). x) rising c.sort_unstable.ensures.sorted;
        };
        text = refl;
      },
      c.in_ok-put_measure_line.ensures
          ∙ (ap (λ (l : List ℕ). c.args.text.now.items ++ measure_line c.args.form c.args.front.now column l c.sum_of-sum.result)
          c.deref-2.ensures.value
          ∙ ap (λ (n : ℕ). c.args.text.now.items ++ measure_line c.args.form c.args.front.now column rising n) total),
    )
