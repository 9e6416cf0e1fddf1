use Rattle.std.proofs.Common.{ℕ, sym, Contains, subst, List}
use Rattle.std.specs.Prelude.{nat_eq}
use Rattle.std.specs.List.Sorted.{IsStrictlyIncreasing}
use Rattle.std.proofs.lemmas.List.Filters.{dedup_is}
use Rattle.std.proofs.lemmas.List.Kept.{Contains-dedup_nat, Contains-from_dedup}
use Rattle.std.proofs.lemmas.List.Sorted.{Contains-permutation, IsPermutation-sym}
use Rattle.std.proofs.lemmas.Map.Keys.{IsStrictlyIncreasing-dedup}
use Rattle.ghs_world.proofs.woken.put_in_order.Goals as goal

pub returns : goal.returns
returns c =
    let given = c.args.numbers.now.items in
    let sorted = c.sort_unstable.new.self.items in
    let e = dedup_is nat_eq sorted c.dedup.new.self.items c.dedup.ensures.filtered in
    let p = c.sort_unstable.ensures.permutation in
    record {
      rising = subst IsStrictlyIncreasing (sym e) (IsStrictlyIncreasing-dedup sorted c.sort_unstable.ensures.sorted);
      all = λ u. (
        λ h.
            Contains-permutation sorted given u (IsPermutation-sym given sorted p)
            (Contains-from_dedup nat_eq sorted u (subst (λ (xs : List ℕ). Contains xs u) e h)),
        λ h. subst (λ (xs : List ℕ). Contains xs u) (sym e) (Contains-dedup_nat sorted u (Contains-permutation given sorted u p h)),
      );
    }
