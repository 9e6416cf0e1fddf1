-- Phases, marks and answers that aren't the same: from such an equation anything follows.
use Rattle.std.proofs.Common.{◌≡◌, ℕ, true, false, Some, None, arith}
use Rattle.boruvka_node.specs.declared.mark.Mark.TheVariants.{Basic, Asked, Branch, Inside}
use Rattle.boruvka_node.specs.declared.message.Phase.TheVariants.{Sleeping, Search, Rest}
use Rattle.boruvka_node.specs.Words.{is_basic}

module _ {P : Type 0} where
  pub rest_is_sleeping : Rest ≡ Sleeping → P
  rest_is_sleeping e = cc

  pub search_is_sleeping : Search ≡ Sleeping → P
  search_is_sleeping e = cc

  pub rest_is_search : Rest ≡ Search → P
  rest_is_search e = cc

  pub sleeping_is_search : Sleeping ≡ Search → P
  sleeping_is_search e = cc

  pub sleeping_is_rest : Sleeping ≡ Rest → P
  sleeping_is_rest e = cc

  pub basic_is_branch : Basic ≡ Branch → P
  basic_is_branch e = cc

  pub basic_is_inside : Basic ≡ Inside → P
  basic_is_inside e = cc

  pub basic_is_asked : Basic ≡ Asked → P
  basic_is_asked e = cc

  pub asked_is_branch : Asked ≡ Branch → P
  asked_is_branch e = cc

  pub asked_is_inside : Asked ≡ Inside → P
  asked_is_inside e = cc

  pub asked_is_basic : Asked ≡ Basic → P
  asked_is_basic e = cc

  pub branch_is_inside : Branch ≡ Inside → P
  branch_is_inside e = cc

  pub branch_is_asked : Branch ≡ Asked → P
  branch_is_asked e = cc

  pub branch_is_basic : Branch ≡ Basic → P
  branch_is_basic e = cc

  pub inside_is_branch : Inside ≡ Branch → P
  inside_is_branch e = cc

  pub inside_is_asked : Inside ≡ Asked → P
  inside_is_asked e = cc

  -- nor are Branch and Inside among the marks that count as Basic
  pub branch_is_plain : is_basic Branch ≡ true → P
  branch_is_plain e = cc

  pub inside_is_plain : is_basic Inside ≡ true → P
  inside_is_plain e = cc

  pub false_is_true : false ≡ true → P
  false_is_true e = cc

  pub true_is_false : true ≡ false → P
  true_is_false e = cc

pub one_is_zero : {P : Type 0} → ◌≡◌ {A = ℕ} 1 0 → P
one_is_zero e = absurd (omega (arith, e))

pub none_is_some : {P A : Type 0} (x : A) → None ≡ Some x → P
none_is_some x e = cc
