-- Small facts of phases and marks.
use Rattle.std.proofs.Common.{◌≡◌, ◌≢◌, ◌⊎◌, inl, inr, true, false, refl}
use Rattle.boruvka_node.specs.declared.mark.Mark.{Mark}
use Rattle.boruvka_node.specs.declared.mark.Mark.TheVariants.{Basic, Asked, Branch, Inside}
use Rattle.boruvka_node.specs.declared.message.Phase.{Phase}
use Rattle.boruvka_node.specs.declared.message.Phase.TheVariants.{Sleeping, Search, Rest}
use Rattle.boruvka_node.specs.Words.{is_basic, is_asked, is_sleeping, is_search}

-- Phases.

pub by_sleep : {P : Type 0} (p : Phase) → (is_sleeping p ≡ true → p ≡ Sleeping → P) → (is_sleeping p ≡ false → p ≢ Sleeping → P) → P
by_sleep Sleeping f h = f refl refl
by_sleep Search f h = h refl (λ e. cc)
by_sleep Rest f h = h refl (λ e. cc)

pub searching_is : (p : Phase) → is_search p ≡ true → p ≡ Search
searching_is Sleeping e = cc
searching_is Search e = refl
searching_is Rest e = cc

pub not_both : (p : Phase) → p ≡ Search → p ≡ Rest → ⊥
not_both p s r = cc

pub asleep_no_rest : (p : Phase) → p ≡ Sleeping → p ≡ Rest → ⊥
asleep_no_rest p s r = cc

pub asleep_no_search : (p : Phase) → p ≡ Sleeping → p ≡ Search → ⊥
asleep_no_search p s r = cc

pub awake_no_rest : (p : Phase) → p ≢ Sleeping → p ≢ Rest → p ≡ Search
awake_no_rest Sleeping a b = absurd (a refl)
awake_no_rest Search a b = refl
awake_no_rest Rest a b = absurd (b refl)

pub awake_no_search : (p : Phase) → p ≢ Sleeping → p ≢ Search → p ≡ Rest
awake_no_search Sleeping a b = absurd (a refl)
awake_no_search Search a b = absurd (b refl)
awake_no_search Rest a b = refl

-- Marks.

pub by_branch : {P : Type 0} (m : Mark) → (m ≡ Branch → P) → (m ≢ Branch → P) → P
by_branch Basic f h = h (λ e. cc)
by_branch Asked f h = h (λ e. cc)
by_branch Branch f h = f refl
by_branch Inside f h = h (λ e. cc)

pub mark_cases : (m : Mark) → (is_basic m ≡ true) ⊎ ((m ≡ Branch) ⊎ (m ≡ Inside))
mark_cases Basic = inl refl
mark_cases Asked = inl refl
mark_cases Branch = inr (inl refl)
mark_cases Inside = inr (inr refl)

pub asked_is : (m : Mark) → is_asked m ≡ true → m ≡ Asked
asked_is Basic e = cc
asked_is Asked e = refl
asked_is Branch e = cc
asked_is Inside e = cc

pub basic_no_branch : (m : Mark) → is_basic m ≡ true → m ≡ Branch → ⊥
basic_no_branch Basic b e = cc
basic_no_branch Asked b e = cc
basic_no_branch Branch b e = cc
basic_no_branch Inside b e = cc

pub plain_no_branch : (m : Mark) → m ≡ Basic → m ≡ Branch → ⊥
plain_no_branch m b e = cc

pub plain_no_asked : (m : Mark) → m ≡ Basic → m ≡ Asked → ⊥
plain_no_asked m b a = cc
