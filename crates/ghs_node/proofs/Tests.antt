-- What the tests of the table mean, and choices by them.
use Rattle.std.proofs.Common.{◌≡◌, ◌≢◌, ℕ, zero, suc, Bool, true, false, not, ◌&&◌, cond, Option, Some, None, refl, sym, ◌∙◌, ap, eqb-true, eq-eqb, ne_eqb}
use Rattle.std.proofs.lemmas.Bool.{false≢true}
use Rattle.std.proofs.lemmas.Option.{same_Some}
use Rattle.ghs_node.specs.declared.mark.Mark.{Mark}
use Rattle.ghs_node.specs.declared.mark.Mark.TheVariants.{Basic, Branch, Rejected}
use Rattle.ghs_node.specs.declared.message.Phase.{Phase}
use Rattle.ghs_node.specs.declared.message.Phase.TheVariants.{Sleeping, Find, Found}
use Rattle.ghs_node.specs.declared.delta.Delta.{Delta}
use Rattle.ghs_node.specs.Words.{is_basic, is_branch, is_sleeping, is_find, is_at, is_missing, is_zero}

-- a choice that came out as Some d
pub by_test : {P : Type 0} (b : Bool) (x y : Option Delta) (d : Delta) → (b ≡ true → x ≡ Some d → P) → (b ≡ false → y ≡ Some d → P)
    → cond b x y ≡ Some d → P
by_test true x y d f g e = f refl e
by_test false x y d f g e = g refl e

-- a choice that came out as None
pub none_by : {P : Type 0} (b : Bool) (x y : Option Delta) → (b ≡ true → x ≡ None → P) → (b ≡ false → y ≡ None → P) → cond b x y ≡ None → P
none_by true x y f g e = f refl e
none_by false x y f g e = g refl e

pub no_delta : {P : Type 0} (d : Delta) → None ≡ Some d → P
no_delta d e = cc

pub a_delta : {P : Type 0} (d : Delta) → Some d ≡ None → P
a_delta d e = cc

pub both_true : (a b : Bool) → (a && b) ≡ true → (a ≡ true) × (b ≡ true)
both_true true b e = (refl, e)
both_true false b e = cc

pub not_true : (b : Bool) → not b ≡ true → b ≡ false
not_true true e = cc
not_true false e = refl

pub not_false : (b : Bool) → not b ≡ false → b ≡ true
not_false true e = refl
not_false false e = cc

pub zero_is : (n : ℕ) → is_zero n ≡ true → n ≡ 0
zero_is zero e = refl
zero_is (suc n) e = cc

pub missing_is : (o : Option ℕ) → is_missing o ≡ true → o ≡ None
missing_is None e = refl
missing_is (Some p) e = cc

pub at_is : (o : Option ℕ) (j : ℕ) → is_at o j ≡ true → o ≡ Some j
at_is None j e = cc
at_is (Some p) j e = ap Some (eqb-true p j e)

pub at_not : (o : Option ℕ) (j : ℕ) → is_at o j ≡ false → o ≢ Some j
at_not None j e x = cc
at_not (Some p) j e x = false≢true (sym e ∙ eq-eqb p j (same_Some p j x))

pub is_at_is : (o : Option ℕ) (j : ℕ) → o ≡ Some j → is_at o j ≡ true
is_at_is None j e = cc
is_at_is (Some p) j e = eq-eqb p j (same_Some p j e)

pub is_at_not : (o : Option ℕ) (j : ℕ) → o ≢ Some j → is_at o j ≡ false
is_at_not None j e = refl
is_at_not (Some p) j e = ne_eqb p j (λ x. e (ap Some x))

pub basic_is : (m : Mark) → is_basic m ≡ true → m ≡ Basic
basic_is Basic e = refl
basic_is Branch e = cc
basic_is Rejected e = cc

pub basic_not : (m : Mark) → is_basic m ≡ false → m ≢ Basic
basic_not m e x = cc

pub is_basic_not : (m : Mark) → m ≢ Basic → is_basic m ≡ false
is_basic_not Basic e = absurd (e refl)
is_basic_not Branch e = refl
is_basic_not Rejected e = refl

pub branch_mark : (m : Mark) → is_branch m ≡ true → m ≡ Branch
branch_mark Basic e = cc
branch_mark Branch e = refl
branch_mark Rejected e = cc

pub sleeping_is : (p : Phase) → is_sleeping p ≡ true → p ≡ Sleeping
sleeping_is Sleeping e = refl
sleeping_is Find e = cc
sleeping_is Found e = cc

pub sleeping_not : (p : Phase) → is_sleeping p ≡ false → p ≢ Sleeping
sleeping_not p e x = cc

pub is_sleeping_not : (p : Phase) → p ≢ Sleeping → is_sleeping p ≡ false
is_sleeping_not Sleeping e = absurd (e refl)
is_sleeping_not Find e = refl
is_sleeping_not Found e = refl

pub find_is : (p : Phase) → is_find p ≡ true → p ≡ Find
find_is Sleeping e = cc
find_is Find e = refl
find_is Found e = cc

pub found_is : (p : Phase) → p ≢ Sleeping → is_find p ≡ false → p ≡ Found
found_is Sleeping s e = absurd (s refl)
found_is Find s e = cc
found_is Found s e = refl
