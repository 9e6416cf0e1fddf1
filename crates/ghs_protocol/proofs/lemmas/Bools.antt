-- Truths that imply each other are equal.
use Rattle.std.proofs.Common.{◌≡◌, Bool, true, false, refl, sym}

pub same_bool : (a b : Bool) → (a ≡ true → b ≡ true) → (b ≡ true → a ≡ true) → a ≡ b
same_bool true b to back = sym (to refl)
same_bool false true to back = back refl
same_bool false false to back = refl
