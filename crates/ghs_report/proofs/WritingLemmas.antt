-- What goes out piece by piece.
use Rattle.std.proofs.Common.{◌≡◌, ℕ, ◌+◌, ◌-◌, ◌≤◌, List, ◌++◌, length, take, drop, sym, ◌∙◌, ap, append_assoc, arith, length-drop}
use Rattle.std.specs.Prelude.{Option, Some, None}
use Rattle.std.specs.Io.KnownBytes.{Appends}
use Rattle.std.proofs.lemmas.List.{take-append-drop, take-take, drop-take, take_all}

-- a longer front is a front and the next part
take-front : (w n : ℕ) (bytes : List ℕ) → take w bytes ++ take n (drop w bytes) ≡ take (w + n) bytes
take-front w n bytes =
    ap (λ t. t ++ take n (drop w bytes)) (sym (take-take w (w + n) bytes (omega arith)))
    ∙ (ap (λ t. take w (take (w + n) bytes) ++ t) (sym (drop-take w n bytes)) ∙ take-append-drop w (take (w + n) bytes))

-- the next write takes the next part
pub appends_more : (old mid new : Option (List ℕ)) (bytes : List ℕ) (w n : ℕ) →
    Appends old mid (take w bytes) →
    Appends mid new (take n (take (length bytes - w) (drop w bytes))) →
    Appends old new (take (w + n) bytes)
appends_more None mid new bytes w n a b = tt
appends_more (Some xs) None new bytes w n a b = absurd a
appends_more (Some xs) (Some ys) None bytes w n a b = absurd b
appends_more (Some xs) (Some ys) (Some zs) bytes w n a b =
    let rest : take (length bytes - w) (drop w bytes) ≡ drop w bytes = take_all _ _ (omega (arith, length-drop w bytes)) in
    b ∙
    (ap (λ t. ys ++ take n t) rest ∙
    (ap (λ t. t ++ take n (drop w bytes)) a ∙
    (append_assoc xs (take w bytes) (take n (drop w bytes)) ∙ ap (λ t. xs ++ t) (take-front w n bytes))))

-- what was taken of the rest is within it
pub within_rest : (bytes : List ℕ) (w n : ℕ) → w ≤ length bytes → n ≤ length (take (length bytes - w) (drop w bytes)) → w + n ≤ length bytes
within_rest bytes w n a b =
    let rest : take (length bytes - w) (drop w bytes) ≡ drop w bytes = take_all _ _ (omega (arith, length-drop w bytes)) in
    let c : n ≤ length (drop w bytes) = rw (← ap length rest) b in
    omega (arith, length-drop w bytes)
