-- Parts with commas between them, one more each time.
use Rattle.std.proofs.Common.{◌≡◌, ℕ, zero, suc, ◌+◌, ◌<◌, codes, List, [], ◌∷◌, ◌++◌, refl, sym, ◌∙◌, ap, arith, add-one, append_assoc, append-nil}
use Rattle.std.specs.List.{flat_map, range_with_len}
use Rattle.std.proofs.lemmas.List.Concat.{flat_map-append}
use Rattle.peer_page.specs.Commas.{comma, parts_to}

-- one number more
range_more : (a n j : ℕ) → a + n ≡ j → range_with_len a (suc n) ≡ range_with_len a n ++ j ∷ []
range_more a zero j e = ap (λ k. k ∷ []) (omega (arith, e))
range_more a (suc n) j e = ap (λ l. a ∷ l) (range_more (a + 1) n j (omega (arith, e)))

-- one part more
parts_more : (n : ℕ) (part : ℕ → List ℕ) → parts_to (suc n) part ≡ parts_to n part ++ (comma n ++ part n)
parts_more zero part = append-nil (part 0)
parts_more (suc n) part =
    ap (λ l. part 0 ++ flat_map behind l) (range_more (0 + 1) n (suc n) (omega arith))
    ∙ ap (λ l. part 0 ++ l) (flat_map-append behind (range_with_len (0 + 1) n) (suc n ∷ []))
    ∙ ap (λ l. part 0 ++ (flat_map behind (range_with_len (0 + 1) n) ++ l)) (append-nil (behind (suc n)))
    ∙ sym (append_assoc (part 0) (flat_map behind (range_with_len (0 + 1) n)) (behind (suc n)))
  where
    behind : ℕ → List ℕ
    behind k = codes "," ++ part k

-- the next part, behind those before it
pub next_part : (n : ℕ) (part : ℕ → List ℕ) (old so_far commaed now : List ℕ) → so_far ≡ old ++ parts_to n part →
    commaed ≡ so_far ++ comma n → now ≡ commaed ++ part n → now ≡ old ++ parts_to (n + 1) part
next_part n part old so_far commaed now so put more =
    more ∙ ap (λ l. l ++ part n) (put ∙ ap (λ l. l ++ comma n) so)
    ∙ append_assoc (old ++ parts_to n part) (comma n) (part n)
    ∙ append_assoc old (parts_to n part) (comma n ++ part n)
    ∙ ap (λ l. old ++ l) (sym (parts_more n part))
    ∙ ap (λ k. old ++ parts_to k part) (sym (add-one n))

-- the same parts
pub same_parts : (n : ℕ) (part other : ℕ → List ℕ) → ((k : ℕ) → k < n → part k ≡ other k) → parts_to n part ≡ parts_to n other
same_parts zero part other same = refl
same_parts (suc n) part other same =
    parts_more n part
    ∙ ap (λ l. l ++ (comma n ++ part n)) (same_parts n part other (λ k lt. same k (omega (arith, lt))))
    ∙ ap (λ l. parts_to n other ++ (comma n ++ l)) (same n (omega arith))
    ∙ sym (parts_more n other)
