-- Choices of a command line.
use Rattle.std.proofs.Common.{◌≡◌, ℕ, Bool, List, [], ◌∷◌, ◌||◌, ap, map, refl, Bor}
use Rattle.std.specs.List.{list_any}
use Rattle.std.specs.Str.{bytes_eq}

-- whether a text is among others that are borrowed
pub among_borrowed : (text : List ℕ) (choices : List (Bor (List ℕ))) →
    list_any (λ choice. bytes_eq text choice.now) choices ≡ list_any (λ choice. bytes_eq text choice) (map (λ (t : Bor (List ℕ)). t.now) choices)
among_borrowed text [] = refl
among_borrowed text (c ∷ cs) = ap (λ (b : Bool). bytes_eq text c.now || b) (among_borrowed text cs)
