-- What is written of a name.
use Rattle.std.proofs.Common.{◌≡◌, ◌++◌, ◌∷◌, [], codes, ℕ, List, ap}
use Rattle.std.proofs.lemmas.List.{append-nil}
use Rattle.json.specs.Print.{print, print_from, escape_byte, quoted}
use Rattle.json.specs.Token.{begin_object, key, string}
use Rattle.peer_sweep.specs.Front.{opened_with}

-- an opened object and its first member, as they are printed
pub print_opened : (name : List ℕ) → print (begin_object ∷ key (codes "graph") ∷ string name ∷ []) ≡ opened_with name
unfolding print_from escape_byte
print_opened name = ap (λ text. codes "{\"graph\":" ++ text) (append-nil (quoted name))
