-- What is known of a text.
use Rattle.std.proofs.Common.{ℕ, List, Option, Some, None}
use Rattle.std.specs.Prelude.{IfSome}

-- what follows for each text follows where one is known
pub if_some : (o : Option (List ℕ)) (P Q : List ℕ → Type 0) → ((bytes : List ℕ) → P bytes → Q bytes) → IfSome o P → IfSome o Q
if_some None P Q f all = tt
if_some (Some bytes) P Q f all = f bytes all

pub for_some : (o : Option (List ℕ)) (P : List ℕ → Type 0) → ((bytes : List ℕ) → P bytes) → IfSome o P
for_some None P all = tt
for_some (Some bytes) P all = all bytes
