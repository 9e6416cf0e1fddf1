-- The counts of a run's messages, which end the data of a page.
use Rattle.std.specs.Prelude.{ℕ, List, ◌++◌, codes, decimal}
use Rattle.peer_words.specs.Json.{member, next}
use Rattle.peer_page.specs.Commas.{parts_to}

-- the counts of n kinds
abbrev pub parts_json : ℕ → (ℕ → ℕ) → List ℕ
parts_json n f = parts_to n (λ k. decimal (f k))

unfoldable pub counts_json : ℕ → (ℕ → ℕ) → List ℕ
counts_json n f = codes "[" ++ parts_json n f ++ codes "]"

unfoldable pub kinds_members : ℕ → (ℕ → ℕ) → (ℕ → ℕ) → List ℕ
kinds_members n sent consumed = codes ",\"sent\":" ++ counts_json n sent ++ codes ",\"consumed\":" ++ counts_json n consumed

-- after so many events: the messages of n kinds that were sent and consumed, how often one was put back, and how many wait
unfoldable pub counts_line : ℕ → ℕ → (ℕ → ℕ) → (ℕ → ℕ) → ℕ → ℕ → List ℕ
counts_line n events sent consumed requeued queued =
    member (codes "{") (codes "ledger") (decimal events)
    ++ kinds_members n sent consumed
    ++ next (codes "requeued") (decimal requeued)
    ++ next (codes "queued") (decimal queued)
    ++ codes "}\n"
