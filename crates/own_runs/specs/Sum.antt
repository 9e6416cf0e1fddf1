-- The sum by which entries are known again.
use Rattle.std.specs.Prelude.{ℕ, List}
use Rattle.hex.specs.Hex.{encode_lower}
use Rattle.own_book.specs.Entry.{Entry}
use Rattle.own_book.specs.Text.{book_text}
use Rattle.sha2.specs.Sha256.{sha256}

-- the SHA-256 of their text, in hexadecimal
abbrev pub sum_text : List Entry → List ℕ
sum_text entries = encode_lower (sha256 (book_text entries))
