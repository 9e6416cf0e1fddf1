-- What stands against an exploration, as lines of JSON. The words are those of the program.
use Rattle.std.specs.Prelude.{ℕ, List, ◌++◌, codes, decimal}

unfoldable pub too_large_json : List ℕ
too_large_json = codes "{\"fault\":\"size\",\"words\":\"too large to explore: at most 12 nodes and 20 links\"}\n"

unfoldable pub too_many_json : ℕ → List ℕ
too_many_json limit = codes "{\"fault\":\"states\",\"words\":\"more than " ++ decimal limit ++ codes " states\"}\n"

unfoldable pub no_numbers_json : List ℕ
no_numbers_json = codes "{\"fault\":\"numbers\",\"words\":\"more than 65536 states of nodes, messages or contents of queues\"}\n"
