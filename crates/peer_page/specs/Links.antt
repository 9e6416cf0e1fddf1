-- The links of the data of a page.
use Rattle.std.specs.Prelude.{ℕ, List, ◌++◌, codes, decimal}
use Rattle.ghs_graph.specs.declared.key.Key.{Key}
use Rattle.peer_words.specs.Json.{member, next, quoted}
use Rattle.peer_words.specs.Text.{key_text}

-- a link; the ports of a node are numbered in the order of these lines
unfoldable pub link_json : Key → List ℕ
link_json k =
    member (codes "{") (codes "link") (quoted (key_text k))
    ++ next (codes "weight") (decimal k.weight)
    ++ next (codes "a") (decimal k.a)
    ++ next (codes "b") (decimal k.b)
    ++ codes "}\n"
