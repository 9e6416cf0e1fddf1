-- How the nodes of a network open, as lines of JSON: by a book each has variables and marks of its own.
use Rattle.std.specs.Prelude.{ℕ, zero, suc, codes, decimal, length, ◌++◌, List, [], ◌∷◌}
use Rattle.std.specs.List.{flat_map}
use Rattle.ghs_graph.specs.Graph.{Shape}
use Rattle.ghs_graph.specs.Ports.{ports_of}
use Rattle.peer_machine.specs.Rules.{Rules}
use Rattle.peer_machine.specs.Run.{net_after}
use Rattle.peer_page.specs.Commas.{parts_to}
use Rattle.peer_words.specs.Json.{escaped, member, quoted, said_member, value_json}
use Rattle.peer_words.specs.Words.{Words}
use Rattle.peer_words.specs.declared.value.Said.{Said}

-- variables as the members of an object
abbrev pub members_of : List Said → List ℕ
members_of [] = []
members_of (s ∷ more) = member [] s.name (value_json s.value) ++ flat_map said_member more

module _ {S M : Type 0} (words : Words S M) where
  -- the mark of a node's port
  abbrev pub mark_json : S → ℕ → List ℕ
  mark_json n p = quoted (escaped (words.mark n p))

  -- the marks of so many ports, and the variables
  unfoldable pub node_members : ℕ → S → List ℕ
  node_members ports n =
      codes ",\"marks\":[" ++ parts_to ports (mark_json n) ++ codes "],\"set\":{" ++ members_of (words.variables n) ++ codes "}"

  -- node v: `{"opens":V,"marks":[MARK,..],"set":{NAME:VALUE,..}}`
  unfoldable pub opening_line : ℕ → ℕ → S → List ℕ
  opening_line v ports n = member (codes "{") (codes "opens") (decimal v) ++ node_members ports n ++ codes "}\n"

  -- nodes 1 to k
  abbrev pub openings_to : Shape → (ℕ → S) → ℕ → List ℕ
  openings_to g node zero = []
  openings_to g node (suc k) = openings_to g node k ++ opening_line (suc k) (length (ports_of g.keys (suc k))) (node (suc k))

-- each node of the net before any event
abbrev pub openings : {S M : Type 0} → Rules S M → Words S M → Shape → List ℕ
openings r words g = openings_to words g (net_after r g []).node g.nodes
