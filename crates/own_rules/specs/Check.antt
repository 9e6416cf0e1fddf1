-- What a user may ask of the end of a run: a line for what is wrong with it, and no text where nothing is.
use Rattle.std.specs.Prelude.{◌≡◌, ℕ, zero, suc, ◌+◌, ◌-◌, ◌≤◌, ◌==◌, ◌&&◌, ◌||◌, nat_lt, Bool, true, false, not, cond, codes, decimal, filter, find, length, map, ◌++◌, List, [], ◌∷◌, Option, Some, None}
use Rattle.std.specs.Str.{bytes_eq}
use Rattle.ghs_choices.specs.declared.check.Check.{Check}
use Rattle.ghs_choices.specs.declared.check.Check.TheVariants.{Tree, Spanning, Leader, Halted}
use Rattle.ghs_graph.specs.Components.{HasComponents, IsRoot}
use Rattle.ghs_graph.specs.Graph.{Shape}
use Rattle.ghs_graph.specs.Key.{key_lt}
use Rattle.ghs_graph.specs.Links.{IsTree}
use Rattle.ghs_graph.specs.Ports.{port_number}
use Rattle.ghs_graph.specs.declared.key.Key.{Key}
use Rattle.own_book.specs.Entry.{Entry}
use Rattle.own_book.specs.Variables.{says_leader}
use Rattle.own_rules.specs.Rules.{halts}
use Rattle.own_rules.specs.Texts.{Text, text_at, texts_of}
use Rattle.own_rules.specs.Words.{mark_at}
use Rattle.own_rules.specs.declared.check.Seen.{Seen}
use Rattle.own_rules.specs.declared.node.Node.{Node}
use Rattle.own_rules.specs.declared.node.State.{State}
use Rattle.own_rules.specs.declared.node.State.TheVariants.{Runs, Stopped}
use Rattle.peer_words.specs.Text.{key_text}

-- the lines
unfoldable pub link_line : Key → Text → Text
link_line k back = codes "check: link " ++ key_text k ++ back ++ codes "\n"

unfoldable pub marked_line : ℕ → ℕ → Text
marked_line many wanted = codes "check: " ++ decimal many ++ codes " links are marked, and a spanning forest has " ++ decimal wanted ++ codes "\n"

unfoldable pub component_line : ℕ → ℕ → Text
component_line r many = codes "check: the component of node " ++ decimal r ++ codes " has " ++ decimal many ++ codes " leaders\n"

unfoldable pub node_line : ℕ → Text
node_line v = codes "check: node " ++ decimal v ++ codes " has not halted\n"

-- A link is marked as a branch by both its ends, by one at least, or by one alone.
abbrev pub by_both : Seen → Bool
by_both s = s.at_a && s.at_b

abbrev pub by_some : Seen → Bool
by_some s = s.at_a || s.at_b

abbrev pub by_one : Seen → Bool
by_one s = by_some s && not (by_both s)

abbrev pub keys_where : (Seen → Bool) → List Seen → List Key
keys_where p links = map (λ (s : Seen). s.key) (filter p links)

-- Trees: no link is marked at one end alone, and those that are marked are the links of the minimum spanning forest.

-- the first link that one of two rising lists has and the other hasn't, and whether it is the first list that has it
abbrev pub first_odd : List Key → List Key → Option (Key × Bool)
first_odd [] [] = None
first_odd [] (t ∷ ts) = Some (t, false)
first_odd (m ∷ ms) [] = Some (m, true)
first_odd (m ∷ ms) (t ∷ ts) = cond (key_lt m t) (Some (m, true)) (cond (key_lt t m) (Some (t, false)) (first_odd ms ts))

abbrev pub odd_text : Option (Key × Bool) → Text
odd_text None = []
odd_text (Some (k, true)) = link_line k (codes " is marked, and is not in the minimum spanning forest")
odd_text (Some (k, false)) = link_line k (codes " is not marked, and is in the minimum spanning forest")

abbrev pub one_end_text : Option Seen → Text → Text
one_end_text None other = other
one_end_text (Some s) other = link_line s.key (codes " is marked branch at one end alone")

abbrev pub tree_text : List Seen → List Key → Text
tree_text links forest = one_end_text (find by_one links) (odd_text (first_odd (keys_where by_both links) forest))

-- Spanning forests: the marked links have no cycle if they are as many as those of their own forest; and then they have to be as many as the
-- graph's.
abbrev pub spanning_text : ℕ → ℕ → ℕ → Text
spanning_text many own wanted =
    cond (nat_lt own many) (codes "check: the marked links have a cycle\n") (cond (many == wanted) [] (marked_line many wanted))

-- Nodes.

-- the first of the nodes 1 to n of which something holds
abbrev pub sooner : Option ℕ → Bool → ℕ → Option ℕ
sooner (Some v) here n = Some v
sooner None here n = cond here (Some n) None

abbrev pub first_node : (ℕ → Bool) → ℕ → Option ℕ
first_node p zero = None
first_node p (suc n) = sooner (first_node p n) (p (suc n)) (suc n)

-- of how many of them it does
abbrev pub count_nodes : (ℕ → Bool) → ℕ → ℕ
count_nodes p zero = 0
count_nodes p (suc n) = count_nodes p n + cond (p (suc n)) 1 0

abbrev pub halted_of : Option ℕ → Text
halted_of None = []
halted_of (Some v) = node_line v

-- the root of each node's component
abbrev pub AreRootsBy : Shape → (ℕ → ℕ) → Type 0
AreRootsBy g root = (v : ℕ) → 1 ≤ v → v ≤ g.nodes → IsRoot g.keys v (root v)

-- a node leads if its state has `leader=yes`
abbrev pub leads : List Entry → State → Bool
leads book (Runs text asleep left) = says_leader (text_at (texts_of book) text)
leads book (Stopped s) = false

module _ (book : List Entry) (g : Shape) (node : ℕ → Node) where
  -- a node, where a link ends, marks the port that the link is there
  abbrev pub marks : ℕ → Key → Bool
  marks v k = bytes_eq (mark_at book (node v).state (port_number g.keys v k)) (codes "branch")

  abbrev pub seen : Key → Seen
  seen k = record { key = k; at_a = marks k.a k; at_b = marks k.b k }

  abbrev pub links_seen : List Seen
  links_seen = map seen g.keys

  abbrev pub leads_for : (ℕ → ℕ) → ℕ → ℕ → Bool
  leads_for root r v = root v == r && leads book (node v).state

  abbrev pub leaders : (ℕ → ℕ) → ℕ → ℕ
  leaders root r = count_nodes (leads_for root r) g.nodes

  -- a component, told by its root, has another number of leaders than one
  abbrev pub is_misled : (ℕ → ℕ) → ℕ → Bool
  is_misled root r = root r == r && not (leaders root r == 1)

  abbrev pub leaders_of : (ℕ → ℕ) → Option ℕ → Text
  leaders_of root None = []
  leaders_of root (Some r) = component_line r (leaders root r)

  -- the text of a check
  abbrev pub IsCheckText : Check → Text → Type 0
  IsCheckText Tree text = (forest : List Key) × IsTree g.keys forest × (text ≡ tree_text links_seen forest)
  IsCheckText Spanning text =
      (own : List Key) × (c : ℕ) × IsTree (keys_where by_some links_seen) own × HasComponents g c
      × (text ≡ spanning_text (length (keys_where by_some links_seen)) (length own) (g.nodes - c))
  IsCheckText Leader text = (root : ℕ → ℕ) × AreRootsBy g root × (text ≡ leaders_of root (first_node (is_misled root) g.nodes))
  IsCheckText Halted text = text ≡ halted_of (first_node (λ v. not (halts book (node v).state)) g.nodes)

  -- without one nothing is said
  abbrev pub IsChecked : Option Check → Text → Type 0
  IsChecked None text = text ≡ []
  IsChecked (Some check) text = IsCheckText check text
