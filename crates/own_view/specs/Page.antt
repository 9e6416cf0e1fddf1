-- The page of a run by a book.
use Rattle.std.specs.Prelude.{◌≡◌, ◌≢◌, ℕ, ◌==◌, ◌*◌, cond, codes, ◌++◌, List, [], ◌∷◌}
use Rattle.std.specs.List.{All, flat_map}
use Rattle.ghs_graph.specs.Graph.{Shape}
use Rattle.own_book.specs.Entry.{Entry}
use Rattle.own_rules.specs.Looks.{looks_of}
use Rattle.own_rules.specs.Rules.{rules_of}
use Rattle.own_rules.specs.Words.{words_of}
use Rattle.own_view.specs.Openings.{openings}
use Rattle.peer_machine.specs.Rules.{Rules}
use Rattle.peer_network.specs.declared.event.Event.{Event}
use Rattle.peer_page.specs.Page.{page_text, pair_text}
use Rattle.peer_view.specs.RunPage.{run_json}
use Rattle.peer_words.specs.Looks.{Looks}
use Rattle.peer_words.specs.Words.{Words}
use Rattle.own_rules.specs.declared.node.Allowance.{Allowance}

-- A book may say any printable byte. On a page `<` and `&` stand as HTML writes them, so that nothing that a book says is read as HTML.
abbrev pub shield : ℕ → List ℕ
shield b = cond (b == 60) (codes "&lt;") (cond (b == 38) (codes "&amp;") (b ∷ []))

unfoldable pub shielded : List ℕ → List ℕ
shielded text = flat_map shield text

-- no `<` is left, by which the element that the data stand in could end
abbrev pub HasNoTag : List ℕ → Type 0
HasNoTag text = All (λ b. b ≢ 60) text

module _ {S M : Type 0} (r : Rules S M) (words : Words S M) (looks : Looks) (bound : Shape → ℕ) where
  -- the data of a run whose events are shown up to one, and how each node opens
  abbrev pub told_json : Shape → List Event → ℕ → ℕ → List ℕ
  told_json g es from to = shielded (run_json r words looks bound g es from to ++ openings r words g)

  -- the page's constant text round them; it opens before an event
  abbrev pub IsOwnPage : Shape → List Event → ℕ → ℕ → List ℕ → Type 0
  IsOwnPage g es from to text = text ≡ page_text (told_json g es from to)

  -- two runs beside each other
  abbrev pub IsOwnPair : Shape → List Event → List Event → ℕ → ℕ → List ℕ → Type 0
  IsOwnPair g first second from to text = text ≡ pair_text (told_json g first from to) (told_json g second from to)

-- by the rules of this book, where each node has this allowance
abbrev pub IsPageBy : List Entry → Allowance → Shape → List Event → ℕ → ℕ → List ℕ → Type 0
IsPageBy book most = IsOwnPage (rules_of book most) (words_of book) (looks_of book) (λ g. g.nodes * most.messages)

abbrev pub IsPairBy : List Entry → Allowance → Shape → List Event → List Event → ℕ → ℕ → List ℕ → Type 0
IsPairBy book most = IsOwnPair (rules_of book most) (words_of book) (looks_of book) (λ g. g.nodes * most.messages)
