-- The line of the protocol, which tells a page its words: the names of the protocol and of its kinds of messages are those of its steps.
use Rattle.std.specs.Prelude.{ℕ, List, ◌++◌, codes}
use Rattle.peer_machine.specs.Rules.{Rules}
use Rattle.peer_page.specs.Commas.{parts_to}
use Rattle.peer_words.specs.Json.{member, next, quoted}
use Rattle.peer_words.specs.Looks.{Looks}
use Rattle.peer_words.specs.Words.{Words}

-- a kind of messages: its name, and what the page is told of it
unfoldable pub whole_kind : List ℕ → List ℕ → List ℕ
whole_kind name look = member (codes "{") (codes "kind") (quoted name) ++ codes "," ++ look ++ codes "}"

-- the protocol's name, and the page's title
unfoldable pub title_members : List ℕ → List ℕ → List ℕ
title_members name title = member (codes "{") (codes "protocol") (quoted name) ++ next (codes "title") (quoted title)

module _ {S M : Type 0} where
  abbrev pub kind_json : Words S M → Looks → ℕ → List ℕ
  kind_json words looks k = whole_kind (words.kind k) (looks.kind k)

  abbrev pub kinds_json : Rules S M → Words S M → Looks → List ℕ
  kinds_json r words looks = parts_to r.kinds (kind_json words looks)

  -- name, title, kinds, and what stands behind them
  unfoldable pub protocol_line : Rules S M → Words S M → Looks → List ℕ
  protocol_line r words looks =
      title_members words.name looks.title
      ++ codes ",\"kinds\":["
      ++ kinds_json r words looks
      ++ codes "],"
      ++ looks.rest
      ++ codes "}\n"
