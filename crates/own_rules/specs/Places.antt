-- Where the book answers each question of a run.
use Rattle.std.specs.Prelude.{◌≡◌, ℕ, cond, position, true, List, Option, Some}
use Rattle.std.specs.Map.{lookup}
use Rattle.std.specs.Option.{is_some}
use Rattle.own_book.specs.Answer.{are_kinds}
use Rattle.own_book.specs.Entry.{Entry}
use Rattle.own_rules.specs.Looks.{looks_in, title_of}
use Rattle.own_rules.specs.Questions.{asks, same_lookup}
use Rattle.own_rules.specs.Ready.{AreReady}
use Rattle.own_rules.specs.Texts.{Text, kinds_of, names_of, texts_of}
use Rattle.own_rules.specs.declared.node.Lookup.{Lookup}
use Rattle.own_rules.specs.declared.ready.Ready.{Ready}

-- the place that pairs give to a lookup
abbrev pub place_in : List (Lookup × ℕ) → Lookup → Option ℕ
place_in pairs l = lookup (same_lookup l) pairs

-- a lookup has a place now, if it had none
abbrev pub first_at : List (Lookup × ℕ) → Lookup → ℕ → Lookup → Option ℕ
first_at pairs new place l = cond (is_some (place_in pairs new)) (place_in pairs l) (cond (same_lookup new l) (Some place) (place_in pairs l))

-- each lookup has the place of the first entry that answers it
abbrev pub ArePlaces : List Text → List Entry → List (Lookup × ℕ) → Type 0
ArePlaces texts book pairs = (l : Lookup) → place_in pairs l ≡ position (asks texts l) book

-- the kinds and the texts are those of the book, the places those of its answers, title and looks what a page is told, and what is
-- ready is what its answers do
pub record IsIndexed (book : List Entry) (greeted : Text) (named said : List Text) (pairs : List (Lookup × ℕ)) (headline : Text)
    (told : List Text) (all : List (Option Ready)) : Type 0 where
  pub kinds : greeted ≡ kinds_of book
  pub readable : are_kinds greeted ≡ true
  pub names : named ≡ names_of greeted
  pub texts : said ≡ texts_of book
  pub places : ArePlaces said book pairs
  pub title : headline ≡ title_of book
  pub looks : told ≡ looks_in greeted
  pub ready : AreReady said greeted book all
