-- The laws of Spoken, with their proofs. Nothing here has to be believed.
use Rattle.std.proofs.Common.{◌≡◌, ℕ, false, List, refl}
use Rattle.std.proofs.lemmas.Bool.{true≢false}
use Rattle.own_book.specs.Entry.{Entry}
use Rattle.peer_words.specs.Touched.{is_touched}
use Rattle.own_rules.specs.Rules.{after}
use Rattle.own_rules.specs.Texts.{kind_among, kinds_of, text_at, texts_of}
use Rattle.own_rules.specs.Words.{mark_at, says_text, kind_name, touched_by}
use Rattle.own_rules.specs.declared.node.Message.{Message}
use Rattle.own_rules.specs.declared.node.Node.{Node}
use Rattle.own_rules.specs.declared.node.State.{State}

module _ (book : List Entry) where
  pub kinds_named : (m : Message) →
      (says_text book (text_at (texts_of book) m.text)).kind ≡ kind_name book (kind_among (kinds_of book) (text_at (texts_of book) m.text))
  kinds_named m = refl

  pub keeps : (n : Node) (c : State) (p : ℕ) → is_touched (touched_by c) p ≡ false → mark_at book (after n c).state p ≡ mark_at book n.state p
  keeps n c p h = absurd (true≢false h)
