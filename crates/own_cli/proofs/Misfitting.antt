-- What is told of the text of a stored run by a book.
use Rattle.std.proofs.Common.{ℕ, List, Option}
use Rattle.std.specs.Prelude.{IfSome}
use Rattle.own_book.specs.Entry.{Entry}
use Rattle.peer_network.specs.declared.event.Event.{Event}
use Rattle.peer_trace.specs.Mark.{Mark}
use Rattle.own_cli.specs.Again.{IsMarkedText, IsMisfitCause, IsOwnCause}
use Rattle.ghs_answers.proofs.lemmas.Known.{if_some}
use Rattle.own_cli.specs.declared.again.OwnCause.{OwnCause}
use Rattle.own_cli.specs.declared.again.OwnCause.TheVariants as cause

module _ (book : List Entry) (mark : Mark) (events : List Event) where
  -- the text is of a book that this one isn't
  misfit_of : (stored : List ℕ) (why : OwnCause) → IsMisfitCause book mark why → IsMarkedText stored mark events → IsOwnCause book stored why
  misfit_of stored (cause.Another name) misfit text = (mark, events, text, misfit)
  misfit_of stored (cause.Shorter entries) misfit text = (mark, events, text, misfit)
  misfit_of stored (cause.Reading fault) is text = rw is tt

  pub misfit_text : (x : Option (List ℕ)) (why : OwnCause) → IsMisfitCause book mark why → IfSome x (λ stored. IsMarkedText stored mark events) →
      IfSome x (λ stored. IsOwnCause book stored why)
  misfit_text x why misfit text =
      if_some x (λ stored. IsMarkedText stored mark events) (λ stored. IsOwnCause book stored why) (λ stored t. misfit_of stored why misfit t) text
