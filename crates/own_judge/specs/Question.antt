-- What the book is asked.
use Rattle.std.specs.Prelude.{ℕ, codes, List}
use Rattle.ghs_node.specs.declared.work.Work.{Work}
use Rattle.ghs_node.specs.declared.work.Work.TheVariants.{Wake, Deliver}
use Rattle.ghs_steps.specs.Words.{says}
use Rattle.own_book.specs.Asking.{take_text, wake_text}
use Rattle.own_book.specs.declared.question.Asked.{Asked}
use Rattle.own_book.specs.declared.question.Asked.TheVariants as asked
use Rattle.peer_words.specs.Text.{message_text}

-- the name of the protocol, and its kinds of messages
abbrev pub greeting_text : List ℕ
greeting_text = codes "own 1"

-- what a node does in this state with its work
abbrev pub work_text : ℕ → Work → List ℕ → List ℕ
work_text v Wake state = wake_text v state
work_text v (Deliver p m) state = take_text v p (message_text (says m)) state

abbrev pub work_asked : Work → Asked
work_asked Wake = asked.Wake
work_asked (Deliver p m) = asked.Take
