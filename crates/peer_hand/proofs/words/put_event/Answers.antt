use Rattle.peer_hand.specs.Words.{event_words}
use Rattle.peer_hand.proofs.words.put_event.Goals as goal

pub returns : goal.returns
unfolding event_words
returns c = c.put_between.ensures
