use Rattle.ghs_core.proofs.Playing.{waits, played_event}
use Rattle.ghs_core.proofs.PuttingBack.{kept_back, plays_back}
use Rattle.ghs_core.proofs.net.Net.put_back_from.Goals as goal

pub dispose-requires-clause-waits : goal.dispose-requires-clause-waits
dispose-requires-clause-waits c = waits (plays_back c.self.invariant c.self.view_is c.requires.lawful c.requires.back)

pub invariant_of-self-2 : goal.invariant_of-self-2
invariant_of-self-2 c =
    rw c.in_ok-push.ensures.items
    (kept_back (plays_back c.self.invariant c.self.view_is c.requires.lawful c.requires.back)
    c.dispose.new.channels c.dispose.new.counts c.dispose.ensures)

pub returns-clause-event : goal.returns-clause-event
returns-clause-event c =
    rw (← c.self.view_is, c.in_ok-push.ensures.items) (played_event (plays_back c.self.invariant c.self.view_is c.requires.lawful c.requires.back))

pub dispose-requires-clause-start : goal.dispose-requires-clause-start
dispose-requires-clause-start c = rw (← c.self.view_is) at c.requires.start
