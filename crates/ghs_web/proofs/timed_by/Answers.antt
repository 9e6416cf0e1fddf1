use Rattle.ghs_web.proofs.timed_by.Goals as goal

pub returns-in-Echo : goal.returns-in-Echo
returns-in-Echo c = rw c.in-Echo.is c.hand_timed-in-Echo.ensures
