use Rattle.ghs_web.proofs.run_by.Goals as goal

pub returns-in-Boruvka : goal.returns-in-Boruvka
returns-in-Boruvka c = rw c.in-Boruvka.is c.hand_run-in-Boruvka.ensures

pub returns-in-Echo : goal.returns-in-Echo
returns-in-Echo c = rw c.in-Echo.is c.hand_run-in-Echo.ensures
