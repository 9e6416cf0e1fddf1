use Rattle.ghs_cli.proofs.replaying.replayed_by.Goals as goal

pub returns-in-Ghs-clause-text : goal.returns-in-Ghs-clause-text
returns-in-Ghs-clause-text c = rw c.in-Ghs.is c.replayed.ensures.text

pub returns-in-Boruvka-clause-text : goal.returns-in-Boruvka-clause-text
returns-in-Boruvka-clause-text c = rw c.in-Boruvka.is c.replayed-in-Boruvka.ensures.text

pub returns-in-Echo-clause-text : goal.returns-in-Echo-clause-text
returns-in-Echo-clause-text c = rw c.in-Echo.is c.replayed-in-Echo.ensures.text

pub returns-in-Gather-clause-text : goal.returns-in-Gather-clause-text
returns-in-Gather-clause-text c = rw c.in-Gather.is c.replayed-in-Gather.ensures.text
