use Rattle.ghs_cli.proofs.stepping.told_by.Goals as goal

pub returns-in-Ghs-clause-told : goal.returns-in-Ghs-clause-told
returns-in-Ghs-clause-told g c = rw c.in-Ghs.is c.told.ensures.told

pub returns-in-Boruvka-clause-told : goal.returns-in-Boruvka-clause-told
returns-in-Boruvka-clause-told g c = rw c.in-Boruvka.is c.told-in-Boruvka.ensures.told

pub returns-in-Echo-clause-told : goal.returns-in-Echo-clause-told
returns-in-Echo-clause-told g c = rw c.in-Echo.is c.told-in-Echo.ensures.told

pub returns-in-Gather-clause-told : goal.returns-in-Gather-clause-told
returns-in-Gather-clause-told g c = rw c.in-Gather.is c.told-in-Gather.ensures.told
