use Rattle.own_rules.proofs.places.places_of.Goals as goal

pub loop-index-preserved : goal.loop-index-preserved
loop-index-preserved c = c.in_ok-note_entry.ensures c.loop-index.invariant
