use Rattle.ghs_graph.proofs.lemmas.Degrees.{none_counted}
use Rattle.ghs_graph.proofs.layout.lay.Goals as goal

pub places_of-requires-clause-none : goal.places_of-requires-clause-none
places_of-requires-clause-none c = none_counted c.args.nodes c.in_ok-counts.counts.items (c.in_ok-counts.ensures.items_if_clones_equal (λ y e. e))
