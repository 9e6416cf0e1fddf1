-- How much a page takes.
use Rattle.std.specs.Prelude.{◌⊎◌, ℕ, ◌<◌, List, length, min, take}
use Rattle.ghs_graph.specs.Graph.{Shape}
use Rattle.peer_network.specs.declared.event.Event.{Event}
use Rattle.peer_page.specs.declared.limits.TheConstants.{PAGE_EVENTS, PAGE_NODES}

-- the events up to a number, which count from 1
abbrev pub events_to : ℕ → List Event → List Event
events_to to es = take (min to (length es)) es

-- more than a page takes
abbrev pub IsTooLarge : Shape → List Event → ℕ → Type 0
IsTooLarge g es to = (PAGE_NODES < g.nodes) ⊎ (PAGE_EVENTS < length (events_to to es))

-- more than a page takes, in one of two runs
abbrev pub IsPairTooLarge : Shape → List Event → List Event → ℕ → Type 0
IsPairTooLarge g first second to = IsTooLarge g first to ⊎ IsTooLarge g second to
