-- Where the events of a network have their places.
use Rattle.std.proofs.Common.{◌≡◌, ℕ, ◌≤◌, Bool, true, subst, sym, ◌∙◌}
use Rattle.std.specs.List.{Contains}
use Rattle.std.proofs.lemmas.Bool.{and_parts}
use Rattle.std.proofs.lemmas.Option.{get_or_from_slice_get}
use Rattle.peer_network.specs.declared.event.Event.{Event}
use Rattle.peer_network.specs.declared.event.Event.TheVariants.{Wake, Take}
use Rattle.peer_network.specs.Network.{Network, is_node, is_port}
use Rattle.ghs_protocol.specs.Net.{Net, is_lawful, is_lawful_under}
use Rattle.peer_network.specs.Events.{event_node}
use Rattle.peer_network.proofs.lemmas.Events.{at_of, node_of}
use Rattle.peer_index.specs.Places.{HasPlace, all_events}
use Rattle.peer_index.proofs.lemmas.Lists.{get_some}
use Rattle.peer_index.proofs.lemmas.Places.{only_place}

-- an event with a place is one of a node
pub own_node : (g : Network) (e : Event) → HasPlace g e → (1 ≤ event_node e) × (event_node e ≤ g.count)
own_node g (Wake v) h = h
own_node g (Take v p) h = (h.some, h.node)

-- the events of a network have places
pub placed_of : (g : Network) (e : Event) → Contains (all_events g) e → HasPlace g e
placed_of g e h =
    let z = get_some (all_events g) h.0 h.1 in
    subst (HasPlace g) (sym (get_or_from_slice_get (all_events g) h.0 z.0 e z.1) ∙ h.2) (only_place g h.0 z.0 z.1).0

-- and so do lawful events
pub lawful_place : (may : ℕ → Bool) (g : Network) (w : Net) (e : Event) → is_lawful_under may g w e ≡ true → HasPlace g e
lawful_place may g w (Wake v) h = node_of g v (and_parts (is_node g v) _ (and_parts (may v) (is_lawful g w (Wake v)) h).1).0
lawful_place may g w (Take v p) h = at_of g v p (and_parts (is_port g v p) _ h).0
