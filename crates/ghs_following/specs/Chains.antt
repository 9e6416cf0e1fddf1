-- Chains of messages of a run, each sent because of the one before: how long is the longest.
use Rattle.std.specs.Prelude.{ℕ, suc, Bool, true, false, Option, Some, None, List, [], ◌∷◌}
use Rattle.ghs_node.specs.declared.delta.Fate.{Fate}
use Rattle.ghs_node.specs.declared.delta.Fate.TheVariants.{Consumed, Requeued}
use Rattle.ghs_node.specs.declared.delta.Delta.{Delta}
use Rattle.ghs_node.specs.Words.{is_sleeping}
use Rattle.ghs_node.specs.Reaction.{reaction}
use Rattle.peer_network.specs.declared.event.Event.{Event}
use Rattle.peer_network.specs.Network.{Network}
use Rattle.ghs_protocol.specs.Net.{Net, opening, happens}
use Rattle.peer_network.specs.Events.{event_node}
use Rattle.ghs_core.specs.NetState.{work_at}
use Rattle.peer_chains.specs.Chains.{Chains, hears, most_below, no_chains, sent}

-- whether the fate of a message is to be deferred: it goes to the end of its queue
abbrev pub is_deferred : Fate → Bool
is_deferred Consumed = false
is_deferred Requeued = true

-- what an event with its reaction makes of the chains: the node hears, and then it sends
abbrev pub reacted : Network → Net → Event → Delta → Chains → Chains
reacted g w e d c = let v = event_node e in sent g v d.sends (hears e (is_sleeping (w.node v).head.phase) (is_deferred d.fate) c)

abbrev pub answered : Network → Net → Event → Option Delta → Chains → Chains
answered g w e None c = c
answered g w e (Some d) c = reacted g w e d c

abbrev pub chains_then : Network → Net → Event → Chains → Chains
chains_then g w e c = answered g w e (reaction (w.node (event_node e)) (work_at w e)) c

abbrev pub if_then : Option Net → (Net → Chains) → Chains → Chains
if_then None f c = c
if_then (Some w) f c = f w

-- the chains after some events from a net on
abbrev pub chains_after : Network → List Event → Net → Chains → Chains
chains_after g [] w c = c
chains_after g (e ∷ es) w c = if_then (happens g w e) (λ x. chains_after g es x (chains_then g w e c)) c

-- the chains of a run
unfoldable pub chains_of : Network → List Event → Chains
chains_of g es = chains_after g es (opening g) no_chains

-- the longest chain of a run: the greatest number of a node
abbrev pub longest_chain : Network → List Event → ℕ
longest_chain g es = most_below (suc g.count) (chains_of g es).node
