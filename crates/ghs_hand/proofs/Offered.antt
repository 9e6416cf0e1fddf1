-- An event is offered exactly where adding it gives a run.
use Rattle.std.proofs.Common.{◌≡◌, true, not, Option, Some, None, [], ◌∷◌, ◌++◌, refl, sym, ◌∙◌, ap}
use Rattle.std.specs.Prelude.{IsSome}
use Rattle.std.specs.List.{Contains}
use Rattle.std.proofs.lemmas.Bool.{and_from, and_parts}
use Rattle.std.proofs.lemmas.List.Elements.{All-contains, All-push, Contains-push}
use Rattle.ghs_graph.specs.Graph.{IsGraph}
use Rattle.ghs_graph.proofs.lemmas.Members.{filter_has, in_filter}
use Rattle.peer_network.specs.declared.event.Event.{Event}
use Rattle.peer_network.specs.declared.event.Event.TheVariants.{Wake, Take}
use Rattle.ghs_protocol.specs.Interleavings.{EventsHaveRules}
use Rattle.peer_network.specs.Network.{Network, is_node, is_port}
use Rattle.ghs_protocol.specs.Net.{Net, effect, happens, is_lawful, opening}
use Rattle.peer_network.specs.Events.{event_node, MayWake}
use Rattle.ghs_protocol.specs.Run.{IsAfter, IsRunUnder}
use Rattle.ghs_protocol.proofs.lemmas.Events.{lawful_happens}
use Rattle.peer_network.proofs.lemmas.Events.{if_some}
use Rattle.ghs_protocol.proofs.lemmas.Runs.{after_is_net, lawful_under, run_more}
use Rattle.ghs_core.specs.NetState.{network}
use Rattle.ghs_world.specs.Outs.{Outs, is_out}
use Rattle.ghs_world.specs.Ready.{is_ready, ready_events}
use Rattle.peer_index.specs.Places.{all_events, has_place}
use Rattle.ghs_world.specs.WorldState.{WorldState, home, may_happen, wakers}
use Rattle.peer_index.proofs.lemmas.Listed.{listed}
use Rattle.ghs_hand.specs.Laws.{OfferedAreNext}

-- a lawful event names a node and a port of the network
place_of : (g : Network) (w : Net) (e : Event) → is_lawful g w e ≡ true → has_place g e ≡ true
place_of g w (Wake v) h = (and_parts (is_node g v) _ h).0
place_of g w (Take v p) h = (and_parts (is_port g v p) _ h).0

-- what has an effect leads on
leads_on : (g : Network) (w : Net) (e : Event) → is_lawful g w e ≡ true →
    (o : Option Net) → effect g w e ≡ o → IsSome o → (x : Net) × (happens g w e ≡ Some x)
leads_on g w e h None is some = cc
leads_on g w e h (Some x) is some = (x, lawful_happens g w e h ∙ is)

module _ (rules : EventsHaveRules) (w : WorldState) (graph : IsGraph w.net.graph) (at_home : w.outs ≡ []) (e : Event) where
  abbrev at_hand : IsRunUnder (wakers w) (network w.net) w.net.trace → IsAfter (network w.net) w.net.trace (home w)
  at_hand r = after_is_net w.net.graph w.net.trace r.0

  next_is_run : IsRunUnder (wakers w) (network w.net) w.net.trace → Contains (ready_events w) e →
      IsRunUnder (wakers w) (network w.net) (w.net.trace ++ e ∷ [])
  next_is_run r has =
      let g = network w.net in
      let may = (in_filter (is_ready w) (all_events g) e has).1 in
      let lawful = (lawful_under (wakers w) g (home w) e).0 (and_parts (not (is_out w.outs (event_node e))) (may_happen w e) may).1 in
      let on = leads_on g (home w) e lawful.1 (effect g (home w) e) refl
      (rules w.net.graph (home w) (record { graph = graph; events = w.net.trace; run = at_hand r }) e lawful.1) in
      ((on.0, run_more g w.net.trace e (opening g) (home w) (at_hand r) ∙ on.1), All-push (MayWake (wakers w)) w.net.trace e r.1 lawful.0)

  run_is_next : IsRunUnder (wakers w) (network w.net) w.net.trace → IsRunUnder (wakers w) (network w.net) (w.net.trace ++ e ∷ []) →
      Contains (ready_events w) e
  run_is_next r more =
      let g = network w.net in
      let happened : happens g (home w) e ≡ Some more.0.0 = sym (run_more g w.net.trace e (opening g) (home w) (at_hand r)) ∙ more.0.1 in
      let lawful : is_lawful g (home w) e ≡ true = if_some (is_lawful g (home w) e) (effect g (home w) e) more.0.0 happened (λ t x. t) in
      let wakes : MayWake (wakers w) e = All-contains (MayWake (wakers w)) (w.net.trace ++ e ∷ []) e more.1 (Contains-push w.net.trace e) in
      let may : may_happen w e ≡ true = (lawful_under (wakers w) g (home w) e).1 (wakes, lawful) in
      filter_has (is_ready w) (all_events g) e (listed g e (place_of g (home w) e lawful))
      (and_from (not (is_out w.outs (event_node e))) (may_happen w e) (ap (λ (o : Outs). not (is_out o (event_node e))) at_home) may)

pub offered_next : EventsHaveRules → OfferedAreNext
offered_next rules w graph at_home r e = (next_is_run rules w graph at_home e r, run_is_next rules w graph at_home e r)
