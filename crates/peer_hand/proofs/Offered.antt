-- An event is offered exactly where adding it gives a run.
use Rattle.std.proofs.Common.{◌≡◌, true, Option, Some, None, [], ◌∷◌, ◌++◌, refl, sym, ◌∙◌}
use Rattle.std.specs.Prelude.{IsSome}
use Rattle.std.specs.List.{Contains}
use Rattle.std.proofs.lemmas.Bool.{and_parts}
use Rattle.std.proofs.lemmas.List.Elements.{All-contains, All-push, Contains-push}
use Rattle.ghs_graph.specs.Graph.{IsGraph}
use Rattle.ghs_graph.proofs.lemmas.Members.{filter_has, in_filter}
use Rattle.peer_network.specs.declared.event.Event.{Event}
use Rattle.peer_network.specs.declared.event.Event.TheVariants.{Wake, Take}
use Rattle.peer_network.specs.Events.{MayWake}
use Rattle.peer_network.specs.Network.{Network, is_node, is_port}
use Rattle.peer_network.proofs.lemmas.Events.{if_some}
use Rattle.peer_index.specs.Places.{all_events, has_place}
use Rattle.peer_index.proofs.lemmas.Listed.{listed}
use Rattle.peer_machine.specs.Net.{Net, effect, happens, is_lawful, opening}
use Rattle.peer_machine.specs.Protocol.{HasRules}
use Rattle.peer_machine.specs.Rules.{Rules}
use Rattle.peer_machine.specs.Run.{IsAfter, IsRunUnder}
use Rattle.peer_machine.proofs.lemmas.Events.{lawful_happens}
use Rattle.peer_machine.proofs.lemmas.Runs.{after_is_net, run_more}
use Rattle.peer_net.specs.NetState.{net_of, network}
use Rattle.peer_runs.specs.WorldState.{WorldState, is_ready, ready_events, wakers}
use Rattle.peer_runs.proofs.lemmas.Lawful.{lawful_from, lawful_parts}
use Rattle.peer_hand.specs.Laws.{OfferedAreNext}

module _ {S M : Type 0} (r : Rules S M) where
  -- a lawful event names a node and a port of the network
  place_of : (g : Network) (w : Net S M) (e : Event) → is_lawful r g w e ≡ true → has_place g e ≡ true
  place_of g w (Wake v) h = (and_parts (is_node g v) _ h).0
  place_of g w (Take v p) h = (and_parts (is_port g v p) _ h).0

  -- what has an effect leads on
  leads_on : (g : Network) (w : Net S M) (e : Event) → is_lawful r g w e ≡ true →
      (o : Option (Net S M)) → effect r g w e ≡ o → IsSome o → (x : Net S M) × (happens r g w e ≡ Some x)
  leads_on g w e h None is some = cc
  leads_on g w e h (Some x) is some = (x, lawful_happens r g w e h ∙ is)

  module _ (rules : HasRules r) (w : WorldState) (graph : IsGraph w.net.graph)
      (under : IsRunUnder r (wakers w) (network w.net) w.net.trace) (e : Event) where
    at_hand : IsAfter r (network w.net) w.net.trace (net_of r w.net)
    at_hand = after_is_net r w.net.graph w.net.trace under.0

    next_is_run : Contains (ready_events r w) e → IsRunUnder r (wakers w) (network w.net) (w.net.trace ++ e ∷ [])
    next_is_run has =
        let g = network w.net in
        let may = (in_filter (is_ready r w) (all_events g) e has).1 in
        let lawful = lawful_parts r (wakers w) g (net_of r w.net) e may in
        let on = leads_on g (net_of r w.net) e lawful.1 (effect r g (net_of r w.net) e) refl
        (rules w.net.graph (net_of r w.net) (record { graph = graph; events = w.net.trace; run = at_hand }) e lawful.1) in (
          (on.0, run_more r g w.net.trace e (opening r g) (net_of r w.net) at_hand ∙ on.1),
          All-push (MayWake (wakers w)) w.net.trace e under.1 lawful.0,
        )

    run_is_next : IsRunUnder r (wakers w) (network w.net) (w.net.trace ++ e ∷ []) → Contains (ready_events r w) e
    run_is_next more =
        let g = network w.net in
        let happened : happens r g (net_of r w.net) e ≡ Some more.0.0 =
        sym (run_more r g w.net.trace e (opening r g) (net_of r w.net) at_hand) ∙ more.0.1 in
        let lawful : is_lawful r g (net_of r w.net) e ≡ true =
        if_some (is_lawful r g (net_of r w.net) e) (effect r g (net_of r w.net) e) more.0.0 happened (λ t x. t) in
        let wakes : MayWake (wakers w) e = All-contains (MayWake (wakers w)) (w.net.trace ++ e ∷ []) e more.1 (Contains-push w.net.trace e) in
        filter_has (is_ready r w) (all_events g) e (listed g e (place_of g (net_of r w.net) e lawful))
        (lawful_from r (wakers w) g (net_of r w.net) e wakes lawful)

  pub offered_next : HasRules r → OfferedAreNext r
  offered_next rules w graph under e = (next_is_run rules w graph under e, run_is_next rules w graph under e)
