-- An event that is lawful has a rule, and what its node is afterwards.
use Rattle.std.proofs.Common.{◌≡◌, ℕ, Option, Some, None, IsSome, List, [], ◌∷◌, refl, sym, ◌∙◌, ap}
use Rattle.std.proofs.lemmas.Option.{same_Some}
use Rattle.ghs_graph.specs.Graph.{IsGraph}
use Rattle.peer_network.specs.declared.event.Event.{Event}
use Rattle.peer_network.specs.declared.event.Event.TheVariants as events
use Rattle.peer_network.specs.Network.{Network}
use Rattle.peer_machine.specs.declared.work.Work.TheVariants.{Wake, Deliver}
use Rattle.peer_machine.specs.Net.{Net, effect, event_node, if_reacted, take_first, takes_from}
use Rattle.peer_machine.specs.Run.{IsRun}
use Rattle.peer_machine.specs.Steps.{Happens, Woke, Took}
use Rattle.peer_machine.proofs.lemmas.Runs.{after_is_net}
use Rattle.peer_machine.proofs.lemmas.Sends.{node_here}
use Rattle.peer_net.specs.NetState.{NetState, network, net_of, delivery, work_at, IsLawful}
use Rattle.peer_machine.specs.Protocol.{HasRules}
use Rattle.peer_machine.specs.Rules.{Outcome, Rules}

module _ {S M : Type 0} (r : Rules S M) (g : Network) where
  reacts : (v : ℕ) (x : Option (Outcome S M)) (w : Net S M) → IsSome (if_reacted r g v x w) → IsSome x
  reacts v None w h = cc
  reacts v (Some o) w h = refl

  reacts_from : (w : Net S M) (v p : ℕ) (q : List M) → IsSome (takes_from r g w v p q) →
      IsSome (r.reaction (w.node v) (delivery p q))
  reacts_from w v p [] h = cc
  reacts_from w v p (m ∷ ms) h = reacts v (r.reaction (w.node v) (Deliver p m)) (take_first r g v p m ms w) h

  has_rule : (w : Net S M) (e : Event) → IsSome (effect r g w e) → IsSome (r.reaction (w.node (event_node e)) (work_at w e))
  has_rule w (events.Wake v) h = reacts v (r.reaction (w.node v) Wake) w h
  has_rule w (events.Take v p) h = reacts_from w v p (w.queue v p) h

  -- the event's node, once it has reacted
  pub node_by : (w w' : Net S M) (e : Event) (o : Outcome S M) → Happens r g w e w' →
      r.reaction (w.node (event_node e)) (work_at w e) ≡ Some o →
      w'.node (event_node e) ≡ o.state
  node_by w _ _ o (Woke v x lo hi s is_r t) is = node_here r g v x w ∙ ap (λ (y : Outcome S M). y.state) (same_Some _ _ (sym is_r ∙ is))
  node_by w _ _ o (Took v p m ms x at q is_r t) is =
      node_here r g v x (take_first r g v p m ms w)
      ∙ ap (λ (y : Outcome S M). y.state)
      (same_Some _ _ (sym is_r ∙ (ap (λ (l : List M). r.reaction (w.node v) (delivery p l)) (sym q) ∙ is)))

-- the rule of a lawful event of a net
pub ruled : {S M : Type 0} (r : Rules S M) → HasRules r → (s : NetState) (e : Event) → IsGraph s.graph → IsRun r (network s) s.trace →
    IsLawful r s e →
    IsSome (r.reaction ((net_of r s).node (event_node e)) (work_at (net_of r s) e))
ruled r has s e graph run lawful =
    has_rule r (network s) (net_of r s) e
    (has s.graph (net_of r s) (record { graph = graph; events = s.trace; run = after_is_net r s.graph s.trace run })
    e lawful)
