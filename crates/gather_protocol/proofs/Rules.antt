-- Each lawful event has a rule, and nodes keep their number and keys.
use Rattle.std.proofs.Common.{◌≡◌, ℕ, zero, suc, ◌<◌, ◌≤◌, Bool, true, nat_lt, Option, Some, None, IsSome, List, [], ◌∷◌, length, get_or, refl, arith, ltb-true, lt-ltb}
use Rattle.std.specs.Prelude.{is_none}
use Rattle.std.specs.List.{All}
use Rattle.std.proofs.lemmas.Bool.{and_parts}
use Rattle.std.proofs.lemmas.Option.{same_Some}
use Rattle.peer_network.specs.declared.event.Event.{Event}
use Rattle.peer_network.specs.declared.event.Event.TheVariants as events
use Rattle.peer_network.specs.Events.{MayWake}
use Rattle.peer_network.specs.Network.{Network, network_of, is_port}
use Rattle.peer_network.proofs.lemmas.Events.{at_of}
use Rattle.peer_network.proofs.lemmas.Graphs.{graph_wired}
use Rattle.peer_machine.specs.declared.work.Work.TheVariants.{Wake, Deliver}
use Rattle.peer_machine.specs.Rules.{Outcome, HasKinds, NeverDefers}
use Rattle.peer_machine.specs.Net.{Net, is_lawful, are_on_ports, if_reacted, takes_from, take_first, effect}
use Rattle.peer_machine.specs.Protocol.{HasRules}
use Rattle.peer_machine.specs.Run.{IsNetOf}
use Rattle.gather_node.specs.declared.message.Message.{Message}
use Rattle.gather_node.specs.declared.message.Message.TheVariants.{Explore, Back, Tree}
use Rattle.gather_node.specs.Gather.{gather}
use Rattle.gather_node.specs.Reaction.{brings, delivered, hears, joins_wave, reaction}
use Rattle.gather_node.specs.State.{State, degree}
use Rattle.ghs_graph.specs.Graph.{Shape}
use Rattle.gather_protocol.specs.Laws.{NodesKeepPorts}
use Rattle.gather_protocol.proofs.Cases.{degree_is}
use Rattle.gather_protocol.proofs.Events.{after_waves}
use Rattle.gather_protocol.proofs.Pays.{closed_on, joins_on, trees_on}
use Rattle.gather_protocol.proofs.Turns.{Turn, Joins, Answers, Ignores, Brings, Stale, Learns, turn}
use Rattle.gather_protocol.proofs.Waves.{Fits, Waves}

abbrev pub anyone : ℕ → Bool
anyone v = true

anyone_wakes : (e : Event) → MayWake anyone e
anyone_wakes (events.Wake v) = refl
anyone_wakes (events.Take v p) = tt

pub all_may : (es : List Event) → All (MayWake anyone) es
all_may es k d lt = anyone_wakes (get_or es k d)

pub waves_of : (g : Shape) (w : Net State Message) → IsNetOf gather g w → Waves (network_of g) anyone w
waves_of g w is = after_waves (network_of g) anyone (graph_wired g is.graph) is.events w (all_may is.events) is.run

pub has_kinds : HasKinds gather
has_kinds (Explore x) = omega arith
has_kinds (Back x ks) = omega arith
has_kinds (Tree ks) = omega arith

pub defers_never : NeverDefers gather
defers_never n k = refl

module _ (g : Network) where
  hears_on : (v : ℕ) (n : State) (x a : ℕ) → ((q : ℕ) → n.head.parent ≡ Some q → q < length (g.ports v)) → degree n ≤ length (g.ports v) →
      are_on_ports gather g v (hears n x a).sends ≡ true
  hears_on v n x zero fits le = refl
  hears_on v n x (suc k) fits le = closed_on g v (record n { head = record n.head { awaits = k } }) x k n.head.parent [] refl fits le

  turn_on : (v : ℕ) (n : State) (p : ℕ) (m : Message) (o : Outcome State Message) → Fits g v n → p < length (g.ports v) → Turn n p m o →
      are_on_ports gather g v o.sends ≡ true
  turn_on v n p _ _ f lt (Joins x c) =
      joins_on g v n x (Some p) (λ q e. let z = same_Some p q e in omega (arith, z, lt)) (let d = degree_is g v n f in omega (arith, d))
  turn_on v n p _ _ f lt (Answers x e) = hears_on v n x n.head.awaits f.parent (let d = degree_is g v n f in omega (arith, d))
  turn_on v n p _ _ f lt (Ignores x y e l) = refl
  turn_on v n p _ _ f lt (Brings x ks e) = hears_on v (brings n p ks) x n.head.awaits f.parent (let d = degree_is g v n f in omega (arith, d))
  turn_on v n p _ _ f lt (Stale x ks e) = refl
  turn_on v n p _ _ f lt (Learns ks) = trees_on g v ks (degree n) n.brought (let d = degree_is g v n f in omega (arith, d))

  some_effect : (v : ℕ) (x : Option (Outcome State Message)) (w : Net State Message) (o : Outcome State Message) → x ≡ Some o →
      are_on_ports gather g v o.sends ≡ true → IsSome (if_reacted gather g v x w)
  some_effect v x w o h t = rw (h, t) refl

  lawful_some : (w : Net State Message) → Waves g anyone w → (e : Event) → is_lawful gather g w e ≡ true → IsSome (effect gather g w e)
  lawful_some w i (events.Wake v) h =
      let n = w.node v in
      let f = (i.nodes v).fits in
      some_effect v (reaction n Wake) w (joins_wave n n.number None) (woken n (and_parts _ _ h).1)
      (joins_on g v n n.number None (λ q e. let z : ◌≡◌ {A = Option ℕ} None (Some q) = e in cc) (let d = degree_is g v n f in omega (arith, d)))
    where
      woken : (n : State) → is_none n.head.wave ≡ true → reaction n Wake ≡ Some (joins_wave n n.number None)
      woken n a = rw a refl
  lawful_some w i (events.Take v p) h = go (w.queue v p) (and_parts (is_port g v p) (nat_lt 0 (length (w.queue v p))) h).1
    where
      f : Fits g v (w.node v)
      f = (i.nodes v).fits

      lt : p < length (g.ports v)
      lt = (at_of g v p (and_parts (is_port g v p) (nat_lt 0 (length (w.queue v p))) h).0).port

      ruled : (m : Message) → reaction (w.node v) (Deliver p m) ≡ Some (delivered (w.node v) p m)
      ruled m = rw (lt-ltb p (degree (w.node v)) (let d = degree_is g v (w.node v) f in let l = lt in omega (arith, d, l))) refl

      go : (q : List Message) → nat_lt 0 (length q) ≡ true → IsSome (takes_from gather g w v p q)
      go [] z = absurd (let y = ltb-true 0 0 z in omega (arith, y))
      go (m ∷ ms) z =
          some_effect v (reaction (w.node v) (Deliver p m)) (take_first gather g v p m ms w) (delivered (w.node v) p m) (ruled m)
          (turn_on v (w.node v) p m (delivered (w.node v) p m) f lt (turn (w.node v) p m))

pub has_rules : HasRules gather
has_rules g w is e h = lawful_some (network_of g) w (waves_of g w is) e h

pub nodes_keep_ports : NodesKeepPorts
nodes_keep_ports g w is v = let f = ((waves_of g w is).nodes v).fits in record { number = f.number; keys = f.keys }
