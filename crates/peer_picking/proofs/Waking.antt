-- Who may wake once an event has happened.
use Rattle.std.proofs.Common.{◌≡◌, ◌≢◌, ℕ, ◌&&◌, Bool, true, false, refl, ◌∙◌, ap}
use Rattle.ghs_graph.specs.Graph.{Shape}
use Rattle.peer_network.specs.declared.event.Event.{Event}
use Rattle.peer_network.specs.declared.event.Event.TheVariants.{Wake}
use Rattle.peer_network.specs.Network.{is_node, network_of}
use Rattle.peer_machine.specs.Protocol.{StaysAwake}
use Rattle.peer_machine.specs.Rules.{Rules}
use Rattle.peer_machine.specs.Net.{Net, event_node}
use Rattle.peer_machine.specs.Run.{IsNetOf}
use Rattle.peer_machine.specs.Steps.{Happens}
use Rattle.peer_machine.proofs.lemmas.Others.{node_stays}
use Rattle.peer_runs.specs.Lawful.{is_lawful_under}

module _ {S M : Type 0} (r : Rules S M) (may : ℕ → Bool) (g : Shape) (w x : Net S M) (e : Event) (h : Happens r (network_of g) w e x) where
  -- of another node than the event's it is as before
  pub wake_same : (v : ℕ) → v ≢ event_node e → is_lawful_under r may (network_of g) x (Wake v) ≡ is_lawful_under r may (network_of g) w (Wake v)
  wake_same v ne =
      ap (λ (s : S). (is_node (network_of g) v && r.is_asleep s) && may v) (node_stays r (network_of g) w x e h v ne)

  no_wake_of : (a b : Bool) → a ≡ is_node (network_of g) (event_node e) → ((a && false) && b) ≡ false
  no_wake_of true b is = refl
  no_wake_of false b is = refl

  -- and the event's node is awake
  pub wake_gone : StaysAwake r → IsNetOf r g w → (v : ℕ) → v ≡ event_node e → is_lawful_under r may (network_of g) x (Wake v) ≡ false
  wake_gone stays is v same =
      rw same
      (ap (λ (b : Bool). (is_node (network_of g) (event_node e) && b) && may (event_node e)) (stays g w x e is h)
      ∙ no_wake_of (is_node (network_of g) (event_node e)) (may (event_node e)) refl)
