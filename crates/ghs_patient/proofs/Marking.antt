-- Marks of the choices, set one by one.
use Rattle.std.proofs.Common.{◌≡◌, ◌≢◌, ℕ, ◌+◌, ◌<◌, ◌≤◌, true, Some, length}
use Rattle.std.specs.List.{All}
use Rattle.ghs_graph.specs.Graph.{IsGraph}
use Rattle.ghs_graph.specs.Ports.{ports_of}
use Rattle.ghs_node.specs.declared.delta.Delta.{Delta}
use Rattle.ghs_node.specs.declared.head.Head.{Head}
use Rattle.ghs_node.specs.declared.mark.Mark.{Mark}
use Rattle.ghs_node.specs.declared.message.Message.{Message}
use Rattle.ghs_node.specs.Words.{Outgoing}
use Rattle.peer_network.specs.declared.event.Event.{Event}
use Rattle.peer_network.specs.declared.event.Event.TheVariants.{Wake, Take}
use Rattle.peer_network.specs.Events.{event_node}
use Rattle.ghs_core.specs.NetState.{network}
use Rattle.peer_index.specs.Places.{HasPlace, place}
use Rattle.peer_index.proofs.lemmas.Marks.{for_set, of_but}
use Rattle.ghs_world.specs.WorldState.{WorldState, home}
use Rattle.ghs_patient.specs.Choices.{AreChoices, AreChoicesBut, AreFor, ChoicesState, IsStirred, are_alike, far_takes, is_double, marked, marked_all, marked_to, moves_in}
use Rattle.ghs_patient.proofs.lemmas.Places.{own_node}
use Rattle.ghs_patient.proofs.lemmas.Walks.{AreOwnLeft, IsFrom, all_from, far_places, none_from, set_right}
use Rattle.ghs_patient.proofs.lemmas.Walks as walks

module _ (s : WorldState) where
  pub for_marked : (e : Event) (c : ChoicesState) → AreFor (network s.net) c → AreFor (network s.net) (marked s e c)
  for_marked e c h = record {
    moving = for_set (network s.net) c.moving (place (network s.net) e) (moves_in s e) h.moving;
    double = for_set (network s.net) c.double (place (network s.net) e) (is_double (home s) e) h.double;
  }

  pub right_marked : (wrong : Event → Type 0) (e : Event) (c : ChoicesState) → AreChoicesBut s wrong c → HasPlace (network s.net) e →
      AreChoicesBut s (λ f. wrong f × (f ≢ e)) (marked s e c)
  right_marked wrong e c h has = record {
    for_all = for_marked e c h.for_all;
    moving = λ f there none. set_right (network s.net) (moves_in s) wrong e c.moving h.for_all.moving has h.moving f there none;
    double = λ f there none. set_right (network s.net) (is_double (home s)) wrong e c.double h.for_all.double has h.double f there none;
  }

  pub right_wider : (wrong wider : Event → Type 0) (c : ChoicesState) → AreChoicesBut s wrong c →
      ((f : Event) → HasPlace (network s.net) f → wrong f → wider f) →
      AreChoicesBut s wider c
  right_wider wrong wider c h more = record {
    for_all = h.for_all;
    moving = λ f there none. h.moving f there (λ w. none (more f there w));
    double = λ f there none. h.double f there (λ w. none (more f there w));
  }

  -- where none is wrong
  pub all_right : (wrong : Event → Type 0) (c : ChoicesState) → AreChoicesBut s wrong c →
      ((f : Event) → HasPlace (network s.net) f → wrong f → ⊥) →
      AreChoices s c
  all_right wrong c h none = record {
    moving = of_but (network s.net) (moves_in s) c.moving (record { index = h.for_all.moving; marks = λ f there k. h.moving f there (none f there) });
    double = of_but (network s.net) (is_double (home s)) c.double
        (record { index = h.for_all.double; marks = λ f there k. h.double f there (none f there) });
  }

  -- Events one node after another.

  pub one_node : (v n : ℕ) (c : ChoicesState) → AreChoicesBut s (IsFrom v) c → 1 ≤ v → v ≤ s.net.graph.nodes → n ≡ length ((network s.net).ports v) →
      AreChoicesBut s (IsFrom (v + 1)) (marked_to s v n (marked s (Wake v) c))
  one_node v n c h low high many =
      walks.one_node ChoicesState (network s.net) (AreChoicesBut s) (marked s) right_marked right_wider v n c h low high many

  pub none_yet : (c : ChoicesState) → AreFor (network s.net) c → AreChoicesBut s (IsFrom 1) c
  none_yet c h = record {
    for_all = h;
    moving = λ f there none. absurd (none (all_from (network s.net) f there));
    double = λ f there none. absurd (none (all_from (network s.net) f there));
  }

  pub all_nodes : (v : ℕ) (c : ChoicesState) → s.net.graph.nodes < v → AreChoicesBut s (IsFrom v) c → AreChoices s c
  all_nodes v c past h = all_right (IsFrom v) c h (none_from (network s.net) v past)

  -- What an event has stirred.

  abbrev pub Seen : ℕ → Head → Delta → ChoicesState → Type 0
  Seen v before d c = AreOwnLeft ChoicesState (network s.net) (AreChoicesBut s) v before d c

  pub seen : (e : Event) (before : Head) (d : Delta) (v : ℕ) (sends : Outgoing) (c one two three : ChoicesState) → IsGraph s.net.graph →
      v ≡ event_node e → sends ≡ d.sends → HasPlace (network s.net) e →
      All (λ (m : ℕ × Message). m.0 < length (ports_of s.net.graph.keys (event_node e))) d.sends →
      AreChoicesBut s (IsStirred (network s.net) e before d) c →
      one ≡ marked s (Wake v) c → two ≡ marked s e one → three ≡ marked_all s (far_takes (network s.net) v sends) two →
      Seen v before d three
  seen e before d v sends c one two three ok node out has ports stirred first second third =
      let own = own_node (network s.net) e has in
      walks.stirred_seen ChoicesState (network s.net) (AreChoicesBut s) (marked s) right_marked right_wider e before d v sends c one two three
      node out has (far_places s.net.graph (event_node e) ok own.0 own.1 d.sends ports) stirred first second third

  module _ (v : ℕ) (before : Head) (d : Delta) (c : ChoicesState) (h : Seen v before d c) where
    -- the Takes of the node
    pub own_all : (n : ℕ) → n ≡ length ((network s.net).ports v) → AreChoices s (marked_to s v n c)
    own_all n many =
        walks.own_all ChoicesState (network s.net) (AreChoicesBut s) (marked s) right_marked right_wider
        (AreChoices s) all_right v before d c h n many

    -- the one that was marked
    pub own_one : (m : ℕ × Mark) → are_alike before d.head ≡ true → d.mark ≡ Some m → HasPlace (network s.net) (Take v m.0) →
        AreChoices s (marked s (Take v m.0) c)
    own_one m alike is there =
        walks.own_one ChoicesState (network s.net) (AreChoicesBut s) (marked s) right_marked right_wider
        (AreChoices s) all_right v before d c h m alike is there

    -- none
    pub own_none : are_alike before d.head ≡ true → ((m : ℕ × Mark) → d.mark ≡ Some m → ⊥) → AreChoices s c
    own_none alike unmarked =
        walks.own_none ChoicesState (network s.net) (AreChoicesBut s) (marked s) right_marked right_wider
        (AreChoices s) all_right v before d c h alike unmarked
