-- Marks of the index, set one by one.
use Rattle.std.proofs.Common.{◌≡◌, ◌≢◌, ℕ, ◌+◌, ◌<◌, ◌≤◌, true, Some, length}
use Rattle.std.specs.List.{All}
use Rattle.ghs_graph.specs.Graph.{IsGraph}
use Rattle.ghs_graph.specs.Ports.{ports_of}
use Rattle.ghs_node.specs.declared.delta.Delta.{Delta}
use Rattle.ghs_node.specs.declared.head.Head.{Head}
use Rattle.ghs_node.specs.declared.mark.Mark.{Mark}
use Rattle.ghs_node.specs.declared.message.Message.{Message}
use Rattle.ghs_node.specs.Words.{Outgoing}
use Rattle.peer_network.specs.declared.event.Event.{Event}
use Rattle.peer_network.specs.declared.event.Event.TheVariants.{Wake, Take}
use Rattle.peer_network.specs.Events.{event_node}
use Rattle.ghs_core.specs.NetState.{network}
use Rattle.peer_index.specs.Index.{IndexState, IsFor}
use Rattle.peer_index.specs.Places.{HasPlace, place}
use Rattle.peer_index.proofs.lemmas.Marks.{for_set, of_but}
use Rattle.ghs_world.specs.WorldState.{WorldState, home}
use Rattle.ghs_patient.specs.Choices.{IsStirred, are_alike, far_takes}
use Rattle.ghs_patient.specs.Patience.{puts_back}
use Rattle.ghs_patient.proofs.lemmas.Places.{own_node}
use Rattle.ghs_patient.proofs.lemmas.Walks.{AreOwnLeft, IsFrom, all_from, far_places, none_from, set_right}
use Rattle.ghs_patient.proofs.lemmas.Walks as walks
use Rattle.ghs_orders.specs.Marks.{AreMarks, AreMarksBut, marked, marked_all, marked_to}

module _ (s : WorldState) where
  pub for_marked : (e : Event) (c : IndexState) → IsFor (network s.net) c → IsFor (network s.net) (marked s e c)
  for_marked e c h = for_set (network s.net) c (place (network s.net) e) (puts_back (home s) e) h

  pub right_marked : (wrong : Event → Type 0) (e : Event) (c : IndexState) → AreMarksBut s wrong c → HasPlace (network s.net) e →
      AreMarksBut s (λ f. wrong f × (f ≢ e)) (marked s e c)
  right_marked wrong e c h has = record {
    for_all = for_marked e c h.for_all;
    marks = λ f there none. set_right (network s.net) (puts_back (home s)) wrong e c h.for_all has h.marks f there none;
  }

  pub right_wider : (wrong wider : Event → Type 0) (c : IndexState) → AreMarksBut s wrong c →
      ((f : Event) → HasPlace (network s.net) f → wrong f → wider f) →
      AreMarksBut s wider c
  right_wider wrong wider c h more = record {
    for_all = h.for_all;
    marks = λ f there none. h.marks f there (λ w. none (more f there w));
  }

  -- where none is wrong
  pub all_right : (wrong : Event → Type 0) (c : IndexState) → AreMarksBut s wrong c →
      ((f : Event) → HasPlace (network s.net) f → wrong f → ⊥) →
      AreMarks s c
  all_right wrong c h none =
      of_but (network s.net) (puts_back (home s)) c (record { index = h.for_all; marks = λ f there k. h.marks f there (none f there) })

  -- Events one node after another.

  pub one_node : (v n : ℕ) (c : IndexState) → AreMarksBut s (IsFrom v) c → 1 ≤ v → v ≤ s.net.graph.nodes → n ≡ length ((network s.net).ports v) →
      AreMarksBut s (IsFrom (v + 1)) (marked_to s v n (marked s (Wake v) c))
  one_node v n c h low high many =
      walks.one_node IndexState (network s.net) (AreMarksBut s) (marked s) right_marked right_wider v n c h low high many

  pub none_yet : (c : IndexState) → IsFor (network s.net) c → AreMarksBut s (IsFrom 1) c
  none_yet c h = record { for_all = h; marks = λ f there none. absurd (none (all_from (network s.net) f there)) }

  pub all_nodes : (v : ℕ) (c : IndexState) → s.net.graph.nodes < v → AreMarksBut s (IsFrom v) c → AreMarks s c
  all_nodes v c past h = all_right (IsFrom v) c h (none_from (network s.net) v past)

  -- What an event has stirred.

  abbrev pub Seen : ℕ → Head → Delta → IndexState → Type 0
  Seen v before d c = AreOwnLeft IndexState (network s.net) (AreMarksBut s) v before d c

  pub seen : (e : Event) (before : Head) (d : Delta) (v : ℕ) (sends : Outgoing) (c one two three : IndexState) → IsGraph s.net.graph →
      v ≡ event_node e → sends ≡ d.sends → HasPlace (network s.net) e →
      All (λ (m : ℕ × Message). m.0 < length (ports_of s.net.graph.keys (event_node e))) d.sends →
      AreMarksBut s (IsStirred (network s.net) e before d) c →
      one ≡ marked s (Wake v) c → two ≡ marked s e one → three ≡ marked_all s (far_takes (network s.net) v sends) two →
      Seen v before d three
  seen e before d v sends c one two three ok node out has ports stirred first second third =
      let own = own_node (network s.net) e has in
      walks.stirred_seen IndexState (network s.net) (AreMarksBut s) (marked s) right_marked right_wider e before d v sends c one two three
      node out has (far_places s.net.graph (event_node e) ok own.0 own.1 d.sends ports) stirred first second third

  module _ (v : ℕ) (before : Head) (d : Delta) (c : IndexState) (h : Seen v before d c) where
    -- the Takes of the node
    pub own_all : (n : ℕ) → n ≡ length ((network s.net).ports v) → AreMarks s (marked_to s v n c)
    own_all n many =
        walks.own_all IndexState (network s.net) (AreMarksBut s) (marked s) right_marked right_wider (AreMarks s) all_right v before d c h n many

    -- the one that was marked
    pub own_one : (m : ℕ × Mark) → are_alike before d.head ≡ true → d.mark ≡ Some m → HasPlace (network s.net) (Take v m.0) →
        AreMarks s (marked s (Take v m.0) c)
    own_one m alike is there =
        walks.own_one IndexState (network s.net) (AreMarksBut s) (marked s) right_marked right_wider
        (AreMarks s) all_right v before d c h m alike is there

    -- none
    pub own_none : are_alike before d.head ≡ true → ((m : ℕ × Mark) → d.mark ≡ Some m → ⊥) → AreMarks s c
    own_none alike unmarked =
        walks.own_none IndexState (network s.net) (AreMarksBut s) (marked s) right_marked right_wider
        (AreMarks s) all_right v before d c h alike unmarked
