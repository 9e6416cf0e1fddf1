-- Ranks that are set one by one.
use Rattle.std.proofs.Common.{◌≡◌, ◌≢◌, ℕ, ◌<◌, ◌≤◌, true, Some, List, [], ◌∷◌, length, get_or, set, refl, sym, ◌∙◌, ap, ⊎_elim, arith, length-set, get_or-set_same, get_or-set_other}
use Rattle.std.specs.List.{All, Contains}
use Rattle.std.proofs.lemmas.Bool.{cases_eq}
use Rattle.ghs_graph.specs.Graph.{IsGraph}
use Rattle.ghs_graph.specs.Ports.{ports_of}
use Rattle.ghs_graph.proofs.lemmas.Members.{in_cases}
use Rattle.ghs_node.specs.declared.delta.Delta.{Delta}
use Rattle.ghs_node.specs.declared.head.Head.{Head}
use Rattle.ghs_node.specs.declared.mark.Mark.{Mark}
use Rattle.ghs_node.specs.declared.message.Message.{Message}
use Rattle.ghs_node.specs.Words.{Outgoing}
use Rattle.peer_network.specs.declared.event.Event.{Event}
use Rattle.peer_network.specs.declared.event.Event.TheVariants.{Wake, Take}
use Rattle.peer_network.specs.Events.{event_node}
use Rattle.ghs_core.specs.NetState.{network}
use Rattle.peer_index.specs.Places.{HasPlace, all_events, place}
use Rattle.peer_index.proofs.lemmas.Places.{place_apart, place_within}
use Rattle.ghs_world.specs.WorldState.{WorldState}
use Rattle.ghs_patient.specs.Choices.{IsOwn, are_alike, far_takes}
use Rattle.ghs_patient.proofs.lemmas.Places.{own_node}
use Rattle.ghs_patient.proofs.lemmas.Walks.{AreOwnLeft, far_places}
use Rattle.ghs_patient.proofs.lemmas.Walks as walks
use Rattle.ghs_orders.specs.Kept.{AreRanks, AreRanksBut, IsUnranked, rank_in, ranked, ranked_all, ranked_to}

-- there is a rank for each event
abbrev pub IsRankEach : WorldState → List ℕ → Type 0
IsRankEach s ranks = length ranks ≡ length (all_events (network s.net))

module _ (s : WorldState) (newest : List ℕ) where
  pub many_all : (es : List Event) (r : List ℕ) → length (ranked_all s newest es r) ≡ length r
  many_all [] r = refl
  many_all (e ∷ es) r = many_all es (ranked s newest e r) ∙ length-set r (place (network s.net) e) (rank_in s newest e)

  right_ranked : (wrong : Event → Type 0) (e : Event) (r : List ℕ) → AreRanksBut s newest wrong r → HasPlace (network s.net) e →
      AreRanksBut s newest (λ f. wrong f × (f ≢ e)) (ranked s newest e r)
  right_ranked wrong e r h has = record { many = length-set r (place (network s.net) e) (rank_in s newest e) ∙ h.many; rank = rank }
    where
      rank : (f : Event) → HasPlace (network s.net) f → (wrong f × (f ≢ e) → ⊥) →
          get_or (set r (place (network s.net) e) (rank_in s newest e)) (place (network s.net) f) 0 ≡ rank_in s newest f
      rank f there none = ⊎_elim
          (λ (same : place (network s.net) f ≡ place (network s.net) e).
          let within = place_within (network s.net) e has in
          let many = h.many in
          ap (λ (i : ℕ). get_or (set r (place (network s.net) e) (rank_in s newest e)) i 0) same
          ∙ get_or-set_same r (place (network s.net) e) (rank_in s newest e) 0 (omega (arith, within, many))
          ∙ ap (rank_in s newest) (sym (place_apart (network s.net) f e there has same)))
          (λ (other : place (network s.net) f ≢ place (network s.net) e).
          get_or-set_other r (place (network s.net) e) (place (network s.net) f) (rank_in s newest e) 0 other
          ∙ h.rank f there (λ w. none (w, λ z. other (ap (place (network s.net)) z))))
          (cases_eq (place (network s.net) f) (place (network s.net) e))

  right_wider : (wrong wider : Event → Type 0) (r : List ℕ) → AreRanksBut s newest wrong r →
      ((f : Event) → HasPlace (network s.net) f → wrong f → wider f) →
      AreRanksBut s newest wider r
  right_wider wrong wider r h more = record { many = h.many; rank = λ f there none. h.rank f there (λ w. none (more f there w)) }

  -- where none is wrong
  all_right : (wrong : Event → Type 0) (r : List ℕ) → AreRanksBut s newest wrong r → ((f : Event) → HasPlace (network s.net) f → wrong f → ⊥) →
      AreRanks s newest r
  all_right wrong r h none = record { many = h.many; rank = λ f there. h.rank f there (none f there) }

  -- What an event has stirred.

  -- the ranks once the event itself and the Takes at the far ends have theirs
  abbrev pub Seen : ℕ → Head → Delta → List ℕ → Type 0
  Seen v before d r = AreOwnLeft (List ℕ) (network s.net) (AreRanksBut s newest) v before d r

  pub seen : (e : Event) (before : Head) (d : Delta) (v : ℕ) (sends : Outgoing) (r one two : List ℕ) → IsGraph s.net.graph →
      v ≡ event_node e → sends ≡ d.sends → HasPlace (network s.net) e →
      All (λ (m : ℕ × Message). m.0 < length (ports_of s.net.graph.keys (event_node e))) d.sends →
      AreRanksBut s newest (IsUnranked (network s.net) e before d) r →
      one ≡ ranked s newest e r → two ≡ ranked_all s newest (far_takes (network s.net) v sends) one →
      Seen v before d two
  seen e before d v sends r one two ok node out has ports stirred first second =
      let own = own_node (network s.net) e has in
      let is : two ≡ ranked_all s newest (far_takes (network s.net) (event_node e) d.sends) (ranked s newest e r) =
      second ∙ ap (λ u. ranked_all s newest (far_takes (network s.net) u sends) one) node
      ∙ ap (λ ss. ranked_all s newest (far_takes (network s.net) (event_node e) ss) one) out
      ∙ ap (ranked_all s newest (far_takes (network s.net) (event_node e) d.sends)) first in
      rw (node, is) (record { low = own.0; high = own.1; left = left own })
    where
      own_left : (f : Event) →
          (IsUnranked (network s.net) e before d f × (f ≢ e)) × (Contains (far_takes (network s.net) (event_node e) d.sends) f → ⊥) →
          IsOwn (event_node e) before d f
      own_left (Wake u) w = w.0.0
      own_left (Take u q) w = ⊎_elim
          (λ k. absurd (⊎_elim
          (λ k'. ⊎_elim w.1 (λ z. w.0.1 (sym z)) (in_cases e (Take u q) (far_takes (network s.net) (event_node e) d.sends) k'))
          (λ (z : Wake (event_node e) ≡ Take u q). cc z)
          (in_cases (Wake (event_node e)) (Take u q) (e ∷ far_takes (network s.net) (event_node e) d.sends) k)))
          (λ own. own) w.0.0

      left : (1 ≤ event_node e) × (event_node e ≤ s.net.graph.nodes) →
          AreRanksBut s newest (IsOwn (event_node e) before d)
          (ranked_all s newest (far_takes (network s.net) (event_node e) d.sends) (ranked s newest e r))
      left own =
          right_wider (λ f. (IsUnranked (network s.net) e before d f × (f ≢ e)) × (Contains (far_takes (network s.net) (event_node e) d.sends) f → ⊥))
          (IsOwn (event_node e) before d) (ranked_all s newest (far_takes (network s.net) (event_node e) d.sends) (ranked s newest e r))
          (walks.right_all (List ℕ) (network s.net) (AreRanksBut s newest) (ranked s newest) right_ranked right_wider
          (λ f. IsUnranked (network s.net) e before d f × (f ≢ e)) (far_takes (network s.net) (event_node e) d.sends) (ranked s newest e r)
          (right_ranked (IsUnranked (network s.net) e before d) e r stirred has)
          (far_places s.net.graph (event_node e) ok own.0 own.1 d.sends ports))
          (λ f there w. own_left f w)

  module _ (v : ℕ) (before : Head) (d : Delta) (r : List ℕ) (h : Seen v before d r) where
    -- the Takes of the node
    pub own_all : (n : ℕ) → n ≡ length ((network s.net).ports v) → AreRanks s newest (ranked_to s newest v n r)
    own_all n many =
        walks.own_all (List ℕ) (network s.net) (AreRanksBut s newest) (ranked s newest) right_ranked right_wider
        (AreRanks s newest) all_right v before d r h n many

    -- the one that was marked
    pub own_one : (m : ℕ × Mark) → are_alike before d.head ≡ true → d.mark ≡ Some m → HasPlace (network s.net) (Take v m.0) →
        AreRanks s newest (ranked s newest (Take v m.0) r)
    own_one m alike is there =
        walks.own_one (List ℕ) (network s.net) (AreRanksBut s newest) (ranked s newest) right_ranked right_wider
        (AreRanks s newest) all_right v before d r h m alike is there

    -- none
    pub own_none : are_alike before d.head ≡ true → ((m : ℕ × Mark) → d.mark ≡ Some m → ⊥) → AreRanks s newest r
    own_none alike unmarked =
        walks.own_none (List ℕ) (network s.net) (AreRanksBut s newest) (ranked s newest) right_ranked right_wider
        (AreRanks s newest) all_right v before d r h alike unmarked
