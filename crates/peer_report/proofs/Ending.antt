-- Silence and the end.
use Rattle.std.proofs.Common.{◌≡◌, ℕ, ◌<◌, Bool, true, false, nat_lt, List, [], ◌∷◌, length, refl, ap, arith, ltb-true}
use Rattle.std.proofs.lemmas.Bool.{and_parts, false_from_ne_true}
use Rattle.ghs_graph.specs.Graph.{Shape, IsGraph}
use Rattle.ghs_graph.proofs.lemmas.Joining.{joined_back}
use Rattle.peer_network.specs.declared.event.Event.{Event}
use Rattle.peer_network.specs.declared.event.Event.TheVariants.{Wake, Take}
use Rattle.peer_network.specs.Network.{network_of, InNetwork, At, is_node, is_port}
use Rattle.peer_network.specs.Wakes.{AllMayWake}
use Rattle.peer_network.proofs.lemmas.Events.{node_of, at_of}
use Rattle.peer_machine.specs.Ends.{IsSilent, SilenceIsEnd, SilenceWakesAll}
use Rattle.peer_machine.specs.Rules.{Rules}
use Rattle.peer_machine.specs.Net.{Net, is_lawful}
use Rattle.peer_machine.specs.Run.{IsRun, IsNetOf, net_after}
use Rattle.peer_machine.proofs.lemmas.Events.{woke_lawful, took_lawful}
use Rattle.peer_machine.proofs.lemmas.Runs.{after_is_net}

-- the net of a run, as the code has it
pub run_is_net : {S M : Type 0} (r : Rules S M) (g : Shape) (es : List Event) → IsGraph g → IsRun r (network_of g) es → IsNetOf r g (net_after r g es)
run_is_net r g es ok run = record { graph = ok; events = es; run = after_is_net r g es run }

module _ {S M : Type 0} (r : Rules S M) (has_ended : Shape → Net S M → Type 0) (ends : SilenceIsEnd r has_ended) (wakes_all : SilenceWakesAll r)
    (g : Shape) (w : Net S M) (is : IsNetOf r g w) where
  -- no message waits where none can be taken
  empty_queue : (u p : ℕ) → At (network_of g) u p → is_lawful r (network_of g) w (Take u p) ≡ false → (q : List M) → w.queue u p ≡ q → q ≡ []
  empty_queue u p at none [] e = refl
  empty_queue u p at none (m ∷ ms) e = let some = took_lawful r (network_of g) w u p m ms at e in cc

  -- Where no message can be taken and nobody can wake who may by itself, and each node is joined with one that may, the run has ended.
  module _ (may : ℕ → Bool) (no_wake : (u : ℕ) → may u ≡ true → is_lawful r (network_of g) w (Wake u) ≡ false)
      (no_take : (u p : ℕ) → is_lawful r (network_of g) w (Take u p) ≡ false) where
    silent : IsSilent (network_of g) w
    silent u p at = empty_queue u p at (no_take u p) (w.queue u p) refl

    woken : (u : ℕ) → InNetwork (network_of g) u → may u ≡ true → r.is_asleep (w.node u) ≡ false
    woken u here m = false_from_ne_true _ (λ asleep.
        let some = woke_lawful r (network_of g) w u here.some here.node asleep in let none = no_wake u m in cc)

    pub stuck_has_ended : AllMayWake may g → has_ended g w
    stuck_has_ended all = (ends g w is).1 (
      silent,
      λ v net.
          let first = all v net.some net.node in
          let here : InNetwork (network_of g) first.0 = record { some = first.1; node = first.2 } in
          wakes_all g w is silent first.0 v here net (joined_back first.3) (woken first.0 here first.4),
    )

  -- and at the end no event is lawful
  pub end_is_stuck : has_ended g w → (e : Event) → is_lawful r (network_of g) w e ≡ false
  end_is_stuck ended (Wake v) = false_from_ne_true _ (λ t.
      let lawful = and_parts (is_node (network_of g) v) (r.is_asleep (w.node v)) t in
      let here = node_of (network_of g) v lawful.0 in
      let awake = ((ends g w is).0 ended).1 v (record { some = here.0; node = here.1 }) in
      let asleep = lawful.1 in
      cc)
  end_is_stuck ended (Take v p) = false_from_ne_true _ (λ t.
      let lawful = and_parts (is_port (network_of g) v p) (nat_lt 0 (length (w.queue v p))) t in
      let empty = ((ends g w is).0 ended).0 v p (at_of (network_of g) v p lawful.0) in
      let waits : 0 < length (w.queue v p) = ltb-true 0 (length (w.queue v p)) lawful.1 in
      let none : length (w.queue v p) ≡ 0 = ap (λ (q : List M). length q) empty in
      absurd (omega (arith, waits, none)))
