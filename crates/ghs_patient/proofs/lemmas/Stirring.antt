-- What an event leaves of the choices.
use Rattle.std.proofs.Common.{◌≡◌, ℕ, ◌<◌, Bool, true, ◌&&◌, not, Option, Some, None, List, [], ◌∷◌, refl, sym, ◌∙◌, ap, ap₂, subst, subst₂, ⊎_elim, inl, inr, arith, get_or, get_or-set_other}
use Rattle.std.proofs.lemmas.Bool.{and_parts, cases_eq, cases_Bool, eqb-true}
use Rattle.std.proofs.lemmas.Option.{same_Some}
use Rattle.ghs_graph.specs.Graph.{Shape, IsGraph}
use Rattle.ghs_node.specs.declared.delta.Delta.{Delta}
use Rattle.ghs_node.specs.declared.head.Head.{Head}
use Rattle.ghs_node.specs.declared.mark.Mark.{Mark}
use Rattle.ghs_node.specs.declared.mark.Mark.TheVariants.{Rejected}
use Rattle.ghs_node.specs.declared.message.Message.{Message}
use Rattle.ghs_node.specs.declared.message.Message.TheVariants.{Connect, Initiate, Test, Accept, Reject, Report, ChangeRoot}
use Rattle.ghs_node.specs.NodeState.{NodeState, degree, mark_at, with_mark}
use Rattle.ghs_node.specs.Reaction.{after, reaction}
use Rattle.ghs_node.proofs.lemmas.{same_phase_is}
use Rattle.peer_network.specs.declared.event.Event.{Event}
use Rattle.peer_network.specs.declared.event.Event.TheVariants.{Wake, Take}
use Rattle.peer_network.specs.Network.{At, Network, network_of}
use Rattle.ghs_protocol.specs.Net.{Net, happens}
use Rattle.peer_network.specs.Events.{event_node}
use Rattle.ghs_protocol.specs.Run.{IsRun}
use Rattle.ghs_protocol.specs.Steps.{Happens, Woke, Took}
use Rattle.ghs_protocol.proofs.lemmas.Effects.{taken_here}
use Rattle.ghs_protocol.proofs.lemmas.Events.{happening}
use Rattle.peer_network.proofs.lemmas.Graphs.{graph_few, graph_wired}
use Rattle.ghs_protocol.proofs.lemmas.Nodes.{ports_many}
use Rattle.ghs_protocol.proofs.lemmas.Runs.{after_is_net}
use Rattle.ghs_protocol.proofs.lemmas.Sends.{node_here}
use Rattle.ghs_protocol.proofs.lemmas.WellFormed.{after_formed}
use Rattle.ghs_core.specs.NetState.{IsAnswer, NetState, delivery, net_of, network, work_at}
use Rattle.ghs_core.specs.Waits.{waits}
use Rattle.ghs_flags.specs.Flags.{at}
use Rattle.peer_index.specs.Places.{HasPlace, place}
use Rattle.peer_index.proofs.lemmas.Marks.{is_for, mark_is}
use Rattle.ghs_world.specs.Steps.{IsSameWorld, Makes}
use Rattle.peer_network.specs.declared.wake_set.WakeSet.{WakeSet}
use Rattle.peer_network.specs.Wakes.{may_wake}
use Rattle.ghs_world.specs.WorldState.{WorldState, home}
use Rattle.ghs_world.proofs.lemmas.Leaving.{Leaves, leaves, same_else}
use Rattle.ghs_patient.specs.Patience.{first_waits, moves_on, puts_back}
use Rattle.ghs_patient.specs.Choices.{AreChoices, AreChoicesBut, AreFor, ChoicesState, IsMarked, IsStirred, are_alike, has_second, is_double, moves_in, same_place}

-- a port of the network is one of its node
pub port_below : (n : NetState) (v p : ℕ) → IsGraph n.graph → IsRun (network n) n.trace → At (network n) v p → p < degree ((net_of n).node v)
port_below n v p ok is_run at =
    let run = after_is_net n.graph n.trace is_run in
    let many = ports_many ((after_formed (network n) (graph_wired n.graph ok) (graph_few n.graph ok) n.trace (net_of n) run).nodes v) in
    let lt = at.port in
    omega (arith, lt, many)

-- Heads that are alike.

same_place_so : (a b : Option ℕ) → same_place a b ≡ true → a ≡ b
same_place_so None None h = refl
same_place_so None (Some q) h = cc
same_place_so (Some p) None h = cc
same_place_so (Some p) (Some q) h = ap Some (sym (eqb-true q p h))

record Alike (h k : Head) : Type 0 where
  phase : h.phase ≡ k.phase
  level : h.level ≡ k.level
  in_branch : h.in_branch ≡ k.in_branch

alike_so : (h k : Head) → are_alike h k ≡ true → Alike h k
alike_so h k t =
    let a = and_parts _ _ t in
    let b = and_parts _ _ a.1 in
    record { phase = same_phase_is h.phase k.phase a.0; level = eqb-true h.level k.level b.0; in_branch = same_place_so h.in_branch k.in_branch b.1 }

module _ (n k : NodeState) (q : ℕ) (same : Alike n.head k.head) (mark : mark_at n q ≡ mark_at k q) where
  -- the same messages wait
  same_waits : (m : Message) → waits k q m ≡ waits n q m
  same_waits (Connect l) = rw (same.phase, same.level, mark) refl
  same_waits (Initiate l f s) = refl
  same_waits (Test l f) = rw (same.phase, same.level) refl
  same_waits Accept = refl
  same_waits Reject = refl
  same_waits (Report w) = rw (same.phase, same.in_branch) refl
  same_waits ChangeRoot = refl

  same_first : (ms : List Message) → first_waits k q ms ≡ first_waits n q ms
  same_first [] = refl
  same_first (m ∷ ms) = same_waits m

unmarked : (marks : List Mark) (change : Option (ℕ × Mark)) (q : ℕ) → (IsMarked change q → ⊥) →
    get_or marks q Rejected ≡ get_or (with_mark marks change) q Rejected
unmarked marks None q none = refl
unmarked marks (Some m) q none = sym (get_or-set_other marks m.0 q m.1 Rejected (λ z. none (sym z)))

-- One event.

module _ (g : Network) (may : ℕ → Bool) (w w' : Net) (e : Event) (d : Delta) (h : happens g w e ≡ Some w')
    (r : reaction (w.node (event_node e)) (work_at w e) ≡ Some d) where
  left : Leaves g w w' e d
  left = leaves g w w' e d h r

  here : w'.node (event_node e) ≡ after (w.node (event_node e)) d
  here = go w' e r (happening g w w' e h)
    where
      go : (x : Net) (f : Event) → reaction (w.node (event_node f)) (work_at w f) ≡ Some d → Happens g w f x →
          x.node (event_node f) ≡ after (w.node (event_node f)) d
      go _ _ r (Woke v c lo hi s z) = node_here g v c w ∙ ap (after (w.node v)) (same_Some c d (sym z ∙ r))
      go _ _ r (Took v p m ms c at q z) =
          taken_here g v p m ms c w ∙ ap (after (w.node v)) (same_Some c d (sym z ∙ sym (ap (λ k. reaction (w.node v) (delivery p k)) q) ∙ r))

  pub same_back : (f : Event) → (IsStirred g e (w.node (event_node e)).head d f → ⊥) → puts_back w' f ≡ puts_back w f
  same_back (Wake u) none = refl
  same_back (Take u q) none =
      ap (first_waits (w'.node u) q) (left.queue u q (λ k. none (inl k)))
      ∙ ⊎_elim own (λ ne. ap (λ n. first_waits n q (w.queue u q)) (left.node u ne)) (cases_eq u (event_node e))
    where
      n : NodeState
      n = w.node (event_node e)

      own : u ≡ event_node e → first_waits (w'.node u) q (w.queue u q) ≡ first_waits (w.node u) q (w.queue u q)
      own is =
          let alike : are_alike n.head d.head ≡ true =
          ⊎_elim (λ t. t) (λ z. absurd (none (inr (is, inl z)))) (cases_Bool (are_alike n.head d.head)) in
          let mark = unmarked n.marks d.mark q (λ k. none (inr (is, inr k))) in
          ap (λ x. first_waits (w'.node x) q (w.queue u q)) is ∙ ap (λ x. first_waits x q (w.queue u q)) here
          ∙ same_first n (after n d) q (alike_so n.head d.head alike) mark (w.queue u q)
          ∙ ap (λ x. first_waits (w.node x) q (w.queue u q)) (sym is)

  pub same_moves : (f : Event) → (IsStirred g e (w.node (event_node e)).head d f → ⊥) → moves_on may g w' f ≡ moves_on may g w f
  same_moves f none = ap₂ (λ a b. a && not b) (same_else g may w w' e d f left (λ k. none (inl k))) (same_back f none)

  pub same_double : (f : Event) → (IsStirred g e (w.node (event_node e)).head d f → ⊥) → is_double w' f ≡ is_double w f
  same_double (Wake u) none = refl
  same_double (Take u q) none = ap has_second (left.queue u q (λ k. none (inl k)))

-- the choices of the world before an event are those of the world after it, but for what it has stirred
module _ (s t : WorldState) (e : Event) (d : Delta) (c : ChoicesState) (are : AreChoices s c) (made : Makes s e t) (answer : IsAnswer s.net e d) where
  abbrev before : Head
  before = ((home s).node (event_node e)).head

  abbrev Moves : Shape → WakeSet → Type 0
  Moves g wake = (f : Event) → HasPlace (network_of g) f → (IsStirred (network_of g) e before d f → ⊥) →
      at c.moving.marks (place (network_of g) f) ≡ moves_on (may_wake g wake) (network_of g) (home t) f

  abbrev Doubles : Shape → Type 0
  Doubles g = (f : Event) → HasPlace (network_of g) f → (IsStirred (network_of g) e before d f → ⊥) →
      at c.double.marks (place (network_of g) f) ≡ is_double (home t) f

  moves : Moves s.net.graph s.wake
  moves f there none =
      mark_is (network s.net) (moves_in s) c.moving f are.moving there
      ∙ sym (same_moves (network s.net) (may_wake s.net.graph s.wake) (home s) (home t) e d made.event answer f none)

  doubles : Doubles s.net.graph
  doubles f there none =
      mark_is (network s.net) (is_double (home s)) c.double f are.double there
      ∙ sym (same_double (network s.net) (may_wake s.net.graph s.wake) (home s) (home t) e d made.event answer f none)

  fits : AreFor (network s.net) c
  fits = record {
    moving = is_for (network s.net) (moves_in s) c.moving are.moving;
    double = is_for (network s.net) (is_double (home s)) c.double are.double;
  }

  pub keeps : AreChoicesBut t (IsStirred (network t.net) e before d) c
  keeps = record {
    for_all = subst (λ (g : Shape). AreFor (network_of g) c) (sym made.graph) fits;
    moving = subst₂ Moves (sym made.graph) (sym made.wake) moves;
    double = subst Doubles (sym made.graph) doubles;
  }

-- the same world has the same choices
pub same_choices : (s t : WorldState) (c : ChoicesState) → IsSameWorld s t → AreChoices s c → AreChoices t c
same_choices s t c same are = record {
  moving = rw (same.net.graph, same.net.trace, same.wake) are.moving;
  double = rw (same.net.graph, same.net.trace) are.double;
}
