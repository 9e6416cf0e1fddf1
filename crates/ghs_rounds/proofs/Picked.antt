-- What a pick of a round's events gives.
use Rattle.std.proofs.Common.{◌≡◌, ℕ, ◌≤◌, Bool, true, false, not, nat_eq, Some, List, [], ◌∷◌, length, filter, refl, sym, ◌∙◌, ap, ⊎_elim, inl, inr, ◌⊎◌, arith}
use Rattle.std.specs.List.{Contains}
use Rattle.std.proofs.lemmas.Bool.{and_from, and_parts, eqb-true}
use Rattle.std.proofs.lemmas.Option.{same_Some}
use Rattle.ghs_graph.specs.Graph.{IsGraph}
use Rattle.ghs_graph.proofs.lemmas.Members.{in_filter}
use Rattle.ghs_node.specs.declared.delta.Delta.{Delta}
use Rattle.ghs_node.specs.declared.message.Message.{Message}
use Rattle.ghs_node.specs.Reaction.{reaction, requeues}
use Rattle.ghs_node.specs.Words.{is_sleeping}
use Rattle.ghs_node.proofs.lemmas.{is_sleeping_not}
use Rattle.peer_network.specs.declared.event.Event.{Event}
use Rattle.peer_network.specs.declared.event.Event.TheVariants.{Wake, Take}
use Rattle.peer_network.specs.Network.{Network, is_port}
use Rattle.ghs_protocol.specs.Net.{Net, is_lawful_under, is_waiting}
use Rattle.peer_network.specs.Events.{event_node}
use Rattle.ghs_protocol.specs.Run.{IsRun}
use Rattle.peer_network.proofs.lemmas.Events.{is_port_of}
use Rattle.ghs_protocol.proofs.lemmas.Runs.{lawful_under}
use Rattle.ghs_protocol.proofs.lemmas.Waiting.{waits_awake, waits_reaction}
use Rattle.ghs_core.specs.NetState.{IsAnswer, IsLawful, NetState, delivery, net_of, network}
use Rattle.ghs_core.proofs.lemmas.Waiting.{waits_so}
use Rattle.peer_index.specs.Places.{HasPlace, all_events}
use Rattle.ghs_world.specs.Outs.{Outs, is_out}
use Rattle.ghs_world.specs.Ready.{is_ready}
use Rattle.ghs_world.specs.WorldState.{WorldState, home, may_happen, wakers}
use Rattle.peer_schedule.specs.Picks.{IsPick}
use Rattle.peer_chains.specs.Chains.{Chains}
use Rattle.peer_chains.specs.Kept.{seen}
use Rattle.ghs_patient.specs.Patience.{first_waits, moves_on, or_else, puts_back}
use Rattle.ghs_patient.proofs.lemmas.Stirring.{port_below}
use Rattle.ghs_patient.proofs.lemmas.Picked.{first_there, in_either, picked_in}
use Rattle.ghs_patient.proofs.lemmas.Places.{own_node, placed_of}
use Rattle.ghs_rounds.specs.Choices.{events_of}
use Rattle.ghs_rounds.specs.Clock.{ClockState}
use Rattle.ghs_rounds.specs.Rounds.{hides_due, is_due, moves_due, round_events}
use Rattle.ghs_rounds.proofs.Sending.{IsTimely}

-- where there is none of either
pub none_left : (es fs : List Event) (m n : ℕ) → m ≡ length es → n ≡ length fs → m ≡ 0 → nat_eq n 0 ≡ true → or_else es fs ≡ []
none_left [] [] m n a b x y = refl
none_left [] (f ∷ fs) m n a b x y = absurd (let z : n ≡ 0 = eqb-true n 0 y in omega (arith, z, b))
none_left (e ∷ es) fs m n a b x y = absurd (omega (arith, x, a))

module _ (may : ℕ → Bool) (g : Network) (w : Net) (c : Chains) (r : ℕ) where
  abbrev pub Picked : Event → Type 0
  Picked e = HasPlace g e × ((moves_due may g w c r e ≡ true) ⊎ (hides_due w c r e ≡ true))

  pub of_round : (e : Event) → Contains (round_events may g w c r) e → Picked e
  of_round e h = ⊎_elim
      (λ k. let t = in_filter (moves_due may g w c r) (all_events g) e k in (placed_of g e t.0, inl t.1))
      (λ k. let t = in_filter (hides_due w c r) (all_events g) e k.1 in (placed_of g e t.0, inr t.1))
      (in_either (filter (moves_due may g w c r) (all_events g)) (filter (hides_due w c r) (all_events g)) e h)

  pub picked : (words : List ℕ) (e : Event) → IsPick (round_events may g w c r) words e → Picked e
  picked words e h = of_round e (picked_in (round_events may g w c r) words e h)

  lawful_back : (e : Event) → HasPlace g e → puts_back w e ≡ true → is_lawful_under may g w e ≡ true
  lawful_back (Wake v) there t = cc
  lawful_back (Take v p) there t =
      and_from (is_port g v p) (is_waiting (w.queue v p)) (is_port_of g v p there) (first_there (w.node v) p (w.queue v p) t)

  pub lawful_pick : (e : Event) → Picked e → is_lawful_under may g w e ≡ true
  lawful_pick e k = ⊎_elim
      (λ t. (and_parts (is_lawful_under may g w e) _ (and_parts (moves_on may g w e) (is_due c r e) t).0).0)
      (λ t. lawful_back e k.0 (and_parts (puts_back w e) _ t).0)
      k.1

-- what only puts its message back comes to a node that is awake, which sends nothing
back_is : (s : NetState) (e : Event) (d : Delta) → IsGraph s.graph → IsRun (network s) s.trace → HasPlace (network s) e →
    puts_back (net_of s) e ≡ true → IsAnswer s e d →
    (is_sleeping ((net_of s).node (event_node e)).head.phase ≡ false) × (d ≡ requeues ((net_of s).node (event_node e)).head)
back_is s (Wake v) d ok run there t answer = cc
back_is s (Take v p) d ok run there t answer = go ((net_of s).queue v p) t answer
  where
    go : (q : List Message) → first_waits ((net_of s).node v) p q ≡ true → reaction ((net_of s).node v) (delivery p q) ≡ Some d →
        (is_sleeping ((net_of s).node v).head.phase ≡ false) × (d ≡ requeues ((net_of s).node v).head)
    go [] b a = cc
    go (m ∷ ms) b a =
        let so = waits_so ((net_of s).node v) p m b in (
          is_sleeping_not ((net_of s).node v).head.phase (waits_awake ((net_of s).node v) p m so),
          same_Some d (requeues ((net_of s).node v).head) (sym a ∙ waits_reaction ((net_of s).node v) p m (port_below s v p ok run there) so),
        )

-- What a pick of a world's words gives.
pub record Pickable (s : WorldState) (k : ClockState) (e : Event) : Type 0 where
  pub place : HasPlace (network s.net) e
  pub low : 1 ≤ event_node e
  pub high : event_node e ≤ s.net.graph.nodes
  pub lawful : IsLawful s.net e
  pub ready : is_ready s e ≡ true
  pub timely : IsGraph s.net.graph → IsRun (network s.net) s.net.trace → (d : Delta) → IsAnswer s.net e d →
      IsTimely (seen k.kept) k.round e (is_sleeping ((home s).node (event_node e)).head.phase) d.fate

pub pickable : (s : WorldState) (k : ClockState) (words : List ℕ) (e : Event) → s.outs ≡ [] → IsPick (events_of s k) words e → Pickable s k e
pickable s k words e out h =
    let z = picked (wakers s) (network s.net) (home s) (seen k.kept) k.round words e h in
    let lawful = lawful_pick (wakers s) (network s.net) (home s) (seen k.kept) k.round e z in
    let own = own_node (network s.net) e z.0 in
    record {
      place = z.0;
      low = own.0;
      high = own.1;
      lawful = ((lawful_under (wakers s) (network s.net) (home s) e).0 lawful).1;
      ready = and_from (not (is_out s.outs (event_node e))) (may_happen s e) (ap (λ (o : Outs). not (is_out o (event_node e))) out) lawful;
      timely = λ ok run d answer. ⊎_elim
          (λ t. inl (and_parts (moves_on (wakers s) (network s.net) (home s) e) _ t).1)
          (λ t. let b = back_is s.net e d ok run z.0 (and_parts (puts_back (home s) e) _ t).0 answer in inr (b.0, ap (λ (x : Delta). x.fate) b.1))
          z.1;
    }
