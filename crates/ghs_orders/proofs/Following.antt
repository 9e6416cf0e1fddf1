-- What is kept once the messages of an event are numbered.
use Rattle.std.proofs.Common.{◌≡◌, ℕ, ◌+◌, ◌-◌, ◌^◌, ◌<◌, ◌≤◌, ◌∷◌, length, get_or, sym, ◌∙◌, ap, subst, inl, arith}
use Rattle.std.specs.List.{All}
use Rattle.ghs_graph.specs.Graph.{IsGraph}
use Rattle.ghs_graph.specs.Ports.{ports_of}
use Rattle.ghs_graph.proofs.lemmas.Members.{later_in}
use Rattle.ghs_node.specs.declared.delta.Delta.{Delta}
use Rattle.ghs_node.specs.declared.head.Head.{Head}
use Rattle.ghs_node.specs.declared.message.Message.{Message}
use Rattle.peer_network.specs.declared.event.Event.{Event}
use Rattle.peer_network.specs.declared.event.Event.TheVariants.{Wake, Take}
use Rattle.ghs_protocol.specs.Laws.{SendsAreBounded}
use Rattle.peer_network.specs.Events.{event_node}
use Rattle.ghs_protocol.specs.Run.{IsRun}
use Rattle.peer_network.proofs.lemmas.Graphs.{graph_wired}
use Rattle.ghs_core.specs.NetState.{network}
use Rattle.peer_index.specs.Places.{HasPlace, place}
use Rattle.ghs_world.specs.WorldState.{WorldState}
use Rattle.ghs_patient.specs.Choices.{far_takes, moves_in}
use Rattle.ghs_orders.specs.Kept.{AreLatestBefore, AreNumbers, AreRanksBut, IsUnranked, LatestState, NumbersState, rank_if, rank_in, with_all}
use Rattle.ghs_orders.specs.Newest.{Newest}
use Rattle.ghs_orders.specs.LifoRuns.{newest_in}
use Rattle.ghs_orders.proofs.Counting.{count_few}
use Rattle.ghs_orders.proofs.Numbering.{all_more, count_all, other_kept}

pub own_node : (s : WorldState) (f : Event) → HasPlace (network s.net) f → (1 ≤ event_node f) × (event_node f ≤ s.net.graph.nodes)
own_node s (Wake u) h = h
own_node s (Take u q) h = (h.some, h.node)

module _ (s : WorldState) (e : Event) (before : Head) (d : Delta) (x : LatestState) (h : AreLatestBefore s e before d x) (ok : IsGraph s.net.graph)
    (has : HasPlace (network s.net) e) (ports : All (λ (m : ℕ × Message). m.0 < length (ports_of s.net.graph.keys (event_node e))) d.sends) where
  abbrev pub after : NumbersState
  after = with_all (network s.net) (event_node e) d.sends x.numbers

  pub numbers_then : AreNumbers (network s.net) (newest_in s) after
  numbers_then =
      subst (λ (n : Newest). AreNumbers (network s.net) n after) (sym h.grown)
      (all_more (network s.net) (graph_wired s.net.graph ok) (event_node e) (own_node s e has).0 (own_node s e has).1 d.sends h.newest x.numbers
      ports h.numbers)

  pub count_then : SendsAreBounded → IsRun (network s.net) s.net.trace → length s.net.trace ≤ 2 ^ 40 → after.count < 2 ^ 64 - 1
  count_then law r few =
      let is = numbers_then.count in
      let lt = count_few s.net law ok r few in
      omega (arith, is, lt)

  pub room_for : SendsAreBounded → IsRun (network s.net) s.net.trace → length s.net.trace ≤ 2 ^ 40 → x.numbers.count + length d.sends < 2 ^ 64
  room_for law r few =
      let is = count_all (network s.net) (event_node e) d.sends x.numbers in
      let lt = count_then law r few in
      omega (arith, is, lt)

  -- the ranks of the others stay
  pub ranks_then : AreRanksBut s after.newest (IsUnranked (network s.net) e before d) x.ranks
  ranks_then = record { many = h.ranks.many; rank = rank }
    where
      rank : (f : Event) → HasPlace (network s.net) f → (IsUnranked (network s.net) e before d f → ⊥) →
          get_or x.ranks (place (network s.net) f) 0 ≡ rank_in s after.newest f
      rank (Wake u) there none = h.ranks.rank (Wake u) there none
      rank (Take u q) there none =
          let far = far_takes (network s.net) (event_node e) d.sends in
          let kept : get_or after.newest (place (network s.net) (Take u q)) 0 ≡ get_or x.numbers.newest (place (network s.net) (Take u q)) 0 =
          other_kept (network s.net) (graph_wired s.net.graph ok) (event_node e) (own_node s e has).0 (own_node s e has).1 d.sends x.numbers
          (Take u q) ports there
          (λ k. none (inl (later_in (Wake (event_node e)) (Take u q) (e ∷ far) (later_in e (Take u q) far k)))) in
          h.ranks.rank (Take u q) there none ∙ ap (rank_if (moves_in s (Take u q))) (sym kept)
