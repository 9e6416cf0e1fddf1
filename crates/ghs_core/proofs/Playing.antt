-- What a net keeps when an event is played.
use Rattle.std.proofs.Common.{◌≡◌, ◌≢◌, ℕ, ◌+◌, ◌-◌, ◌<◌, ◌≤◌, ◌^◌, true, Bool, List, [], ◌∷◌, ◌++◌, length, get_or, set, Some, subst, sym, ◌∙◌, ap, ⊎_elim, arith, length-append}
use Rattle.std.proofs.lemmas.Bool.{cases_eq}
use Rattle.std.proofs.lemmas.List.{get_or_default}
use Rattle.ghs_graph.specs.Graph.{Shape}
use Rattle.ghs_node.specs.declared.delta.Delta.{Delta}
use Rattle.ghs_node.specs.NodeState.{NodeState}
use Rattle.ghs_node.specs.Reaction.{reaction, after, IsReaction}
use Rattle.ghs_node.specs.Rows.{Row}
use Rattle.ghs_node.proofs.lemmas.{row_ported}
use Rattle.ghs_node.specs.declared.message.Message.{Message}
use Rattle.peer_channels.specs.Channels.{ChannelsState, IsFor, first_queue, GoOut, HasRoomFor, KeepsLists, room_at, total_of}
use Rattle.peer_channels.proofs.lemmas.Ports.{same_first, same_for}
use Rattle.peer_network.specs.declared.event.Event.{Event}
use Rattle.peer_network.specs.Network.{network_of, At}
use Rattle.peer_network.proofs.lemmas.Wired.{IsWired}
use Rattle.ghs_protocol.specs.Net.{Net, is_lawful, happens}
use Rattle.ghs_protocol.specs.Run.{net_after}
use Rattle.ghs_protocol.specs.Ledger.{in_all}
use Rattle.ghs_protocol.specs.Nodes.{IsNodeOf}
use Rattle.ghs_protocol.specs.Steps.{reacted, Happens}
use Rattle.ghs_protocol.proofs.lemmas.Events.{happens_so}
use Rattle.peer_network.proofs.lemmas.Graphs.{graph_wired}
use Rattle.ghs_protocol.proofs.lemmas.Lasting.{event_lasts}
use Rattle.ghs_protocol.proofs.lemmas.Nodes.{ports_many}
use Rattle.ghs_protocol.proofs.lemmas.Runs.{after_more, net_after_more}
use Rattle.ghs_protocol.proofs.lemmas.Sends.{node_here, node_there}
use Rattle.ghs_core.specs.declared.counts.Counts.{Counts}
use Rattle.ghs_core.specs.NetState.{NetState, event_node, work_at, halted_in, IsLawful, IsAnswer}
use Rattle.ghs_core.specs.Dispatch.{arriving, Arrives, CountsSends, Disposes, WaitsAt}
use Rattle.ghs_core.specs.declared.halts.Halts.{Halts}
use Rattle.ghs_core.specs.Halts.{AreHalts, with_node}
use Rattle.ghs_core.specs.Kept.{IsKept, no_node}
use Rattle.ghs_core.proofs.Reading.{run, formed}
use Rattle.ghs_protocol.proofs.lemmas.Few.{row_few}
use Rattle.ghs_core.proofs.Stages.{Staged, staged, stage_happens, stage_low, stage_high, stage_nodes, stage_reaction, reaction_row}
use Rattle.ghs_core.proofs.Showing.{waits_at, stage_shows, reacted_shows}
use Rattle.ghs_core.proofs.Totals.{Disposed, disposed, disposed_room, disposed_rooms, fit_more, total_fits, sent_fits}
use Rattle.ghs_core.proofs.Halting.{are_like, with_node_is}

-- the events of a run so far, and the reaction of one more
pub record Plays (g : Shape) (es : List Event) (nodes : List NodeState) (channels : ChannelsState Message) (counts : Counts) (halts : Halts)
    (e : Event) (d : Delta) : Type 0 where
  pub kept : IsKept g es nodes channels counts halts
  pub lawful : is_lawful (network_of g) (net_after g es) e ≡ true
  pub answer : reaction ((net_after g es).node (event_node e)) (work_at (net_after g es) e) ≡ Some d

-- the same, of what contracts see
pub plays_of :
    {g : Shape} {es : List Event} {nodes : List NodeState} {channels : ChannelsState Message} {counts : Counts} {halts : Halts} {spare : ℕ} {s :
    NetState}
    {e : Event} {d : Delta} →
    IsKept g es nodes channels counts halts → record { graph = g; trace = es; channels = channels; spare = spare } ≡ s →
    IsLawful s e → IsAnswer s e d →
    Plays g es nodes channels counts halts e d
plays_of kept view lawful answer = record { kept = kept; lawful = rw (← view) at lawful; answer = rw (← view) at answer }

module _ {g : Shape} {es : List Event} {nodes : List NodeState} {channels : ChannelsState Message} {counts : Counts} {halts : Halts} {e : Event}
    {d : Delta} (plays : Plays g es nodes channels counts halts e d) where
  wired : IsWired (network_of g)
  wired = graph_wired g plays.kept.graph

  stages : Staged (network_of g) (net_after g es) e d
  stages = staged (network_of g) (net_after g es) e d plays.lawful plays.answer

  is_node : IsNodeOf (network_of g) (event_node e) ((net_after g es).node (event_node e))
  is_node = (formed plays.kept).nodes (event_node e)

  the_reaction : IsReaction ((net_after g es).node (event_node e)) d
  the_reaction = stage_reaction stages.stage is_node

  row : Row ((net_after g es).node (event_node e)) the_reaction.work d
  row = reaction_row _ d the_reaction

  pub low : 1 ≤ event_node e
  low = stage_low stages.stage

  pub high : event_node e ≤ g.nodes
  high = stage_high stages.stage

  pub inside : event_node e - 1 < length nodes
  inside = let n = plays.kept.shows.count in omega (arith, n, low, high)

  -- the node in the fields is the net's
  pub found : (x : NodeState) → x ≡ get_or nodes (event_node e - 1) x → x ≡ (net_after g es).node (event_node e)
  found x is = is ∙ get_or_default nodes (event_node e - 1) x no_node inside ∙ plays.kept.shows.node (event_node e) low high

  pub can_react : (x : NodeState) → x ≡ get_or nodes (event_node e - 1) x → IsReaction x d
  can_react x is = let P : NodeState → Type 0 = λ n. IsReaction n d in subst P (sym (found x is)) the_reaction

  pub waits : WaitsAt e channels
  waits = waits_at g (net_after g es) nodes channels counts plays.kept.queues plays.kept.shows stages.stage

  pub go_out : GoOut channels (event_node e) d.sends
  go_out i x lt =
      let a = row_ported _ _ d is_node.node row i x lt in
      (plays.kept.queues.queues (event_node e) _).1 (record { some = low; node = high; port = omega (arith, a, ports_many is_node) })

  -- the node has its queues
  pub queues_there : event_node e < length channels.queues
  queues_there = let n = plays.kept.queues.count in omega (arith, n, high)

  pub few : length d.sends ≤ 8388610
  few = let a = row_few row in let b = is_node.node.few in omega (arith, a, b)

  -- once the message that the event takes has met its fate
  module _ (l : ChannelsState Message) (c : Counts) (s : Disposes e d.fate channels l counts c) where
    so_far : Disposed channels l counts c
    so_far = disposed g (net_after g es) nodes channels counts plays.kept.queues plays.kept.shows l c stages.stage s

    pub disposed_for : IsFor g l
    disposed_for = same_for g channels l so_far.ports plays.kept.queues

    pub first_still : first_queue l (event_node e) ≡ first_queue channels (event_node e)
    first_still = same_first channels l so_far.ports (event_node e)

    pub out_still : GoOut l (event_node e) d.sends
    out_still i x lt = (so_far.ports.queues (event_node e) _).0 (go_out i x lt)

    pub room_still : HasRoomFor (event_node e) d.sends channels → HasRoomFor (event_node e) d.sends l
    room_still room =
        disposed_room g (net_after g es) nodes channels counts plays.kept.queues plays.kept.shows l c (event_node e) d.sends stages.stage s room

    pub total_below : length es < 2 ^ 40 → total_of l + length d.sends < 2 ^ 64
    total_below lt = total_fits (length es) channels l counts c (length d.sends) lt few plays.kept.fit so_far

    pub sent_below : length es < 2 ^ 40 → (k : ℕ) → k < 7 → get_or c.sent k 0 + length d.sends < 2 ^ 64
    sent_below lt k below = sent_fits (length es) channels l counts c (length d.sends) k lt few plays.kept.fit so_far below

    -- and its node has reacted
    module _ (l' : ChannelsState Message) (sent : List ℕ) (a : Arrives g (event_node e) d.sends l l') (told : CountsSends d.sends c.sent sent) where
      abbrev next : Net
      next = reacted (network_of g) (event_node e) d stages.before

      happened : Happens (network_of g) (net_after g es) e next
      happened = stage_happens stages.stage

      is_next : net_after g (es ++ e ∷ []) ≡ next
      is_next = net_after_more g es e (net_after g es) next (run plays.kept) happened

      here : halted_in next (event_node e) ≡ d.head.halted
      here = ap (λ (n : NodeState). n.head.halted) (node_here (network_of g) (event_node e) d stages.before)

      there : (u : ℕ) → u ≢ event_node e → next.node u ≡ (net_after g es).node u
      there u ne = node_there (network_of g) (event_node e) d stages.before u ne ∙ ap (λ (f : ℕ → NodeState). f u) (stage_nodes stages.stage)

      halts_next : (k : Halts) →
          ((halted : ℕ → Bool) → AreHalts g halted halts → AreHalts g (with_node halted (event_node e) d.head.halted) k) →
          AreHalts g (halted_in next) k
      halts_next k noted = are_like g _ (halted_in next) k
          (λ u _ _.
          with_node_is (halted_in (net_after g es)) (halted_in next) (event_node e) d.head.halted here
          (λ u ne. ap (λ (n : NodeState). n.head.halted) (there u ne))
          (λ h. (event_lasts (network_of g) wired (net_after g es) next e (formed plays.kept) happened (event_node e)).halted h)
          u)
          (noted (halted_in (net_after g es)) plays.kept.halted)

      -- where the node has halted as before, so have all
      halts_still : halted_in (net_after g es) (event_node e) ≡ d.head.halted → AreHalts g (halted_in next) halts
      halts_still same = are_like g (halted_in (net_after g es)) (halted_in next) halts
          (λ u _ _. ⊎_elim
          (λ (z : u ≡ event_node e). rw z (same ∙ sym here))
          (λ ne. sym (ap (λ (n : NodeState). n.head.halted) (there u ne)))
          (cases_eq u (event_node e)))
          plays.kept.halted

      kept_next : (k : Halts) → AreHalts g (halted_in next) k →
          (x n : NodeState) →
          x ≡ get_or nodes (event_node e - 1) x → n ≡ after x d →
          IsKept g (es ++ e ∷ []) (set nodes (event_node e - 1) n) l' (record { sent = sent; consumed = c.consumed; requeued = c.requeued }) k
      kept_next k are x n is now = record {
        graph = plays.kept.graph;
        run = (next, after_more (network_of g) es e (net_after g es) next (run plays.kept) happened);
        queues = same_for g l l' a.ports disposed_for;
        shows =
            rw is_next (reacted_shows g plays.kept.graph (event_node e) low high d stages.before nodes n l l' c sent
            (now ∙ ap (λ (y : NodeState). after y d) (found x is ∙ sym (ap (λ (f : ℕ → NodeState). f (event_node e)) (stage_nodes stages.stage))))
            (stage_shows g (net_after g es) nodes channels counts plays.kept.queues plays.kept.shows l c stages.stage s) a told);
        fit =
            rw (length-append es (e ∷ []))
            (fit_more (length es) channels l l' counts c sent g (event_node e) d.sends few plays.kept.fit so_far a told);
        halted = rw is_next are;
      }

      pub played : (k : Halts) →
          ((halted : ℕ → Bool) → AreHalts g halted halts → AreHalts g (with_node halted (event_node e) d.head.halted) k) →
          (x n : NodeState) →
          x ≡ get_or nodes (event_node e - 1) x → n ≡ after x d →
          IsKept g (es ++ e ∷ []) (set nodes (event_node e - 1) n) l' (record { sent = sent; consumed = c.consumed; requeued = c.requeued }) k
      played k noted x n is now = kept_next k (halts_next k noted) x n is now

      -- where the node stays as it was, nothing of the nodes has to be written
      pub played_still : (x : NodeState) → x ≡ get_or nodes (event_node e - 1) x → x ≡ after x d →
          IsKept g (es ++ e ∷ []) (set nodes (event_node e - 1) x) l' (record { sent = sent; consumed = c.consumed; requeued = c.requeued }) halts
      played_still x is now = kept_next halts
          (halts_still (ap (λ (n : NodeState). n.head.halted) (sym (found x is)) ∙ ap (λ (n : NodeState). n.head.halted) now))
          x x is now

      pub played_rooms : (u r : ℕ) →
          At (network_of g) u r →
          room_at channels u r ≤ room_at l' u r + length (arriving (network_of g) (event_node e) d.sends u r)
      played_rooms u r at =
          let first = disposed_rooms g (net_after g es) nodes channels counts plays.kept.queues plays.kept.shows l c stages.stage s u r
          ((plays.kept.queues.queues u r).1 (record { some = at.some; node = at.node; port = at.port })) in
          let then = a.rooms u r at in
          omega (arith, first, then)

  pub played_event : happens (network_of g) (net_after g es) e ≡ Some (net_after g (es ++ e ∷ []))
  played_event =
      happens_so (stage_happens stages.stage) ∙
      ap (λ (x : Net). Some x) (sym (net_after_more g es e (net_after g es) _ (run plays.kept) (stage_happens stages.stage)))

-- a reserve
pub reserved : (g : Shape) (es : List Event) (nodes : List NodeState) (channels l : ChannelsState Message) (counts : Counts) (halts : Halts) →
    IsKept g es nodes channels counts halts →
    KeepsLists channels l → IsKept g es nodes l counts halts
reserved g es nodes channels l counts halts kept same = record {
  graph = kept.graph;
  run = kept.run;
  queues = same_for g channels l same.ports kept.queues;
  shows = let shows = kept.shows in record {
    count = shows.count;
    node = shows.node;
    queue = λ v p at. same.lists v p ((kept.queues.queues v p).1 (record { some = at.some; node = at.node; port = at.port })) ∙ shows.queue v p at;
    sent = shows.sent;
    consumed = shows.consumed;
    requeued = shows.requeued;
  };
  fit =
      let fit = kept.fit in
      record {
        sent = fit.sent;
        consumed = fit.consumed;
        requeued = fit.requeued;
        waiting = ap (λ n. n + in_all (λ k. get_or counts.consumed k 0)) same.total ∙ fit.waiting;
      };
  halted = kept.halted;
}
