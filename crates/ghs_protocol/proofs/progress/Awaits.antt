-- Who searches waits for a Report or an answer; who is awake without ports has halted.
use Rattle.std.proofs.Common.{◌≡◌, ◌≢◌, ℕ, Bool, true, false, ◌&&◌, Option, Some, None, List, [], ◌∷◌, length, refl, sym, ◌∙◌, ap, arith}
use Rattle.ghs_node.specs.declared.head.Head.{Head}
use Rattle.ghs_node.specs.declared.mark.Mark.{Mark}
use Rattle.ghs_node.specs.declared.mark.Mark.TheVariants.{Branch}
use Rattle.ghs_node.specs.declared.message.Message.{Message}
use Rattle.ghs_node.specs.declared.message.Phase.{Phase}
use Rattle.ghs_node.specs.declared.message.Phase.TheVariants.{Sleeping, Find, Found}
use Rattle.ghs_node.specs.declared.delta.Delta.{Delta}
use Rattle.ghs_node.specs.Words.{is_zero, is_missing, find_more, Outgoing}
use Rattle.ghs_node.specs.NodeState.{NodeState, degree, with_mark}
use Rattle.ghs_node.specs.Reaction.{after, at_wake, ends, Ending}
use Rattle.ghs_node.specs.Rows.{AwakeRow, Closes, Reports, Waits, Settles, Probes, Exhausts, Connect_absorbed, Connect_waits, Connect_merges, Initiate_rests, Initiate_searches, Test_waits, Test_accepted, Test_rejected, Tests_cross, Accept_heard, Reject_heard, Report_heard, Report_waits, Report_moves_root, Report_halts, Report_passes, Root_moves}
use Rattle.peer_network.specs.Network.{Network, network_of}
use Rattle.peer_network.proofs.lemmas.Wired.{IsWired, HasFewPorts}
use Rattle.ghs_protocol.specs.Net.{Net}
use Rattle.ghs_protocol.specs.Run.{IsAfter}
use Rattle.ghs_protocol.specs.Steps.{waking}
use Rattle.ghs_protocol.proofs.lemmas.Nodes.{NodeKept, node_step, ports_many}
use Rattle.ghs_protocol.proofs.lemmas.Steps.{run_by_steps}
use Rattle.ghs_protocol.specs.Laws.{IsNetOf}
use Rattle.ghs_graph.specs.Graph.{Shape}
use Rattle.peer_network.proofs.lemmas.Graphs.{graph_wired, graph_few}
use Rattle.ghs_protocol.proofs.every_run.Firsts.{formed}
use Rattle.ghs_protocol.proofs.clauses.Scene.{Ghost, scene}
use Rattle.ghs_protocol.proofs.clauses.UnderWay.{Lives, Living}
use Rattle.ghs_node.proofs.lemmas.{length-with_mark}

abbrev pub awaits : Head → Type 0
awaits h = h.phase ≡ Find → (is_zero h.find_count && is_missing h.probe) ≡ false

pub record Awaits (v : ℕ) (n : NodeState) : Type 0 where
  pub search : n.head.phase ≡ Find → (is_zero n.head.find_count && is_missing n.head.probe) ≡ false
  pub halts : n.head.phase ≢ Sleeping → ◌≡◌ {A = ℕ} (degree n) 0 → n.head.halted ≡ true

and_false : (a : Bool) → (a && false) ≡ false
and_false true = refl
and_false false = refl

absorbing : (s : Phase) (c : ℕ) (o : Option ℕ) → s ≡ Find → (is_zero (find_more s c) && is_missing o) ≡ false
absorbing Find c o e = refl
absorbing Found c o e = cc
absorbing Sleeping c o e = cc

closing : (h : Head) (m : Option (ℕ × Mark)) (s : Outgoing) (e : Ending) → Closes h e → awaits (ends h m s e).head
closing h m s _ (Reports z p) = λ f. cc
closing h m s _ (Waits x) = λ f. x

settling : (ms : List Mark) (h : Head) (m : Option (ℕ × Mark)) (s : Outgoing) (e : Ending) → Settles ms h e → awaits (ends h m s e).head
settling ms h m s _ (Probes p x) = λ f. and_false (is_zero h.find_count)
settling ms h m s e (Exhausts x c) = closing h m s e c

row_search : (n : NodeState) (j : ℕ) (m : Message) (d : Delta) → awaits n.head → AwakeRow n j m d → awaits d.head
row_search n j m _ a (Connect_absorbed lt few) = λ f. absorbing n.head.phase n.head.find_count n.head.probe f
row_search n j m _ a (Connect_waits le b) = a
row_search n j m _ a (Connect_merges le ne lt) = a
row_search n j m _ a (Initiate_rests lt) = λ f. cc
row_search n j m _ a (Initiate_searches lt few s) = settling _ _ None [] _ s
row_search n j m _ a (Test_waits lt) = a
row_search n j m _ a (Test_accepted le x) = a
row_search n j m _ a (Test_rejected le x y) = a
row_search n j m _ a (Tests_cross le x y s) = settling _ _ None [] _ s
row_search n j m _ a (Accept_heard x c) = closing _ None [] _ c
row_search n j m _ a (Reject_heard x s) = settling _ _ None [] _ s
row_search n j m _ a (Report_heard c x y z) = closing _ None [] _ z
row_search n j m _ a (Report_waits x y) = a
row_search n j m _ a (Report_moves_root b k x y z t) = a
row_search n j m _ a (Report_halts x y z) = a
row_search n j m _ a (Report_passes x y z t) = a
row_search n j m _ a (Root_moves b k x) = a

row_halted : (n : NodeState) (j : ℕ) (m : Message) (d : Delta) → AwakeRow n j m d → n.head.halted ≡ true → d.head.halted ≡ true
row_halted n j m _ (Connect_absorbed lt few) h = h
row_halted n j m _ (Connect_waits le b) h = h
row_halted n j m _ (Connect_merges le ne lt) h = h
row_halted n j m _ (Initiate_rests lt) h = h
row_halted n j m _ (Initiate_searches lt few s) h = h
row_halted n j m _ (Test_waits lt) h = h
row_halted n j m _ (Test_accepted le x) h = h
row_halted n j m _ (Test_rejected le x y) h = h
row_halted n j m _ (Tests_cross le x y s) h = h
row_halted n j m _ (Accept_heard x c) h = h
row_halted n j m _ (Reject_heard x s) h = h
row_halted n j m _ (Report_heard c x y z) h = h
row_halted n j m _ (Report_waits x y) h = h
row_halted n j m _ (Report_moves_root b k x y z t) h = h
row_halted n j m _ (Report_halts x y z) h = refl
row_halted n j m _ (Report_passes x y z t) h = h
row_halted n j m _ (Root_moves b k x) h = h

awakes : (v : ℕ) (n : NodeState) → n.head.phase ≡ Sleeping → Awaits v (after n (waking n))
awakes v n s = record { search = search n.marks; halts = halts n.marks refl }
  where
    search : (ms : List Mark) → awaits (at_wake n ms).head
    search [] = λ f. cc
    search (m ∷ ms) = λ f. cc

    halts : (ms : List Mark) →
        n.marks ≡ ms →
        (at_wake n ms).head.phase ≢ Sleeping →
        ◌≡◌ {A = ℕ} (length (with_mark n.marks (at_wake n ms).mark)) 0 →
        (at_wake n ms).head.halted ≡ true
    halts [] e a z = refl
    halts (m ∷ ms) e a z = absurd (let x = length-with_mark n.marks (Some (0, Branch)) in let y = ap length e in omega (arith, x, y, z))

pub kept : NodeKept Awaits
kept = record {
  takes = λ v n j m d a up row. record {
    search = row_search n j m d a.search row;
    halts = λ w z. row_halted n j m d row (a.halts up (sym (length-with_mark n.marks d.mark) ∙ z));
  };
  wakes = λ v n a s. awakes v n s;
}

module _ (g : Network) (wired : IsWired g) where
  -- in every net of a run
  pub all_await : HasFewPorts g → (es : List _) (w : Net) → IsAfter g es w → (v : ℕ) → Awaits v (w.node v)
  all_await few es w h =
      run_by_steps g wired few (λ x. (v : ℕ) → Awaits v (x.node v)) (λ x y f i s. node_step g Awaits kept x y i s)
      (λ v. record { search = λ f. cc; halts = λ a z. absurd (a refl) })
      es w h

-- in every net of a graph's run
module _ (g : Shape) (w : Net) (n : IsNetOf g w) where
  pub net_awaits : (v : ℕ) → Awaits v (w.node v)
  net_awaits v = all_await (network_of g) (graph_wired g n.graph) (graph_few g n.graph) n.events w n.run v

  pub net_lives : (gh : Ghost) → Lives (network_of g) (scene w gh) → Living (network_of g) (scene w gh)
  net_lives gh lives = record {
    no_port = λ v is awake none. (net_awaits v).halts awake (ports_many ((formed g w n).nodes v) ∙ none);
    awaits = λ v is. (net_awaits v).search;
    links = lives;
  }
