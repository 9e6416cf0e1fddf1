-- In every net of a run the nodes are nodes, levels are levels, and nothing waits where no port is.
use Rattle.std.proofs.Common.{◌≡◌, ℕ, zero, suc, ◌≤◌, List, length, replicate, refl, sym, ◌∙◌, subst, arith, Some, []}
use Rattle.std.specs.List.{All}
use Rattle.std.proofs.lemmas.List.{length-map, length-replicate}
use Rattle.std.proofs.lemmas.List.Elements.{All-nil, All-cons}
use Rattle.ghs_graph.specs.declared.port.Port.{Port}
use Rattle.ghs_node.specs.declared.mark.Mark.{Mark}
use Rattle.ghs_node.specs.declared.mark.Mark.TheVariants.{Basic}
use Rattle.ghs_node.specs.declared.message.Message.{Message}
use Rattle.ghs_node.specs.declared.delta.Delta.{Delta}
use Rattle.ghs_node.specs.declared.work.Work.{Work}
use Rattle.ghs_node.specs.declared.work.Work.TheVariants.{Wake, Deliver}
use Rattle.ghs_node.specs.NodeState.{NodeState, sleeper, IsNode}
use Rattle.ghs_node.specs.Reaction.{reaction, after}
use Rattle.ghs_node.specs.Rows.{Row}
use Rattle.ghs_node.specs.Laws.{HasLevel, WorkHasLevel}
use Rattle.ghs_node.proofs.lemmas.{reaction_inverts, row_kept, row_ported, row_leveled}
use Rattle.peer_network.specs.declared.event.Event.{Event}
use Rattle.peer_network.specs.Network.{Network, far, far_port, At}
use Rattle.peer_network.proofs.lemmas.Wired.{IsWired, HasFewPorts}
use Rattle.ghs_protocol.specs.Net.{Net, opening, change, take_first}
use Rattle.ghs_protocol.specs.Run.{run, IsAfter}
use Rattle.ghs_protocol.specs.Nodes.{IsNodeOf}
use Rattle.ghs_protocol.specs.Steps.{Happens, Woke, Took}
use Rattle.ghs_protocol.proofs.lemmas.Nodes.{ports_many, node_kept}
use Rattle.ghs_protocol.proofs.lemmas.Runs.{run_keeps}
use Rattle.ghs_protocol.proofs.lemmas.Queues.{all_first, taken_all, sent_all, taken_elsewhere, sent_elsewhere}

-- all nodes are the network's
abbrev pub AreNodes : Network → Net → Type 0
AreNodes g w = (v : ℕ) → IsNodeOf g v (w.node v)

-- The nodes are nodes, the levels in the messages that wait are levels, and where no port is nothing waits.
pub record IsWellFormed (g : Network) (w : Net) : Type 0 where
  pub nodes : AreNodes g w
  pub levels : (v p : ℕ) → All HasLevel (w.queue v p)
  pub elsewhere : (v p : ℕ) → (At g v p → ⊥) → w.queue v p ≡ []

replicate_all : (k : ℕ) → All (λ (m : Mark). m ≡ Basic) (replicate k Basic)
replicate_all zero = All-nil (λ (m : Mark). m ≡ Basic)
replicate_all (suc k) = All-cons (λ (m : Mark). m ≡ Basic) Basic (replicate k Basic) refl (replicate_all k)

-- the opening node is a node
pub sleeper_is : (v : ℕ) (ps : List Port) → length ps ≤ 8388608 → IsNode (sleeper v ps)
sleeper_is v ps few = record {
  ports = length-replicate (length ps) Basic ∙ sym (length-map ps _);
  few = omega (arith, few, length-replicate (length ps) Basic);
  level = omega arith;
  unnamed = (λ x. refl, λ x. refl);
  new = λ x. (refl, refl, refl, refl, λ y. cc);
  asleep = λ x. (refl, replicate_all (length ps));
  in_branch = tt;
  best = tt;
  probe = tt;
  find_count = omega arith;
}

pub opening_formed : (g : Network) → HasFewPorts g → IsWellFormed g (opening g)
opening_formed g few = record {
  nodes = λ v. record { number = refl; keys = refl; node = sleeper_is v (g.ports v) (few v) };
  levels = λ v p. All-nil HasLevel;
  elsewhere = λ v p off. refl;
}

module _ (g : Network) (wired : IsWired g) where
  -- the ports to which sends go
  pub sends_arrive : (v : ℕ) (n : NodeState) (k : Work) (d : Delta) → 1 ≤ v → v ≤ g.count → IsNodeOf g v n → Row n k d →
      All (λ (s : ℕ × Message). At g (far g v s.0) (far_port g v s.0)) d.sends
  sends_arrive v n k d lo hi i row a x lt =
      wired.there v _ (record { some = lo; node = hi; port = let y = row_ported n k d i.node row a x lt in omega (arith, y, ports_many i) })

  -- a node that does something stays one
  pub node_stays : (v : ℕ) (n : NodeState) (k : Work) (d : Delta) → IsNodeOf g v n → WorkHasLevel k → Row n k d → IsNodeOf g v (after n d)
  node_stays v n k d i l row = record { number = i.number; keys = i.keys; node = row_kept n k d i.node l row }

  -- the row of the work that an event brings
  pub event_row : (v : ℕ) (n : NodeState) (p : ℕ) (m : Message) (d : Delta) → At g v p → IsNodeOf g v n →
      reaction n (Deliver p m) ≡ Some d → Row n (Deliver p m) d
  event_row v n p m d at i r = reaction_inverts n (Deliver p m) d (omega (arith, at.port, ports_many i)) r

  pub event_formed : (w w' : Net) (e : Event) → IsWellFormed g w → Happens g w e w' → IsWellFormed g w'
  event_formed w _ _ f (Woke v d lo hi s r) = record {
    nodes = node_kept g v d w w refl (IsNodeOf g) f.nodes (node_stays v (w.node v) Wake d (f.nodes v) tt row);
    levels = sent_all HasLevel g v d.sends (change v d w) (row_leveled (w.node v) Wake d (f.nodes v).node tt row) f.levels;
    elsewhere = sent_elsewhere g v d.sends (change v d w) (sends_arrive v (w.node v) Wake d lo hi (f.nodes v) row) f.elsewhere;
  }
    where
      row : Row (w.node v) Wake d
      row = reaction_inverts (w.node v) Wake d tt r
  event_formed w _ _ f (Took v p m ms d at q r) = record {
    nodes = node_kept g v d w w1 refl (IsNodeOf g) f.nodes (node_stays v (w.node v) (Deliver p m) d (f.nodes v) level row);
    levels =
        sent_all HasLevel g v d.sends (change v d w1) (row_leveled (w.node v) (Deliver p m) d (f.nodes v).node level row)
        (taken_all HasLevel d.fate v p m ms w q f.levels);
    elsewhere =
        sent_elsewhere g v d.sends (change v d w1) (sends_arrive v (w.node v) (Deliver p m) d at.some at.node (f.nodes v) row)
        (taken_elsewhere g d.fate v p m ms w at f.elsewhere);
  }
    where
      w1 : Net
      w1 = take_first d.fate v p m ms w

      level : HasLevel m
      level = all_first HasLevel m ms (subst (All HasLevel) q (f.levels v p))

      row : Row (w.node v) (Deliver p m) d
      row = event_row v (w.node v) p m d at (f.nodes v) r

  pub run_formed : (es : List Event) (w w' : Net) → IsWellFormed g w → run g es w ≡ Some w' → IsWellFormed g w'
  run_formed es w w' f h = run_keeps g (IsWellFormed g) event_formed es w w' f h

  -- every net of a run
  pub after_formed : HasFewPorts g → (es : List Event) (w : Net) → IsAfter g es w → IsWellFormed g w
  after_formed few es w h = run_formed es (opening g) w (opening_formed g few) h
