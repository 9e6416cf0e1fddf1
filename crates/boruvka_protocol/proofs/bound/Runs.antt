-- Runs: what is paid is kept by every event of a run whose nets keep the invariant, so that no run sends more than the bound.
use Rattle.std.proofs.Common.{◌≡◌, ℕ, ◌≤◌, List, [], ◌∷◌, ◌++◌, length, refl, sym, subst, arith}
use Rattle.ghs_graph.specs.Graph.{Shape, IsGraph}
use Rattle.peer_network.specs.declared.event.Event.{Event}
use Rattle.peer_network.specs.Network.{network_of, At}
use Rattle.peer_network.proofs.lemmas.Wired.{IsWired}
use Rattle.peer_network.proofs.lemmas.Graphs.{graph_wired}
use Rattle.peer_machine.specs.Net.{Net, opening}
use Rattle.peer_machine.specs.Run.{IsNetOf}
use Rattle.peer_machine.specs.Steps.{Happens}
use Rattle.peer_machine.proofs.lemmas.Balance.{after_balanced}
use Rattle.peer_machine.proofs.lemmas.Runs.{run_keeps, after_more}
use Rattle.boruvka_node.specs.declared.message.Message.{Message}
use Rattle.boruvka_node.specs.declared.message.Message.TheVariants.{ChangeRoot}
use Rattle.boruvka_node.specs.declared.message.Phase.TheVariants.{Rest}
use Rattle.boruvka_node.specs.State.{State, degree}
use Rattle.boruvka_node.specs.Boruvka.{boruvka}
use Rattle.boruvka_protocol.specs.Bound.{floor_log2}
use Rattle.boruvka_protocol.specs.Laws.{SendsWithinBound, RunsAreShort}
use Rattle.boruvka_protocol.proofs.invariant.Whole.{Holds}
use Rattle.boruvka_protocol.proofs.every_run.Events.{events_are_few}
use Rattle.boruvka_protocol.proofs.bound.Logs.{floor_log2_is}
use Rattle.boruvka_protocol.proofs.bound.Calls.{passes, pass_waits}
use Rattle.boruvka_protocol.proofs.bound.Steps.{Stepped, stepped}
use Rattle.boruvka_protocol.proofs.bound.Charges.{Charges, charges_step, charges_opening}
use Rattle.boruvka_protocol.proofs.bound.Moved.{Moved, moved_step, moved_opening}
use Rattle.boruvka_protocol.proofs.bound.Within.{within}

-- each net of a run keeps the invariant
abbrev pub EachHolds : Type 0
EachHolds = (g : Shape) (w : Net State Message) → IsNetOf boruvka g w → Holds g w

-- a net of a run, and what is paid there
record Paid (g : Shape) (w : Net State Message) : Type 0 where
  net : IsNetOf boruvka g w
  charges : Charges (network_of g) w
  moved : Moved g w

module _ (each : EachHolds) (g : Shape) (ok : IsGraph g) where
  wired : IsWired (network_of g)
  wired = graph_wired g ok

  -- a ChangeRoot finds its node at rest
  rests : (w : Net State Message) → Holds g w → (v p : ℕ) (rest : List Message) → At (network_of g) v p → w.queue v p ≡ ChangeRoot ∷ rest →
      (w.node v).head.phase ≡ Rest
  rests w h v p rest at q =
      (pass_waits g.keys _ _ (w.queue v p) (h.fits.links v p at).calls (subst (λ x. 1 ≤ passes x) (sym q) (omega arith))).rest

  paid_event : (w w' : Net State Message) (e : Event) → Paid g w → Happens boruvka (network_of g) w e w' → Paid g w'
  paid_event w w' e i k = record {
    net = next;
    charges = charges_step (network_of g) w w' st.node st.outcome st.own st.taken st.step many i.charges;
    moved = moved_step g w w' (each g w i.net) (each g w' next) st.node st.outcome st.own st.taken st.step i.moved;
  }
    where
      next : IsNetOf boruvka g w'
      next = record { graph = ok; events = i.net.events ++ e ∷ []; run = after_more boruvka (network_of g) i.net.events e w w' i.net.run k }

      h : Holds g w
      h = each g w i.net

      st : Stepped (network_of g) w w'
      st = stepped (network_of g) wired w w' e h.fits.ground (rests w h) k

      many : degree (w.node st.node) ≡ length ((network_of g).ports st.node)
      many = (h.fits.ground.nodes st.node).ports

  start : Paid g (opening boruvka (network_of g))
  start = record {
    net = record { graph = ok; events = []; run = refl };
    charges = charges_opening (network_of g);
    moved = moved_opening g;
  }

  paid_after : (w : Net State Message) → IsNetOf boruvka g w → Paid g w
  paid_after w n = run_keeps boruvka (network_of g) (Paid g) paid_event n.events (opening boruvka (network_of g)) w start n.run

pub sends_within_bound : EachHolds → SendsWithinBound
sends_within_bound each g w n =
    let paid = paid_after each g n.graph w n in
    within g w (each g w n) (floor_log2 g.nodes) (floor_log2_is g.nodes n.graph.some) paid.charges paid.moved
    (after_balanced boruvka (network_of g) (graph_wired g n.graph) n.events w n.run)

pub runs_are_short : EachHolds → RunsAreShort
runs_are_short each g ok es r =
    let few = events_are_few g ok es r.0 r.1 in
    let sends = sends_within_bound each g r.0 (record { graph = ok; events = es; run = r.1 }) in
    omega (arith, few, sends)
