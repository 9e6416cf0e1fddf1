-- How many messages of each kind a net may have sent, where it keeps the invariant and what is paid.
use Rattle.std.proofs.Common.{◌≡◌, ◌≢◌, ℕ, suc, ◌+◌, ◌*◌, ◌<◌, ◌≤◌, length, ap, subst, arith, ⊎_elim}
use Rattle.std.proofs.lemmas.Bool.{cases_Bool}
use Rattle.std.proofs.Math.Nat.{mul_assoc, mul-suc}
use Rattle.ghs_graph.specs.declared.key.Key.{Key}
use Rattle.ghs_graph.specs.Bound.{IsFloorLog2}
use Rattle.ghs_graph.specs.Graph.{Shape}
use Rattle.ghs_graph.proofs.lemmas.Joining.{joined_back}
use Rattle.boruvka_protocol.specs.Levels.{IsOfLevel, InClass}
use Rattle.boruvka_protocol.proofs.lemmas.Sizes.{levels_are_few}
use Rattle.boruvka_protocol.proofs.lemmas.WaysUp.{level_at}
use Rattle.peer_network.specs.Network.{network_of, At, InNetwork, port_at, far, far_port}
use Rattle.peer_network.specs.Sums.{sum_below, sum_over_nodes}
use Rattle.peer_network.proofs.lemmas.Wires.{at_in}
use Rattle.peer_network.proofs.lemmas.Graphs.{graph_wired, port_ends, twice_links}
use Rattle.peer_network.proofs.lemmas.Sums.{ports_add, sum_add}
use Rattle.peer_machine.specs.Net.{Net}
use Rattle.peer_machine.specs.Ledger.{of_kind, IsBalanced, in_all}
use Rattle.boruvka_node.specs.declared.message.Message.{Message}
use Rattle.boruvka_node.specs.declared.message.Phase.TheVariants.{Sleeping}
use Rattle.boruvka_node.specs.State.{State}
use Rattle.boruvka_node.specs.Words.{is_sleeping}
use Rattle.boruvka_node.specs.Boruvka.{boruvka}
use Rattle.boruvka_protocol.proofs.invariant.Sides.{at_port, side_of, far_side_of}
use Rattle.boruvka_protocol.proofs.invariant.Whole.{Holds}
use Rattle.boruvka_protocol.proofs.every_run.Ground.{sleeper_level}
use Rattle.boruvka_protocol.proofs.rows.Grows.{sleeping_tells}
use Rattle.boruvka_protocol.proofs.rows.Leaving.{joined_ends}
use Rattle.boruvka_protocol.proofs.bound.Sums.{sum_of_one, nodes_bounded, ports_bounded}
use Rattle.boruvka_protocol.proofs.levels.OneWay.{one_port_up}
use Rattle.boruvka_protocol.proofs.bound.Calls.{calls, names_counted, Call, call_waits, one_waits}
use Rattle.boruvka_protocol.proofs.bound.Charges.{level_of, heard_of, Charges}
use Rattle.boruvka_protocol.proofs.bound.Moved.{Moved}

module _ (g : Shape) (w : Net State Message) (h : Holds g w) (k : ℕ) (log : IsFloorLog2 g.nodes k) (c : Charges (network_of g) w) (m : Moved g w)
    (balanced : IsBalanced boruvka (network_of g) w) where
  -- no node is above the last level
  awake_most : (v : ℕ) → InNetwork (network_of g) v → (w.node v).head.phase ≢ Sleeping → level_of w v ≤ k
  awake_most v here up = levels_are_few g h.graph (level_of w v) v k here.some here.node (h.fits.nodes v here up).class log

  level_most : (v : ℕ) → InNetwork (network_of g) v → level_of w v ≤ k
  level_most v here = ⊎_elim
      (λ s. let z = sleeper_level h.fits.ground v ((sleeping_tells _).0 s) in omega (arith, z))
      (λ up. awake_most v here ((sleeping_tells _).1 up))
      (cases_Bool (is_sleeping (w.node v).head.phase))

  -- Names: of each direction of a link no more than levels of the far end
  told_most : (v p : ℕ) → At (network_of g) v p → heard_of w v p + of_kind boruvka 2 (w.queue v p) ≤ k
  told_most v p at =
      let told = (h.fits.links v p at).names.all.at_most in
      let there = (graph_wired g h.graph).there v p at in
      let most = level_most (far (network_of g) v p) (at_in there) in
      omega (arith, told, most, names_counted (w.queue v p))

  all_names : w.sent 2 ≤ 2 * (length g.keys * k)
  all_names =
      let each = ports_bounded (network_of g) k (λ v p. heard_of w v p + of_kind boruvka 2 (w.queue v p)) told_most in
      let both = ports_add (network_of g) (heard_of w) (λ v p. of_kind boruvka 2 (w.queue v p)) in
      let twice : sum_over_nodes (network_of g) (λ v. length ((network_of g).ports v)) * k ≡ 2 * length g.keys * k =
      ap (λ x. x * k) (twice_links g h.graph) in
      let b = balanced 2 in
      omega (arith, each, both, twice, b, c.names, mul_assoc 2 (length g.keys) k)

  -- Initiates: one waits at a node at most, and then its level can still rise
  module _ (v : ℕ) where
    abbrev key_of : ℕ → Key
    key_of p = (port_at (network_of g) v p).key

    call_at : (p : ℕ) → At (network_of g) v p → 1 ≤ calls (w.queue v p) →
        Call g.keys (side_of (network_of g) v p (at_port (w.node v) p))
        (far_side_of (network_of g) v p (at_port (w.node (far (network_of g) v p)) (far_port (network_of g) v p)))
    call_at p at lt = call_waits g.keys _ _ (w.queue v p) (h.fits.links v p at).calls lt

    -- the caller, a level above
    caller_class : (p : ℕ) → At (network_of g) v p → 1 ≤ calls (w.queue v p) →
        (suc (level_of w v) ≤ k) × IsOfLevel g.keys (suc (level_of w v)) v
    caller_class p at lt =
        let u = far (network_of g) v p in
        let call = call_at p at lt in
        let there = at_in ((graph_wired g h.graph).there v p at) in
        let up = (sleeping_tells _).1 (ap is_sleeping call.fits.sender_search) in
        let most = awake_most u there up in
        let class : IsOfLevel g.keys (suc (level_of w v)) u =
        subst (λ l. IsOfLevel g.keys l u) call.fits.sender_level (h.fits.nodes u there up).class in
        let way : InClass g.keys (suc (level_of w v)) v u = joined_ends v u (key_of p) (port_ends g h.graph v p at) call.fits.up.up.link in
        (omega (arith, most, call.fits.sender_level), level_at g.keys (suc (level_of w v)) u v (joined_back way) class)

    calls_few : InNetwork (network_of g) v → sum_below (length ((network_of g).ports v)) (λ p. calls (w.queue v p)) + level_of w v ≤ k
    calls_few here = sum_of_one (length ((network_of g).ports v)) (level_of w v) k (λ p. calls (w.queue v p))
        (λ p lt some.
        let one = one_waits g.keys _ _ (w.queue v p) (h.fits.links v p (at p lt)).calls in
        (omega (arith, one), (caller_class p (at p lt) some).0))
        (λ p q lt lt' some some'.
        one_port_up g h.graph (suc (level_of w v)) v p q (caller_class p (at p lt) some).1 (at p lt) (at q lt')
        (call_at p (at p lt) some).fits.up (call_at q (at q lt') some').fits.up)
        (level_most v here)
      where
        at : (p : ℕ) → p < length ((network_of g).ports v) → At (network_of g) v p
        at p lt = record { some = here.some; node = here.node; port = lt }

  all_calls : w.sent 1 ≤ g.nodes * k
  all_calls =
      let each = nodes_bounded (network_of g) k
      (λ v. sum_below (length ((network_of g).ports v)) (λ p. calls (w.queue v p)) + level_of w v) (λ v here. calls_few v here) in
      let both = sum_add g.nodes
      (λ i. sum_below (length ((network_of g).ports (suc i))) (λ p. calls (w.queue (suc i) p))) (λ i. level_of w (suc i)) in
      let b = balanced 1 in
      omega (arith, each, both, b, c.calls)

  -- Reports, Connects and ChangeRoots
  all_reports : w.sent 3 ≤ g.nodes * k
  all_reports = let each = nodes_bounded (network_of g) k (level_of w) level_most in omega (arith, each, c.reports)

  all_roots : w.sent 0 + w.sent 4 ≤ g.nodes * k + g.nodes
  all_roots =
      let each = nodes_bounded (network_of g) (suc k) (λ v. level_of w v + m.moved v)
      (λ v here. let a = level_most v here in let b = m.few v in omega (arith, a, b)) in
      omega (arith, each, m.paid, mul-suc g.nodes k)

  pub within : in_all boruvka w.sent ≤ 2 * (length g.keys * k) + 3 * (g.nodes * k) + g.nodes
  within = omega (arith, all_names, all_calls, all_reports, all_roots)
