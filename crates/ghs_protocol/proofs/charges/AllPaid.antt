-- All that was sent is paid: of each kind, what levels and ports have paid adds up to it.
use Rattle.std.proofs.Common.{◌≡◌, ◌≢◌, ◌⊎◌, inl, inr, ℕ, zero, suc, ◌+◌, ◌-◌, ◌≤◌, ◌<◌, ◌==◌, ◌&&◌, not, true, false, Option, Some, None, List, [], ◌∷◌, length, get_or, cond, refl, sym, ◌∙◌, ap, ap₂, subst, arith, ⊎_elim, eq-eqb, ne_eqb, zero-add, if◌then◌else◌}
use Rattle.std.proofs.lemmas.Bool.{cases_eq}
use Rattle.ghs_graph.specs.Bound.{IsFloorLog2}
use Rattle.ghs_graph.proofs.lemmas.Logs.{floor_log2_is_one}
use Rattle.ghs_node.specs.declared.head.Head.{Head}
use Rattle.ghs_node.specs.declared.mark.Mark.{Mark}
use Rattle.ghs_node.specs.declared.mark.Mark.TheVariants.{Basic, Branch, Rejected}
use Rattle.ghs_node.specs.declared.message.Phase.TheVariants.{Find, Found, Sleeping}
use Rattle.ghs_node.specs.declared.message.Message.{Message}
use Rattle.ghs_node.specs.declared.delta.Delta.{Delta}
use Rattle.ghs_node.specs.declared.work.Work.TheVariants.{Wake, Deliver}
use Rattle.ghs_node.specs.Kind.{kind_of, place_of}
use Rattle.ghs_node.specs.NodeState.{NodeState, degree, key_at, mark_at, with_mark}
use Rattle.ghs_node.specs.Words.{is_at}
use Rattle.ghs_node.specs.Reaction.{Ending, Probing, Reporting, Waiting, answered, heard, last_sends, no_probe, passed_on, probe_after, reject_at, root_message, searching}
use Rattle.ghs_node.specs.Rows.{Accept_heard, Awake, AwakeRow, Closes, Connect_absorbed, Connect_merges, Connect_waits, Initiate_rests, Initiate_searches, Reject_heard, Report_halts, Report_heard, Report_moves_root, Report_passes, Report_waits, Reports, Root_moves, Row, Settles, Test_accepted, Test_rejected, Test_waits, Tests_cross, Waits, Wakes, Wakes_alone, Woken_accepts, Woken_connect_waits, Woken_merges, Woken_test_waits}
use Rattle.ghs_node.proofs.lemmas.{reaction_inverts}
use Rattle.peer_network.specs.declared.event.Event.{Event}
use Rattle.peer_network.specs.declared.event.Event.TheVariants as events
use Rattle.ghs_protocol.specs.Interleavings.{SendsArePaid}
use Rattle.peer_network.specs.Network.{Network, network_of, At, InNetwork}
use Rattle.ghs_protocol.specs.Net.{Net, opening, happens, one_if_consumed}
use Rattle.peer_network.specs.Events.{event_node}
use Rattle.ghs_protocol.specs.Run.{IsAfter}
use Rattle.ghs_protocol.specs.Ledger.{of_kind, IsBalanced}
use Rattle.peer_network.specs.Sums.{sum_below, sum_over_nodes, sum_over_ports}
use Rattle.ghs_protocol.specs.Nodes.{IsNodeOf}
use Rattle.ghs_protocol.specs.Steps.{Happens, Took, Woke, reacted}
use Rattle.ghs_protocol.specs.Payments.{AllIsPaid, accepts, added_up, calls, failed, no_accept_first, paid_by, paid_by_levels, paid_by_ports, port_pays, reports, risen, roots, testing, tests_out, then_count}
use Rattle.ghs_protocol.proofs.clauses.Scene.{Ghost, scene}
use Rattle.ghs_protocol.proofs.clauses.Changes.{rejected}
use Rattle.ghs_protocol.proofs.clauses.Wiring.{Ground}
use Rattle.ghs_protocol.proofs.clauses.Floors.{Sound}
use Rattle.ghs_protocol.proofs.clauses.Charges.{Charges, HasCharges}
use Rattle.ghs_protocol.proofs.lemmas.Balance.{after_balanced}
use Rattle.ghs_protocol.proofs.lemmas.Effects.{taken_consumed, taken_here, taken_sent, taken_there}
use Rattle.peer_network.proofs.lemmas.Graphs.{graph_few, graph_wired}
use Rattle.ghs_protocol.proofs.lemmas.Nodes.{ports_many}
use Rattle.peer_network.proofs.lemmas.Sums.{node_before, ports_none, ports_one, sum_none, sum_one, sum_same}
use Rattle.ghs_protocol.proofs.lemmas.Sends.{consumed_now, messages, node_here, node_there, sent_now}
use Rattle.ghs_protocol.proofs.lemmas.Steps.{event_by_steps}
use Rattle.ghs_protocol.proofs.lemmas.Woken.{asleep_or_not, awake_row, step_node}
use Rattle.ghs_protocol.proofs.lemmas.WellFormed.{IsWellFormed, opening_formed}
use Rattle.peer_network.proofs.lemmas.Wired.{HasFewPorts}
use Rattle.ghs_protocol.proofs.charges.Acts.{all_calls, kinds_append, nodes_one}
use Rattle.ghs_protocol.proofs.charges.Runs.{by_memory, charged, opening_has, stepped}
use Rattle.ghs_protocol.proofs.charges.Rows.{closes_probe, search_free}
use Rattle.ghs_protocol.proofs.charges.LevelsPay.{counted}
use Rattle.ghs_protocol.proofs.charges.Waiting.{level_most}
use Rattle.ghs_protocol.proofs.charges.PortsPay.{Taking, taking, accepted_one, first_only, probes_on, unprobed, taken_row}
use Rattle.ghs_protocol.proofs.rows.Read.{reject_marks}
use Rattle.ghs_protocol.proofs.charges.Taken.{next_basic}
use Rattle.ghs_protocol.proofs.tests.Links.{not_basic}
use Rattle.peer_network.proofs.lemmas.Updates.{put_same}
use Rattle.ghs_protocol.proofs.lemmas.Events.{taken_at}
use Rattle.ghs_protocol.proofs.acts.Grounds.{graph_ground}

-- Sums of sums over the events.

pays_none : (g : Network) (es : List Event) (w : Net) → added_up (λ w e x. 0) g es w ≡ 0
pays_none g [] w = refl
pays_none g (e ∷ es) w = go (λ x. pays_none g es x) (happens g w e)
  where
    go : ((x : Net) → added_up (λ w e x. 0) g es x ≡ 0) → (o : Option Net) → then_count o (λ x. 0 + added_up (λ w e x. 0) g es x) ≡ 0
    go ih None = refl
    go ih (Some x) = let z = ih x in omega (arith, z)

pays_both : (f h : Net → Event → Net → ℕ) (g : Network) (es : List Event) (w : Net) →
    added_up (λ w e x. f w e x + h w e x) g es w ≡ added_up f g es w + added_up h g es w
pays_both f h g [] w = refl
pays_both f h g (e ∷ es) w = go (λ x. pays_both f h g es x) (happens g w e)
  where
    go : ((x : Net) → added_up (λ w e x. f w e x + h w e x) g es x ≡ added_up f g es x + added_up h g es x) → (o : Option Net) →
        then_count o (λ x. f w e x + h w e x + added_up (λ w e x. f w e x + h w e x) g es x) ≡
        then_count o (λ x. f w e x + added_up f g es x) + then_count o (λ x. h w e x + added_up h g es x)
    go ih None = refl
    go ih (Some x) = let z = ih x in omega (arith, z)

-- a sum of what events add up is what they add up of the sum
pays_sum : (n : ℕ) (f : ℕ → Net → Event → Net → ℕ) (g : Network) (es : List Event) (w : Net) →
    sum_below n (λ i. added_up (f i) g es w) ≡ added_up (λ w e x. sum_below n (λ i. f i w e x)) g es w
pays_sum zero f g es w = sym (pays_none g es w)
pays_sum (suc n) f g es w =
    let a = pays_sum n f g es w in let b = pays_both (λ w e x. sum_below n (λ i. f i w e x)) (f n) g es w in omega (arith, a, b)

sum_single : (n j : ℕ) (f : ℕ → ℕ) → j < n → ((i : ℕ) → i ≢ j → f i ≡ 0) → sum_below n f ≡ f j
sum_single n j f lt none =
    let a = sum_one n j (λ i. 0) f lt (λ i ne. sym (none i ne)) in let b = sum_none n (λ i. 0) (λ i l. refl) in omega (arith, a, b)

-- What an event adds to a count it pays at one level of one node.

abbrev row_of : (Net → ℕ) → ℕ → ℕ → Net → Event → Net → ℕ
row_of m k v w e x = sum_below (suc k) (λ l. risen m v l w e x)

abbrev table_of : (Net → ℕ) → ℕ → Network → Net → Event → Net → ℕ
table_of m k g w e x = sum_over_nodes g (λ v. row_of m k v w e x)

row_other : (m : Net → ℕ) (k v : ℕ) (w : Net) (e : Event) (x : Net) → event_node e ≢ v → row_of m k v w e x ≡ 0
row_other m k v w e x ne =
    sum_none (suc k) (λ l. risen m v l w e x)
    (λ l lt. ap (λ b. if b && ((x.node v).head.level == l) then m x - m w else 0) (ne_eqb (event_node e) v ne))

row_own : (m : Net → ℕ) (k v : ℕ) (w : Net) (e : Event) (x : Net) → event_node e ≡ v → (x.node v).head.level ≤ k → row_of m k v w e x ≡ m x - m w
row_own m k v w e x own le =
    sum_single (suc k) (x.node v).head.level (λ l. risen m v l w e x) (omega (arith, le))
    (λ l ne. ap₂ (λ a b. if a && b then m x - m w else 0) (eq-eqb (event_node e) v own) (ne_eqb (x.node v).head.level l (λ z. ne (sym z))))
    ∙ ap₂ (λ a b. if a && b then m x - m w else 0) (eq-eqb (event_node e) v own) (eq-eqb (x.node v).head.level (x.node v).head.level refl)

table_is : (m : Net → ℕ) (k : ℕ) (g : Network) (w : Net) (e : Event) (x : Net) →
    InNetwork g (event_node e) →
    (x.node (event_node e)).head.level ≤ k →
    table_of m k g w e x ≡ m x - m w
table_is m k g w e x is le =
    let i = node_before (event_node e) is.some in
    let same = i.1 in
    let hi = is.node in
    sum_single g.count i.0 (λ i. row_of m k (suc i) w e x) (omega (arith, same, hi))
    (λ j ne. row_other m k (suc j) w e x (λ z. ne (omega (arith, z, same))))
    ∙ row_own m k (suc i.0) w e x same (subst (λ v. (x.node v).head.level ≤ k) same le)

levels_add : (m : Net → ℕ) (k : ℕ) (g : Network) (es : List Event) (w : Net) → paid_by_levels m g k es w ≡ added_up (table_of m k g) g es w
levels_add m k g es w =
    sum_same g.count (λ i. sum_below (suc k) (λ l. paid_by m g (suc i) l es w)) (λ i. added_up (row_of m k (suc i)) g es w)
    (λ i lt. pays_sum (suc k) (risen m (suc i)) g es w)
    ∙ pays_sum g.count (λ i. row_of m k (suc i)) g es w

ports_add_up : (g : Network) (es : List Event) (w : Net) →
    paid_by_ports g es w ≡ added_up (λ w e x. sum_over_ports g (λ v p. port_pays v p w e x)) g es w
ports_add_up g es w =
    sum_same g.count
    (λ i. sum_below (length (g.ports (suc i))) (λ p. added_up (port_pays (suc i) p) g es w))
    (λ i. added_up (λ w e x. sum_below (length (g.ports (suc i))) (λ p. port_pays (suc i) p w e x)) g es w)
    (λ i lt. pays_sum (length (g.ports (suc i))) (port_pays (suc i)) g es w)
    ∙ pays_sum g.count (λ i w e x. sum_below (length (g.ports (suc i))) (λ p. port_pays (suc i) p w e x)) g es w

-- What an event's node and its port are.

event_inside : {g : Network} {w x : Net} {e : Event} → Happens g w e x → InNetwork g (event_node e)
event_inside (Woke v d lo hi s r) = record { some = lo; node = hi }
event_inside (Took v p m ms d at q r) = record { some = at.some; node = at.node }

sent_grows : {g : Network} {w x : Net} {e : Event} → Happens g w e x → (j : ℕ) → w.sent j ≤ x.sent j
sent_grows {g} {w} (Woke v d lo hi s r) j = let z = sent_now g v d w j in omega (arith, z)
sent_grows {g} {w} (Took v p m ms d at q r) j = let z = taken_sent g v p m ms d w j in omega (arith, z)

consumed_grows : {g : Network} {w x : Net} {e : Event} → Happens g w e x → (j : ℕ) → w.consumed j ≤ x.consumed j
consumed_grows {g} {w} (Woke v d lo hi s r) j = let z = ap (λ (f : ℕ → ℕ). f j) (consumed_now g v d w) in omega (arith, z)
consumed_grows {g} {w} (Took v p m ms d at q r) j = let z = taken_consumed g v p m ms d w j in omega (arith, z)

-- Tests, row by row.

-- the Tests that a search's ending sends
abbrev probes_sent : Ending → ℕ
probes_sent (Probing p) = 1
probes_sent Reporting = 0
probes_sent Waiting = 0

ending_tests : (h : Head) (e : Ending) → of_kind 2 (messages (last_sends h e)) ≡ probes_sent e
ending_tests h (Probing p) = refl
ending_tests h Reporting = refl
ending_tests h Waiting = refl

ending_probes : (e : Ending) → testing (probe_after None e) ≡ probes_sent e
ending_probes (Probing p) = refl
ending_probes Reporting = refl
ending_probes Waiting = refl

closes_sends : (h : Head) (e : Ending) → Closes h e → probes_sent e ≡ 0
closes_sends h _ (Reports a b) = refl
closes_sends h _ (Waits a) = refl

root_no_test : (b l : ℕ) (m : Mark) → of_kind 2 (messages ((b, root_message m l) ∷ [])) ≡ 0
root_no_test b l Basic = refl
root_no_test b l Branch = refl
root_no_test b l Rejected = refl

-- a port that isn't tested next
not_next : (e : Ending) (p : ℕ) → ((q : ℕ) → e ≡ Probing q → q ≢ p) → is_at (probe_after None e) p ≡ false
not_next (Probing q) p ne = ne_eqb q p (ne q refl)
not_next Reporting p ne = refl
not_next Waiting p ne = refl

module _ (g : Network) (ground : Ground g) (k : ℕ) (log : IsFloorLog2 g.count k) where
  -- what port p of v pays for a Test that ends in this reaction, and the Accept that comes in
  abbrev fails : NodeState → ℕ → Message → Delta → ℕ
  fails n p m d = if is_at n.head.probe p && (not (is_at d.head.probe p) && no_accept_first (m ∷ [])) then 1 else 0

  abbrev hears : Message → Delta → ℕ
  hears m d = cond (place_of (kind_of m) == 3) (one_if_consumed d.fate) 0

  -- a Test that is sent is out, and one that was out was accepted or failed
  abbrev TestsTally : NodeState → ℕ → Message → Delta → Type 0
  TestsTally n p m d = of_kind 2 (messages d.sends) + testing n.head.probe ≡ hears m d + testing d.head.probe + fails n p m d

  module _ (v p : ℕ) (at : At g v p) (w : Net) (is : IsNodeOf g v (w.node v)) (gh : Ghost) (sound : Sound g (scene w gh))
      (charges : Charges g k gh.up w) (ms : List Message) where
    -- port p, which stops being probed, isn't tested next
    other_next : (e : Ending) →
        Settles (with_mark (w.node v).marks (reject_at (w.node v) p)) (no_probe (w.node v).head) e →
        is_at (probe_after None e) p ≡ false
    other_next e s = not_next e p (λ q z same. not_basic (mark_at (w.node v) p)
        (sym (put_same (λ i. mark_at (w.node v) i) p (rejected (mark_at (w.node v) p)))
        ∙ sym (ap (λ (f : ℕ → Mark). f p) (reject_marks (w.node v) p in_marks))
        ∙ subst
        (λ y. get_or (with_mark (w.node v).marks (reject_at (w.node v) p)) y Rejected ≡ Basic)
        same
        (next_basic (with_mark (w.node v).marks (reject_at (w.node v) p)) (no_probe (w.node v).head) e s q z)))
      where
        in_marks : p < degree (w.node v)
        in_marks = let lt = at.port in omega (arith, lt, ports_many is)

    -- a Test that ends, and not by an Accept
    failing : (e : Ending) →
        (w.node v).head.probe ≡ Some p →
        Settles (with_mark (w.node v).marks (reject_at (w.node v) p)) (no_probe (w.node v).head) e →
        of_kind 2 (messages (last_sends (no_probe (w.node v).head) e)) + testing (w.node v).head.probe ≡
        testing (probe_after None e) + (if is_at (w.node v).head.probe p && (not (is_at (probe_after None e) p) && true) then 1 else 0)
    failing e mine s =
        let a = ending_tests (no_probe (w.node v).head) e in
        let b = ending_probes e in
        let c = ap testing mine in
        let f = ap₂ {C = ℕ} (λ x y. if x && (not y && true) then 1 else 0) (ap (λ o. is_at o p) mine ∙ eq-eqb p p refl) (other_next e s) in
        omega (arith, a, b, c, f)

    -- one that is out stays out
    still : (m : Message) →
        ◌≡◌ {A = ℕ} (if is_at (w.node v).head.probe p && (not (is_at (w.node v).head.probe p) && no_accept_first (m ∷ [])) then 1 else 0) 0
    still m = probes_on (is_at (w.node v).head.probe p) (no_accept_first (m ∷ []))

    row_tests : (m : Message) (d : Delta) → w.queue v p ≡ m ∷ ms → AwakeRow (w.node v) p m d → TestsTally (w.node v) p m d
    row_tests m d q (Connect_absorbed lt few) = let z = still m in omega (arith, z)
    row_tests m d q (Connect_waits le basic) = let z = still m in omega (arith, z)
    row_tests m d q (Connect_merges le free lower) = let z = still m in omega (arith, z)
    row_tests m d q (Initiate_rests {l = l} {f = f} lt) =
        let z = still m in let a = all_calls 0 (w.node v).marks p l f Found 2 (λ e. omega (arith, e)) in omega (arith, z, a)
    row_tests m d q (Initiate_searches {l = l} {f = f} {e = e} lt few s) =
        let none = search_free g ground k log v p at w is gh sound charges ms l f q in
        let a = all_calls 0 (w.node v).marks p l f Find 2 (λ e. omega (arith, e)) in
        let b = kinds_append 2 (passed_on (w.node v) p l f Find) (last_sends (no_probe (searching (w.node v) p l f)) e) in
        let c = ending_tests (no_probe (searching (w.node v) p l f)) e in
        let x = ending_probes e in
        let t = ap testing none in
        let z = unprobed (w.node v).head.probe p (not (is_at d.head.probe p) && true) none in
        omega (arith, a, b, c, x, t, z)
    row_tests m d q (Test_waits lt) = let z = still m in omega (arith, z)
    row_tests m d q (Test_accepted le other) = let z = still m in omega (arith, z)
    row_tests m d q (Test_rejected le same free) = let z = still m in omega (arith, z)
    row_tests m d q (Tests_cross {e = e} le same mine s) = let z = failing e mine s in omega (arith, z)
    row_tests m d q (Accept_heard {e = e} mine c) =
        let a = ending_tests (answered (w.node v).head p (Some (key_at (w.node v) p))) e in
        let b = closes_sends (answered (w.node v).head p (Some (key_at (w.node v) p))) e c in
        let x = ending_probes e in
        let t = ap testing mine in
        let z = accepted_one (is_at (w.node v).head.probe p) (is_at d.head.probe p) in
        omega (arith, a, b, x, t, z)
    row_tests m d q (Reject_heard {e = e} mine s) = let z = failing e mine s in omega (arith, z)
    row_tests m d q (Report_heard {w = r} {e = e} c away count s) =
        let a = ending_tests (heard (w.node v).head c p r) e in
        let b = closes_sends (heard (w.node v).head c p r) e s in
        let o = closes_probe (heard (w.node v).head c p r) e (w.node v).head.probe s in
        let t = ap testing o in
        let z = ap (λ o. if is_at (w.node v).head.probe p && (not (is_at o p) && true) then 1 else 0) o ∙ still m in
        omega (arith, a, b, t, z)
    row_tests m d q (Report_waits way finds) = let z = still m in omega (arith, z)
    row_tests m d q (Report_moves_root b y way found best less) =
        let a = root_no_test b (w.node v).head.level (mark_at (w.node v) b) in let z = still m in omega (arith, a, z)
    row_tests m d q (Report_halts way found best) = let z = still m in omega (arith, z)
    row_tests m d q (Report_passes way found b s) = let z = still m in omega (arith, z)
    row_tests m d q (Root_moves b y best) =
        let a = root_no_test b (w.node v).head.level (mark_at (w.node v) b) in let z = still m in omega (arith, a, z)

  -- who sleeps has no Test out, and sends none on waking
  woken_tests : (n : NodeState) (p : ℕ) (m : Message) (d : Delta) →
      n.head.probe ≡ None →
      n.head.phase ≡ Sleeping →
      Row n (Deliver p m) d →
      TestsTally n p m d
  woken_tests n p m d none s (Woken_merges a b) = let z = probes_on (is_at n.head.probe p) (no_accept_first (m ∷ [])) in omega (arith, z)
  woken_tests n p m d none s (Woken_connect_waits a b c) = let z = probes_on (is_at n.head.probe p) (no_accept_first (m ∷ [])) in omega (arith, z)
  woken_tests n p m d none s (Woken_test_waits a b c) = let z = probes_on (is_at n.head.probe p) (no_accept_first (m ∷ [])) in omega (arith, z)
  woken_tests n p m d none s (Woken_accepts a b) = let z = probes_on (is_at n.head.probe p) (no_accept_first (m ∷ [])) in omega (arith, z)
  woken_tests n p m d none s (Awake up lt row) = absurd (up s)

  wake_tests : (n : NodeState) (d : Delta) → Row n Wake d → of_kind 2 (messages d.sends) + testing n.head.probe ≡ testing d.head.probe
  wake_tests n d (Wakes s lt) = omega arith
  wake_tests n d (Wakes_alone s lt) = omega arith

  -- The sums, event by event.

  -- what is known of a net, and what has been added up
  record Tallied (total : Net → ℕ → Type 0) (w : Net) (t : ℕ) : Type 0 where
    has : HasCharges g k w
    counts : total w t

  has_more : (w x : Net) (e : Event) → IsWellFormed g w → HasCharges g k w → Happens g w e x → HasCharges g k x
  has_more w x e f h happened =
      event_by_steps g ground.wired (HasCharges g k)
      (λ w w' f i s. charged g ground k log w w' i (step_node s) (stepped g ground k log w w' f.nodes i s))
      w x e f h happened

  low : (x : Net) → HasCharges g k x → (v : ℕ) → InNetwork g v → (x.node v).head.level ≤ k
  low x h v is = level_most g ground.wired k log x h.sound.ghost h.sound.holds.first v is

  -- a count that never falls, and is 0 at first
  module _ (few : HasFewPorts g) (es : List Event) (w : Net) (after : IsAfter g es w) where
    levels_have_paid : (m : Net → ℕ) →
        ((w x : Net) (e : Event) → Happens g w e x → m w ≤ m x) →
        m (opening g) ≡ 0 →
        m w ≡ paid_by_levels m g k es (opening g)
    levels_have_paid m grows none =
        sym (counted g ground.wired (table_of m k g) (Tallied (λ w t. t ≡ m w)) each es (opening g) w 0 (opening_formed g few)
        (record { has = opening_has g ground k log; counts = sym none }) after).counts
        ∙ zero-add (added_up (table_of m k g) g es (opening g)) ∙ sym (levels_add m k g es (opening g))
      where
        each : (w x : Net) (e : Event) (t : ℕ) →
            IsWellFormed g w →
            Tallied (λ w t. t ≡ m w) w t →
            Happens g w e x →
            Tallied (λ w t. t ≡ m w) x (t + table_of m k g w e x)
        each w x e t f h happened =
            let next = has_more w x e f h.has happened in
            let is = event_inside happened in
            let a = table_is m k g w e x is (low x next (event_node e) is) in
            let b = grows w x e happened in
            let c = h.counts in
            record { has = next; counts = omega (arith, a, b, c) }

    -- Tests and Rejects
    abbrev TestsSo : Net → ℕ → Type 0
    TestsSo w t = w.sent 2 + w.sent 4 ≡ w.consumed 3 + tests_out g w + t

    abbrev all_ports : Net → Event → Net → ℕ
    all_ports w e x = sum_over_ports g (λ v p. port_pays v p w e x)

    -- the nodes' Tests, one node having changed
    out_one : (w x : Net) (v : ℕ) →
        InNetwork g v →
        ((u : ℕ) → u ≢ v → x.node u ≡ w.node u) →
        tests_out g x + testing (w.node v).head.probe ≡ tests_out g w + testing (x.node v).head.probe
    out_one w x v is there =
        nodes_one g (λ u. testing (w.node u).head.probe) (λ u. testing (x.node u).head.probe) v is.some is.node
        (λ u ne. ap (λ (n : NodeState). testing n.head.probe) (sym (there u ne)))

    take_counts : (w x : Net) (v p : ℕ) (t : ℕ) →
        At g v p →
        IsWellFormed g w →
        HasCharges g k w →
        Happens g w (events.Take v p) x →
        TestsSo w t →
        TestsSo x (t + all_ports w (events.Take v p) x)
    take_counts w x v p t at f h happened counts =
        let a = tally (asleep_or_not (w.node v).head.phase) in
        let b = sent 2 in
        let c = sent 4 in
        let d = consumed in
        let e = out_one w x v inside there in
        let n = ap (λ (y : Head). testing y.probe) here in
        let y = pays in
        let z = fails_so in
        omega (arith, a, b, c, d, e, n, y, z, counts)
      where
        took : Taking g w v p x
        took = taking happened

        inside : InNetwork g v
        inside = record { some = at.some; node = at.node }

        here : (x.node v).head ≡ took.delta.head
        here = ap (λ (y : Net). (y.node v).head) took.is ∙ ap (λ (n : NodeState). n.head) (taken_here g v p took.message took.others took.delta w)

        there : (u : ℕ) → u ≢ v → x.node u ≡ w.node u
        there u ne = ap (λ (y : Net). y.node u) took.is ∙ taken_there g v p took.message took.others took.delta w u ne

        sent : (j : ℕ) → x.sent j ≡ w.sent j + of_kind j (messages took.delta.sends)
        sent j = ap (λ (y : Net). y.sent j) took.is ∙ taken_sent g v p took.message took.others took.delta w j

        consumed : x.consumed 3 ≡ w.consumed 3 + hears took.message took.delta
        consumed = ap (λ (y : Net). y.consumed 3) took.is ∙ taken_consumed g v p took.message took.others took.delta w 3

        tally : ((w.node v).head.phase ≡ Sleeping) ⊎ ((w.node v).head.phase ≢ Sleeping) → TestsTally (w.node v) p took.message took.delta
        tally (inl s) = woken_tests (w.node v) p took.message took.delta ((h.sound.holds.first.nodes v inside).untouched s).probe s
            (taken_row g ground.wired w x v p at f took)
        tally (inr up) =
            row_tests v p at w (f.nodes v) h.sound.ghost h.sound.holds (by_memory g ground k log h.sound h.charges) took.others took.message
            took.delta took.waits (awake_row up (taken_row g ground.wired w x v p at f took))

        fails_so : failed v p w x ≡ fails (w.node v) p took.message took.delta
        fails_so =
            ap₂
            (λ (y : Head) b. if is_at (w.node v).head.probe p && (not (is_at y.probe p) && b) then 1 else 0)
            here (ap no_accept_first took.waits ∙ first_only took.message took.others)

        -- only this port pays
        pays : all_ports w (events.Take v p) x ≡ (x.sent 4 - w.sent 4) + failed v p w x
        pays =
            let a = ports_one g (λ u q. 0) (λ u q. port_pays u q w (events.Take v p) x) v p at (λ u q ne. sym (elsewhere u q ne)) in
            let b = ports_none g (λ u q. 0) (λ u q. refl) in
            let c : port_pays v p w (events.Take v p) x ≡ (x.sent 4 - w.sent 4) + failed v p w x =
            ap₂ (λ a b. if a && b then (x.sent 4 - w.sent 4) + failed v p w x else 0) (eq-eqb v v refl) (eq-eqb p p refl) in
            omega (arith, a, b, c)
          where
            elsewhere : (u q : ℕ) → ((u ≡ v) × (q ≡ p) → ⊥) → port_pays u q w (events.Take v p) x ≡ 0
            elsewhere u q ne = ⊎_elim
                (λ (e : u ≡ v).
                ap₂ (λ a b. if a && b then (x.sent 4 - w.sent 4) + failed u q w x else 0) (eq-eqb v u (sym e)) (ne_eqb p q (λ z. ne (e, sym z))))
                (λ ne'. ap (λ a. if a && (p == q) then (x.sent 4 - w.sent 4) + failed u q w x else 0) (ne_eqb v u (λ z. ne' (sym z))))
                (cases_eq u v)

    wake_counts : (w : Net) (v : ℕ) (x : Net) (t : ℕ) → Happens g w (events.Wake v) x → TestsSo w t → TestsSo x (t + all_ports w (events.Wake v) x)
    wake_counts w v _ t (Woke u d lo hi s r) counts =
        let row = reaction_inverts (w.node u) Wake d tt r in
        let a = wake_tests (w.node u) d row in
        let b = sent_now g u d w 2 in
        let c = sent_now g u d w 4 in
        let y = wake_kind 4 row in
        let z = ap (λ (f : ℕ → ℕ). f 3) (consumed_now g u d w) in
        let e = out_one w (reacted g u d w) u (record { some = lo; node = hi }) (node_there g u d w) in
        let n = ap (λ (n : NodeState). testing n.head.probe) (node_here g u d w) in
        let none = ports_none g (λ v p. port_pays v p w (events.Wake u) (reacted g u d w)) (λ v p. refl) in
        omega (arith, a, b, c, y, z, e, n, none, counts)
      where
        wake_kind : (j : ℕ) {n : NodeState} {d : Delta} → Row n Wake d → of_kind 4 (messages d.sends) ≡ 0
        wake_kind j (Wakes s lt) = refl
        wake_kind j (Wakes_alone s e) = refl

    tests_have_paid : w.sent 2 + w.sent 4 ≡ w.consumed 3 + tests_out g w + paid_by_ports g es (opening g)
    tests_have_paid =
        let z = (counted g ground.wired all_ports (Tallied TestsSo) each es (opening g) w 0 (opening_formed g few)
        (record { has = opening_has g ground k log; counts = (let n = sum_none g.count (λ i. 0) (λ i lt. refl) in omega (arith, n)) })
        after).counts in
        let y = ports_add_up g es (opening g) in
        omega (arith, z, y)
      where
        each : (w x : Net) (e : Event) (t : ℕ) → IsWellFormed g w → Tallied TestsSo w t → Happens g w e x → Tallied TestsSo x (t + all_ports w e x)
        each w x (events.Wake v) t f h happened =
            record { has = has_more w x (events.Wake v) f h.has happened; counts = wake_counts w v x t happened h.counts }
        each w x (events.Take v p) t f h happened = record {
          has = has_more w x (events.Take v p) f h.has happened;
          counts = take_counts w x v p t (taken_at happened) f h.has happened h.counts;
        }

    pub all_paid : IsBalanced g w → AllIsPaid g k es w
    all_paid balanced =
        let accepted = levels_have_paid accepts (λ w x e h. consumed_grows h 3) refl in
        record {
          root = levels_have_paid roots (λ w x e h. let a = sent_grows h 0 in let b = sent_grows h 6 in omega (arith, a, b)) refl;
          report = levels_have_paid reports (λ w x e h. sent_grows h 5) refl;
          call = let a = levels_have_paid calls (λ w x e h. consumed_grows h 1) refl in let b = balanced 1 in omega (arith, a, b);
          accept = let b = balanced 3 in omega (arith, accepted, b);
          test = let t = tests_have_paid in omega (arith, accepted, t);
        }

pub sends_are_paid : SendsArePaid
sends_are_paid g es w ok after =
    let top = floor_log2_is_one g.nodes ok.some in (
      top.0,
      top.1,
      all_paid (network_of g) (graph_ground g ok) top.0 top.1 (graph_few g ok) es w after
          (after_balanced (network_of g) (graph_wired g ok) (graph_few g ok) es w after),
    )
