-- What a schedule may rely on.
use Rattle.std.proofs.Common.{◌≡◌, ◌≢◌, ℕ, zero, suc, ◌<◌, ◌≤◌, ◌+◌, ◌-◌, ◌*◌, Bool, true, ◌&&◌, Some, List, [], ◌∷◌, ◌++◌, length, refl, sym, ◌∙◌, ap, subst, ⊎_elim, ◌⊎◌, inl, inr, arith, length-append, append_assoc, append-nil}
use Rattle.std.specs.List.{All}
use Rattle.std.proofs.lemmas.Bool.{and_parts, and_from, both_ways, cases_eq, cases_Bool}
use Rattle.std.proofs.lemmas.Option.{same_Some}
use Rattle.std.proofs.lemmas.List.Elements.{All-nil, All-cons, All-append}
use Rattle.ghs_graph.specs.Graph.{Shape, IsGraph}
use Rattle.ghs_graph.specs.Links.{Joined, links}
use Rattle.ghs_graph.proofs.lemmas.Joining.{joined_then}
use Rattle.ghs_node.specs.declared.message.Message.{Message}
use Rattle.ghs_node.specs.declared.message.Phase.TheVariants.{Sleeping}
use Rattle.ghs_node.specs.declared.delta.Fate.TheVariants.{Consumed, Requeued}
use Rattle.ghs_node.specs.declared.delta.Fate.{Fate}
use Rattle.ghs_node.specs.declared.delta.Delta.{Delta}
use Rattle.ghs_node.specs.declared.work.Work.TheVariants.{Wake, Deliver}
use Rattle.ghs_node.specs.NodeState.{NodeState}
use Rattle.ghs_node.specs.Reaction.{reaction}
use Rattle.ghs_node.specs.Words.{Outgoing, is_sleeping}
use Rattle.ghs_node.proofs.lemmas.{reaction_inverts, row_awake}
use Rattle.peer_network.specs.declared.event.Event.{Event}
use Rattle.peer_network.specs.declared.event.Event.TheVariants as events
use Rattle.peer_network.specs.Network.{Network, network_of, At, far, far_port, is_node, is_port}
use Rattle.ghs_protocol.specs.Net.{Net, happens, is_lawful, is_lawful_under, is_waiting, send, send_all, change}
use Rattle.peer_network.specs.Events.{event_node, MayWake}
use Rattle.ghs_protocol.specs.Run.{run}
use Rattle.ghs_protocol.specs.Ledger.{in_all}
use Rattle.ghs_protocol.specs.Marks.{HasHalted, HasEnded, Leads}
use Rattle.ghs_protocol.specs.Steps.{Happens, Woke, Took, taken, reacted, waking}
use Rattle.ghs_protocol.specs.Halting.{Reacts, By_waking, By_taking}
use Rattle.ghs_protocol.specs.Laws.{IsNetOf}
use Rattle.ghs_protocol.specs.Living.{AnyLink, Waits, GoesOn, Finish, IsTake}
use Rattle.ghs_protocol.specs.Schedules.{OthersLeaveAlone, NothingIsReady, StillnessIsEnd, EveryRunCanEndWhole, IsPatientIn, A_wake, Moves_on, Uncovers, IsPatient, And_then, PatientRunsAreShort, PatienceGoesOn, PatienceLasts, RealEventsAreFew}
use Rattle.peer_network.specs.Wakes.{AllMayWake}
use Rattle.ghs_protocol.proofs.lemmas.Effects.{taken_there}
use Rattle.ghs_protocol.proofs.lemmas.Events.{happening, happens_so, taken_at}
use Rattle.peer_network.proofs.lemmas.Events.{is_node_of, is_port_of}
use Rattle.peer_network.proofs.lemmas.Graphs.{graph_wired, is_key}
use Rattle.ghs_protocol.proofs.lemmas.Nodes.{ports_many}
use Rattle.peer_network.proofs.lemmas.Sums.{node_before}
use Rattle.ghs_protocol.proofs.lemmas.Lasting.{AllLast, event_lasts, run_lasts}
use Rattle.ghs_protocol.proofs.lemmas.Runs.{both_some, run_joins, run_keeps, run_more}
use Rattle.ghs_protocol.proofs.lemmas.Sends.{node_here, node_there}
use Rattle.peer_network.proofs.lemmas.Updates.{one_place, put_at_hit, put_at_miss, put_at_node}
use Rattle.ghs_protocol.proofs.lemmas.Woken.{asleep_or_not}
use Rattle.ghs_protocol.proofs.lemmas.Waiting.{waits_awake}
use Rattle.ghs_protocol.proofs.progress.Requeues.{requeues_are_waits, turned_by}
use Rattle.ghs_protocol.proofs.charges.Bound.{sends_within}
use Rattle.ghs_protocol.proofs.every_run.Trees.{leads_join}
use Rattle.ghs_protocol.proofs.progress.Runs.{no_run_is_stuck}
use Rattle.ghs_protocol.proofs.progress.Finish.{reached, component, formed, later, can_take, gets_on, most, grows, going, finishes, leads_inside, run_short, silent_nets_have_ended}
use Rattle.ghs_protocol.proofs.progress.Rounds.{wake_gets_on}
use Rattle.ghs_protocol.proofs.lemmas.Queues.{same_first}

-- Other nodes' events.

-- what sends do to a queue: something is appended, or nothing
abbrev pub Longer : List Message → List Message → Type 0
Longer q q' = (came : List Message) × (q' ≡ q ++ came)

longer_same : (q q' : List Message) → q' ≡ q → Longer q q'
longer_same q q' e = ([], e ∙ sym (append-nil q))

longer_then : (q r s : List Message) → Longer q r → Longer r s → Longer q s
longer_then q r s a b = (a.0 ++ b.0, b.1 ∙ ap (λ x. x ++ b.0) a.1 ∙ append_assoc q a.0 b.0)

send_longer : (g : Network) (u : ℕ) (w : Net) (s : ℕ × Message) (v p : ℕ) → Longer (w.queue v p) ((send g u w s).queue v p)
send_longer g u w s v p = ⊎_elim
    (λ (e : (v ≡ far g u s.0) × (p ≡ far_port g u s.0)). (
      s.1 ∷ [],
      put_at_hit w.queue (far g u s.0) (far_port g u s.0) v p (w.queue (far g u s.0) (far_port g u s.0) ++ s.1 ∷ []) e.0 e.1 ∙
          sym (λ i. w.queue (e.0 i) (e.1 i) ++ s.1 ∷ []),
    ))
    (λ ne.
    longer_same (w.queue v p) ((send g u w s).queue v p)
    (put_at_miss w.queue (far g u s.0) (far_port g u s.0) v p (w.queue (far g u s.0) (far_port g u s.0) ++ s.1 ∷ []) ne))
    (one_place (far g u s.0) (far_port g u s.0) v p)

pub sends_longer : (g : Network) (u : ℕ) (ss : Outgoing) (w : Net) (v p : ℕ) → Longer (w.queue v p) ((send_all g u ss w).queue v p)
sends_longer g u [] w v p = longer_same (w.queue v p) (w.queue v p) refl
sends_longer g u (s ∷ ss) w v p =
    longer_then (w.queue v p) ((send g u w s).queue v p) ((send_all g u ss (send g u w s)).queue v p) (send_longer g u w s v p)
    (sends_longer g u ss (send g u w s) v p)

event_longer : (g : Network) (w x : Net) (e : Event) (v : ℕ) → event_node e ≢ v → Happens g w e x → (p : ℕ) → Longer (w.queue v p) (x.queue v p)
event_longer g w _ _ v ne (Woke u d lo hi s r) p = sends_longer g u d.sends (change u d w) v p
event_longer g w _ _ v ne (Took u q m ms d at e r) p =
    subst (λ x. Longer x ((taken g u q m ms d w).queue v p)) (put_at_node w.queue u q v p _ (λ z. ne (sym z)))
    (sends_longer g u d.sends _ v p)

event_node_stays : (g : Network) (w x : Net) (e : Event) (v : ℕ) → event_node e ≢ v → Happens g w e x → x.node v ≡ w.node v
event_node_stays g w _ _ v ne (Woke u d lo hi s r) = node_there g u d w v (λ z. ne (sym z))
event_node_stays g w _ _ v ne (Took u q m ms d at e r) = taken_there g u q m ms d w v (λ z. ne (sym z))

-- the two together, over several events
record Stays (v : ℕ) (w w' : Net) : Type 0 where
  node : w'.node v ≡ w.node v
  queue : (p : ℕ) → Longer (w.queue v p) (w'.queue v p)

run_stays : (g : Network) (v : ℕ) (es : List Event) (w w' : Net) → All (λ e. event_node e ≢ v) es → run g es w ≡ Some w' → Stays v w w'
run_stays g v [] w w' all h = subst (Stays v w) (same_Some w w' h) (record { node = refl; queue = λ p. longer_same (w.queue v p) (w.queue v p) refl })
run_stays g v (e ∷ es) w w' all h =
    both_some (happens g w e) (λ x. run g es x) w' h
    (λ x a b.
    let one = happening g w x e a in
    let ne = all 0 e (omega arith) in
    let rest = run_stays g v es x w' (λ i d lt. all (suc i) d (omega (arith, lt))) b in
    record {
      node = rest.node ∙ event_node_stays g w x e v ne one;
      queue = λ p. longer_then (w.queue v p) (x.queue v p) (w'.queue v p) (event_longer g w x e v ne one p) (rest.queue p);
    })

still_waiting : (q c : List Message) → is_waiting q ≡ true → is_waiting (q ++ c) ≡ true
still_waiting [] c e = absurd (let z = e in cc)
still_waiting (m ∷ q) c e = refl

module _ (g : Network) (w w' : Net) where
  lawful_stays : (e : Event) → Stays (event_node e) w w' → is_lawful g w e ≡ true → is_lawful g w' e ≡ true
  lawful_stays (events.Wake v) s h = subst (λ (n : NodeState). (is_node g v && is_sleeping n.head.phase) ≡ true) (sym s.node) h
  lawful_stays (events.Take v p) s h =
      let b = and_parts (is_port g v p) (is_waiting (w.queue v p)) h in
      let q = s.queue p in
      and_from (is_port g v p) (is_waiting (w'.queue v p)) b.0 (ap is_waiting q.1 ∙ still_waiting (w.queue v p) q.0 b.1)

  reacts_stays : (v : ℕ) → Stays v w w' → (e : Event) (d : Delta) → Reacts w e v d → Reacts w' e v d
  reacts_stays v s _ d (By_waking r) = By_waking (ap (λ n. reaction n Wake) s.node ∙ r)
  reacts_stays v s _ d (By_taking {p = p} {m = m} {ms = ms} q r) =
      let c = s.queue p in
      By_taking (c.1 ∙ ap (λ x. x ++ c.0) q) (ap (λ n. reaction n (Deliver p m)) s.node ∙ r)

pub others_leave_alone : OthersLeaveAlone
others_leave_alone g v es w w' all h =
    let s = run_stays g v es w w' all h in
    record {
      node = s.node;
      queue = λ p. s.queue p;
      lawful = λ e own. lawful_stays g w w' e (subst (λ u. Stays u w w') (sym own) s);
      reacts = reacts_stays g w w' v s;
    }

-- Nothing can happen.

waits_or_none : (q : List Message) → (q ≡ []) ⊎ (is_waiting q ≡ true)
waits_or_none [] = inl refl
waits_or_none (m ∷ q) = inr refl

module _ (g : Shape) (may : ℕ → Bool) (w : Net) (n : IsNetOf g w) (still : NothingIsReady may (network_of g) w) where
  nothing_waits : (v p : ℕ) → At (network_of g) v p → w.queue v p ≡ []
  nothing_waits v p at = ⊎_elim (λ e. e)
      (λ h.
      absurd (both_ways (is_lawful (network_of g) w (events.Take v p)) (still (events.Take v p))
      (and_from (is_port (network_of g) v p) (is_waiting (w.queue v p)) (is_port_of (network_of g) v p at) h)))
      (waits_or_none (w.queue v p))

  wakers_awake : (v : ℕ) → 1 ≤ v → v ≤ g.nodes → may v ≡ true → (w.node v).head.phase ≢ Sleeping
  wakers_awake v lo hi can s = both_ways (is_lawful_under may (network_of g) w (events.Wake v)) (still (events.Wake v))
      (and_from (may v) (is_lawful (network_of g) w (events.Wake v)) can
      (and_from (is_node (network_of g) v) (is_sleeping (w.node v).head.phase) (is_node_of (network_of g) v lo hi) (ap is_sleeping s)))

-- links lead to nodes of the graph, and join them
module _ (g : Shape) (ok : IsGraph g) where
  leads_in : {v u : ℕ} → Leads (network_of g) AnyLink v u → 1 ≤ v → v ≤ g.nodes → (1 ≤ u) × (u ≤ g.nodes)
  leads_in way lo hi = let z = leads_inside (network_of g) (graph_wired g ok) way (record { some = lo; node = hi }) in (z.some, z.node)

  leads_joined : {v u : ℕ} → Leads (network_of g) AnyLink v u → Joined (links g.keys) v u
  leads_joined way = leads_join g ok (links g.keys) AnyLink (λ a p at x. is_key g ok a p at) way

  -- a node that links lead to and that has halted ends the component
  abbrev pub EndFor : Net → ℕ → Type 0
  EndFor w v = (u : ℕ) × (1 ≤ u) × (u ≤ g.nodes) × Joined (links g.keys) v u × HasHalted w u

  pub end_for : (w : Net) (v : ℕ) → 1 ≤ v → v ≤ g.nodes → (u : ℕ) × Leads (network_of g) AnyLink v u × HasHalted w u → EndFor w v
  end_for w v lo hi h = let z = leads_in h.1 lo hi in (h.0, z.0, z.1, leads_joined h.1, h.2)

  -- where each node is joined with one for which there is an end, the run has ended
  has_ended : (may : ℕ → Bool) (w : Net) → AllMayWake may g → ((v : ℕ) → 1 ≤ v → v ≤ g.nodes → may v ≡ true → EndFor w v) → HasEnded g w
  has_ended may w all each v lo hi =
      let a = all v lo hi in
      let b = each a.0 a.1 a.2 a.4 in
      (b.0, b.1, b.2, joined_then a.3 b.3, b.4)

pub stillness_is_end : StillnessIsEnd
stillness_is_end g may w n still = (each, λ all. has_ended g n.graph may w all each)
  where
    each : (v : ℕ) → 1 ≤ v → v ≤ g.nodes → may v ≡ true → EndFor g n.graph w v
    each v lo hi can =
        end_for g n.graph w v lo hi (silent_nets_have_ended g w n (nothing_waits g may w n still) v (record { some = lo; node = hi })
        (wakers_awake g may w n still v lo hi can))

pub real_events_are_few : RealEventsAreFew
real_events_are_few g w es w' n h b is =
    let a = run_short (network_of g) (graph_wired g n.graph) es w w' (formed g n.graph w n) h in
    let m = most g n.graph b (λ x k. sends_within g x k b is) w' (later_net g w es w' n h) in
    omega (arith, a, m)
  where
    later_net : (g : Shape) (w : Net) (es : List Event) (w' : Net) → IsNetOf g w → run (network_of g) es w ≡ Some w' → IsNetOf g w'
    later_net g w es w' n h = run_keeps (network_of g) (IsNetOf g) (λ x y e i t. later g n.graph x y e i t) es w w' n h

-- Patience.

-- of a reaction it can be told whether it puts its message back
fate_told : (f : Fate) → (f ≡ Requeued) ⊎ (f ≢ Requeued)
fate_told Requeued = inl refl
fate_told Consumed = inr (λ e. cc)

-- the reaction by which a message is taken
taken_by : {g : Network} {w : Net} {v p : ℕ} {x : Net} →
    Happens g w (events.Take v p) x →
    (m : Message) × (ms : List Message) × (d : Delta) × (w.queue v p ≡ m ∷ ms) × (reaction (w.node v) (Deliver p m) ≡ Some d)
taken_by (Took v p m ms d at q r) = (m, ms, d, q, r)

module _ (g : Shape) (ok : IsGraph g) (w : Net) (n : IsNetOf g w) where
  -- of a first message it can be told whether it waits
  told : (v p : ℕ) →
      At (network_of g) v p →
      (m : Message) (ms : List Message) → w.queue v p ≡ m ∷ ms →
      Waits (w.node v) p m ⊎ (Waits (w.node v) p m → ⊥)
  told v p at m ms q = ⊎_elim (λ s. inr (λ z. waits_awake (w.node v) p m z s)) awake (asleep_or_not (w.node v).head.phase)
    where
      awake : (w.node v).head.phase ≢ Sleeping → Waits (w.node v) p m ⊎ (Waits (w.node v) p m → ⊥)
      awake up =
          let t = taken_by (can_take g ok w n v p at m ms q).1 in
          let react = ap (λ k. reaction (w.node v) (Deliver p k)) (same_first m t.0 ms t.1 (sym q ∙ t.3)) ∙ t.4 in
          let same = requeues_are_waits (w.node v) p m t.2 (let lt = at.port in omega (arith, lt, ports_many ((formed g ok w n).nodes v))) up react in
          ⊎_elim (λ e. inl (same.0 e)) (λ ne. inr (λ z. ne (same.1 z))) (fate_told t.2.fate)

  -- a first message that doesn't wait
  record Moving : Type 0 where
    node : ℕ
    port : ℕ
    at : At (network_of g) node port
    message : Message
    behind : List Message
    queue : w.queue node port ≡ message ∷ behind
    moves : Waits (w.node node) port message → ⊥

  -- all first messages of a node's ports below k wait
  abbrev WaitsAt : ℕ → ℕ → Type 0
  WaitsAt v p = At (network_of g) v p → (m : Message) (ms : List Message) → w.queue v p ≡ m ∷ ms → Waits (w.node v) p m

  at_port : (v p : ℕ) → At (network_of g) v p → Moving ⊎ WaitsAt v p
  at_port v p at = go (w.queue v p) refl
    where
      go : (q : List Message) → w.queue v p ≡ q → Moving ⊎ WaitsAt v p
      go [] e = inr (λ at m ms q. absurd (let z = sym e ∙ q in cc))
      go (m ∷ ms) e = ⊎_elim
          (λ z. inr (λ at' k ks q. subst (Waits (w.node v) p) (same_first m k ms ks (sym e ∙ q)) z))
          (λ z. inl (record { node = v; port = p; at = at; message = m; behind = ms; queue = e; moves = z }))
          (told v p at m ms e)

  -- looking through the ports of a node, and through the nodes
  look : (P : ℕ → Type 0) (k : ℕ) → ((i : ℕ) → i < k → Moving ⊎ P i) → Moving ⊎ ((i : ℕ) → i < k → P i)
  look P zero test = inr (λ i lt. absurd (omega (arith, lt)))
  look P (suc k) test =
      ⊎_elim inl (λ rest. ⊎_elim inl
      (λ last. inr (λ i lt. ⊎_elim (λ (e : i ≡ k). subst P (sym e) last) (λ ne. rest i (omega (arith, lt, ne))) (cases_eq i k)))
      (test k (omega arith)))
      (look P k (λ i lt. test i (omega (arith, lt))))

  at_node : (v : ℕ) → 1 ≤ v → v ≤ g.nodes → Moving ⊎ ((p : ℕ) → WaitsAt v p)
  at_node v lo hi =
      ⊎_elim inl (λ all. inr (λ p at. all p at.port at))
      (look (λ p. WaitsAt v p) (length ((network_of g).ports v)) (λ p lt. at_port v p (record { some = lo; node = hi; port = lt })))

  anywhere : Moving ⊎ ((v p : ℕ) → WaitsAt v p)
  anywhere =
      ⊎_elim inl (λ all.
      inr (λ v p at.
      (let i = node_before v at.some in
      let e = i.1 in subst (λ u. (p : ℕ) → WaitsAt u p) (sym e) (all i.0 (let hi = at.node in omega (arith, e, hi))))
      p at))
      (look (λ i. (p : ℕ) → WaitsAt (suc i) p) g.nodes (λ i lt. at_node (suc i) (omega arith) (omega (arith, lt))))

  -- a Take that is a patient choice
  abbrev Choice : Type 0
  Choice = (v : ℕ) × (p : ℕ) × (x : Net) × Happens (network_of g) w (events.Take v p) x × IsPatientIn (network_of g) w (events.Take v p)

  moves : Moving → Choice
  moves z =
      let t = can_take g ok w n z.node z.port z.at z.message z.behind z.queue in
      (z.node, z.port, t.0, t.1, Moves_on z.node z.port z.message z.behind z.queue z.moves)

  choice : (S : ℕ → Bool) → GoesOn (network_of g) w S → Choice
  choice S z = ⊎_elim moves (λ all. go z.before z.queue z.few all) anywhere
    where
      go : (before : List Message) → w.queue z.node z.port ≡ before ++ z.message ∷ z.behind → length before ≤ 1 → ((v p : ℕ) → WaitsAt v p) → Choice
      go [] q few all = absurd (z.goes (all z.node z.port z.at z.message z.behind q))
      go (m ∷ []) q few all =
          let t = can_take g ok w n z.node z.port z.at m (z.message ∷ z.behind) q in
          (z.node, z.port, t.0, t.1, Uncovers z.node z.port m z.message z.behind q z.goes all)
      go (m ∷ (k ∷ ks)) q few all = absurd (omega (arith, few))

pub patience_goes_on : PatienceGoesOn
patience_goes_on g w n =
    ⊎_elim
    (λ z.
    let c = choice g n.graph w n (component g n.graph z.0) (no_run_is_stuck g w n (component g n.graph z.0) z.1) in
    inl (events.Take c.0 c.1, c.2, c.3, c.4))
    (λ all. inr (λ v lo hi up. all v (record { some = lo; node = hi }) up))
    (going g n.graph w)

module _ (g : Shape) (ok : IsGraph g) (b : ℕ) (within : (w : Net) → IsNetOf g w → in_all w.sent ≤ b) where
  -- a first message that doesn't wait leaves an event to make
  not_yet : (w : Net) (n : IsNetOf g w) → Moving g ok w n → suc (reached (network_of g) w) ≤ b + g.nodes
  not_yet w n z =
      let t = can_take g ok w n z.node z.port z.at z.message z.behind z.queue in
      let a = gets_on g ok w t.0 z.node z.port n z.message z.behind z.queue z.moves t.1 in
      let m = most g ok b within t.0 (later g ok w t.0 (events.Take z.node z.port) n t.1) in
      omega (arith, a, m)

  -- what is left to do bounds what patience does; less by one where a first message doesn't wait
  record Left (w : Net) (n : IsNetOf g w) (es : List Event) : Type 0 where
    all : length es + 2 * reached (network_of g) w ≤ 2 * (b + g.nodes)
    moving : Moving g ok w n → suc (length es + 2 * reached (network_of g) w) ≤ 2 * (b + g.nodes)

  -- an event that gets on
  left_by_one : (w : Net) (n : IsNetOf g w) (x : Net) (m : IsNetOf g x) (e : Event) (es : List Event) →
      suc (reached (network_of g) w) ≤ reached (network_of g) x →
      Left x m es →
      Left w n (e ∷ es)
  left_by_one w n x m e es gets l = record { all = let a = l.all in omega (arith, a, gets); moving = λ z. let a = l.all in omega (arith, a, gets) }

  -- a turn that brings up a message that doesn't wait
  uncovered : (w : Net) (n : IsNetOf g w) (x : Net) (m : IsNetOf g x) (e : Event) (es : List Event) →
      reached (network_of g) w ≤ reached (network_of g) x →
      Moving g ok x m →
      (Moving g ok w n → ⊥) →
      Left x m es →
      Left w n (e ∷ es)
  uncovered w n x m e es le z none l = record { all = let a = l.moving z in omega (arith, a, le); moving = λ y. absurd (none y) }

  patient_left : (es : List Event) (w : Net) (n : IsNetOf g w) → IsPatient (network_of g) w es → Left w n es
  patient_left [] w n p = record { all = let m = most g ok b within w n in omega (arith, m); moving = λ z. let m = not_yet w n z in omega (arith, m) }
  patient_left (e ∷ es) w n (And_then {x = x} patient h rest) = step x e es n patient h (later g ok w x e n h)
      (patient_left es x (later g ok w x e n h) rest)
    where
      step : (x : Net) (e : Event) (es : List Event) (n : IsNetOf g w) →
          IsPatientIn (network_of g) w e →
          Happens (network_of g) w e x →
          (m : IsNetOf g x) → Left x m es →
          Left w n (e ∷ es)
      step x _ es n (A_wake v) h m l = left_by_one w n x m (events.Wake v) es (wake_gets_on g ok w v x n h) l
      step x _ es n (Moves_on v p k ks q moves) h m l = left_by_one w n x m (events.Take v p) es (gets_on g ok w x v p n k ks q moves h) l
      step x _ es n (Uncovers v p k j ks q moves all) h m l =
          let at = taken_at h in
          let t = turned_by (network_of g) w x v p k (j ∷ ks) at ((formed g ok w n).nodes v) q (all v p at k (j ∷ ks) q) h in
          uncovered w n x m (events.Take v p) es (grows g ok w x v p n h)
          (record {
            node = v;
            port = p;
            at = at;
            message = j;
            behind = ks ++ k ∷ [];
            queue = t.queue;
            moves = subst (λ y. Waits y p j → ⊥) (sym (t.nodes v)) moves;
          })
          (λ z. z.moves (all z.node z.port z.at z.message z.behind z.queue)) l

pub patient_runs_are_short : PatientRunsAreShort
patient_runs_are_short g w n b is es p = let a = (patient_left g n.graph b (λ x m. sends_within g x m b is) es w n p).all in omega (arith, a)

-- The end, with wakes.

pub can_wake : (g : Network) (w : Net) (v : ℕ) → 1 ≤ v → v ≤ g.count → (w.node v).head.phase ≡ Sleeping → (x : Net) × Happens g w (events.Wake v) x
can_wake g w v lo hi s = (reacted g v (waking (w.node v)) w, Woke v (waking (w.node v)) lo hi s (rw s))

pub woken_is_awake : (g : Network) (w : Net) (v : ℕ) (x : Net) → Happens g w (events.Wake v) x → (x.node v).head.phase ≢ Sleeping
woken_is_awake g w _ _ (Woke v d lo hi s r) =
    subst (λ (y : NodeState). y.head.phase ≢ Sleeping) (sym (node_here g v d w))
    (row_awake (w.node v) Wake d (reaction_inverts (w.node v) Wake d tt r))

-- one who may wake sleeps, or none does
module _ (g : Shape) (may : ℕ → Bool) (w : Net) where
  abbrev pub Sleeper : Type 0
  Sleeper = (v : ℕ) × (1 ≤ v) × (v ≤ g.nodes) × (may v ≡ true) × ((w.node v).head.phase ≡ Sleeping)

  pub sleeper_to : (k : ℕ) → k ≤ g.nodes → Sleeper ⊎ ((v : ℕ) → 1 ≤ v → v ≤ k → may v ≡ true → (w.node v).head.phase ≢ Sleeping)
  sleeper_to zero le = inr (λ v lo hi can. absurd (omega (arith, lo, hi)))
  sleeper_to (suc k) le = ⊎_elim inl next (sleeper_to k (omega (arith, le)))
    where
      next : ((v : ℕ) → 1 ≤ v → v ≤ k → may v ≡ true → (w.node v).head.phase ≢ Sleeping) →
          Sleeper ⊎ ((v : ℕ) → 1 ≤ v → v ≤ suc k → may v ≡ true → (w.node v).head.phase ≢ Sleeping)
      next rest =
          ⊎_elim
          (λ can. ⊎_elim (λ s. inl (suc k, omega arith, le, can, s)) (λ up. inr (more (λ c. up))) (asleep_or_not (w.node (suc k)).head.phase))
          (λ no. inr (more (λ c. absurd (both_ways (may (suc k)) no c))))
          (cases_Bool (may (suc k)))
        where
          more : (may (suc k) ≡ true → (w.node (suc k)).head.phase ≢ Sleeping) → (v : ℕ) → 1 ≤ v → v ≤ suc k → may v ≡ true →
              (w.node v).head.phase ≢ Sleeping
          more last v lo hi can = ⊎_elim
              (λ (e : v ≡ suc k). subst (λ u. (w.node u).head.phase ≢ Sleeping) (sym e) (last (subst (λ u. may u ≡ true) e can)))
              (λ ne. rest v lo (omega (arith, hi, ne)) can)
              (cases_eq v (suc k))

-- a patient choice under the wake set
abbrev NextOf : Shape → (ℕ → Bool) → Net → Type 0
NextOf g may w = (e : Event) × (x : Net) × Happens (network_of g) w e x × MayWake may e × IsPatientIn (network_of g) w e

pub patience_lasts : PatienceLasts
patience_lasts g may w n all = ⊎_elim wakes awake (sleeper_to g may w g.nodes (omega arith))
  where
    wakes : Sleeper g may w → NextOf g may w ⊎ HasEnded g w
    wakes z = let t = can_wake (network_of g) w z.0 z.1 z.2 z.4 in inl (events.Wake z.0, t.0, t.1, z.3, A_wake z.0)

    awake : ((v : ℕ) → 1 ≤ v → v ≤ g.nodes → may v ≡ true → (w.node v).head.phase ≢ Sleeping) → NextOf g may w ⊎ HasEnded g w
    awake up = ⊎_elim
        (λ z.
        let c = choice g n.graph w n (component g n.graph z.0) (no_run_is_stuck g w n (component g n.graph z.0) z.1) in
        inl (events.Take c.0 c.1, c.2, c.3, tt, c.4))
        (λ ends. inr (has_ended g n.graph may w all
        (λ v lo hi can. end_for g n.graph w v lo hi (ends v (record { some = lo; node = hi }) (up v lo hi can)))))
        (going g n.graph w)

-- all who may wake, up to k, are awake after wakes of theirs
record Woken (may : ℕ → Bool) (g : Shape) (w : Net) (k : ℕ) : Type 0 where
  wakes : List Event
  may_happen : All (MayWake may) wakes
  next : Net
  leads : run (network_of g) wakes w ≡ Some next
  is : IsNetOf g next
  reaches : length wakes + reached (network_of g) w ≤ reached (network_of g) next
  awake : (v : ℕ) → 1 ≤ v → v ≤ k → may v ≡ true → (next.node v).head.phase ≢ Sleeping

takes_may : (may : ℕ → Bool) (es : List Event) → All IsTake es → All (MayWake may) es
takes_may may [] a = All-nil (MayWake may)
takes_may may (e ∷ es) a = All-cons (MayWake may) e es (one e (a 0 e (omega arith))) (takes_may may es (λ i d lt. a (suc i) d (omega (arith, lt))))
  where
    one : (e : Event) → IsTake e → MayWake may e
    one (events.Wake v) t = absurd t
    one (events.Take v p) t = tt

module _ (g : Shape) (ok : IsGraph g) (may : ℕ → Bool) (w : Net) (n : IsNetOf g w) where
  -- who may wake up to k is woken, one after another
  woken_up_to : (k : ℕ) → k ≤ g.nodes → Woken may g w k
  woken_up_to zero le = record {
    wakes = [];
    may_happen = All-nil (MayWake may);
    next = w;
    leads = refl;
    is = n;
    reaches = omega arith;
    awake = λ v lo hi can. absurd (omega (arith, lo, hi));
  }
  woken_up_to (suc k) le = next (woken_up_to k (omega (arith, le)))
    where
      next : Woken may g w k → Woken may g w (suc k)
      next z =
          ⊎_elim
          (λ can. ⊎_elim (λ s. wake can s) (λ up. same (λ c. up)) (asleep_or_not (z.next.node (suc k)).head.phase))
          (λ no. same (λ c. absurd (both_ways (may (suc k)) no c)))
          (cases_Bool (may (suc k)))
        where
          same : (may (suc k) ≡ true → (z.next.node (suc k)).head.phase ≢ Sleeping) → Woken may g w (suc k)
          same last = record {
            wakes = z.wakes;
            may_happen = z.may_happen;
            next = z.next;
            leads = z.leads;
            is = z.is;
            reaches = z.reaches;
            awake = λ v lo hi can. ⊎_elim
                (λ (e : v ≡ suc k). subst (λ u. (z.next.node u).head.phase ≢ Sleeping) (sym e) (last (subst (λ u. may u ≡ true) e can)))
                (λ ne. z.awake v lo (omega (arith, hi, ne)) can)
                (cases_eq v (suc k));
          }

          wake : may (suc k) ≡ true → (z.next.node (suc k)).head.phase ≡ Sleeping → Woken may g w (suc k)
          wake can s =
              let t = can_wake (network_of g) z.next (suc k) (omega arith) le s in
              let lasts = event_lasts (network_of g) (graph_wired g ok) z.next t.0 (events.Wake (suc k)) (formed g ok z.next z.is) t.1 in
              record {
                wakes = z.wakes ++ events.Wake (suc k) ∷ [];
                may_happen =
                    All-append (MayWake may) z.wakes (events.Wake (suc k) ∷ []) z.may_happen
                    (All-cons (MayWake may) (events.Wake (suc k)) [] can (All-nil (MayWake may)));
                next = t.0;
                leads = run_more (network_of g) z.wakes (events.Wake (suc k)) w z.next z.leads ∙ happens_so t.1;
                is = later g ok z.next t.0 (events.Wake (suc k)) z.is t.1;
                reaches =
                    let a = z.reaches in
                    let l = length-append z.wakes (events.Wake (suc k) ∷ []) in
                    let r = wake_gets_on g ok z.next (suc k) t.0 z.is t.1 in omega (arith, a, l, r);
                awake = λ v lo hi c. ⊎_elim
                    (λ (e : v ≡ suc k). subst (λ u. (t.0.node u).head.phase ≢ Sleeping) (sym e)
                    (woken_is_awake (network_of g) z.next (suc k) t.0 t.1))
                    (λ ne. (lasts v).awake (z.awake v lo (omega (arith, hi, ne)) c))
                    (cases_eq v (suc k));
              }

pub every_run_can_end_whole : EveryRunCanEndWhole
every_run_can_end_whole g may w n all b is = record {
  events = z.wakes ++ f.events;
  may_happen = All-append (MayWake may) z.wakes f.events z.may_happen (takes_may may f.events f.takes);
  few = let l = length-append z.wakes f.events in let a = f.few in let m = enough in omega (arith, l, a, m);
  end_net = f.end_net;
  run_to = run_joins (network_of g) z.wakes f.events w z.next z.leads ∙ f.run;
  ended =
      has_ended g n.graph may f.end_net all
      (λ v lo hi can. end_for g n.graph f.end_net v lo hi (f.ended v (record { some = lo; node = hi }) ((lasts v).awake (z.awake v lo hi can))));
}
  where
    within : (x : Net) → IsNetOf g x → in_all x.sent ≤ b
    within x m = sends_within g x m b is

    z : Woken may g w g.nodes
    z = woken_up_to g n.graph may w n g.nodes (omega arith)

    enough : length z.wakes ≤ b + g.nodes
    enough = let a = z.reaches in let m = most g n.graph b within z.next z.is in omega (arith, a, m)

    f : Finish (network_of g) z.next (2 * (b + g.nodes - length z.wakes))
    f = finishes g n.graph b within (b + g.nodes - length z.wakes) z.next z.is (let a = z.reaches in omega (arith, a))

    lasts : AllLast z.next f.end_net
    lasts = run_lasts (network_of g) (graph_wired g n.graph) f.events z.next f.end_net (formed g n.graph z.next z.is) f.run
