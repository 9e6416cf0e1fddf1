-- What a net keeps when an event is played.
use Rattle.std.proofs.Common.{◌≡◌, ◌≢◌, ℕ, ◌+◌, ◌-◌, ◌<◌, ◌≤◌, ◌^◌, Bool, true, false, List, [], ◌∷◌, ◌++◌, length, get_or, set, cond, nat_lt, Option, Some, None, IsSome, is_some, refl, sym, ◌∙◌, ap, subst, ⊎_elim, arith, ltb-true, length-append}
use Rattle.std.specs.List.{All}
use Rattle.std.proofs.lemmas.Bool.{and_parts, cases_eq}
use Rattle.std.proofs.lemmas.Option.{same_Some}
use Rattle.std.proofs.lemmas.List.Elements.{All-nil, All-cons}
use Rattle.std.proofs.lemmas.List.{length-set, get_or-set_same, get_or-set_other, get_or_default}
use Rattle.ghs_graph.specs.Graph.{Shape}
use Rattle.peer_network.specs.declared.event.Event.{Event}
use Rattle.peer_network.specs.declared.event.Event.TheVariants as events
use Rattle.peer_network.specs.Events.{takes_in}
use Rattle.peer_network.specs.Network.{network_of, At}
use Rattle.peer_network.proofs.lemmas.Events.{node_of, at_of}
use Rattle.peer_network.proofs.lemmas.Graphs.{graph_wired}
use Rattle.peer_network.proofs.lemmas.Sums.{term_le}
use Rattle.peer_network.proofs.lemmas.Updates.{put_same, put_other}
use Rattle.peer_index.specs.Places.{HasPlace}
use Rattle.peer_channels.specs.Queue.{QueueState}
use Rattle.peer_channels.specs.Channels.{ChannelsState, HasQueue, SamePorts, IsFor, IsForSome, KeepsLists, GoOut, HasRoomFor, first_queue, queue_at, state_at, total_of}
use Rattle.peer_channels.proofs.lemmas.Ports.{same_alike, same_for, same_first}
use Rattle.peer_channels.proofs.lemmas.Rooms.{port_queue, room_kept, rooms_kept}
use Rattle.peer_machine.specs.declared.work.Work.{Work}
use Rattle.peer_machine.specs.declared.work.Work.TheVariants.{Deliver}
use Rattle.peer_machine.specs.Rules.{Rules, Outcome, Outgoing, HasKinds}
use Rattle.peer_machine.specs.Net.{Net, left_of, is_port, event_node, put, is_lawful, are_on_ports, reacted, take_first, if_reacted, takes_from, effect}
use Rattle.peer_machine.specs.Run.{IsAfter, IsNetOf, net_after}
use Rattle.peer_machine.specs.Ledger.{in_all}
use Rattle.peer_machine.specs.Protocol.{HasRules, IsBoundedBy, FitsGraphs}
use Rattle.peer_machine.specs.Steps.{Happens, Woke, Took}
use Rattle.peer_machine.proofs.lemmas.Balance.{after_balanced, balanced_in_all}
use Rattle.peer_machine.proofs.lemmas.Counts.{sent_in_all, taken_in_all, take_counts, take_defers, after_counts}
use Rattle.peer_machine.proofs.lemmas.Runs.{after_is_net, after_more, net_after_more}
use Rattle.peer_machine.proofs.lemmas.Sends.{nodes_put, sent_now, consumed_now, deferred_now}
use Rattle.peer_net.specs.declared.counts.Counts.{Counts}
use Rattle.peer_net.specs.NetState.{delivery, work_at, AreSends}
use Rattle.peer_net.specs.Queues.{AreQueues, after_first, with_all_sent}
use Rattle.peer_net.specs.Counts.{CountsSends}
use Rattle.peer_net.specs.Taking.{Consumes, WaitsAt, TakesFirst, TakesIn}
use Rattle.peer_net.specs.Kept.{AreCounts, AreNodes, Shows, IsKept, no_node}
use Rattle.peer_net.proofs.Showing.{changed, first_left, first_room, machine_sends}

-- the first of what waits is taken, if anything waits
abbrev first_taken : {S M : Type 0} → Rules S M → Shape → ℕ → ℕ → List M → Net S M → Net S M
first_taken r g v p [] w = w
first_taken r g v p (m ∷ ms) w = take_first r (network_of g) v p m ms w

-- the net from which the message of an event is taken
abbrev taken_net : {S M : Type 0} → Rules S M → Shape → Event → Net S M → Net S M
taken_net r g (events.Wake v) w = w
taken_net r g (events.Take v p) w = first_taken r g v p (w.queue v p) w

-- whether the event's message is deferred
abbrev pub defers_at : {S M : Type 0} → Rules S M → Net S M → Event → Bool
defers_at r w e = r.defers (w.node (event_node e)) (work_at w e)

takes_few : (es : List Event) → takes_in es ≤ length es
takes_few [] = omega arith
takes_few (events.Wake v ∷ es) = omega (arith, takes_few es)
takes_few (events.Take v p ∷ es) = omega (arith, takes_few es)

module _ {S M : Type 0} (r : Rules S M) (g : Shape) where
  pub lawful_node : (w : Net S M) (e : Event) → is_lawful r (network_of g) w e ≡ true → (1 ≤ event_node e) × (event_node e ≤ g.nodes)
  lawful_node w (events.Wake v) h = node_of (network_of g) v (and_parts _ _ h).0
  lawful_node w (events.Take v p) h = let at = at_of (network_of g) v p (and_parts _ _ h).0 in (at.some, at.node)

  pub lawful_place : (w : Net S M) (e : Event) → is_lawful r (network_of g) w e ≡ true → HasPlace (network_of g) e
  lawful_place w (events.Wake v) h = node_of (network_of g) v (and_parts _ _ h).0
  lawful_place w (events.Take v p) h = at_of (network_of g) v p (and_parts _ _ h).0

  -- a reaction that led somewhere
  some_reacted : {P : Type 0} (v : ℕ) (x : Option (Outcome S M)) (w : Net S M) → IsSome (if_reacted r (network_of g) v x w) →
      ((o : Outcome S M) → x ≡ Some o → are_on_ports r (network_of g) v o.sends ≡ true → P) → P
  some_reacted v None w h k = cc
  some_reacted {P} v (Some o) w h k = go (are_on_ports r (network_of g) v o.sends) refl h
    where
      go : (b : Bool) → are_on_ports r (network_of g) v o.sends ≡ b → IsSome (cond b (Some (reacted r (network_of g) v o w)) None) → P
      go true t z = k o refl t
      go false t z = cc

  -- the rule of an event that is lawful
  module _ (w : Net S M) where
    from_queue : {P : Type 0} (v p : ℕ) (q : List M) → IsSome (takes_from r (network_of g) w v p q) →
        ((o : Outcome S M) → r.reaction (w.node v) (delivery p q) ≡ Some o → are_on_ports r (network_of g) v o.sends ≡ true → P) → P
    from_queue v p [] h k = cc
    from_queue v p (m ∷ ms) h k = some_reacted v _ _ h k

    pub rule_of : {P : Type 0} (e : Event) → IsSome (effect r (network_of g) w e) →
        ((o : Outcome S M) → r.reaction (w.node (event_node e)) (work_at w e) ≡ Some o →
        are_on_ports r (network_of g) (event_node e) o.sends ≡ true → P) → P
    rule_of (events.Wake v) h k = some_reacted v _ w h k
    rule_of (events.Take v p) h k = from_queue v p (w.queue v p) h k

    -- and what happens by it
    took : (v p : ℕ) (q : List M) (o : Outcome S M) → At (network_of g) v p → w.queue v p ≡ q → nat_lt 0 (length q) ≡ true →
        r.reaction (w.node v) (delivery p q) ≡ Some o → are_on_ports r (network_of g) v o.sends ≡ true →
        Happens r (network_of g) w (events.Take v p) (reacted r (network_of g) v o (first_taken r g v p q w))
    took v p [] o at e lt a t = absurd (let z = ltb-true 0 0 lt in omega (arith, z))
    took v p (m ∷ ms) o at e lt a t = Took v p m ms o at e a t

    pub happens_by : (e : Event) (o : Outcome S M) → is_lawful r (network_of g) w e ≡ true →
        r.reaction (w.node (event_node e)) (work_at w e) ≡ Some o → are_on_ports r (network_of g) (event_node e) o.sends ≡ true →
        Happens r (network_of g) w e (reacted r (network_of g) (event_node e) o (taken_net r g e w))
    happens_by (events.Wake v) o h a t =
        let b = and_parts _ _ h in let n = node_of (network_of g) v b.0 in Woke v o n.0 n.1 b.1 a t
    happens_by (events.Take v p) o h a t =
        let b = and_parts _ _ h in took v p (w.queue v p) o (at_of (network_of g) v p b.0) refl b.1 a t

-- what a protocol promises of its rules
pub record Promises {S M : Type 0} (r : Rules S M) (bound : Shape → ℕ) : Type 0 where
  pub kinds : HasKinds r
  pub rules : HasRules r
  pub bounded : IsBoundedBy r bound
  pub fits : FitsGraphs bound

pub promises_of : {S M : Type 0} {r : Rules S M} {bound : Shape → ℕ} → HasKinds r → HasRules r → IsBoundedBy r bound → FitsGraphs bound →
    Promises r bound
promises_of k h b f = record { kinds = k; rules = h; bounded = b; fits = f }

-- the events of a run so far, one more that is lawful, and the reaction to it
pub record Plays {S M : Type 0} (r : Rules S M) (bound : Shape → ℕ) (g : Shape) (es : List Event) (states : List S) (l : ChannelsState M) (c : Counts)
    (e : Event) (o : Outcome S M) : Type 0 where
  pub promises : Promises r bound
  pub kept : IsKept r g es states l c
  pub lawful : is_lawful r (network_of g) (net_after r g es) e ≡ true
  pub answer : r.reaction ((net_after r g es).node (event_node e)) (work_at (net_after r g es) e) ≡ Some o

module _ {S M : Type 0} {r : Rules S M} {g : Shape} {es : List Event} {states : List S} {l : ChannelsState M} {c : Counts}
    (kept : IsKept r g es states l c) where
  pub after : IsAfter r (network_of g) es (net_after r g es)
  after = after_is_net r g es kept.run

  pub is_net : IsNetOf r g (net_after r g es)
  is_net = record { graph = kept.graph; events = es; run = after }

  -- a node in the fields is the net's
  pub node_found : (v : ℕ) (x : S) → 1 ≤ v → v ≤ g.nodes → x ≡ get_or states (v - 1) x → x ≡ (net_after r g es).node v
  node_found v x lo hi is =
      let n = kept.shows.states.many in
      is ∙ get_or_default states (v - 1) x (no_node r) (omega (arith, n)) ∙ kept.shows.states.each v lo hi

  -- what was deferred is counted in the trace, so a trace with room for one more has room in this count
  pub room : {bound : Shape → ℕ} → Promises r bound → (n cap : ℕ) → n ≡ length es → n + 1 ≤ cap → cap < 2 ^ 63 → c.deferred + 1 < 2 ^ 64
  room p n cap is fits small =
      let a = kept.shows.deferred in
      let b = after_counts r (network_of g) p.kinds es (net_after r g es) after in
      omega (arith, is, fits, small, a, b, takes_few es)

  -- more room is no change
  pub reserved : (m : ChannelsState M) → KeepsLists l m → IsKept r g es states m c
  reserved m k = record {
    graph = kept.graph;
    run = kept.run;
    shows = record {
      states = kept.shows.states;
      queues = record {
        ports = same_for g l m k.ports kept.shows.queues.ports;
        queue = λ v p at. k.lists v p (port_queue kept.shows.queues.ports v p at) ∙ kept.shows.queues.queue v p at;
      };
      sent = kept.shows.sent;
      consumed = kept.shows.consumed;
      queued = let all = kept.shows.queued in let same = k.total in omega (arith, all, same);
      deferred = kept.shows.deferred;
    };
  }

  -- an event that is lawful has a rule
  pub has_reaction : {bound : Shape → ℕ} → Promises r bound → (e : Event) → is_lawful r (network_of g) (net_after r g es) e ≡ true →
      IsSome (r.reaction ((net_after r g es).node (event_node e)) (work_at (net_after r g es) e))
  has_reaction p e h = rule_of r g (net_after r g es) e (p.rules g _ is_net e h) (λ o a t. ap is_some a)

-- what the code has found of an event that is lawful: its node, and what the event gives it to do
module _ {S M : Type 0} {r : Rules S M} {bound : Shape → ℕ} {g : Shape} {es : List Event} {states : List S} {l : ChannelsState M} {c : Counts}
    (e : Event) (promises : Promises r bound) (kept : IsKept r g es states l c) (lawful : is_lawful r (network_of g) (net_after r g es) e ≡ true)
    (n : ℕ) (is_node : n ≡ event_node e) where
  pub node_low : 1 ≤ n
  node_low = rw is_node (lawful_node r g (net_after r g es) e lawful).0

  pub node_high : n ≤ g.nodes
  node_high = rw is_node (lawful_node r g (net_after r g es) e lawful).1

  pub node_inside : n - 1 < length states
  node_inside = let m = kept.shows.states.many in omega (arith, m, node_low, node_high)

  module _ (x : S) (is : x ≡ get_or states (n - 1) x) (k : Work M) (is_work : k ≡ work_at (net_after r g es) e) where
    the_node : x ≡ (net_after r g es).node (event_node e)
    the_node = node_found kept n x node_low node_high is ∙ ap (λ y. (net_after r g es).node y) is_node

    pub can_react : IsSome (r.reaction x k)
    can_react =
        subst (λ y. IsSome (r.reaction y k)) (sym the_node)
        (subst (λ z. IsSome (r.reaction ((net_after r g es).node (event_node e)) z)) (sym is_work) (has_reaction kept promises e lawful))

    -- it is deferred as the rules say
    pub later_is : (b : Bool) → b ≡ r.defers x k → b ≡ defers_at r (net_after r g es) e
    later_is b h = h ∙ ap (λ y. r.defers y k) the_node ∙ ap (r.defers ((net_after r g es).node (event_node e))) is_work

    pub plays_of : (o : Outcome S M) → r.reaction x k ≡ Some o → Plays r bound g es states l c e o
    plays_of o a = record {
      promises = promises;
      kept = kept;
      lawful = lawful;
      answer =
          ap (λ y. r.reaction y (work_at (net_after r g es) e)) (sym the_node) ∙ ap (λ z. r.reaction x z) (sym is_work) ∙ a;
    }

module _ {S M : Type 0} {r : Rules S M} {bound : Shape → ℕ} {g : Shape} {es : List Event} {states : List S} {l : ChannelsState M} {c : Counts}
    {e : Event} {o : Outcome S M} (plays : Plays r bound g es states l c e o) where
  abbrev w : Net S M
  w = net_after r g es

  abbrev v : ℕ
  v = event_node e

  kept : IsKept r g es states l c
  kept = plays.kept

  pub low : 1 ≤ event_node e
  low = (lawful_node r g w e plays.lawful).0

  pub high : event_node e ≤ g.nodes
  high = (lawful_node r g w e plays.lawful).1

  -- its messages go out on ports
  on_ports : are_on_ports r (network_of g) v o.sends ≡ true
  on_ports = rule_of r g w e (plays.promises.rules g w (is_net kept) e plays.lawful)
      (λ x a t. subst (λ (y : Outcome S M). are_on_ports r (network_of g) v y.sends ≡ true) (same x a) t)
    where
      same : (x : Outcome S M) → r.reaction (w.node v) (work_at w e) ≡ Some x → x ≡ o
      same x a = same_Some _ _ (sym a ∙ plays.answer)

  -- the messages that go out
  pub sends : AreSends r (record { graph = g; trace = es }) e o.sends
  sends = (o, plays.answer, refl)

  abbrev next : Net S M
  next = reacted r (network_of g) v o (taken_net r g e w)

  pub happens : Happens r (network_of g) w e next
  happens = happens_by r g w e o plays.lawful plays.answer on_ports

  next_after : IsAfter r (network_of g) (es ++ e ∷ []) next
  next_after = after_more r (network_of g) es e w next (after kept) happens

  pub next_is : net_after r g (es ++ e ∷ []) ≡ next
  next_is = net_after_more r g es e w next (after kept) happens

  -- the counts after the event are below 2^64
  next_few : in_all r next.sent < 2 ^ 64
  next_few =
      let a = plays.promises.bounded g next (record { graph = kept.graph; events = es ++ e ∷ []; run = next_after }) in
      let b = plays.promises.fits g kept.graph in
      omega (arith, a, b)

  sent_same : (x : Event) → (taken_net r g x w).sent ≡ w.sent
  sent_same (events.Wake u) = refl
  sent_same (events.Take u p) = go (w.queue u p)
    where
      go : (l : List M) → (first_taken r g u p l w).sent ≡ w.sent
      go [] = refl
      go (m ∷ ms) = refl

  node_same : (x : Event) → (taken_net r g x w).node ≡ w.node
  node_same (events.Wake u) = refl
  node_same (events.Take u p) = go (w.queue u p)
    where
      go : (l : List M) → (first_taken r g u p l w).node ≡ w.node
      go [] = refl
      go (m ∷ ms) = refl

  next_sent : in_all r next.sent ≡ in_all r w.sent + length o.sends
  next_sent =
      sent_in_all r (network_of g) plays.promises.kinds v o (taken_net r g e w)
      ∙ ap (λ (f : ℕ → ℕ). in_all r f + length o.sends) (sent_same e)

  next_balance : in_all r next.consumed ≤ in_all r next.sent
  next_balance =
      let b = balanced_in_all r plays.promises.kinds (network_of g) next
      (after_balanced r (network_of g) (graph_wired g kept.graph) (es ++ e ∷ []) next next_after) in
      omega (arith, b)

  -- they go out on ports of its node
  pub go_out : GoOut l v o.sends
  go_out = all_on o.sends on_ports
    where
      all_on : (ss : Outgoing M) → are_on_ports r (network_of g) v ss ≡ true → All (λ (s : ℕ × M). HasQueue l v s.0) ss
      all_on [] t = All-nil (λ (s : ℕ × M). HasQueue l v s.0)
      all_on (s ∷ ss) t =
          let h = and_parts _ _ t in
          All-cons (λ (s : ℕ × M). HasQueue l v s.0) s ss
          (port_queue kept.shows.queues.ports v s.0 (record { some = low; node = high; port = ltb-true s.0 _ h.0 })) (all_on ss h.1)

  -- its node has queues
  pub node_queues : v < length l.queues
  node_queues = let n = kept.shows.queues.ports.count in omega (arith, n, high)

  shows : Shows r g w states l c
  shows = kept.shows

  -- what may be counted
  pub fits_sent : (k : ℕ) → k < r.kinds → get_or c.sent.items k 0 + length o.sends < 2 ^ 64
  fits_sent k lt =
      let a = shows.sent.each k lt in
      let b : w.sent k ≤ in_all r w.sent = term_le r.kinds k w.sent lt in
      omega (arith, a, b, next_sent, next_few)

  -- the message of an event that takes one
  of_take : (P : Event → Type 0) → ((u p : ℕ) (m : M) (ms : List M) → At (network_of g) u p → w.queue u p ≡ m ∷ ms → P (events.Take u p)) →
      ((u : ℕ) → P (events.Wake u)) → (x : Event) → is_lawful r (network_of g) w x ≡ true → P x
  of_take P f k (events.Wake u) h = k u
  of_take P f k (events.Take u p) h = go (w.queue u p) refl
    where
      go : (l : List M) → w.queue u p ≡ l → P (events.Take u p)
      go [] z =
          let b = (and_parts (is_port (network_of g) u p) (nat_lt 0 (length (w.queue u p))) h).1 in
          absurd (let y = ltb-true 0 0 (ap (λ (t : List M). nat_lt 0 (length t)) (sym z) ∙ b) in omega (arith, y))
      go (m ∷ ms) z = f u p m ms (at_of (network_of g) u p (and_parts (is_port (network_of g) u p) (nat_lt 0 (length (w.queue u p))) h).0) z

  -- what an event consumes, and what it defers
  abbrev consumes : Event → ℕ
  consumes (events.Wake u) = 0
  consumes (events.Take u p) = cond (defers_at r w (events.Take u p)) 0 1

  abbrev puts_off : Event → ℕ
  puts_off (events.Wake u) = 0
  puts_off (events.Take u p) = cond (defers_at r w (events.Take u p)) 1 0

  later_so : (u p : ℕ) (m : M) (ms : List M) → w.queue u p ≡ m ∷ ms → defers_at r w (events.Take u p) ≡ r.defers (w.node u) (Deliver p m)
  later_so u p m ms z = ap (λ (l : List M). r.defers (w.node u) (delivery p l)) z

  taken_consumed : (x : Event) → is_lawful r (network_of g) w x ≡ true → in_all r (taken_net r g x w).consumed ≡ in_all r w.consumed + consumes x
  taken_consumed =
      of_take (λ x. in_all r (taken_net r g x w).consumed ≡ in_all r w.consumed + consumes x)
      (λ u p m ms at z.
      ap (λ (l : List M). in_all r (first_taken r g u p l w).consumed) z ∙ taken_in_all r (network_of g) plays.promises.kinds u p m ms w
      ∙ ap (λ b. in_all r w.consumed + cond b 0 1) (sym (later_so u p m ms z)))
      (λ u. omega arith)

  taken_deferred : (x : Event) → is_lawful r (network_of g) w x ≡ true → (taken_net r g x w).deferred ≡ w.deferred + puts_off x
  taken_deferred =
      of_take (λ x. (taken_net r g x w).deferred ≡ w.deferred + puts_off x)
      (λ u p m ms at z.
      ap (λ (l : List M). (first_taken r g u p l w).deferred) z ∙ take_defers r (network_of g) u p m ms w
      ∙ ap (λ b. w.deferred + cond b 1 0) (sym (later_so u p m ms z)))
      (λ u. omega arith)

  next_deferred : next.deferred ≡ w.deferred + puts_off e
  next_deferred = deferred_now r (network_of g) v o (taken_net r g e w) ∙ taken_deferred e plays.lawful

  next_consumed : in_all r next.consumed ≡ in_all r w.consumed + consumes e
  next_consumed =
      ap (λ (f : ℕ → ℕ). in_all r f) (consumed_now r (network_of g) v o (taken_net r g e w)) ∙ taken_consumed e plays.lawful

  one : Consumes (defers_at r w e) e → consumes e ≡ 1
  one = go e
    where
      go : (x : Event) → Consumes (defers_at r w x) x → consumes x ≡ 1
      go (events.Wake u) z = absurd z
      go (events.Take u p) z = rw z refl

  -- once the sends are counted
  module _ (c' : Counts) (s : CountsSends r o.sends c c') where
    pub fits_taken : Consumes (defers_at r w e) e → (k : ℕ) → k < r.kinds → get_or c'.consumed.items k 0 + 1 < 2 ^ 64
    fits_taken t k lt =
        let a = ap (λ (l : List ℕ). get_or l k 0) s.consumed ∙ shows.consumed.each k lt in
        let b : w.consumed k ≤ in_all r w.consumed = term_le r.kinds k w.consumed lt in
        omega (arith, a, b, next_consumed, one t, next_balance, next_few)

    pub kinds_still : length c'.consumed.items ≡ r.kinds
    kinds_still = ap (λ (l : List ℕ). length l) s.consumed ∙ shows.consumed.many

  -- where it takes a message one waits
  pub waits : WaitsAt e l
  waits = go e plays.lawful
    where
      go : (x : Event) → is_lawful r (network_of g) w x ≡ true → WaitsAt x l
      go (events.Wake u) h = tt
      go (events.Take u p) h =
          let b = and_parts _ _ h in
          let at = at_of (network_of g) u p b.0 in (
            port_queue kept.shows.queues.ports u p at,
            subst (λ (ms : List M). 0 < length ms) (sym (kept.shows.queues.queue u p at)) (ltb-true 0 _ b.1),
          )

  -- once the message is taken
  module _ (c' d : Counts) (m : ChannelsState M) (s : CountsSends r o.sends c c') (t : TakesIn r (defers_at r w e) e l m c' d) where
    -- what the event has taken, if anything
    takes : (P : Event → Type 0) →
        ((u p : ℕ) (x : M) (xs : List M) → u ≡ v → At (network_of g) u p → w.queue u p ≡ x ∷ xs →
        TakesFirst r (r.defers (w.node u) (Deliver p x)) u p x l m c' d → P (events.Take u p)) →
        ((u : ℕ) → m ≡ l → d ≡ c' → P (events.Wake u)) →
        P e
    takes P f k =
        of_take (λ y. event_node y ≡ v → TakesIn r (defers_at r w y) y l m c' d → P y)
        (λ u p x xs at is z y.
        f u p x xs z at is
        (subst (λ b. TakesFirst r b u p x l m c' d) (later_so u p x xs is) (y x xs (kept.shows.queues.queue u p at ∙ is))))
        (λ u z y. k u y.0 y.1) e plays.lawful refl t

    pub taken_ports : SamePorts l m
    taken_ports = takes (λ x. SamePorts l m) (λ u p x xs z at is taken. taken.queues.ports) (λ u x y. rw x (same_alike l))

    pub taken_for : IsFor g m
    taken_for = same_for g l m taken_ports kept.shows.queues.ports

    pub taken_some : IsForSome m
    taken_some = (g, taken_for)

    pub taken_start : (n : ℕ) → n ≡ first_queue l v → n ≡ first_queue m v
    taken_start n z = z ∙ sym (same_first l m taken_ports v)

    pub taken_out : GoOut m v o.sends
    taken_out i x lt = (taken_ports.queues _ _).0 (go_out i x lt)

    -- taking needs no room
    pub taken_room : HasRoomFor v o.sends l → HasRoomFor v o.sends m
    taken_room room =
        takes (λ x. HasRoomFor v o.sends m)
        (λ u p x xs z at is taken.
        room_kept g l m v o.sends kept.shows.queues.ports taken.queues.ports
        (rooms_kept l m u p _ taken.queues (first_room (r.defers (w.node u) (Deliver p x)) (state_at l u p))) room)
        (λ u x y. rw x room)

    taken_queues : AreQueues g (taken_net r g e w).queue m
    taken_queues =
        takes (λ x. AreQueues g (taken_net r g x w).queue m)
        (λ u p x xs z at is taken.
        subst (λ y. AreQueues g (first_taken r g u p y w).queue m) (sym is)
        (changed g l m u p _ (left_of (r.defers (w.node u) (Deliver p x)) x xs) kept.shows.queues taken.queues
        (first_left (r.defers (w.node u) (Deliver p x)) (state_at l u p) x xs (kept.shows.queues.queue u p at ∙ is))))
        (λ u x y. rw x kept.shows.queues)

    taken_total : total_of m + consumes e ≡ total_of l
    taken_total =
        takes (λ x. total_of m + consumes x ≡ total_of l)
        (λ u p x xs z at is taken.
        let all = taken.queues.total in
        let was : queue_at l u p ≡ x ∷ xs = kept.shows.queues.queue u p at ∙ is in
        let now = one_fewer (r.defers (w.node u) (Deliver p x)) (state_at l u p) x xs was in
        ap (λ b. total_of m + cond b 0 1) (later_so u p x xs is) ∙
        omega (arith, all, now))
        (λ u x y. let same = ap (λ (k : ChannelsState M). total_of k) x in omega (arith, same))
      where
        one_fewer : (b : Bool) (q : QueueState M) (x : M) (xs : List M) → q.list ≡ x ∷ xs →
            length (after_first b q).list + cond b 0 1 ≡ length q.list
        one_fewer true q x xs z = rw z (omega (arith, length-append xs (x ∷ [])))
        one_fewer false q x xs z = rw z (omega arith)

    -- all that waits, and what goes out, may be counted
    pub fits_total : total_of m + length o.sends < 2 ^ 64
    fits_total = let a = shows.queued in omega (arith, a, taken_total, next_sent, next_few)

  -- at the end
  module _ (c' d : Counts) (m n : ChannelsState M) (s : CountsSends r o.sends c c') (t : TakesIn r (defers_at r w e) e l m c' d)
      (out : (waits : ℕ → ℕ → List M) → AreQueues g waits m → AreQueues g (with_all_sent (network_of g) v o.sends waits) n)
      (total : total_of n ≡ total_of m + length o.sends) where
    new_queues : AreQueues g next.queue n
    new_queues =
        subst (λ (f : ℕ → ℕ → List M). AreQueues g f n)
        (sym (machine_sends r (network_of g) v o.sends
        (record (taken_net r g e w) { node = put (taken_net r g e w).node v o.state })))
        (out (taken_net r g e w).queue (taken_queues c' d m s t))

    sent_from : d.sent.items ≡ c'.sent.items → AreCounts r.kinds next.sent d.sent.items
    sent_from z = record {
      many = ap (λ (l : List ℕ). length l) z ∙ s.kinds ∙ shows.sent.many;
      each = λ k lt.
          let x = ap (λ (l : List ℕ). get_or l k 0) z in
          let a = s.sent k lt in
          let b = shows.sent.each k lt in
          let n = sent_now r (network_of g) v o (taken_net r g e w) k in
          let m = ap (λ (f : ℕ → ℕ). f k) (sent_same e) in
          omega (arith, x, a, b, n, m);
    }

    new_sent : AreCounts r.kinds next.sent d.sent.items
    new_sent =
        takes c' d m s t (λ x. AreCounts r.kinds next.sent d.sent.items) (λ u p x xs z at is taken. sent_from taken.counts.sent)
        (λ u x y. sent_from (ap (λ (n : Counts). n.sent.items) y))

    new_consumed : AreCounts r.kinds next.consumed d.consumed.items
    new_consumed =
        takes c' d m s t (λ x. AreCounts r.kinds (reacted r (network_of g) v o (taken_net r g x w)).consumed d.consumed.items)
        (λ u p x xs z at is taken.
        subst (λ y. AreCounts r.kinds (reacted r (network_of g) v o (first_taken r g u p y w)).consumed d.consumed.items) (sym is) (record {
          many = taken.counts.kinds ∙ kinds_still c' s;
          each = λ k lt.
              let a = taken.counts.consumed k lt in
              let b = ap (λ (y : List ℕ). get_or y k 0) s.consumed in
              let n = shows.consumed.each k lt in
              let f = ap (λ (y : ℕ → ℕ). y k) (consumed_now r (network_of g) v o (take_first r (network_of g) u p x xs w)) in
              let h = take_counts r (network_of g) u p x xs w k in
              omega (arith, a, b, n, f, h);
        }))
        (λ u x y. record {
          many = ap (λ (n : Counts). length n.consumed.items) y ∙ kinds_still c' s;
          each = λ k lt.
              let a = ap (λ (n : Counts). get_or n.consumed.items k 0) y in
              let b = ap (λ (l : List ℕ). get_or l k 0) s.consumed in
              let n = shows.consumed.each k lt in
              let f = ap (λ (h : ℕ → ℕ). h k) (consumed_now r (network_of g) v o w) in
              omega (arith, a, b, n, f);
        })

    new_queued : total_of n + in_all r next.consumed ≡ in_all r next.sent
    new_queued =
        let a = shows.queued in
        let b = taken_total c' d m s t in
        omega (arith, a, b, total, next_sent, next_consumed)

    new_deferred : d.deferred ≡ next.deferred
    new_deferred =
        let a = shows.deferred in
        let b = s.deferred in
        let x =
        takes c' d m s t (λ x. d.deferred ≡ c'.deferred + puts_off x)
        (λ u p x xs z at is taken. taken.counts.deferred ∙ ap (λ b. c'.deferred + cond b 1 0) (sym (later_so u p x xs is)))
        (λ u x y. let n = ap (λ (n : Counts). n.deferred) y in omega (arith, n)) in
        omega (arith, a, b, x, next_deferred)

    new_states : (ns : List S) → ns ≡ set states (v - 1) o.state → AreNodes r g next.node ns
    new_states ns z = rw z (record {
      many = length-set states (v - 1) o.state ∙ shows.states.many;
      each = λ u lo hi. ⊎_elim (here u) (there u lo hi) (cases_eq u v);
    })
      where
        inside : v - 1 < length states
        inside = let n = shows.states.many in omega (arith, n, low, high)

        now : (u : ℕ) → next.node u ≡ put w.node v o.state u
        now u =
            ap (λ (f : ℕ → S). f u) (nodes_put r (network_of g) v o (taken_net r g e w))
            ∙ ap (λ (f : ℕ → S). put f v o.state u) (node_same e)

        here : (u : ℕ) → u ≡ v → get_or (set states (v - 1) o.state) (u - 1) (no_node r) ≡ next.node u
        here u z = rw z (get_or-set_same states (v - 1) o.state (no_node r) inside ∙ sym (now v ∙ put_same w.node v o.state))

        there : (u : ℕ) → 1 ≤ u → u ≤ g.nodes → u ≢ v → get_or (set states (v - 1) o.state) (u - 1) (no_node r) ≡ next.node u
        there u lo hi ne =
            get_or-set_other states (v - 1) (u - 1) o.state (no_node r) (λ z. ne (omega (arith, z, lo, low)))
            ∙ shows.states.each u lo hi ∙ sym (now u ∙ put_other w.node v u o.state ne)

    -- the fields are those of the net after the event
    pub keeps : (ns : List S) → ns ≡ set states (v - 1) o.state → IsKept r g (es ++ e ∷ []) ns n d
    keeps ns z = record {
      graph = kept.graph;
      run = (next, next_after);
      shows = rw next_is (record {
        states = new_states ns z;
        queues = new_queues;
        sent = new_sent;
        consumed = new_consumed;
        queued = new_queued;
        deferred = new_deferred;
      });
    }
