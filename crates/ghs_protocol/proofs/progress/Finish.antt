-- Each run can be brought to its end.
use Rattle.std.proofs.Common.{◌≡◌, ◌≢◌, ℕ, zero, suc, ◌≤◌, ◌+◌, ◌*◌, Bool, true, false, Option, Some, None, List, [], ◌∷◌, ◌++◌, length, refl, sym, ◌∙◌, ap, subst, subst₂, ⊎_elim, ◌⊎◌, inl, inr, arith, cond, length-append, IsSome}
use Rattle.std.specs.List.{All}
use Rattle.std.proofs.lemmas.Bool.{cases_eq}
use Rattle.std.proofs.lemmas.Option.{same_Some}
use Rattle.std.proofs.lemmas.List.Elements.{All-nil, All-cons, All-append}
use Rattle.ghs_graph.specs.declared.key.Key.{Key}
use Rattle.ghs_graph.specs.Graph.{Shape, IsGraph}
use Rattle.ghs_graph.specs.Links.{Joined, Same, Over as Along, Back, links}
use Rattle.ghs_graph.proofs.lemmas.Joining.{joined_then, joined_back, passing, Decided, decided_joined}
use Rattle.ghs_node.specs.declared.message.Phase.TheVariants.{Sleeping}
use Rattle.ghs_node.specs.declared.message.Message.{Message}
use Rattle.ghs_node.specs.declared.delta.Fate.{Fate}
use Rattle.ghs_node.specs.declared.delta.Fate.TheVariants.{Consumed, Requeued}
use Rattle.ghs_node.specs.declared.delta.Delta.{Delta}
use Rattle.ghs_node.specs.declared.work.Work.TheVariants.{Wake, Deliver}
use Rattle.ghs_node.specs.NodeState.{NodeState}
use Rattle.ghs_node.specs.Rows.{Row}
use Rattle.ghs_node.specs.Reaction.{reaction}
use Rattle.ghs_node.proofs.lemmas.{reaction_inverts, sleeping_is, sleeping_not, is_sleeping_not, row_awake}
use Rattle.ghs_node.specs.Words.{is_sleeping}
use Rattle.peer_network.specs.declared.event.Event.{Event}
use Rattle.peer_network.specs.declared.event.Event.TheVariants.{Take}
use Rattle.peer_network.specs.declared.event.Event.TheVariants as events
use Rattle.peer_network.specs.Network.{Network, network_of, port_at, At, far, InNetwork}
use Rattle.peer_network.proofs.lemmas.Wired.{IsWired}
use Rattle.ghs_protocol.specs.Net.{Net, opening, happens, is_lawful, effect, one_if_requeued}
use Rattle.ghs_protocol.specs.Run.{and_then, run}
use Rattle.ghs_protocol.specs.Ledger.{in_all}
use Rattle.peer_network.specs.Sums.{sum_below}
use Rattle.ghs_protocol.specs.Marks.{HasEnded, HasHalted, Leads, Here, Over}
use Rattle.ghs_protocol.specs.Steps.{Happens, Woke, Took, taken, reacted}
use Rattle.ghs_protocol.specs.Laws.{IsNetOf}
use Rattle.ghs_protocol.specs.Living.{Waits, Unended, GoesOn, IsTake, AnyLink, Finish, EveryRunCanEnd, SilentNetsHaveEnded, SilentNetsAreExact, RunsAreShort}
use Rattle.peer_network.proofs.lemmas.Graphs.{graph_wired, graph_few, port_ends, is_key}
use Rattle.ghs_protocol.proofs.lemmas.Events.{happening, happens_so, lawful_happens}
use Rattle.peer_network.proofs.lemmas.Events.{is_port_of}
use Rattle.ghs_protocol.proofs.lemmas.Runs.{after_more, run_joins, both_some}
use Rattle.ghs_protocol.proofs.every_run.Counts.{run_counts}
use Rattle.ghs_protocol.proofs.lemmas.Sends.{node_here, consumed_now, requeued_now}
use Rattle.ghs_protocol.proofs.lemmas.Effects.{taken_here, taken_requeued}
use Rattle.ghs_protocol.proofs.lemmas.Lasting.{event_lasts}
use Rattle.ghs_protocol.proofs.every_run.Firsts.{ledger_balances}
use Rattle.ghs_protocol.proofs.every_run.Interleavings.{events_have_rules}
use Rattle.peer_network.proofs.lemmas.Sums.{sum_most, sum_few, sum_less, node_before}
use Rattle.ghs_protocol.proofs.lemmas.Woken.{awake_row}
use Rattle.ghs_protocol.proofs.lemmas.WellFormed.{IsWellFormed, after_formed, opening_formed, event_formed, event_row}
use Rattle.ghs_protocol.proofs.progress.Requeues.{fate_is, turned, turns, turn_happens}
use Rattle.ghs_protocol.proofs.every_run.Trees.{join_leads, leads_join}
use Rattle.ghs_protocol.proofs.every_run.Sound.{halt_is_exact}
use Rattle.ghs_protocol.proofs.charges.Bound.{sends_within}
use Rattle.ghs_protocol.proofs.progress.Runs.{no_run_is_stuck, silence_is_end}
use Rattle.ghs_protocol.proofs.lemmas.Queues.{same_first}

-- 1 where the node is awake
abbrev pub awake_one : NodeState → ℕ
awake_one n = cond (is_sleeping n.head.phase) 0 1

pub awake_few : (n : NodeState) → awake_one n ≤ 1
awake_few n = go (is_sleeping n.head.phase)
  where
    go : (b : Bool) → cond b 0 1 ≤ 1
    go true = omega arith
    go false = omega arith

pub awake_is : (n : NodeState) → n.head.phase ≢ Sleeping → awake_one n ≡ 1
awake_is n up = ap (λ b. cond b 0 1) (is_sleeping_not n.head.phase up)

pub asleep_is : (n : NodeState) → n.head.phase ≡ Sleeping → awake_one n ≡ 0
asleep_is n e = ap (λ b. cond b 0 1) (ap is_sleeping e)

-- asleep or not
pub phase_is : (n : NodeState) → (n.head.phase ≡ Sleeping) ⊎ (n.head.phase ≢ Sleeping)
phase_is n = go (is_sleeping n.head.phase) refl
  where
    go : (b : Bool) → is_sleeping n.head.phase ≡ b → (n.head.phase ≡ Sleeping) ⊎ (n.head.phase ≢ Sleeping)
    go true e = inl (sleeping_is n.head.phase e)
    go false e = inr (sleeping_not n.head.phase e)

awake_stays : (n m : NodeState) → (n.head.phase ≢ Sleeping → m.head.phase ≢ Sleeping) → awake_one n ≤ awake_one m
awake_stays n m keeps =
    ⊎_elim (λ e. let z = asleep_is n e in omega (arith, z))
    (λ up. let z = awake_is n up in let y = awake_is m (keeps up) in omega (arith, z, y))
    (phase_is n)

-- how many nodes are awake; and what each event but a requeue raises
abbrev pub awake_count : Network → Net → ℕ
awake_count g w = sum_below g.count (λ i. awake_one (w.node (suc i)))

abbrev pub reached : Network → Net → ℕ
reached g w = in_all w.consumed + awake_count g w

requeue_few : (f : Fate) → one_if_requeued f ≤ 1
requeue_few Consumed = omega arith
requeue_few Requeued = omega arith

-- Looking through the nodes.
abbrev pub Found_in : (ℕ → Type 0) → ℕ → Type 0
Found_in P n = (v : ℕ) × (1 ≤ v) × (v ≤ n) × P v

pub search : (P Q : ℕ → Type 0) → ((v : ℕ) → P v ⊎ Q v) → (n : ℕ) → Found_in P n ⊎ ((v : ℕ) → 1 ≤ v → v ≤ n → Q v)
search P Q test zero = inr (λ v lo hi. absurd (omega (arith, lo, hi)))
search P Q test (suc n) =
    ⊎_elim (λ z. inl (z.0, z.1, (let hi = z.2 in omega (arith, hi)), z.3)) (λ none. last none (test (suc n))) (search P Q test n)
  where
    last : ((v : ℕ) → 1 ≤ v → v ≤ n → Q v) → P (suc n) ⊎ Q (suc n) → Found_in P (suc n) ⊎ ((v : ℕ) → 1 ≤ v → v ≤ suc n → Q v)
    last none (inl p) = inl (suc n, omega arith, omega arith, p)
    last none (inr q) = inr (λ v lo hi. ⊎_elim (λ (e : v ≡ suc n). subst Q (sym e) q) (λ ne. none v lo (omega (arith, hi, ne))) (cases_eq v (suc n)))

holds_in : {P : Type 0} → Decided P → Bool
holds_in (inl p) = true
holds_in (inr p) = false

holds_so : {P : Type 0} → (d : Decided P) → holds_in d ≡ true → P
unfolding holds_in
holds_so (inl p) e = p
holds_so (inr p) e = cc

so_holds : {P : Type 0} → (d : Decided P) → P → holds_in d ≡ true
unfolding holds_in
so_holds (inl p) h = refl
so_holds (inr p) h = absurd (p h)

truth : (b : Bool) → (b ≡ true) ⊎ (b ≢ true)
truth true = inl refl
truth false = inr (λ e. cc)

joined_map : {S T : Key → Type 0} → ((k : Key) → S k → T k) → {u v : ℕ} → Joined S u v → Joined T u v
joined_map f Same = Same
joined_map f (Along k s j) = Along k (f k s) (joined_map f j)
joined_map f (Back k s j) = Back k (f k s) (joined_map f j)

module _ (g : Shape) (graph : IsGraph g) where
  abbrev any : Key → Type 0
  any = passing (λ k. true) g.keys

  -- one port further is in the same component
  pub over_port : (x p : ℕ) → At (network_of g) x p → Joined (passing (λ k. true) g.keys) x (far (network_of g) x p)
  over_port x p at =
      ⊎_elim (λ e. subst₂ (Joined any) (sym e.0) (sym e.1) (Along k has Same))
      (λ e. subst₂ (Joined any) (sym e.0) (sym e.1) (Back k has Same))
      (port_ends g graph x p at)
    where
      k : Key
      k = (port_at (network_of g) x p).key

      has : any (port_at (network_of g) x p).key
      has = (is_key g graph x p at, refl)

  pub component : ℕ → ℕ → Bool
  component v x = holds_in (decided_joined (λ k. true) g.keys v x)

  pub comes : (v x : ℕ) → component v x ≡ true → Leads (network_of g) AnyLink v x
  unfolding component
  comes v x e = join_leads g graph any AnyLink (λ k t. t.0) (λ a p at t. tt) (λ a p at t. tt) (holds_so (decided_joined (λ k. true) g.keys v x) e)

  pub component_self : (v : ℕ) → component v v ≡ true
  unfolding component
  component_self v = so_holds (decided_joined (λ k. true) g.keys v v) Same

  pub component_closed : (v x p : ℕ) → At (network_of g) x p → component v x ≡ true → component v (far (network_of g) x p) ≡ true
  unfolding component
  component_closed v x p at e =
      so_holds (decided_joined (λ k. true) g.keys v (far (network_of g) x p))
      (joined_then (holds_so (decided_joined (λ k. true) g.keys v x) e) (over_port x p at))

  -- a component is what links join
  pub component_joined : (v x : ℕ) → component v x ≡ true → Joined (links g.keys) v x
  unfolding component
  component_joined v x e = joined_map (λ k t. t.0) (holds_so (decided_joined (λ k. true) g.keys v x) e)

  pub joined_component : (v x : ℕ) → Joined (links g.keys) v x → component v x ≡ true
  unfolding component
  joined_component v x j = so_holds (decided_joined (λ k. true) g.keys v x) (joined_map (λ k t. (t, refl)) j)

  module _ (w : Net) where
    -- awake, in a component where none has halted
    abbrev pub Open : ℕ → Type 0
    Open v = ((w.node v).head.phase ≢ Sleeping) × ((u : ℕ) → 1 ≤ u → u ≤ g.nodes → component v u ≡ true → HasHalted w u → ⊥)

    abbrev pub Ended : ℕ → Type 0
    Ended v = (w.node v).head.phase ≢ Sleeping → (u : ℕ) × Leads (network_of g) AnyLink v u × HasHalted w u

    abbrev pub Halt : ℕ → ℕ → Type 0
    Halt v u = (component v u ≡ true) × HasHalted w u

    halt : (v u : ℕ) → Halt v u ⊎ (component v u ≡ true → HasHalted w u → ⊥)
    halt v u =
        ⊎_elim
        (λ c. ⊎_elim (λ h. inl (c, h)) (λ ne. inr (λ x h. ne h)) (truth (w.node u).head.halted))
        (λ ne. inr (λ c h. ne c)) (truth (component v u))

    pub test : (v : ℕ) → Open v ⊎ Ended v
    test v =
        ⊎_elim (λ e. inr (λ up. absurd (up e)))
        (λ up. ⊎_elim (λ z. inr (λ y. (z.0, comes v z.0 z.3.0, z.3.1))) (λ none. inl (up, none))
        (search (Halt v) (λ u. component v u ≡ true → HasHalted w u → ⊥) (halt v) g.nodes))
        (phase_is (w.node v))

    pub unended : (v : ℕ) → 1 ≤ v → v ≤ g.nodes → Open v → Unended (network_of g) w (component v)
    unended v lo hi o = record {
      closed = λ x p at. component_closed v x p at;
      node = v;
      is = record { some = lo; node = hi };
      member = component_self v;
      awake = o.0;
      none_halted = λ u is c. o.1 u is.some is.node c;
    }

    -- a component in which none has halted, or the run has ended
    abbrev pub NoneHalted : ℕ → Type 0
    NoneHalted v = (u : ℕ) → 1 ≤ u → u ≤ g.nodes → component v u ≡ true → HasHalted w u → ⊥

    pub open_or_ended : Found_in NoneHalted g.nodes ⊎ HasEnded g w
    open_or_ended = ⊎_elim
        inl
        (λ all. inr (λ v lo hi. let z = all v lo hi in (z.0, z.1, z.2, component_joined v z.0 z.3.0, z.3.1)))
        (search NoneHalted (λ v. Found_in (Halt v) g.nodes)
        (λ v. ⊎_elim inr inl (search (Halt v) (λ u. component v u ≡ true → HasHalted w u → ⊥) (halt v) g.nodes)) g.nodes)

    -- an unended component, or each node that is awake comes to one that has halted
    pub going :
        ((v : ℕ) × Unended (network_of g) w (component v)) ⊎
        ((v : ℕ) → InNetwork (network_of g) v → (w.node v).head.phase ≢ Sleeping → (u : ℕ) × Leads (network_of g) AnyLink v u × HasHalted w u)
    going = ⊎_elim (λ z. inl (z.0, unended z.0 z.1 z.2 z.3)) (λ all. inr (λ v is up. all v is.some is.node up)) (search Open Ended test g.nodes)

  -- a net of a run, one event later
  pub later : (w w' : Net) (e : Event) → IsNetOf g w → Happens (network_of g) w e w' → IsNetOf g w'
  later w w' e n h = record { graph = graph; events = n.events ++ e ∷ []; run = after_more (network_of g) n.events e w w' n.run h }

  -- a message that waits at a port can be taken
  pub can_take : (w : Net) →
      IsNetOf g w →
      (v p : ℕ) → At (network_of g) v p →
      (m : Message) (ms : List Message) → w.queue v p ≡ m ∷ ms →
      (w' : Net) × Happens (network_of g) w (Take v p) w'
  can_take w n v p at m ms q = go (effect (network_of g) w (Take v p)) refl (events_have_rules g w n (Take v p) lawful)
    where
      lawful : is_lawful (network_of g) w (Take v p) ≡ true
      lawful = rw (is_port_of (network_of g) v p at, q) refl

      go : (o : Option Net) →
          effect (network_of g) w (Take v p) ≡ o →
          IsSome (effect (network_of g) w (Take v p)) →
          (w' : Net) × Happens (network_of g) w (Take v p) w'
      go None e s = absurd (let z = s in cc)
      go (Some x) e s = (x, happening (network_of g) w x (Take v p) (lawful_happens (network_of g) w (Take v p) lawful ∙ e))

  pub formed : (w : Net) → IsNetOf g w → IsWellFormed (network_of g) w
  formed w n = after_formed (network_of g) (graph_wired g graph) (graph_few g graph) n.events w n.run

  counts : (w w' : Net) (v p : ℕ) → Happens (network_of g) w (Take v p) w' → in_all w'.consumed + w'.requeued ≡ in_all w.consumed + w.requeued + 1
  counts w w' v p h = run_counts (network_of g) (Take v p ∷ []) w w' (ap (λ o. and_then o (λ x. Some x)) (happens_so h))

  requeued_most : (w w' : Net) (e : Event) → Happens (network_of g) w e w' → w'.requeued ≤ suc w.requeued
  requeued_most w _ _ (Woke v d lo hi s r) = let z = requeued_now (network_of g) v d w in omega (arith, z)
  requeued_most w _ _ (Took v p m ms d at q r) =
      let z = taken_requeued (network_of g) v p m ms d w in let y = requeue_few d.fate in omega (arith, z, y)

  awake_grows : (w w' : Net) (e : Event) → IsNetOf g w → Happens (network_of g) w e w' → awake_count (network_of g) w ≤ awake_count (network_of g) w'
  awake_grows w w' e n h =
      sum_most g.nodes (λ i. awake_one (w.node (suc i))) (λ i. awake_one (w'.node (suc i)))
      (λ i lt.
      awake_stays (w.node (suc i)) (w'.node (suc i)) ((event_lasts (network_of g) (graph_wired g graph) w w' e (formed w n) h (suc i)).awake))

  pub grows : (w w' : Net) (v p : ℕ) → IsNetOf g w → Happens (network_of g) w (Take v p) w' → reached (network_of g) w ≤ reached (network_of g) w'
  grows w w' v p n h =
      let a = counts w w' v p h in
      let c = requeued_most w w' (Take v p) h in
      let d = awake_grows w w' (Take v p) n h in
      omega (arith, a, c, d)

  -- a message that waits stands first at this port
  pub record Held (w : Net) (v p : ℕ) : Type 0 where
    pub message : Message
    pub behind : List Message
    pub at : At (network_of g) v p
    pub queue : w.queue v p ≡ message ∷ behind
    pub waits : Waits (w.node v) p message

  -- a message that doesn't wait is consumed, or wakes its node
  pub real : (w w' : Net) (e : Event) →
      IsNetOf g w →
      (v p : ℕ) → e ≡ Take v p →
      Happens (network_of g) w e w' →
      (suc (reached (network_of g) w) ≤ reached (network_of g) w') ⊎ Held w v p
  real w _ _ n x y is (Woke v d lo hi s r) = cc
  real w _ _ n x y is (Took v p m ms d at q r) = ⊎_elim (λ e. inl (slept e)) woke (phase_is (w.node v))
    where
      w' : Net
      w' = taken (network_of g) v p m ms d w

      h : Happens (network_of g) w (Take v p) (taken (network_of g) v p m ms d w)
      h = Took v p m ms d at q r

      row : Row (w.node v) (Deliver p m) d
      row = event_row (network_of g) (graph_wired g graph) v (w.node v) p m d at ((formed w n).nodes v) r

      awakes : ((taken (network_of g) v p m ms d w).node v).head.phase ≢ Sleeping
      awakes =
          subst (λ (y : NodeState). y.head.phase ≢ Sleeping) (sym (taken_here (network_of g) v p m ms d w))
          (row_awake (w.node v) (Deliver p m) d row)

      slept : (w.node v).head.phase ≡ Sleeping → suc (reached (network_of g) w) ≤ reached (network_of g) (taken (network_of g) v p m ms d w)
      slept e =
          let i = node_before v at.some in
          let a = counts w (taken (network_of g) v p m ms d w) v p h in
          let c = requeued_most w (taken (network_of g) v p m ms d w) (Take v p) h in
          let f = asleep_is (w.node v) e in
          let t = awake_is ((taken (network_of g) v p m ms d w).node v) awakes in
          let hi = at.node in
          let same = i.1 in
          let s =
          sum_less g.nodes i.0 (λ i. awake_one (w.node (suc i))) (λ i. awake_one ((taken (network_of g) v p m ms d w).node (suc i)))
          (omega (arith, hi, same))
          (λ i lt.
          awake_stays (w.node (suc i)) ((taken (network_of g) v p m ms d w).node (suc i))
          ((event_lasts (network_of g) (graph_wired g graph) w (taken (network_of g) v p m ms d w) (Take v p) (formed w n) h (suc i)).awake))
          (subst (λ y. suc (awake_one (w.node y)) ≤ awake_one ((taken (network_of g) v p m ms d w).node y)) same (omega (arith, f, t))) in
          omega (arith, a, c, s)

      held : Waits (w.node v) p m → Held w x y
      held z =
          let ea : v ≡ x = cc in let eb : p ≡ y = cc in subst₂ (Held w) ea eb (record { message = m; behind = ms; at = at; queue = q; waits = z })

      woke :
          (w.node v).head.phase ≢ Sleeping →
          (suc (reached (network_of g) w) ≤ reached (network_of g) (taken (network_of g) v p m ms d w)) ⊎ Held w x y
      woke up =
          ⊎_elim
          (λ c. inl
          (let a = counts w (taken (network_of g) v p m ms d w) v p h in
          let k = taken_requeued (network_of g) v p m ms d w in
          let o = ap one_if_requeued c in
          let s = awake_grows w (taken (network_of g) v p m ms d w) (Take v p) n h in
          omega (arith, a, k, o, s)))
          (λ z. inr (held z)) (fate_is (w.node v) p m d up (awake_row up row))

  -- a Take or two, of which one gets further
  pub record Advance (w : Net) : Type 0 where
    pub events : List Event
    pub takes : All IsTake events
    pub few : length events ≤ 2
    pub next : Net
    pub leads : run (network_of g) events w ≡ Some next
    pub is : IsNetOf g next
    pub more : suc (reached (network_of g) w) ≤ reached (network_of g) next

  pub gets_on : (w w' : Net) (v p : ℕ) →
      IsNetOf g w →
      (m : Message) (ms : List Message) → w.queue v p ≡ m ∷ ms →
      (Waits (w.node v) p m → ⊥) →
      Happens (network_of g) w (Take v p) w' →
      suc (reached (network_of g) w) ≤ reached (network_of g) w'
  gets_on w w' v p n m ms q goes h =
      ⊎_elim (λ z. z)
      (λ z. absurd (goes (subst (Waits (w.node v) p) (same_first z.message m z.behind ms (sym z.queue ∙ q)) z.waits)))
      (real w w' (Take v p) n v p refl h)

  pub advance : (w : Net) → IsNetOf g w → (S : ℕ → Bool) → GoesOn (network_of g) w S → Advance w
  advance w n S z = go z.before z.queue z.waiting z.few
    where
      first : Event
      first = Take z.node z.port

      go : (before : List Message) →
          w.queue z.node z.port ≡ before ++ z.message ∷ z.behind →
          All (Waits (w.node z.node) z.port) before →
          length before ≤ 1 →
          Advance w
      go [] q a f =
          let t = can_take w n z.node z.port z.at z.message z.behind q in
          record {
            events = Take z.node z.port ∷ [];
            takes = All-cons IsTake (Take z.node z.port) [] tt (All-nil IsTake);
            few = omega arith;
            next = t.0;
            leads = ap (λ o. and_then o (λ x. Some x)) (happens_so t.1);
            is = later w t.0 (Take z.node z.port) n t.1;
            more = gets_on w t.0 z.node z.port n z.message z.behind q z.goes t.1;
          }
      go (m ∷ []) q a f =
          let rest = z.message ∷ z.behind in
          let w1 = turned (network_of g) w z.node z.port m rest in
          let h1 = turn_happens (network_of g) w z.node z.port m rest z.at ((formed w n).nodes z.node) q (a 0 m (omega arith)) in
          let s1 = turns (network_of g) w z.node z.port m rest in
          let n1 = later w w1 (Take z.node z.port) n h1 in
          let t = can_take w1 n1 z.node z.port z.at z.message (z.behind ++ m ∷ []) s1.queue in
          record {
            events = Take z.node z.port ∷ (Take z.node z.port ∷ []);
            takes = All-cons IsTake (Take z.node z.port) (Take z.node z.port ∷ []) tt (All-cons IsTake (Take z.node z.port) [] tt (All-nil IsTake));
            few = omega arith;
            next = t.0;
            leads =
                ap (λ o. and_then o (λ x. run (network_of g) (Take z.node z.port ∷ []) x)) (happens_so h1) ∙
                ap (λ o. and_then o (λ x. Some x)) (happens_so t.1);
            is = later w1 t.0 (Take z.node z.port) n1 t.1;
            more =
                let a1 = grows w w1 z.node z.port n h1 in
                let a2 = gets_on w1 t.0 z.node z.port n1 z.message (z.behind ++ m ∷ []) s1.queue
                (subst (λ y. Waits y z.port z.message → ⊥) (sym (s1.nodes z.node)) z.goes) t.1 in
                omega (arith, a1, a2);
          }
      go (m ∷ (k ∷ xs)) q a f = absurd (omega (arith, f))

  -- nobody has to go on
  ends_here : (k : ℕ) (w : Net) →
      ((v : ℕ) → InNetwork (network_of g) v → (w.node v).head.phase ≢ Sleeping → (u : ℕ) × Leads (network_of g) AnyLink v u × HasHalted w u) →
      Finish (network_of g) w (2 * k)
  ends_here k w all = record { events = []; takes = All-nil IsTake; few = omega arith; end_net = w; run = refl; ended = all }

  goes_further : (k : ℕ) (w : Net) → (a : Advance w) → Finish (network_of g) a.next (2 * k) → Finish (network_of g) w (2 * suc k)
  goes_further k w a f = record {
    events = a.events ++ f.events;
    takes = All-append IsTake a.events f.events a.takes f.takes;
    few = (let x = a.few in let y = f.few in let l = length-append a.events f.events in omega (arith, x, y, l));
    end_net = f.end_net;
    run = run_joins (network_of g) a.events f.events w a.next a.leads ∙ f.run;
    ended = f.ended;
  }

  module _ (b : ℕ) (within : (w : Net) → IsNetOf g w → in_all w.sent ≤ b) where
    pub most : (w : Net) → IsNetOf g w → reached (network_of g) w ≤ b + g.nodes
    most w n =
        let l = ledger_balances g w n in
        let s = within w n in
        let a = sum_few g.nodes (λ i. awake_one (w.node (suc i))) (λ i. awake_few (w.node (suc i))) in
        omega (arith, l, s, a)

    pub finishes : (k : ℕ) (w : Net) → IsNetOf g w → b + g.nodes ≤ k + reached (network_of g) w → Finish (network_of g) w (2 * k)
    finishes zero w n le =
        ⊎_elim (λ z.
        absurd (let a = advance w n (component z.0) (no_run_is_stuck g w n (component z.0) z.1) in
        let m = most a.next a.is in let x = a.more in omega (arith, m, x, le)))
        (ends_here zero w) (going w)
    finishes (suc k) w n le =
        ⊎_elim (λ z.
        let a = advance w n (component z.0) (no_run_is_stuck g w n (component z.0) z.1) in
        goes_further k w a (finishes k a.next a.is (let x = a.more in omega (arith, x, le))))
        (ends_here (suc k) w) (going w)

pub every_run_can_end : EveryRunCanEnd
every_run_can_end g w n b is = finishes g n.graph b (λ x m. sends_within g x m b is) (b + g.nodes) w n (omega arith)

pub silent_nets_have_ended : SilentNetsHaveEnded
silent_nets_have_ended g w n silent =
    ⊎_elim (λ z. let m = silence_is_end g w n (component g n.graph z.0) z.1 in absurd (m.4 (silent m.0 m.1 m.2))) (λ all. all) (going g n.graph w)

-- links lead to nodes of the network
pub leads_inside : (g : Network) → IsWired g → {v u : ℕ} → Leads g AnyLink v u → InNetwork g v → InNetwork g u
leads_inside g wired Here is = is
leads_inside g wired {v} (Over p at x rest) is = leads_inside g wired rest (let t = wired.there v p at in record { some = t.some; node = t.node })

pub silent_nets_are_exact : SilentNetsAreExact
silent_nets_are_exact g w n silent v is up k has way =
    let h = silent_nets_have_ended g w n silent v is up in
    let u = leads_inside (network_of g) (graph_wired g n.graph) h.1 is in
    let back = joined_back (leads_join g n.graph (links g.keys) AnyLink (λ a p at x. is_key g n.graph a p at) h.1) in
    halt_is_exact g w n h.0 u.some u.node h.2 k has (joined_then back way)

-- each event raises what is consumed, what is put back, and who is awake, together by one at least
module _ (g : Network) (wired : IsWired g) where
  pub woken_more : (w : Net) →
      IsWellFormed g w →
      (v : ℕ) (d : Delta) → 1 ≤ v →
      v ≤ g.count →
      (w.node v).head.phase ≡ Sleeping →
      reaction (w.node v) Wake ≡ Some d →
      suc (awake_count g w) ≤ awake_count g (reacted g v d w)
  woken_more w f v d lo hi s r =
      let i = node_before v lo in
      let same = i.1 in
      let e = asleep_is (w.node v) s in
      let up : ((reacted g v d w).node v).head.phase ≢ Sleeping = subst (λ (y : NodeState). y.head.phase ≢ Sleeping) (sym (node_here g v d w))
      (row_awake (w.node v) Wake d (reaction_inverts (w.node v) Wake d tt r)) in
      let t = awake_is ((reacted g v d w).node v) up in
      sum_less g.count i.0 (λ i. awake_one (w.node (suc i))) (λ i. awake_one ((reacted g v d w).node (suc i))) (omega (arith, hi, same))
      (λ i lt.
      awake_stays (w.node (suc i)) ((reacted g v d w).node (suc i))
      ((event_lasts g wired w (reacted g v d w) (events.Wake v) f (Woke v d lo hi s r) (suc i)).awake))
      (subst (λ y. suc (awake_one (w.node y)) ≤ awake_one ((reacted g v d w).node y)) same (omega (arith, e, t)))

  event_more : (w w' : Net) (e : Event) →
      IsWellFormed g w →
      Happens g w e w' →
      suc (in_all w.consumed + w.requeued + awake_count g w) ≤ in_all w'.consumed + w'.requeued + awake_count g w'
  event_more w _ _ f (Woke v d lo hi s r) =
      let a = woken_more w f v d lo hi s r in
      let c = ap in_all (consumed_now g v d w) in
      let k = requeued_now g v d w in
      omega (arith, a, c, k)
  event_more w _ _ f (Took v p m ms d at q r) =
      let h = Took v p m ms d at q r in
      let a = run_counts g (Take v p ∷ []) w (taken g v p m ms d w) (ap (λ o. and_then o (λ x. Some x)) (happens_so h)) in
      let s =
      sum_most g.count (λ i. awake_one (w.node (suc i))) (λ i. awake_one ((taken g v p m ms d w).node (suc i)))
      (λ i lt.
      awake_stays (w.node (suc i)) ((taken g v p m ms d w).node (suc i))
      ((event_lasts g wired w (taken g v p m ms d w) (events.Take v p) f h (suc i)).awake))
      in
      omega (arith, a, s)

  pub run_short : (es : List Event) (w w' : Net) →
      IsWellFormed g w →
      run g es w ≡ Some w' →
      length es + (in_all w.consumed + w.requeued + awake_count g w) ≤ in_all w'.consumed + w'.requeued + awake_count g w'
  run_short [] w w' f h =
      subst
      (λ (x : Net). 0 + (in_all w.consumed + w.requeued + awake_count g w) ≤ in_all x.consumed + x.requeued + awake_count g x)
      (same_Some w w' h) (omega arith)
  run_short (e ∷ es) w w' f h =
      both_some (happens g w e) (λ x. run g es x) w' h
      (λ x a b.
      let one = happening g w x e a in
      let y = event_more w x e f one in
      let z = run_short es x w' (event_formed g wired w x e f one) b in
      omega (arith, y, z))

pub runs_are_short : RunsAreShort
runs_are_short g ok es w h =
    let a = run_short (network_of g) (graph_wired g ok) es (opening (network_of g)) w (opening_formed (network_of g) (graph_few g ok)) h in
    let l = ledger_balances g w (record { graph = ok; events = es; run = h }) in
    let s = sum_few g.nodes (λ i. awake_one (w.node (suc i))) (λ i. awake_few (w.node (suc i))) in
    omega (arith, a, l, s)
