-- What an event of a round, and the beginning of the next, leave of a run by rounds.
use Rattle.std.proofs.Common.{◌≡◌, ◌≢◌, ℕ, suc, ◌<◌, ◌≤◌, Bool, true, false, ◌&&◌, not, Some, Option, List, [], ◌∷◌, ◌++◌, length, filter, refl, sym, ◌∙◌, ap, subst, ⊎_elim, inl, inr, ◌⊎◌, arith, length-append}
use Rattle.std.specs.List.{All, Contains, slice_get}
use Rattle.std.proofs.lemmas.Bool.{and_from, and_parts, both_ways, cases_Bool, cases_eq, le-leb, leb-false, leb-true, not-true}
use Rattle.std.specs.Prelude.{nat_le}
use Rattle.std.proofs.lemmas.List.Elements.{All-nil, All-cons}
use Rattle.std.proofs.lemmas.Option.{same_Some}
use Rattle.ghs_graph.specs.Graph.{Shape}
use Rattle.ghs_graph.proofs.lemmas.Members.{filter_has, nothing_in}
use Rattle.ghs_node.specs.declared.delta.Delta.{Delta}
use Rattle.ghs_node.specs.declared.delta.Fate.{Fate}
use Rattle.ghs_node.specs.declared.delta.Fate.TheVariants.{Consumed, Requeued}
use Rattle.ghs_node.specs.declared.message.Message.{Message}
use Rattle.ghs_node.specs.NodeState.{NodeState, degree}
use Rattle.ghs_node.specs.Reaction.{reaction, requeues}
use Rattle.ghs_node.specs.Words.{is_sleeping}
use Rattle.ghs_node.proofs.lemmas.{is_sleeping_not, sleeping_is}
use Rattle.peer_network.specs.declared.event.Event.{Event}
use Rattle.peer_network.specs.declared.event.Event.TheVariants.{Wake, Take}
use Rattle.ghs_protocol.specs.Laws.{IsLater, IsNetOf, NodesStayAwake}
use Rattle.ghs_protocol.specs.Living.{OneWaits, RequeuesAreWaits, Turned, WaitingTakesTurn, Waits}
use Rattle.ghs_protocol.specs.Net.{Net, is_lawful, is_lawful_under, is_waiting}
use Rattle.peer_network.specs.Network.{is_node, is_port, At, Network, network_of}
use Rattle.peer_network.specs.Events.{event_node}
use Rattle.peer_network.specs.Updates.{put}
use Rattle.ghs_protocol.specs.Run.{and_then, run}
use Rattle.ghs_protocol.specs.Schedules.{OthersLeaveAlone}
use Rattle.ghs_protocol.specs.Steps.{Happens}
use Rattle.ghs_protocol.proofs.lemmas.Events.{happens_so}
use Rattle.peer_network.proofs.lemmas.Events.{at_of, is_port_of}
use Rattle.peer_network.proofs.lemmas.Graphs.{graph_few, graph_wired}
use Rattle.ghs_protocol.proofs.lemmas.Nodes.{ports_many}
use Rattle.ghs_protocol.proofs.lemmas.Runs.{after_more}
use Rattle.peer_network.proofs.lemmas.Updates.{one_place, put_at_hit, put_at_miss, put_other, put_same}
use Rattle.ghs_protocol.proofs.lemmas.Waiting.{waits_awake, waits_reaction}
use Rattle.ghs_protocol.proofs.lemmas.WellFormed.{after_formed}
use Rattle.ghs_protocol.proofs.lemmas.Woken.{asleep_or_not}
use Rattle.ghs_core.specs.NetState.{delivery, work_at}
use Rattle.ghs_core.specs.Waits.{waits}
use Rattle.ghs_core.proofs.lemmas.Waiting.{waits_so, waits_test}
use Rattle.peer_index.specs.Places.{all_events}
use Rattle.peer_index.proofs.lemmas.Listed.{listed}
use Rattle.peer_chains.specs.Chains.{Chains, hears, taken}
use Rattle.ghs_following.specs.Chains.{is_deferred, reacted}
use Rattle.peer_chains.proofs.lemmas.Bounding.{IsWithin, more_within}
use Rattle.ghs_patient.specs.Patience.{first_waits, moves_on, or_else, puts_back}
use Rattle.ghs_rounds.specs.Rounds.{has_due_second, hides_due, is_by, is_due, moves_due, round_events}
use Rattle.ghs_following.proofs.lemmas.Lengths.{SameLengths}
use Rattle.peer_chains.proofs.lemmas.Hears.{hears_node}
use Rattle.ghs_rounds.proofs.Sending.{reacted_timely}
use Rattle.ghs_rounds.proofs.Timing.{AreLate, HasCome, heard_is, hears_queue, late_all, late_append, sent_come, sent_node}

-- No number is greater than the round, nor a message's than the next; after round 0 nobody wakes by itself; and who hasn't the round's number yet
-- hears of nothing that gives it less.
pub record IsTimed (may : ℕ → Bool) (g : Network) (w : Net) (c : Chains) (r : ℕ) : Type 0 where
  pub within : IsWithin r (suc r) c
  pub woken : 1 ≤ r → (v : ℕ) → is_lawful_under may g w (Wake v) ≡ true → ⊥
  pub late : (v p : ℕ) → At g v p → (c.node v ≡ r) ⊎ AreLate (w.node v) p r (w.queue v p) (c.queue v p)

-- what the protocol promises of the messages that wait
pub record Promised : Type 0 where
  pub one : OneWaits
  pub requeues : RequeuesAreWaits
  pub turns : WaitingTakesTurn
  pub others : OthersLeaveAlone
  pub awake : NodesStayAwake

fate_told : (f : Fate) → (f ≡ Consumed) ⊎ (f ≡ Requeued)
fate_told Consumed = inl refl
fate_told Requeued = inr refl

module _ (g : Shape) (w : Net) (n : IsNetOf g w) where
  pub port_in : (v p : ℕ) → At (network_of g) v p → p < degree (w.node v)
  port_in v p at =
      let many = ports_many ((after_formed (network_of g) (graph_wired g n.graph) (graph_few g n.graph) n.events w n.run).nodes v) in
      let lt = at.port in
      omega (arith, lt, many)

module _ (law : Promised) (may : ℕ → Bool) (g : Shape) (w : Net) (n : IsNetOf g w) (c : Chains) (r : ℕ)
    (timed : IsTimed may (network_of g) w c r) where
  -- what moves the run on doesn't wait
  goes : (v p : ℕ) (m : Message) → waits (w.node v) p m ≡ false → Waits (w.node v) p m → ⊥
  goes v p m f z = both_ways (waits (w.node v) p m) f (waits_test (w.node v) p m z)

  -- and gives its node the round's number
  module _ (e : Event) (d : Delta) (answer : reaction (w.node (event_node e)) (work_at w e) ≡ Some d)
      (moves : moves_due may (network_of g) w c r e ≡ true) where
    abbrev asleep : Bool
    asleep = is_sleeping (w.node (event_node e)).head.phase

    on : moves_on may (network_of g) w e ≡ true
    on = (and_parts (moves_on may (network_of g) w e) (is_due c r e) moves).0

    pub due : is_due c r e ≡ true
    due = (and_parts (moves_on may (network_of g) w e) (is_due c r e) moves).1

    pub lawful : is_lawful_under may (network_of g) w e ≡ true
    lawful = (and_parts (is_lawful_under may (network_of g) w e) (not (puts_back w e)) on).0

    stays : not (puts_back w e) ≡ true
    stays = (and_parts (is_lawful_under may (network_of g) w e) (not (puts_back w e)) on).1

  fate_is : (v p : ℕ) (d : Delta) (q : List Message) → At (network_of g) v p → is_waiting q ≡ true → not (first_waits (w.node v) p q) ≡ true →
      reaction (w.node v) (delivery p q) ≡ Some d → (d.fate ≡ Consumed) ⊎ (is_sleeping (w.node v).head.phase ≡ true)
  fate_is v p d [] at there goes_on answer = cc
  fate_is v p d (m ∷ ms) at there goes_on answer = ⊎_elim
      (λ s. inr (ap is_sleeping s))
      (λ up. ⊎_elim inl
      (λ back. absurd (goes v p m (not-true (waits (w.node v) p m) goes_on)
      ((law.requeues (w.node v) p m d (port_in g w n v p at) up answer).0 back)))
      (fate_told d.fate))
      (asleep_or_not (w.node v).head.phase)

  taken_is : (v p : ℕ) (d : Delta) (q : List Message) (ts : List ℕ) → At (network_of g) v p → is_waiting q ≡ true →
      not (first_waits (w.node v) p q) ≡ true →
      is_by r (slice_get ts 0) ≡ true → (c.node v ≡ r) ⊎ AreLate (w.node v) p r q ts → reaction (w.node v) (delivery p q) ≡ Some d →
      (taken v p (is_sleeping (w.node v).head.phase) (is_deferred d.fate) ts c).node v ≡ r
  taken_is v p d [] ts at there goes_on by late answer = cc
  taken_is v p d (m ∷ ms) [] at there goes_on by late answer = cc
  taken_is v p d (m ∷ ms) (t ∷ ts) at there goes_on by late answer =
      put_same c.node v _
      ∙ heard_is d.fate (is_sleeping (w.node v).head.phase) (c.node v) t r (timed.within.node v) (leb-true t r by)
      (⊎_elim inl (λ l. inr (l.1 (goes v p m (not-true (waits (w.node v) p m) goes_on)))) late) (fate_is v p d (m ∷ ms) at there goes_on answer)

  -- it is consumed, or wakes its node
  pub moves_fate : (v p : ℕ) (d : Delta) → reaction (w.node v) (work_at w (Take v p)) ≡ Some d →
      moves_due may (network_of g) w c r (Take v p) ≡ true → (d.fate ≡ Consumed) ⊎ (is_sleeping (w.node v).head.phase ≡ true)
  moves_fate v p d answer moves =
      let l = and_parts (is_port (network_of g) v p) (is_waiting (w.queue v p)) (lawful (Take v p) d answer moves) in
      fate_is v p d (w.queue v p) (at_of (network_of g) v p l.0) l.1 (stays (Take v p) d answer moves) answer

  pub moves_give : (e : Event) (d : Delta) → reaction (w.node (event_node e)) (work_at w e) ≡ Some d → moves_due may (network_of g) w c r e ≡ true →
      (hears e (is_sleeping (w.node (event_node e)).head.phase) (is_deferred d.fate) c).node (event_node e) ≡ r
  moves_give (Wake v) d answer moves =
      let le = timed.within.node v in
      ⊎_elim (λ (z : r ≡ 0). omega (arith, z, le))
      (λ (ne : r ≢ 0). absurd (timed.woken (omega (arith, ne)) v (lawful (Wake v) d answer moves))) (cases_eq r 0)
  moves_give (Take v p) d answer moves =
      let l = and_parts (is_port (network_of g) v p) (is_waiting (w.queue v p)) (lawful (Take v p) d answer moves) in
      let at = at_of (network_of g) v p l.0 in
      taken_is v p d (w.queue v p) (c.queue v p) at l.1 (stays (Take v p) d answer moves) (due (Take v p) d answer moves) (timed.late v p at) answer

  -- so it leaves the rest as it was
  module _ (e : Event) (d : Delta) (x : Net) (h : Happens (network_of g) w e x) (same : SameLengths w c)
      (after : SameLengths x (reacted (network_of g) w e d c)) where
    later : IsLater g w x
    later = record { graph = n.graph; events = n.events; further = e ∷ []; run = n.run; later = after_more (network_of g) n.events e w x n.run h }

    -- nobody is left to wake
    still_woken : 1 ≤ r → (v : ℕ) → is_lawful_under may (network_of g) x (Wake v) ≡ true → ⊥
    still_woken some v lawful =
        let a = and_parts (may v) (is_lawful (network_of g) x (Wake v)) lawful in
        let b = and_parts (is_node (network_of g) v) (is_sleeping (x.node v).head.phase) a.1 in
        ⊎_elim
        (λ s. timed.woken some v (and_from (may v) _ a.0 (and_from (is_node (network_of g) v) _ b.0 (ap is_sleeping s))))
        (λ up. law.awake g w x later v up (sleeping_is (x.node v).head.phase b.1))
        (asleep_or_not (w.node v).head.phase)

    abbrev heard : Chains
    heard = hears e (is_sleeping (w.node (event_node e)).head.phase) (is_deferred d.fate) c

    run_one : run (network_of g) (e ∷ []) w ≡ Some x
    run_one = ap (λ (o : Option Net). and_then o (λ y. run (network_of g) [] y)) (happens_so h)

    others_late : heard.node (event_node e) ≡ r → (u q : ℕ) → u ≢ event_node e → (c.node u ≡ r) ⊎ AreLate (w.node u) q r (w.queue u q) (c.queue u q) →
        ((reacted (network_of g) w e d c).node u ≡ r) ⊎ AreLate (x.node u) q r (x.queue u q) ((reacted (network_of g) w e d c).queue u q)
    others_late gives u q ne (inl is) =
        inl (sent_node (network_of g) (event_node e) d.sends heard u
        ∙ hears_node e (is_sleeping (w.node (event_node e)).head.phase) (is_deferred d.fate) c u ne ∙ is)
    others_late gives u q ne (inr late) =
        let alone =
        law.others (network_of g) u (e ∷ []) w x
        (All-cons (λ e. event_node e ≢ u) e [] (λ z. ne (sym z)) (All-nil (λ e. event_node e ≢ u))) run_one in
        let came = alone.queue q in
        let nums : HasCome (suc (heard.node (event_node e))) (heard.queue u q) ((reacted (network_of g) w e d c).queue u q) =
        sent_come (network_of g) (event_node e) d.sends heard u q in
        let queue : (reacted (network_of g) w e d c).queue u q ≡ c.queue u q ++ nums.came =
        nums.is ∙ ap (λ (l : List ℕ). l ++ nums.came) (hears_queue e (is_sleeping (w.node (event_node e)).head.phase) d.fate c u q ne) in
        let all : All (λ t. r ≤ t) nums.came = λ i t lt. let a = nums.all i t lt in omega (arith, a, gives) in
        let many : length nums.came ≡ length came.0 =
        let a = same.queue u q in
        let b = after.queue u q in
        let k = ap length came.1 ∙ length-append (w.queue u q) came.0 in
        let l = ap length queue ∙ length-append (c.queue u q) nums.came in
        omega (arith, a, b, k, l) in
        inr (rw (alone.node, came.1, queue) (late_append (w.node u) q r (w.queue u q) (c.queue u q) came.0 nums.came late (same.queue u q)
        (late_all (w.node u) q r came.0 nums.came many all)))

    pub timed_moves : reaction (w.node (event_node e)) (work_at w e) ≡ Some d → moves_due may (network_of g) w c r e ≡ true →
        IsTimed may (network_of g) x (reacted (network_of g) w e d c) r
    timed_moves answer moves =
        let gives : heard.node (event_node e) ≡ r = moves_give e d answer moves in
        record {
          within = reacted_timely (network_of g) w e d r c timed.within (inl (due e d answer moves));
          woken = still_woken;
          late = λ u q at. ⊎_elim
              (λ (is : u ≡ event_node e). inl (sent_node (network_of g) (event_node e) d.sends heard u ∙ ap heard.node is ∙ gives))
              (λ ne. others_late gives u q ne (timed.late u q at))
              (cases_eq u (event_node e));
        }

  -- What only puts its message back turns its queue: behind it stands one that is due, and doesn't wait.
  module _ (v p : ℕ) (at : At (network_of g) v p) (m k : Message) (ks : List Message) (queue : w.queue v p ≡ m ∷ k ∷ ks)
      (waits_here : Waits (w.node v) p m)
      (t u : ℕ) (us : List ℕ) (numbers : c.queue v p ≡ t ∷ u ∷ us) (by : u ≤ r) (same : SameLengths w c) (d : Delta) (x : Net)
      (answer : reaction (w.node v) (delivery p (w.queue v p)) ≡ Some d) (h : Happens (network_of g) w (Take v p) x) where
    turned : Turned w v p m (k ∷ ks) x
    turned = law.turns g w x n v p m (k ∷ ks) at queue waits_here h

    d_is : d ≡ requeues (w.node v).head
    d_is = same_Some d (requeues (w.node v).head)
        (sym answer ∙ ap (λ (l : List Message). reaction (w.node v) (delivery p l)) queue
        ∙ waits_reaction (w.node v) p m (port_in g w n v p at) waits_here)

    up : is_sleeping (w.node v).head.phase ≡ false
    up = is_sleeping_not (w.node v).head.phase (waits_awake (w.node v) p m waits_here)

    abbrev put_back : Chains
    put_back = taken v p false true (t ∷ u ∷ us) c

    reacted_is : reacted (network_of g) w (Take v p) d c ≡ put_back
    reacted_is =
        ap (λ (y : Delta). reacted (network_of g) w (Take v p) y c) d_is
        ∙ ap (λ (b : Bool). taken v p b true (c.queue v p) c) up
        ∙ ap (λ (l : List ℕ). taken v p false true l c) numbers

    node_same : (a : ℕ) → put_back.node a ≡ c.node a
    node_same a = ⊎_elim
        (λ (e : a ≡ v). ap (λ b. put c.node v (c.node v) b) e ∙ put_same c.node v (c.node v) ∙ sym (ap c.node e))
        (λ ne. put_other c.node v a (c.node v) ne)
        (cases_eq a v)

    line : put_back.queue v p ≡ (u ∷ us) ++ t ∷ []
    line = put_at_hit c.queue v p v p ((u ∷ us) ++ t ∷ []) refl refl

    many : length (u ∷ us) ≡ length (k ∷ ks)
    many =
        let a = same.queue v p in
        let b = ap length queue in
        let e = ap length numbers in
        omega (arith, a, b, e)

    abbrev StillLate : ℕ → ℕ → Type 0
    StillLate a q = (put_back.node a ≡ r) ⊎ AreLate (x.node a) q r (x.queue a q) (put_back.queue a q)

    here_late : (c.node v ≡ r) ⊎ AreLate (w.node v) p r (w.queue v p) (c.queue v p) → StillLate v p
    here_late (inl is) = inl (node_same v ∙ is)
    here_late (inr late) =
        let l : AreLate (w.node v) p r (m ∷ k ∷ ks) (t ∷ u ∷ us) = rw (queue, numbers) at late in
        inr (rw (turned.nodes v, turned.queue, line)
        (late_append (w.node v) p r (k ∷ ks) (u ∷ us) (m ∷ []) (t ∷ []) (l.0 waits_here) many ((λ z. tt), (λ free. absurd (free waits_here)))))

    there_late : (a q : ℕ) → ((a ≡ v) × (q ≡ p) → ⊥) → (c.node a ≡ r) ⊎ AreLate (w.node a) q r (w.queue a q) (c.queue a q) → StillLate a q
    there_late a q ne (inl is) = inl (node_same a ∙ is)
    there_late a q ne (inr late) = inr (rw (turned.nodes a, turned.queues a q ne, put_at_miss c.queue v p a q ((u ∷ us) ++ t ∷ []) ne) late)

    back_late : (a q : ℕ) → At (network_of g) a q → StillLate a q
    back_late a q is_at = ⊎_elim
        (λ (e : (a ≡ v) × (q ≡ p)).
        subst (λ b. StillLate b q) (sym e.0) (subst (λ b. StillLate v b) (sym e.1) (here_late (timed.late v p at))))
        (λ ne. there_late a q ne (timed.late a q is_at))
        (one_place v p a q)

    timed_back : IsTimed may (network_of g) x (reacted (network_of g) w (Take v p) d c) r
    timed_back = record {
      within = reacted_timely (network_of g) w (Take v p) d r c timed.within (inr (up, ap (λ (y : Delta). y.fate) d_is));
      woken = λ some a lawful. timed.woken some a
          (subst (λ (y : NodeState). (may a && (is_node (network_of g) a && is_sleeping y.head.phase)) ≡ true) (turned.nodes a) lawful);
      late = λ a q is_at. rw reacted_is (back_late a q is_at);
    }

    goes_next : waits (w.node v) p k ≡ false
    goes_next =
        ⊎_elim (λ z. absurd (law.one g w n v p at m k ks queue waits_here (waits_so (w.node v) p k z))) (λ z. z) (cases_Bool (waits (w.node v) p k))

    next_moves : moves_due may (network_of g) x (reacted (network_of g) w (Take v p) d c) r (Take v p) ≡ true
    next_moves =
        and_from (moves_on may (network_of g) x (Take v p)) (is_due (reacted (network_of g) w (Take v p) d c) r (Take v p))
        (and_from (is_lawful_under may (network_of g) x (Take v p)) (not (puts_back x (Take v p)))
        (and_from (is_port (network_of g) v p) (is_waiting (x.queue v p)) (is_port_of (network_of g) v p at) (ap is_waiting turned.queue))
        (ap (λ (l : List Message). not (first_waits (x.node v) p l)) turned.queue
        ∙ ap (λ (y : NodeState). not (waits y p k)) (turned.nodes v)
        ∙ ap not goes_next))
        (ap (λ (y : Chains). is_by r (slice_get (y.queue v p) 0)) reacted_is
        ∙ ap (λ (l : List ℕ). is_by r (slice_get l 0)) line
        ∙ le-leb u r by)

    node_still : (a : ℕ) → x.node a ≡ w.node a
    node_still a = turned.nodes a

    number_still : (a : ℕ) → (reacted (network_of g) w (Take v p) d c).node a ≡ c.node a
    number_still a = ap (λ (y : Chains). y.node a) reacted_is ∙ node_same a

  -- What such an event leaves.
  pub record Turns (v p : ℕ) (d : Delta) (x : Net) : Type 0 where
    pub keeps : IsTimed may (network_of g) x (reacted (network_of g) w (Take v p) d c) r
    pub next : moves_due may (network_of g) x (reacted (network_of g) w (Take v p) d c) r (Take v p) ≡ true
    pub node : (a : ℕ) → x.node a ≡ w.node a
    pub number : (a : ℕ) → (reacted (network_of g) w (Take v p) d c).node a ≡ c.node a
    pub requeued : x.requeued ≡ suc w.requeued
    pub sends : d.sends ≡ []

  pub back_turns : (v p : ℕ) → At (network_of g) v p → SameLengths w c → (d : Delta) (x : Net) → reaction (w.node v) (work_at w (Take v p)) ≡ Some d →
      Happens (network_of g) w (Take v p) x → hides_due w c r (Take v p) ≡ true → Turns v p d x
  back_turns v p at same d x answer h hides =
      let a = and_parts (puts_back w (Take v p)) (has_due_second c r (Take v p)) hides in
      go (w.queue v p) refl (c.queue v p) refl (same.queue v p) a.0 a.1
    where
      go : (q : List Message) → w.queue v p ≡ q → (ts : List ℕ) → c.queue v p ≡ ts → length ts ≡ length q → first_waits (w.node v) p q ≡ true →
          is_by r (slice_get ts 1) ≡ true → Turns v p d x
      go [] e ts f l z y = cc
      go (m ∷ ms) e [] f l z y = cc
      go (m ∷ ms) e (t ∷ []) f l z y = cc
      go (m ∷ []) e (t ∷ (u ∷ us)) f l z y = absurd (let k : suc (suc (length us)) ≡ 1 = l in omega (arith, k))
      go (m ∷ (k ∷ ks)) e (t ∷ (u ∷ us)) f l z y =
          let waiting = waits_so (w.node v) p m z in
          let by = leb-true u r y in
          record {
            keeps = timed_back v p at m k ks e waiting t u us f by same d x answer h;
            next = next_moves v p at m k ks e waiting t u us f by same d x answer h;
            node = λ a. node_still v p at m k ks e waiting t u us f by same d x answer h a;
            number = λ a. number_still v p at m k ks e waiting t u us f by same d x answer h a;
            requeued = (turned v p at m k ks e waiting t u us f by same d x answer h).requeued;
            sends = ap (λ (y : Delta). y.sends) (d_is v p at m k ks e waiting t u us f by same d x answer h);
          }

  -- The next round, where this one is over.
  module _ (same : SameLengths w c) (over : round_events may (network_of g) w c r ≡ []) where
    neither : (es fs : List Event) → or_else es fs ≡ [] → (es ≡ []) × (fs ≡ [])
    neither [] fs e = (refl, e)
    neither (x ∷ es) fs e = absurd (let z : x ∷ es ≡ [] = e in cc)

    lists :
        (filter (moves_due may (network_of g) w c r) (all_events (network_of g)) ≡ []) × (filter (hides_due w c r) (all_events (network_of g)) ≡ [])
    lists = neither _ _ over

    none_moves : (e : Event) → Contains (all_events (network_of g)) e → moves_due may (network_of g) w c r e ≡ true → ⊥
    none_moves e there z =
        nothing_in e (subst (λ (es : List Event). Contains es e) lists.0
        (filter_has (moves_due may (network_of g) w c r) (all_events (network_of g)) e there z))

    none_hides : (e : Event) → Contains (all_events (network_of g)) e → hides_due w c r e ≡ true → ⊥
    none_hides e there z =
        nothing_in e (subst (λ (es : List Event). Contains es e) lists.1 (filter_has (hides_due w c r) (all_events (network_of g)) e there z))

    nobody : (v : ℕ) → is_lawful_under may (network_of g) w (Wake v) ≡ true → ⊥
    nobody v lawful =
        let a = and_parts (may v) (is_lawful (network_of g) w (Wake v)) lawful in
        let b = and_parts (is_node (network_of g) v) (is_sleeping (w.node v).head.phase) a.1 in
        none_moves (Wake v) (listed (network_of g) (Wake v) b.0)
        (and_from (moves_on may (network_of g) w (Wake v)) true (and_from (is_lawful_under may (network_of g) w (Wake v)) true lawful refl) refl)

    module _ (v p : ℕ) (at : At (network_of g) v p) where
      stands : Contains (all_events (network_of g)) (Take v p)
      stands = listed (network_of g) (Take v p) (is_port_of (network_of g) v p at)

      first_later : (m : Message) (ms : List Message) (t : ℕ) (ts : List ℕ) → w.queue v p ≡ m ∷ ms → c.queue v p ≡ t ∷ ts →
          (Waits (w.node v) p m → ⊥) → suc r ≤ t
      first_later m ms t ts e f free = ⊎_elim
          (λ z. absurd (none_moves (Take v p) stands
          (and_from (moves_on may (network_of g) w (Take v p)) (is_due c r (Take v p))
          (and_from (is_lawful_under may (network_of g) w (Take v p)) (not (puts_back w (Take v p)))
          (and_from (is_port (network_of g) v p) (is_waiting (w.queue v p)) (is_port_of (network_of g) v p at) (ap is_waiting e))
          (ap (λ (l : List Message). not (first_waits (w.node v) p l)) e
          ∙ ap not (⊎_elim (λ y. absurd (free (waits_so (w.node v) p m y))) (λ y. y) (cases_Bool (waits (w.node v) p m)))))
          (ap (λ (l : List ℕ). is_by r (slice_get l 0)) f ∙ z))))
          (λ z. leb-false t r z)
          (cases_Bool (nat_le t r))

      second_later : (m : Message) (ms : List Message) (t u : ℕ) (us : List ℕ) → w.queue v p ≡ m ∷ ms → c.queue v p ≡ t ∷ u ∷ us →
          Waits (w.node v) p m → suc r ≤ u
      second_later m ms t u us e f z = ⊎_elim
          (λ y. absurd (none_hides (Take v p) stands
          (and_from (puts_back w (Take v p)) (has_due_second c r (Take v p))
          (ap (first_waits (w.node v) p) e ∙ waits_test (w.node v) p m z)
          (ap (λ (l : List ℕ). is_by r (slice_get l 1)) f ∙ y))))
          (λ y. leb-false u r y)
          (cases_Bool (nat_le u r))

      all_later : (q : List Message) → w.queue v p ≡ q → (ts : List ℕ) → c.queue v p ≡ ts → length ts ≡ length q → AreLate (w.node v) p (suc r) q ts
      all_later [] e ts f l = tt
      all_later (m ∷ ms) e [] f l = absurd (let z : 0 ≡ suc (length ms) = l in omega (arith, z))
      all_later (m ∷ []) e (t ∷ ts) f l = ((λ z. tt), first_later m [] t ts e f)
      all_later (m ∷ (k ∷ ks)) e (t ∷ []) f l = absurd (let z : 1 ≡ suc (suc (length ks)) = l in omega (arith, z))
      all_later (m ∷ (k ∷ ks)) e (t ∷ (u ∷ us)) f l = (
        (λ z. ((λ y. absurd (law.one g w n v p at m k ks e z y)), (λ free. second_later m (k ∷ ks) t u us e f z))),
        first_later m (k ∷ ks) t (u ∷ us) e f,
      )

    pub timed_next : IsTimed may (network_of g) w c (suc r)
    timed_next = record {
      within = more_within r (suc r) (suc r) (suc (suc r)) c (omega arith) (omega arith) timed.within;
      woken = λ some. nobody;
      late = λ v p at. inr (all_later v p at (w.queue v p) refl (c.queue v p) refl (same.queue v p));
    }
