-- What an event leaves of those who probe, of what they wait for, and of tree messages, in a net of a run.
use Rattle.std.proofs.Common.{◌≡◌, ◌≢◌, ◌⊎◌, inl, inr, ℕ, suc, ◌+◌, ◌<◌, ◌≤◌, ◌==◌, true, false, Some, List, [], ◌∷◌, ◌++◌, refl, sym, ◌∙◌, ap, subst, ⊎_elim, arith, cond, append-nil, append_assoc}
use Rattle.std.proofs.lemmas.Bool.{cases_eq, cases_Bool}
use Rattle.ghs_graph.specs.Graph.{Shape}
use Rattle.ghs_node.specs.declared.delta.Delta.{Delta}
use Rattle.ghs_node.specs.declared.delta.Fate.{Fate}
use Rattle.ghs_node.specs.declared.delta.Fate.TheVariants.{Consumed, Requeued}
use Rattle.ghs_node.specs.declared.message.Message.{Message}
use Rattle.ghs_node.specs.declared.message.Message.TheVariants.{Connect, Initiate, Test, Accept, Reject, Report, ChangeRoot}
use Rattle.ghs_node.specs.declared.message.Phase.TheVariants.{Sleeping}
use Rattle.ghs_node.specs.declared.work.Work.TheVariants.{Deliver}
use Rattle.ghs_node.specs.Kind.{kind_of, place_of}
use Rattle.ghs_node.specs.NodeState.{NodeState, degree}
use Rattle.ghs_node.specs.Reaction.{after, reaction}
use Rattle.ghs_node.specs.Rows.{AwakeRow}
use Rattle.ghs_node.specs.Words.{Outgoing}
use Rattle.peer_network.specs.declared.event.Event.TheVariants.{Take}
use Rattle.peer_network.specs.Network.{Network, network_of, At, InNetwork, far, far_port}
use Rattle.peer_network.proofs.lemmas.Graphs.{graph_few, graph_wired}
use Rattle.peer_network.proofs.lemmas.Updates.{one_place, put_at_hit, put_at_miss}
use Rattle.peer_network.proofs.lemmas.Wired.{IsWired}
use Rattle.ghs_protocol.specs.Laws.{IsNetOf}
use Rattle.ghs_protocol.specs.Ledger.{of_kind}
use Rattle.ghs_protocol.specs.Living.{Waits}
use Rattle.ghs_protocol.specs.Marks.{HasHalted}
use Rattle.ghs_protocol.specs.Net.{Net, change, left_of, one_if_consumed, send, send_all, take_first}
use Rattle.ghs_protocol.specs.Steps.{Happens, Took, taken}
use Rattle.ghs_protocol.specs.Time.{is_tree, tree_messages}
use Rattle.ghs_protocol.proofs.acts.Grounds.{graph_ground}
use Rattle.ghs_protocol.proofs.clauses.Whole.{opening_ghost}
use Rattle.ghs_protocol.proofs.every_run.Sound.{opening_sound}
use Rattle.ghs_protocol.proofs.lemmas.Effects.{taken_consumed, taken_here, taken_there}
use Rattle.ghs_protocol.proofs.lemmas.Lasting.{event_lasts}
use Rattle.ghs_protocol.proofs.lemmas.Nodes.{ports_many}
use Rattle.ghs_protocol.proofs.lemmas.Runs.{after_more}
use Rattle.ghs_protocol.proofs.lemmas.Steps.{run_by_steps, step_formed}
use Rattle.ghs_protocol.proofs.lemmas.WellFormed.{IsWellFormed, event_row}
use Rattle.ghs_protocol.proofs.lemmas.Woken.{awake_row}
use Rattle.ghs_protocol.proofs.progress.Awaited.{ProbesAside, asked_one, net_formed, probe_at, step_aside}
use Rattle.ghs_protocol.proofs.progress.Bills.{is_call, row_frees}
use Rattle.ghs_protocol.proofs.progress.Hears.{IsAnswer, IsTestBy, call_goes, call_tree, free_consumed, row_halts_tree, row_hears, row_names, test_free}
use Rattle.ghs_protocol.proofs.progress.LinkBills.{bill, moved_owes, other_owes, taker_owes, test_taken}
use Rattle.ghs_protocol.proofs.rows.Rows.{step_keeps}

-- in every net of a run no probe is its node's way to the core
pub probes_aside : (g : Shape) (w : Net) → IsNetOf g w → (v : ℕ) → InNetwork (network_of g) v → ProbesAside (w.node v)
probes_aside g w n = (run_by_steps (network_of g) (graph_wired g n.graph) (graph_few g n.graph) _
    (λ x y f i s. step_aside (network_of g) (graph_wired g n.graph)
    (λ a b fa sa t. step_keeps (network_of g) (graph_ground g n.graph) a b fa.nodes sa t)
    (λ a b fa t. step_formed (network_of g) (graph_wired g n.graph) fa t) x y f i s)
    (record { ghost = opening_ghost; holds = opening_sound (network_of g) }, λ v is p probe way. cc)
    n.events w n.run).1

-- what came in at a queue stands at its end
abbrev pub Came : List Message → List Message → Type 0
Came old new = (came : List Message) × (new ≡ old ++ came)

come_on : (a b c : List Message) → Came a b → Came b c → Came a c
come_on a b c h k = (h.0 ++ k.0, k.1 ∙ ap (λ (l : List Message). l ++ k.0) h.1 ∙ append_assoc a h.0 k.0)

module _ (g : Network) (v : ℕ) where
  one_comes : (s : ℕ × Message) (w : Net) (u q : ℕ) → Came (w.queue u q) ((send g v w s).queue u q)
  one_comes s w u q = ⊎_elim
      (λ (e : (u ≡ far g v s.0) × (q ≡ far_port g v s.0)). (
        s.1 ∷ [],
        put_at_hit w.queue (far g v s.0) (far_port g v s.0) u q _ e.0 e.1
            ∙ ap (λ (l : List Message). l ++ s.1 ∷ []) (sym (ap (λ a. w.queue a q) e.0 ∙ ap (w.queue (far g v s.0)) e.1)),
      ))
      (λ ne. ([], put_at_miss w.queue (far g v s.0) (far_port g v s.0) u q _ ne ∙ sym (append-nil (w.queue u q))))
      (one_place (far g v s.0) (far_port g v s.0) u q)

  all_come : (ss : Outgoing) (w : Net) (u q : ℕ) → Came (w.queue u q) ((send_all g v ss w).queue u q)
  all_come [] w u q = ([], sym (append-nil (w.queue u q)))
  all_come (s ∷ ss) w u q =
      come_on (w.queue u q) ((send g v w s).queue u q) ((send_all g v ss (send g v w s)).queue u q) (one_comes s w u q)
      (all_come ss (send g v w s) u q)

test_one : (l : ℕ) (m : Message) → IsTestBy l m → of_kind 2 (m ∷ []) ≡ 1
test_one l (Connect k) i = absurd i
test_one l (Initiate k f s) i = absurd i
test_one l (Test k f) i = refl
test_one l Accept i = absurd i
test_one l Reject i = absurd i
test_one l (Report k) i = absurd i
test_one l ChangeRoot i = absurd i

-- a tree message that is consumed counts once
abbrev counted : Message → Fate → ℕ → ℕ
counted m f k = cond (place_of (kind_of m) == k) (one_if_consumed f) 0

tree_one : (m : Message) (f : Fate) → is_tree m ≡ true → f ≡ Consumed → counted m f 0 + counted m f 1 + counted m f 5 + counted m f 6 ≡ 1
tree_one m Requeued e h = cc
tree_one (Connect l) Consumed e h = refl
tree_one (Initiate l n s) Consumed e h = refl
tree_one (Test l n) Consumed e h = cc
tree_one Accept Consumed e h = cc
tree_one Reject Consumed e h = cc
tree_one (Report k) Consumed e h = refl
tree_one ChangeRoot Consumed e h = refl

module _ (g : Shape) (w : Net) (n : IsNetOf g w) (a j : ℕ) (m : Message) (ms : List Message) (d : Delta) (at : At (network_of g) a j)
    (first : w.queue a j ≡ m ∷ ms) (answer : reaction (w.node a) (Deliver j m) ≡ Some d) (up : (w.node a).head.phase ≢ Sleeping) where
  abbrev pub x : Net
  x = taken (network_of g) a j m ms d w

  wired : IsWired (network_of g)
  wired = graph_wired g n.graph

  formed : IsWellFormed (network_of g) w
  formed = net_formed g w n

  so : Happens (network_of g) w (Take a j) (taken (network_of g) a j m ms d w)
  so = Took a j m ms d at first answer

  pub next_net : IsNetOf g (taken (network_of g) a j m ms d w)
  next_net = record {
    graph = n.graph;
    events = n.events ++ Take a j ∷ [];
    run = after_more (network_of g) n.events (Take a j) w (taken (network_of g) a j m ms d w) n.run so;
  }

  row : AwakeRow (w.node a) j m d
  row = awake_row up (event_row (network_of g) wired a (w.node a) j m d at (formed.nodes a) answer)

  lt : j < degree (w.node a)
  lt = let b = ports_many (formed.nodes a) in let c = at.port in omega (arith, b, c)

  is_a : InNetwork (network_of g) a
  is_a = record { some = at.some; node = at.node }

  here : x.node a ≡ after (w.node a) d
  here = taken_here (network_of g) a j m ms d w

  there : (v : ℕ) → v ≢ a → x.node v ≡ w.node v
  there v ne = taken_there (network_of g) a j m ms d w v ne

  -- queues
  pub queue_hit : Came (left_of d.fate m ms) (x.queue a j)
  queue_hit =
      let c = all_come (network_of g) a d.sends (change a d (take_first d.fate a j m ms w)) a j in
      (c.0, c.1 ∙ ap (λ (l : List Message). l ++ c.0) (put_at_hit w.queue a j a j (left_of d.fate m ms) refl refl))

  pub queue_miss : (y k : ℕ) → ((y ≡ a) × (k ≡ j) → ⊥) → Came (w.queue y k) (x.queue y k)
  queue_miss y k ne =
      let c = all_come (network_of g) a d.sends (change a d (take_first d.fate a j m ms w)) y k in
      (c.0, c.1 ∙ ap (λ (l : List Message). l ++ c.0) (put_at_miss w.queue a j y k (left_of d.fate m ms) ne))

  -- levels and names
  pub levels_rise : (v : ℕ) → (w.node v).head.level ≤ (x.node v).head.level
  levels_rise v = (event_lasts (network_of g) wired w (taken (network_of g) a j m ms d w) (Take a j) formed so v).level

  pub halts_last : (v : ℕ) → HasHalted w v → HasHalted (taken (network_of g) a j m ms d w) v
  halts_last v = (event_lasts (network_of g) wired w (taken (network_of g) a j m ms d w) (Take a j) formed so v).halted

  pub wakes_last : (v : ℕ) → (w.node v).head.phase ≢ Sleeping → (x.node v).head.phase ≢ Sleeping
  wakes_last v = (event_lasts (network_of g) wired w (taken (network_of g) a j m ms d w) (Take a j) formed so v).awake

  pub names_stay : (v : ℕ) → (x.node v).head.level ≡ (w.node v).head.level → (x.node v).head.name ≡ (w.node v).head.name
  names_stay v same = ⊎_elim
      (λ (e : v ≡ a).
      subst (λ y. (x.node y).head.name ≡ (w.node y).head.name) (sym e)
      (ap (λ (z : NodeState). z.head.name) here
      ∙ row_names (w.node a) j m d row
      (ap (λ (z : NodeState). z.head.level) (sym here) ∙ subst (λ y. (x.node y).head.level ≡ (w.node y).head.level) e same)))
      (λ ne. ap (λ (z : NodeState). z.head.name) (there v ne))
      (cases_eq v a)

  -- who probes at a level that it had before did so before, and owed no less
  pub record WasProbing (v q : ℕ) : Type 0 where
    pub port : ℕ
    pub probe : (w.node v).head.probe ≡ Some port
    pub level : (x.node v).head.level ≡ (w.node v).head.level
    pub owes : ((port ≡ q) × (bill (network_of g) x v q ≤ bill (network_of g) w v port)) ⊎
        (suc (bill (network_of g) x v q) ≤ bill (network_of g) w v port)

  module _ (q : ℕ) (probe : (x.node a).head.probe ≡ Some q) where
    probes : d.head.probe ≡ Some q
    probes = ap (λ (z : NodeState). z.head.probe) (sym here) ∙ probe

    at_q : At (network_of g) a q
    at_q = probe_at g (taken (network_of g) a j m ms d w) next_net a q is_a probe

    module _ (same : (x.node a).head.level ≡ (w.node a).head.level) where
      level : d.head.level ≡ (w.node a).head.level
      level = ap (λ (z : NodeState). z.head.level) (sym here) ∙ same

      was_here : WasProbing a q
      was_here = ⊎_elim
          (λ z. record { port = q; probe = z.0; level = same; owes = inl (refl, z.1) })
          (λ z. record { port = j; probe = z.0; level = same; owes = inr z.1 })
          (taker_owes (network_of g) wired w a j m ms d at (formed.nodes a).node lt row q at_q probes level)

      -- what it waited for came
      pub answer_heard : (w.node a).head.probe ≡ Some j → IsAnswer (w.node a).head m → suc (bill (network_of g) x a q) ≤ bill (network_of g) w a j
      answer_heard was i =
          moved_owes (network_of g) wired w a j m ms d at (formed.nodes a).node lt row q at_q probes level
          (row_hears (w.node a) j m d lt row was i q probes)

  pub prober_was : (v q : ℕ) → InNetwork (network_of g) v → (x.node v).head.level ≤ (w.node v).head.level → (x.node v).head.probe ≡ Some q →
      WasProbing v q
  prober_was v q is le probe = ⊎_elim
      (λ (e : v ≡ a).
      subst (λ y. WasProbing y q) (sym e)
      (was_here q (subst (λ y. (x.node y).head.probe ≡ Some q) e probe) (subst (λ y. (x.node y).head.level ≡ (w.node y).head.level) e same)))
      (λ ne.
      let was : (w.node v).head.probe ≡ Some q = ap (λ (z : NodeState). z.head.probe) (sym (there v ne)) ∙ probe in
      record {
        port = q;
        probe = was;
        level = same;
        owes = inl (refl, other_owes (network_of g) wired w a j m ms d at v q (probe_at g w n v q is was) ne first);
      })
      (cases_eq v a)
    where
      same : (x.node v).head.level ≡ (w.node v).head.level
      same = let r = levels_rise v in omega (arith, r, le)

  -- its Test was taken
  pub test_heard : (v q : ℕ) → InNetwork (network_of g) v → (x.node v).head.probe ≡ Some q → (w.node v).head.probe ≡ Some q →
      far (network_of g) v q ≡ a → far_port (network_of g) v q ≡ j →
      IsTestBy (w.node a).head.level m → suc (bill (network_of g) x v q) ≤ bill (network_of g) w v q
  test_heard v q is probe was e h i =
      let at_v = probe_at g w n v q is was in
      test_taken (network_of g) wired w a j m ms d at v q at_v (λ z. wired.apart v q at_v (e ∙ sym z)) first e h
      (free_consumed (w.node a) j m d up row (test_free (w.node a) j m i)) (test_one (w.node a).head.level m i) (asked_one g w n v q is was)

  -- tree messages
  pub trees_stay : tree_messages w ≤ tree_messages x
  trees_stay =
      let b = taken_consumed (network_of g) a j m ms d w 0 in let c = taken_consumed (network_of g) a j m ms d w 1 in
      let e = taken_consumed (network_of g) a j m ms d w 5 in let f = taken_consumed (network_of g) a j m ms d w 6 in
      omega (arith, b, c, e, f)

  tree_counts : is_tree m ≡ true → d.fate ≡ Consumed → suc (tree_messages w) ≤ tree_messages x
  tree_counts i h =
      let b = taken_consumed (network_of g) a j m ms d w 0 in let c = taken_consumed (network_of g) a j m ms d w 1 in
      let e = taken_consumed (network_of g) a j m ms d w 5 in let f = taken_consumed (network_of g) a j m ms d w 6 in
      let one = tree_one m d.fate i h in
      omega (arith, b, c, e, f, one)

  pub tree_taken : is_tree m ≡ true → (Waits (w.node a) j m → ⊥) → suc (tree_messages w) ≤ tree_messages x
  tree_taken i free = tree_counts i (free_consumed (w.node a) j m d up row free)

  -- an Initiate was taken, or nothing waits that didn't before
  pub calls_or_frees : (suc (tree_messages w) ≤ tree_messages x) ⊎ ((y k : ℕ) (z : Message) → Waits (x.node y) k z → Waits (w.node y) k z)
  calls_or_frees = ⊎_elim
      (λ call. inl (tree_taken (call_tree m call) (call_goes (w.node a) j m call)))
      (λ none. inr (λ y k z waits. ⊎_elim
      (λ (e : y ≡ a).
      subst (λ b. Waits (w.node b) k z) (sym e)
      (⊎_elim (λ c. absurd (let q : true ≡ false = sym c ∙ none in cc)) (λ h. h)
      (row_frees (w.node a) j m d (formed.nodes a).node up lt row k z (subst (λ b. Waits b k z) (ap x.node e ∙ here) waits))))
      (λ ne. subst (λ b. Waits b k z) (there y ne) waits)
      (cases_eq y a)))
      (cases_Bool (is_call m))

  -- where a node halts, a tree message was taken
  pub halting_counts : (u : ℕ) → HasHalted (taken (network_of g) a j m ms d w) u → (HasHalted w u → ⊥) → suc (tree_messages w) ≤ tree_messages x
  halting_counts u h ne = ⊎_elim
      (λ (e : u ≡ a).
      let z = row_halts_tree (w.node a) j m d row (ap (λ (b : NodeState). b.head.halted) (sym here) ∙ subst (λ b. (x.node b).head.halted ≡ true) e h)
      (λ b. ne (subst (λ c. HasHalted w c) (sym e) b)) in
      tree_counts z.0 z.1)
      (λ off. absurd (ne (ap (λ (b : NodeState). b.head.halted) (sym (there u off)) ∙ h)))
      (cases_eq u a)
