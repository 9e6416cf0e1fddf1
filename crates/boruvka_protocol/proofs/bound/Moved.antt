-- Connects and ChangeRoots are paid for by levels: a node moves once at each. Who has moved at its level is remembered over a run.
use Rattle.std.proofs.Common.{◌≡◌, ◌≢◌, ◌⊎◌, ℕ, zero, suc, ◌+◌, ◌≤◌, true, Option, Some, None, List, [], ◌∷◌, ◌++◌, inl, inr, refl, sym, ◌∙◌, ap, subst, arith, ⊎_elim, eqb-true}
use Rattle.std.proofs.lemmas.Bool.{cases_eq}
use Rattle.ghs_graph.specs.declared.key.Key.{Key}
use Rattle.ghs_graph.specs.Graph.{Shape, IsGraph}
use Rattle.peer_network.specs.Network.{network_of, At, port_at, far, far_port}
use Rattle.peer_network.specs.Sums.{sum_over_nodes}
use Rattle.peer_network.proofs.lemmas.Wired.{IsWired}
use Rattle.peer_network.proofs.lemmas.Wires.{neighbour}
use Rattle.peer_network.proofs.lemmas.Graphs.{graph_wired}
use Rattle.peer_network.proofs.lemmas.Updates.{put_same, put_other}
use Rattle.peer_machine.specs.Net.{Net, put, opening}
use Rattle.peer_machine.specs.Ledger.{of_kind}
use Rattle.peer_machine.specs.Rules.{messages}
use Rattle.peer_machine.proofs.lemmas.Balance.{of_kind_append}
use Rattle.boruvka_node.specs.declared.message.Message.{Message}
use Rattle.boruvka_node.specs.declared.message.Message.TheVariants.{Initiate, ChangeRoot}
use Rattle.boruvka_node.specs.declared.message.Phase.TheVariants.{Sleeping, Rest}
use Rattle.boruvka_node.specs.declared.mark.Mark.{Mark}
use Rattle.boruvka_node.specs.declared.mark.Mark.TheVariants.{Basic, Asked, Branch, Inside}
use Rattle.boruvka_node.specs.Words.{is_basic, is_branch, is_sleeping}
use Rattle.boruvka_node.specs.State.{State, mark_at}
use Rattle.boruvka_node.specs.Reaction.{Outcome}
use Rattle.boruvka_node.specs.Boruvka.{boruvka}
use Rattle.boruvka_protocol.proofs.invariant.Words.{IsWayUp}
use Rattle.boruvka_protocol.proofs.invariant.Sides.{at_port, side_of, far_side_of}
use Rattle.boruvka_protocol.proofs.invariant.Nodes.{ParentIs, NodeFits}
use Rattle.boruvka_protocol.proofs.invariant.TreeMessages.{PassFits}
use Rattle.boruvka_protocol.proofs.invariant.Search.{LeadsTo, Own, By_child, BestIsSub}
use Rattle.boruvka_protocol.proofs.invariant.Whole.{Holds}
use Rattle.boruvka_protocol.proofs.every_run.Ground.{sleeper_level}
use Rattle.boruvka_protocol.proofs.rows.Grows.{sleeping_tells}
use Rattle.boruvka_protocol.proofs.rows.Late.{search_rest}
use Rattle.boruvka_protocol.proofs.rows.Sends.{sent_on}
use Rattle.boruvka_protocol.proofs.bound.Sums.{node_changes}
use Rattle.boruvka_protocol.proofs.levels.OneWay.{root_has_none, one_port_up, no_way_at_ground}
use Rattle.boruvka_protocol.proofs.bound.Turns.{before, sent_of, MayMove, Awakes, As_root, Was_told, MayEnter, By_token, Was_out, Was_called, Turn, Stays, Sends_on, Sends_out, Rises}
use Rattle.boruvka_protocol.proofs.bound.Steps.{Comes, From_none, From_port, Step}
use Rattle.boruvka_protocol.proofs.bound.Calls.{calls, passes, call_waits, pass_waits, one_waits, sent_on_few, pass_elsewhere}
use Rattle.boruvka_protocol.proofs.bound.Charges.{level_of}

-- Who has moved, 1 for yes: at rest, and no ChangeRoot waits there; where the way up leads to a node of the same level, that one has, also
-- from where a ChangeRoot waits. Each node has moved once at most at its level and at each below it.
pub record Moved (g : Shape) (w : Net State Message) : Type 0 where
  pub moved : ℕ → ℕ
  pub few : (v : ℕ) → moved v ≤ 1
  pub rest : (v : ℕ) → 1 ≤ moved v → (w.node v).head.phase ≡ Rest
  pub waits : (v p : ℕ) → At (network_of g) v p → 1 ≤ passes (w.queue v p) → moved v ≡ 0
  pub ups : (v p : ℕ) → At (network_of g) v p → IsWayUp g.keys (level_of w v) v (port_at (network_of g) v p).key →
      (1 ≤ moved v) ⊎ (1 ≤ passes (w.queue v p)) → level_of w (far (network_of g) v p) ≡ level_of w v → 1 ≤ moved (far (network_of g) v p)
  pub paid : w.sent 0 + w.sent 4 ≤ sum_over_nodes (network_of g) (λ v. level_of w v + moved v)

-- some facts of words

-- who is at rest is awake
rest_up : (n : State) → n.head.phase ≡ Rest → n.head.phase ≢ Sleeping
rest_up n e = (sleeping_tells n.head.phase).1 (ap is_sleeping e)

none_some : {P A : Type 0} (q : Option A) (x : A) → q ≡ None → q ≡ Some x → P
none_some None x e h = cc
none_some (Some y) x e h = cc

nothing_one : {P : Type 0} (ms : List Message) (m : Message) → ms ≡ [] → ms ≡ m ∷ [] → P
nothing_one [] m e h = cc
nothing_one (x ∷ xs) m e h = cc

ones : (m m' : Message) (ms : List Message) → ms ≡ m ∷ [] → ms ≡ m' ∷ [] → m ≡ m'
ones m m' [] e h = cc
ones m m' (x ∷ xs) e h = cc

branch_basic : {P : Type 0} (m : Mark) → is_branch m ≡ true → is_basic m ≡ true → P
branch_basic Basic e h = cc
branch_basic Asked e h = cc
branch_basic Branch e h = cc
branch_basic Inside e h = cc

none_or_one : (x : ℕ) → (1 ≤ x → ⊥) → x ≡ 0
none_or_one zero never = refl
none_or_one (suc x) never = absurd (never (omega arith))

positive : (x : ℕ) → x ≢ 0 → 1 ≤ x
positive zero ne = absurd (ne (omega arith))
positive (suc x) ne = omega arith

module _ (g : Shape) (w w' : Net State Message) (before_holds : Holds g w) (holds : Holds g w') (v : ℕ) (o : Outcome) (own : ℕ → List Message)
    (ms : List Message) (s : Step (network_of g) w w' v o own ms) (m : Moved g w) where
  ok : IsGraph g
  ok = before_holds.graph

  wired : IsWired (network_of g)
  wired = graph_wired g before_holds.graph

  abbrev n : State
  n = w.node v

  abbrev u_at : ℕ → ℕ
  u_at i = far (network_of g) v i

  abbrev b_at : ℕ → ℕ
  b_at i = far_port (network_of g) v i

  abbrev key_of : ℕ → ℕ → Key
  key_of u p = (port_at (network_of g) u p).key

  -- A ChangeRoot that waits.
  abbrev Pass : Net State Message → ℕ → ℕ → Type 0
  Pass x u p =
      PassFits g.keys (side_of (network_of g) u p (at_port (x.node u) p))
      (far_side_of (network_of g) u p (at_port (x.node (far (network_of g) u p)) (far_port (network_of g) u p)))

  pass_in : (x : Net State Message) → Holds g x → (u p : ℕ) → At (network_of g) u p → 1 ≤ passes (x.queue u p) → Pass x u p
  pass_in x h u p at lt = pass_waits g.keys _ _ (x.queue u p) (h.fits.links u p at).calls lt

  -- what is left at a port waited there
  own_was : (p : ℕ) → 1 ≤ passes (own p) → 1 ≤ passes (w.queue v p)
  own_was p lt = go s.comes
    where
      go : Comes (network_of g) w v o.state own ms → 1 ≤ passes (w.queue v p)
      go (From_none e same) = subst (λ q. 1 ≤ passes q) (same p) lt
      go (From_port j x rest at e q left others named) = ⊎_elim
          (λ (h : p ≡ j).
          let a : 1 ≤ passes rest = subst (λ q. 1 ≤ passes q) left (subst (λ y. 1 ≤ passes (own y)) h lt) in
          subst (λ y. 1 ≤ passes (w.queue v y)) (sym h) (subst (λ y. 1 ≤ passes y) (sym q) (omega (arith, a))))
          (λ ne. subst (λ q. 1 ≤ passes q) (others p ne) lt)
          (cases_eq p j)

  -- v, where it is awake
  fits : n.head.phase ≢ Sleeping → NodeFits g.keys v n
  fits up = before_holds.fits.nodes v s.here up

  -- where a ChangeRoot is taken
  record Taken_at (x : Message) : Type 0 where
    port : ℕ
    rest : List Message
    at : At (network_of g) v port
    queue : w.queue v port ≡ x ∷ rest
    left : own port ≡ rest

  taken_at : (x : Message) → ms ≡ x ∷ [] → Taken_at x
  taken_at x e = go s.comes
    where
      go : Comes (network_of g) w v o.state own ms → Taken_at x
      go (From_none h same) = nothing_one ms x h e
      go (From_port j y rest at h q left others named) =
          record { port = j; rest = rest; at = at; queue = q ∙ ap (λ z. z ∷ rest) (ones y x ms h e); left = left }

  told_waits : (e : ms ≡ ChangeRoot ∷ []) → 1 ≤ passes (w.queue v (taken_at ChangeRoot e).port)
  told_waits e = let t = taken_at ChangeRoot e in subst (λ q. 1 ≤ passes q) (sym t.queue) (omega arith)

  -- who may move hasn't at its level
  unmoved : MayMove (before n) ms → m.moved v ≡ 0
  unmoved (Awakes e) = none_or_one (m.moved v) (λ lt. rest_up n (m.rest v lt) e)
  unmoved (As_root e up) = none_or_one (m.moved v) (λ lt. search_rest n.head.phase e (m.rest v lt))
  unmoved (Was_told e) = m.waits v (taken_at ChangeRoot e).port (taken_at ChangeRoot e).at (told_waits e)

  -- no ChangeRoot waits at a node that may move, but the one that is taken
  none_waits : {P : Type 0} → MayMove (before n) ms → (p : ℕ) → At (network_of g) v p → 1 ≤ passes (own p) → P
  none_waits (Awakes e) p at lt = absurd (rest_up n (pass_in w before_holds v p at (own_was p lt)).rest e)
  none_waits (As_root e up) p at lt = search_rest n.head.phase e (pass_in w before_holds v p at (own_was p lt)).rest
  none_waits (Was_told e) p at lt =
      let t = taken_at ChangeRoot e in
      let here = pass_in w before_holds v p at (own_was p lt) in
      let there = pass_in w before_holds v t.port t.at (told_waits e) in
      let class = (fits (rest_up n here.rest)).class in
      let same : p ≡ t.port = one_port_up g ok n.head.level v p t.port class at t.at here.up there.up in
      let left : 1 ≤ passes t.rest = subst (λ q. 1 ≤ passes q) t.left (subst (λ y. 1 ≤ passes (own y)) same lt) in
      let one = one_waits g.keys _ _ (w.queue v t.port) (before_holds.fits.links v t.port t.at).calls in
      let two : 2 ≤ passes (w.queue v t.port) = subst (λ q. 2 ≤ passes q) (sym t.queue) (omega (arith, left)) in
      absurd (omega (arith, one, two))

  -- nor at one that enters the next level
  none_enters : {P : Type 0} → MayEnter (before n) ms → o.state.head.level ≡ suc n.head.level → (p : ℕ) → At (network_of g) v p →
      1 ≤ passes (own p) → P
  none_enters (By_token may) up p at lt = none_waits may p at lt
  none_enters (Was_out q e) up p at lt = none_some n.head.out q (pass_in w before_holds v p at (own_was p lt)).stays e
  none_enters (Was_called l f e lv) up p at lt =
      let t = taken_at (Initiate l f) e in
      let waits : 1 ≤ calls (w.queue v t.port) = subst (λ q. 1 ≤ calls q) (sym t.queue) (omega arith) in
      let call = call_waits g.keys _ _ (w.queue v t.port) (before_holds.fits.links v t.port t.at).calls waits in
      let now : 1 ≤ passes (w'.queue v p) = subst (λ q. 1 ≤ passes q) (sym (s.act.queue p at)) lt in
      let here = pass_in w' holds v p at now in
      let class = (holds.fits.nodes v s.here (rest_up (w'.node v) here.rest)).class in
      let level : (w'.node v).head.level ≡ suc n.head.level = ap (λ (x : State). x.head.level) s.act.node ∙ up in
      let same : p ≡ t.port = one_port_up g ok (w'.node v).head.level v p t.port class at t.at here.up
      (subst (λ x. IsWayUp g.keys x v (key_of v t.port)) (sym level) call.fits.up) in
      let left : 1 ≤ passes (w.queue v t.port) = subst (λ y. 1 ≤ passes (w.queue v y)) same (own_was p lt) in
      let one = one_waits g.keys _ _ (w.queue v t.port) (before_holds.fits.links v t.port t.at).calls in
      absurd (omega (arith, one, waits, left))

  -- The far end u of port i, and the way up from there.
  level_there : (i : ℕ) → At (network_of g) v i → level_of w (u_at i) ≡ level_of w' (u_at i)
  level_there i at = ap (λ (x : State). x.head.level) (s.act.others (u_at i) (wired.apart v i at))

  level_back : (x : Net State Message) (i : ℕ) → At (network_of g) v i → level_of x (far (network_of g) (u_at i) (b_at i)) ≡ level_of x v
  level_back x i at = ap (level_of x) (wired.back v i at)

  -- what v is for a node above which it stands
  parent_level : (x : Net State Message) → Holds g x → (i : ℕ) → At (network_of g) v i →
      IsWayUp g.keys (level_of x (u_at i)) (u_at i) (key_of (u_at i) (b_at i)) →
      (level_of x v ≡ level_of x (u_at i)) ⊎ (level_of x v ≡ suc (level_of x (u_at i)))
  parent_level x h i at up = ⊎_elim
      (λ e. inl (sym (level_back x i at) ∙ e))
      (λ e. inr (sym (level_back x i at) ∙ e))
      ((h.fits.links (u_at i) (b_at i) (wired.there v i at)).children.parent up).level

  -- who passes a ChangeRoot on at its level, at rest, sends it to a child of that level
  sent_to_child : {P : Type 0} (c : ℕ × Key) → o.state.head.phase ≡ Rest → o.state.head.best ≡ Some c → is_branch (mark_at o.state c.0) ≡ true →
      At (network_of g) v c.0 → level_of w' v ≡ suc (level_of w' (u_at c.0)) → P
  sent_to_child {P} c rest best branch at lv = leads best_is.1
    where
      phase : (w'.node v).head.phase ≡ Rest
      phase = ap (λ (x : State). x.head.phase) s.act.node ∙ rest

      best_is : BestIsSub g.keys (network_of g) v (w'.node v) (λ p. (w'.node (far (network_of g) v p)).head) (λ p. w'.queue v p) (Some c)
      best_is = subst (λ q. BestIsSub g.keys (network_of g) v (w'.node v) (λ p. (w'.node (far (network_of g) v p)).head) (λ p. w'.queue v p) q)
          (ap (λ (x : State). x.head.best) s.act.node ∙ best)
          ((holds.fits.search v s.here).rest phase (omega (arith, lv)))

      leads : LeadsTo g.keys (network_of g) v (w'.node v) (λ p. (w'.node (far (network_of g) v p)).head) (λ p. w'.queue v p) c.0 c.1 → P
      leads (Own at basic key) =
          branch_basic (mark_at o.state c.0) branch (sym (ap (λ (x : State). is_basic (mark_at x c.0)) s.act.node) ∙ basic)
      leads (By_child child sub) =
          let x = (holds.fits.links v c.0 at).children.child child.child in
          search_rest _ (x.behind (sym lv)).search phase

  -- With x for whether v has moved now.
  module _ (x : ℕ) (few : x ≤ 1) (rest : 1 ≤ x → o.state.head.phase ≡ Rest)
      (here_waits : (p : ℕ) → At (network_of g) v p → 1 ≤ passes (own p) → x ≡ 0)
      (here_ups : (p : ℕ) → At (network_of g) v p → IsWayUp g.keys o.state.head.level v (key_of v p) → (1 ≤ x) ⊎ (1 ≤ passes (own p)) →
      level_of w (u_at p) ≡ o.state.head.level → 1 ≤ m.moved (u_at p))
      (far_waits : (i : ℕ) → At (network_of g) v i → 1 ≤ passes (w.queue (u_at i) (b_at i) ++ sent_on o.sends i) → m.moved (u_at i) ≡ 0)
      (far_ups : (i : ℕ) → At (network_of g) v i → IsWayUp g.keys (level_of w (u_at i)) (u_at i) (key_of (u_at i) (b_at i)) →
      (1 ≤ m.moved (u_at i)) ⊎ (1 ≤ passes (w.queue (u_at i) (b_at i) ++ sent_on o.sends i)) →
      o.state.head.level ≡ level_of w (u_at i) → 1 ≤ x)
      (pays : sent_of 0 o + sent_of 4 o + (n.head.level + m.moved v) ≤ o.state.head.level + x) where
    now : ℕ → ℕ
    now = put m.moved v x

    now_here : now v ≡ x
    unfolding now
    now_here = put_same m.moved v x

    now_there : (u : ℕ) → u ≢ v → now u ≡ m.moved u
    unfolding now
    now_there u ne = put_other m.moved v u x ne

    level_here : level_of w' v ≡ o.state.head.level
    level_here = ap (λ (y : State). y.head.level) s.act.node

    level_other : (u : ℕ) → u ≢ v → level_of w' u ≡ level_of w u
    level_other u ne = ap (λ (y : State). y.head.level) (sym (s.act.others u ne))

    -- a port of another node: it leads to v over port i, or elsewhere
    by_port : (P : ℕ → ℕ → Type 0) → ((i : ℕ) → At (network_of g) v i → P (u_at i) (b_at i)) →
        ((u p : ℕ) → At (network_of g) u p → u ≢ v → far (network_of g) u p ≢ v → P u p) →
        ((p : ℕ) → At (network_of g) v p → P v p) → (u p : ℕ) → At (network_of g) u p → P u p
    by_port P away other near u p at = ⊎_elim
        (λ (e : u ≡ v). subst (λ y. P y p) (sym e) (near p (subst (λ y. At (network_of g) y p) e at)))
        (λ ne. ⊎_elim
        (λ (e : far (network_of g) u p ≡ v).
        let i = far_port (network_of g) u p in
        let there : At (network_of g) v i = subst (λ y. At (network_of g) y i) e (wired.there u p at) in
        let eu : far (network_of g) v i ≡ u = subst (λ y. far (network_of g) y i ≡ u) e (wired.back u p at) in
        let ep : far_port (network_of g) v i ≡ p = subst (λ y. far_port (network_of g) y i ≡ p) e (wired.back_port u p at) in
        subst (λ y. P y p) eu (subst (λ y. P (u_at i) y) ep (away i there)))
        (λ fne. other u p at ne fne)
        (cases_eq (far (network_of g) u p) v))
        (cases_eq u v)

    queue_other : (u p : ℕ) → At (network_of g) u p → u ≢ v → far (network_of g) u p ≢ v → w'.queue u p ≡ w.queue u p
    queue_other u p at ne fne =
        s.act.queues u p ne (λ i e h. fne (neighbour (network_of g) wired v i u p s.here.some s.here.node at e h))

    now_rest : (u : ℕ) → 1 ≤ now u → (w'.node u).head.phase ≡ Rest
    now_rest u lt = ⊎_elim
        (λ (e : u ≡ v). subst (λ y. (w'.node y).head.phase ≡ Rest) (sym e)
        (ap (λ (y : State). y.head.phase) s.act.node ∙ rest (subst (λ y. 1 ≤ y) now_here (subst (λ y. 1 ≤ now y) e lt))))
        (λ ne.
        ap (λ (y : State). y.head.phase) (sym (s.act.others u ne)) ∙ m.rest u (subst (λ y. 1 ≤ y) (now_there u ne) lt))
        (cases_eq u v)

    now_few : (u : ℕ) → now u ≤ 1
    now_few u = ⊎_elim
        (λ (e : u ≡ v). subst (λ y. now y ≤ 1) (sym e) (omega (arith, now_here, few)))
        (λ ne. omega (arith, now_there u ne, m.few u))
        (cases_eq u v)

    now_waits : (u p : ℕ) → At (network_of g) u p → 1 ≤ passes (w'.queue u p) → now u ≡ 0
    now_waits = by_port (λ u p. 1 ≤ passes (w'.queue u p) → now u ≡ 0)
        (λ i at lt. now_there (u_at i) (wired.apart v i at) ∙ far_waits i at (subst (λ q. 1 ≤ passes q) (s.act.far_queue i at) lt))
        (λ u p at ne fne lt. now_there u ne ∙ m.waits u p at (subst (λ q. 1 ≤ passes q) (queue_other u p at ne fne) lt))
        (λ p at lt. now_here ∙ here_waits p at (subst (λ q. 1 ≤ passes q) (s.act.queue p at) lt))

    abbrev Ups : ℕ → ℕ → Type 0
    Ups u p =
        IsWayUp g.keys (level_of w' u) u (key_of u p) → (1 ≤ now u) ⊎ (1 ≤ passes (w'.queue u p)) →
        level_of w' (far (network_of g) u p) ≡ level_of w' u → 1 ≤ now (far (network_of g) u p)

    ups_near : (p : ℕ) → At (network_of g) v p → Ups v p
    ups_near p at up has same =
        let ne = wired.apart v p at in
        subst (λ y. 1 ≤ y) (sym (now_there (u_at p) ne))
        (here_ups p at (subst (λ l. IsWayUp g.keys l v (key_of v p)) level_here up)
        (⊎_elim
        (λ lt. inl (subst (λ y. 1 ≤ y) now_here lt))
        (λ lt. inr (subst (λ q. 1 ≤ passes q) (s.act.queue p at) lt))
        has)
        (sym (level_other (u_at p) ne) ∙ same ∙ level_here))

    ups_away : (i : ℕ) → At (network_of g) v i → Ups (u_at i) (b_at i)
    ups_away i at up has same =
        let ne = wired.apart v i at in
        let back = wired.back v i at in
        subst (λ y. 1 ≤ now y) (sym back)
        (subst (λ y. 1 ≤ y) (sym now_here)
        (far_ups i at (subst (λ l. IsWayUp g.keys l (u_at i) (key_of (u_at i) (b_at i))) (level_other (u_at i) ne) up)
        (⊎_elim
        (λ lt. inl (subst (λ y. 1 ≤ y) (now_there (u_at i) ne) lt))
        (λ lt. inr (subst (λ q. 1 ≤ passes q) (s.act.far_queue i at) lt))
        has)
        (sym level_here ∙ sym (level_back w' i at) ∙ same ∙ level_other (u_at i) ne)))

    ups_other : (u p : ℕ) → At (network_of g) u p → u ≢ v → far (network_of g) u p ≢ v → Ups u p
    ups_other u p at ne fne up has same =
        subst (λ y. 1 ≤ y) (sym (now_there (far (network_of g) u p) fne))
        (m.ups u p at (subst (λ l. IsWayUp g.keys l u (key_of u p)) (level_other u ne) up)
        (⊎_elim
        (λ lt. inl (subst (λ y. 1 ≤ y) (now_there u ne) lt))
        (λ lt. inr (subst (λ q. 1 ≤ passes q) (queue_other u p at ne fne) lt))
        has)
        (sym (level_other (far (network_of g) u p) fne) ∙ same ∙ level_other u ne))

    now_paid : w'.sent 0 + w'.sent 4 ≤ sum_over_nodes (network_of g) (λ u. level_of w' u + now u)
    now_paid =
        let z = node_changes (network_of g) (λ u. level_of w u + m.moved u) (λ u. level_of w' u + now u) v s.here
        (λ u ne. let a = level_other u ne in let b = now_there u ne in omega (arith, a, b)) in
        omega (arith, z, m.paid, s.sent 0, s.sent 4, pays, level_here, now_here)

    keeps : Moved g w'
    keeps = record {
      moved = now;
      few = now_few;
      rest = now_rest;
      waits = now_waits;
      ups = by_port Ups ups_away ups_other ups_near;
      paid = now_paid;
    }

  -- Each turn.

  -- a queue with something behind it that is no ChangeRoot
  none_behind : (q : List Message) (i : ℕ) → ◌≡◌ {A = ℕ} (sent_of 4 o) 0 → 1 ≤ passes (q ++ sent_on o.sends i) → 1 ≤ passes q
  none_behind q i z lt = omega (arith, lt, of_kind_append boruvka 4 q (sent_on o.sends i), sent_on_few 4 o.sends i, z)

  stays_keeps : o.state.head.level ≡ n.head.level → (n.head.phase ≡ Rest → o.state.head.phase ≡ Rest) → ◌≡◌ {A = ℕ} (sent_of 0 o) 0 →
      ◌≡◌ {A = ℕ} (sent_of 4 o) 0 → Moved g w'
  stays_keeps lv ph s0 s4 = keeps (m.moved v) (m.few v) (λ lt. ph (m.rest v lt)) (λ p at lt. m.waits v p at (own_was p lt))
      (λ p at up has same.
      m.ups v p at (subst (λ l. IsWayUp g.keys l v (key_of v p)) lv up) (⊎_elim (λ lt. inl lt) (λ lt. inr (own_was p lt)) has) (same ∙ lv))
      (λ i at lt. m.waits (u_at i) (b_at i) (wired.there v i at) (none_behind (w.queue (u_at i) (b_at i)) i s4 lt))
      (λ i at up has same.
      subst (λ y. 1 ≤ m.moved y) (wired.back v i at)
      (m.ups (u_at i) (b_at i) (wired.there v i at) up
      (⊎_elim (λ lt. inl lt) (λ lt. inr (none_behind (w.queue (u_at i) (b_at i)) i s4 lt)) has)
      (level_back w i at ∙ sym lv ∙ same)))
      (omega (arith, lv, s0, s4))

  -- who moves has its way up from one that has moved, or none
  moves_up : MayMove (before n) ms → o.state.head.level ≡ n.head.level → (p : ℕ) → At (network_of g) v p →
      IsWayUp g.keys o.state.head.level v (key_of v p) → level_of w (u_at p) ≡ o.state.head.level → 1 ≤ m.moved (u_at p)
  moves_up (Awakes e) lv p at up same =
      no_way_at_ground g ok o.state.head.level v (key_of v p) (lv ∙ sleeper_level before_holds.fits.ground v e) up
  moves_up (As_root e none) lv p at up same =
      let f = fits ((sleeping_tells n.head.phase).1 (ap is_sleeping e)) in
      root_has_none g ok n.head.level v (key_of v p) f.class (subst (ParentIs g.keys n.head.level v n) none f.parent)
      (subst (λ l. IsWayUp g.keys l v (key_of v p)) lv up)
  moves_up (Was_told e) lv p at up same =
      let t = taken_at ChangeRoot e in
      let there = pass_in w before_holds v t.port t.at (told_waits e) in
      let class = (fits (rest_up n there.rest)).class in
      let here : IsWayUp g.keys n.head.level v (key_of v p) = subst (λ l. IsWayUp g.keys l v (key_of v p)) lv up in
      let one : p ≡ t.port = one_port_up g ok n.head.level v p t.port class at t.at here there.up in
      subst (λ y. 1 ≤ m.moved (u_at y)) (sym one)
      (m.ups v t.port t.at there.up (inr (told_waits e)) (subst (λ y. level_of w (u_at y) ≡ n.head.level) one (same ∙ lv)))

  moves_keeps : MayMove (before n) ms → o.state.head.level ≡ n.head.level → o.state.head.phase ≡ Rest → sent_of 0 o + sent_of 4 o ≤ 1 →
      ((i : ℕ) → At (network_of g) v i → 1 ≤ passes (w.queue (u_at i) (b_at i) ++ sent_on o.sends i) → m.moved (u_at i) ≡ 0) → Moved g w'
  moves_keeps may lv rest one far = keeps 1 (omega arith) (λ lt. rest) (λ p at lt. none_waits may p at lt)
      (λ p at up has same. moves_up may lv p at up same)
      far
      (λ i at up has same. omega arith)
      (let z = unmoved may in omega (arith, lv, one, z))

  -- the child that a ChangeRoot goes to hasn't moved: else its parent, v, would have
  child_unmoved : (c : ℕ × Key) → MayMove (before n) ms → o.state.head.level ≡ n.head.level → o.state.head.phase ≡ Rest →
      o.state.head.best ≡ Some c → is_branch (mark_at o.state c.0) ≡ true → o.sends ≡ (c.0, ChangeRoot) ∷ [] → (i : ℕ) → At (network_of g) v i →
      1 ≤ passes (w.queue (u_at i) (b_at i) ++ sent_on o.sends i) → m.moved (u_at i) ≡ 0
  child_unmoved c may lv rest best branch sends i at lt = ⊎_elim
      (λ (old : 1 ≤ passes (w.queue (u_at i) (b_at i))). m.waits (u_at i) (b_at i) (wired.there v i at) old)
      (λ (new : 1 ≤ passes (sent_on o.sends i)).
      none_or_one (m.moved (u_at i)) (λ moved. contradicts moved (to_child new)))
      (either lt)
    where
      either : 1 ≤ passes (w.queue (u_at i) (b_at i) ++ sent_on o.sends i) →
          (1 ≤ passes (w.queue (u_at i) (b_at i))) ⊎ (1 ≤ passes (sent_on o.sends i))
      either lt = ⊎_elim
          (λ (z : passes (sent_on o.sends i) ≡ 0).
          inl (omega (arith, z, lt, of_kind_append boruvka 4 (w.queue (u_at i) (b_at i)) (sent_on o.sends i))))
          (λ ne. inr (positive (passes (sent_on o.sends i)) ne))
          (cases_eq (passes (sent_on o.sends i)) 0)

      to_child : 1 ≤ passes (sent_on o.sends i) → c.0 ≡ i
      to_child new = eqb-true c.0 i (pass_elsewhere c.0 i (subst (λ y. 1 ≤ passes (sent_on y i)) sends new))

      contradicts : 1 ≤ m.moved (u_at i) → c.0 ≡ i → ⊥
      contradicts moved to = ⊎_elim
          (λ same.
          let up_was : IsWayUp g.keys (level_of w (u_at i)) (u_at i) (key_of (u_at i) (b_at i)) =
          subst (λ l. IsWayUp g.keys l (u_at i) (key_of (u_at i) (b_at i))) (sym (level_there i at)) pass.up in
          let still : level_of w v ≡ level_of w' v = sym lv ∙ sym (ap (λ (x : State). x.head.level) s.act.node) in
          let more = m.ups (u_at i) (b_at i) (wired.there v i at) up_was (inl moved)
          (level_back w i at ∙ still ∙ same ∙ sym (level_there i at)) in
          let here : 1 ≤ m.moved v = subst (λ y. 1 ≤ m.moved y) (wired.back v i at) more in
          let z = unmoved may in
          omega (arith, here, z))
          (λ above.
          sent_to_child c rest best branch (subst (λ y. At (network_of g) v y) (sym to) at)
          (subst (λ y. level_of w' v ≡ suc (level_of w' (u_at y))) (sym to) above))
          (parent_level w' holds i at pass.up)
        where
          pass : Pass w' (u_at i) (b_at i)
          pass = pass_in w' holds (u_at i) (b_at i) (wired.there v i at) (subst (λ q. 1 ≤ passes q) (sym (s.act.far_queue i at)) lt)

  rises_keeps : MayEnter (before n) ms → o.state.head.level ≡ suc n.head.level → ◌≡◌ {A = ℕ} (sent_of 4 o) 0 →
      (◌≡◌ {A = ℕ} (sent_of 0 o) 0) ⊎ (MayMove (before n) ms × (sent_of 0 o ≤ 1)) → Moved g w'
  rises_keeps may lv s4 s0 = keeps 0 (omega arith) (λ lt. absurd (omega (arith, lt))) (λ p at lt. refl)
      (λ p at up has same. ⊎_elim (λ lt. absurd (omega (arith, lt))) (λ lt. none_enters may lv p at lt) has)
      (λ i at lt. m.waits (u_at i) (b_at i) (wired.there v i at) (none_behind (w.queue (u_at i) (b_at i)) i s4 lt))
      (λ i at up has same.
      absurd (⊎_elim
      (λ (e : level_of w v ≡ level_of w (u_at i)). omega (arith, e, lv, same))
      (λ (e : level_of w v ≡ suc (level_of w (u_at i))). omega (arith, e, lv, same))
      (parent_level w before_holds i at up)))
      (⊎_elim
      (λ (z : ◌≡◌ {A = ℕ} (sent_of 0 o) 0). let f = m.few v in omega (arith, lv, s4, z, f))
      (λ (z : MayMove (before n) ms × (sent_of 0 o ≤ 1)). let f = unmoved z.0 in let one = z.1 in omega (arith, lv, s4, one, f))
      s0)

  -- one ChangeRoot goes out, and no Connect
  one_pass : (c : ℕ) → o.sends ≡ (c, ChangeRoot) ∷ [] → sent_of 0 o + sent_of 4 o ≤ 1
  one_pass c e = subst (λ x. of_kind boruvka 0 (messages x) + of_kind boruvka 4 (messages x) ≤ 1) (sym e) (omega arith)

  turn_keeps : Turn (before n) ms o → Moved g w'
  turn_keeps (Stays lv ph s0 s4 s3) = stays_keeps lv ph s0 s4
  turn_keeps (Sends_on c may lv ph best t sends) =
      moves_keeps may lv ph (one_pass c.0 sends) (child_unmoved c may lv ph best t sends)
  turn_keeps (Sends_out may lv ph s0 s4 s3) = moves_keeps may lv ph (omega (arith, s0, s4))
      (λ i at lt. m.waits (u_at i) (b_at i) (wired.there v i at) (none_behind (w.queue (u_at i) (b_at i)) i s4 lt))
  turn_keeps (Rises may lv s4 s0 s3) = rises_keeps may lv s4 s0

  pub moved_step : Moved g w'
  moved_step = turn_keeps s.turn

pub moved_opening : (g : Shape) → Moved g (opening boruvka (network_of g))
moved_opening g = record {
  moved = λ v. 0;
  few = λ v. omega arith;
  rest = λ v lt. absurd (omega (arith, lt));
  waits = λ v p at lt. refl;
  ups = λ v p at up has same. absurd (⊎_elim (λ lt. omega (arith, lt)) (λ lt. omega (arith, lt)) has);
  paid = omega arith;
}
