-- One act keeps the order in all queues, where the invariant holds before and behind it.
use Rattle.std.proofs.Common.{◌≡◌, ◌≢◌, ◌⊎◌, ⊎_elim, ℕ, suc, ◌+◌, ◌<◌, ◌≤◌, ◌||◌, ◌&&◌, Bool, true, false, Some, List, [], ◌∷◌, ◌++◌, length, refl, sym, ◌∙◌, ap, subst, cond, arith, eq-eqb}
use Rattle.std.proofs.lemmas.Bool.{cases_eq, cases_lt}
use Rattle.ghs_graph.specs.Graph.{Shape}
use Rattle.boruvka_protocol.specs.Levels.{InClass, IsOfLevel}
use Rattle.ghs_node.specs.Words.{is_at}
use Rattle.peer_network.specs.Network.{Network, network_of, far, far_port, InNetwork, At}
use Rattle.peer_network.proofs.lemmas.Wired.{IsWired}
use Rattle.peer_network.proofs.lemmas.Wires.{neighbour}
use Rattle.peer_network.proofs.lemmas.Graphs.{graph_wired}
use Rattle.peer_machine.specs.Net.{Net}
use Rattle.peer_machine.specs.Rules.{Outgoing}
use Rattle.boruvka_node.specs.declared.change.Entry.{Entry}
use Rattle.boruvka_node.specs.declared.mark.Mark.TheVariants.{Basic, Asked, Branch, Inside}
use Rattle.boruvka_node.specs.declared.message.Message.{Message}
use Rattle.boruvka_node.specs.declared.message.Message.TheVariants.{Name}
use Rattle.boruvka_node.specs.declared.port_state.PortState.{PortState}
use Rattle.boruvka_node.specs.Words.{is_basic}
use Rattle.boruvka_node.specs.State.{State, degree, port_at, mark_at, was_heard}
use Rattle.boruvka_node.specs.Entering.{joined_mark, entered_from, entered_port, told_from}
use Rattle.boruvka_node.specs.Reaction.{Outcome}
use Rattle.boruvka_protocol.proofs.invariant.Sides.{names_in, calls_in}
use Rattle.boruvka_protocol.proofs.invariant.Names.{AreNamesFrom}
use Rattle.boruvka_protocol.proofs.invariant.Whole.{Holds}
use Rattle.boruvka_protocol.proofs.Unlike.{false_is_true}
use Rattle.boruvka_protocol.proofs.rows.Ports.{port_entered, told_by, told_on}
use Rattle.boruvka_protocol.proofs.rows.Sends.{sent_on, sent_append}
use Rattle.boruvka_protocol.proofs.rows.Acts.{Acts}
use Rattle.boruvka_protocol.proofs.follows.Seen.{SeenAt, SeenBackAt, seen, seen_back, node_fits}
use Rattle.boruvka_protocol.proofs.follows.Order.{OrderFits, OrderAt, Ordered}
use Rattle.boruvka_protocol.proofs.follows.Ordered.{order_more, tells_basic, only_names}
use Rattle.boruvka_protocol.proofs.follows.Told.{port_in, Fares, Stays, Rises}
use Rattle.boruvka_protocol.proofs.follows.Entered.{name_within, chose_another, led_out, order_entered, order_joined}

-- each node's level is that of its class, be it asleep
pub level_of : (g : Shape) (w : Net State Message) → Holds g w → (v : ℕ) → InNetwork (network_of g) v →
    IsOfLevel g.keys (w.node v).head.level v
level_of g w h v net = ⊎_elim
    (λ some. (node_fits g w h v net some).class)
    (λ none. let z : (w.node v).head.level ≡ 0 = omega (arith, none) in subst (λ l. IsOfLevel g.keys l v) (sym z) tt)
    (cases_lt 0 (w.node v).head.level)

turned_no_branch : (b : Bool) → cond b Inside Basic ≡ Branch → ⊥
turned_no_branch true e = cc
turned_no_branch false e = cc

-- Node v acts; own is what is left at its ports, which are xs when it has taken its message.
module _ (g : Shape) (w w' : Net State Message) (h : Holds g w) (h' : Holds g w') (order : Ordered g w) (v : ℕ) (o : Outcome)
    (own : ℕ → List Message) (here : InNetwork (network_of g) v) (act : Acts (network_of g) w w' v o.state own o.sends) (C : ℕ → Type 0)
    (xs : List PortState) (many : length xs ≡ degree (w.node v))
    (mid : (i : ℕ) → At (network_of g) v i →
    OrderFits g.keys v (far (network_of g) v i) (port_in xs i).mark (port_in xs i).level (own i))
    (was : (i : ℕ) → At (network_of g) v i → (port_in xs i).mark ≡ Basic → mark_at (w.node v) i ≡ Basic)
    (called : (i : ℕ) → At (network_of g) v i → C i → names_in (own i) ≡ []) where
  abbrev net : Network
  net = network_of g

  wired : IsWired net
  wired = graph_wired g h.graph

  -- v with its ports of now
  abbrev n : State
  n = record (w.node v) { ports = xs }

  within : (i : ℕ) → At net v i → i < length xs
  within i at = let port = at.port in omega (arith, port, many, (h.fits.ground.nodes v).ports)

  abbrev Near : List PortState → ℕ → Type 0
  Near ys i = OrderFits g.keys v (far net v i) (port_in ys i).mark (port_in ys i).level (own i)

  abbrev Away : List Message → ℕ → Type 0
  Away ms i =
      OrderFits g.keys (far net v i) v (mark_at (w.node (far net v i)) (far_port net v i)) (port_at (w.node (far net v i)) (far_port net v i)).level
      (w.queue (far net v i) (far_port net v i) ++ ms)

  -- the order at the far end before
  before_away : (i : ℕ) → At net v i →
      OrderFits g.keys (far net v i) v (mark_at (w.node (far net v i)) (far_port net v i)) (port_at (w.node (far net v i)) (far_port net v i)).level
      (w.queue (far net v i) (far_port net v i))
  before_away i at =
      let u = far net v i in
      let q = far_port net v i in
      subst (λ y. OrderFits g.keys u y (mark_at (w.node u) q) (port_at (w.node u) q).level (w.queue u q)) (wired.back v i at)
      (order u q (wired.there v i at))

  -- the node has risen by this entry
  module _ (e : Entry) (before behind : Outgoing Message) (ports : o.state.ports ≡ entered_from e 0 xs) (level : o.state.head.level ≡ e.level)
      (up : e.level ≡ suc (w.node v).head.level) (sends : o.sends ≡ before ++ (told_from e 0 xs ++ behind))
      (none_before : (i : ℕ) → names_in (sent_on before i) ≡ []) (none_behind : (i : ℕ) → names_in (sent_on behind i) ≡ [])
      (elsewhere : (i : ℕ) → e.out ≢ Some i → sent_on before i ≡ [])
      (out : (p : ℕ) → is_at e.out p ≡ true → ((port_in xs p).mark ≡ Asked) ⊎ C p) where
    port_now : (i : ℕ) → At net v i → port_in o.state.ports i ≡ entered_port e i (port_in xs i)
    port_now i at = ap (λ ys. port_in ys i) ports ∙ port_entered n e i (within i at)

    mark_now : (i : ℕ) → At net v i → mark_at (w'.node v) i ≡ (entered_port e i (port_in xs i)).mark
    mark_now i at = ap (λ (x : State). mark_at x i) act.node ∙ ap (λ (x : PortState). x.mark) (port_now i at)

    level_now : (w'.node v).head.level ≡ e.level
    level_now = ap (λ (x : State). x.head.level) act.node ∙ level

    risen_near : (i : ℕ) → At net v i → Near o.state.ports i
    risen_near i at =
        subst (λ (x : PortState). OrderFits g.keys v (far net v i) x.mark x.level (own i)) (sym (port_now i at))
        (order_entered g.keys v (far net v i) e i (port_in xs i) (own i) (mid i at) joins inside)
      where
        joins : is_at e.out i ≡ true → names_in (own i) ≡ []
        joins t = ⊎_elim (λ a. (mid i at).asked a) (λ c. called i at c) (out i t)

        inside : (entered_port e i (port_in xs i)).mark ≡ Inside → InClass g.keys e.level v (far net v i)
        inside z = subst (λ l. InClass g.keys l v (far net v i)) level_now ((seen g w' h' v i at).marks.inside (mark_now i at ∙ z)).0

    sent_there : (i : ℕ) → At net v i →
        sent_on o.sends i ≡
        sent_on before i ++ (told_by e (joined_mark e i (port_in xs i).mark) (is_at e.parent i) ++ sent_on behind i)
    sent_there i at =
        ap (λ (ss : Outgoing Message). sent_on ss i) sends
        ∙ sent_append before (told_from e 0 xs ++ behind) i
        ∙ ap (λ x. sent_on before i ++ x) (sent_append (told_from e 0 xs) behind i)
        ∙ ap (λ x. sent_on before i ++ (x ++ sent_on behind i)) (told_on n e i (within i at))

    -- where a name is told
    module _ (i : ℕ) (at : At net v i) (basic : (port_in xs i).mark ≡ Basic) (not_out : is_at e.out i ≡ false) where
      abbrev u : ℕ
      u = far net v i

      abbrev q : ℕ
      q = far_port net v i

      joined_basic : joined_mark e i (port_in xs i).mark ≡ Basic
      joined_basic = ap (joined_mark e i) basic ∙ ap (λ b. cond (b || false) Branch Basic) not_out

      nothing_before : sent_on before i ≡ []
      nothing_before = elsewhere i (λ z. false_is_true (sym not_out ∙ ap (λ x. is_at x i) z ∙ eq-eqb i i refl))

      queue_now : w'.queue u q ≡ w.queue u q ++ (Name e.level e.name ∷ sent_on behind i)
      queue_now =
          act.far_queue i at
          ∙ ap (λ x. w.queue u q ++ x)
          (sent_there i at
          ∙ ap (λ m. sent_on before i ++ (told_by e m (is_at e.parent i) ++ sent_on behind i)) joined_basic
          ∙ ap (λ x. x ++ (Name e.level e.name ∷ sent_on behind i)) nothing_before)

      s : SeenBackAt g w v i
      s = seen_back g w h v i at

      t : SeenAt g w v i
      t = seen g w h v i at

      s' : SeenBackAt g w' v i
      s' = seen_back g w' h' v i at

      t' : SeenAt g w' v i
      t' = seen g w' h' v i at

      level' : (w'.node v).head.level ≡ suc (w.node v).head.level
      level' = level_now ∙ up

      other : mark_at (w'.node v) i ≢ Branch
      other z = no_branch (sym (mark_now i at) ∙ z)
        where
          no_branch : (entered_port e i (port_in xs i)).mark ≡ Branch → ⊥
          no_branch z = turned_no_branch (was_heard e.level e.name (port_in xs i))
              (subst (λ m. cond (is_basic m && was_heard e.level e.name (port_in xs i)) Inside m ≡ Branch) joined_basic z)

      told : (w.node v).head.level < (port_at (w'.node u) q).level + length (names_in (w'.queue u q))
      told = let x : e.level ≤ (port_at (w'.node u) q).level + length (names_in (w'.queue u q)) = below in omega (arith, x, up)
        where
          below : e.level ≤ (port_at (w'.node u) q).level + length (names_in (w'.queue u q))
          below =
              subst (λ x. e.level ≤ (port_at (w'.node u) q).level + length (names_in x)) (sym queue_now)
              (name_within g.keys v (port_at (w'.node u) q).level (w.queue u q) e.level e.name (sent_on behind i)
              (subst (λ x. AreNamesFrom g.keys v (port_at (w'.node u) q).level (names_in x)) queue_now s'.names.next))

      leads : InClass g.keys (w.node v).head.level v u → ⊥
      leads = led_out g h.graph (w.node v).head.level _ _ _ _ _ _ (w'.queue u q) (w'.queue v i) s' t' level' other told

      stays : (w.node v).head.out ≡ Some i → ⊥
      stays z =
          chose_another g h.graph (w.node v).head.level _ _ _ _ _ _ (w'.queue u q) (w'.queue v i) s' t' level' other told (t.connects.out z).least

      told_there : (mark_at (w.node u) q ≡ Basic) × (calls_in (w.queue u q) ≡ []) × (sent_on before i ≡ [])
      told_there = (
        tells_basic g h.graph _ _ _ _ _ _ (w.queue u q) (w.queue v i) s t (before_away i at) (was i at basic) stays leads
            (level_of g w h u (record { some = (wired.there v i at).some; node = (wired.there v i at).node })),
        only_names g h.graph _ _ _ _ _ _ (w.queue u q) (w.queue v i) s t (before_away i at) (was i at basic) stays leads,
        nothing_before,
      )

    risen_away : (i : ℕ) → At net v i → Away (sent_on o.sends i) i
    risen_away i at =
        subst (λ x. Away x i) (sym (sent_there i at))
        (order_joined g.keys (far net v i) v _ _ (w.queue (far net v i) (far_port net v i)) (before_away i at) e i (is_at e.parent i)
        (sent_on before i) (sent_on behind i) (none_before i) (none_behind i) (port_in xs i).mark (told_there i at))

  near : Fares C xs (w.node v).head.level o → (i : ℕ) → At net v i → Near o.state.ports i
  near (Stays same none) i at = subst (λ ys. Near ys i) (sym same) (mid i at)
  near (Rises e before behind ports level up sends nb nh there out) i at = risen_near e before behind ports level up sends nb nh there out i at

  away : Fares C xs (w.node v).head.level o → (i : ℕ) → At net v i → Away (sent_on o.sends i) i
  away (Stays same none) i at =
      order_more g.keys (far net v i) v _ _ (w.queue (far net v i) (far_port net v i)) (sent_on o.sends i) (before_away i at) (none i)
  away (Rises e before behind ports level up sends nb nh there out) i at = risen_away e before behind ports level up sends nb nh there out i at

  module _ (fares : Fares C xs (w.node v).head.level o) where
    now_near : (i : ℕ) → At net v i → OrderAt g w' v i
    now_near i at =
        subst (λ (x : State). OrderFits g.keys v (far net v i) (mark_at x i) (port_at x i).level (w'.queue v i)) (sym act.node)
        (subst (λ ms. OrderFits g.keys v (far net v i) (mark_at o.state i) (port_at o.state i).level ms) (sym (act.queue i at)) (near fares i at))

    now_away : (i : ℕ) → At net v i → OrderAt g w' (far net v i) (far_port net v i)
    now_away i at =
        let u = far net v i in
        let q = far_port net v i in
        subst (λ y. OrderFits g.keys u y (mark_at (w'.node u) q) (port_at (w'.node u) q).level (w'.queue u q)) (sym (wired.back v i at))
        (subst (λ (x : State). OrderFits g.keys u v (mark_at x q) (port_at x q).level (w'.queue u q)) (act.others u (wired.apart v i at))
        (subst (λ ms. OrderFits g.keys u v (mark_at (w.node u) q) (port_at (w.node u) q).level ms) (sym (act.far_queue i at)) (away fares i at)))

    now_other : (u q : ℕ) → At net u q → u ≢ v → far net u q ≢ v → OrderAt g w' u q
    now_other u q at ne fne =
        subst (λ (x : State). OrderFits g.keys u (far net u q) (mark_at x q) (port_at x q).level (w'.queue u q)) (act.others u ne)
        (subst (λ ms. OrderFits g.keys u (far net u q) (mark_at (w.node u) q) (port_at (w.node u) q).level ms)
        (sym (act.queues u q ne (λ j e x. fne (neighbour net wired v j u q here.some here.node at e x))))
        (order u q at))

    pub order_act : Ordered g w'
    order_act u q at = ⊎_elim
        (λ (e : u ≡ v). subst (λ y. OrderAt g w' y q) (sym e) (now_near q (subst (λ y. At net y q) e at)))
        (λ ne. ⊎_elim
        (λ (e : far net u q ≡ v).
        let i = far_port net u q in
        let here_at : At net v i = subst (λ y. At net y i) e (wired.there u q at) in
        let eu : far net v i ≡ u = subst (λ y. far net y i ≡ u) e (wired.back u q at) in
        let eq : far_port net v i ≡ q = subst (λ y. far_port net y i ≡ q) e (wired.back_port u q at) in
        subst (λ y. OrderAt g w' u y) eq (subst (λ y. OrderAt g w' y (far_port net v i)) eu (now_away i here_at)))
        (λ fne. now_other u q at ne fne)
        (cases_eq (far net u q) v))
        (cases_eq u v)
