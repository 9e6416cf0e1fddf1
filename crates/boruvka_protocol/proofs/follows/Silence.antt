-- Silence is the end: where no message waits in the component of a node that is awake, one node of it has halted, and no other.
--
-- Suppose that none has halted there, and let l be the least level among those that are awake. Above 0 nobody sleeps, all in a class of a node of
-- level l are at that level, and nobody searches: a Basic port was heard, so a child would search too, and so on down the tree. So the root of
-- each such class is at rest, and its token is with a node that has gone out. At level 0 each node has gone out. The far end has noted the Connect,
-- so it is of level l, and its class goes out over a lesser key, or back over the same one: keys would fall for ever.
use Rattle.std.proofs.Common.{◌≡◌, ◌≢◌, ℕ, zero, suc, ◌<◌, ◌≤◌, ◌⊎◌, nat_lt, inl, inr, ⊎_elim, Bool, true, Some, List, [], ◌∷◌, length, get_or, cond, refl, sym, ◌∙◌, ap, subst, ltb-true, arith}
use Rattle.std.specs.List.{Contains, count_by}
use Rattle.std.proofs.lemmas.Bool.{and_parts, both_ways, cases_Bool, cases_eq, cases_lt, or_cases}
use Rattle.std.proofs.lemmas.List.{get_or-replicate}
use Rattle.std.proofs.lemmas.List.Sums.{sum_by-cons}
use Rattle.ghs_graph.specs.declared.key.Key.{Key}
use Rattle.ghs_graph.specs.Graph.{Shape}
use Rattle.ghs_graph.specs.Key.{key_lt}
use Rattle.ghs_graph.specs.Links.{Joined, Same, Over, Back, links}
use Rattle.ghs_graph.specs.Ports.{far_end}
use Rattle.ghs_graph.proofs.lemmas.Joining.{joined_then, joined_back, Decided, decided, joins_tells}
use Rattle.ghs_graph.proofs.lemmas.Ports.{ends_a, ends_b, far_end_a, far_end_b}
use Rattle.ghs_graph.specs.Computing.{joins}
use Rattle.peer_network.specs.Network.{network_of, port_at, far, far_port, InNetwork, At}
use Rattle.peer_network.proofs.lemmas.Graphs.{graph_wired, graph_keyed, link_among}
use Rattle.boruvka_protocol.specs.Levels.{Leaves, Taken, InClass, IsOfLevel}
use Rattle.boruvka_protocol.specs.WaysUp.{IsTop, IsUp}
use Rattle.boruvka_protocol.proofs.lemmas.KeyOrder.{key_cases, stands_earlier}
use Rattle.boruvka_protocol.proofs.lemmas.Cuts.{least_at, taken_in_tree, taken_links}
use Rattle.boruvka_protocol.proofs.lemmas.WaysUp.{top_at, classes_have_one_top}
use Rattle.peer_machine.specs.Net.{Net}
use Rattle.boruvka_node.specs.declared.mark.Mark.TheVariants.{Asked}
use Rattle.boruvka_node.specs.declared.message.Message.{Message}
use Rattle.boruvka_node.specs.declared.message.Phase.{Phase}
use Rattle.boruvka_node.specs.declared.message.Phase.TheVariants.{Sleeping, Search, Rest}
use Rattle.boruvka_node.specs.declared.port_state.PortState.{PortState}
use Rattle.boruvka_node.specs.Words.{is_basic}
use Rattle.boruvka_node.specs.State as state
use Rattle.boruvka_node.specs.State.{State, degree, fresh_port, no_port, mark_at, is_missing}
use Rattle.boruvka_protocol.specs.Laws.{IsWholeAt, IsSilentAt}
use Rattle.boruvka_protocol.specs.Marks.{HasHalted}
use Rattle.boruvka_protocol.proofs.invariant.Words.{IsLeast, IsWayUp}
use Rattle.boruvka_protocol.proofs.invariant.Sides.{at_port, heard_at, passes_in}
use Rattle.boruvka_protocol.proofs.invariant.Nodes.{NodeFits, IsOut}
use Rattle.boruvka_protocol.proofs.invariant.Token.{Place, HaltFits, IsTokenAt, In_message, Gone_out, Gone_on, At_end, RootIsPast}
use Rattle.boruvka_protocol.proofs.invariant.Whole.{Holds}
use Rattle.boruvka_protocol.proofs.follows.Cases.{awake_no_rest, awake_no_search, plain_no_asked}
use Rattle.boruvka_protocol.proofs.follows.Ways.{port_on_link, far_by_link, over, taken_still, in_whole}
use Rattle.boruvka_protocol.proofs.follows.Seen.{Seen, side, seen, seen_back, joined_in}
use Rattle.boruvka_protocol.proofs.follows.Tree.{Done, halted_done, halted_whole}
use Rattle.boruvka_protocol.proofs.follows.Quiet.{ends_apart, leaves_across, same_level, no_sleeper, level_heard, IsNoted, out_noted, not_both_out}
use Rattle.boruvka_protocol.proofs.follows.Descent.{none_goes_down}

-- where a count isn't 0, one passes
some_counted : (test : PortState → Bool) (xs : List PortState) → 1 ≤ count_by test xs →
    (i : ℕ) × (i < length xs) × (test (get_or xs i no_port) ≡ true)
some_counted test [] le = absurd (omega (arith, le))
some_counted test (x ∷ xs) le = ⊎_elim
    (λ t. (0, omega arith, t))
    (λ f.
    let all = sum_by-cons (λ y. cond (test y) 1 0) x xs in
    let none : ◌≡◌ {A = ℕ} (cond (test x) 1 0) 0 = rw f refl in
    let rest = some_counted test xs (omega (arith, all, none, le)) in
    (suc rest.0, omega (arith, rest.1), rest.2))
    (cases_Bool (test x))

-- among the numbers from 1 to n one has P, or none
some_or_none : (n : ℕ) (P : ℕ → Type 0) → ((u : ℕ) → Decided (P u)) →
    ((u : ℕ) × (1 ≤ u) × (u ≤ n) × P u) ⊎ ((u : ℕ) → 1 ≤ u → u ≤ n → P u → ⊥)
some_or_none zero P decide = inr (λ u low high p. omega (arith, low, high))
some_or_none (suc n) P decide = ⊎_elim
    (λ f. inl (f.0, f.1, omega (arith, f.2), f.3))
    (λ none. ⊎_elim
    (λ p. inl (suc n, omega arith, omega arith, p))
    (λ no. inr (λ u low high p. ⊎_elim
    (λ lt. none u low (omega (arith, lt)) p)
    (λ ge. let e : u ≡ suc n = omega (arith, ge, high) in no (subst P e p))
    (cases_lt u (suc n))))
    (decide (suc n)))
    (some_or_none n P decide)

rest_awake : (p : Phase) → p ≡ Rest → p ≢ Sleeping
rest_awake p r s = cc

-- from one end of a link its far end is the other one
far_is : (k : Key) (u v : ℕ) → k.a < k.b → ((u ≡ k.a) × (v ≡ k.b)) ⊎ ((u ≡ k.b) × (v ≡ k.a)) → far_end v k ≡ u
far_is k u v lt (inl e) = ap (λ x. far_end x k) e.1 ∙ far_end_b k lt ∙ sym e.0
far_is k u v lt (inr e) = ap (λ x. far_end x k) e.1 ∙ far_end_a k ∙ sym e.0

module _ (g : Shape) (w : Net State Message) (h : Holds g w) (v : ℕ) (net : InNetwork (network_of g) v) (quiet : IsSilentAt g w v) where
  abbrev In : ℕ → Type 0
  In x = Joined (links g.keys) v x

  abbrev Awake : ℕ → Type 0
  Awake x = (w.node x).head.phase ≢ Sleeping

  abbrev level_of : ℕ → ℕ
  level_of x = (w.node x).head.level

  net_of : (x : ℕ) → In x → InNetwork (network_of g) x
  net_of x way = joined_in g w h net way

  fits_of : (x : ℕ) → In x → Awake x → NodeFits g.keys x (w.node x)
  fits_of x way woke = h.fits.nodes x (net_of x way) woke

  far_in : (x p : ℕ) → In x → At (network_of g) x p → In (far (network_of g) x p)
  far_in x p way at = let s = seen g w h x p at in joined_then way (over {P = links g.keys} (port_at (network_of g) x p).key s.wire.link s.wire.ends)

  abbrev With : ℕ → ℕ → ℕ → ℕ → List Message → List Message → Type 0
  With u q x p ms ns =
      Seen g.keys (side (network_of g) w u q) (side (network_of g) w x p) (heard_at (at_port (w.node u) q)) (state.port_at (w.node u) q).owes ms ns

  -- a link in the component, where nothing waits
  calm : (x p : ℕ) → In x → At (network_of g) x p → With x p (far (network_of g) x p) (far_port (network_of g) x p) [] []
  calm x p way at =
      let y = far (network_of g) x p in
      let q = far_port (network_of g) x p in
      subst (λ ms. With x p y q ms []) (quiet x p at way)
      (subst (λ ns. With x p y q (w.queue x p) ns) (quiet y q ((graph_wired g h.graph).there x p at) (far_in x p way at)) (seen g w h x p at))

  calm_back : (x p : ℕ) → In x → At (network_of g) x p → With (far (network_of g) x p) (far_port (network_of g) x p) x p [] []
  calm_back x p way at =
      let y = far (network_of g) x p in
      let q = far_port (network_of g) x p in
      subst (λ ns. With y q x p [] ns) (quiet x p at way)
      (subst (λ ms. With y q x p ms (w.queue x p)) (quiet y q ((graph_wired g h.graph).there x p at) (far_in x p way at)) (seen_back g w h x p at))

  -- a sleeper's ports are as at the opening
  fresh : (y q : ℕ) → At (network_of g) y q → (w.node y).head.phase ≡ Sleeping → state.port_at (w.node y) q ≡ fresh_port
  fresh y q at s =
      ap (λ (n : State). state.port_at n q) (h.fits.ground.untouched y s)
      ∙ get_or-replicate (length ((network_of g).ports y)) q fresh_port no_port at.port

  asked_awake : (y q : ℕ) → At (network_of g) y q → mark_at (w.node y) q ≡ Asked → Awake y
  asked_awake y q at a s = plain_no_asked (mark_at (w.node y) q) (ap (λ (x : PortState). x.mark) (fresh y q at s)) a

  -- Suppose that nobody has halted.
  module _ (none : (x : ℕ) → In x → HasHalted w x → ⊥) where
    -- who has gone out for the class of x at level l
    pub record Outgoer (l x : ℕ) : Type 0 where
      pub node : ℕ
      pub inside : InClass g.keys l x node
      pub level : level_of node ≡ l
      pub port : ℕ
      pub at : At (network_of g) node port
      pub out : (w.node node).head.out ≡ Some port

    abbrev out_key : {l x : ℕ} → Outgoer l x → Key
    out_key o = (port_at (network_of g) o.node o.port).key

    out_in : (l x : ℕ) → In x → (o : Outgoer l x) → In o.node
    out_in l x way o = joined_then way (taken_links g.keys l o.inside)

    -- it is the least way out
    out_least : (l x : ℕ) → In x → (o : Outgoer l x) → IsLeast g.keys l o.node (out_key o)
    out_least l x way o =
        let s = calm o.node o.port (out_in l x way o) o.at in
        subst (λ n. IsLeast g.keys n o.node (out_key o)) o.level (s.connects.out o.out).least

    -- Let each class of a node of level l have one.
    module _ (l : ℕ) (outs : (x : ℕ) → In x → Awake x → level_of x ≡ l → Outgoer l x) where
      -- the next one, over the link
      module _ (x : ℕ) (way : In x) (o : Outgoer l x) where
        abbrev y : ℕ
        y = far (network_of g) o.node o.port

        abbrev q : ℕ
        q = far_port (network_of g) o.node o.port

        o_in : In o.node
        o_in = out_in l x way o

        s : With o.node o.port y q [] []
        s = calm o.node o.port o_in o.at

        t : With y q o.node o.port [] []
        t = calm_back o.node o.port o_in o.at

        y_in : In y
        y_in = far_in o.node o.port o_in o.at

        noted : IsNoted g h.graph _ _ _ _ _ _ s t
        noted = out_noted g h.graph _ _ _ _ _ _ s t o.out

        next : Outgoer l y
        next = outs y y_in (asked_awake y q ((graph_wired g h.graph).there o.node o.port o.at) noted.asked) (noted.level ∙ o.level)

        -- of its least way out
        next_least : IsLeast g.keys l y (out_key next)
        next_least = least_at (joined_back next.inside) (out_least l y y_in next)

        leaves_next : Leaves (Taken g.keys l) y (out_key o)
        leaves_next = leaves_across (out_key o) s.wire.ends (out_least l x way o).leaves

        -- it isn't the same link
        not_same : out_key next ≡ out_key o → ⊥
        not_same e = ⊎_elim
            (λ z.
            ends_apart (out_key o) s.wire.ends (out_least l x way o).leaves
            (joined_back (subst (λ n. InClass g.keys l y n) (sym z.0) next.inside)))
            (λ z. both (subst (λ n. (w.node n).head.out ≡ Some q) (sym z.0) (next.out ∙ ap Some (sym z.1))))
            (graph_keyed g h.graph o.node o.port next.node next.port o.at next.at (sym e))
          where
            both : (w.node y).head.out ≡ Some q → ⊥
            both out =
                not_both_out g h.graph _ _ _ _ _ _ s t o.out out (out_noted g h.graph _ _ _ _ _ _ t s out).asked noted.asked

      -- keys fall
      falls : (n x : ℕ) → In x → (o : Outgoer l x) → (is : Contains g.keys (out_key o)) → is.0 < n → ⊥
      falls zero x way o is lt = omega (arith, lt)
      falls (suc n) x way o is lt = ⊎_elim
          (λ less.
          let link = (next_least x way o).link in
          let earlier = stands_earlier g.keys (out_key (next x way o)) (out_key o) h.graph.rising link is less in
          falls n (y x way o) (y_in x way o) (next x way o) link (omega (arith, lt, earlier)))
          (λ c. ⊎_elim
          (λ less. both_ways (key_lt (out_key o) (out_key (next x way o))) ((next_least x way o).least (out_key o) is (leaves_next x way o)) less)
          (λ e. not_same x way o e)
          c)
          (key_cases (out_key (next x way o)) (out_key o))

      nobody_at : (x : ℕ) → In x → Awake x → level_of x ≡ l → ⊥
      nobody_at x way woke e =
          let o = outs x way woke e in
          let is = (out_least l x way o).link in
          falls (suc is.0) x way o is (omega arith)

    -- At level 0 each node has gone out by itself.
    outs_ground : (x : ℕ) → In x → Awake x → level_of x ≡ 0 → Outgoer 0 x
    outs_ground x way woke e = ⊎_elim
        (λ alone. absurd (none x way (out.alone alone)))
        (λ some. record {
          node = x;
          inside = Same;
          level = e;
          port = 0;
          at = record { some = (net_of x way).some; node = (net_of x way).node; port = omega (arith, some, many) };
          out = out.out (omega (arith, some));
        })
        (cases_eq (degree (w.node x)) 0)
      where
        out : IsOut g.keys (w.node x)
        out = (fits_of x way woke).ground e

        many : degree (w.node x) ≡ length ((network_of g).ports x)
        many = (h.fits.ground.nodes x).ports

    -- Above it, where nobody awake is below level m + 1.
    module _ (m : ℕ) (floor : (x : ℕ) → In x → Awake x → suc m ≤ level_of x) where
      next_awake : (x p : ℕ) → In x → Awake x → At (network_of g) x p → Awake (far (network_of g) x p)
      next_awake x p way woke at asleep =
          let there = (graph_wired g h.graph).there x p at in
          let port = fresh (far (network_of g) x p) (far_port (network_of g) x p) there asleep in
          let low = floor x way woke in
          no_sleeper g h.graph _ _ _ _ _ _ (calm x p way at) (calm_back x p way at) (omega (arith, low)) (fits_of x way woke).class asleep
          (ap (λ (z : PortState). z.mark) port)
          (ap (λ (n : State). n.head.level) (h.fits.ground.untouched (far (network_of g) x p) asleep))
          (ap (λ (z : PortState). z.level) port)

      -- from one node that is awake all are
      awake_along : {x z : ℕ} → In x → Awake x → Joined (links g.keys) x z → Awake z
      awake_along way woke Same = woke
      awake_along way woke (Over k is rest) =
          let p = port_on_link g h.graph k.a k is (ends_a k) in
          let e : far (network_of g) k.a p.port ≡ k.b = far_by_link g h.graph k.a p.port p.at ∙ ap (far_end k.a) p.key ∙ far_end_a k in
          awake_along (joined_then way (Over k is Same)) (subst Awake e (next_awake k.a p.port way woke p.at)) rest
      awake_along way woke (Back k is rest) =
          let p = port_on_link g h.graph k.b k is (ends_b k) in
          let e : far (network_of g) k.b p.port ≡ k.a =
          far_by_link g h.graph k.b p.port p.at ∙ ap (far_end k.b) p.key ∙ far_end_b k (link_among g h.graph k is).1 in
          awake_along (joined_then way (Back k is Same)) (subst Awake e (next_awake k.b p.port way woke p.at)) rest

      -- Let x be awake, and of that level.
      module _ (x : ℕ) (way : In x) (woke : Awake x) (at_level : level_of x ≡ suc m) where
        all_awake : (z : ℕ) → In z → Awake z
        all_awake z way_z = awake_along way woke (joined_then (joined_back way) way_z)

        -- over a taken link of the level
        step_level : (z p : ℕ) → In z → level_of z ≡ suc m → (at : At (network_of g) z p) → Taken g.keys (suc m) (port_at (network_of g) z p).key →
            level_of (far (network_of g) z p) ≡ suc m
        step_level z p way_z e at taken =
            let u = far (network_of g) z p in
            let s = calm z p way_z at in
            let t = calm_back z p way_z at in
            let u_in = far_in z p way_z at in
            let u_awake = all_awake u u_in in
            let low = floor u u_in u_awake in
            let here = subst (λ (k : Key). Taken g.keys (suc m) k) t.wire.same taken in
            same_level g h.graph _ _ _ _ _ _ t s (omega (arith, e, low))
            (subst (λ n. Taken g.keys n (port_at (network_of g) u (far_port (network_of g) z p)).key) (sym e) here)
            (taken_still g.keys (suc m) (level_of u) _ low here) (fits_of u u_in u_awake).class
            ∙ e

        taken_is : (k : Key) → Taken g.keys (suc m) k → Contains g.keys k
        taken_is k taken = (taken_in_tree g.keys (suc m) k taken).0

        class_level : {z u : ℕ} → In z → level_of z ≡ suc m → InClass g.keys (suc m) z u → level_of u ≡ suc m
        class_level way_z e Same = e
        class_level way_z e (Over k taken rest) =
            let is = taken_is k taken in
            let p = port_on_link g h.graph k.a k is (ends_a k) in
            let there : far (network_of g) k.a p.port ≡ k.b = far_by_link g h.graph k.a p.port p.at ∙ ap (far_end k.a) p.key ∙ far_end_a k in
            class_level (joined_then way_z (Over k is Same))
            (subst (λ n. level_of n ≡ suc m) there
            (step_level k.a p.port way_z e p.at (subst (λ (j : Key). Taken g.keys (suc m) j) (sym p.key) taken)))
            rest
        class_level way_z e (Back k taken rest) =
            let is = taken_is k taken in
            let p = port_on_link g h.graph k.b k is (ends_b k) in
            let there : far (network_of g) k.b p.port ≡ k.a =
            far_by_link g h.graph k.b p.port p.at ∙ ap (far_end k.b) p.key ∙ far_end_b k (link_among g h.graph k is).1 in
            class_level (joined_then way_z (Back k is Same))
            (subst (λ n. level_of n ≡ suc m) there
            (step_level k.b p.port way_z e p.at (subst (λ (j : Key). Taken g.keys (suc m) j) (sym p.key) taken)))
            rest

        in_class : (z : ℕ) → InClass g.keys (suc m) x z → In z
        in_class z inside = joined_then way (taken_links g.keys (suc m) inside)

        at_class : (z : ℕ) → InClass g.keys (suc m) x z → level_of z ≡ suc m
        at_class z inside = class_level way at_level inside

        of_level : IsOfLevel g.keys (suc m) x
        of_level = subst (λ n. IsOfLevel g.keys n x) at_level (fits_of x way woke).class

        top : (r : ℕ) × IsTop g.keys (suc m) x r × InClass g.keys (suc m) x r × ((s : ℕ) → IsTop g.keys (suc m) x s → s ≡ r)
        top = classes_have_one_top g h.graph (suc m) x of_level

        -- who searches
        abbrev Searches : ℕ → Type 0
        Searches z = InClass g.keys (suc m) x z × ((w.node z).head.phase ≡ Search)

        -- a child of it
        abbrev SearchingChild : ℕ → Type 0
        SearchingChild z = (u : ℕ) × (k : Key) × IsUp (Taken g.keys (suc m)) top.0 u k × (far_end u k ≡ z) × Searches u

        -- is at the far end of a port where a Report is owed
        owed_child : (z p : ℕ) → Searches z → At (network_of g) z p → (state.port_at (w.node z) p).owes ≡ true → SearchingChild z
        owed_child z p is at owes = (
          u,
          (port_at (network_of g) z p).key,
          subst (λ r. IsUp (Taken g.keys (suc m)) r u (port_at (network_of g) z p).key) same_top up.up,
          far_is (port_at (network_of g) z p).key z u (link_among g h.graph _ s.wire.link).1 s.wire.ends,
          (u_inside, awake_no_rest (w.node u).head.phase u_awake open_yet),
        )
          where
            z_in : In z
            z_in = in_class z is.0

            z_level : level_of z ≡ suc m
            z_level = at_class z is.0

            u : ℕ
            u = far (network_of g) z p

            s : With z p u (far_port (network_of g) z p) [] []
            s = calm z p z_in at

            up : IsWayUp g.keys (suc m) u (port_at (network_of g) z p).key
            up = subst (λ n. IsWayUp g.keys n u (port_at (network_of g) z p).key) z_level (s.owed.child owes).1

            u_in : In u
            u_in = far_in z p z_in at

            u_inside : InClass g.keys (suc m) x u
            u_inside = joined_then is.0 (over {P = Taken g.keys (suc m)} (port_at (network_of g) z p).key up.up.link s.wire.ends)

            u_awake : Awake u
            u_awake = all_awake u u_in

            same_top : up.root ≡ top.0
            same_top = top.3 up.root (top_at g.keys (suc m) u x up.root (joined_back u_inside) up.top)

            open_yet : (w.node u).head.phase ≢ Rest
            open_yet rest =
                s.owed.open_yet owes (record { past = inr (at_class u u_inside ∙ sym z_level, rest); heard = λ e. refl })

        -- what is missing is a Report, as each Basic port has heard
        owed_port : (z : ℕ) → Searches z → (p : ℕ) × At (network_of g) z p × ((state.port_at (w.node z) p).owes ≡ true)
        owed_port z is = (c.0, at, ⊎_elim (λ o. o) (λ b. absurd (not_heard (and_parts _ _ b))) (or_cases _ _ c.2))
          where
            z_in : In z
            z_in = in_class z is.0

            z_level : level_of z ≡ suc m
            z_level = at_class z is.0

            c : (i : ℕ) × (i < degree (w.node z)) × (is_missing (level_of z) (state.port_at (w.node z) i) ≡ true)
            c = some_counted (is_missing (level_of z)) (w.node z).ports (h.fits.lacks z (net_of z z_in) is.1)

            at : At (network_of g) z c.0
            at = let n = net_of z z_in in let many = (h.fits.ground.nodes z).ports in
                record { some = n.some; node = n.node; port = omega (arith, c.1, many) }

            not_heard : (is_basic (mark_at (w.node z) c.0) ≡ true) × (nat_lt (state.port_at (w.node z) c.0).level (level_of z) ≡ true) → ⊥
            not_heard b =
                let u_in = far_in z c.0 z_in at in
                let u_awake = all_awake _ u_in in
                let low = level_heard g h.graph _ _ _ _ _ _ (calm z c.0 z_in at) (calm_back z c.0 z_in at) m z_level (floor _ u_in u_awake)
                (fits_of _ u_in u_awake).class b.0 in
                let lt = ltb-true (state.port_at (w.node z) c.0).level (level_of z) b.1 in
                omega (arith, low, lt, z_level)

        nobody_searches : (z : ℕ) → Searches z → ⊥
        nobody_searches = none_goes_down g h.graph (suc m) top.0 Searches
            (λ z is. let n = net_of z (in_class z is.0) in (n.some, n.node))
            (λ z is. top_at g.keys (suc m) x z top.0 is.0 top.1)
            (λ z is. let p = owed_port z is in owed_child z p.0 is p.1 p.2)

        root_is_past : RootIsPast g.keys (network_of g) w (suc m) x
        root_is_past = record {
          root = top.0;
          top = top.1;
          past = inr (
            at_class top.0 top.2,
            awake_no_search (w.node top.0).head.phase (all_awake top.0 (in_class top.0 top.2)) (λ s. nobody_searches top.0 (top.2, s)),
          );
        }

        -- the token is with one that has gone out
        from_token : (z : ℕ) (place : Place) → InClass g.keys (suc m) x z → IsTokenAt g.keys (network_of g) w (suc m) z place → Outgoer (suc m) x
        from_token z _ inside (In_message p at e lt) =
            let no : 0 < 0 = subst (λ q. 0 < passes_in q) (quiet z p at (in_class z inside)) lt in absurd (omega (arith, no))
        from_token z _ inside (Gone_out p at e out) = record { node = z; inside = inside; level = e; port = p; at = at; out = out }
        from_token z _ inside (Gone_on k lt least ends) = absurd (omega (arith, lt, at_class z inside))
        from_token z _ inside (At_end e halted) = absurd (none z (in_class z inside) halted)

        out_above : Outgoer (suc m) x
        out_above =
            let token = (h.fits.tokens.one (suc m) x (net_of x way) of_level).some root_is_past in
            from_token token.node token.place token.inside token.at

    -- So at no level anybody is awake.
    at_level_none : (l : ℕ) → ((x : ℕ) → In x → Awake x → level_of x < l → ⊥) → (x : ℕ) → In x → Awake x → level_of x ≡ l → ⊥
    at_level_none zero below x way woke e = nobody_at 0 outs_ground x way woke e
    at_level_none (suc m) below x way woke e = nobody_at (suc m) (out_above m floor) x way woke e
      where
        floor : (z : ℕ) → In z → Awake z → suc m ≤ level_of z
        floor z way_z woke_z = ⊎_elim (λ less. absurd (below z way_z woke_z less)) (λ ge. ge) (cases_lt (level_of z) (suc m))

    below_none : (l x : ℕ) → In x → Awake x → level_of x < l → ⊥
    below_none zero x way woke lt = omega (arith, lt)
    below_none (suc l) x way woke lt = ⊎_elim
        (λ less. below_none l x way woke less)
        (λ ge. at_level_none l (below_none l) x way woke (omega (arith, lt, ge)))
        (cases_lt (level_of x) l)

  -- In the component one node has halted at most: the root.
  one_halted : (u x : ℕ) → In u → In x → HasHalted w u → HasHalted w x → x ≡ u
  one_halted u x way_u way_x halted_u halted_x = top.3 x (top_at g.keys (level_of u) x u x (joined_back inside) root_x) ∙ sym (top.3 u fits.root)
    where
      fits : HaltFits g.keys (network_of g) w u (w.node u)
      fits = h.fits.tokens.halted u (net_of u way_u) halted_u

      between : Joined (links g.keys) u x
      between = joined_then (joined_back way_u) way_x

      done : Done g w h (level_of u) x
      done = halted_done g w h u (net_of u way_u) halted_u x between

      inside : InClass g.keys (level_of u) u x
      inside = in_whole g.keys (level_of u) fits.whole between

      root_x : IsTop g.keys (level_of u) x x
      root_x = subst (λ n. IsTop g.keys n x x) done.level (h.fits.tokens.halted x (net_of x way_x) halted_x).root

      top : (r : ℕ) × IsTop g.keys (level_of u) u r × InClass g.keys (level_of u) u r × ((s : ℕ) → IsTop g.keys (level_of u) u s → s ≡ r)
      top = classes_have_one_top g h.graph (level_of u) u (fits_of u way_u (rest_awake (w.node u).head.phase fits.rest)).class

  -- who has halted is found
  abbrev HaltedHere : ℕ → Type 0
  HaltedHere u = In u × HasHalted w u

  halted_decided : (u : ℕ) → Decided (HaltedHere u)
  halted_decided u = ⊎_elim
      (λ way. ⊎_elim
      (λ t. inl (way, t))
      (λ f. inr (λ p. both_ways (w.node u).head.halted f p.1))
      (cases_Bool (w.node u).head.halted))
      (λ out. inr (λ p. out p.0))
      (decided (joins g.keys v u) (joins_tells g.keys v u))

  -- where somebody is awake, one node has halted, and no other, and the component is whole
  pub ends_in_silence : Awake v →
      IsWholeAt g w v ×
      ((u : ℕ) × InNetwork (network_of g) u × Joined (links g.keys) v u × HasHalted w u ×
      ((x : ℕ) → InNetwork (network_of g) x → Joined (links g.keys) v x → HasHalted w x → x ≡ u))
  ends_in_silence woke = ⊎_elim found (λ none. absurd (nobody none)) (some_or_none g.nodes HaltedHere halted_decided)
    where
      nobody : ((u : ℕ) → 1 ≤ u → u ≤ g.nodes → HaltedHere u → ⊥) → ⊥
      nobody none =
          below_none (λ x way halted. let n = net_of x way in none x n.some n.node (way, halted)) (suc (level_of v)) v Same woke (omega arith)

      found : (u : ℕ) × (1 ≤ u) × (u ≤ g.nodes) × HaltedHere u →
          IsWholeAt g w v ×
          ((u : ℕ) × InNetwork (network_of g) u × Joined (links g.keys) v u × HasHalted w u ×
          ((x : ℕ) → InNetwork (network_of g) x → Joined (links g.keys) v x → HasHalted w x → x ≡ u))
      found f = (
        λ k is way. halted_whole g w h f.0 (net_of f.0 f.3.0) f.3.1 k is (joined_then (joined_back f.3.0) way),
        (f.0, net_of f.0 f.3.0, f.3.0, f.3.1, λ x in_net way halted. one_halted f.0 x f.3.0 way f.3.1 halted),
      )
