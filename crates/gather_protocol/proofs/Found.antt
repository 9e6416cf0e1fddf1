-- Whoever has halted has marked its links of the minimum spanning forest, and no others.
use Rattle.std.proofs.Common.{◌≡◌, ◌≢◌, ℕ, zero, suc, ◌+◌, ◌<◌, ◌≤◌, Bool, true, false, Option, Some, None, List, [], ◌∷◌, ◌++◌, length, map, get_or, cond, refl, sym, ◌∙◌, ap, subst, ⊎_elim, arith, eq-eqb, lt-ltb, le-leb}
use Rattle.std.specs.Prelude.{filter, is_none, ◌↔◌}
use Rattle.std.specs.List.{Contains}
use Rattle.std.proofs.lemmas.Bool.{cases_eq, and_from}
use Rattle.std.proofs.lemmas.List.{get_or_default, length-map}
use Rattle.std.proofs.lemmas.List.Elements.{Contains-get_or, Contains-append_left, Contains-append_right, Contains-append_cases}
use Rattle.std.proofs.lemmas.Option.{same_Some, slice_get_within, get_or_from_slice_get}
use Rattle.ghs_graph.specs.declared.key.Key.{Key}
use Rattle.ghs_graph.specs.declared.port.Port.{Port}
use Rattle.ghs_graph.specs.Graph.{Shape, IsGraph, NODE_LIMIT}
use Rattle.ghs_graph.specs.Key.{key_lt, no_key}
use Rattle.ghs_graph.specs.Links.{Joined, Same, Over, Back, links, links_below, InTree}
use Rattle.ghs_graph.specs.Ports.{no_port, port_number, ports_of}
use Rattle.ghs_graph.proofs.lemmas.Ports.{links_have_two_ports}
use Rattle.ghs_graph.proofs.lemmas.Joining.{joined_within}
use Rattle.ghs_graph.proofs.lemmas.Members.{in_filter, filter_has}
use Rattle.peer_network.specs.Network.{Network, network_of, InNetwork, At, far, far_port, port_at}
use Rattle.peer_network.proofs.lemmas.Graphs.{graph_wired, is_key, link_among, port_ends}
use Rattle.peer_network.proofs.lemmas.Wired.{IsWired}
use Rattle.peer_machine.specs.Net.{Net}
use Rattle.peer_machine.specs.Run.{IsNetOf}
use Rattle.gather_node.specs.declared.message.Message.{Message}
use Rattle.gather_node.specs.declared.message.Message.TheVariants as messages
use Rattle.gather_node.specs.Forest.{common, forest, has, is_link}
use Rattle.gather_node.specs.Gather.{gather}
use Rattle.gather_node.specs.State.{State, degree, known, links_at, links_to, marks}
use Rattle.gather_node.proofs.lemmas.Forest.{forest_is, has_in, in_has, links_in_order}
use Rattle.gather_protocol.specs.Laws.{BranchesAreTree, HaltedMarkTrees, OthersMarkNone, SilenceEnds}
use Rattle.gather_protocol.proofs.Bound.{trees_of}
use Rattle.gather_protocol.proofs.Bypass.{Bypassed, InTreeOf, StandsFor, by_itself, bypassed_through, forest_bypasses, forest_of_set, forest_within}
use Rattle.gather_protocol.proofs.Cases.{known_is}
use Rattle.gather_protocol.proofs.Done.{Done, all_done, done_wave, next_joined}
use Rattle.gather_protocol.proofs.Events.{that_is}
use Rattle.gather_protocol.proofs.Heard.{SentAs, WasAsked, WasBack, few_heard, sent_as, sent_few}
use Rattle.gather_protocol.proofs.Rules.{anyone, waves_of}
use Rattle.gather_protocol.proofs.Sends.{is_of, is_tree, sent_on, tree_of}
use Rattle.gather_protocol.proofs.Silence.{along, silence_halts}
use Rattle.gather_protocol.proofs.TreeEvents.{leads_done}
use Rattle.gather_protocol.proofs.Trees.{Trees}
use Rattle.gather_protocol.proofs.Waves.{Stands, Waves, keys_at, knows, list_in, sent_of}

-- Links that came at ports.

links_there : (n p : ℕ) (bs : List (Option (List Key))) (ks : List Key) (k : Key) → p < n → get_or bs p None ≡ Some ks → Contains ks k →
    Contains (links_to n bs) k
links_there zero p bs ks k lt e h = absurd (omega (arith, lt))
links_there (suc n) p bs ks k lt e h = ⊎_elim
    (λ (z : p ≡ n).
    Contains-append_right (links_to n bs) (links_at (get_or bs n None)) k
    (subst (λ (o : Option (List Key)). Contains (links_at o) k) (sym (ap (λ x. get_or bs x None) (sym z) ∙ e)) h))
    (λ ne. Contains-append_left (links_to n bs) (links_at (get_or bs n None)) k (links_there n p bs ks k (omega (arith, lt, ne)) e h))
    (cases_eq p n)

links_where : (n : ℕ) (bs : List (Option (List Key))) (k : Key) → Contains (links_to n bs) k →
    (p : ℕ) × (p < n) × Contains (links_at (get_or bs p None)) k
links_where zero bs k h = absurd (let l = h.1 in omega (arith, l))
links_where (suc n) bs k h = ⊎_elim
    (λ a. let r = links_where n bs k a in (r.0, (let l = r.1 in omega (arith, l)), r.2)) (λ b. (n, omega arith, b))
    (Contains-append_cases (links_to n bs) (links_at (get_or bs n None)) k h)

at_some : (o : Option (List Key)) (k : Key) → Contains (links_at o) k → (ks : List Key) × (o ≡ Some ks) × Contains ks k
at_some None k h = absurd (let l = h.1 in omega (arith, l))
at_some (Some ks) k h = (ks, refl, h)

-- marks of a list
marks_at : (tree keys : List Key) (j : ℕ) → j < length keys → get_or (marks tree keys) j false ≡ has tree (get_or keys j no_key)
marks_at tree [] j lt = absurd (omega (arith, lt))
marks_at tree (k ∷ ks) zero lt = refl
marks_at tree (k ∷ ks) (suc j) lt = marks_at tree ks j (omega (arith, lt))

keys_there : (ps : List Port) (j : ℕ) → j < length ps → get_or (map (λ (p : Port). p.key) ps) j no_key ≡ (get_or ps j no_port).key
keys_there [] j lt = absurd (omega (arith, lt))
keys_there (p ∷ ps) zero lt = refl
keys_there (p ∷ ps) (suc j) lt = keys_there ps j (omega (arith, lt))

-- of what was sent over the parent port of one that is done
sent_over : (j : Bool) (x : ℕ) (parent : Option ℕ) (a : ℕ) (ks : List Key) (i : ℕ) → j ≡ true → parent ≡ Some i → a ≡ 0 →
    sent_on j x parent a ks i ≡ messages.Back x (forest ks) ∷ []
sent_over j x parent a ks i e f h =
    ap (λ b. sent_on b x parent a ks i) e ∙ ap (λ b. sent_on true x b a ks i) f ∙ ap (λ b. sent_on true x (Some i) b ks i) h
    ∙ ap (λ b. cond b [] (messages.Explore x ∷ []) ++ cond b (messages.Back x (forest ks) ∷ []) []) (eq-eqb i i refl)

-- a list came: its sender is done, and sent the forest of what it knew
list_from : (j : Bool) (x : ℕ) (parent : Option ℕ) (a : ℕ) (ks : List Key) (i : ℕ) (hs rest : List Message) (links : List Key) →
    sent_on j x parent a ks i ≡ hs ++ rest → length hs ≤ 1 → list_in hs ≡ Some links → (j ≡ true) × (parent ≡ Some i) × (a ≡ 0) × (links ≡ forest ks)
list_from j x parent a ks i [] rest links e l h = let z : ◌≡◌ {A = Option (List Key)} None (Some links) = h in cc
list_from j x parent a ks i (b ∷ c ∷ hs) rest links e l h = absurd (omega (arith, l))
list_from j x parent a ks i (b ∷ []) rest links e l h = go (sent_as j x parent a ks i b one)
  where
    one : sent_on j x parent a ks i ≡ b ∷ []
    one = e ∙ tail rest (let f = sent_few j x parent a ks i in let y = ap length e in omega (arith, f, y))
      where
        tail : (rest : List Message) → length ((b ∷ []) ++ rest) ≤ 1 → (b ∷ []) ++ rest ≡ b ∷ []
        tail [] le = refl
        tail (r ∷ rs) le = absurd (omega (arith, le))

    go : SentAs j x parent a ks i b → (j ≡ true) × (parent ≡ Some i) × (a ≡ 0) × (links ≡ forest ks)
    go (WasAsked y f q) =
        let c : ◌≡◌ {A = Option (List Key)} None (Some links) = sym (ap (λ (m : Message). list_in (m ∷ [])) q) ∙ h in cc
    go (WasBack y t f q) =
        (y, that_is parent i t, f, same_Some links (forest ks) (sym h ∙ ap (λ (m : Message). list_in (m ∷ [])) q))

-- the port of a link at its lesser end
at_port_of : (g : Shape) → IsGraph g → (k : Key) → Contains g.keys k →
    (j : ℕ) × At (network_of g) k.a j × ((port_at (network_of g) k.a j).key ≡ k)
at_port_of g ok k h =
    let two = links_have_two_ports g ok k h in
    let z = link_among g ok k h in
    let j = port_number g.keys k.a k in (
      j,
      record {
        some = z.0;
        node = (let a = z.1 in let b = z.2 in omega (arith, a, b));
        port = slice_get_within
            (ports_of g.keys k.a) j _ two.at_a;
      },
      ap (λ (p : Port). p.key) (get_or_from_slice_get (ports_of g.keys k.a) j _ no_port two.at_a),
    )

module _ (g : Shape) (w : Net State Message) (is : IsNetOf gather g w) where
  abbrev pub n : Network
  n = network_of g

  abbrev pub i : Waves n anyone w
  i = waves_of g w is

  abbrev pub t : Trees n w
  t = trees_of g w is

  abbrev pub wired : IsWired n
  wired = graph_wired g is.graph

  module _ (x : ℕ) (d : Done n anyone wired w i x x) where
    abbrev pub In : ℕ → Type 0
    In u = (i.past u).joined x ≡ true

    -- the links of the leader's component
    abbrev pub S : Key → Type 0
    S k = Contains g.keys k × (In k.a × In k.b)

    abbrev pub K : ℕ → List Key
    K u = known (w.node u)

    knows_now : (u : ℕ) → In u → knows n u ((i.past u).brought x) ≡ K u
    knows_now u j =
        let now = (i.nodes u).now x (done_wave n anyone wired w i u x d j) in
        ap (knows n u) now.brought ∙ sym (known_is n u (w.node u) (i.nodes u).fits)

    steps_in : (u q : ℕ) → At n u q → In u → In (far n u q)
    steps_in u q at j = next_joined n anyone wired w i u x q at (all_done n anyone wired w i u x d j)

    crosses : (k : Key) → Contains g.keys k → In k.a → In k.b
    crosses k h j = along g is.graph In steps_in (Over k h Same) j

    crosses_back : (k : Key) → Contains g.keys k → In k.b → In k.a
    crosses_back k h j = along g is.graph In steps_in (Back k h Same) j

    is_link_of : (k : Key) → S k → is_link k ≡ true
    is_link_of k s =
        let z = link_among g is.graph k s.0 in
        let a = z.0 in
        let b = z.1 in
        let c = z.2 in
        let l = is.graph.nodes in
        and_from _ _ (lt-ltb 0 k.a a) (and_from _ _ (lt-ltb k.a k.b b) (le-leb k.b NODE_LIMIT (omega (arith, c, l))))

    -- what was sent to u at port p, and heard there
    over_at : (u p : ℕ) → At n u p → sent_of n u (i.past u) x p ≡
        (i.past (far n u p)).heard x (far_port n u p) ++ filter (is_of x) (w.queue (far n u p) (far_port n u p))
    over_at u p at =
        let f = far n u p in
        let fp = far_port n u p in
        subst (λ b. sent_of n u (i.past u) x b ≡ (i.past f).heard x fp ++ filter (is_of x) (w.queue f fp)) (wired.back_port u p at)
        (subst (λ b. sent_of n b (i.past b) x (far_port n f fp) ≡ (i.past f).heard x fp ++ filter (is_of x) (w.queue f fp)) (wired.back u p at)
        (i.over x f fp (wired.there u p at)))

    -- a parent has the forest of what its child knows
    handed : (u p : ℕ) → In u → (i.past u).parent x ≡ Some p → (at : At n u p) →
        get_or (w.node (far n u p)).brought (far_port n u p) None ≡ Some (forest (K u))
    handed u p j e at =
        let f = far n u p in
        let fp = far_port n u p in
        let there = wired.there u p at in
        let jf = steps_in u p at j in
        let df = all_done n anyone wired w i f x d jf in
        let du = all_done n anyone wired w i u x d j in
        let s = i.past u in
        let sent = sent_over (s.joined x) x (s.parent x) (s.awaits x) (knows n u (s.brought x)) p j e du.over in
        let heard = one_of_two (messages.Back x (forest (knows n u (s.brought x)))) ((i.past f).heard x fp) (filter (is_of x) (w.queue f fp))
        (sym sent ∙ over_at u p at) ((i.nodes f).full x fp there df.in_it df.over) in
        (i.nodes f).came x fp there (done_wave n anyone wired w i f x d jf) ∙ ap list_in heard
        ∙ ap (λ (ks : List Key). Some (forest ks)) (knows_now u j)
      where
        one_of_two : (b : Message) (hs rest : List Message) → b ∷ [] ≡ hs ++ rest → hs ≢ [] → hs ≡ b ∷ []
        one_of_two b [] rest e ne = absurd (ne refl)
        one_of_two b (h ∷ []) rest e ne = let q : b ≡ h = cc in ap (λ y. y ∷ []) (sym q)
        one_of_two b (h ∷ c ∷ hs) rest e ne = cc

    -- and so knows it
    forest_up : (u p : ℕ) → In u → (i.past u).parent x ≡ Some p → (at : At n u p) → (k : Key) → Contains (forest (K u)) k → Contains (K (far n u p)) k
    forest_up u p j e at k h =
        let f = far n u p in
        let there = wired.there u p at in
        let fits = (i.nodes f).fits in
        Contains-append_right (w.node f).keys (links_to (degree (w.node f)) (w.node f).brought) k
        (links_there (degree (w.node f)) (far_port n u p) (w.node f).brought (forest (K u)) k
        (let l = there.port in let c = ap length fits.keys in let b = length-map (n.ports f) (λ (p : Port). p.key) in omega (arith, l, c, b))
        (handed u p j e at) h)

    -- a node's own links
    own : (u j : ℕ) → At n u j → Contains (K u) (port_at n u j).key
    own u j at =
        let fits = (i.nodes u).fits in
        Contains-append_left (w.node u).keys (links_to (degree (w.node u)) (w.node u).brought) (port_at n u j).key
        (subst (λ (ks : List Key). Contains ks (port_at n u j).key) (sym fits.keys)
        (subst (λ k. Contains (keys_at n u) k) (keys_there (n.ports u) j at.port)
        (Contains-get_or (keys_at n u) j no_key
        (let l = at.port in let b = length-map (n.ports u) (λ (p : Port). p.key) in omega (arith, l, b)))))

    own_in : (u j : ℕ) → In u → At n u j → S (port_at n u j).key
    own_in u j iu at = ⊎_elim
        (λ e. (is_key g is.graph u j at, (subst In e.0 iu, subst In e.1 (steps_in u j at iu))))
        (λ e. (is_key g is.graph u j at, (subst In e.1 (steps_in u j at iu), subst In e.0 iu)))
        (port_ends g is.graph u j at)

    -- all known links are of the component
    within : (r u : ℕ) → i.clock ≤ (i.past u).rank x + r → In u → (k : Key) → Contains (K u) k → S k
    within zero u le j k h = absurd (let a = i.led.early u x j in omega (arith, a, le))
    within (suc r) u le j k h = ⊎_elim here (there (λ c l jc h'. within r c l jc k h'))
        (Contains-append_cases (w.node u).keys (links_to (degree (w.node u)) (w.node u).brought) k h)
      where
        net : InNetwork n u
        net = i.led.inside u x j

        here : Contains (w.node u).keys k → S k
        here c =
            let fits = (i.nodes u).fits in
            let o = subst (λ (ks : List Key). Contains ks k) fits.keys c in
            let b = length-map (n.ports u) (λ (p : Port). p.key) in
            let lt : o.0 < length (n.ports u) = (let l = o.1 in omega (arith, l, b)) in
            let at : At n u o.0 = record { some = net.some; node = net.node; port = lt } in
            let e : (port_at n u o.0).key ≡ k =
            sym (keys_there (n.ports u) o.0 lt) ∙ get_or_default (keys_at n u) o.0 no_key k o.1 ∙ o.2 in
            subst S e (own_in u o.0 j at)

        there : ((c : ℕ) → i.clock ≤ (i.past c).rank x + r → In c → Contains (K c) k → S k) →
            Contains (links_to (degree (w.node u)) (w.node u).brought) k → S k
        there ih c =
            let fits = (i.nodes u).fits in
            let o = links_where (degree (w.node u)) (w.node u).brought k c in
            let a = at_some (get_or (w.node u).brought o.0 None) k o.2 in
            let p = o.0 in
            let at : At n u p =
            record {
              some = net.some;
              node = net.node;
              port = (let l = o.1 in let b = ap length fits.keys in let m = length-map (n.ports u) (λ (p : Port). p.key) in omega (arith, l, b, m));
            } in
            let f = far n u p in
            let fp = far_port n u p in
            let s = i.past f in
            let came = (i.nodes u).came x p at (done_wave n anyone wired w i u x d j) in
            let few = few_heard n w i.past (λ a b. (i.past a).heard x b) x u p (i.over x u p at) in
            let from =
            list_from (s.joined x) x (s.parent x) (s.awaits x) (knows n f (s.brought x)) fp ((i.past u).heard x p) (filter (is_of x) (w.queue u p))
            a.0 (i.over x u p at) few (sym came ∙ a.1) in
            let later = i.led.later f x fp from.0 from.1 in
            let back : (i.past (far n f fp)).rank x ≡ (i.past u).rank x = ap (λ b. (i.past b).rank x) (wired.back u p at) in
            ih f (omega (arith, le, later, back)) from.0
            (forest_within (K f) k
            (subst (λ (ks : List Key). Contains ks k) (from.3 ∙ ap forest (knows_now f from.0)) a.2))

    known_in : (u : ℕ) → In u → (k : Key) → Contains (K u) k → S k
    known_in u j k h = within i.clock u (omega arith) j k h

    -- what is bypassed by what a node knows, is by what the leader knows
    up : (r u : ℕ) → (i.past u).rank x ≤ r → In u → (k : Key) → Bypassed (K u) k → Bypassed (K x) k
    up zero u le j k b = go ((i.past u).parent x) refl
      where
        go : (o : Option ℕ) → (i.past u).parent x ≡ o → Bypassed (K x) k
        go None e = subst (λ y. Bypassed (K y) k) (i.led.first u x j e) b
        go (Some p) e = absurd (let l = i.led.later u x p j e in omega (arith, l, le))
    up (suc r) u le j k b = go (λ f l jf b'. up r f l jf k b') ((i.past u).parent x) refl
      where
        go : ((f : ℕ) → (i.past f).rank x ≤ r → In f → Bypassed (K f) k → Bypassed (K x) k) → (o : Option ℕ) →
            (i.past u).parent x ≡ o → Bypassed (K x) k
        go ih None e = subst (λ y. Bypassed (K y) k) (i.led.first u x j e) b
        go ih (Some p) e =
            let at = (i.led.ups u x p j e).at in
            ih (far n u p) (let l = i.led.later u x p j e in omega (arith, l, le)) (steps_in u p at j)
            (bypassed_through (K u) (K (far n u p)) k
            (λ y h.
            joined_within (λ z q. (forest_up u p j e at z q.0, q.1)) (forest_bypasses (K u) y h (is_link_of y (known_in u j y h)))) b)

    stands : StandsFor S (K x)
    stands = record {
      within = known_in x d.in_it;
      around =
          λ k s.
          let a = at_port_of g is.graph k s.0 in
          up ((i.past k.a).rank x) k.a (omega arith) s.1.0 k (by_itself (K k.a) k (subst (λ y. Contains (K k.a) y) a.2 (own k.a a.0 a.1)));
    }

    abbrev pub T : List Key
    T = forest (K x)

    found : (k : Key) → Contains T k ↔ InTreeOf S k
    found k = forest_of_set S (K x) is_link_of stands k

    -- ways stay in the component
    stays_in : (k : Key) {u v : ℕ} → In u → Joined (links_below g.keys k) u v → Joined (λ j. S j × (key_lt j k ≡ true)) u v
    stays_in k j Same = Same
    stays_in k j (Over l s way) = let b = crosses l s.0 j in Over l ((s.0, (j, b)), s.1) (stays_in k b way)
    stays_in k j (Back l s way) = let b = crosses_back l s.0 j in Back l ((s.0, (b, j)), s.1) (stays_in k b way)

    in_tree : (k : Key) → S k → InTreeOf S k ↔ InTree g.keys k
    in_tree k s = (
      λ h. (s.0, λ way. h.1 (stays_in k s.1.0 way)),
      λ h. (s, λ way. h.1 (joined_within (λ j p. (p.0.0, p.1)) way)),
    )

    -- a link of the tree that a node knows is in its forest
    in_forest : (u : ℕ) → In u → (k : Key) → Contains (K u) k → InTreeOf S k → Contains (forest (K u)) k
    in_forest u j k h t =
        let o = links_in_order (K u) in
        (forest_is (K u)).all k (
          (o.same k).1 (h, is_link_of k t.0),
          λ way. t.1 (joined_within (λ y p. (known_in u j y ((o.same y).0 p.0).0, p.1)) way),
        )

    now_at : (u : ℕ) → In u → Stands (i.past u) (w.node u) x
    now_at u j = (i.nodes u).now x (done_wave n anyone wired w i u x d j)

    led_tells : (u : ℕ) → In u → (w.node u).head.halted ≡ true → (k : Key) → (i.past u).parent x ≡ None → Contains (t.tree u) k ↔ Contains T k
    led_tells u j h k e =
        let q : t.tree u ≡ T = t.led u h (sym (now_at u j).parent ∙ e) ∙ ap (λ y. forest (K y)) (i.led.first u x j e) in
        (λ m. subst (λ (ks : List Key). Contains ks k) q m, λ m. subst (λ (ks : List Key). Contains ks k) (sym q) m)

    -- the tree that a node was told by its parent
    told_by : (u p : ℕ) → In u → (w.node u).head.halted ≡ true → (i.past u).parent x ≡ Some p → (at : At n u p) →
        t.tree u ≡ common (t.tree (far n u p)) (forest (K u))
    told_by u p j h e at =
        let f = far n u p in
        let fp = far_port n u p in
        let par = sym (now_at u j).parent ∙ e in
        let hf = t.up u p h par in
        let a : messages.Tree (common (t.tree f) (forest (K u))) ∷ [] ≡ t.taken u p ++ filter is_tree (w.queue u p) =
        ap (λ b. cond true (tree_of (t.tree f) b) []) (sym (handed u p j e at))
        ∙ ap (λ b. cond b (tree_of (t.tree f) (get_or (w.node f).brought fp None)) []) (sym hf) ∙ t.over u p at in
        let b : messages.Tree (common (t.tree f) (forest (K u))) ∷ [] ≡ messages.Tree (t.tree u) ∷ filter is_tree (w.queue u p) =
        a ∙ ap (λ (l : List Message). l ++ filter is_tree (w.queue u p)) (t.told u p h par) in
        let c : common (t.tree f) (forest (K u)) ≡ t.tree u = cc in
        sym c

    -- what a node was told: of the links that it knows, those of the tree
    tells : (r u : ℕ) → (i.past u).rank x ≤ r → In u → (w.node u).head.halted ≡ true → (k : Key) → Contains (K u) k →
        Contains (t.tree u) k ↔ Contains T k
    tells zero u le j h k c = go ((i.past u).parent x) refl
      where
        go : (o : Option ℕ) → (i.past u).parent x ≡ o → Contains (t.tree u) k ↔ Contains T k
        go None e = led_tells u j h k e
        go (Some p) e = absurd (let l = i.led.later u x p j e in omega (arith, l, le))
    tells (suc r) u le j h k c = go (λ f l jf hf c'. tells r f l jf hf k c') ((i.past u).parent x) refl
      where
        go : ((f : ℕ) → (i.past f).rank x ≤ r → In f → (w.node f).head.halted ≡ true → Contains (K f) k → Contains (t.tree f) k ↔ Contains T k) →
            (o : Option ℕ) → (i.past u).parent x ≡ o → Contains (t.tree u) k ↔ Contains T k
        go ih None e = led_tells u j h k e
        go ih (Some p) e =
            let at = (i.led.ups u x p j e).at in
            let f = far n u p in
            let hf = t.up u p h (sym (now_at u j).parent ∙ e) in
            let q = told_by u p j h e at in
            let up_f = λ (c' : Contains (K f) k). ih f (let l = i.led.later u x p j e in omega (arith, l, le)) (steps_in u p at j) hf c' in (
              λ m.
                  let b = in_filter (has (forest (K u))) (t.tree f) k (subst (λ (ks : List Key). Contains ks k) q m) in
                  (up_f (forest_up u p j e at k (has_in (forest (K u)) k b.1))).0 b.0,
              λ m.
                  let b = in_forest u j k c ((found k).0 m) in
                  subst (λ (ks : List Key). Contains ks k) (sym q)
                  (filter_has (has (forest (K u))) (t.tree f) k ((up_f (forest_up u p j e at k b)).1 m) (in_has (forest (K u)) k b)),
            )

    -- a node that has halted has marked what is of the tree
    marks_right : (v j : ℕ) → In v → (w.node v).head.halted ≡ true → At n v j →
        (get_or (w.node v).branches j false ≡ true) ↔ InTree g.keys (port_at n v j).key
    marks_right v j iv h at =
        let k = (port_at n v j).key in
        let fits = (i.nodes v).fits in
        let lt : j < length (w.node v).keys =
        (let l = at.port in let c = ap length fits.keys in let b = length-map (n.ports v) (λ (p : Port). p.key) in omega (arith, l, c, b)) in
        let e : get_or (w.node v).branches j false ≡ has (t.tree v) k =
        ap (λ (b : List Bool). get_or b j false) (t.marked v h) ∙ marks_at (t.tree v) (w.node v).keys j lt
        ∙ ap (λ (ks : List Key). has (t.tree v) (get_or ks j no_key)) fits.keys
        ∙ ap (has (t.tree v)) (keys_there (n.ports v) j at.port) in
        let s = own_in v j iv at in
        let told = tells ((i.past v).rank x) v (omega arith) iv h k (own v j at) in (
          λ m. (in_tree k s).0 ((found k).0 (told.0 (has_in (t.tree v) k (sym e ∙ m)))),
          λ m. e ∙ in_has (t.tree v) k (told.1 ((found k).1 ((in_tree k s).1 m))),
        )

  pub halted_marks : (v j : ℕ) → (w.node v).head.halted ≡ true → At n v j →
      (get_or (w.node v).branches j false ≡ true) ↔ InTree g.keys (port_at n v j).key
  halted_marks v j h at =
      let l = t.leader v h in
      marks_right l.0 (leads_done n anyone wired w i t l.0 l.2) v j ((i.nodes v).now l.0 l.1).joined h at

pub halted_mark_trees : HaltedMarkTrees
halted_mark_trees g w is v j at h = halted_marks g w is v j h at

pub others_mark_none : OthersMarkNone
others_mark_none g w is v j h = (trees_of g w is).unmarked v j h

-- silence is the end
pub silence_ends : SilenceEnds
silence_ends g w is = (
  λ ended. (
    ended.0,
    λ v net. let l = (trees_of g w is).leader v (ended.1 v net) in ap is_none l.1,
  ),
  λ quiet. (quiet.0, λ v net. silence_halts g w is quiet.0 v net (quiet.1 v net)),
)

-- at the end the Branch links are the forest
pub branches_found : BranchesAreTree
branches_found g w ks is ended are = record {
  rising = are.rising;
  has = λ k h.
      let b = (are.all k).0 h in
      let at = b.2 in
      let net : InNetwork (network_of g) b.0 = record { some = at.some; node = at.node } in
      subst (InTree g.keys) b.3 ((halted_marks g w is b.0 b.1 (ended.1 b.0 net) at).0 b.4);
  all = λ k h.
      let a = at_port_of g is.graph k h.0 in
      let at = a.1 in
      let net : InNetwork (network_of g) k.a = record { some = at.some; node = at.node } in
      (are.all k).1 (
        k.a,
        a.0,
        at,
        a.2,
        (halted_marks g w is k.a a.0 (ended.1 k.a net) at).1 (subst (InTree g.keys) (sym a.2) h),
      );
}
