-- Branch links and fragments, as they are found.
use Rattle.std.proofs.Common.{◌≡◌, ℕ, ◌+◌, ◌<◌, ◌≤◌, inl, inr, Bool, true, false, ◌||◌, List, length, get_or, refl, sym, ◌∙◌, ap, ⊎_elim, arith, Result, IfOk}
use Rattle.std.specs.List.{Contains, filter}
use Rattle.std.proofs.lemmas.Bool.{and_parts, or_cases}
use Rattle.std.proofs.lemmas.List.{get_or_default}
use Rattle.std.proofs.lemmas.List.Elements.{All-filter}
use Rattle.std.proofs.lemmas.List.Kept.{AllPairs-filter}
use Rattle.std.proofs.lemmas.Result.{IfOk-weaker}
use Rattle.std.proofs.lemmas.Option.{slice_get-get_or}
use Rattle.ghs_graph.specs.declared.key.Key.{Key}
use Rattle.ghs_graph.specs.declared.port.Port.{Port}
use Rattle.ghs_graph.specs.Graph.{Shape}
use Rattle.ghs_graph.specs.Key.{key_lt, no_key}
use Rattle.ghs_graph.specs.Links.{IsRising, AreAmong}
use Rattle.ghs_graph.specs.Classes.{AreLeast}
use Rattle.ghs_graph.specs.Spanning.{AreTold}
use Rattle.ghs_graph.specs.Ports.{ports_of, port_number, no_port}
use Rattle.ghs_graph.proofs.lemmas.Joining.{joined_nodes, joined_within}
use Rattle.ghs_graph.proofs.lemmas.Ports.{OnLink, on_link}
use Rattle.ghs_graph.proofs.lemmas.Members.{filter_has, in_filter}
use Rattle.ghs_node.specs.declared.mark.Mark.TheVariants.{Branch}
use Rattle.ghs_node.specs.NodeState.{NodeState, mark_at, degree}
use Rattle.ghs_node.specs.declared.message.Message.{Message}
use Rattle.peer_channels.specs.Channels.{ChannelsState}
use Rattle.peer_network.specs.declared.event.Event.{Event}
use Rattle.peer_network.specs.Network.{Network, network_of, At, port_at}
use Rattle.ghs_protocol.specs.Net.{Net}
use Rattle.ghs_protocol.specs.Run.{net_after}
use Rattle.ghs_protocol.specs.Marks.{IsBranchLink, IsJoinedLink, InOneFragment}
use Rattle.ghs_protocol.proofs.lemmas.Fragments.{fragments_joined}
use Rattle.ghs_protocol.proofs.lemmas.Nodes.{ports_many}
use Rattle.ghs_core.specs.declared.counts.Counts.{Counts}
use Rattle.ghs_core.specs.declared.marked.Ends.TheVariants.{One, Both}
use Rattle.ghs_core.specs.declared.halts.Halts.{Halts}
use Rattle.ghs_core.specs.Kept.{IsKept}
use Rattle.ghs_core.specs.Marked.{is_wanted, has_branch, HavePorts, AreBranches, IsFragment, IsRootOf, HaveRoot, TellFragments}
use Rattle.ghs_core.proofs.Reading.{formed}
use Rattle.ghs_core.proofs.Sides.{branch_from, branch_to, joined_from, joined_to}
use Rattle.ghs_node.proofs.lemmas.{branch_mark}
use Rattle.peer_network.proofs.lemmas.Graphs.{link_among}

or_true : (b : Bool) → (b || true) ≡ true
or_true true = refl
or_true false = refl

module _ {g : Shape} {es : List Event} {nodes : List NodeState} {channels : ChannelsState Message} {counts : Counts} {halts : Halts}
    (kept : IsKept g es nodes channels counts halts) where
  abbrev net : Network
  net = network_of g

  abbrev w : Net
  w = net_after g es

  pub have_ports : HavePorts g nodes
  have_ports = record {
    graph = kept.graph;
    count = kept.shows.count;
    ports = λ v lo hi. ap degree (kept.shows.node v lo hi) ∙ ports_many ((formed kept).nodes v);
  }

  in_graph : (k : Key) (v p : ℕ) → At net v p → (port_at net v p).key ≡ k → Contains g.keys k
  in_graph k v p at e =
      let o : OnLink g.keys v p (port_at net v p) = on_link g.keys v p (port_at net v p) (slice_get-get_or (ports_of g.keys v) p no_port at.port) in (
        o.at,
        o.within,
        get_or_default g.keys o.at k no_key o.within ∙ sym (ap (λ (x : Port). x.key) o.port) ∙ e,
      )

  -- marks, as the fields have them and as the net does
  marked : (k : Key) (v : ℕ) → 1 ≤ v → v ≤ g.nodes → has_branch g.keys nodes v k ≡ true → mark_at (w.node v) (port_number g.keys v k) ≡ Branch
  marked k v lo hi h = branch_mark _ (rw (kept.shows.node v lo hi) at h)

  marked_back : (k : Key) (v : ℕ) → 1 ≤ v → v ≤ g.nodes → mark_at (w.node v) (port_number g.keys v k) ≡ Branch → has_branch g.keys nodes v k ≡ true
  marked_back k v lo hi h = rw (kept.shows.node v lo hi, h) refl

  pub branches_are : AreBranches net w (filter (is_wanted One g.keys nodes) g.keys)
  branches_are = record {
    rising = AllPairs-filter (λ j k. key_lt j k ≡ true) (is_wanted One g.keys nodes) g.keys kept.graph.rising;
    all = λ k. (there k, back k);
  }
    where
      there : (k : Key) → Contains (filter (is_wanted One g.keys nodes) g.keys) k → IsBranchLink net w k
      there k h =
          let u = in_filter (is_wanted One g.keys nodes) g.keys k h in
          let r = link_among g kept.graph k u.0 in
          branch_from g kept.graph k u.0 w (⊎_elim (λ a. inl (marked k k.a r.0 (omega (arith, r.1, r.2)) a))
          (λ b. inr (marked k k.b (omega (arith, r.0, r.1)) r.2 b)) (or_cases _ _ u.1))

      back : (k : Key) → IsBranchLink net w k → Contains (filter (is_wanted One g.keys nodes) g.keys) k
      back k l =
          let i = in_graph k l.0 l.1 l.2 l.3 in
          let r = link_among g kept.graph k i in
          filter_has (is_wanted One g.keys nodes) g.keys k i (⊎_elim (λ a. rw (marked_back k k.a r.0 (omega (arith, r.1, r.2)) a) refl)
          (λ b. rw (marked_back k k.b (omega (arith, r.0, r.1)) r.2 b) (or_true _)) (branch_to g kept.graph k i w l))

  -- the joined links
  joined_there : (k : Key) → Contains (filter (is_wanted Both g.keys nodes) g.keys) k → IsJoinedLink net w k
  joined_there k h =
      let u = in_filter (is_wanted Both g.keys nodes) g.keys k h in
      let r = link_among g kept.graph k u.0 in
      let b = and_parts _ _ u.1 in
      joined_from g kept.graph k u.0 w (marked k k.a r.0 (omega (arith, r.1, r.2)) b.0) (marked k k.b (omega (arith, r.0, r.1)) r.2 b.1)

  joined_back : (k : Key) → IsJoinedLink net w k → Contains (filter (is_wanted Both g.keys nodes) g.keys) k
  joined_back k l =
      let i = in_graph k l.0 l.1 l.2 l.3 in
      let r = link_among g kept.graph k i in
      let m = joined_to g kept.graph k i w l in
      filter_has (is_wanted Both g.keys nodes) g.keys k i
      (rw (marked_back k k.a r.0 (omega (arith, r.1, r.2)) m.0, marked_back k k.b (omega (arith, r.0, r.1)) r.2 m.1) refl)

  pub joined_rising : IsRising (filter (is_wanted Both g.keys nodes) g.keys)
  joined_rising = AllPairs-filter (λ j k. key_lt j k ≡ true) (is_wanted Both g.keys nodes) g.keys kept.graph.rising

  pub joined_among : AreAmong g.nodes (filter (is_wanted Both g.keys nodes) g.keys)
  joined_among = All-filter (is_wanted Both g.keys nodes) (λ k. (1 ≤ k.a) × (k.a < k.b) × (k.b ≤ g.nodes)) g.keys kept.graph.among

  -- the roots over the joined links tell the fragments
  pub roots_tell : (ls : List ℕ) → length ls ≡ g.nodes + 1 → AreTold ls (filter (is_wanted Both g.keys nodes) g.keys) → AreLeast ls →
      TellFragments net w ls
  roots_tell ls count told least = record {
    count = count;
    root = root;
    told = λ v u vl vh ul uh.
        let v_in : v < length ls = omega (arith, count, vh) in
        let u_in : u < length ls = omega (arith, count, uh) in
        let joined = fragments_joined g kept.graph w v u in (
          λ t. joined.1 (joined_within joined_there (told.joined v u v_in u_in t)),
          λ f. told.together v u v_in u_in (joined_within joined_back (joined.0 f)),
        );
  }
    where
      root : (v : ℕ) → 1 ≤ v → v ≤ g.nodes → IsRootOf ls v (get_or ls v 0)
      root v lo hi =
          let v_in : v < length ls = omega (arith, count, hi) in
          let below = least.low v v_in in
          let own = least.own v v_in in
          let way = told.joined v (get_or ls v 0) v_in (omega (arith, below, v_in)) (sym own) in
          record {
            is = refl;
            some = (joined_nodes g.nodes (filter (is_wanted Both g.keys nodes) g.keys) joined_among lo hi way).0;
            low = below;
            own = own;
          }

  -- the numbers with the root of a node are its fragment
  pub fragment_is : (ls us : List ℕ) (v : ℕ) → 1 ≤ v → v ≤ g.nodes → TellFragments net w ls → HaveRoot ls (g.nodes + 1) (get_or ls v 0) us →
      IsFragment net w v us
  fragment_is ls us v lo hi tell alike = record { rising = alike.rising; all = λ u. (there u, back u) }
    where
      there : (u : ℕ) → Contains us u → (1 ≤ u) × (u ≤ g.nodes) × InOneFragment net w v u
      there u h = let a = alike.has u h in let high : u ≤ g.nodes = omega (arith, a.1) in (a.0, high, (tell.told v u lo hi a.0 high).0 (sym a.2))

      back : (u : ℕ) → (1 ≤ u) × (u ≤ g.nodes) × InOneFragment net w v u → Contains us u
      back u h = alike.all u h.0 (omega (arith, h.1)) (sym ((tell.told v u lo hi h.0 h.1).1 h.2))

  -- the same of what calls answer
  pub branches_told : {X E : Type 0} (f : X → List Key) (r : Result X E) → IfOk r (λ x. f x ≡ filter (is_wanted One g.keys nodes) g.keys) →
      IfOk r (λ x. AreBranches net w (f x))
  branches_told f r h =
      IfOk-weaker r (λ x. f x ≡ filter (is_wanted One g.keys nodes) g.keys) (λ x. AreBranches net w (f x)) (λ x e. rw e branches_are) h

  pub fragment_told : {X E : Type 0} (f : X → List ℕ) (r : Result X E) (ls : List ℕ) (n v : ℕ) → 1 ≤ v → v ≤ g.nodes → n ≡ g.nodes →
      TellFragments net w ls → IfOk r (λ x. HaveRoot ls (n + 1) (get_or ls v 0) (f x)) → IfOk r (λ x. IsFragment net w v (f x))
  fragment_told f r ls n v lo hi e tell h =
      IfOk-weaker r (λ x. HaveRoot ls (n + 1) (get_or ls v 0) (f x)) (λ x. IsFragment net w v (f x))
      (λ x a. fragment_is ls (f x) v lo hi tell (rw e at a)) h
