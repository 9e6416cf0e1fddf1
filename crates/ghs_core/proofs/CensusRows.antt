-- The rows of the classes are a census.
use Rattle.std.proofs.Common.{◌≡◌, ℕ, ◌<◌, ◌≤◌, ◌^◌, List, length, get_or, Result, IfOk, refl, sym, ◌∙◌, ap, subst, ⊎_elim, arith, ltb-true}
use Rattle.std.specs.List.{Contains, filter}
use Rattle.std.proofs.lemmas.Bool.{cases_lt, lt-ltb}
use Rattle.std.proofs.lemmas.List.{get_or_default}
use Rattle.std.proofs.lemmas.List.Elements.{All-contains, Contains-get_or}
use Rattle.std.proofs.lemmas.List.Kept.{AllPairs-filter}
use Rattle.std.proofs.lemmas.Result.{IfOk-weaker}
use Rattle.ghs_graph.specs.Graph.{Shape}
use Rattle.ghs_graph.proofs.lemmas.Members.{in_filter, filter_has}
use Rattle.ghs_node.specs.NodeState.{NodeState}
use Rattle.ghs_node.specs.declared.message.Message.{Message}
use Rattle.peer_channels.specs.Channels.{ChannelsState}
use Rattle.peer_network.specs.declared.event.Event.{Event}
use Rattle.peer_network.specs.Network.{Network, network_of}
use Rattle.ghs_protocol.specs.Net.{Net}
use Rattle.ghs_protocol.specs.Run.{net_after}
use Rattle.ghs_protocol.specs.Marks.{InOneFragment}
use Rattle.ghs_protocol.proofs.lemmas.Fragments.{leads_on}
use Rattle.ghs_core.specs.declared.census.FragmentRow.{FragmentRow}
use Rattle.ghs_core.specs.declared.counts.Counts.{Counts}
use Rattle.ghs_core.specs.declared.halts.Halts.{Halts}
use Rattle.ghs_core.specs.Kept.{IsKept}
use Rattle.ghs_core.specs.Marked.{TellFragments, IsInFragment, IsRootOf}
use Rattle.ghs_core.specs.Census.{IsRow, IsCensus, AreLarge, CountsClass, AreCounted, HaveRoots, has_nodes, level_in, no_row}
use Rattle.ghs_core.proofs.Enough.{no_more}
use Rattle.ghs_core.proofs.Interleaved.{large_fragment}

module _ {g : Shape} {es : List Event} {nodes : List NodeState} {channels : ChannelsState Message} {counts : Counts} {halts : Halts}
    (kept : IsKept g es nodes channels counts halts) where
  abbrev net : Network
  net = network_of g

  abbrev w : Net
  w = net_after g es

  -- a fragment of level L is that of a node of level L
  pub large_row : (row : FragmentRow) → IsRow net w row → 2 ^ row.level ≤ row.nodes
  large_row row r =
      let top = r.level.has in
      let here = (r.fragment.all top.0).0 top.1 in
      let many = large_fragment g es kept.graph kept.run top.0 row.level here.0 here.1 (sym top.2) in
      let within : (x : ℕ) → Contains many.list x → Contains r.nodes x =
      λ x c. let z = All-contains (IsInFragment net w top.0) many.list x many.each c in (r.fragment.all x).1 (z.0, z.1, leads_on net here.2 z.2) in
      let few = no_more many.list r.nodes many.once within in
      let enough = many.many in
      let all = r.number in
      omega (arith, few, enough, all)

  module _ (roots : List ℕ) (tell : TellFragments net w roots) where
    in_graph : (v : ℕ) → v < length roots → v ≤ g.nodes
    in_graph v lt = let b = tell.count in omega (arith, b, lt)

    placed : (v : ℕ) → v ≤ g.nodes → v < length roots
    placed v hi = let b = tell.count in omega (arith, b, hi)

    root_low : (v : ℕ) → 1 ≤ v → v ≤ g.nodes → get_or roots v 0 ≤ v
    root_low v lo hi = (tell.root v lo hi).low

    pub have_roots : HaveRoots roots nodes
    have_roots = record {
      places = let b = tell.count in let c = kept.shows.count in omega (arith, b, c);
      few = let c = kept.shows.count in let few = kept.graph.nodes in omega (arith, c, few);
      within = λ v lo hi. let c = kept.shows.count in let low = root_low v lo (omega (arith, c, hi)) in omega (arith, low, hi);
    }

    level_is : (v : ℕ) → 1 ≤ v → v ≤ g.nodes → level_in nodes v ≡ (w.node v).head.level
    level_is v lo hi = ap (λ (n : NodeState). n.head.level) (kept.shows.node v lo hi)

    -- a class with a member is a fragment
    module _ (k : ℕ) (row : FragmentRow) (c : CountsClass roots (level_in nodes) (length roots) k row) where
      member : (u : ℕ) → Contains c.members u → (1 ≤ u) × (u ≤ g.nodes) × IsRootOf roots u k
      member u i = let a = c.are.has u i in let hi = in_graph u a.1 in (a.0, hi, subst (IsRootOf roots u) a.2 (tell.root u a.0 hi))

      module _ (x : ℕ) (some : Contains c.members x) where
        k_low : 1 ≤ k
        k_low = (member x some).2.some

        k_in : k ≤ g.nodes
        k_in = let m = member x some in let low = m.2.low in omega (arith, m.1, low)

        own : get_or roots k 0 ≡ k
        own = (member x some).2.own

        there : (u : ℕ) → Contains c.members u → (1 ≤ u) × (u ≤ g.nodes) × InOneFragment net w k u
        there u i = let m = member u i in (m.0, m.1, (tell.told k u k_low k_in m.0 m.1).0 (own ∙ sym m.2.is))

        back : (u : ℕ) → (1 ≤ u) × (u ≤ g.nodes) × InOneFragment net w k u → Contains c.members u
        back u h = c.are.all u h.0 (placed u h.1) (sym ((tell.told k u k_low k_in h.0 h.1).1 h.2) ∙ own)

        greatest : (u : ℕ) × Contains c.members u × ((w.node u).head.level ≡ row.level)
        greatest = ⊎_elim
            (λ (more : 0 < row.level). let h = c.has more in let m = member h.0 h.1 in (h.0, h.1, sym (level_is h.0 m.0 m.1) ∙ h.2))
            (λ (none : row.level ≤ 0).
            let m = member x some in
            let most = c.most x some in
            let is = level_is x m.0 m.1 in
            (x, some, omega (arith, none, most, is)))
            (cases_lt 0 row.level)

        pub is_row : IsRow net w row
        is_row = record {
          nodes = c.members;
          fragment = rw c.least (record { rising = c.are.rising; all = λ u. (there u, back u) });
          least = λ u i. rw c.least (member u i).2.low;
          level = record { has = greatest; most = λ u i. let m = member u i in rw (level_is u m.0 m.1) at (c.most u i) };
          number = c.nodes;
        }

    module _ (rows : List FragmentRow) (a : AreCounted roots (level_in nodes) rows) where
      -- each place has a class
      class_at : (i : ℕ) (d : FragmentRow) → i < length a.places → CountsClass roots (level_in nodes) (length roots) i (get_or a.places i d)
      class_at i d lt = let p = a.counted.places in rw (get_or_default a.places i d no_row lt) (a.counted.each i (omega (arith, p, lt)))

      row_at : (r : FragmentRow) → Contains (filter has_nodes a.places) r → IsRow net w r
      row_at r h =
          let k = in_filter has_nodes a.places r h in
          let i = k.0.0 in
          let c : CountsClass roots (level_in nodes) (length roots) i r = rw k.0.2 at (class_at i r k.0.1) in
          let many = c.nodes in
          let some : 0 < r.nodes = ltb-true 0 r.nodes k.1 in
          is_row i r c (get_or c.members 0 0) (Contains-get_or c.members 0 0 (omega (arith, many, some)))

      all_in : (v : ℕ) → 1 ≤ v → v ≤ g.nodes → (r : FragmentRow) × Contains (filter has_nodes a.places) r × InOneFragment net w r.least v
      all_in v lo hi =
          let k = get_or roots v 0 in
          let is = tell.root v lo hi in
          let low = is.low in
          let inside : k < length a.places = let p = a.counted.places in let q = placed v hi in omega (arith, p, q, low) in
          let c = class_at k no_row inside in
          let member = c.are.all v lo (placed v hi) refl in
          let some : 0 < (get_or a.places k no_row).nodes = let lt = member.1 in let many = c.nodes in omega (arith, lt, many) in (
            get_or a.places k no_row,
            filter_has has_nodes a.places (get_or a.places k no_row) (Contains-get_or a.places k no_row inside) (lt-ltb 0 _ some),
            rw c.least ((tell.told k v is.some (omega (arith, low, hi)) lo hi).0 is.own),
          )

      rising : (i j : ℕ) (d : FragmentRow) → i < j → j < length a.places → (get_or a.places i d).least < (get_or a.places j d).least
      rising i j d lt jl = let p = (class_at i d (omega (arith, lt, jl))).least in let q = (class_at j d jl).least in omega (arith, p, q, lt)

      pub is_census : IsCensus net w rows
      is_census = rw a.kept (record {
        rising = AllPairs-filter (λ r s. r.least < s.least) has_nodes a.places rising;
        each = λ i d lt. row_at (get_or (filter has_nodes a.places) i d) (Contains-get_or (filter has_nodes a.places) i d lt);
        all = all_in;
      })

    pub census_told : {X E : Type 0} (items : X → List FragmentRow) (r : Result X E) → IfOk r (λ x. AreCounted roots (level_in nodes) (items x)) →
        IfOk r (λ x. IsCensus net w (items x))
    census_told items r h =
        IfOk-weaker r (λ x. AreCounted roots (level_in nodes) (items x)) (λ x. IsCensus net w (items x)) (λ x a. is_census (items x) a) h

  -- its rows are large
  pub large_told : {X E : Type 0} (items : X → List FragmentRow) (r : Result X E) → IfOk r (λ x. IsCensus net w (items x)) →
      IfOk r (λ x. AreLarge (items x))
  large_told items r h =
      IfOk-weaker r (λ x. IsCensus net w (items x)) (λ x. AreLarge (items x)) (λ x c. λ k d lt. large_row (get_or (items x) k d) (c.each k d lt)) h
