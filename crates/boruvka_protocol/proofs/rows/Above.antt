-- Along ways up: where a root has ended its search all of its class have, and where a node searches all above it do.
use Rattle.std.proofs.Common.{◌≡◌, ◌≢◌, ◌⊎◌, ℕ, suc, ◌≤◌, inl, inr, ⊎_elim, true, refl, sym, ◌∙◌, ap, subst, arith}
use Rattle.std.proofs.lemmas.Bool.{cases_eq}
use Rattle.ghs_graph.specs.declared.key.Key.{Key}
use Rattle.ghs_graph.specs.Key.{ends_at}
use Rattle.ghs_graph.specs.Ports.{far_end}
use Rattle.ghs_graph.specs.Graph.{Shape, IsGraph}
use Rattle.ghs_graph.proofs.lemmas.Joining.{joined_then}
use Rattle.ghs_graph.proofs.lemmas.Ports.{ends_a}
use Rattle.peer_network.specs.Network.{Network, network_of, port_at, At, InNetwork, far, far_port}
use Rattle.peer_network.proofs.lemmas.Wired.{IsWired}
use Rattle.peer_network.proofs.lemmas.Graphs.{graph_wired, port_ends}
use Rattle.peer_network.proofs.lemmas.Wires.{at_in}
use Rattle.boruvka_protocol.specs.Levels.{Taken, InClass, IsOfLevel}
use Rattle.boruvka_protocol.specs.WaysUp.{IsTop, IsUp, IsBelow, Here, Up}
use Rattle.boruvka_protocol.proofs.lemmas.Cuts.{taken_in_tree, least_at_end}
use Rattle.boruvka_protocol.proofs.lemmas.WaysUp.{level_at, top_at, ways_up_lead_to_top}
use Rattle.peer_machine.specs.Net.{Net}
use Rattle.boruvka_node.specs.declared.mark.Mark.TheVariants.{Branch}
use Rattle.boruvka_node.specs.declared.message.Message.{Message}
use Rattle.boruvka_node.specs.declared.message.Phase.TheVariants.{Sleeping, Search}
use Rattle.boruvka_node.specs.State.{State}
use Rattle.boruvka_protocol.proofs.invariant.Words.{IsPast, IsLeast, IsWayUp}
use Rattle.boruvka_protocol.proofs.invariant.Sides.{Side, at_port, side_of, heard_at, calls_in}
use Rattle.boruvka_protocol.proofs.invariant.Marks.{MarksFit}
use Rattle.boruvka_protocol.proofs.invariant.Children.{ChildrenFit, ChildFits, ParentFits}
use Rattle.boruvka_protocol.proofs.invariant.Token.{Token, Gone_on, RootIsPast, On}
use Rattle.boruvka_protocol.proofs.invariant.Whole.{Ground, NodesFit}
use Rattle.boruvka_protocol.proofs.rows.Leaving.{AreEnds, not_taken, joined_ends}
use Rattle.boruvka_protocol.proofs.rows.Late.{search_rest}
use Rattle.boruvka_protocol.proofs.levels.UpOnce.{up_of_either, up_of_one, IsMet, own_choice}
use Rattle.boruvka_protocol.proofs.follows.Ways.{PortOn, port_on_link, far_by_link, taken_still}
use Rattle.boruvka_protocol.proofs.follows.Cases.{by_branch}

module _ (gr : Shape) (w : Net State Message) where
  abbrev g : Network
  g = network_of gr

  -- the end at port i of node u
  abbrev side : ℕ → ℕ → Side
  side u i = side_of g u i (at_port (w.node u) i)

  -- what is needed of the link at port i of u, whose other end is at port j of y
  pub record IsTied (u i y j : ℕ) : Type 0 where
    pub marks : MarksFit gr.keys (side u i) (side y j) (heard_at (at_port (w.node u) i)).level (calls_in (w.queue u i))
    pub children : ChildrenFit gr.keys (side u i) (side y j) (calls_in (w.queue u i)) (calls_in (w.queue y j))

  -- of each link
  abbrev pub AllTied : Type 0
  AllTied = (u i : ℕ) → At g u i → IsTied u i (far g u i) (far_port g u i)

  -- who is above level 0 is in a class of its level
  abbrev pub AreOfLevels : Type 0
  AreOfLevels = (u : ℕ) → InNetwork g u → 1 ≤ (w.node u).head.level → IsOfLevel gr.keys (w.node u).head.level u

  pub are_of_levels : Ground g w → NodesFit gr.keys g w → AreOfLevels
  are_of_levels ground nodes u at lo = (nodes u at (λ s. asleep s)).class
    where
      asleep : (w.node u).head.phase ≡ Sleeping → ⊥
      asleep s = omega (arith, lo, ap (λ (n : State). n.head.level) (ground.untouched u s))

  module _ (ok : IsGraph gr) (links : AllTied) (classes : AreOfLevels) where
    wired : IsWired g
    wired = graph_wired gr ok

    abbrev Past : ℕ → ℕ → Type 0
    Past l u = IsPast l (w.node u).head.level (w.node u).head.phase

    -- The link k leads from x to y at ports i and j, and is taken at the level l.
    module _ (l x y i j : ℕ) (k : Key) (at : At g x i) (to : far g x i ≡ y) (to_port : far_port g x i ≡ j) (key : (port_at g x i).key ≡ k)
        (taken : Taken gr.keys l k) where
      up : IsTied x i y j
      up = subst (λ z. IsTied x i y z) to_port (subst (λ z. IsTied x i z (far_port g x i)) to (links x i at))

      there : At g y j
      there = subst (λ z. At g y z) to_port (subst (λ z. At g z (far_port g x i)) to (wired.there x i at))

      key_there : (port_at g y j).key ≡ k
      key_there = subst (λ z. (port_at g y z).key ≡ k) to_port
          (subst (λ z. (port_at g z (far_port g x i)).key ≡ k) to (wired.same_key x i at ∙ key))

      down : IsTied y j x i
      down = go (subst (λ z. far g y z ≡ x) to_port (subst (λ z. far g z (far_port g x i) ≡ x) to (wired.back x i at)))
          (subst (λ z. far_port g y z ≡ i) to_port (subst (λ z. far_port g z (far_port g x i) ≡ i) to (wired.back_port x i at)))
        where
          go : far g y j ≡ x → far_port g y j ≡ i → IsTied y j x i
          go a b = subst (λ z. IsTied y j x z) b (subst (λ z. IsTied y j z (far_port g y j)) a (links y j there))

      ends_there : AreEnds y x k
      ends_there = ⊎_elim (λ e. inr (e.1, e.0)) (λ e. inl (e.1, e.0))
          (subst (λ (z : Key). AreEnds x y z) key (subst (λ z. AreEnds x z (port_at g x i).key) to (port_ends gr ok x i at)))

      net_there : InNetwork g y
      net_there = at_in there

      child_at : (m : ℕ) → (w.node y).head.level ≡ m → IsWayUp gr.keys m x k →
          ChildFits gr.keys (side y j) (side x i) (calls_in (w.queue y j)) (calls_in (w.queue x i))
      child_at m e a = down.children.child (subst (λ z. IsWayUp gr.keys z x (port_at g y j).key) (sym e)
          (subst (λ (z : Key). IsWayUp gr.keys m x z) (sym key_there) a))

      parent_at : (m : ℕ) → (w.node y).head.level ≡ m → IsWayUp gr.keys m y k → ParentFits gr.keys (side y j) (side x i)
      parent_at m e a = down.children.parent (subst (λ z. IsWayUp gr.keys z y (port_at g y j).key) (sym e)
          (subst (λ (z : Key). IsWayUp gr.keys m y z) (sym key_there) a))

      -- it is the way up of one of them at the level of y, where that isn't lower
      either : 1 ≤ (w.node y).head.level → l ≤ (w.node y).head.level →
          IsWayUp gr.keys (w.node y).head.level y k ⊎ IsWayUp gr.keys (w.node y).head.level x k
      either lo le = up_of_either gr ok (w.node y).head.level y x k (classes y net_there lo) ends_there
          (taken_still gr.keys l (w.node y).head.level k le taken)

      -- a level above l it is Branch at y
      branch_there : (w.node y).head.level ≡ suc l → (side y j).mark ≡ Branch
      branch_there e = by_branch (side y j).mark (λ b. b) (λ ne. absurd (late ne))
        where
          late : (side y j).mark ≢ Branch → ⊥
          late ne = not_taken x (port_at g y j).key
              (down.marks.late l e (subst (λ (z : Key). Taken gr.keys (w.node y).head.level z) (sym key_there)
              (taken_still gr.keys l (w.node y).head.level k (omega (arith, e)) taken)) ne).chosen.leaves
              (subst (λ (z : Key). Taken gr.keys l z) (sym key_there) taken)

      -- below a node that has ended its search of the level each child has
      pub past_below : IsWayUp gr.keys l x k → Past l y → Past l x
      past_below a (inr e) = subst (λ z. IsPast z (w.node x).head.level (w.node x).head.phase) e.0 ((child_at l e.0 a).rest e.1).past
      past_below a (inl lt) = ⊎_elim
          (λ b. inl (⊎_elim (λ e. omega (arith, e, lt)) (λ e. omega (arith, e, lt)) (parent_at (w.node y).head.level refl b).level))
          (λ b. as_child (child_at (w.node y).head.level refl b))
          (either (omega (arith, lt)) (omega (arith, lt)))
        where
          as_child : ChildFits gr.keys (side y j) (side x i) (calls_in (w.queue y j)) (calls_in (w.queue x i)) → Past l x
          as_child c = ⊎_elim
              (λ e.
              let above : suc (w.node x).head.level ≡ (w.node y).head.level = let le = c.level in omega (arith, e, lt, le) in
              inr (e, (c.behind above).rest (branch_there (omega (arith, e, above)))))
              (λ ne. inl (let le = c.level in omega (arith, ne, lt, le)))
              (cases_eq (w.node x).head.level l)

      -- above a node that searches its parent does
      pub search_above : IsWayUp gr.keys l x k → (w.node x).head.level ≡ l → (w.node x).head.phase ≡ Search →
          ((w.node y).head.level ≡ l) × ((w.node y).head.phase ≡ Search)
      search_above a lv s = ⊎_elim
          (λ e. let same : (w.node y).head.level ≡ l = e ∙ lv in (same, (child_at l same a).search (lv ∙ sym same) s))
          (λ e. absurd (higher (e ∙ ap suc lv)))
          p.level
        where
          p : ParentFits gr.keys (side x i) (side y j)
          p = up.children.parent (subst (λ z. IsWayUp gr.keys z x (port_at g x i).key) (sym lv)
              (subst (λ (z : Key). IsWayUp gr.keys l x z) (sym key) a))

          higher : (w.node y).head.level ≡ suc l → ⊥
          higher e = ⊎_elim
              (λ b. ⊎_elim (λ z. omega (arith, e, lv, z)) (λ z. omega (arith, e, lv, z)) (parent_at (w.node y).head.level refl b).level)
              (λ b. search_rest (w.node x).head.phase s
              (((child_at (w.node y).head.level refl b).behind (omega (arith, e, lv))).rest p.far_mark))
              (either (omega (arith, e)) (omega (arith, e)))

    -- The same by the ways up of a class.

    module _ (l r : ℕ) where
      module _ (x : ℕ) (k : Key) (is : IsUp (Taken gr.keys l) r x k) (top : IsTop gr.keys l x r) where
        port : PortOn g x k
        port = port_on_link gr ok x k (taken_in_tree gr.keys l k is.link).0 is.ends

        far_is : far g x port.port ≡ far_end x k
        far_is = far_by_link gr ok x port.port port.at ∙ ap (λ (z : Key). far_end x z) port.key

        way : IsWayUp gr.keys l x k
        way = record { root = r; top = top; up = is }

        pub ends_of_up : AreEnds x (far_end x k) k
        ends_of_up = subst (λ (z : Key). AreEnds x (far_end x k) z) port.key
            (subst (λ z. AreEnds x z (port_at g x port.port).key) far_is (port_ends gr ok x port.port port.at))

        pub top_of_up : IsTop gr.keys l (far_end x k) r
        top_of_up = top_at gr.keys l x (far_end x k) r (joined_ends x (far_end x k) k ends_of_up is.link) top

        pub past_up : Past l (far_end x k) → Past l x
        past_up h = past_below l x (far_end x k) port.port (far_port g x port.port) k port.at far_is refl port.key is.link way h

        pub search_up : (w.node x).head.level ≡ l → (w.node x).head.phase ≡ Search →
            ((w.node (far_end x k)).head.level ≡ l) × ((w.node (far_end x k)).head.phase ≡ Search)
        search_up lv s = search_above l x (far_end x k) port.port (far_port g x port.port) k port.at far_is refl port.key is.link way lv s

        pub net_up : InNetwork g (far_end x k)
        net_up = subst (λ z. InNetwork g z) far_is
            (at_in (wired.there x port.port port.at))

      below_past : {x z : ℕ} → IsBelow (Taken gr.keys l) r x z → IsTop gr.keys l x r → Past l z → Past l x
      below_past Here top h = h
      below_past {x} (Up k is rest) top h = past_up x k is top (below_past rest (top_of_up x k is top) h)

    -- where the root has ended its search, all of its class have
    pub all_past : (l v x : ℕ) → RootIsPast gr.keys g w l v → InClass gr.keys l v x → Past l x
    all_past l v x h inside = below_past l h.root (ways_up_lead_to_top gr ok l x h.root top) top h.past
      where
        top : IsTop gr.keys l x h.root
        top = top_at gr.keys l v x h.root inside h.top

    -- where a node searches a level above, the end of its part's least way out has gone on
    module _ (l v r : ℕ) where
      -- a token that has gone on
      abbrev pub GoneOn : Type 0
      GoneOn = (t : Token gr.keys g w l v) × (t.place ≡ On)

      goes_on : {x z : ℕ} → IsBelow (Taken gr.keys (suc l)) r x z → z ≡ r → IsTop gr.keys (suc l) x r → IsOfLevel gr.keys (suc l) x →
          InClass gr.keys l v x → InNetwork g x → (w.node x).head.level ≡ suc l → (w.node x).head.phase ≡ Search → GoneOn
      goes_on {x} Here e top class inside net lv s =
          let t : Token gr.keys g w l v = record {
            node = x;
            place = On;
            inside = inside;
            in_network = net;
            at = Gone_on top.0 (omega (arith, lv)) (subst (λ y. IsLeast gr.keys l y top.0) (sym (e ∙ top.2)) top.1.of_a)
                (subst (λ y. ends_at y top.0 ≡ true) (sym (e ∙ top.2)) (ends_a top.0));
          } in
          (t, refl)
      goes_on {x} (Up k is rest) e top class inside net lv s = go
          (λ t. goes_on rest e (top_of_up (suc l) r x k is top) class_up (joined_then inside (joined_ends x (far_end x k) k ends t))
          (net_up (suc l) r x k is top) up_s.0 up_s.1)
          is.link
        where
          ends : AreEnds x (far_end x k) k
          ends = ends_of_up (suc l) r x k is top

          up_s : ((w.node (far_end x k)).head.level ≡ suc l) × ((w.node (far_end x k)).head.phase ≡ Search)
          up_s = search_up (suc l) r x k is top lv s

          class_up : IsOfLevel gr.keys (suc l) (far_end x k)
          class_up = level_at gr.keys (suc l) x (far_end x k) (joined_ends x (far_end x k) k ends is.link) class

          here : IsLeast gr.keys l x k → GoneOn
          here least =
              let t : Token gr.keys g w l v = record {
                node = x;
                place = On;
                inside = inside;
                in_network = net;
                at = Gone_on k (omega (arith, lv)) least is.ends;
              } in
              (t, refl)

          there : IsLeast gr.keys l (far_end x k) k → GoneOn
          there least = ⊎_elim
              (λ b. absurd (up_of_one gr ok (suc l) x (far_end x k) k class ends (record { root = r; top = top; up = is }) b))
              (λ (b : IsMet gr.keys l (far_end x k) x k). here b.far)
              (own_choice gr ok l (far_end x k) x k class_up (⊎_elim (λ z. inr (z.1, z.0)) (λ z. inl (z.1, z.0)) ends) least)

          go : (Taken gr.keys l k → GoneOn) → Taken gr.keys (suc l) k → GoneOn
          go on (inl t) = on t
          go on (inr z) = ⊎_elim
              (λ a. ⊎_elim
              (λ y. here (subst (λ q. IsLeast gr.keys l q k) (sym y.0) a))
              (λ y. there (subst (λ q. IsLeast gr.keys l q k) (sym y.1) a)) ends)
              (λ b. ⊎_elim
              (λ y. there (subst (λ q. IsLeast gr.keys l q k) (sym y.1) b))
              (λ y. here (subst (λ q. IsLeast gr.keys l q k) (sym y.0) b)) ends)
              (least_at_end z.1)

    pub token_gone_on : (l v x r : ℕ) → IsTop gr.keys (suc l) x r → IsOfLevel gr.keys (suc l) x → InClass gr.keys l v x → InNetwork g x →
        (w.node x).head.level ≡ suc l → (w.node x).head.phase ≡ Search → (t : Token gr.keys g w l v) × (t.place ≡ On)
    token_gone_on l v x r top class inside net lv s =
        goes_on l v r (ways_up_lead_to_top gr ok (suc l) x r top) refl top class inside net lv s
