-- A search ends where nothing is missing: what that keeps in the whole net, whether the node reports or not.
use Rattle.std.proofs.Common.{◌≡◌, ◌≢◌, ℕ, suc, ◌≤◌, ◌==◌, inl, ⊎_elim, Bool, true, Option, None, Some, List, [], ◌∷◌, ◌++◌, refl, sym, ◌∙◌, ap, subst, arith, append-nil, eqb-true}
use Rattle.std.proofs.lemmas.Bool.{cases_eq, and_parts}
use Rattle.ghs_graph.specs.declared.key.Key.{Key}
use Rattle.ghs_graph.specs.Graph.{Shape, IsGraph}
use Rattle.ghs_graph.specs.Links.{Joined, Same}
use Rattle.ghs_graph.proofs.lemmas.Joining.{joined_back}
use Rattle.boruvka_protocol.specs.Levels.{Taken, InClass}
use Rattle.boruvka_protocol.specs.WaysUp.{IsTop, IsUp}
use Rattle.boruvka_protocol.proofs.lemmas.WaysUp.{top_at, classes_have_one_top, links_are_ways_up}
use Rattle.ghs_node.specs.Words.{Best}
use Rattle.peer_network.specs.Network.{Network, network_of, InNetwork, At, port_at, far, far_port}
use Rattle.peer_network.proofs.lemmas.Wired.{IsWired}
use Rattle.peer_network.proofs.lemmas.Wires.{neighbour}
use Rattle.peer_network.proofs.lemmas.Graphs.{graph_wired}
use Rattle.peer_machine.specs.Rules.{Outgoing}
use Rattle.peer_machine.specs.Net.{Net}
use Rattle.boruvka_node.specs.declared.mark.Mark.TheVariants.{Branch}
use Rattle.boruvka_node.specs.declared.message.Message.{Message}
use Rattle.boruvka_node.specs.declared.message.Message.TheVariants.{Report}
use Rattle.boruvka_node.specs.declared.message.Phase.TheVariants.{Search, Rest}
use Rattle.boruvka_node.specs.Words.{is_search}
use Rattle.boruvka_node.specs.State.{State, missing, least_basic}
use Rattle.boruvka_node.specs.Reaction.{is_over, own_best}
use Rattle.boruvka_protocol.proofs.invariant.Words.{IsPast, IsWayUp, SubIs}
use Rattle.boruvka_protocol.proofs.invariant.Sides.{AtPort, at_port, side_of, far_side_of, calls_in, connects_in, initiates_in, reports_in, passes_in}
use Rattle.boruvka_protocol.proofs.invariant.Nodes.{NodeFits, AwakeFits}
use Rattle.boruvka_protocol.proofs.invariant.Children.{HasReported}
use Rattle.boruvka_protocol.proofs.invariant.TreeMessages.{CallsFit}
use Rattle.boruvka_protocol.proofs.invariant.Search.{LacksSome, LeadsTo, Own, By_child, BestIsSub, SearchFits}
use Rattle.boruvka_protocol.proofs.invariant.Whole.{LinkFits, LinksFit, NodesFit, SearchesFit, SearchersLack, NearlyFits}
use Rattle.boruvka_protocol.proofs.rows.Sends.{sent_on}
use Rattle.boruvka_protocol.proofs.rows.Queues.{calls_append, names_before, passes_before, reports_behind}
use Rattle.boruvka_protocol.proofs.rows.Acts.{Acts, far_link, links_act}
use Rattle.boruvka_protocol.proofs.rows.Alike.{SameLevels, AsManyPasses}
use Rattle.boruvka_protocol.proofs.rows.Kept.{variable_act}
use Rattle.boruvka_protocol.proofs.rows.Others.{parent_like, nodes_act, waits_like}
use Rattle.boruvka_protocol.proofs.rows.Leaving.{AreEnds, joined_ends}
use Rattle.boruvka_protocol.proofs.rows.Late.{search_rest}
use Rattle.boruvka_protocol.proofs.rows.Changed.{SaysIn, searches_changed}
use Rattle.boruvka_protocol.proofs.rows.ClosingLinks.{closed_at, closed_near, closed_away, calls_away, empty_there, report_there}
use Rattle.boruvka_protocol.proofs.rows.ClosingBest.{paid_at, heard_there}
use Rattle.boruvka_protocol.proofs.rows.ClosingSub.{node_here, level_lo, ends_of, reported_of, best_is_sub}
use Rattle.boruvka_protocol.proofs.follows.Cases.{searching_is}

-- the search is over: the node is at rest with its best, and perhaps has halted
abbrev pub closed : State → Bool → State
closed n halted = record n { head = record n.head { best = own_best n (least_basic n.ports); phase = Rest; halted = halted } }

pub over_search : (n : State) → is_over n ≡ true → n.head.phase ≡ Search
over_search n e = let b = and_parts (is_search n.head.phase) (missing n == 0) e in searching_is n.head.phase b.0

pub over_none : (n : State) → is_over n ≡ true → ◌≡◌ {A = ℕ} (missing n) 0
over_none n e = let b = and_parts (is_search n.head.phase) (missing n == 0) e in eqb-true (missing n) 0 b.1

module _ (gr : Shape) (ok : IsGraph gr) (w : Net State Message) (v : ℕ) (fits : NearlyFits gr.keys (network_of gr) w v)
    (here : InNetwork (network_of gr) v) (over : is_over (w.node v) ≡ true) where
  abbrev g : Network
  g = network_of gr

  abbrev n : State
  n = w.node v

  abbrev l : ℕ
  l = n.head.level

  abbrev key : ℕ → Key
  key p = (port_at g v p).key

  wired : IsWired g
  wired = graph_wired gr ok

  search : n.head.phase ≡ Search
  search = over_search n over

  none : ◌≡◌ {A = ℕ} (missing n) 0
  none = over_none n over

  pub node : NodeFits gr.keys v n
  node = node_here gr ok w v fits here search none

  pub lo : 1 ≤ l
  lo = level_lo gr ok w v fits here search none

  pub stays : n.head.out ≡ None
  stays = ((fits.search v here).search search).stays

  -- what goes out on a port: a Report on the way up, and else nothing
  pub data SentOn (i : ℕ) : List Message → Type 0 where
    Still : (IsWayUp gr.keys l v (key i) → ⊥) → SentOn i []
    Reports : (k : Option Key) → IsWayUp gr.keys l v (key i) → SubIs gr.keys l v k → SentOn i (Report k ∷ [])

  module _ (halted : Bool) (w' : Net State Message) (ss : Outgoing Message) (a : Acts g w w' v (closed n halted) (w.queue v) ss)
      (sent : (i : ℕ) → At g v i → SentOn i (sent_on ss i)) where
    -- At one port of v.
    module _ (i : ℕ) (at : At g v i) where
      abbrev u : ℕ
      u = far g v i

      abbrev b : ℕ
      b = far_port g v i

      abbrev m : AtPort
      m = at_port (w.node u) b

      abbrev r : List Message
      r = w.queue u b

      near_before : LinkFits gr.keys g v i (at_port n i) m (w.queue v i) r
      near_before = fits.links v i at

      far_before : LinkFits gr.keys g u b m (at_port n i) r (w.queue v i)
      far_before = far_link g wired gr.keys w fits.links v i at

      near : (r' : List Message) → LinkFits gr.keys g v i (at_port (closed n halted) i) m (w.queue v i) r'
      near r' = closed_near gr.keys g v i (own_best n (least_basic n.ports)) halted (at_port n i) m (w.queue v i) r r' near_before search stays lo
          (paid_at n none i) (heard_there n none i) (ends_of gr ok w v fits here search none i at)

      -- the far end of b is v, and the key is one
      up_here : (x : ℕ) → IsWayUp gr.keys x (far g u b) (port_at g u b).key → IsWayUp gr.keys x v (key i)
      up_here x up = subst (λ y. IsWayUp gr.keys x y (key i)) (wired.back v i at)
          (subst (λ (y : Key). IsWayUp gr.keys x (far g u b) y) (wired.same_key v i at) up)

      up_there : (x : ℕ) → IsWayUp gr.keys x v (key i) → IsWayUp gr.keys x (far g u b) (port_at g u b).key
      up_there x up = subst (λ y. IsWayUp gr.keys x y (port_at g u b).key) (sym (wired.back v i at))
          (subst (λ (y : Key). IsWayUp gr.keys x v y) (sym (wired.same_key v i at)) up)

      done : IsWayUp gr.keys l u (port_at g u b).key → IsPast l m.head.level m.head.phase
      done up = (reported_of gr ok w v fits here search none i at (subst (λ (y : Key). IsWayUp gr.keys l u y) (wired.same_key v i at) up)).past

      abbrev AwayFits : List Message → Type 0
      AwayFits x = LinkFits gr.keys g u b m (at_port (closed n halted) i) x (w.queue v i)

      -- owed there, v is a child at its own level
      owed_up : m.port.owes ≡ true → (x : List Message) → HasReported m.head.level l Rest x →
          (IsWayUp gr.keys l v (key i) → m.head.level ≡ l → ⊥) → ⊥
      owed_up o x rep other = ⊎_elim
          (λ lt. far_before.owes.open_yet o (record { past = inl lt; heard = λ e. absurd (omega (arith, lt, e)) }))
          (λ y.
          let lv : m.head.level ≡ l = sym y.0 in
          other (subst (λ z. IsWayUp gr.keys z v (key i)) lv (up_here m.head.level (far_before.owes.child o).1)) lv)
          rep.past

      away_still : (IsWayUp gr.keys l v (key i) → ⊥) → AwayFits (r ++ [])
      away_still alone = subst AwayFits (sym (append-nil r))
          (closed_away gr.keys g u b (own_best n (least_basic n.ports)) halted m (at_port n i) r (w.queue v i) r far_before search done refl refl refl
          (calls_away gr.keys g u b (own_best n (least_basic n.ports)) halted m (at_port n i) r (w.queue v i) r far_before search done (calls_in r)
          far_before.calls)
          (λ o rep. owed_up o (calls_in r) rep (λ up lv. alone up)))

      -- The parent is in search at v's level.
      module _ (up : IsWayUp gr.keys l v (key i)) where
        branches : (at_port n i).port.mark ≡ Branch
        branches = (near_before.children.parent up).mark

        branch : m.port.mark ≡ Branch
        branch = (near_before.children.parent up).far_mark

        -- v's way up would be so at the level above too
        module _ (above : m.head.level ≡ suc l) where
          abbrev S : Key → Type 0
          S k = Taken gr.keys m.head.level k

          proper : NodeFits gr.keys u (w.node u)
          proper = fits.nodes u (record { some = (wired.there v i at).some; node = (wired.there v i at).node })
              (λ s. let z = ap (λ (x : State). x.head.level) (fits.ground.untouched u s) in absurd (omega (arith, above, z)))

          abbrev top : (x : ℕ) × IsTop gr.keys m.head.level u x × InClass gr.keys m.head.level u x
              × ((s : ℕ) → IsTop gr.keys m.head.level u s → s ≡ x)
          top = classes_have_one_top gr ok m.head.level u proper.class

          taken : S (key i)
          taken = subst (λ x. Taken gr.keys x (key i)) (sym above) (inl up.up.link)

          ends : AreEnds v u (key i)
          ends = ends_of gr ok w v fits here search none i at

          across_way : Joined S v u
          across_way = joined_ends {P = S} v u (key i) ends taken

          by_v : IsUp S top.0 v (key i) → ⊥
          by_v x = search_rest n.head.phase search
              (((far_before.children.child
              (up_there m.head.level
              (record { root = top.0; top = top_at gr.keys m.head.level u v top.0 (joined_back across_way) top.1; up = x }))).behind
              (sym above)).rest branch)

          by_u : IsUp S top.0 u (key i) → ⊥
          by_u x = ⊎_elim (λ e. omega (arith, above, e)) (λ e. omega (arith, above, e))
              (far_before.children.parent
              (subst (λ (y : Key). IsWayUp gr.keys m.head.level u y) (sym (wired.same_key v i at))
              (record { root = top.0; top = top.1; up = x }))).level

          not_above : ⊥
          not_above = ⊎_elim
              (λ x. ⊎_elim (λ e. by_v (subst (λ y. IsUp S top.0 y (key i)) (sym e.0) x.0))
              (λ e. by_u (subst (λ y. IsUp S top.0 y (key i)) (sym e.1) x.0)) ends)
              (λ x. ⊎_elim (λ e. by_u (subst (λ y. IsUp S top.0 y (key i)) (sym e.1) x.0))
              (λ e. by_v (subst (λ y. IsUp S top.0 y (key i)) (sym e.0) x.0)) ends)
              (links_are_ways_up gr ok m.head.level u top.0 top.1 (key i) taken
              (⊎_elim (λ e. subst (λ x. Joined S u x) e.0 (joined_back across_way)) (λ e. subst (λ x. Joined S u x) e.1 Same) ends))

        same_level : m.head.level ≡ l
        same_level = ⊎_elim (λ e. e) (λ e. absurd (not_above e)) (near_before.children.parent up).level

        listens : m.head.phase ≡ Search
        listens = (far_before.children.child (up_there m.head.level (subst (λ x. IsWayUp gr.keys x v (key i)) (sym same_level) up))).search
            (sym same_level) search

        empty : calls_in r ≡ []
        empty = empty_there gr.keys g u b (own_best n (least_basic n.ports)) halted m (at_port n i) r (w.queue v i) r far_before search done
            (up_there l up) same_level listens branch

        calls_now : (k : Option Key) → calls_in (r ++ Report k ∷ []) ≡ Report k ∷ []
        calls_now k = calls_append r (Report k ∷ []) ∙ ap (λ (x : List Message). x ++ Report k ∷ []) empty

        away_told : (k : Option Key) → SubIs gr.keys l v k → AwayFits (r ++ Report k ∷ [])
        away_told k sub =
            closed_away gr.keys g u b (own_best n (least_basic n.ports)) halted m (at_port n i) r (w.queue v i)
            (r ++ Report k ∷ []) far_before search done
            (names_before r (Report k ∷ []) refl)
            (ap (λ (x : List Message). connects_in x) (calls_now k) ∙ sym (ap (λ (x : List Message). connects_in x) empty))
            (ap (λ (x : List Message). initiates_in x) (calls_now k) ∙ sym (ap (λ (x : List Message). initiates_in x) empty))
            (subst
            (λ x. CallsFit gr.keys (side_of g u b m) (far_side_of g u b (closed_at (at_port n i) (own_best n (least_basic n.ports)) halted)) x)
            (sym (calls_now k))
            (report_there gr.keys g u b (own_best n (least_basic n.ports)) halted m (at_port n i) r (w.queue v i) r far_before search done
            (up_there l up) same_level listens branch k (subst (λ x. SubIs gr.keys l x k) (sym (wired.back v i at)) sub)))
            (λ o rep. owed_up o (calls_in (r ++ Report k ∷ [])) rep
            (λ up_too lv. let z = rep.heard (sym lv) in let one = reports_behind r (Report k ∷ []) in absurd (omega (arith, z, one))))

      away_by : (x : List Message) → SentOn i x → AwayFits (r ++ x)
      away_by _ (Still lacks) = away_still lacks
      away_by _ (Reports k up sub) = away_told up k sub

      passes_by : (x : List Message) → SentOn i x → ◌≡◌ {A = ℕ} (passes_in r) (passes_in (r ++ x))
      passes_by _ (Still lacks) = ap (λ (x : List Message). passes_in x) (sym (append-nil r))
      passes_by _ (Reports k up sub) = passes_before r (Report k ∷ []) refl

    pub links : LinksFit gr.keys g w'
    links = links_act g wired gr.keys w w' v (closed n halted) (w.queue v) ss a here fits.links
        (λ i at. near i at (w.queue (far g v i) (far_port g v i) ++ sent_on ss i))
        (λ i at. away_by i at (sent_on ss i) (sent i at))

    pub passes : AsManyPasses g w w'
    passes = waits_like gr.keys g w w' v (closed n halted) (w.queue v) ss a wired here passes_in (λ i at. refl)
        (λ i at. passes_by i at (sent_on ss i) (sent i at))

    pub levels : SameLevels w w'
    levels = variable_act gr.keys g w w' v (closed n halted) (w.queue v) ss a (λ x. x.level) refl

    -- The searches of others: no child has reported that hadn't.
    module _ (u p : ℕ) (at : At g u p) (ne : u ≢ v) where
      abbrev Before : Type 0
      Before = SaysIn gr.keys g wired w w' v (closed n halted) (w.queue v) ss a w u p

      abbrev After : Type 0
      After = SaysIn gr.keys g wired w w' v (closed n halted) (w.queue v) ss a w' u p

      abbrev ul : ℕ
      ul = (w.node u).head.level

      module _ (fne : far g u p ≢ v) where
        queue_else : w'.queue u p ≡ w.queue u p
        queue_else = a.queues u p ne (λ j e h. fne (neighbour g wired v j u p here.some here.node at e h))

        to_else : Before → After
        to_else x = subst (λ (q : List Message). HasReported ul (w'.node (far g u p)).head.level (w'.node (far g u p)).head.phase (calls_in q))
            (sym queue_else)
            (subst (λ (y : State). HasReported ul y.head.level y.head.phase (calls_in (w.queue u p))) (a.others (far g u p) fne) x)

        from_else : After → Before
        from_else x = subst (λ (q : List Message). HasReported ul (w.node (far g u p)).head.level (w.node (far g u p)).head.phase (calls_in q))
            queue_else
            (subst (λ (y : State). HasReported ul y.head.level y.head.phase (calls_in (w'.queue u p))) (sym (a.others (far g u p) fne)) x)

      module _ (e : far g u p ≡ v) where
        level_was : ◌≡◌ {A = ℕ} (w.node (far g u p)).head.level l
        level_was = ap (λ y. (w.node y).head.level) e

        level_is : ◌≡◌ {A = ℕ} (w'.node (far g u p)).head.level l
        level_is = ap (λ y. (w'.node y).head.level) e ∙ ap (λ (x : State). x.head.level) a.node

        phase_was : (w.node (far g u p)).head.phase ≡ Search
        phase_was = ap (λ y. (w.node y).head.phase) e ∙ search

        to_here : Before → After
        to_here x = ⊎_elim
            (λ lt. record { past = inl (omega (arith, lt, level_was, level_is)); heard = λ z. absurd (omega (arith, lt, z, level_was, level_is)) })
            (λ y. search_rest (w.node (far g u p)).head.phase phase_was y.1)
            x.past

        abbrev i : ℕ
        i = far_port g u p

        at_i : At g v i
        at_i = subst (λ y. At g y i) e (wired.there u p at)

        queue_now : w'.queue u p ≡ w.queue u p ++ sent_on ss i
        queue_now =
            let eu : far g v i ≡ u = subst (λ y. far g y i ≡ u) e (wired.back u p at) in
            let ep : far_port g v i ≡ p = subst (λ y. far_port g y i ≡ p) e (wired.back_port u p at) in
            subst (λ y. w'.queue y p ≡ w.queue y p ++ sent_on ss i) eu
            (subst (λ y. w'.queue (far g v i) y ≡ w.queue (far g v i) y ++ sent_on ss i) ep (a.far_queue i at_i))

        up_here_too : ul ≡ l → IsWayUp gr.keys ul (far g u p) (port_at g u p).key → IsWayUp gr.keys l v (key i)
        up_here_too lv up = subst (λ x. IsWayUp gr.keys x v (key i)) lv
            (subst (λ y. IsWayUp gr.keys ul y (port_at g y i).key) e
            (subst (λ (x : Key). IsWayUp gr.keys ul (far g u p) x) (sym (wired.same_key u p at)) up))

        -- a Report has gone out where v is a child
        not_yet : (x : List Message) → SentOn i x → IsWayUp gr.keys l v (key i) → ◌≡◌ {A = ℕ} (reports_in (calls_in (w.queue u p ++ x))) 0 → ⊥
        not_yet _ (Still lacks) up z = lacks up
        not_yet _ (Reports k way sub) up z = let one = reports_behind (w.queue u p) (Report k ∷ []) in omega (arith, z, one)

        from_here : IsWayUp gr.keys ul (far g u p) (port_at g u p).key → After → Before
        from_here up x = ⊎_elim
            (λ lt. record { past = inl (omega (arith, lt, level_was, level_is)); heard = λ z. absurd (omega (arith, lt, z, level_was, level_is)) })
            (λ y.
            let lv : ul ≡ l = sym y.0 ∙ level_is in
            absurd
            (not_yet (sent_on ss i) (sent i at_i) (up_here_too lv up)
            (subst (λ (q : List Message). ◌≡◌ {A = ℕ} (reports_in (calls_in q)) 0) queue_now (x.heard y.0))))
            x.past

      to : Before → After
      to x = ⊎_elim (λ e. to_here e x) (λ fne. to_else fne x) (cases_eq (far g u p) v)

      from : IsWayUp gr.keys ul (far g u p) (port_at g u p).key → After → Before
      from up x = ⊎_elim (λ e. from_here e up x) (λ fne. from_else fne x) (cases_eq (far g u p) v)

    own_search : SearchFits gr.keys g v (closed n halted) (λ p. (w.node (far g v p)).head) (w.queue v)
    own_search = record {
      search = λ s. search_rest Rest s refl;
      rest = λ r lo. again (own_best n (least_basic n.ports)) (best_is_sub gr ok w v fits here search none);
    }
      where
        again : (b : Best) → BestIsSub gr.keys g v n (λ p. (w.node (far g v p)).head) (λ p. w.queue v p) b →
            BestIsSub gr.keys g v (closed n halted) (λ p. (w.node (far g v p)).head) (w.queue v) b
        again None h = h
        again (Some b) h = (h.0, go h.1)
          where
            go : LeadsTo gr.keys g v n (λ p. (w.node (far g v p)).head) (λ p. w.queue v p) b.0 b.1 →
                LeadsTo gr.keys g v (closed n halted) (λ p. (w.node (far g v p)).head) (w.queue v) b.0 b.1
            go (Own at basic key) = Own at basic key
            go (By_child c sub) = By_child (record { at = c.at; mark = c.mark; child = c.child }) sub

    pub searches : SearchesFit gr.keys g w'
    searches = searches_changed gr.keys g wired w w' v (closed n halted) (w.queue v) ss a (λ u p at ne up x. to u p at ne x)
        (λ u p at ne up x. from u p at ne up x) fits.search own_search

    pub nodes : NodesFit gr.keys g w'
    nodes = nodes_act gr.keys g w w' v (closed n halted) (w.queue v) ss a (λ u x. AwakeFits gr.keys u x) fits.nodes
        (λ up. record {
          class = node.class;
          name = node.name;
          parent = parent_like gr.keys l v n (closed n halted) refl refl n.head.parent node.parent;
          ground = λ z. absurd (omega (arith, z, lo));
          out_port = node.out_port;
        })

    pub lacks : SearchersLack g w'
    lacks u at = ⊎_elim
        (λ (e : u ≡ v). subst (λ y. LacksSome (w'.node y)) (sym e)
        (subst (λ (x : State). LacksSome x) (sym a.node) (λ s. search_rest Rest s refl)))
        (λ ne. subst (λ (x : State). LacksSome x) (a.others u ne) (fits.others u at ne))
        (cases_eq u v)
