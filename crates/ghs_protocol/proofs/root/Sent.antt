-- The root is sent on along another port: what all such steps share.
use Rattle.std.proofs.Common.{◌≡◌, ◌≢◌, ℕ, zero, suc, ◌<◌, ◌≤◌, Bool, false, Some, List, [], ◌∷◌, refl, sym, ◌∙◌, ap, ap₂, subst, subst₂, ⊎_elim, length, arith}
use Rattle.std.proofs.Math.Path.{fun_ext}
use Rattle.std.proofs.lemmas.Bool.{cases_eq}
use Rattle.std.proofs.lemmas.Option.{same_Some}
use Rattle.ghs_graph.specs.declared.key.Key.{Key}
use Rattle.ghs_node.specs.Words.{is_branch, is_find, Outgoing}
use Rattle.ghs_node.specs.declared.mark.Mark.{Mark}
use Rattle.ghs_node.specs.declared.mark.Mark.TheVariants.{Branch}
use Rattle.ghs_node.specs.declared.message.Phase.TheVariants.{Sleeping, Found}
use Rattle.ghs_node.specs.declared.message.Message.{Message}
use Rattle.peer_network.specs.Network.{Network, port_at, At, far, far_port, InNetwork}
use Rattle.peer_network.proofs.lemmas.Wired.{IsWired}
use Rattle.peer_network.specs.Updates.{put}
use Rattle.peer_network.specs.Sums.{sum_below}
use Rattle.ghs_protocol.proofs.clauses.Scene.{Seen, add, adds, Member, Scene, End, end, tree_end, forest, acts, far_end}
use Rattle.ghs_protocol.proofs.clauses.Changes.{left_tree, seen_beyond}
use Rattle.ghs_protocol.proofs.clauses.Nodes.{NodeFits}
use Rattle.ghs_protocol.proofs.clauses.Links.{Out}
use Rattle.ghs_protocol.proofs.clauses.TreeMessages.{Moved}
use Rattle.ghs_protocol.proofs.clauses.Fragments.{Names, ForestFits}
use Rattle.ghs_protocol.proofs.clauses.Rest.{Quiet, Resting, owes, debt, DebtsCounted, has_call, has_report}
use Rattle.ghs_protocol.proofs.clauses.Whole.{LinkFits, Invariant, NamesOf}
use Rattle.peer_network.proofs.lemmas.Updates.{put_same, put_other, put_alike}
use Rattle.ghs_protocol.proofs.acts.Ends.{acts_keeps}
use Rattle.ghs_protocol.proofs.acts.SameForest.{near', far', node_after, quiet_after, sums_after, branch_mark}
use Rattle.ghs_protocol.proofs.acts.OneLink.{sends_one}
use Rattle.ghs_protocol.proofs.search.ReportGone.{debt_up, debt_none, debt_unowed}
use Rattle.ghs_protocol.proofs.rest.Halt.{owed_finds}
use Rattle.ghs_protocol.proofs.rest.AtRest.{not_true}
use Rattle.ghs_protocol.proofs.root.AtRoot.{AtRoot}
use Rattle.ghs_protocol.proofs.root.Ways.{Turns, turning, forest_turn, names_turn}
use Rattle.ghs_protocol.proofs.root.OldLink.{search_turns, search_turns', tree_aside, tree_aside', tree_leaves, tree_leaves', link_names}
use Rattle.ghs_protocol.proofs.rows.Link.{node_clauses, joined_clauses, not_the_way}

pub put_field : {A B : Type 0} (k : A → B) (f : ℕ → A) (u : ℕ) (x : A) (v : ℕ) → k (put f u x v) ≡ put (λ y. k (f y)) u (k x) v
put_field k f u x v =
    ⊎_elim
    (λ (h : v ≡ u). rw h (ap k (put_same f u x) ∙ sym (put_same (λ y. k (f y)) u (k x))))
    (λ ne. ap k (put_other f u v x ne) ∙ sym (put_other (λ y. k (f y)) u v (k x) ne))
    (cases_eq v u)

pub sum_zero : (n : ℕ) (f : ℕ → ℕ) → ((i : ℕ) → i < n → ◌≡◌ {A = ℕ} (f i) 0) → ◌≡◌ {A = ℕ} (sum_below n f) 0
sum_zero zero f h = refl
sum_zero (suc n) f h = let a = sum_zero n f (λ i lt. h i (omega arith)) in let b = h n (omega arith) in omega (arith, a, b)

module _ (g : Network) (wired : IsWired g) (u : ℕ) (u_is : InNetwork g u) (j : ℕ) (at : At g u j) (w : Scene) (holds : Invariant g w)
    (ms : List Message) (root : AtRoot g w u j ms)
    (b : ℕ) (atb : At g u b) (apart : b ≢ j) (μ : ℕ → Mark) (to : μ b ≡ Branch) (same : (i : ℕ) → i ≢ b → μ i ≡ (w.at u).mark i) (m : Message)
    (no_call : (q : Seen) → has_call q.tree ≡ false → has_call (add q m).tree ≡ false) where
  -- u afterwards, and what waits at its port j
  abbrev pub goes : Member
  goes = record (w.at u) { up = Some b; mark = μ }

  abbrev pub rest : Seen
  rest = record (w.seen u j) { tree = ms }

  abbrev pub rerouted : Scene
  rerouted = acts g u (record (w.at u) { up = Some b; mark = μ }) (left_tree w u j ms) ((b, m) ∷ []) w

  -- the ends of its links
  abbrev pub still : ℕ → End
  still i = record { port = i; key = (port_at g u i).key; mark = μ i; is = record (w.at u) { up = Some b; mark = μ }; seen = w.seen u i }

  abbrev pub here : End
  here = record {
    port = j;
    key = (port_at g u j).key;
    mark = μ j;
    is = record (w.at u) { up = Some b; mark = μ };
    seen = record (w.seen u j) { tree = ms };
  }

  abbrev pub there : End
  there = record (far_end g w u b) { seen = add (seen_beyond g w u b) m }

  own : ℕ → Seen
  own = put (w.seen u) j rest

  ss : Outgoing
  ss = (b, m) ∷ []

  abbrev near_now : ℕ → End
  near_now i = near' g wired u u_is goes own ss w i

  abbrev far_now : ℕ → End
  far_now i = far' g wired u u_is goes own ss w i

  near_still : (i : ℕ) → i ≢ j → near_now i ≡ still i
  unfolding own
  near_still i ne = λ k. record { port = i; key = (port_at g u i).key; mark = μ i; is = goes; seen = put_other (w.seen u) j i rest ne k }

  near_here : near_now j ≡ here
  unfolding own
  near_here = λ k. record { port = j; key = (port_at g u j).key; mark = μ j; is = goes; seen = put_same (w.seen u) j rest k }

  far_onto : (i : ℕ) → i ≢ b → far_now i ≡ far_end g w u i
  unfolding ss
  far_onto i ne = λ k. record (far_end g w u i) { seen = adds (seen_beyond g w u i) ((sends_one b m).none i ne k) }

  far_there : far_now b ≡ there
  unfolding ss
  far_there = λ k. record (far_end g w u b) { seen = adds (seen_beyond g w u b) ((sends_one b m).only k) }

  by_ports : (P : End → End → Type 0) →
      P here (far_end g w u j) →
      P (still b) there →
      ((i : ℕ) → At g u i → i ≢ j → i ≢ b → P (still i) (far_end g w u i)) →
      (i : ℕ) → At g u i →
      P (near_now i) (far_now i)
  by_ports P hit sent miss i at' =
      ⊎_elim left
      (λ ne. ⊎_elim taken (λ ne'. subst₂ P (sym (near_still i ne)) (sym (far_onto i ne')) (miss i at' ne ne')) (cases_eq i b))
      (cases_eq i j)
    where
      left : i ≡ j → P (near_now i) (far_now i)
      left e = subst (λ y. P (near_now y) (far_now y)) (sym e) (subst₂ P (sym near_here) (sym (far_onto j (λ z. apart (sym z)))) hit)

      taken : i ≡ b → P (near_now i) (far_now i)
      taken e = subst (λ y. P (near_now y) (far_now y)) (sym e) (subst₂ P (sym (near_still b apart)) (sym far_there) sent)

  by_ports' : (P : End → End → Type 0) →
      P (far_end g w u j) here →
      P there (still b) →
      ((i : ℕ) → At g u i → i ≢ j → i ≢ b → P (far_end g w u i) (still i)) →
      (i : ℕ) → At g u i →
      P (far_now i) (near_now i)
  by_ports' P hit sent miss = by_ports (λ e f. P f e) hit sent miss

  -- a fact of the two ends that names the port
  pub by_ports_at : (P : ℕ → End → End → Type 0) →
      P j here (far_end g w u j) →
      P b (still b) there →
      ((i : ℕ) → At g u i → i ≢ j → i ≢ b → P i (still i) (far_end g w u i)) →
      (i : ℕ) → At g u i →
      P i
      (near' g wired u u_is (record (w.at u) { up = Some b; mark = μ }) (left_tree w u j ms) ((b, m) ∷ []) w i)
      (far' g wired u u_is (record (w.at u) { up = Some b; mark = μ }) (left_tree w u j ms) ((b, m) ∷ []) w i)
  unfolding own ss
  by_ports_at P hit sent miss i at' =
      ⊎_elim left
      (λ ne. ⊎_elim taken (λ ne'. subst₂ (P i) (sym (near_still i ne)) (sym (far_onto i ne')) (miss i at' ne ne')) (cases_eq i b))
      (cases_eq i j)
    where
      left : i ≡ j → P i (near_now i) (far_now i)
      left e = subst (λ y. P y (near_now y) (far_now y)) (sym e) (subst₂ (P j) (sym near_here) (sym (far_onto j (λ z. apart (sym z)))) hit)

      taken : i ≡ b → P i (near_now i) (far_now i)
      taken e = subst (λ y. P y (near_now y) (far_now y)) (sym e) (subst₂ (P b) (sym (near_still b apart)) (sym far_there) sent)

  is : InNetwork g u
  is = u_is

  pub found : (w.at u).head.phase ≡ Found
  found = root.quiet.found u is refl

  open node_clauses g wired w holds u u_is use {fits, link as link_at, link' as link_at'}

  pub node : NodeFits (length (g.ports u)) goes
  node = record {
    own_ports = record {
      probe = fits.own_ports.probe;
      in_branch = fits.own_ports.in_branch;
      mark = λ p ne.
          ⊎_elim (λ (e : p ≡ b). subst (λ y. y < length (g.ports u)) (sym e) atb.port) (λ no. fits.own_ports.mark p (λ z. ne (same p no ∙ z)))
          (cases_eq p b);
    };
    untouched = λ e. cc (e, found);
    points = λ e lt. record { port = b; up = refl; within = atb.port; mark = to };
    idle = fits.idle;
    searching = λ e. cc (e, found);
    naming = record { level = fits.naming.level; in_branch = fits.naming.in_branch; name = fits.naming.name };
    lag = record { level = fits.lag.level; name = fits.lag.name };
    best_port = fits.best_port;
  }

  way_not : (i : ℕ) → i ≢ b → Some b ≢ Some i
  way_not i ne e = ne (sym (same_Some b i e))

  away : j ≢ b
  away z = apart (sym z)

  -- the links but those of ports j and b
  link_aside : (i : ℕ) → At g u i → i ≢ j → i ≢ b → LinkFits (NamesOf g w) (still i) (far_end g w u i)
  link_aside i at' ne ne' =
      let h = link_at i at' in
      let e = tree_end (end g w u i) in
      let f = tree_end (far_end g w u i) in
      subst
      (λ k. LinkFits (NamesOf g w) (record { port = i; key = (port_at g u i).key; mark = k; is = goes; seen = w.seen u i }) (far_end g w u i))
      (sym (same i ne')) (record {
        tree = tree_aside e f (Some b) (not_the_way root.up i ne) (way_not i ne') h.tree;
        search = search_turns e f (Some b) e.tree f.tree h.search;
        tests = h.tests;
      })

  link_aside' : (i : ℕ) → At g u i → i ≢ j → i ≢ b → LinkFits (NamesOf g w) (far_end g w u i) (still i)
  link_aside' i at' ne ne' =
      let h = link_at' i at' in
      let e = tree_end (end g w u i) in
      let f = tree_end (far_end g w u i) in
      subst
      (λ k. LinkFits (NamesOf g w) (far_end g w u i) (record { port = i; key = (port_at g u i).key; mark = k; is = goes; seen = w.seen u i }))
      (sym (same i ne')) (record {
        tree = tree_aside' e f (Some b) (not_the_way root.up i ne) (way_not i ne') h.tree;
        search = search_turns' e f (Some b) e.tree f.tree h.search;
        tests = h.tests;
      })

  -- the old root link
  open joined_clauses g w holds u j at root.joins use {inside as one_fragment}

  found' : (w.at (far g u j)).head.phase ≡ Found
  found' = let z = wired.there u j at in root.quiet.found (far g u j) (record { some = z.some; node = z.node }) (sym one_fragment)

  lag' : (w.at (far g u j)).head.level ≤ (w.at u).head.level
  lag' = let a = root.top in let c = root.top' in omega (arith, a, c)

  link_left : LinkFits (NamesOf g w) here (far_end g w u j)
  link_left =
      let h = link_at j at in
      let e = tree_end (end g w u j) in
      let f = tree_end (far_end g w u j) in
      subst
      (λ k. LinkFits (NamesOf g w) (record { port = j; key = (port_at g u j).key; mark = k; is = goes; seen = rest }) (far_end g w u j))
      (sym (same j away)) (record {
        tree =
            tree_leaves e f (Some b) ms root.rest (way_not j away) root.joins root.up_beyond root.in_branch root.top lag' found' root.left h.tree;
        search = search_turns e f (Some b) ms f.tree h.search;
        tests = h.tests;
      })

  link_left' : LinkFits (NamesOf g w) (far_end g w u j) here
  link_left' =
      let h = link_at' j at in
      let e = tree_end (end g w u j) in
      let f = tree_end (far_end g w u j) in
      subst
      (λ k. LinkFits (NamesOf g w) (far_end g w u j) (record { port = j; key = (port_at g u j).key; mark = k; is = goes; seen = rest }))
      (sym (same j away)) (record {
        tree =
            tree_leaves' e f (Some b) ms root.rest (way_not j away) root.joins root.up_beyond root.in_branch root.top lag' found' root.left h.tree;
        search = search_turns' e f (Some b) ms f.tree h.search;
        tests = h.tests;
      })

  -- all links but b's
  pub near_aside : (i : ℕ) → At g u i → i ≢ b →
      LinkFits (NamesOf g w) (near' g wired u u_is goes (put (w.seen u) j rest) ((b, m) ∷ []) w i)
      (far' g wired u u_is goes (put (w.seen u) j rest) ((b, m) ∷ []) w i)
  unfolding own ss
  near_aside i at' ne =
      ⊎_elim left
      (λ ne'. subst₂ (LinkFits (NamesOf g w)) (sym (near_still i ne')) (sym (far_onto i ne)) (link_aside i at' ne' ne))
      (cases_eq i j)
    where
      left : i ≡ j → LinkFits (NamesOf g w) (near_now i) (far_now i)
      left e =
          subst (λ y. LinkFits (NamesOf g w) (near_now y) (far_now y)) (sym e)
          (subst₂ (LinkFits (NamesOf g w)) (sym near_here) (sym (far_onto j away)) link_left)

  pub far_aside : (i : ℕ) →
      At g u i →
      i ≢ b →
      LinkFits (NamesOf g w) (far' g wired u u_is goes (put (w.seen u) j rest) ((b, m) ∷ []) w i)
      (near' g wired u u_is goes (put (w.seen u) j rest) ((b, m) ∷ []) w i)
  unfolding own ss
  far_aside i at' ne =
      ⊎_elim left
      (λ ne'. subst₂ (LinkFits (NamesOf g w)) (sym (far_onto i ne)) (sym (near_still i ne')) (link_aside' i at' ne' ne))
      (cases_eq i j)
    where
      left : i ≡ j → LinkFits (NamesOf g w) (far_now i) (near_now i)
      left e =
          subst (λ y. LinkFits (NamesOf g w) (far_now y) (near_now y)) (sym e)
          (subst₂ (LinkFits (NamesOf g w)) (sym (far_onto j away)) (sym near_here) link_left')

  -- nobody owes u a Report
  owed_none : (i : ℕ) → At g u i → i ≢ j → owes (end g w u i) (far_end g w u i) ≡ false
  owed_none i at' ne = not_true _ (λ o. let z = owed_finds g wired u u_is i at' w holds (not_the_way root.up i ne) o in cc (z, found))

  -- u's own sum
  debts_none : (i : ℕ) → At g u i → ◌≡◌ {A = ℕ} (debt (near_now i) (far_now i)) 0
  debts_none =
      by_ports (λ e f. ◌≡◌ {A = ℕ} (debt e f) 0)
      (debt_none here (far_end g w u j) (ap has_report root.rest) (root.quiet.uncalled _ _ (wired.there u j at) (sym one_fragment))
      (ap is_find found'))
      (debt_up (still b) there refl)
      (λ i at' ne ne'. debt_unowed (still i) (far_end g w u i) (owed_none i at' ne))

  no_count : ◌≡◌ {A = ℕ} (w.at u).head.find_count 0
  no_count = (fits.idle (λ e. cc (e, found))).1

  -- find_count
  pub counts : debt there (still b) ≡ debt (far_end g w u b) (end g w u b) → DebtsCounted g rerouted
  unfolding own ss
  counts sent =
      sums_after g wired u u_is goes own ss w holds.counted
      (no_count ∙ sym (sum_zero (length (g.ports u)) _ (λ i lt. debts_none i (record { some = u_is.some; node = u_is.node; port = lt }))))
      theirs
    where
      theirs : (i : ℕ) → At g u i → debt (far_now i) (near_now i) ≡ debt (far_end g w u i) (end g w u i)
      theirs i at' = ⊎_elim left (λ ne. ⊎_elim taken (λ ne'. ap₂ debt (far_onto i ne') (near_still i ne)) (cases_eq i b)) (cases_eq i j)
        where
          left : i ≡ j → debt (far_now i) (near_now i) ≡ debt (far_end g w u i) (end g w u i)
          left e =
              subst (λ y. debt (far_now y) (near_now y) ≡ debt (far_end g w u y) (end g w u y)) (sym e)
              (ap₂ debt (far_onto j away) near_here ∙ debt_up (far_end g w u j) here root.up_beyond ∙
              sym (debt_up (far_end g w u j) (end g w u j) root.up_beyond))

          taken : i ≡ b → debt (far_now i) (near_now i) ≡ debt (far_end g w u i) (end g w u i)
          taken e =
              subst
              (λ y. debt (far_now y) (near_now y) ≡ debt (far_end g w u y) (end g w u y))
              (sym e) (ap₂ debt far_there (near_still b apart) ∙ sent)

  -- quiet fragments stay quiet
  pub quiet_still : (a : ℕ) → Quiet g w a → Quiet g rerouted a
  unfolding own ss
  quiet_still a z =
      quiet_after g wired u u_is goes own ss w a z (λ e. found)
      (by_ports (λ e f. e.is.fragment ≡ a → has_call e.seen.tree ≡ false) (λ e. ap has_call root.rest) (λ e. z.uncalled u b atb e)
      (λ i at' ne ne' e. z.uncalled u i at' e))
      (by_ports' (λ e f. e.is.fragment ≡ a → has_call e.seen.tree ≡ false) (λ e. z.uncalled _ _ (wired.there u j at) e)
      (λ e. no_call (seen_beyond g w u b) (z.uncalled _ _ (wired.there u b atb) e))
      (λ i at' ne ne' e. z.uncalled _ _ (wired.there u i at') e))

  -- what the nodes keep
  frags : (v : ℕ) → (rerouted.at v).fragment ≡ (w.at v).fragment
  frags = put_alike (λ (m : Member). m.fragment) w.at u goes refl

  unmoved : (v : ℕ) → v ≢ u → rerouted.at v ≡ w.at v
  unmoved v ne = put_other w.at u v goes ne

  marked : (v p : ℕ) → (w.at v).mark p ≡ Branch → (rerouted.at v).mark p ≡ Branch
  marked v p e = ⊎_elim here' (λ ne. ap (λ (m : Member). m.mark p) (unmoved v ne) ∙ e) (cases_eq v u)
    where
      mine : (w.at u).mark p ≡ Branch → μ p ≡ Branch
      mine h = ⊎_elim (λ (z : p ≡ b). ap μ z ∙ to) (λ ne. same p ne ∙ h) (cases_eq p b)

      here' : v ≡ u → (rerouted.at v).mark p ≡ Branch
      here' h =
          subst (λ y. (rerouted.at y).mark p ≡ Branch) (sym h)
          (ap (λ (m : Member). m.mark p) (put_same w.at u goes) ∙ mine (subst (λ y. (w.at y).mark p ≡ Branch) h e))

  abbrev pub branches : ℕ → ℕ → Bool
  branches v p = is_branch ((put w.at u (record (w.at u) { up = Some b; mark = μ }) v).mark p)

  pub forest_now : forest rerouted ≡ turning (forest w) u b branches
  forest_now = λ i. record {
    branch = branches;
    fragment = fun_ext frags i;
    coming = fun_ext (put_alike (λ (m : Member). m.coming) w.at u goes refl) i;
    coming_name = fun_ext (put_alike (λ (m : Member). m.coming_name) w.at u goes refl) i;
    up = fun_ext (put_field (λ (m : Member). m.up) w.at u goes) i;
  }

  other_node : (v : ℕ) → (w.at v).fragment ≢ (w.at u).fragment → v ≢ u
  other_node v ne e = ne (ap (λ y. (w.at y).fragment) e)

  module _ (turns : Turns g (forest w) u b branches) where
    out_was : (v p : ℕ) →
        At g v p →
        (w.at v).fragment ≢ (w.at u).fragment →
        Out (tree_end (end g rerouted v p)) (tree_end (end g rerouted (far g v p) (far_port g v p))) →
        Out (tree_end (end g w v p)) (tree_end (end g w (far g v p) (far_port g v p)))
    out_was v p at' ne o = record {
      here = ap (λ (m : Member). m.mark p) (sym (unmoved v (other_node v ne))) ∙ o.here;
      there = λ e. o.there (marked (far g v p) (far_port g v p) e);
    }

    moved_was : (v p : ℕ) →
        At g v p →
        (w.at v).fragment ≢ (w.at u).fragment →
        Moved (tree_end (end g rerouted v p)) (tree_end (end g rerouted (far g v p) (far_port g v p))) →
        Moved (tree_end (end g w v p)) (tree_end (end g w (far g v p) (far_port g v p)))
    moved_was v p at' ne z =
        let l = turns.only v p at' (record { here = ap is_branch z.both.joins.here; there = ap is_branch z.both.joins.there }) in
        let ne' = other_node (far g v p) (λ e. ne (holds.trees.joined_within v p at' l ∙ e)) in
        record {
          both = record {
            joins = record { here = branch_mark _ l.here; there = branch_mark _ l.there };
            up = ap (λ (m : Member). m.up) (sym (unmoved v (other_node v ne))) ∙ z.both.up;
            up_beyond = ap (λ (m : Member). m.up) (sym (unmoved (far g v p) ne')) ∙ z.both.up_beyond;
          };
          unnamed = λ e. z.unnamed (ap (λ (m : Member). m.coming_name) (unmoved v (other_node v ne)) ∙ e);
        }

    rests : Resting g rerouted
    rests = record {
      out = λ v p at' o.
          subst (Quiet g rerouted) (sym (frags v)) (quiet_still (w.at v).fragment
          (⊎_elim (λ e. subst (Quiet g w) (sym e) root.quiet) (λ ne. holds.resting.out v p at' (out_was v p at' ne o))
          (cases_eq (w.at v).fragment (w.at u).fragment)));
      moved = λ v p at' z.
          subst (Quiet g rerouted) (sym (frags v)) (quiet_still (w.at v).fragment
          (⊎_elim (λ e. subst (Quiet g w) (sym e) root.quiet) (λ ne. holds.resting.moved v p at' (moved_was v p at' ne z))
          (cases_eq (w.at v).fragment (w.at u).fragment)));
    }

    slept : (v : ℕ) → (rerouted.at v).head.phase ≡ Sleeping → (w.at v).head.phase ≡ Sleeping
    slept v e = sym (put_alike (λ (m : Member). m.head.phase) w.at u goes refl v) ∙ e

    names_now : (a : ℕ) → (k : Key) → NamesOf g w a k → NamesOf g rerouted a k
    names_now a k n = subst (λ s. Names g s a k) (sym forest_now) (names_turn g wired (forest w) u b branches turns holds.trees a k n)

    -- all together
    pub reroutes :
        LinkFits (NamesOf g w) (still b) there →
        LinkFits (NamesOf g w) there (still b) →
        debt there (still b) ≡ debt (far_end g w u b) (end g w u b) →
        Invariant g rerouted
    unfolding own ss
    reroutes sent sent' owing = record {
      nodes = node_after g wired u u_is goes own ss w NodeFits holds.nodes node;
      trees = subst (ForestFits g) (sym forest_now) (forest_turn g wired (forest w) u b branches turns holds.trees);
      links = λ v p at'.
          link_names (NamesOf g w) (NamesOf g rerouted) names_now (end g rerouted v p) (end g rerouted (far g v p) (far_port g v p))
          (acts_keeps g wired u u_is.some u_is.node goes own ss w (LinkFits (NamesOf g w)) holds.links
          (by_ports (LinkFits (NamesOf g w)) link_left sent link_aside) (by_ports' (LinkFits (NamesOf g w)) link_left' sent' link_aside') v p at');
      alone = λ v t iv it asleep alike. holds.alone v t iv it (slept v asleep) (sym (frags t) ∙ alike ∙ frags v);
      named = λ v k iv e.
          subst (λ a. NamesOf g rerouted a k) (sym (frags v))
          (names_now _ k (holds.named v k iv (sym (put_alike (λ (m : Member). m.head.name) w.at u goes refl v) ∙ e)));
      resting = rests;
      counted = counts owing;
    }
