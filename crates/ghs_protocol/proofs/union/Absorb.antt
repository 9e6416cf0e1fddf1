-- A Connect of a lower level is absorbed: the invariant is kept.
use Rattle.std.proofs.Common.{◌≡◌, ◌≢◌, ℕ, ◌^◌, ◌<◌, ◌==◌, ◌||◌, Bool, true, false, Option, Some, None, List, [], ◌∷◌, ◌++◌, refl, sym, ◌∙◌, ap, ap₂, subst, subst₂, ⊎_elim, ◌⊎◌, inl, inr, length, arith, eqb-true, eq-eqb, ne_eqb, cond}
use Rattle.std.proofs.Math.Path.{fun_ext}
use Rattle.std.proofs.lemmas.Bool.{cases_eq}
use Rattle.std.proofs.lemmas.Option.{same_Some}
use Rattle.ghs_graph.specs.declared.key.Key.{Key}
use Rattle.ghs_node.specs.Words.{is_branch, is_find, Outgoing}
use Rattle.ghs_node.specs.declared.mark.Mark.TheVariants.{Branch}
use Rattle.ghs_node.specs.declared.message.Phase.TheVariants.{Sleeping, Find, Found}
use Rattle.ghs_node.specs.declared.message.Message.{Message}
use Rattle.ghs_node.specs.declared.message.Message.TheVariants.{Connect, Initiate}
use Rattle.peer_network.specs.Network.{Network, port_at, At, far, far_port, InNetwork}
use Rattle.peer_network.specs.Updates.{put}
use Rattle.ghs_protocol.specs.Interleavings.{HaveAtLeast}
use Rattle.ghs_protocol.proofs.clauses.Scene.{Seen, adds, Member, Scene, End, end, tree_end, test_end, forest, acts, far_end}
use Rattle.ghs_protocol.proofs.clauses.Changes.{left_tree, seen_beyond, took_child}
use Rattle.ghs_protocol.proofs.clauses.Nodes.{NodeFits}
use Rattle.ghs_protocol.proofs.clauses.Fragments.{IsJoinedIn, Names, Root, Goes_out, Both_ways, OneRoot, Reach, At_root, By_step, RootsReached, JoinedLinksLead}
use Rattle.ghs_protocol.proofs.clauses.Rest.{Quiet, Resting, DebtsCounted, debt, has_call, has_report}
use Rattle.ghs_protocol.proofs.clauses.Whole.{Invariant, NamesOf, LinkFits}
use Rattle.ghs_protocol.proofs.clauses.Wiring.{Ground}
use Rattle.ghs_protocol.proofs.clauses.Uniting.{absorb, joining}
use Rattle.peer_network.proofs.lemmas.Updates.{put_same, put_other, put_alike}
use Rattle.ghs_protocol.proofs.acts.Ends.{here_seen, far_seen, other_seen}
use Rattle.ghs_protocol.proofs.acts.SameForest.{near', far', branch_mark, not_branch}
use Rattle.ghs_protocol.proofs.acts.OneLink.{sends_one, at_near, at_far, sums_one, there}
use Rattle.ghs_protocol.proofs.search.ReportGone.{debt_one, debt_up, debt_none}
use Rattle.ghs_protocol.proofs.acts.Situations.{one_fragment}
use Rattle.ghs_protocol.proofs.acts.Many.{many_as}
use Rattle.ghs_protocol.proofs.union.OneFragment.{Off, Joinable, unites, raised, rise, rise_in, rise_out, rise_keeps, risen, root_from, names_here}
use Rattle.ghs_protocol.proofs.union.NewBranch.{Branches, mark_else, joined_was, bridged, names_grow, by_fragment_grown, names_within_grown, sizes_grown, within_grown, connected_grown, alone_grown, named_grown, nodes_grown, links_grown, grown_as}
use Rattle.ghs_protocol.proofs.rest.AtRest.{by_call}
use Rattle.ghs_protocol.proofs.union.ConnectIn.{Came, came_in, tree_takes, tree_takes', search_takes, search_takes', tests_take, tests_take', count_more, more_none, call_only}
use Rattle.ghs_protocol.proofs.rows.Link.{link_clauses, joined_clauses}

-- a link is that at port j of u, from this end or the other, or another one
pub data Where (g : Network) (u j t p : ℕ) : Type 0 where
  On_it : t ≡ u → p ≡ j → Where g u j t p
  Across : far g t p ≡ u → far_port g t p ≡ j → Where g u j t p
  Off_it : Off g u j t p → Where g u j t p

pub where_is : (g : Network) (u j t p : ℕ) → Where g u j t p
where_is g u j t p = ⊎_elim (λ e. ⊎_elim (λ h. On_it e h) (λ ne. across (λ z. ne z.1)) (cases_eq p j)) (λ ne. across (λ z. ne z.0)) (cases_eq t u)
  where
    across : ((t ≡ u) × (p ≡ j) → ⊥) → Where g u j t p
    across off =
        ⊎_elim (λ e. ⊎_elim (λ h. Across e h) (λ ne. Off_it (record { here = off; there = λ z. ne z.1 })) (cases_eq (far_port g t p) j))
        (λ ne. Off_it (record { here = off; there = λ z. ne z.0 })) (cases_eq (far g t p) u)

-- lifting one fragment is joining it to another, whose nodes have their level and name
same_member : (c a l : ℕ) (n : Option Key) (m : Member) →
    (m.fragment ≡ a → (m.coming ≡ l) × (m.coming_name ≡ n)) →
    rise (λ x. x == c) a l n m ≡ joining c a l n m
same_member c a l n m there = go (m.fragment == c) (m.fragment == a) refl
  where
    go : (x y : Bool) → (m.fragment == a) ≡ y → cond x (raised a l n m) m ≡ cond (x || y) (raised a l n m) m
    go true y e = refl
    go false false e = refl
    go false true e =
        let z = there (eqb-true m.fragment a e) in λ i. record m { fragment = eqb-true m.fragment a e i; coming = z.0 i; coming_name = z.1 i }

some_key : (o : Option Key) → o ≢ None → (k : Key) × (o ≡ Some k)
some_key None ne = absurd (ne refl)
some_key (Some k) ne = (k, refl)

module _ (g : Network) (ground : Ground g) (u : ℕ) (u_is : InNetwork g u) (w : Scene) (holds : Invariant g w) (j : ℕ) (at : At g u j)
    (ms : List Message) (l : ℕ)
    (k : Key) (waits : (w.seen u j).tree ≡ Connect l ∷ ms) (lower : l < (w.at u).head.level) (name : (w.at u).head.name ≡ Some k)
    (awake : (w.at u).head.phase ≢ Sleeping) where
  is : InNetwork g u
  is = u_is

  at' : At g (far g u j) (far_port g u j)
  at' = ground.wired.there u j at

  is' : InNetwork g (far g u j)
  is' = record { some = at'.some; node = at'.node }

  open link_clauses g ground.wired w holds u j at use {fits, link, link', ways}

  pub came : Came (tree_end (end g w u j)) (tree_end (far_end g w u j)) l ms
  came =
      came_in (tree_end (end g w u j)) (tree_end (far_end g w u j)) link.tree link'.tree ways
      (λ h. (joined_clauses g w holds u j at h).ghosts.0) l ms waits lower

  pub below : (w.at (far g u j)).head.level < (w.at u).head.level
  below = let z = came.level in omega (arith, z, lower)

  coming_low : (w.at (far g u j)).coming < (w.at u).coming
  coming_low = let a = came.under.level in let b = fits.lag.level in let c = below in omega (arith, a, b, c)

  -- the way to u's root is another port
  pub way_not : (w.at u).up ≢ Some j
  way_not e =
      let z = fits.points awake (omega (arith, at.port)) in
      came.mark (subst (λ y. (w.at u).mark y ≡ Branch) (same_Some z.port j (sym z.up ∙ e)) z.mark)

  back_mark : (w.at (far g (far g u j) (far_port g u j))).mark (far_port g (far g u j) (far_port g u j)) ≢ Branch
  back_mark e = came.mark (subst₂ (λ p q. (w.at p).mark q ≡ Branch) (ground.wired.back u j at) (ground.wired.back_port u j at) e)

  root_far : Root g (forest w) (far g u j) (far_port g u j)
  root_far = Goes_out (ap is_branch came.mark') (not_branch _ back_mark)

  quiet_far : Quiet g w (w.at (far g u j)).fragment
  quiet_far = holds.resting.out (far g u j) (far_port g u j) at' (record { here = came.mark'; there = back_mark })

  abbrev pub takes : Member
  takes = took_child (w.at u) j

  abbrev pub rest : Seen
  rest = record (w.seen u j) { tree = ms }

  abbrev pub sends : Outgoing
  sends = (j, Initiate (w.at u).head.level k (w.at u).head.phase) ∷ []

  abbrev pub grown : Scene
  grown =
      acts g u (took_child (w.at u) j)
      (left_tree w u j ms) ((j, Initiate (w.at u).head.level k (w.at u).head.phase) ∷ []) w

  more : Branches (w.at u) takes j
  more = record {
    fragment = refl;
    coming = refl;
    coming_name = refl;
    mark = put_same (w.at u).mark j Branch;
    marks = λ p ne. put_other (w.at u).mark j p Branch ne;
  }

  node : NodeFits (length (g.ports u)) takes
  node = record {
    own_ports = record {
      probe = fits.own_ports.probe;
      in_branch = fits.own_ports.in_branch;
      mark = λ p ne. ⊎_elim (λ (e : p ≡ j). subst (λ y. y < length (g.ports u)) (sym e) at.port)
          (λ no. fits.own_ports.mark p (λ z. ne (put_other (w.at u).mark j p Branch no ∙ z)))
          (cases_eq p j);
    };
    untouched = λ e. absurd (awake e);
    points = λ e lt.
        let z = fits.points e lt in
        record {
          port = z.port;
          up = z.up;
          within = z.within;
          mark =
              ⊎_elim
              (λ (h : z.port ≡ j). ap (put (w.at u).mark j Branch) h ∙ put_same (w.at u).mark j Branch)
              (λ ne. put_other (w.at u).mark j z.port Branch ne ∙ z.mark)
              (cases_eq z.port j);
        };
    idle = λ ne. let z = fits.idle ne in (z.0, more_none (w.at u).head.phase (w.at u).head.find_count ne ∙ z.1);
    searching = λ e. let z = fits.searching e in record { level = z.level; port = z.port; in_branch = z.in_branch; up = z.up };
    naming = record { level = fits.naming.level; in_branch = fits.naming.in_branch; name = fits.naming.name };
    lag = record { level = fits.lag.level; name = fits.lag.name };
    best_port = fits.best_port;
  }

  -- the links but this one
  near_is : (i : ℕ) →
      i ≢ j →
      near' g ground.wired u u_is takes (put (w.seen u) j rest) sends w i ≡
      record { port = i; key = (port_at g u i).key; mark = (w.at u).mark i; is = takes; seen = w.seen u i }
  near_is i ne = λ z. record {
    port = i;
    key = (port_at g u i).key;
    mark = put_other (w.at u).mark j i Branch ne z;
    is = takes;
    seen = put_other (w.seen u) j i rest ne z;
  }

  far_is : (i : ℕ) → i ≢ j → far' g ground.wired u u_is takes (put (w.seen u) j rest) sends w i ≡ far_end g w u i
  far_is i ne = λ z. record (far_end g w u i) {
    seen = adds (seen_beyond g w u i) ((sends_one j (Initiate (w.at u).head.level k (w.at u).head.phase)).none i ne z);
  }

  near : (i : ℕ) →
      At g u i →
      i ≢ j →
      LinkFits (NamesOf g w) (near' g ground.wired u u_is takes (put (w.seen u) j rest) sends w i)
      (far' g ground.wired u u_is takes (put (w.seen u) j rest) sends w i)
  near i a ne =
      let h = at_near g ground.wired w (LinkFits (NamesOf g w)) holds.links u i a in
      subst₂ (LinkFits (NamesOf g w)) (sym (near_is i ne)) (sym (far_is i ne)) (record { tree = h.tree; search = h.search; tests = h.tests })

  away : (i : ℕ) →
      At g u i →
      i ≢ j →
      LinkFits (NamesOf g w) (far' g ground.wired u u_is takes (put (w.seen u) j rest) sends w i)
      (near' g ground.wired u u_is takes (put (w.seen u) j rest) sends w i)
  away i a ne =
      let h = at_far g ground.wired w (LinkFits (NamesOf g w)) holds.links u i a in
      subst₂ (LinkFits (NamesOf g w)) (sym (far_is i ne)) (sym (near_is i ne)) (record { tree = h.tree; search = h.search; tests = h.tests })

  -- find_count
  abbrev here_now : End
  here_now = record { port = j; key = (port_at g u j).key; mark = put (w.at u).mark j Branch j; is = takes; seen = rest }

  abbrev there_now : End
  there_now = record (far_end g w u j) {
    seen = record (seen_beyond g w u j) { tree = (seen_beyond g w u j).tree ++ Initiate (w.at u).head.level k (w.at u).head.phase ∷ [] };
  }

  no_debt : ◌≡◌ {A = ℕ} (debt (end g w u j) (far_end g w u j)) 0
  no_debt =
      debt_none (end g w u j) (far_end g w u j) (ap has_report waits ∙ ap has_report came.rest) (ap has_call came.under.none)
      (ap is_find (quiet_far.found (far g u j) is' refl))

  a_debt : (w.at u).head.phase ≡ Find → ◌≡◌ {A = ℕ} (debt here_now there_now) 1
  a_debt e =
      debt_one here_now there_now way_not (by_call (has_report ms) _ _
      (subst₂ (λ t s. has_call (t ++ Initiate (w.at u).head.level k s ∷ []) ≡ true) (sym came.under.none) (sym e) refl))

  still_none : (w.at u).head.phase ≢ Find → ◌≡◌ {A = ℕ} (debt here_now there_now) 0
  still_none ne =
      debt_none here_now there_now (ap has_report came.rest)
      (subst
      (λ t. has_call (t ++ Initiate (w.at u).head.level k (w.at u).head.phase ∷ []) ≡ false)
      (sym came.under.none) (call_only (w.at u).head.level k (w.at u).head.phase ne))
      (ap is_find (quiet_far.found (far g u j) is' refl))

  counted : DebtsCounted g grown
  counted =
      sums_one g ground.wired u u_is takes j at rest (Initiate (w.at u).head.level k (w.at u).head.phase ∷ []) sends
      (sends_one j (Initiate (w.at u).head.level k (w.at u).head.phase)) w
      holds.counted
      (count_more (w.at u).head.phase (w.at u).head.find_count (debt (end g w u j) (far_end g w u j)) (debt here_now there_now) awake no_debt
      a_debt still_none)
      (λ i ne. refl)
      (debt_up there_now here_now came.under.up ∙ sym (debt_up (far_end g w u j) (end g w u j) came.under.up)) (λ i ne. refl)

  -- members, ways and queues
  open grown_as g ground.wired u u_is j at w holds takes (put (w.seen u) j rest) sends more use {
    fragment as fragment_is,
    coming as coming_is,
    name as name_is,
    joined as joined_new,
  }

  up_is : (t : ℕ) → (grown.at t).up ≡ (w.at t).up
  up_is t = put_alike (λ (m : Member). m.up) w.at u takes refl t

  phase_is : (t : ℕ) → (grown.at t).head.phase ≡ (w.at t).head.phase
  phase_is t = put_alike (λ (m : Member). m.head.phase) w.at u takes refl t

  mark_off : (t p : ℕ) → ((t ≡ u) × (p ≡ j) → ⊥) → (grown.at t).mark p ≡ (w.at t).mark p
  mark_off t p off = mark_else g ground.wired u u_is j at w holds takes (put (w.seen u) j rest) sends more t p off

  joined_old : (t p : ℕ) → Off g u j t p → IsJoinedIn g (forest grown) t p → IsJoinedIn g (forest w) t p
  joined_old t p off l' = joined_was g ground.wired u u_is j at w holds takes (put (w.seen u) j rest) sends more t p off l'

  bridge : IsJoinedIn g (forest grown) u j
  bridge = bridged g ground.wired u u_is j at w holds takes (put (w.seen u) j rest) sends more came.mark'

  -- the far end of this link, from the other side
  across : (t p : ℕ) → At g t p → far g t p ≡ u → far_port g t p ≡ j → (far g u j ≡ t) × (far_port g u j ≡ p)
  across t p a e h = (ap₂ (far g) (sym e) (sym h) ∙ ground.wired.back t p a, ap₂ (far_port g) (sym e) (sym h) ∙ ground.wired.back_port t p a)

  joined_lead : JoinedLinksLead g (forest grown)
  joined_lead t p a l' = go (where_is g u j t p)
    where
      go : Where g u j t p → ((grown.at t).up ≡ Some p) ⊎ ((grown.at (far g t p)).up ≡ Some (far_port g t p))
      go (On_it e h) = inr (subst₂ (λ x y. (grown.at (far g x y)).up ≡ Some (far_port g x y)) (sym e) (sym h) (up_is (far g u j) ∙ came.under.up))
      go (Across e h) = let z = across t p a e h in inl (subst₂ (λ x y. (grown.at x).up ≡ Some y) z.0 z.1 (up_is (far g u j) ∙ came.under.up))
      go (Off_it off) = ⊎_elim (λ x. inl (up_is t ∙ x)) (λ x. inr (up_is _ ∙ x)) (holds.trees.joined_lead t p a (joined_old t p off l'))

  -- a Connect elsewhere is one still
  out_still : (t p : ℕ) →
      At g t p →
      ((far g t p ≡ u) × (far_port g t p ≡ j) → ⊥) →
      is_branch ((w.at t).mark p) ≡ true →
      is_branch ((w.at (far g t p)).mark (far_port g t p)) ≡ false →
      Root g (forest grown) t p
  out_still t p a off x y =
      Goes_out (ap is_branch
      (mark_off t p (λ z. let c = came.mark in let q = branch_mark _ x in c (subst₂ (λ s r. (w.at s).mark r ≡ Branch) z.0 z.1 q))) ∙ x)
      (ap is_branch (mark_off _ _ off) ∙ y)

  both_still : (t p : ℕ) →
      IsJoinedIn g (forest w) t p →
      (w.at t).up ≡ Some p →
      (w.at (far g t p)).up ≡ Some (far_port g t p) →
      Root g (forest grown) t p
  both_still t p l' x y = Both_ways (joined_new t p l') (up_is t ∙ x) (up_is _ ∙ y)

  -- the far end's Connect is no root of another fragment
  not_ours : (t p : ℕ) → At g t p → (w.at t).fragment ≢ (w.at (far g u j)).fragment → (far g t p ≡ u) × (far_port g t p ≡ j) → ⊥
  not_ours t p a ne z = ne (ap (λ y. (w.at y).fragment) (sym (across t p a z.0 z.1).0))

  carried_else : {t : ℕ} → Reach g (forest w) t → (w.at t).fragment ≢ (w.at (far g u j)).fragment → Reach g (forest grown) t
  carried_else {t} (At_root p a way (Goes_out x y)) ne = At_root p a (up_is t ∙ way) (out_still t p a (not_ours t p a ne) x y)
  carried_else {t} (At_root p a way (Both_ways l' x y)) ne = At_root p a (up_is t ∙ way) (both_still t p l' x y)
  carried_else {t} (By_step p a way l' r) ne =
      By_step p a (up_is t ∙ way) (joined_new t p l') (carried_else r (λ e. ne (holds.trees.joined_within t p a l' ∙ e)))

  reach_u : Reach g (forest grown) u
  reach_u = let z = fits.points awake (omega (arith, at.port)) in carried_else (holds.trees.reached u z.port is z.up) came.under.apart

  carried : {t : ℕ} → Reach g (forest w) t → Reach g (forest grown) t
  carried {t} (At_root p a way (Goes_out x y)) = go (where_is g u j t p)
    where
      go : Where g u j t p → Reach g (forest grown) t
      go (On_it e h) = subst (Reach g (forest grown)) (sym e) reach_u
      go (Across e h) =
          let z = across t p a e h in
          By_step p a (up_is t ∙ way) (record {
            here = subst₂ (λ s r. (forest grown).branch s r ≡ true) z.0 z.1 bridge.there;
            there = subst₂ (λ s r. (forest grown).branch s r ≡ true) (sym e) (sym h) bridge.here;
          }) (subst (Reach g (forest grown)) (sym e) reach_u)
      go (Off_it off) = At_root p a (up_is t ∙ way) (out_still t p a off.there x y)
  carried {t} (At_root p a way (Both_ways l' x y)) = At_root p a (up_is t ∙ way) (both_still t p l' x y)
  carried {t} (By_step p a way l' r) = By_step p a (up_is t ∙ way) (joined_new t p l') (carried r)

  reached : RootsReached g (forest grown)
  reached t p it e = carried (holds.trees.reached t p it (sym (up_is t) ∙ e))

  -- what waits off this link
  seen_off : (t p : ℕ) → At g t p → Off g u j t p → grown.seen t p ≡ w.seen t p
  seen_off t p a off =
      ⊎_elim mine (λ ne. ⊎_elim theirs
      (λ ne'. other_seen g ground.wired u u_is.some u_is.node takes (put (w.seen u) j rest) sends w t p a ne ne')
      (cases_eq (far g t p) u))
      (cases_eq t u)
    where
      mine : t ≡ u → grown.seen t p ≡ w.seen t p
      mine e =
          subst (λ y. grown.seen y p ≡ w.seen y p) (sym e)
          (here_seen g ground.wired u u_is.some u_is.node takes (put (w.seen u) j rest) sends w p ∙
          put_other (w.seen u) j p rest (λ h. off.here (e, h)))

      theirs : far g t p ≡ u → grown.seen t p ≡ w.seen t p
      theirs e =
          let i = far_port g t p in
          let a' : At g u i = subst (λ y. At g y i) e (ground.wired.there t p a) in
          let z : far g u i ≡ t = ap (λ y. far g y i) (sym e) ∙ ground.wired.back t p a in
          let z' : far_port g u i ≡ p = ap (λ y. far_port g y i) (sym e) ∙ ground.wired.back_port t p a in
          subst₂ (λ x y. grown.seen x y ≡ w.seen x y) z z'
          (far_seen g ground.wired u u_is.some u_is.node takes (put (w.seen u) j rest) sends w i a' ∙
          ap (adds (seen_beyond g w u i)) ((sends_one j (Initiate (w.at u).head.level k (w.at u).head.phase)).none i (λ h. off.there (e, h))))

  seen_here : grown.seen u j ≡ rest
  seen_here = here_seen g ground.wired u u_is.some u_is.node takes (put (w.seen u) j rest) sends w j ∙ put_same (w.seen u) j rest

  seen_there : seen_beyond g grown u j ≡ there_now.seen
  seen_there =
      far_seen g ground.wired u u_is.some u_is.node takes (put (w.seen u) j rest) sends w j at ∙
      ap (adds (seen_beyond g w u j)) ((sends_one j (Initiate (w.at u).head.level k (w.at u).head.phase)).only)

  -- a root off this link is an old root of another fragment
  pub record Lies (t p : ℕ) : Type 0 where
    pub off : Off g u j t p
    pub root : Root g (forest w) t p
    pub other : (w.at t).fragment ≢ (w.at (far g u j)).fragment

  lies_off : (t p : ℕ) → At g t p → Off g u j t p → Root g (forest grown) t p → Lies t p
  lies_off t p a off r = record {
    off = off;
    root = old r;
    other = λ same. ⊎_elim (λ z.
        off.there
        (ap₂ (far g) (sym z.0) (sym z.1) ∙ ground.wired.back u j at, ap₂ (far_port g) (sym z.0) (sym z.1) ∙ ground.wired.back_port u j at))
        (λ z. off.here (sym z.0 ∙ ground.wired.back u j at, sym z.1 ∙ ground.wired.back_port u j at))
        (holds.trees.one_root (far g u j) (far_port g u j) t p at' a root_far (old r) (sym same));
  }
    where
      old : Root g (forest grown) t p → Root g (forest w) t p
      old (Goes_out x y) = Goes_out (sym (ap is_branch (mark_off t p off.here)) ∙ x) (sym (ap is_branch (mark_off _ _ off.there)) ∙ y)
      old (Both_ways l' x y) = Both_ways (joined_old t p off l') (sym (up_is t) ∙ x) (sym (up_is _) ∙ y)

  no_root_here : Root g (forest grown) u j → ⊥
  no_root_here (Goes_out x y) = let z = bridge.there in cc (y, z)
  no_root_here (Both_ways l' x y) = way_not (sym (up_is u) ∙ x)

  no_root_across : (t p : ℕ) → far g t p ≡ u → far_port g t p ≡ j → Root g (forest grown) t p → ⊥
  no_root_across t p e h (Goes_out x y) = let z = bridge.here in let q = subst₂ (λ s r. (forest grown).branch s r ≡ false) e h y in cc (z, q)
  no_root_across t p e h (Both_ways l' x y) = way_not (subst₂ (λ s r. (w.at s).up ≡ Some r) e h (sym (up_is _) ∙ y))

  lies : (t p : ℕ) → At g t p → Root g (forest grown) t p → Lies t p
  lies t p a r = go (where_is g u j t p)
    where
      go : Where g u j t p → Lies t p
      go (On_it e h) = absurd (no_root_here (subst₂ (Root g (forest grown)) e h r))
      go (Across e h) = absurd (no_root_across t p e h r)
      go (Off_it off) = lies_off t p a off r

  -- the far end's fragment is lifted
  abbrev pub lifts : ℕ → Bool
  lifts x = x == (grown.at (far g u j)).fragment

  in_far : (t : ℕ) → lifts (grown.at t).fragment ≡ true → (w.at t).fragment ≡ (w.at (far g u j)).fragment
  in_far t e = sym (fragment_is t) ∙ eqb-true _ _ e ∙ fragment_is _

  far_in : (t : ℕ) → (w.at t).fragment ≡ (w.at (far g u j)).fragment → lifts (grown.at t).fragment ≡ true
  far_in t e = eq-eqb _ _ (fragment_is t ∙ e ∙ sym (fragment_is _))

  not_in : (t : ℕ) → (w.at t).fragment ≢ (w.at (far g u j)).fragment → lifts (grown.at t).fragment ≡ false
  not_in t ne = ne_eqb _ _ (λ z. ne (sym (fragment_is t) ∙ z ∙ fragment_is _))

  named : (x : Key) × ((w.at u).coming_name ≡ Some x)
  named = some_key (w.at u).coming_name (λ e. let z = holds.trees.names_within.none u is e in let y = fits.lag.level in omega (arith, z, y, lower))

  -- the fragment's name
  name_in : (x : Key) → (w.at u).coming_name ≡ Some x → Names g (forest w) (w.at u).fragment x
  name_in x e = holds.trees.names_within.inside u x is e

  joinable : Joinable g grown u j lifts (grown.at u).coming (grown.at u).coming_name
  joinable = record {
    at = at;
    bridge = bridge;
    nodes = nodes_grown g ground.wired u u_is j at w holds takes (put (w.seen u) j rest) sends more node;
    links = links_grown g ground.wired u u_is j at w holds takes (put (w.seen u) j rest) sends more near away;
    by_fragment = by_fragment_grown g ground.wired u u_is j at w holds takes (put (w.seen u) j rest) sends more;
    names_within = names_within_grown g ground.wired u u_is j at w holds takes (put (w.seen u) j rest) sends more;
    sizes = sizes_grown g ground.wired u u_is j at w holds takes (put (w.seen u) j rest) sends more;
    within = within_grown g ground.wired u u_is j at w holds takes (put (w.seen u) j rest) sends more;
    connected = connected_grown g ground.wired u u_is j at w holds takes (put (w.seen u) j rest) sends more;
    joined_lead = joined_lead;
    reached = reached;
    alone = alone_grown g ground.wired u u_is j at w holds takes (put (w.seen u) j rest) sends more awake;
    named = named_grown g ground.wired u u_is j at w holds takes (put (w.seen u) j rest) sends more refl;
    counted = counted;
    awake = λ e. awake (sym (phase_is u) ∙ e);
    which = λ x e. inr (eqb-true x _ e);
    far_lifts = far_in (far g u j) refl;
    kept = λ e. (refl, refl);
    low = λ t it e.
        let a = coming_is t in
        let b = (holds.trees.by_fragment t (far g u j) (in_far t e)).0 in let c = coming_is u in let d = coming_low in omega (arith, a, b, c, d);
    found = λ t it e. phase_is t ∙ quiet_far.found t it (in_far t e);
    uncalled = λ t p a off e. ap (λ (q : Seen). has_call q.tree) (seen_off t p a off) ∙ quiet_far.uncalled t p a (in_far t e);
    unrooted = λ t p a off e r. (lies_off t p a off r).other (in_far t e);
    name = named.0;
    is_name = name_is u ∙ named.1;
    name_in =
        subst (λ x. Names g (forest grown) x named.0) (sym (fragment_is u))
        (names_grow g ground.wired u u_is j at w holds takes (put (w.seen u) j rest) sends more _ _ (name_in named.0 named.1));
    other = λ t p a off e l' same.
        came.under.apart
        (one_fragment g (forest w) (w.at u).fragment (w.at t).fragment (port_at g t p).key ground.keyed holds.trees.joined_within
        (name_in _ (sym (name_is u) ∙ same))
        (record { node = t; port = p; at = a; joined = joined_old t p off l'; fragment = refl; key = refl }) ∙ in_far t e);
  }

  abbrev pub joint : Scene
  joint = risen lifts (grown.at u).fragment (grown.at u).coming (grown.at u).coming_name grown

  lifted : (t : ℕ) →
      (w.at t).fragment ≡ (w.at (far g u j)).fragment →
      joint.at t ≡ raised (grown.at u).fragment (grown.at u).coming (grown.at u).coming_name (grown.at t)
  lifted t e = rise_in lifts (grown.at u).fragment (grown.at u).coming (grown.at u).coming_name (grown.at t) (far_in t e)

  unlifted : (t : ℕ) → (w.at t).fragment ≢ (w.at (far g u j)).fragment → joint.at t ≡ grown.at t
  unlifted t ne = rise_out lifts (grown.at u).fragment (grown.at u).coming (grown.at u).coming_name (grown.at t) (not_in t ne)

  joint_mark : (t p : ℕ) → (joint.at t).mark p ≡ (grown.at t).mark p
  joint_mark t p = rise_keeps (λ (m : Member). m.mark p) lifts (grown.at u).fragment (grown.at u).coming (grown.at u).coming_name (grown.at t) refl

  joint_phase : (t : ℕ) → (joint.at t).head.phase ≡ (w.at t).head.phase
  joint_phase t =
      rise_keeps (λ (m : Member). m.head.phase) lifts (grown.at u).fragment (grown.at u).coming (grown.at u).coming_name (grown.at t) refl ∙
      phase_is t

  joint_up : (t : ℕ) → (joint.at t).up ≡ (w.at t).up
  joint_up t = rise_keeps (λ (m : Member). m.up) lifts (grown.at u).fragment (grown.at u).coming (grown.at u).coming_name (grown.at t) refl ∙ up_is t

  fragment_far : (t : ℕ) → (w.at t).fragment ≡ (w.at (far g u j)).fragment → (joint.at t).fragment ≡ (w.at u).fragment
  fragment_far t e = ap (λ (m : Member). m.fragment) (lifted t e) ∙ fragment_is u

  fragment_else : (t : ℕ) → (w.at t).fragment ≢ (w.at (far g u j)).fragment → (joint.at t).fragment ≡ (w.at t).fragment
  fragment_else t ne = ap (λ (m : Member). m.fragment) (unlifted t ne) ∙ fragment_is t

  -- enough nodes
  many : HaveAtLeast (2 ^ (grown.at u).coming) (λ t. InNetwork g t × ((joint.at t).fragment ≡ (grown.at u).fragment))
  many =
      subst (λ x. HaveAtLeast (2 ^ x) (λ t. InNetwork g t × ((joint.at t).fragment ≡ (grown.at u).fragment))) (sym (coming_is u))
      (many_as _ (λ t z. (z.0, fragment_else t (λ e. came.under.apart (sym z.1 ∙ e)) ∙ z.1 ∙ sym (fragment_is u))) (holds.trees.sizes u is))

  -- roots
  lies_joint : (t p : ℕ) → At g t p → Root g (forest joint) t p → Lies t p
  lies_joint t p a r = lies t p a (root_from g ground.wired grown u j lifts (grown.at u).coming (grown.at u).coming_name joinable t p r)

  one_root : OneRoot g (forest joint)
  one_root t p s q a b r r' same =
      let x = lies_joint t p a r in
      let y = lies_joint s q b r' in
      holds.trees.one_root t p s q a b x.root y.root (sym (fragment_else t x.other) ∙ same ∙ fragment_else s y.other)

  -- fragments at rest stay so
  who : (s t : ℕ) → (w.at t).fragment ≢ (w.at (far g u j)).fragment → (joint.at s).fragment ≡ (joint.at t).fragment →
      ((w.at s).fragment ≡ (w.at t).fragment) ⊎ (((w.at s).fragment ≡ (w.at (far g u j)).fragment) × ((w.at u).fragment ≡ (w.at t).fragment))
  who s t ne e =
      ⊎_elim (λ h. inr (h, sym (fragment_far s h) ∙ e ∙ fragment_else t ne)) (λ h. inl (sym (fragment_else s h) ∙ e ∙ fragment_else t ne))
      (cases_eq (w.at s).fragment (w.at (far g u j)).fragment)

  quiet_joint : (t : ℕ) → (w.at t).fragment ≢ (w.at (far g u j)).fragment → Quiet g w (w.at t).fragment → Quiet g joint (joint.at t).fragment
  quiet_joint t ne q = record {
    found = λ s it e. joint_phase s ∙ ⊎_elim (λ h. q.found s it h) (λ h. quiet_far.found s it h.0) (who s t ne e);
    uncalled = λ s p a e. go s p a e (where_is g u j s p);
  }
    where
      go : (s p : ℕ) → At g s p → (joint.at s).fragment ≡ (joint.at t).fragment → Where g u j s p → has_call (grown.seen s p).tree ≡ false
      go s p a e (On_it x y) =
          subst₂ (λ c d. has_call (grown.seen c d).tree ≡ false) (sym x) (sym y)
          (ap (λ (z : Seen). has_call z.tree) seen_here ∙ ap has_call came.rest)
      go s p a e (Across x y) =
          let z = across s p a x y in
          let mine : (w.at u).fragment ≡ (w.at t).fragment =
          ⊎_elim (λ h. absurd (ne (sym h ∙ ap (λ c. (w.at c).fragment) (sym z.0)))) (λ h. h.1) (who s t ne e) in
          let calm : (w.at u).head.phase ≡ Found = q.found u is mine in
          subst₂ (λ c d. has_call (grown.seen c d).tree ≡ false) z.0 z.1
          (ap (λ (y : Seen). has_call y.tree) seen_there ∙
          subst
          (λ y. has_call (y ++ Initiate (w.at u).head.level k (w.at u).head.phase ∷ []) ≡ false)
          (sym came.under.none)
          (call_only (w.at u).head.level k (w.at u).head.phase (λ y. cc (y, calm))))
      go s p a e (Off_it off) =
          ap (λ (y : Seen). has_call y.tree) (seen_off s p a off) ∙
          ⊎_elim (λ h. q.uncalled s p a h) (λ h. quiet_far.uncalled s p a h.0) (who s t ne e)

  rests : Resting g joint
  rests = record {
    out = λ t p a o.
        let x = lies_joint t p a (Goes_out (ap is_branch o.here) (not_branch _ o.there)) in
        quiet_joint t x.other (holds.resting.out t p a (record {
          here = sym (joint_mark t p ∙ mark_off t p x.off.here) ∙ o.here;
          there = λ z. o.there (joint_mark _ _ ∙ mark_off _ _ x.off.there ∙ z);
        }));
    moved = λ t p a m.
        let x = lies_joint t p a
        (Both_ways (record { here = ap is_branch m.both.joins.here; there = ap is_branch m.both.joins.there }) m.both.up m.both.up_beyond) in
        quiet_joint t x.other (holds.resting.moved t p a (record {
          both = record {
            joins = record {
              here = sym (joint_mark t p ∙ mark_off t p x.off.here) ∙ m.both.joins.here;
              there = sym (joint_mark _ _ ∙ mark_off _ _ x.off.there) ∙ m.both.joins.there;
            };
            up = sym (joint_up t) ∙ m.both.up;
            up_beyond = sym (joint_up _) ∙ m.both.up_beyond;
          };
          unnamed = λ z. m.unnamed (ap (λ (y : Member). y.coming_name) (unlifted t x.other) ∙ name_is t ∙ z);
        }));
  }

  -- the link itself
  member_here : joint.at u ≡ takes
  member_here = unlifted u came.under.apart ∙ put_same w.at u takes

  member_there : joint.at (far g u j) ≡ raised (w.at u).fragment (w.at u).coming (w.at u).coming_name (w.at (far g u j))
  member_there =
      lifted (far g u j) refl ∙
      (λ i. raised (fragment_is u i) (coming_is u i) (name_is u i) (put_other w.at u (far g u j) takes (ground.wired.apart u j at) i))

  abbrev parent : End
  parent = record { port = j; key = (port_at g u j).key; mark = Branch; is = takes; seen = rest }

  abbrev child : End
  child = record {
    port = far_port g u j;
    key = (port_at g u j).key;
    mark = (w.at (far g u j)).mark (far_port g u j);
    is = raised (w.at u).fragment (w.at u).coming (w.at u).coming_name (w.at (far g u j));
    seen = there_now.seen;
  }

  end_here : end g joint u j ≡ parent
  end_here = λ i. record {
    port = j;
    key = (port_at g u j).key;
    mark = (ap (λ (m : Member). m.mark j) member_here ∙ put_same (w.at u).mark j Branch) i;
    is = member_here i;
    seen = seen_here i;
  }

  end_there : end g joint (far g u j) (far_port g u j) ≡ child
  end_there = λ i. record {
    port = far_port g u j;
    key = ground.wired.same_key u j at i;
    mark = (member_there i).mark (far_port g u j);
    is = member_there i;
    seen = seen_there i;
  }

  names : NamesOf g joint (w.at u).fragment k
  names =
      subst (λ x. NamesOf g joint x k) (fragment_is u)
      (names_here g ground.wired grown u j lifts (grown.at u).coming (grown.at u).coming_name joinable k
      (subst (λ x. Names g (forest grown) x k) (sym (fragment_is u))
      (names_grow g ground.wired u u_is j at w holds takes (put (w.seen u) j rest) sends more _ k (holds.named u k is name))))

  unnamed : (w.at u).coming_name ≢ Some (port_at g u j).key
  unnamed e =
      let n = name_in _ e in
      ⊎_elim
      (λ z. came.mark (branch_mark _ (subst₂ (λ s q. is_branch ((w.at s).mark q) ≡ true) z.0 z.1 n.joined.here)))
      (λ z. came.mark (branch_mark _ (subst₂ (λ s q. is_branch ((w.at s).mark q) ≡ true) z.0 z.1 n.joined.there)))
      (ground.keyed n.node n.port u j n.at at n.key)

  idle : (w.at (far g u j)).head.probe ≡ None
  idle = ((holds.nodes (far g u j) is').idle (λ e. let z = quiet_far.found (far g u j) is' refl in cc (e, z))).0

  at_search : (w.at u).head.phase ≡ Find → (w.at u).head.level ≡ (w.at u).coming
  at_search e = (fits.searching e).level

  named_top : (w.at u).head.level ≡ (w.at u).coming → (w.at u).coming_name ≡ Some k
  named_top e = sym (fits.lag.name e) ∙ name

  down : LinkFits (NamesOf g joint) parent child
  down = record {
    tree =
        tree_takes (NamesOf g joint) (tree_end (end g w u j)) (tree_end (far_end g w u j)) k ms came.rest came.mark came.mark' came.under below
        fits.lag.level way_not awake at_search names
        named_top unnamed refl;
    search =
        search_takes (NamesOf g joint) (tree_end (end g w u j)) (tree_end (far_end g w u j)) k ms came.rest came.mark came.mark' came.under
        below fits.lag.level way_not awake at_search names
        named_top unnamed refl link.search;
    tests = tests_take (test_end (end g w u j)) (test_end (far_end g w u j)) (λ z. came.under.apart (sym z)) below idle link.tests;
  }

  up : LinkFits (NamesOf g joint) child parent
  up = record {
    tree =
        tree_takes' (NamesOf g joint) (tree_end (end g w u j)) (tree_end (far_end g w u j)) k ms came.rest came.mark came.mark' came.under below
        fits.lag.level way_not awake at_search names
        named_top unnamed refl;
    search =
        search_takes' (NamesOf g joint) (tree_end (end g w u j)) (tree_end (far_end g w u j)) k ms came.rest came.mark came.mark' came.under
        below fits.lag.level way_not awake at_search names
        named_top unnamed refl;
    tests = tests_take' (test_end (end g w u j)) (test_end (far_end g w u j)) (λ z. came.under.apart (sym z)) below idle link'.tests;
  }

  -- u's own fragment has its level and name already
  is_absorbed : joint ≡ absorb g u j grown
  is_absorbed = λ i. record {
    at =
        fun_ext (λ t.
        same_member (grown.at (far g u j)).fragment (grown.at u).fragment (grown.at u).coming (grown.at u).coming_name (grown.at t)
        (joinable.by_fragment t u))
        i;
    seen = grown.seen;
  }

  pub absorbs : Invariant g (absorb g u j grown)
  absorbs =
      subst (Invariant g) is_absorbed
      (unites g ground.wired grown u j lifts (grown.at u).coming (grown.at u).coming_name joinable many one_root rests
      (subst₂ (LinkFits (NamesOf g joint)) (sym end_here) (sym end_there) down)
      (subst₂ (LinkFits (NamesOf g joint)) (sym end_there) (sym end_here) up))

-- a step: a fragment of a lower level, whose Connect has come in, is absorbed
pub absorbs_in :
    (g : Network) (ground : Ground g) (u : ℕ) (u_is : InNetwork g u) (w : Scene) (holds : Invariant g w) (j : ℕ) (at : At g u j)
    (ms : List Message) (l : ℕ) (k : Key) →
    (w.seen u j).tree ≡ Connect l ∷ ms → l < (w.at u).head.level → (w.at u).head.name ≡ Some k → (w.at u).head.phase ≢ Sleeping →
    Invariant g
    (absorb g u j (acts g u (took_child (w.at u) j) (left_tree w u j ms) ((j, Initiate (w.at u).head.level k (w.at u).head.phase) ∷ []) w))
absorbs_in g ground u u_is w holds j at ms l k waits lower name awake = absorbs g ground u u_is w holds j at ms l k waits lower name awake
