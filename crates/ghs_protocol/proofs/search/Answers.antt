-- An Accept and a Report are heard: the invariant is kept.
use Rattle.std.proofs.Common.{◌≡◌, ◌≢◌, ℕ, suc, ◌<◌, ◌≤◌, false, Option, Some, None, List, [], ◌∷◌, refl, sym, ◌∙◌, ap, subst, ⊎_elim, ◌⊎◌, inl, inr, length, arith, le_refl}
use Rattle.std.proofs.lemmas.Option.{same_Some}
use Rattle.ghs_graph.specs.declared.key.Key.{Key}
use Rattle.ghs_node.specs.Words.{Best, is_find, better, best_key}
use Rattle.ghs_node.specs.declared.mark.Mark.TheVariants.{Branch}
use Rattle.ghs_node.specs.declared.message.Phase.TheVariants.{Find}
use Rattle.ghs_node.specs.declared.message.Message.{Message}
use Rattle.ghs_node.specs.declared.message.Message.TheVariants.{Report}
use Rattle.peer_network.specs.Network.{Network, port_at, At, far, far_port, InNetwork}
use Rattle.peer_network.proofs.lemmas.Wired.{IsWired}
use Rattle.ghs_protocol.proofs.clauses.Scene.{Seen, Member, Scene, End, tree_end, test_end, end, acts, far_end}
use Rattle.ghs_protocol.proofs.clauses.Changes.{left_tree, left_accepts, seen_beyond, took_accept, took_report}
use Rattle.ghs_protocol.proofs.clauses.TreeMessages.{Reported}
use Rattle.ghs_protocol.proofs.clauses.Search.{LeadsOut}
use Rattle.ghs_protocol.proofs.clauses.Whole.{Invariant, LinkFits, NamesOf}
use Rattle.ghs_protocol.proofs.clauses.Links.{Joins, Ups}
use Rattle.ghs_protocol.proofs.clauses.Rest.{debt, has_call}
use Rattle.ghs_protocol.proofs.acts.OneLink.{sends_none, here, sums_one, kept_one}
use Rattle.ghs_protocol.proofs.tests.Links.{not_some, tests_aside, tests_aside', accepted_apart, accepted_here, accepted_there}
use Rattle.ghs_protocol.proofs.acts.Situations.{is_find', probing_finds, node_turned}
use Rattle.ghs_protocol.proofs.search.Best.{with_best, tree_best, tree_best', search_best, search_best', better_is}
use Rattle.ghs_protocol.proofs.search.ReportGone.{search_trees, tree_popped, tree_popped', uncalled, debt_one, debt_up, debt_none}
use Rattle.ghs_protocol.proofs.search.FirstReport.{heard_first, Heard, mark_is}
use Rattle.ghs_protocol.proofs.rows.Link.{link_clauses, link_leads, joined_clauses}

some_better : (o : Best) (j : ℕ) (w : Option Key) → o ≢ None → better o j w ≢ None
some_better o j w ne = ⊎_elim (λ e z. ne (sym e ∙ z)) (λ t z. let y = t.2 in cc (y, z)) (better_is o j w)

port_in : Best → ℕ
port_in None = 0
port_in (Some b) = b.0

port_same : (p j : ℕ) (k l : Key) → ◌≡◌ {A = Best} (Some (p, k)) (Some (j, l)) → p ≡ j
unfolding port_in
port_same p j k l e = ap port_in e

key_same : (p j : ℕ) (k l : Key) → ◌≡◌ {A = Best} (Some (p, k)) (Some (j, l)) → k ≡ l
key_same p j k l e = same_Some k l (ap best_key e)

-- the better one at a port
pub better_at : (o : Best) (j : ℕ) (w : Option Key) (p : ℕ) (k : Key) → better o j w ≡ Some (p, k) → (o ≡ Some (p, k)) ⊎ ((p ≡ j) × (w ≡ Some k))
better_at o j w p k e =
    ⊎_elim (λ z. inl (sym z ∙ e))
    (λ t. let y : Some (p, k) ≡ Some (j, t.0) = sym e ∙ t.2 in inr (port_same p j k t.0 y, t.1 ∙ ap Some (sym (key_same p j k t.0 y))))
    (better_is o j w)

module _ (g : Network) (wired : IsWired g) (u : ℕ) (u_is : InNetwork g u) (j : ℕ) (at : At g u j) (w : Scene) (holds : Invariant g w) where
  open link_clauses g wired w holds u j at use {fits as my_fits, link as lnk, link' as lnk', ways}

  -- at a node that searches each Branch link is joined
  branch_joined : (i : ℕ) →
      At g u i →
      (w.at u).head.phase ≡ Find →
      (w.at u).mark i ≡ Branch →
      Joins (tree_end (end g w u i)) (tree_end (far_end g w u i))
  branch_joined i at' finds here =
      ⊎_elim (λ b. record { here = here; there = b })
      (λ b. absurd (let z = (holds.resting.out u i at' (record { here = here; there = b })).found u u_is refl in cc (z, finds)))
      (mark_is ((w.at (far g u i)).mark (far_port g u i)))

  -- an Accept is heard
  module _ (a : ℕ) (waits : (w.seen u j).accepts ≡ suc a) (own : (w.at u).head.probe ≡ Some j) where
    finds : (w.at u).head.phase ≡ Find
    finds = probing_finds my_fits own

    q : Seen
    q = record (w.seen u j) { accepts = a }

    apart : ((w.at (far g u j)).fragment ≢ (w.at u).fragment) × ((w.at u).head.level ≤ (w.at (far g u j)).head.level)
    apart = accepted_apart (test_end (end g w u j)) (test_end (far_end g w u j)) own lnk.tests lnk'.tests a waits

    not_up : (w.at u).head.in_branch ≢ Some j
    not_up e =
        let s = my_fits.searching finds in
        let z = my_fits.points (λ y. cc (finds, y)) (omega (arith, at.port)) in
        let same : z.port ≡ j = same_Some z.port j (sym z.up ∙ s.up ∙ sym s.in_branch ∙ e) in
        apart.0 (sym ((joined_clauses g w holds u j at (branch_joined j at finds (subst (λ y. (w.at u).mark y ≡ Branch) same z.mark))).inside))

    new : (i : ℕ) →
        (k : Key) → better (w.at u).head.best j (Some (port_at g u j).key) ≡ Some (i, k) →
        ((w.at u).head.best ≡ Some (i, k)) ⊎ (((w.at u).mark i ≢ Branch → LeadsOut (tree_end (end g w u i)) (tree_end (far_end g w u i)) k) ×
        (Joins (tree_end (end g w u i)) (tree_end (far_end g w u i)) → Reported (tree_end (far_end g w u i)) (Some k)))
    new i k e =
        ⊎_elim inl
        (λ t.
        inr (subst (λ y.
        ((w.at u).mark y ≢ Branch → LeadsOut (tree_end (end g w u y)) (tree_end (far_end g w u y)) k) ×
        (Joins (tree_end (end g w u y)) (tree_end (far_end g w u y)) → Reported (tree_end (far_end g w u y)) (Some k)))
        (sym t.0) (
          (λ m. record { key = sym (same_Some (port_at g u j).key k t.1); apart = apart.0; higher = apart.1 }),
          (λ h. absurd (apart.0 (sym (joined_clauses g w holds u j at h).inside))),
        )))
        (better_at _ j (Some (port_at g u j).key) i k e)

    best_fits : (p : ℕ) →
        (k : Key) → better (w.at u).head.best j (Some (port_at g u j).key) ≡ Some (p, k) →
        (p < length (g.ports u)) × ((w.at u).head.in_branch ≢ Some p)
    best_fits p k e =
        ⊎_elim (λ z. my_fits.best_port p k z)
        (λ t. subst (λ y. (y < length (g.ports u)) × ((w.at u).head.in_branch ≢ Some y)) (sym t.0) (at.port, not_up))
        (better_at _ j (Some (port_at g u j).key) p k e)

    keeps : (w.at u).head.best ≢ None → better (w.at u).head.best j (Some (port_at g u j).key) ≢ None
    keeps ne = some_better (w.at u).head.best j (Some (port_at g u j).key) ne

    pub hears_accept : Invariant g (acts g u (took_accept (w.at u) j (port_at g u j).key) (left_accepts w u j a) [] w)
    hears_accept =
        kept_one g wired u u_is x j at (record (w.seen u j) { accepts = a }) [] [] (sends_none j) w
        (record {
          alike = record { fragment = refl; coming = refl; coming_name = refl; up = refl; branch = λ p. refl };
          found = λ e. e;
          mine = λ e. e;
          theirs = λ e. e;
        })
        holds
        (node_turned (length (g.ports u)) (w.at u) (w.at u).mark None _ _ my_fits (λ z. cc (finds, z)) (λ p. refl) my_fits.own_ports.mark
        (λ p z. absurd (not_some None p refl z)) (λ z. absurd (z finds))
        best_fits)
        (record {
          tree = tree_best (tree_end (end g w u j)) (tree_end (far_end g w u j)) b finds keeps lnk.tree;
          search = search_best (tree_end (end g w u j)) (tree_end (far_end g w u j)) b finds keeps (new j) lnk.search;
          tests = accepted_here (test_end (end g w u j)) (test_end (far_end g w u j)) own lnk.tests lnk'.tests a waits;
        })
        (record {
          tree = tree_best' (tree_end (end g w u j)) (tree_end (far_end g w u j)) b finds keeps lnk'.tree;
          search = search_best' (tree_end (end g w u j)) (tree_end (far_end g w u j)) b finds keeps lnk'.search;
          tests = accepted_there (test_end (end g w u j)) (test_end (far_end g w u j)) own lnk.tests lnk'.tests a waits;
        })
        (λ i at' ne h h'. record {
          tree = tree_best (tree_end (end g w u i)) (tree_end (far_end g w u i)) b finds keeps h.tree;
          search = search_best (tree_end (end g w u i)) (tree_end (far_end g w u i)) b finds keeps (new i) h.search;
          tests =
              tests_aside (test_end (end g w u i)) (test_end (far_end g w u i)) None _ _ (λ z. ne (sym (same_Some j i (sym own ∙ z))))
              (not_some None i refl) (le_refl _) h.tests h'.tests;
        })
        (λ i at' ne h h'. record {
          tree = tree_best' (tree_end (end g w u i)) (tree_end (far_end g w u i)) b finds keeps h'.tree;
          search = search_best' (tree_end (end g w u i)) (tree_end (far_end g w u i)) b finds keeps h'.search;
          tests =
              tests_aside' (test_end (end g w u i)) (test_end (far_end g w u i)) None _ (w.at u).head.name
              (λ z. ne (sym (same_Some j i (sym own ∙ z))))
              (not_some None i refl) (le_refl _) h.tests h'.tests;
        })
        (λ e. e) refl
        (sums_one g wired u u_is x j at (record (w.seen u j) { accepts = a }) [] [] (sends_none j) w holds.counted refl (λ i ne. refl) refl
        (λ i ne. refl))
      where
        b : Best
        b = better (w.at u).head.best j (Some (port_at g u j).key)

        x : Member
        x = record (w.at u) { head = record (w.at u).head { probe = None; best = b } }

  -- a Report that comes over another link than in_branch is a child's
  module _ (k : Option Key) (ms : List Message) (waits : (w.seen u j).tree ≡ Report k ∷ ms) (away : (w.at u).head.in_branch ≢ Some j) where
    pub child_heard : Heard (tree_end (end g w u j)) (tree_end (far_end g w u j)) k
    child_heard = heard_first (tree_end (end g w u j)) (tree_end (far_end g w u j)) lnk.tree lnk'.tree ways k ms waits away

  -- a child's Report is heard
  module _ (k : Option Key) (ms : List Message) (c : ℕ) (waits : (w.seen u j).tree ≡ Report k ∷ ms)
      (away : (w.at u).head.in_branch ≢ Some j) (count : (w.at u).head.find_count ≡ suc c) where
    finds' : (w.at u).head.phase ≡ Find
    finds' = ⊎_elim (λ h. h) (λ ne. absurd (let z = (my_fits.idle ne).1 in omega (arith, z, count))) (is_find' (w.at u).head.phase)

    open child_heard k ms waits away use {child, reported}

    b' : Best
    b' = better (w.at u).head.best j k

    keeps' : (w.at u).head.best ≢ None → b' ≢ None
    unfolding b'
    keeps' ne = some_better (w.at u).head.best j k ne

    new' : (i : ℕ) →
        (l : Key) → b' ≡ Some (i, l) →
        ((w.at u).head.best ≡ Some (i, l)) ⊎ (((w.at u).mark i ≢ Branch → LeadsOut (tree_end (end g w u i)) (tree_end (far_end g w u i)) l) ×
        (Joins (tree_end (end g w u i)) (tree_end (far_end g w u i)) → Reported (tree_end (far_end g w u i)) (Some l)))
    unfolding b'
    new' i l e =
        ⊎_elim inl (λ t.
        inr (subst (λ y.
        ((w.at u).mark y ≢ Branch → LeadsOut (tree_end (end g w u y)) (tree_end (far_end g w u y)) l) ×
        (Joins (tree_end (end g w u y)) (tree_end (far_end g w u y)) → Reported (tree_end (far_end g w u y)) (Some l)))
        (sym t.0)
        ((λ m. absurd (m child.joins.there)), (λ h. subst (Reported (tree_end (far_end g w u j))) t.1 reported))))
        (better_at _ j k i l e)

    best_fits' : (p : ℕ) → (l : Key) → b' ≡ Some (p, l) → (p < length (g.ports u)) × ((w.at u).head.in_branch ≢ Some p)
    unfolding b'
    best_fits' p l e =
        ⊎_elim (λ z. my_fits.best_port p l z)
        (λ t. subst (λ y. (y < length (g.ports u)) × ((w.at u).head.in_branch ≢ Some y)) (sym t.0) (at.port, away))
        (better_at _ j k p l e)

    free : has_call (seen_beyond g w u j).tree ≡ false
    free =
        uncalled (tree_end (end g w u j)) (tree_end (far_end g w u j)) child
        (let s = (joined_clauses g w holds u j at (record { here = child.joins.there; there = child.joins.here })).ghosts in
        let l = my_fits.lag.level in let t = reported.level in omega (arith, s.0, l, t))
        (lnk'.tree.downward child)

    phase_free : is_find (w.at (far g u j)).head.phase ≡ false
    phase_free = ap is_find reported.phase

    pub hears_report : Invariant g (acts g u (took_report (w.at u) j k c) (left_tree w u j []) [] w)
    unfolding b'
    hears_report =
        kept_one g wired u u_is x j at q [] [] (sends_none j) w
        (record {
          alike = record { fragment = refl; coming = refl; coming_name = refl; up = refl; branch = λ p. refl };
          found = λ e. e;
          mine = λ e. refl;
          theirs = λ e. e;
        })
        holds
        (node_turned (length (g.ports u)) (w.at u) (w.at u).mark _ c _ my_fits (λ z. cc (finds', z)) (λ p. refl) my_fits.own_ports.mark
        my_fits.own_ports.probe (λ z. absurd (z finds')) best_fits')
        (record {
          tree =
              tree_best (record (tree_end (end g w u j)) { tree = [] }) (tree_end (far_end g w u j)) b' finds' keeps'
              (tree_popped (tree_end (end g w u j)) (tree_end (far_end g w u j)) child lnk.tree);
          search =
              search_trees (with_best (tree_end (end g w u j)) b') (tree_end (far_end g w u j)) [] _
              (search_best (tree_end (end g w u j)) (tree_end (far_end g w u j)) b' finds' keeps' (new' j) lnk.search);
          tests = record { probing = lnk.tests.probing; not_probing = lnk.tests.not_probing };
        })
        (record {
          tree =
              tree_best' (record (tree_end (end g w u j)) { tree = [] }) (tree_end (far_end g w u j)) b' finds' keeps'
              (tree_popped' (tree_end (end g w u j)) (tree_end (far_end g w u j)) child lnk'.tree);
          search =
              search_trees (tree_end (far_end g w u j)) (with_best (tree_end (end g w u j)) b') _ []
              (search_best' (tree_end (end g w u j)) (tree_end (far_end g w u j)) b' finds' keeps' lnk'.search);
          tests = record { probing = lnk'.tests.probing; not_probing = lnk'.tests.not_probing };
        })
        (λ i at' ne h h'. record {
          tree = tree_best (tree_end (end g w u i)) (tree_end (far_end g w u i)) b' finds' keeps' h.tree;
          search = search_best (tree_end (end g w u i)) (tree_end (far_end g w u i)) b' finds' keeps' (new' i) h.search;
          tests = record { probing = h.tests.probing; not_probing = h.tests.not_probing };
        })
        (λ i at' ne h h'. record {
          tree = tree_best' (tree_end (end g w u i)) (tree_end (far_end g w u i)) b' finds' keeps' h'.tree;
          search = search_best' (tree_end (end g w u i)) (tree_end (far_end g w u i)) b' finds' keeps' h'.search;
          tests = record { probing = h'.tests.probing; not_probing = h'.tests.not_probing };
        })
        (λ e. e) refl
        (sums_one g wired u u_is x j at q [] [] (sends_none j) w holds.counted (omega (arith, count, was, is)) (λ i ne. refl)
        (debt_up (far_end g w u j) here' child.up ∙ sym (debt_up (far_end g w u j) (end g w u j) child.up)) (λ i ne. refl))
      where
        q : Seen
        q = record (w.seen u j) { tree = [] }

        x : Member
        x = record (w.at u) { head = record (w.at u).head { find_count = c; best = b' } }

        here' : End
        here' = record { port = j; key = (port_at g u j).key; mark = (w.at u).mark j; is = x; seen = q }

        was : ◌≡◌ {A = ℕ} (debt (end g w u j) (far_end g w u j)) 1
        was = debt_one (end g w u j) (far_end g w u j) child.down (rw waits refl)

        is : ◌≡◌ {A = ℕ} (debt (record { port = j; key = (port_at g u j).key; mark = (w.at u).mark j; is = x; seen = q }) (far_end g w u j)) 0
        is =
            debt_none
            (record { port = j; key = (port_at g u j).key; mark = (w.at u).mark j; is = x; seen = q }) (far_end g w u j) refl free phase_free
