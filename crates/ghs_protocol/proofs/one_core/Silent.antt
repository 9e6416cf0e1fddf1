-- Where nothing waits, in a fragment that no link leaves: all nodes have its level and name, none searches, and both core ends have halted.
use Rattle.std.proofs.Common.{◌≡◌, ◌≢◌, ℕ, Bool, true, false, ◌==◌, Some, None, [], ◌∷◌, length, refl, sym, ◌∙◌, ap, subst, subst₂, ⊎_elim, eq-eqb, eqb-true, arith}
use Rattle.ghs_graph.specs.declared.key.Key.{Key}
use Rattle.ghs_node.specs.Words.{Best, best_key}
use Rattle.ghs_node.specs.declared.message.Phase.TheVariants.{Sleeping, Find, Found}
use Rattle.ghs_node.specs.declared.message.Message.TheVariants.{Connect}
use Rattle.peer_network.specs.Network.{Network, port_at, At, far, far_port, InNetwork}
use Rattle.ghs_protocol.proofs.clauses.Scene.{Scene, Seen, unseen, forest}
use Rattle.ghs_protocol.proofs.clauses.Fragments.{Root, Goes_out, Both_ways, Reach, At_root, By_step}
use Rattle.ghs_protocol.proofs.clauses.Rest.{has_call, has_report}
use Rattle.ghs_protocol.proofs.clauses.Wiring.{Ground}
use Rattle.ghs_protocol.proofs.clauses.Whole.{Invariant}
use Rattle.ghs_protocol.proofs.clauses.UnderWay.{Answering, Test_there, Accept_here, Reject_here, Crossed_here, CoreHeard, HeardBy, brought_to, Living}
use Rattle.ghs_protocol.proofs.acts.OneLink.{at_far}
use Rattle.ghs_protocol.proofs.acts.SameForest.{mark_branch}
use Rattle.ghs_protocol.proofs.tests.Links.{probe_is}
use Rattle.ghs_protocol.proofs.rows.Link.{link_fits}
use Rattle.ghs_protocol.proofs.progress.Askers.{Asker, someone_asks}
use Rattle.ghs_protocol.proofs.progress.Halves.{RootLink, turned, Stands, Itself, tip}
use Rattle.std.proofs.lemmas.Option.{same_Some}
use Rattle.ghs_protocol.proofs.acts.Situations.{all_awake}
use Rattle.ghs_protocol.proofs.lemmas.Woken.{at_rest}
use Rattle.ghs_protocol.proofs.progress.BothBegun.{BegunCore, both_begun, tree_waits, AllOf}
use Rattle.ghs_node.proofs.lemmas.{branch_mark}

no_best : (b : Best) → ((k : Key) → best_key b ≡ Some k → ⊥) → b ≡ None
no_best None h = refl
no_best (Some x) h = absurd (h x.1 refl)

module _ (g : Network) (ground : Ground g) (w : Scene) (holds : Invariant g w) (lives : Living g w)
    (silent : (v p : ℕ) → At g v p → w.seen v p ≡ unseen) (u : ℕ) (u_is : InNetwork g u) (awake : (w.at u).head.phase ≢ Sleeping)
    (whole : (t p : ℕ) → At g t p → (w.at t).fragment ≡ (w.at u).fragment → (w.at (far g t p)).fragment ≡ (w.at u).fragment) where
  no_tree : (v p : ℕ) → At g v p → (w.seen v p).tree ≡ []
  no_tree v p at = ap (λ (q : Seen). q.tree) (silent v p at)

  pub reach : (t p : ℕ) → At g t p → (w.at t).fragment ≡ (w.at u).fragment → Reach g (forest w) t
  reach t p at same =
      let is : InNetwork g t = record { some = at.some; node = at.node } in
      let z = (holds.nodes t is).points (all_awake g w holds.alone u u_is awake t is same) (let lt = at.port in omega (arith, lt)) in
      holds.trees.reached t z.port is z.up

  -- its root is a core link whose ends have both begun
  pub begun : (a j : ℕ) → RootLink g (forest w) a j → BegunCore g w a j
  begun a j r =
      both_begun g w holds a j r (none_waiting a j r.at) (none_waiting (far g a j) (far_port g a j) (ground.wired.there a j r.at))
    where
      none_waiting : (v p : ℕ) → At g v p → AllOf (tree_waits (w.at v) p) (w.seen v p).tree
      none_waiting v p at = subst (AllOf (tree_waits (w.at v) p)) (sym (no_tree v p at)) tt

  pub root_done : (t p : ℕ) → At g t p → (w.at t).up ≡ Some p → Root g (forest w) t p → BegunCore g w t p
  root_done t p at up (Goes_out x z) =
      absurd
      (let c = (holds.links t p at).tree.out_connect (record { here = branch_mark _ x; there = mark_branch _ z }) in
      let y : Connect (w.at t).head.level ∷ [] ≡ [] = sym c.one ∙ no_tree (far g t p) (far_port g t p) (ground.wired.there t p at) in cc)
  root_done t p at up (Both_ways x y z) = begun t p (record { at = at; joined = x; up = y; up_beyond = z })

  -- everyone is at the coming level
  levels : {t : ℕ} → Reach g (forest w) t → (w.at t).head.level ≡ (w.at t).coming
  levels {t} (At_root p at up root) = (root_done t p at up root).top
  levels {t} (By_step p at up joined r) =
      ⊎_elim (λ h. (root_done t p at up (Both_ways joined up h)).top) (λ ne. by_child ne (levels r)) (probe_is (w.at (far g t p)).up (far_port g t p))
    where
      by_child :
          (w.at (far g t p)).up ≢ Some (far_port g t p) →
          (w.at (far g t p)).head.level ≡ (w.at (far g t p)).coming →
          (w.at t).head.level ≡ (w.at t).coming
      by_child ne top =
          let b = lives.links.brought t p at (branch_mark _ joined.here, branch_mark _ joined.there, up, ne) in
          subst (λ q. brought_to (w.at t).head.level q ≡ (w.at (far g t p)).head.level) (no_tree t p at) b ∙ top ∙
          (holds.trees.by_fragment (far g t p) t (sym (holds.trees.joined_within t p at joined))).0

  pub top : (t p : ℕ) → At g t p → (w.at t).fragment ≡ (w.at u).fragment → (w.at t).head.level ≡ (w.at t).coming
  top t p at same = levels (reach t p at same)

  pub name : (t p : ℕ) → At g t p → (w.at t).fragment ≡ (w.at u).fragment → (w.at t).head.name ≡ (w.at t).coming_name
  name t p at same = (holds.nodes t (record { some = at.some; node = at.node })).lag.name (top t p at same)

  -- nobody searches
  inside : ℕ → Bool
  inside t = (w.at t).fragment == (w.at u).fragment

  searches : (t p : ℕ) → At g t p → (w.at t).fragment ≡ (w.at u).fragment → (w.at t).head.phase ≢ Find
  unfolding inside
  searches t p at same finds =
      asks
      (someone_asks g ground.wired w holds lives.awaits inside
      (λ x q at' m. eq-eqb _ _ (whole x q at' (eqb-true _ _ m)))
      (λ x q at' m h. let z : has_call [] ≡ true = subst (λ y. has_call y ≡ true) (no_tree x q at') h in let y : false ≡ true = z in cc)
      (λ x q at' m f ne h. let z : has_report [] ≡ true = subst (λ y. has_report y ≡ true) (no_tree x q at') h in let y : false ≡ true = z in cc)
      t (reach t p at same) (record { some = at.some; node = at.node }) (eq-eqb _ _ same) finds)
    where
      asks : Asker g w inside (w.at t).fragment → ⊥
      asks k = go (lives.links.asks k.node k.port at' k.probe)
        where
          at' : At g k.node k.port
          at' = record { some = k.is.some; node = k.is.node; port = (holds.nodes k.node k.is).own_ports.probe k.port k.probe }

          go :
              Answering (w.seen (far g k.node k.port) (far_port g k.node k.port)).tests (w.seen k.node k.port).accepts (w.seen k.node k.port).rejects
              (w.seen k.node k.port).tests (w.at (far g k.node k.port)).head.probe (far_port g k.node k.port) →
              ⊥
          go (Test_there le) =
              let there = silent (far g k.node k.port) (far_port g k.node k.port) (ground.wired.there k.node k.port at') in
              let z = ap (λ (q : Seen). length q.tests) there in
              omega (arith, le, z)
          go (Accept_here le) = let z = ap (λ (q : Seen). q.accepts) (silent k.node k.port at') in omega (arith, le, z)
          go (Reject_here le) = let z = ap (λ (q : Seen). q.rejects) (silent k.node k.port at') in omega (arith, le, z)
          go (Crossed_here le ne) = let z = ap (λ (q : Seen). length q.tests) (silent k.node k.port at') in omega (arith, le, z)

  pub found : (t p : ℕ) → At g t p → (w.at t).fragment ≡ (w.at u).fragment → (w.at t).head.phase ≡ Found
  found t p at same =
      at_rest _ (searches t p at same) (all_awake g w holds.alone u u_is awake t (record { some = at.some; node = at.node }) same)

  -- the core link, by its key, is the root
  pub root_of : {t : ℕ} → Reach g (forest w) t → (w.at t).fragment ≡ (w.at u).fragment →
      (a : ℕ) × (j : ℕ) × ((w.at a).fragment ≡ (w.at u).fragment) × BegunCore g w a j
  root_of {t} (At_root p at up root) same = (t, p, same, root_done t p at up root)
  root_of {t} (By_step p at up joined r) same = root_of r (sym (holds.trees.joined_within t p at joined) ∙ same)

  module _ (t p : ℕ) (at : At g t p) (same : (w.at t).fragment ≡ (w.at u).fragment) where
    abbrev Here : Type 0
    Here = RootLink g (forest w) t p

    pub core_is_root : (w.at t).coming_name ≡ Some (port_at g t p).key → RootLink g (forest w) t p
    core_is_root named = go (root_of (reach t p at same) same)
      where
        go : (a : ℕ) × (j : ℕ) × ((w.at a).fragment ≡ (w.at u).fragment) × BegunCore g w a j → RootLink g (forest w) t p
        go (a, j, inside_it, d) =
            ⊎_elim (λ h. subst₂ (RootLink g (forest w)) h.0 h.1 d.link)
            (λ h. subst₂ (RootLink g (forest w)) h.0 h.1 (turned g ground.wired (forest w) a j d.link))
            (ground.keyed a j t p d.link.at at (same_Some _ _ (sym d.named ∙ (holds.trees.by_fragment a t (inside_it ∙ sym same)).1 ∙ named)))

  -- an end of the core has no best link, and has halted
  module _ (t p : ℕ) (r : RootLink g (forest w) t p) (same : (w.at t).fragment ≡ (w.at u).fragment) where
    is : InNetwork g t
    is = record { some = r.at.some; node = r.at.node }

    d : BegunCore g w t p
    d = begun t p r

    stands : (k : Key) → best_key (w.at t).head.best ≡ Some k → Stands w k t
    stands k x = record {
      top = (begun t p r).top;
      way =
          r.up ∙
          sym (((link_fits g ground.wired w holds t p r.at).tree.core_ends
          (record { here = branch_mark _ r.joined.here; there = branch_mark _ r.joined.there }) (begun t p r).named).at_top (begun t p r).top);
      best = x;
    }

    pub best_none : (w.at t).head.best ≡ None
    best_none =
        no_best (w.at t).head.best
        (λ k e.
        let z = tip g ground.wired w holds t p r k t t (reach t p r.at same) is refl (Itself refl) (stands k e) in
        z.outside (whole z.node z.port z.at (z.inside ∙ same) ∙ sym same))

  pub core_halts : (t p : ℕ) → RootLink g (forest w) t p → (w.at t).fragment ≡ (w.at u).fragment → (w.at t).head.halted ≡ true
  core_halts t p r same = heard.halts (best_none (far g t p) (far_port g t p) back same') (best_none t p r same)
    where
      back : RootLink g (forest w) (far g t p) (far_port g t p)
      back = turned g ground.wired (forest w) t p r

      same' : (w.at (far g t p)).fragment ≡ (w.at u).fragment
      same' = whole t p r.at same

      linked : (w.at (far g t p)).coming_name ≡ (w.at t).coming_name
      linked = (holds.trees.by_fragment (far g t p) t (sym (holds.trees.joined_within t p r.at r.joined))).1

      heard : HeardBy (w.at t).head.level (w.at t).coming (w.at t).head.phase (w.at t).head.best (w.at (far g t p)).head.best (w.at t).head.halted
      heard =
          at_far g ground.wired w CoreHeard lives.links.heard t p r.at
          (branch_mark _ r.joined.there, branch_mark _ r.joined.here, r.up_beyond, r.up, linked ∙ (begun t p r).named) (begun t p r).top'
          (found (far g t p) (far_port g t p) (ground.wired.there t p r.at) same')
          (ap has_report (no_tree t p r.at))
