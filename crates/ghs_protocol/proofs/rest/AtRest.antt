-- A core whose two ends have begun and are done: its fragment is at rest.
use Rattle.std.proofs.Common.{◌≡◌, ◌≢◌, ℕ, Bool, true, false, ◌||◌, Option, Some, List, [], ◌∷◌, ◌++◌, refl, sym, ◌∙◌, ap, ap₂, subst, subst₂, ⊎_elim, ◌⊎◌, arith}
use Rattle.std.proofs.lemmas.Option.{same_Some}
use Rattle.ghs_graph.specs.declared.key.Key.{Key}
use Rattle.ghs_node.specs.Words.{is_branch}
use Rattle.ghs_node.specs.declared.message.Phase.TheVariants.{Sleeping, Find, Found}
use Rattle.ghs_node.specs.declared.message.Message.{Message}
use Rattle.ghs_node.specs.declared.message.Message.TheVariants.{Report}
use Rattle.peer_network.specs.Network.{Network, At, far, far_port, InNetwork}
use Rattle.peer_network.proofs.lemmas.Wired.{IsWired}
use Rattle.ghs_protocol.specs.Marks.{Leads, Here, Over}
use Rattle.ghs_protocol.proofs.clauses.Scene.{Scene, End, TreeEnd, tree_end, end, forest, far_end}
use Rattle.ghs_protocol.proofs.clauses.Changes.{seen_beyond}
use Rattle.ghs_protocol.proofs.clauses.Links.{Joins, Child, Ups}
use Rattle.ghs_protocol.proofs.clauses.TreeMessages.{TreeFits, Upward, Nothing_up, Report_up, CoreFits, CoreQueue, Plain, With_report, Core, MovedFits, To_here, To_there, Stage, Asking, Called, Begun, AtStage, asked, called}
use Rattle.ghs_protocol.proofs.clauses.Fragments.{IsJoinedIn, Root, Both_ways, Reach, At_root, By_step}
use Rattle.ghs_protocol.proofs.clauses.Rest.{Quiet, owes, has_call, has_report}
use Rattle.ghs_protocol.proofs.clauses.Whole.{LinkFits, Invariant, NamesOf}
use Rattle.ghs_protocol.proofs.acts.OneLink.{at_near, at_far}
use Rattle.ghs_protocol.proofs.search.FirstReport.{Joint, joint, Down_here, Down_there, On_core, On_moved, mark_is}
use Rattle.ghs_protocol.proofs.tests.Links.{probe_is}
use Rattle.ghs_protocol.proofs.rest.Halt.{owed_finds}
use Rattle.peer_network.proofs.lemmas.Wires.{at_in}
use Rattle.ghs_protocol.proofs.acts.Situations.{all_awake}
use Rattle.ghs_protocol.proofs.lemmas.Woken.{at_rest}
use Rattle.ghs_node.proofs.lemmas.{is_at_is}

-- a call waits: its receiver's way leads to the sender
pub data CalledTo (e f : TreeEnd) : Type 0 where
  By_parent : Child e f → CalledTo e f
  By_core : (c : Core e f) → (z : CoreFits e f) → z.here ≡ Called → CalledTo e f

no_call : (xs ys : List Message) → xs ≡ ys → has_call ys ≡ false → has_call xs ≡ true → ⊥
no_call xs ys e n y = let z : false ≡ true = sym n ∙ sym (ap has_call e) ∙ y in cc

core_call : (l v : ℕ) (n : Key) (a b : Stage) → has_call (asked l b ++ called v n a) ≡ true → a ≡ Called
core_call l v n Called b h = refl
core_call l v n Asking Asking h = cc
core_call l v n Asking Called h = cc
core_call l v n Asking Begun h = cc
core_call l v n Begun Asking h = cc
core_call l v n Begun Called h = cc
core_call l v n Begun Begun h = cc

half_call : (v : ℕ) (n : Key) (a : Stage) (k : Option Key) → has_call (called v n a ++ Report k ∷ []) ≡ true → a ≡ Called
half_call v n Called k h = refl
half_call v n Asking k h = cc
half_call v n Begun k h = cc

module _ {N : ℕ → Key → Type 0} (e f : TreeEnd) (he : TreeFits N e f) (hf : TreeFits N f e) (ups : Joins e f → Ups e ⊎ Ups f)
    (calls : has_call e.tree ≡ true) where
  joined_call : Joins e f
  joined_call =
      ⊎_elim (λ a. ⊎_elim (λ b. record { here = a; there = b })
      (λ b. absurd (no_call _ _ (he.out_connect (record { here = a; there = b })).none refl calls))
      (mark_is f.mark))
      (λ a. ⊎_elim
      (λ b. absurd (no_call _ _ (hf.out_connect (record { here = b; there = a })).one refl calls))
      (λ b. absurd (no_call _ _ (he.silent a b) refl calls))
      (mark_is f.mark))
      (mark_is e.mark)

  pub called_to : CalledTo e f
  called_to = go (joint e f joined_call (ups joined_call))
    where
      up : Upward f e → CalledTo e f
      up (Nothing_up q) = absurd (no_call _ _ q refl calls)
      up (Report_up r q h) = absurd (no_call _ _ q refl calls)

      stage : (z : CoreFits e f) → CoreQueue e f z.here z.there → z.here ≡ Called
      stage z (Plain q) = core_call f.level e.coming e.key z.here z.there (sym (ap has_call q) ∙ calls)
      stage z (With_report r q s p b) = half_call e.coming e.key z.here r (sym (ap has_call q) ∙ calls)

      moved : MovedFits e f → CalledTo e f
      moved (To_here m) = absurd (no_call _ _ m.queue refl calls)
      moved (To_there m) = absurd (no_call _ _ m.queue_beyond refl calls)

      go : Joint e f → CalledTo e f
      go (Down_here c) = By_parent c
      go (Down_there c) = up (hf.upward c)
      go (On_core c) = let z = he.core_queues c in By_core c z (stage z z.queue)
      go (On_moved c) = moved (he.moved_root c)

-- who owes is in search, on either of the two links
abbrev pub FindsIfOwed : End → End → Type 0
FindsIfOwed e f = e.is.up ≢ Some e.port → owes e f ≡ true → e.is.head.phase ≡ Find

-- a node that neither searches nor is called to
pub record AtEase (g : Network) (w : Scene) (v : ℕ) : Type 0 where
  pub found : (w.at v).head.phase ≢ Find
  pub uncalled : (p : ℕ) → At g v p → has_call (w.seen v p).tree ≢ true

called_early : (e : TreeEnd) (s : Stage) → s ≡ Called → AtStage e s → e.level ≡ e.coming → ⊥
called_early e Called i a top = omega (arith, a, top)
called_early e Asking i a top = cc
called_early e Begun i a top = cc

pub by_find : (a b c : Bool) → c ≡ true → (a || (b || c)) ≡ true
by_find true b c e = refl
by_find false true c e = refl
by_find false false c e = e

pub by_call : (a b c : Bool) → b ≡ true → (a || (b || c)) ≡ true
by_call true b c e = refl
by_call false true c e = refl
by_call false false c e = cc

has_port : {g : Network} {S : ℕ → ℕ → Type 0} {v u : ℕ} → Leads g S v u → (j : ℕ) → At g u j → (p : ℕ) × At g v p
has_port Here j at = (j, at)
has_port (Over p at s l) j _ = (p, at)

pub not_true : (b : Bool) → b ≢ true → b ≡ false
not_true false h = refl
not_true true h = absurd (h refl)

module _ (g : Network) (wired : IsWired g) (w : Scene) (holds : Invariant g w) where
  pub calls_from : (v p : ℕ) → At g v p → has_call (w.seen v p).tree ≡ true → CalledTo (tree_end (end g w v p)) (tree_end (far_end g w v p))
  calls_from v p at =
      called_to (tree_end (end g w v p)) (tree_end (far_end g w v p)) (at_near g wired w (LinkFits (NamesOf g w)) holds.links v p at).tree
      (at_far g wired w (LinkFits (NamesOf g w)) holds.links v p at).tree
      (λ j. holds.trees.joined_lead v p at (record { here = ap is_branch j.here; there = ap is_branch j.there }))

  owed : (v p : ℕ) → At g v p → FindsIfOwed (end g w v p) (end g w (far g v p) (far_port g v p))
  owed v p at ne o = owed_finds g wired v (at_in at) p at w holds ne o

  -- a parent that is owed is in search
  pub parent_finds : (v p : ℕ) →
      At g v p →
      (w.at (far g v p)).up ≢ Some (far_port g v p) →
      owes (far_end g w v p) (end g w v p) ≡ true →
      (w.at (far g v p)).head.phase ≡ Find
  parent_finds v p at = at_far g wired w FindsIfOwed owed v p at

  -- an end of a root link, at the coming level
  ease_at : (v p : ℕ) →
      At g v p →
      (w.at v).up ≡ Some p →
      (w.at (far g v p)).up ≡ Some (far_port g v p) →
      (w.at v).head.level ≡ (w.at v).coming →
      (w.at v).head.phase ≡ Found →
      AtEase g w v
  ease_at v p at up up_beyond top found = record {
    found = λ e. cc (e, found);
    uncalled = λ q at' h. go q at' (calls_from v q at' h);
  }
    where
      go : (q : ℕ) → At g v q → CalledTo (tree_end (end g w v q)) (tree_end (far_end g w v q)) → ⊥
      go q at' (By_parent c) =
          let same : q ≡ p = same_Some q p (sym c.up ∙ up) in
          c.down (subst (λ y. (w.at (far g v y)).up ≡ Some (far_port g v y)) (sym same) up_beyond)
      go q at' (By_core c z s) = called_early (tree_end (end g w v q)) z.here s z.at_here top

  -- the core link at port j of u
  module _ (u j : ℕ) (at : At g u j) (joined : IsJoinedIn g (forest w) u j) (up : (w.at u).up ≡ Some j)
      (up_beyond : (w.at (far g u j)).up ≡ Some (far_port g u j))
      (top : (w.at u).head.level ≡ (w.at u).coming) (top' : (w.at (far g u j)).head.level ≡ (w.at (far g u j)).coming)
      (done : (w.at u).head.phase ≡ Found)
      (done' : (w.at (far g u j)).head.phase ≡ Found) where
    here : AtEase g w u
    here = ease_at u j at up up_beyond top done

    there : AtEase g w (far g u j)
    there =
        ease_at (far g u j) (far_port g u j) (wired.there u j at) up_beyond
        (subst₂ (λ a b. (w.at a).up ≡ Some b) (sym (wired.back u j at)) (sym (wired.back_port u j at)) up) top' done'

    at_root : (v p : ℕ) → At g v p → Root g (forest w) v p → (w.at v).fragment ≡ (w.at u).fragment → AtEase g w v
    at_root v p at' root same =
        ⊎_elim (λ h. subst (AtEase g w) (sym h.0) here) (λ h. subst (AtEase g w) (ap₂ (far g) (sym h.0) (sym h.1) ∙ wired.back v p at') there)
        (holds.trees.one_root v p u j at' at root (Both_ways joined up up_beyond) same)

    -- below a node at ease
    below_ease : (v p : ℕ) → At g v p → (w.at v).up ≡ Some p → (w.at (far g v p)).up ≢ Some (far_port g v p) → AtEase g w (far g v p) → AtEase g w v
    below_ease v p at' way down ease = record {
      found = λ e.
          let s = (holds.nodes v (record { some = at'.some; node = at'.node })).searching e in
          ease.found (parent_finds v p at' down (by_find (has_report (seen_beyond g w v p).tree) (has_call (w.seen v p).tree) _
          (rw (e, is_at_is (w.at v).head.in_branch p (s.in_branch ∙ sym s.up ∙ way)) refl)));
      uncalled = λ q at'' h.
          let same : q ≡ p = same_Some q p (sym (way_of q (calls_from v q at'' h)) ∙ way) in
          ease.found (parent_finds v p at' down
          (by_call (has_report (seen_beyond g w v p).tree) (has_call (w.seen v p).tree) _ (subst (λ y. has_call (w.seen v y).tree ≡ true) same h)));
    }
      where
        way_of : (q : ℕ) → CalledTo (tree_end (end g w v q)) (tree_end (far_end g w v q)) → (w.at v).up ≡ Some q
        way_of q (By_parent c) = c.up
        way_of q (By_core c z s) = c.both.up

    eased : {v : ℕ} → Reach g (forest w) v → (w.at v).fragment ≡ (w.at u).fragment → AtEase g w v
    eased {v} (At_root p at' way root) same = at_root v p at' root same
    eased {v} (By_step p at' way link r) same =
        ⊎_elim (λ h. at_root v p at' (Both_ways link way h) same)
        (λ ne. below_ease v p at' way ne (eased r (sym (holds.trees.joined_within v p at' link) ∙ same)))
        (probe_is (w.at (far g v p)).up (far_port g v p))

    ease : (v p : ℕ) → At g v p → (w.at v).fragment ≡ (w.at u).fragment → AtEase g w v
    ease v p at' same =
        let is : InNetwork g v = record { some = at'.some; node = at'.node } in
        let z = (holds.nodes v is).points (all_awake g w holds.alone u (at_in at) (λ e. cc (e, done)) v is same) (omega (arith, at'.port)) in
        eased (holds.trees.reached v z.port is z.up) same

    -- all of its fragment is at rest
    pub core_rests : Quiet g w (w.at u).fragment
    core_rests = record {
      found = λ v is same.
          let t = has_port (holds.trees.connected v u is (record { some = at.some; node = at.node }) same) j at in
          at_rest _ (ease v t.0 t.1 same).found (all_awake g w holds.alone u (at_in at) (λ e. cc (e, done)) v is same);
      uncalled = λ v p at' same. not_true _ ((ease v p at' same).uncalled p at');
    }
