-- A sleeping node wakes, and nobody has connected to it over its least link: its Connect leads out.
use Rattle.std.proofs.Common.{◌≡◌, ◌≢◌, ℕ, zero, suc, ◌+◌, ◌<◌, ◌≤◌, ◌==◌, Bool, true, false, Option, None, List, [], ◌∷◌, ◌++◌, refl, sym, ◌∙◌, ap, ap₂, subst, subst₂, ⊎_elim, ◌⊎◌, inl, inr, length, arith, eq-eqb}
use Rattle.std.proofs.Math.Path.{fun_ext}
use Rattle.std.proofs.lemmas.Bool.{cases_eq}
use Rattle.ghs_graph.specs.declared.key.Key.{Key}
use Rattle.ghs_node.specs.declared.mark.Mark.TheVariants.{Branch}
use Rattle.ghs_node.specs.declared.message.Phase.TheVariants.{Sleeping, Found}
use Rattle.ghs_node.specs.declared.message.Message.TheVariants.{Connect}
use Rattle.ghs_node.specs.Words.{is_branch}
use Rattle.peer_network.specs.Network.{Network, port_at, At, far, far_port, InNetwork}
use Rattle.peer_network.proofs.lemmas.Wired.{IsWired}
use Rattle.ghs_protocol.proofs.clauses.Scene.{Seen, adds, Member, Scene, End, TreeEnd, end, tree_end, forest, acts, far_end}
use Rattle.ghs_protocol.proofs.clauses.Changes.{seen_beyond, awakened}
use Rattle.ghs_protocol.proofs.clauses.Nodes.{Untouched}
use Rattle.ghs_protocol.proofs.clauses.TreeMessages.{Moved}
use Rattle.ghs_protocol.proofs.clauses.Search.{LeadsOut}
use Rattle.ghs_protocol.proofs.clauses.Fragments.{IsJoinedIn, Goes_out, ForestFits}
use Rattle.ghs_protocol.proofs.clauses.Rest.{Quiet, Resting, has_call}
use Rattle.ghs_protocol.proofs.clauses.Whole.{Invariant, NamesOf, LinkFits}
use Rattle.ghs_protocol.specs.Steps.{sent_on}
use Rattle.peer_network.proofs.lemmas.Updates.{put_same, put_other}
use Rattle.ghs_protocol.proofs.acts.Ends.{acts_keeps}
use Rattle.ghs_protocol.proofs.acts.SameForest.{near', far', quiet_after, branch_mark, not_branch}
use Rattle.ghs_protocol.proofs.root.Ways.{Turns, turning, forest_turn}
use Rattle.ghs_protocol.proofs.root.Sent.{put_field}
use Rattle.ghs_protocol.proofs.root.OldLink.{call_append}
use Rattle.ghs_protocol.proofs.union.NewBranch.{Branches, link_named, fragment_was, coming_was, name_was, mark_else, mark_here, branch_grows, names_grow, alone_grown, named_grown, nodes_grown}
use Rattle.ghs_protocol.proofs.wake.Inward.{waker, sent, fresh, near_fits, far_fits, node, counted, unbranched, no_root, quiet, waking, still, still_fits, still_fits'}
use Rattle.ghs_protocol.proofs.root.Outward.{connects_near, connects_far}

module _ (g : Network) (wired : IsWired g) (u : ℕ) (u_is : InNetwork g u) (w : Scene) (holds : Invariant g w) (at : At g u 0)
    (sleeps : (w.at u).head.phase ≡ Sleeping) (apart : (w.at (far g u 0)).mark (far_port g u 0) ≢ Branch) where
  abbrev awake : Member
  awake = waker g wired u u_is w holds at sleeps

  abbrev then : Scene
  then = sent g wired u u_is w holds at sleeps

  new : Untouched (w.at u)
  new = fresh g wired u u_is w holds at sleeps

  more : Branches (w.at u) (waker g wired u u_is w holds at sleeps) 0
  more = record {
    fragment = refl;
    coming = refl;
    coming_name = refl;
    mark = put_same (w.at u).mark 0 Branch;
    marks = λ p ne. put_other (w.at u).mark 0 p Branch ne;
  }

  mark_was : (t p : ℕ) → ((t ≡ u) × (p ≡ 0) → ⊥) → ((then).at t).mark p ≡ (w.at t).mark p
  mark_was t p off = mark_else g wired u u_is 0 at w holds awake (w.seen u) ((0, Connect 0) ∷ []) more t p off

  not_u : far g u 0 ≢ u
  not_u = wired.apart u 0 at

  -- the far end's mark
  far_false : is_branch (((then).at (far g u 0)).mark (far_port g u 0)) ≡ false
  far_false = ap is_branch (mark_was _ _ (λ z. not_u z.0)) ∙ not_branch _ apart

  here_true : is_branch (((then).at u).mark 0) ≡ true
  here_true = ap is_branch (mark_here g wired u u_is 0 at w holds awake (w.seen u) ((0, Connect 0) ∷ []) more)

  clash : {b : Bool} → b ≡ true → b ≡ false → ⊥
  clash a b = cc (a, b)

  -- the far end of a link, where that is u's port 0
  back_false : (t p : ℕ) → At g t p → far g t p ≡ u → far_port g t p ≡ 0 → is_branch ((w.at t).mark p) ≡ false
  back_false t p at' e h =
      subst₂ (λ y z. is_branch ((w.at y).mark z) ≡ false) (ap₂ (far g) (sym e) (sym h) ∙ wired.back t p at')
      (ap₂ (far_port g) (sym e) (sym h) ∙ wired.back_port t p at') (not_branch _ apart)

  on_it : (t p : ℕ) → t ≡ u → p ≡ 0 → is_branch (((then).at (far g t p)).mark (far_port g t p)) ≡ false
  on_it t p e h = subst₂ (λ y z. is_branch (((then).at (far g y z)).mark (far_port g y z)) ≡ false) (sym e) (sym h) far_false

  grows : (t p : ℕ) → is_branch ((w.at t).mark p) ≡ true → is_branch (((then).at t).mark p) ≡ true
  grows t p e = branch_grows g wired u u_is 0 at w holds awake (w.seen u) ((0, Connect 0) ∷ []) more t p e

  shrinks : (t p : ℕ) → is_branch (((then).at t).mark p) ≡ false → is_branch ((w.at t).mark p) ≡ false
  shrinks t p e = go (is_branch ((w.at t).mark p)) refl
    where
      go : (c : Bool) → is_branch ((w.at t).mark p) ≡ c → is_branch ((w.at t).mark p) ≡ false
      go true h = absurd (clash (grows t p h) e)
      go false h = h

  not_on : (t p : ℕ) → is_branch (((then).at (far g t p)).mark (far_port g t p)) ≡ true → (t ≡ u) × (p ≡ 0) → ⊥
  not_on t p h z = clash h (on_it t p z.0 z.1)

  not_back : (t p : ℕ) → At g t p → is_branch ((w.at t).mark p) ≡ true → (far g t p ≡ u) × (far_port g t p ≡ 0) → ⊥
  not_back t p at' h z = clash h (back_false t p at' z.0 z.1)

  turns : Turns g (forest w) u 0 (λ t p. is_branch (((then).at t).mark p))
  turns = record {
    at = at;
    keeps = λ t p at' j. record { here = grows t p j.here; there = grows _ _ j.there };
    only = λ t p at' j.
        let off = not_on t p j.there in
        let here : is_branch ((w.at t).mark p) ≡ true = sym (ap is_branch (mark_was t p off)) ∙ j.here in
        record { here = here; there = sym (ap is_branch (mark_was _ _ (not_back t p at' here))) ∙ j.there };
    out_keeps = λ t p at' h k. (grows t p h, ap is_branch (mark_was _ _ (not_back t p at' h)) ∙ k);
    out_only = λ t p at' h k. ⊎_elim
        (λ e. ⊎_elim (λ z. inl (e, z)) (λ ne. inr (sym (ap is_branch (mark_was t p (λ z. ne z.1))) ∙ h, shrinks _ _ k)) (cases_eq p 0))
        (λ ne. inr (sym (ap is_branch (mark_was t p (λ z. ne z.0))) ∙ h, shrinks _ _ k))
        (cases_eq t u);
    led = λ p at' j. absurd (unbranched g wired u u_is w holds at sleeps p j.here);
    old = λ t p at' r e. absurd (no_root g wired u u_is w holds at sleeps t p at' r e);
    root = Goes_out here_true far_false;
  }

  fragments : (t : ℕ) → ((then).at t).fragment ≡ (w.at t).fragment
  fragments t = fragment_was g wired u u_is 0 at w holds awake (w.seen u) ((0, Connect 0) ∷ []) more t

  forest_is : forest (then) ≡ turning (forest w) u 0 (λ t p. is_branch (((then).at t).mark p))
  forest_is =
      λ i. record {
        branch = λ t p. is_branch (((then).at t).mark p);
        fragment = fun_ext fragments i;
        coming = fun_ext (λ t. coming_was g wired u u_is 0 at w holds awake (w.seen u) ((0, Connect 0) ∷ []) more t) i;
        coming_name = fun_ext (λ t. name_was g wired u u_is 0 at w holds awake (w.seen u) ((0, Connect 0) ∷ []) more t) i;
        up = fun_ext (put_field (λ (m : Member). m.up) w.at u awake) i;
      }

  trees : ForestFits g (forest (then))
  trees = subst (ForestFits g) (sym forest_is) (forest_turn g wired (forest w) u 0 (λ t p. is_branch (((then).at t).mark p)) turns holds.trees)

  -- the link of the Connect
  e : TreeEnd
  e = tree_end (end g w u 0)

  abbrev pub sender : End
  sender = record { port = 0; key = (port_at g u 0).key; mark = Branch; is = awake; seen = w.seen u 0 }

  abbrev pub receiver : End
  receiver = record (far_end g w u 0) { seen = record (seen_beyond g w u 0) { tree = (seen_beyond g w u 0).tree ++ Connect 0 ∷ [] } }

  -- its end of the link, awake, before the Connect goes out
  abbrev waiting : End
  waiting = still g wired u u_is w holds at sleeps 0

  out : LeadsOut (tree_end waiting) (tree_end (far_end g w u 0)) (port_at g u 0).key
  out = record { key = refl; apart = (waking g wired u u_is w holds at sleeps).apart; higher = omega arith }

  sender_is : near' g wired u u_is awake (w.seen u) ((0, Connect 0) ∷ []) w 0 ≡ sender
  sender_is = λ i. record { port = 0; key = (port_at g u 0).key; mark = put_same (w.at u).mark 0 Branch i; is = awake; seen = w.seen u 0 }

  named : (a : ℕ) (k : Key) → NamesOf g w a k → NamesOf g (then) a k
  named a k z = names_grow g wired u u_is 0 at w holds awake (w.seen u) ((0, Connect 0) ∷ []) more a k z

  near : (i : ℕ) →
      At g u i →
      LinkFits (NamesOf g w) (near' g wired u u_is awake (w.seen u) ((0, Connect 0) ∷ []) w i)
      (far' g wired u u_is awake (w.seen u) ((0, Connect 0) ∷ []) w i)
  near i at' =
      ⊎_elim (λ (z : i ≡ 0).
      subst (λ y.
      LinkFits (NamesOf g w) (near' g wired u u_is awake (w.seen u) ((0, Connect 0) ∷ []) w y)
      (far' g wired u u_is awake (w.seen u) ((0, Connect 0) ∷ []) w y))
      (sym z)
      (subst (λ y. LinkFits (NamesOf g w) y receiver) (sym sender_is)
      (connects_near (NamesOf g w) waiting (far_end g w u 0) awake (port_at g u 0).key (new.marks 0) apart out (sym new.coming)
      (still_fits g wired u u_is w holds at sleeps 0 at) (still_fits' g wired u u_is w holds at sleeps 0 at) refl refl)))
      (λ ne. near_fits g wired u u_is w holds at sleeps i at' ne)
      (cases_eq i 0)

  away : (i : ℕ) →
      At g u i →
      LinkFits (NamesOf g w) (far' g wired u u_is awake (w.seen u) ((0, Connect 0) ∷ []) w i)
      (near' g wired u u_is awake (w.seen u) ((0, Connect 0) ∷ []) w i)
  away i at' =
      ⊎_elim (λ (z : i ≡ 0).
      subst (λ y.
      LinkFits (NamesOf g w) (far' g wired u u_is awake (w.seen u) ((0, Connect 0) ∷ []) w y)
      (near' g wired u u_is awake (w.seen u) ((0, Connect 0) ∷ []) w y))
      (sym z)
      (subst (λ y. LinkFits (NamesOf g w) receiver y) (sym sender_is)
      (connects_far (NamesOf g w) waiting (far_end g w u 0) awake (port_at g u 0).key (new.marks 0) apart out (sym new.coming)
      (still_fits g wired u u_is w holds at sleeps 0 at) (still_fits' g wired u u_is w holds at sleeps 0 at) refl refl)))
      (λ ne. far_fits g wired u u_is w holds at sleeps i at' ne)
      (cases_eq i 0)

  links : (t p : ℕ) → At g t p → LinkFits (NamesOf g (then)) (end g (then) t p) (end g (then) (far g t p) (far_port g t p))
  links =
      acts_keeps g wired u u_is.some u_is.node awake (w.seen u) ((0, Connect 0) ∷ []) w (LinkFits (NamesOf g (then)))
      (λ t p at'. link_named (NamesOf g w) (NamesOf g (then)) _ _ (λ k z. named _ k z) (holds.links t p at'))
      (λ i at'. link_named (NamesOf g w) (NamesOf g (then)) _ _ (λ k z. named _ k z) (near i at'))
      (λ i at'. link_named (NamesOf g w) (NamesOf g (then)) _ _ (λ k z. named _ k z) (away i at'))

  -- fragments at rest
  quiet_else : (t : ℕ) → InNetwork g t → t ≢ u → Quiet g w (w.at t).fragment → Quiet g (then) ((then).at t).fragment
  quiet_else t it ne q =
      subst (Quiet g (then)) (sym (fragments t))
      (quiet_after g wired u u_is awake (w.seen u) ((0, Connect 0) ∷ []) w (w.at t).fragment q
      (λ z. absurd (ne (holds.alone u t u_is it sleeps (sym z))))
      (λ i at' z. absurd (ne (holds.alone u t u_is it sleeps (sym z))))
      (λ i at' z. calls (seen_beyond g w u i) i ∙ q.uncalled _ _ (wired.there u i at') z))
    where
      calls : (s : Seen) (i : ℕ) → has_call (adds s (sent_on ((0, Connect 0) ∷ []) i)).tree ≡ has_call s.tree
      calls s i =
          elim (0 == i) as
          (λ c. has_call (adds s (Rattle.std.proofs.Common.cond c (Connect 0 ∷ []) [])).tree ≡ has_call s.tree)
          [ true ↦ call_append (Connect 0) refl s.tree | false ↦ refl ]

  up_else : (t : ℕ) → t ≢ u → ((then).at t).up ≡ (w.at t).up
  up_else t ne = ap (λ (m : Member). m.up) (put_other w.at u t awake ne)

  resting : Resting g (then)
  resting = record {
    out = λ t p at' o. ⊎_elim (λ z. rest_here t z) (λ ne.
        quiet_else t (record { some = at'.some; node = at'.node }) ne
        (holds.resting.out t p at'
        (record { here = sym (mark_was t p (λ z. ne z.0)) ∙ o.here; there = λ z. o.there (branch_mark _ (grows _ _ (ap is_branch z))) })))
        (cases_eq t u);
    moved = λ t p at' m. moved t p at' m;
  }
    where
      rest_here : (t : ℕ) → t ≡ u → Quiet g (then) ((then).at t).fragment
      rest_here t z =
          subst (λ y. Quiet g (then) ((then).at y).fragment) (sym z)
          (subst (Quiet g (then)) (sym (fragments u)) (quiet g wired u u_is w holds at sleeps))

      moved : (t p : ℕ) →
          At g t p →
          Moved (tree_end (end g (then) t p)) (tree_end (end g (then) (far g t p) (far_port g t p))) →
          Quiet g (then) ((then).at t).fragment
      moved t p at' m =
          quiet_else t (record { some = at'.some; node = at'.node }) here
          (holds.resting.moved t p at' (record {
            both = record {
              joins = record { here = branch_mark _ old.here; there = branch_mark _ old.there };
              up = sym (up_else t here) ∙ m.both.up;
              up_beyond = sym (up_else _ there) ∙ m.both.up_beyond;
            };
            unnamed = λ z. m.unnamed (name_was g wired u u_is 0 at w holds awake (w.seen u) ((0, Connect 0) ∷ []) more t ∙ z);
          }))
        where
          old : IsJoinedIn g (forest w) t p
          old =
              let z = turns.only t p at' (record { here = ap is_branch m.both.joins.here; there = ap is_branch m.both.joins.there }) in
              record { here = z.here; there = z.there }

          here : t ≢ u
          here z = unbranched g wired u u_is w holds at sleeps p (subst (λ y. is_branch ((w.at y).mark p) ≡ true) z old.here)

          there : far g t p ≢ u
          there z =
              unbranched g wired u u_is w holds at sleeps (far_port g t p)
              (subst (λ y. is_branch ((w.at y).mark (far_port g t p)) ≡ true) z old.there)

  pub wakes_out : Invariant g (acts g u (awakened (w.at u)) (w.seen u) ((0, Connect 0) ∷ []) w)
  wakes_out = record {
    nodes = nodes_grown g wired u u_is 0 at w holds awake (w.seen u) ((0, Connect 0) ∷ []) more (node g wired u u_is w holds at sleeps);
    trees = trees;
    links = links;
    alone = alone_grown g wired u u_is 0 at w holds awake (w.seen u) ((0, Connect 0) ∷ []) more (λ z. let y : Found ≡ Sleeping = z in cc);
    named = named_grown g wired u u_is 0 at w holds awake (w.seen u) ((0, Connect 0) ∷ []) more refl;
    resting = resting;
    counted = counted g wired u u_is w holds at sleeps;
  }
