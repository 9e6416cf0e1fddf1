-- A Connect goes out over a link whose far end's Connect has come in: the two fragments merge.
use Rattle.std.proofs.Common.{◌≡◌, ◌≢◌, ℕ, suc, ◌^◌, ◌≤◌, ◌==◌, Bool, true, false, ◌||◌, Some, None, List, [], ◌∷◌, ◌++◌, refl, sym, ◌∙◌, ap, ap₂, subst, subst₂, ⊎_elim, ◌⊎◌, inl, inr, length, arith, cond, eq-eqb}
use Rattle.std.proofs.lemmas.Bool.{cases_eq}
use Rattle.std.proofs.lemmas.Option.{same_Some}
use Rattle.ghs_graph.specs.declared.key.Key.{Key}
use Rattle.ghs_node.specs.declared.head.Head.{Head}
use Rattle.ghs_node.specs.declared.mark.Mark.TheVariants.{Branch}
use Rattle.ghs_node.specs.declared.message.Phase.TheVariants.{Found}
use Rattle.ghs_node.specs.declared.message.Message.{Message}
use Rattle.ghs_node.specs.declared.message.Message.TheVariants.{Connect}
use Rattle.ghs_node.specs.Words.{Outgoing, is_branch}
use Rattle.peer_network.specs.Network.{Network, port_at, At, far, far_port, InNetwork}
use Rattle.peer_network.proofs.lemmas.Wired.{IsWired}
use Rattle.peer_network.specs.Updates.{put}
use Rattle.ghs_protocol.specs.Interleavings.{HaveAtLeast}
use Rattle.ghs_protocol.proofs.clauses.Scene.{Seen, adds, Member, Scene, End, TestEnd, end, tree_end, test_end, forest, acts, far_end}
use Rattle.ghs_protocol.proofs.clauses.Changes.{seen_beyond}
use Rattle.ghs_protocol.proofs.clauses.Nodes.{NodeFits}
use Rattle.ghs_protocol.proofs.clauses.Links.{Out}
use Rattle.ghs_protocol.proofs.clauses.TreeMessages.{ConnectUnderWay, Moved}
use Rattle.ghs_protocol.proofs.clauses.Tests.{TestsFit}
use Rattle.ghs_protocol.proofs.clauses.Fragments.{IsJoinedIn, Root, Goes_out, Both_ways, OneRoot, Reach, At_root, By_step, RootsReached, JoinedLinksLead}
use Rattle.ghs_protocol.proofs.clauses.Rest.{Quiet, Resting, has_call, DebtsCounted}
use Rattle.ghs_protocol.proofs.clauses.Whole.{Invariant, NamesOf, LinkFits}
use Rattle.ghs_protocol.proofs.clauses.Wiring.{Ground}
use Rattle.ghs_protocol.proofs.clauses.Uniting.{meet}
use Rattle.ghs_protocol.specs.Steps.{sent_on}
use Rattle.peer_network.proofs.lemmas.Updates.{put_same, put_other}
use Rattle.ghs_protocol.proofs.acts.Ends.{here_seen, far_seen}
use Rattle.ghs_protocol.proofs.acts.SameForest.{near', far', quiet_after, not_branch}
use Rattle.ghs_protocol.proofs.union.Risen.{tests_lifted}
use Rattle.ghs_protocol.proofs.union.NewCore.{has_call_connect, either_eq, or_true, new_core, new_search, tests_branch, tests_branch'}
use Rattle.ghs_protocol.proofs.acts.Many.{doubled, many_as}
use Rattle.ghs_protocol.proofs.union.OneFragment.{Off, Joinable, unites, raised, rise_in, place, On_it, Across, Off_it, Place, root_from}
use Rattle.ghs_protocol.proofs.union.NewBranch.{Branches, at_here, at_else, fragment_was, coming_was, name_was, mark_else, mark_here, joined_grows, joined_was, bridged, by_fragment_grown, names_within_grown, sizes_grown, within_grown, connected_grown, alone_grown, named_grown, nodes_grown, links_grown}
use Rattle.ghs_protocol.proofs.root.Ways.{RootAtNode, NeighboursLed}
use Rattle.ghs_protocol.proofs.rows.Link.{connect_comes, link_clauses}

-- the node that meets, with its new head
abbrev pub meeting : Member → Head → ℕ → Member
meeting m h b = record m { head = h; mark = put m.mark b Branch; up = Some b }

-- what is owed of u, whose Connect goes out on port b
pub record Meets (g : Network) (wired : IsWired g) (u : ℕ) (u_is : InNetwork g u) (b : ℕ) (w : Scene) (h : Head) (own : ℕ → Seen) : Type 0 where
  pub node : NodeFits (length (g.ports u)) (meeting (w.at u) h b)
  pub found : h.phase ≡ Found
  pub name : h.name ≡ (w.at u).head.name
  pub probe : (w.at u).head.probe ≡ None
  pub probe' : h.probe ≡ None
  pub same_level : h.level ≡ (w.at u).head.level
  pub top : h.level ≡ (w.at u).coming
  pub least : h.level ≤ (w.at (far g u b)).head.level
  pub unmarked : (w.at u).mark b ≢ Branch
  pub marked : (w.at (far g u b)).mark (far_port g u b) ≡ Branch
  pub own_same : own b ≡ w.seen u b
  pub near : (i : ℕ) →
      At g u i →
      i ≢ b →
      LinkFits (NamesOf g w)
      (near' g wired u u_is (meeting (w.at u) h b) own ((b, Connect h.level) ∷ []) w i)
      (far' g wired u u_is (meeting (w.at u) h b) own ((b, Connect h.level) ∷ []) w i)
  pub away : (i : ℕ) →
      At g u i →
      i ≢ b →
      LinkFits (NamesOf g w)
      (far' g wired u u_is (meeting (w.at u) h b) own ((b, Connect h.level) ∷ []) w i)
      (near' g wired u u_is (meeting (w.at u) h b) own ((b, Connect h.level) ∷ []) w i)
  pub quiet : Quiet g (acts g u (meeting (w.at u) h b) own ((b, Connect h.level) ∷ []) w) (w.at u).fragment
  -- the fragment's old root, if there is one, is a joined link at u; and the joined links of u are their far ends' ways
  pub old : RootAtNode g (forest w) u
  pub led : NeighboursLed g (forest w) u
  pub counted : DebtsCounted g (acts g u (meeting (w.at u) h b) own ((b, Connect h.level) ∷ []) w)

module _ (g : Network) (ground : Ground g) (u : ℕ) (u_is : InNetwork g u) (b : ℕ) (at : At g u b) (w : Scene) (holds : Invariant g w)
    (h : Head) (own : ℕ → Seen) (owed : Meets g ground.wired u u_is b w h own) where
  abbrev pub sends : Outgoing
  sends = (b, Connect h.level) ∷ []

  abbrev pub sent : Scene
  sent = acts g u (meeting (w.at u) h b) own ((b, Connect h.level) ∷ []) w

  more : Branches (w.at u) (meeting (w.at u) h b) b
  more = record {
    fragment = refl;
    coming = refl;
    coming_name = refl;
    mark = put_same (w.at u).mark b Branch;
    marks = λ p ne. put_other (w.at u).mark b p Branch ne;
  }

  is_here : sent.at u ≡ meeting (w.at u) h b
  is_here = at_here g ground.wired u u_is b at w holds (meeting (w.at u) h b) own sends more

  is_else : (t : ℕ) → t ≢ u → sent.at t ≡ w.at t
  is_else t ne = at_else g ground.wired u u_is b at w holds (meeting (w.at u) h b) own sends more t ne

  fragment_is : (t : ℕ) → (sent.at t).fragment ≡ (w.at t).fragment
  fragment_is t = fragment_was g ground.wired u u_is b at w holds (meeting (w.at u) h b) own sends more t

  coming_is : (t : ℕ) → (sent.at t).coming ≡ (w.at t).coming
  coming_is t = coming_was g ground.wired u u_is b at w holds (meeting (w.at u) h b) own sends more t

  mark_is_else : (t p : ℕ) → ((t ≡ u) × (p ≡ b) → ⊥) → (sent.at t).mark p ≡ (w.at t).mark p
  mark_is_else t p off = mark_else g ground.wired u u_is b at w holds (meeting (w.at u) h b) own sends more t p off

  joined_old : (t p : ℕ) → Off g u b t p → IsJoinedIn g (forest sent) t p → IsJoinedIn g (forest w) t p
  joined_old t p off j = joined_was g ground.wired u u_is b at w holds (meeting (w.at u) h b) own sends more t p off j

  joined_new : (t p : ℕ) → IsJoinedIn g (forest w) t p → IsJoinedIn g (forest sent) t p
  joined_new t p j = joined_grows g ground.wired u u_is b at w holds (meeting (w.at u) h b) own sends more t p j

  bridge : IsJoinedIn g (forest sent) u b
  bridge = bridged g ground.wired u u_is b at w holds (meeting (w.at u) h b) own sends more owed.marked

  -- the far end: its Connect has come in
  at_y : At g (far g u b) (far_port g u b)
  at_y = ground.wired.there u b at

  y_in : InNetwork g (far g u b)
  y_in = record { some = at_y.some; node = at_y.node }

  u_in : InNetwork g u
  u_in = u_is

  not_u : far g u b ≢ u
  not_u = ground.wired.apart u b at

  unmarked_back : (w.at (far g (far g u b) (far_port g u b))).mark (far_port g (far g u b) (far_port g u b)) ≢ Branch
  unmarked_back e = owed.unmarked (subst₂ (λ p q. (w.at p).mark q ≡ Branch) (ground.wired.back u b at) (ground.wired.back_port u b at) e)

  open link_clauses g ground.wired w holds u b at use {link, link'}

  came : ConnectUnderWay (tree_end (far_end g w u b)) (tree_end (end g w u b))
  came = connect_comes g ground.wired w holds u b at owed.marked owed.unmarked

  level_y : (w.at (far g u b)).head.level ≡ h.level
  level_y = let z = came.higher in let q = owed.same_level in let r = owed.least in omega (arith, z, q, r)

  coming_y : (w.at (far g u b)).coming ≡ h.level
  coming_y = sym came.level ∙ level_y

  apart : (w.at u).fragment ≢ (w.at (far g u b)).fragment
  apart = came.apart

  root_y : Root g (forest w) (far g u b) (far_port g u b)
  root_y = Goes_out (ap is_branch owed.marked) (not_branch _ unmarked_back)

  quiet_y : Quiet g w (w.at (far g u b)).fragment
  quiet_y = holds.resting.out (far g u b) (far_port g u b) at_y (record { here = owed.marked; there = unmarked_back })

  calls_same : (q : Seen) (i : ℕ) → has_call (adds q (sent_on sends i)).tree ≡ has_call q.tree
  calls_same q i =
      elim (b == i) as
      (λ c. has_call (adds q (cond c (Connect h.level ∷ []) [])).tree ≡ has_call q.tree)
      [ true ↦ has_call_connect q.tree h.level | false ↦ refl ]

  -- fragments but u's stay at rest
  quiet_else : (a : ℕ) → (w.at u).fragment ≢ a → Quiet g w a → Quiet g sent a
  quiet_else a ne q =
      quiet_after g ground.wired u u_is (meeting (w.at u) h b) own sends w a q (λ e. absurd (ne e)) (λ i at' e. absurd (ne e))
      (λ i at' e. calls_same (seen_beyond g w u i) i ∙ q.uncalled _ _ (ground.wired.there u i at') e)

  quiet_y' : Quiet g sent (w.at (far g u b)).fragment
  quiet_y' = quiet_else _ apart quiet_y

  -- a root off the new link is an old root of another fragment
  data Elsewhere (t p : ℕ) : Type 0 where
    Old_root : Root g (forest w) t p → (w.at t).fragment ≢ (w.at u).fragment → (w.at t).fragment ≢ (w.at (far g u b)).fragment → Elsewhere t p

  not_of_y : (t p : ℕ) → At g t p → Off g u b t p → Root g (forest w) t p → (w.at t).fragment ≢ (w.at (far g u b)).fragment
  not_of_y t p at' off r same =
      ⊎_elim (λ z.
      off.there
      (ap₂ (far g) (sym z.0) (sym z.1) ∙ ground.wired.back u b at, ap₂ (far_port g) (sym z.0) (sym z.1) ∙ ground.wired.back_port u b at))
      (λ z. off.here (sym z.0 ∙ ground.wired.back u b at, sym z.1 ∙ ground.wired.back_port u b at))
      (holds.trees.one_root (far g u b) (far_port g u b) t p at_y at' root_y r (sym same))

  up_here : (sent.at u).up ≡ Some b
  up_here = ap (λ (m : Member). m.up) is_here

  up_else : (t : ℕ) → t ≢ u → (sent.at t).up ≡ (w.at t).up
  up_else t ne = ap (λ (m : Member). m.up) (is_else t ne)

  unjoined_out : (t p : ℕ) → IsJoinedIn g (forest w) t p → is_branch ((w.at (far g t p)).mark (far_port g t p)) ≡ false → ⊥
  unjoined_out t p j e = let z = j.there in cc (z, e)

  old_root : (t p : ℕ) → At g t p → Off g u b t p → Root g (forest sent) t p → Elsewhere t p
  old_root t p at' off (Goes_out c d) =
      let d' : is_branch ((w.at (far g t p)).mark (far_port g t p)) ≡ false = sym (ap is_branch (mark_is_else _ _ off.there)) ∙ d in
      let r : Root g (forest w) t p = Goes_out (sym (ap is_branch (mark_is_else t p off.here)) ∙ c) d' in
      Old_root r (λ e. unjoined_out t p (owed.old t p at' r e).0 d') (not_of_y t p at' off r)
  old_root t p at' off (Both_ways j c d) = Old_root r (λ e. ⊎_elim away_t away_far (owed.old t p at' r e).1) (not_of_y t p at' off r)
    where
      away_t : t ≢ u
      away_t e = off.here (e, same_Some p b (sym c ∙ subst (λ z. (sent.at z).up ≡ Some b) (sym e) up_here))

      away_far : far g t p ≢ u
      away_far e = off.there (e, same_Some (far_port g t p) b (sym d ∙ subst (λ z. (sent.at z).up ≡ Some b) (sym e) up_here))

      r : Root g (forest w) t p
      r = Both_ways (joined_old t p off j) (sym (up_else t away_t) ∙ c) (sym (up_else _ away_far) ∙ d)

  -- who reached a root reaches one
  up_far : (sent.at (far g u b)).up ≡ Some (far_port g u b)
  up_far = up_else _ not_u ∙ came.up

  reach_u : Reach g (forest sent) u
  reach_u = At_root b at up_here (Both_ways bridge up_here up_far)

  reach_y : Reach g (forest sent) (far g u b)
  reach_y =
      By_step (far_port g u b) at_y up_far (record {
        here = bridge.there;
        there =
            subst₂ (λ p q. (forest sent).branch p q ≡ true) (sym (ground.wired.back u b at)) (sym (ground.wired.back_port u b at)) bridge.here;
      })
      (subst (Reach g (forest sent)) (sym (ground.wired.back u b at)) reach_u)

  carried : {t : ℕ} → Reach g (forest w) t → Reach g (forest sent) t
  carried {t} (At_root p at' way (Goes_out c d)) =
      ⊎_elim (λ e. subst (Reach g (forest sent)) (sym e) reach_u)
      (λ ne. ⊎_elim (λ e. subst (Reach g (forest sent)) (sym e) reach_y)
      (λ ne'.
      At_root p at' (up_else t ne ∙ way) (Goes_out (ap is_branch (mark_is_else t p (λ z. ne z.0)) ∙ c)
      (ap is_branch (mark_is_else _ _ (λ z. ne' (sym (ground.wired.back t p at') ∙ ap₂ (far g) z.0 z.1))) ∙ d)))
      (cases_eq t (far g u b)))
      (cases_eq t u)
  carried {t} (At_root p at' way (Both_ways j c d)) =
      ⊎_elim (λ e. subst (Reach g (forest sent)) (sym e) reach_u)
      (λ ne. ⊎_elim
      (λ e. By_step p at' (up_else t ne ∙ way) (joined_new t p j) (subst (Reach g (forest sent)) (sym e) reach_u))
      (λ ne'. At_root p at' (up_else t ne ∙ way) (Both_ways (joined_new t p j) (up_else t ne ∙ c) (up_else _ ne' ∙ d)))
      (cases_eq (far g t p) u))
      (cases_eq t u)
  carried {t} (By_step p at' way j r) =
      ⊎_elim (λ e. subst (Reach g (forest sent)) (sym e) reach_u)
      (λ ne. By_step p at' (up_else t ne ∙ way) (joined_new t p j) (carried r))
      (cases_eq t u)

  reached : RootsReached g (forest sent)
  reached t p is e =
      ⊎_elim (λ z. subst (Reach g (forest sent)) (sym z) reach_u) (λ ne. carried (holds.trees.reached t p is (sym (up_else t ne) ∙ e)))
      (cases_eq t u)

  joined_lead : JoinedLinksLead g (forest sent)
  joined_lead t p at' j = ⊎_elim here not_here (cases_eq t u)
    where
      here : t ≡ u → ((sent.at t).up ≡ Some p) ⊎ ((sent.at (far g t p)).up ≡ Some (far_port g t p))
      here e =
          ⊎_elim
          (λ z. inl (subst₂ (λ s q. (sent.at s).up ≡ Some q) (sym e) (sym z) up_here))
          (λ ne.
          inr (up_else _ (λ z. ground.wired.apart t p at' (z ∙ sym e)) ∙
          subst (λ s. (w.at (far g s p)).up ≡ Some (far_port g s p)) (sym e)
          (owed.led p (subst (λ s. At g s p) e at') (subst (λ s. IsJoinedIn g (forest w) s p) e
          (joined_old t p (record { here = λ z. ne z.1; there = λ z. ground.wired.apart t p at' (z.0 ∙ sym e) }) j)))))
          (cases_eq p b)

      there : t ≢ u → far g t p ≡ u → ((sent.at t).up ≡ Some p) ⊎ ((sent.at (far g t p)).up ≡ Some (far_port g t p))
      there ne e =
          ⊎_elim
          (λ z. inr (subst₂ (λ s q. (sent.at s).up ≡ Some q) (sym e) (sym z) up_here))
          (λ nb.
          inl (up_else t ne ∙
          subst₂ (λ s q. (w.at s).up ≡ Some q)
          (ap (λ s. far g s (far_port g t p)) (sym e) ∙ ground.wired.back t p at')
          (ap (λ s. far_port g s (far_port g t p)) (sym e) ∙ ground.wired.back_port t p at')
          (owed.led (far_port g t p) (subst (λ s. At g s (far_port g t p)) e (ground.wired.there t p at')) (turned ne nb e))))
          (cases_eq (far_port g t p) b)
        where
          turned : t ≢ u → far_port g t p ≢ b → far g t p ≡ u → IsJoinedIn g (forest w) u (far_port g t p)
          turned ne nb e =
              let z = joined_old t p (record { here = λ q. ne q.0; there = λ q. nb q.1 }) j in record {
                here = subst (λ s. (forest w).branch s (far_port g t p) ≡ true) e z.there;
                there =
                    subst
                    (λ s. (forest w).branch (far g s (far_port g t p)) (far_port g s (far_port g t p)) ≡ true)
                    e
                    (subst₂ (λ s q. (forest w).branch s q ≡ true) (sym (ground.wired.back t p at')) (sym (ground.wired.back_port t p at')) z.here);
              }

      not_here : t ≢ u → ((sent.at t).up ≡ Some p) ⊎ ((sent.at (far g t p)).up ≡ Some (far_port g t p))
      not_here ne =
          ⊎_elim (there ne) (λ ne'. ⊎_elim (λ z. inl (up_else t ne ∙ z)) (λ z. inr (up_else _ ne' ∙ z))
          (holds.trees.joined_lead t p at' (joined_old t p (record { here = λ q. ne q.0; there = λ q. ne' q.0 }) j)))
          (cases_eq (far g t p) u)

  -- the two fragments are lifted
  lifts : ℕ → Bool
  lifts k = (k == (sent.at (far g u b)).fragment) || (k == (sent.at u).fragment)

  abbrev pub high : ℕ
  high = suc (sent.at u).head.level

  level_u : (sent.at u).head.level ≡ h.level
  level_u = ap (λ (m : Member). m.head.level) is_here

  lifts_u : lifts (sent.at u).fragment ≡ true
  unfolding lifts
  lifts_u = rw (eq-eqb (sent.at u).fragment (sent.at u).fragment refl, or_true) refl

  lifts_y : lifts (sent.at (far g u b)).fragment ≡ true
  unfolding lifts
  lifts_y = rw (eq-eqb (sent.at (far g u b)).fragment (sent.at (far g u b)).fragment refl) refl

  which : (k : ℕ) → lifts k ≡ true → (k ≡ (sent.at (far g u b)).fragment) ⊎ (k ≡ (sent.at u).fragment)
  unfolding lifts
  which k e = either_eq k _ _ e

  -- in terms of the scene before
  of_two : (t : ℕ) → lifts (sent.at t).fragment ≡ true → ((w.at t).fragment ≡ (w.at (far g u b)).fragment) ⊎ ((w.at t).fragment ≡ (w.at u).fragment)
  of_two t e = ⊎_elim (λ z. inl (sym (fragment_is t) ∙ z ∙ fragment_is _)) (λ z. inr (sym (fragment_is t) ∙ z ∙ fragment_is u)) (which _ e)

  lifts_two : (t : ℕ) →
      ((w.at t).fragment ≡ (w.at (far g u b)).fragment) ⊎ ((w.at t).fragment ≡ (w.at u).fragment) →
      lifts (sent.at t).fragment ≡ true
  lifts_two t (inl z) = ap lifts (fragment_is t ∙ z ∙ sym (fragment_is _)) ∙ lifts_y
  lifts_two t (inr z) = ap lifts (fragment_is t ∙ z ∙ sym (fragment_is u)) ∙ lifts_u

  unlifted : (t : ℕ) → (w.at t).fragment ≢ (w.at u).fragment → (w.at t).fragment ≢ (w.at (far g u b)).fragment → lifts (sent.at t).fragment ≡ false
  unlifted t ne ne' = go (lifts (sent.at t).fragment) refl
    where
      go : (c : Bool) → lifts (sent.at t).fragment ≡ c → lifts (sent.at t).fragment ≡ false
      go true e = absurd (⊎_elim ne' ne (of_two t e))
      go false e = e

  coming_two : (t : ℕ) → lifts (sent.at t).fragment ≡ true → (sent.at t).coming ≡ h.level
  coming_two t e =
      coming_is t ∙
      ⊎_elim (λ z. (holds.trees.by_fragment t (far g u b) z).0 ∙ coming_y) (λ z. (holds.trees.by_fragment t u z).0 ∙ sym owed.top)
      (of_two t e)

  quiet_two : (k : ℕ) → lifts k ≡ true → Quiet g sent k
  quiet_two k e =
      ⊎_elim
      (λ z. subst (Quiet g sent) (sym (fragment_is (far g u b)) ∙ sym z) quiet_y')
      (λ z. subst (Quiet g sent) (sym (fragment_is u) ∙ sym z) owed.quiet)
      (which k e)

  joinable : Joinable g sent u b lifts high (Some (port_at g u b).key)
  joinable = record {
    at = at;
    bridge = bridge;
    nodes = nodes_grown g ground.wired u u_is b at w holds (meeting (w.at u) h b) own sends more owed.node;
    links = links_grown g ground.wired u u_is b at w holds (meeting (w.at u) h b) own sends more owed.near owed.away;
    by_fragment = by_fragment_grown g ground.wired u u_is b at w holds (meeting (w.at u) h b) own sends more;
    names_within = names_within_grown g ground.wired u u_is b at w holds (meeting (w.at u) h b) own sends more;
    sizes = sizes_grown g ground.wired u u_is b at w holds (meeting (w.at u) h b) own sends more;
    within = within_grown g ground.wired u u_is b at w holds (meeting (w.at u) h b) own sends more;
    connected = connected_grown g ground.wired u u_is b at w holds (meeting (w.at u) h b) own sends more;
    joined_lead = joined_lead;
    reached = reached;
    alone = alone_grown g ground.wired u u_is b at w holds (meeting (w.at u) h b) own sends more (λ z. let y = owed.found in cc (y, z));
    named = named_grown g ground.wired u u_is b at w holds (meeting (w.at u) h b) own sends more owed.name;
    counted = owed.counted;
    awake = λ z. let y = owed.found in let q = ap (λ (m : Member). m.head.phase) is_here in cc (y, z, q);
    which = λ k e. ⊎_elim inr inl (which k e);
    far_lifts = lifts_y;
    kept = λ e. absurd (let z = lifts_u in cc (e, z));
    low = λ t is e. let z = coming_two t e in let y = level_u in omega (arith, z, y);
    found = λ t is e. (quiet_two _ e).found t is refl;
    uncalled = λ t p at' off e. (quiet_two _ e).uncalled t p at' refl;
    unrooted = λ t p at' off e r. gone t (old_root t p at' off r) (of_two t e);
    name = (port_at g u b).key;
    is_name = refl;
    name_in = record { node = u; port = b; at = at; joined = bridge; fragment = refl; key = refl };
    other = λ t p at' off e j same. ⊎_elim (λ z. off.here (sym z.0, sym z.1)) (λ z.
        off.there
        (ap₂ (far g) (sym z.0) (sym z.1) ∙ ground.wired.back u b at, ap₂ (far_port g) (sym z.0) (sym z.1) ∙ ground.wired.back_port u b at))
        (ground.keyed u b t p at at' (one_key same));
  }
    where
      gone : (t : ℕ) → {p : ℕ} → Elsewhere t p → ((w.at t).fragment ≡ (w.at (far g u b)).fragment) ⊎ ((w.at t).fragment ≡ (w.at u).fragment) → ⊥
      gone t (Old_root r ne ne') z = ⊎_elim ne' ne z

      one_key : {j k : Key} → Some j ≡ Some k → j ≡ k
      one_key e = cc

  abbrev pub met : Scene
  met = meet g u b (acts g u (meeting (w.at u) h b) own ((b, Connect h.level) ∷ []) w)

  fragment_two : (t : ℕ) → lifts (sent.at t).fragment ≡ true → (met.at t).fragment ≡ (sent.at u).fragment
  unfolding lifts
  fragment_two t e = rw e refl

  fragment_other : (t : ℕ) → lifts (sent.at t).fragment ≡ false → met.at t ≡ sent.at t
  unfolding lifts
  fragment_other t e = rw e refl

  -- enough nodes
  many : HaveAtLeast (2 ^ (suc (sent.at u).head.level)) (λ t. InNetwork g t × ((met.at t).fragment ≡ (sent.at u).fragment))
  many =
      subst
      (λ k. HaveAtLeast (2 ^ (suc k)) (λ t. InNetwork g t × ((met.at t).fragment ≡ (sent.at u).fragment))) (sym level_u)
      (many_as _
      (λ t z. ⊎_elim (λ s. (s.0, fragment_two t (lifts_two t (inr s.1)))) (λ s. (s.0, fragment_two t (lifts_two t (inl s.1)))) z)
      (doubled h.level (λ t p q. apart (sym p.1 ∙ q.1))
      (subst (λ k. HaveAtLeast (2 ^ k) (λ t. InNetwork g t × ((w.at t).fragment ≡ (w.at u).fragment))) (sym owed.top) (holds.trees.sizes u u_in))
      (subst
      (λ k. HaveAtLeast (2 ^ k) (λ t. InNetwork g t × ((w.at t).fragment ≡ (w.at (far g u b)).fragment)))
      coming_y (holds.trees.sizes (far g u b) y_in))))

  -- where a root lies
  data Lies (t p : ℕ) : Type 0 where
    At_link : t ≡ u → p ≡ b → Lies t p
    At_far : far g t p ≡ u → far_port g t p ≡ b → Lies t p
    Off_link : Root g (forest w) t p → lifts (sent.at t).fragment ≡ false → Lies t p

  lies : (t p : ℕ) → At g t p → Root g (forest met) t p → Lies t p
  unfolding lifts
  lies t p at' r = go (place g ground.wired sent u b lifts high (Some (port_at g u b).key) joinable t p)
    where
      off : {t p : ℕ} → Elsewhere t p → Lies t p
      off {t} (Old_root r ne ne') = Off_link r (unlifted t ne ne')

      go : Place g ground.wired sent u b lifts high (Some (port_at g u b).key) joinable t p → Lies t p
      go (On_it e k) = At_link e k
      go (Across e k) = At_far e k
      go (Off_it o) = off (old_root t p at' o (root_from g ground.wired sent u b lifts high (Some (port_at g u b).key) joinable t p r))

  on_link : (t : ℕ) → (t ≡ u) ⊎ (t ≡ far g u b) → (met.at t).fragment ≡ (sent.at u).fragment
  on_link t (inl e) = fragment_two t (ap (λ s. lifts (sent.at s).fragment) e ∙ lifts_u)
  on_link t (inr e) = fragment_two t (ap (λ s. lifts (sent.at s).fragment) e ∙ lifts_y)

  off_two : (t : ℕ) → lifts (sent.at t).fragment ≡ false → (met.at t).fragment ≢ (sent.at u).fragment
  off_two t e z =
      let y : (sent.at t).fragment ≡ (sent.at u).fragment = sym (ap (λ (m : Member). m.fragment) (fragment_other t e)) ∙ z in
      let q = ap lifts y in let r = lifts_u in cc (e, q, r)

  at_far_is : (t p : ℕ) → At g t p → far g t p ≡ u → far_port g t p ≡ b → (t ≡ far g u b) × (p ≡ far_port g u b)
  at_far_is t p at' e k = (sym (ground.wired.back t p at') ∙ ap₂ (far g) e k, sym (ground.wired.back_port t p at') ∙ ap₂ (far_port g) e k)

  one_root : OneRoot g (forest met)
  one_root t p s q at' at'' r r' same = go (lies t p at' r) (lies s q at'' r')
    where
      go : Lies t p → Lies s q → ((t ≡ s) × (p ≡ q)) ⊎ ((far g t p ≡ s) × (far_port g t p ≡ q))
      go (At_link e k) (At_link e' k') = inl (e ∙ sym e', k ∙ sym k')
      go (At_link e k) (At_far e' k') = let z = at_far_is s q at'' e' k' in inr (ap₂ (far g) e k ∙ sym z.0, ap₂ (far_port g) e k ∙ sym z.1)
      go (At_far e k) (At_link e' k') = inr (e ∙ sym e', k ∙ sym k')
      go (At_far e k) (At_far e' k') = let y = at_far_is t p at' e k in let z = at_far_is s q at'' e' k' in inl (y.0 ∙ sym z.0, y.1 ∙ sym z.1)
      go (At_link e k) (Off_link o c) = absurd (off_two s c (sym same ∙ on_link t (inl e)))
      go (At_far e k) (Off_link o c) = absurd (off_two s c (sym same ∙ on_link t (inr (at_far_is t p at' e k).0)))
      go (Off_link o c) (At_link e k) = absurd (off_two t c (same ∙ on_link s (inl e)))
      go (Off_link o c) (At_far e k) = absurd (off_two t c (same ∙ on_link s (inr (at_far_is s q at'' e k).0)))
      go (Off_link o c) (Off_link o' c') = holds.trees.one_root t p s q at' at'' o o' (was t c ∙ same ∙ sym (was s c'))
        where
          was : (t : ℕ) → lifts (sent.at t).fragment ≡ false → (w.at t).fragment ≡ (met.at t).fragment
          was t c = sym (fragment_is t) ∙ sym (ap (λ (m : Member). m.fragment) (fragment_other t c))

  -- fragments at rest elsewhere
  quiet_met : (t : ℕ) → lifts (sent.at t).fragment ≡ false → Quiet g w (w.at t).fragment → Quiet g met (met.at t).fragment
  quiet_met t c q = subst (Quiet g met) (sym (ap (λ (m : Member). m.fragment) (fragment_other t c))) (record {
    found = λ s is e. let z = back s e in ap (λ (m : Member). m.head.phase) (fragment_other s z.0) ∙ rest.found s is z.1;
    uncalled = λ s p at' e. let z = back s e in rest.uncalled s p at' z.1;
  })
    where
      rest : Quiet g sent (sent.at t).fragment
      rest = subst (Quiet g sent) (sym (fragment_is t)) (quiet_else _ (λ e. let z = lifts_two t (inr (sym e)) in cc (c, z)) q)

      back : (s : ℕ) →
          (met.at s).fragment ≡ (sent.at t).fragment →
          (lifts (sent.at s).fragment ≡ false) × ((sent.at s).fragment ≡ (sent.at t).fragment)
      back s e = go (lifts (sent.at s).fragment) refl
        where
          go : (d : Bool) → lifts (sent.at s).fragment ≡ d → (lifts (sent.at s).fragment ≡ false) × ((sent.at s).fragment ≡ (sent.at t).fragment)
          go true k = absurd (off_two t c (ap (λ (m : Member). m.fragment) (fragment_other t c) ∙ sym e ∙ fragment_two s k))
          go false k = (k, sym (ap (λ (m : Member). m.fragment) (fragment_other s k)) ∙ e)

  -- a member off the new link is as it was, but for marks and ways at u
  mark_met : (t p : ℕ) → (met.at t).mark p ≡ (sent.at t).mark p
  unfolding lifts
  mark_met t p =
      elim (lifts (sent.at t).fragment) as
      (λ c. (cond c (raised (sent.at u).fragment high (Some (port_at g u b).key) (sent.at t)) (sent.at t)).mark p ≡ (sent.at t).mark p)
      [ true ↦ refl | false ↦ refl ]

  named_far : (met.at (far g u b)).coming_name ≡ Some (port_at g u b).key
  unfolding lifts
  named_far = ap (λ (m : Member). m.coming_name) (rise_in lifts (sent.at u).fragment high (Some (port_at g u b).key) (sent.at (far g u b)) lifts_y)

  named_here : (met.at u).coming_name ≡ Some (port_at g u b).key
  unfolding lifts
  named_here = ap (λ (m : Member). m.coming_name) (rise_in lifts (sent.at u).fragment high (Some (port_at g u b).key) (sent.at u) lifts_u)

  calm_off : (t p : ℕ) → Off g u b t p → Lies t p → lifts (sent.at t).fragment ≡ false
  calm_off t p off (At_link e k) = absurd (off.here (e, k))
  calm_off t p off (At_far e k) = absurd (off.there (e, k))
  calm_off t p off (Off_link r c) = c

  old_mark : (t p : ℕ) → ((t ≡ u) × (p ≡ b) → ⊥) → (met.at t).mark p ≡ (w.at t).mark p
  old_mark t p off = mark_met t p ∙ mark_is_else t p off

  old_up : (t : ℕ) → lifts (sent.at t).fragment ≡ false → (met.at t).up ≡ (w.at t).up
  old_up t c =
      ap (λ (k : Member). k.up) (fragment_other t c) ∙
      up_else t (λ e. let z = lifts_u in let q = ap (λ s. lifts (sent.at s).fragment) e in cc (c, z, q))

  rests : Resting g met
  rests = record {
    out = λ t p at' o. out t p at' o (place g ground.wired sent u b lifts high (Some (port_at g u b).key) joinable t p);
    moved = λ t p at' m. moved t p at' m (place g ground.wired sent u b lifts high (Some (port_at g u b).key) joinable t p);
  }
    where
      out : (t p : ℕ) →
          At g t p →
          Out (tree_end (end g met t p)) (tree_end (end g met (far g t p) (far_port g t p))) →
          Place g ground.wired sent u b lifts high (Some (port_at g u b).key) joinable t p →
          Quiet g met (met.at t).fragment
      out t p at' o (On_it e k) =
          absurd
          (o.there (mark_met _ _ ∙ ap₂ (λ s q. (sent.at (far g s q)).mark (far_port g s q)) e k ∙ mark_is_else _ _ (λ z. not_u z.0) ∙ owed.marked))
      out t p at' o (Across e k) =
          absurd (o.there
          (mark_met _ _ ∙ ap₂ (λ s q. (sent.at s).mark q) e k ∙ mark_here g ground.wired u u_is b at w holds (meeting (w.at u) h b) own sends more))
      out t p at' o (Off_it off) =
          quiet_met t
          (calm_off t p off (lies t p at' (Goes_out (ap is_branch o.here) (not_branch _ o.there))))
          (holds.resting.out t p at' (record { here = sym (old_mark t p off.here) ∙ o.here; there = λ z. o.there (old_mark _ _ off.there ∙ z) }))

      moved : (t p : ℕ) →
          At g t p →
          Moved (tree_end (end g met t p)) (tree_end (end g met (far g t p) (far_port g t p))) →
          Place g ground.wired sent u b lifts high (Some (port_at g u b).key) joinable t p →
          Quiet g met (met.at t).fragment
      moved t p at' m (On_it e k) =
          absurd (m.unnamed (ap (λ s. (met.at s).coming_name) e ∙ named_here ∙ ap₂ (λ s q. Some (port_at g s q).key) (sym e) (sym k)))
      moved t p at' m (Across e k) =
          let z = at_far_is t p at' e k in
          absurd (m.unnamed (ap (λ s. (met.at s).coming_name) z.0 ∙ named_far ∙ ap Some (sym (ground.wired.same_key u b at)) ∙
          ap₂ (λ s q. Some (port_at g s q).key) (sym z.0) (sym z.1)))
      moved t p at' m (Off_it off) =
          quiet_met t calm
          (holds.resting.moved t p at' (record {
            both = record {
              joins = record { here = mine; there = theirs };
              up = sym (old_up t calm) ∙ m.both.up;
              up_beyond = sym (old_up _ calm') ∙ m.both.up_beyond;
            };
            unnamed = λ z.
                m.unnamed (ap (λ (k : Member). k.coming_name) (fragment_other t calm) ∙
                name_was g ground.wired u u_is b at w holds (meeting (w.at u) h b) own sends more t ∙ z);
          }))
        where
          mine : (w.at t).mark p ≡ Branch
          mine = sym (old_mark t p off.here) ∙ m.both.joins.here

          theirs : (w.at (far g t p)).mark (far_port g t p) ≡ Branch
          theirs = sym (old_mark _ _ off.there) ∙ m.both.joins.there

          calm : lifts (sent.at t).fragment ≡ false
          calm =
              calm_off t p off (lies t p at'
              (Both_ways (record { here = ap is_branch m.both.joins.here; there = ap is_branch m.both.joins.there }) m.both.up m.both.up_beyond))

          calm' : lifts (sent.at (far g t p)).fragment ≡ false
          calm' =
              ap lifts
              (fragment_is (far g t p) ∙ sym (holds.trees.joined_within t p at' (record { here = ap is_branch mine; there = ap is_branch theirs })) ∙
              sym (fragment_is t)) ∙ calm

  -- the two ends of the new core
  abbrev pub core_here : End
  core_here = record {
    port = b;
    key = (port_at g u b).key;
    mark = Branch;
    is = raised (sent.at u).fragment high (Some (port_at g u b).key) (meeting (w.at u) h b);
    seen = w.seen u b;
  }

  abbrev pub core_there : End
  core_there = record {
    port = far_port g u b;
    key = (port_at g u b).key;
    mark = Branch;
    is = raised (sent.at u).fragment high (Some (port_at g u b).key) (w.at (far g u b));
    seen = record (seen_beyond g w u b) { tree = (seen_beyond g w u b).tree ++ Connect h.level ∷ [] };
  }

  member_here : met.at u ≡ raised (sent.at u).fragment high (Some (port_at g u b).key) (meeting (w.at u) h b)
  unfolding lifts
  member_here =
      rise_in lifts (sent.at u).fragment high (Some (port_at g u b).key) (sent.at u) lifts_u ∙
      ap (raised (sent.at u).fragment high (Some (port_at g u b).key)) is_here

  member_there : met.at (far g u b) ≡ raised (sent.at u).fragment high (Some (port_at g u b).key) (w.at (far g u b))
  unfolding lifts
  member_there =
      rise_in lifts (sent.at u).fragment high (Some (port_at g u b).key) (sent.at (far g u b)) lifts_y ∙
      ap (raised (sent.at u).fragment high (Some (port_at g u b).key)) (is_else _ not_u)

  seen_here : met.seen u b ≡ w.seen u b
  seen_here = here_seen g ground.wired u u_is.some u_is.node (meeting (w.at u) h b) own sends w b ∙ owed.own_same

  one_sent : sent_on sends b ≡ Connect h.level ∷ []
  one_sent = rw (eq-eqb b b refl) refl

  seen_there : seen_beyond g met u b ≡ record (seen_beyond g w u b) { tree = (seen_beyond g w u b).tree ++ Connect h.level ∷ [] }
  seen_there =
      far_seen g ground.wired u u_is.some u_is.node (meeting (w.at u) h b) own sends w b at ∙
      ap (λ (xs : List Message). adds (seen_beyond g w u b) xs) one_sent

  end_here : end g met u b ≡ core_here
  end_here = λ i. record {
    port = b;
    key = (port_at g u b).key;
    mark = (ap (λ (m : Member). m.mark b) member_here ∙ put_same (w.at u).mark b Branch) i;
    is = member_here i;
    seen = seen_here i;
  }

  end_there : end g met (far g u b) (far_port g u b) ≡ core_there
  end_there = λ i. record {
    port = far_port g u b;
    key = ground.wired.same_key u b at i;
    mark = (ap (λ (m : Member). m.mark (far_port g u b)) member_there ∙ owed.marked) i;
    is = member_there i;
    seen = seen_there i;
  }

  idle_y : (w.at (far g u b)).head.probe ≡ None
  idle_y = ((holds.nodes (far g u b) y_in).idle (λ z. let q = quiet_y.found (far g u b) y_in refl in cc (z, q))).0

  abbrev pub was_here : TestEnd
  was_here = record (test_end (end g w u b)) { mark = Branch; probe = None }

  head_tests :
      was_here ≡
      record {
        port = b;
        mark = Branch;
        fragment = (w.at u).fragment;
        level = h.level;
        name = h.name;
        probe = h.probe;
        tests = (w.seen u b).tests;
        accepts = (w.seen u b).accepts;
        rejects = (w.seen u b).rejects;
      }
  head_tests = λ i. record {
    port = b;
    mark = Branch;
    fragment = (w.at u).fragment;
    level = sym owed.same_level i;
    name = sym owed.name i;
    probe = sym owed.probe' i;
    tests = (w.seen u b).tests;
    accepts = (w.seen u b).accepts;
    rejects = (w.seen u b).rejects;
  }

  mark_tests : test_end (far_end g w u b) ≡ record (test_end (far_end g w u b)) { mark = Branch }
  mark_tests = λ i. record {
    port = far_port g u b;
    mark = owed.marked i;
    fragment = (w.at (far g u b)).fragment;
    level = (w.at (far g u b)).head.level;
    name = (w.at (far g u b)).head.name;
    probe = (w.at (far g u b)).head.probe;
    tests = (test_end (far_end g w u b)).tests;
    accepts = (test_end (far_end g w u b)).accepts;
    rejects = (test_end (far_end g w u b)).rejects;
  }

  up_level : suc h.level ≡ high
  up_level = ap suc (sym level_u)

  core_near : LinkFits (NamesOf g met) core_here core_there
  core_near = record {
    tree =
        new_core (tree_end core_here) (tree_end core_there) refl refl refl came.up up_level (ap suc level_y ∙ up_level) refl came.one
        (ap (λ z. z ++ Connect h.level ∷ []) came.none);
    search = new_search (tree_end core_here) (tree_end core_there) refl up_level;
    tests =
        tests_lifted (sent.at u).fragment high (Some (port_at g u b).key) _ _ owed.probe' idle_y
        (subst₂ TestsFit head_tests mark_tests (tests_branch (test_end (end g w u b)) (test_end (far_end g w u b)) Branch owed.probe link.tests));
  }

  core_away : LinkFits (NamesOf g met) core_there core_here
  core_away = record {
    tree =
        new_core (tree_end core_there) (tree_end core_here) refl refl came.up refl (ap suc level_y ∙ up_level) up_level refl
        (ap (λ z. z ++ Connect h.level ∷ []) came.none) came.one;
    search = new_search (tree_end core_there) (tree_end core_here) refl (ap suc level_y ∙ up_level);
    tests =
        tests_lifted (sent.at u).fragment high (Some (port_at g u b).key) _ _ idle_y owed.probe'
        (subst₂ TestsFit mark_tests head_tests (tests_branch' (test_end (end g w u b)) (test_end (far_end g w u b)) owed.probe link'.tests));
  }

  pub meets : Invariant g (meet g u b (acts g u (meeting (w.at u) h b) own ((b, Connect h.level) ∷ []) w))
  unfolding lifts
  meets =
      unites g ground.wired sent u b lifts high (Some (port_at g u b).key) joinable many one_root rests
      (subst₂ (LinkFits (NamesOf g met)) (sym end_here) (sym end_there) core_near)
      (subst₂ (LinkFits (NamesOf g met)) (sym end_there) (sym end_here) core_away)
