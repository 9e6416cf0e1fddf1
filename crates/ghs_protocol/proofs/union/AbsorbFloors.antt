-- A Connect of a lower level is absorbed: floors stay, and are kept.
use Rattle.std.proofs.Common.{◌≡◌, ◌≢◌, ℕ, ◌<◌, true, Option, Some, List, [], ◌∷◌, ◌++◌, refl, sym, ◌∙◌, ap, subst, ⊎_elim, ◌⊎◌, inl, inr, arith}
use Rattle.std.proofs.lemmas.Bool.{cases_eq}
use Rattle.ghs_graph.specs.declared.key.Key.{Key}
use Rattle.ghs_graph.specs.Key.{key_lt}
use Rattle.ghs_node.specs.declared.mark.Mark.TheVariants.{Branch}
use Rattle.ghs_node.specs.declared.message.Phase.{Phase}
use Rattle.ghs_node.specs.declared.message.Phase.TheVariants.{Sleeping, Find, Found}
use Rattle.ghs_node.specs.declared.message.Message.{Message}
use Rattle.ghs_node.specs.declared.message.Message.TheVariants.{Connect, Initiate, ChangeRoot, Report}
use Rattle.peer_network.specs.Network.{Network, port_at, At, far, far_port, InNetwork}
use Rattle.peer_network.proofs.lemmas.Wired.{IsWired}
use Rattle.ghs_protocol.specs.Marks.{Leads}
use Rattle.peer_network.specs.Updates.{put}
use Rattle.ghs_protocol.proofs.clauses.Scene.{Seen, adds, Member, Scene, tree_end, end, acts, far_end}
use Rattle.ghs_protocol.proofs.clauses.Changes.{left_tree, seen_beyond, took_child}
use Rattle.ghs_protocol.proofs.clauses.Links.{Joins, Mutual}
use Rattle.ghs_protocol.proofs.clauses.Rest.{has_call}
use Rattle.ghs_protocol.proofs.clauses.Wiring.{Ground}
use Rattle.ghs_protocol.proofs.clauses.Uniting.{absorb}
use Rattle.ghs_protocol.proofs.clauses.Whole.{Invariant}
use Rattle.ghs_protocol.proofs.clauses.Floors.{Floor, lower, owing, FloorsAt, IsTreeLink, Floors}
use Rattle.peer_network.proofs.lemmas.Updates.{put_same, put_other, put_alike}
use Rattle.ghs_protocol.proofs.lemmas.Fragments.{leads_back}
use Rattle.ghs_protocol.proofs.root.Ways.{leads_map}
use Rattle.ghs_protocol.proofs.acts.Ends.{here_seen, far_seen}
use Rattle.ghs_protocol.proofs.acts.OneLink.{by_port_at, sends_one}
use Rattle.ghs_protocol.proofs.rest.AtRest.{by_call}
use Rattle.ghs_protocol.proofs.root.AtRoot.{root_sent}
use Rattle.ghs_protocol.proofs.acts.Reactions.{put_again}
use Rattle.ghs_protocol.proofs.union.OneFragment.{Off}
use Rattle.ghs_protocol.proofs.union.Absorb.{absorbs_in, came, below, way_not}
use Rattle.ghs_protocol.proofs.rows.Link.{link_fits, link_fits', link_leads}
use Rattle.ghs_protocol.proofs.acts.Floors.{near_fits, far_fits}
use Rattle.ghs_protocol.proofs.search.CloseFloors.{FloorsOff, nodes_after, links_after_off, in_tree_after, halted_after}
use Rattle.ghs_protocol.proofs.union.Floors.{Joining, Joined_in, Left_out, joining_is, joining_as, floors_united}
use Rattle.ghs_protocol.proofs.union.Lower.{SameParts, same_parts, below_coming}

-- a link is one of the tree from both ends
pub tree_link_back : (g : Network) → IsWired g → (v p : ℕ) → At g v p → IsTreeLink g (far g v p) (far_port g v p) → IsTreeLink g v p
tree_link_back g wired v p at h l =
    h
    (subst
    (λ y. Leads g (λ a b. key_lt (port_at g a b).key (port_at g (far g v p) (far_port g v p)).key ≡ true) (far g v p) y)
    (sym (wired.back v p at))
    (leads_back g wired
    (λ a b at' s. subst (λ (k : Key). key_lt k (port_at g (far g v p) (far_port g v p)).key ≡ true) (sym (wired.same_key a b at')) s)
    (leads_map (λ a b at' s. subst (λ (k : Key). key_lt (port_at g a b).key k ≡ true) (sym (wired.same_key v p at)) s) l)))

module _ (g : Network) (ground : Ground g) (u : ℕ) (u_is : InNetwork g u) (w : Scene) (holds : Invariant g w) (j : ℕ) (at : At g u j)
    (ms : List Message) (l : ℕ) (k : Key) (waits : (w.seen u j).tree ≡ Connect l ∷ ms) (less : l < (w.at u).head.level)
    (name : (w.at u).head.name ≡ Some k) (awake : (w.at u).head.phase ≢ Sleeping)
    (floor : ℕ → Floor) (floors : Floors g w floor) where
  abbrev x : Member
  x = took_child (w.at u) j

  abbrev q : Seen
  q = record (w.seen u j) { tree = ms }

  abbrev call : Message
  call = Initiate (w.at u).head.level k (w.at u).head.phase

  abbrev pub grown : Scene
  grown = acts g u (took_child (w.at u) j) (left_tree w u j ms) ((j, Initiate (w.at u).head.level k (w.at u).head.phase) ∷ []) w

  abbrev pub joint : Scene
  joint = absorb g u j grown

  open came g ground u u_is w holds j at ms l k waits less name awake use {mark as unmarked, mark' as marked_beyond, rest as nothing_behind, under}

  no_way : (w.at u).up ≢ Some j
  no_way = way_not g ground u u_is w holds j at ms l k waits less name awake

  near_other : (i : ℕ) →
      At g u i →
      i ≢ j →
      FloorsAt
      (record { port = i; key = (port_at g u i).key; mark = put (w.at u).mark j Branch i; is = x; seen = w.seen u i }) (far_end g w u i)
      (floor u) (floor (far g u i))
  near_other i at' ne =
      subst (λ m.
      FloorsAt
      (record { port = i; key = (port_at g u i).key; mark = m; is = x; seen = w.seen u i }) (far_end g w u i) (floor u) (floor (far g u i)))
      (sym (put_other (w.at u).mark j i Branch ne)) (near_fits g ground.wired w holds floor floors u i at')

  far_other : (i : ℕ) →
      At g u i →
      i ≢ j →
      FloorsAt (far_end g w u i)
      (record { port = i; key = (port_at g u i).key; mark = put (w.at u).mark j Branch i; is = x; seen = w.seen u i }) (floor (far g u i))
      (floor u)
  far_other i at' ne =
      subst (λ m.
      FloorsAt (far_end g w u i)
      (record { port = i; key = (port_at g u i).key; mark = m; is = x; seen = w.seen u i }) (floor (far g u i)) (floor u))
      (sym (put_other (w.at u).mark j i Branch ne)) (far_fits g ground.wired w holds floor floors u i at')

  off : FloorsOff g grown floor u j
  off =
      subst (λ f. FloorsOff g grown f u j) (put_again floor u) (record {
        nodes =
            nodes_after g ground.wired u u_is x (put (w.seen u) j q) ((j, call) ∷ []) w floor floors (floor u)
            (let z = floors.nodes u u_is in record { asleep = z.asleep; search = z.search });
        links =
            links_after_off g ground.wired u u_is x (put (w.seen u) j q) ((j, call) ∷ []) w floor floors (floor u) j
            (by_port_at g ground.wired u u_is x j at q (call ∷ []) ((j, call) ∷ []) (sends_one j call) w
            (λ i e f. i ≢ j → FloorsAt e f (floor u) (floor (far g u i)))
            (λ ne. absurd (ne refl)) (λ i at' ne no. near_other i at' ne))
            (by_port_at g ground.wired u u_is x j at q (call ∷ []) ((j, call) ∷ []) (sends_one j call) w
            (λ i e f. i ≢ j → FloorsAt f e (floor (far g u i)) (floor u))
            (λ ne. absurd (ne refl)) (λ i at' ne no. far_other i at' ne));
        in_tree =
            in_tree_after g ground.wired u u_is x (put (w.seen u) j q) ((j, call) ∷ []) w floor floors (floor u)
            (λ p at' m. ⊎_elim
            (λ e. subst (IsTreeLink g u) (sym e)
            (tree_link_back g ground.wired u j at (floors.in_tree _ _ (ground.wired.there u j at) marked_beyond)))
            (λ ne. floors.in_tree u p at' (sym (put_other (w.at u).mark j p Branch ne) ∙ m))
            (cases_eq p j));
        halted = halted_after g ground.wired u u_is x (put (w.seen u) j q) ((j, call) ∷ []) w floor floors (floor u) refl refl;
      })

  -- what the act leaves
  here_is : grown.at u ≡ x
  here_is = put_same w.at u x

  far_is : grown.at (far g u j) ≡ w.at (far g u j)
  far_is = put_other w.at u (far g u j) x (ground.wired.apart u j at)

  same : SameParts w grown
  same = same_parts g u x (left_tree w u j ms) ((j, call) ∷ []) w refl refl refl refl

  after : Invariant g joint
  after = absorbs_in g ground u u_is w holds j at ms l k waits less name awake

  abbrev far_part : ℕ
  far_part = (grown.at (far g u j)).fragment

  abbrev near_part : ℕ
  near_part = (grown.at u).fragment

  -- a ChangeRoot goes to a node at the coming level
  still : (t p : ℕ) →
      At g t p →
      Off g u j t p →
      (grown.at t).head.level < (grown.at u).coming →
      ((grown.at t).fragment ≡ far_part) ⊎ ((grown.at t).fragment ≡ near_part) →
      (grown.seen t p).tree ≡ ChangeRoot ∷ [] →
      Mutual (tree_end (end g grown t p)) (tree_end (end g grown (far g t p) (far_port g t p))) →
      ⊥
  still t p at' o lt i r m =
      let s = (root_sent (tree_end (end g joint t p)) (tree_end (far_end g joint t p)) (link_fits g ground.wired joint after t p at').tree
      (link_fits' g ground.wired joint after t p at').tree (link_leads g ground.wired joint after t p at') [] r).fits.level in
      go (joining_is far_part near_part (grown.at u).coming (grown.at u).coming_name (grown.at t)) s
    where
      go : Joining far_part near_part (grown.at u).coming (grown.at u).coming_name (grown.at t) → (joint.at t).head.level ≡ (joint.at t).coming → ⊥
      go (Joined_in z a y n) s =
          let h = ap (λ (v : Member). v.head.level) (joining_as far_part near_part (grown.at u).coming (grown.at u).coming_name (grown.at t)) in
          omega (arith, s, y, h, lt)
      go (Left_out ne ne' z) s = ⊎_elim ne ne' i

  -- a member afterwards, in what joining leaves
  keeps : {A : Type 0} (f : Member → A) →
      ((m : Member) (a b : ℕ) (n : Option Key) → f (record m { fragment = a; coming = b; coming_name = n }) ≡ f m) →
      (t : ℕ) → f (joint.at t) ≡ f (grown.at t)
  keeps f same t = ap f (joining_as far_part near_part (grown.at u).coming (grown.at u).coming_name (grown.at t)) ∙ same (grown.at t) _ _ _

  in_one : (joint.at (far g u j)).fragment ≡ (joint.at u).fragment
  in_one =
      go
      (joining_is far_part near_part (grown.at u).coming (grown.at u).coming_name (grown.at (far g u j)))
      (joining_is far_part near_part (grown.at u).coming (grown.at u).coming_name (grown.at u))
    where
      go :
          Joining far_part near_part (grown.at u).coming (grown.at u).coming_name (grown.at (far g u j)) →
          Joining far_part near_part (grown.at u).coming (grown.at u).coming_name (grown.at u) →
          (joint.at (far g u j)).fragment ≡ (joint.at u).fragment
      go (Joined_in i x y z) (Joined_in i' x' y' z') = x ∙ sym x'
      go (Left_out ne ne' s) b = absurd (ne refl)
      go a (Left_out ne ne' s) = absurd (ne' refl)

  coming_at : (t : ℕ) → ((grown.at t).fragment ≡ far_part) ⊎ ((grown.at t).fragment ≡ near_part) → (joint.at t).coming ≡ (w.at u).coming
  coming_at t i = go (joining_is far_part near_part (grown.at u).coming (grown.at u).coming_name (grown.at t))
    where
      go : Joining far_part near_part (grown.at u).coming (grown.at u).coming_name (grown.at t) → (joint.at t).coming ≡ (w.at u).coming
      go (Joined_in j x y z) = y ∙ same.coming u
      go (Left_out ne ne' s) = absurd (⊎_elim ne ne' i)

  up_here : (joint.at u).up ≢ Some j
  up_here e = no_way (sym (put_alike (λ (m : Member). m.up) w.at u x refl u) ∙ sym (keeps (λ m. m.up) (λ m a b n. refl) u) ∙ e)

  joins : Joins (tree_end (end g joint u j)) (tree_end (end g joint (far g u j) (far_port g u j)))
  joins = record {
    here = ap (λ f. f j) (keeps (λ m. m.mark) (λ m a b n. refl) u) ∙ ap (λ (m : Member). m.mark j) here_is ∙ put_same (w.at u).mark j Branch;
    there =
        ap (λ f. f (far_port g u j)) (keeps (λ m. m.mark) (λ m a b n. refl) (far g u j)) ∙ ap (λ (m : Member). m.mark (far_port g u j)) far_is ∙
        marked_beyond;
  }

  level_at : (t : ℕ) → (joint.at t).head.level ≡ (w.at t).head.level
  level_at t = keeps (λ m. m.head.level) (λ m a b n. refl) t ∙ same.level t

  near_new : FloorsAt (end g joint u j) (end g joint (far g u j) (far_port g u j)) (floor u) (floor (far g u j))
  near_new = record {
    none_below = λ o. absurd (o in_one);
    falls = λ c. absurd (up_here c.up);
    covered = λ p c o. absurd (up_here c.up);
    report = λ r c t. absurd (up_here c.up);
    core = λ c y p. absurd (up_here c.both.up);
    out = λ o. absurd (o.there joins.there);
    moved = λ z t. absurd (up_here z.both.up);
    best = λ y b e z.
        absurd (unled y
        (sym (ap (λ (m : Member). m.head.best) here_is) ∙ sym (keeps (λ m. m.head.best) (λ m a c n. refl) u) ∙ b)
        (sym (level_at u) ∙ e ∙ coming_at u (inr refl)));
  }
    where
      -- u's best isn't this link, which leads to a lower level
      unled : (y : Key) → (w.at u).head.best ≡ Some (j, y) → (w.at u).head.level ≡ (w.at u).coming → ⊥
      unled y b e =
          let z = ((link_fits g ground.wired w holds u j at).search.find_leads y b e unmarked).higher in
          let s = below g ground u u_is w holds j at ms l k waits less name awake in omega (arith, z, s)

  away_new : FloorsAt (end g joint (far g u j) (far_port g u j)) (end g joint u j) (floor (far g u j)) (floor u)
  away_new = record {
    none_below = λ o. absurd (o (sym in_one));
    falls = λ c.
        subst (λ v. lower (floor u) v ≡ true)
        (sym ((far_fits g ground.wired w holds floor floors u j at).out (record { here = marked_beyond; there = unmarked })))
        ((near_fits g ground.wired w holds floor floors u j at).none_below (λ e. under.apart (sym e)));
    covered = λ p c o.
        absurd (let y = owed (sym (ap (λ (m : Member). m.head.phase) here_is) ∙ sym (keeps (λ m. m.head.phase) (λ m a b n. refl) u) ∙ p) in
        let z = o in cc (y, z));
    report = λ r c t. absurd (let y : [] ≡ Report r ∷ [] = sym nothing_behind ∙ sym own_tree ∙ t in cc);
    core = λ c y p. absurd (up_here c.both.up_beyond);
    out = λ o. absurd (o.there joins.here);
    moved = λ z t. absurd (up_here z.both.up_beyond);
    best = λ y b e z.
        absurd (let s = level_at (far g u j) in
        let c = coming_at (far g u j) (inl refl) in
        let d = below g ground u u_is w holds j at ms l k waits less name awake in
        let h = (holds.nodes u u_is).lag.level in omega (arith, s, c, d, h, e));
  }
    where
      own_tree : (grown.seen u j).tree ≡ ms
      own_tree =
          ap (λ (v : Seen). v.tree)
          (here_seen g ground.wired u u_is.some u_is.node x (put (w.seen u) j q) ((j, call) ∷ []) w j ∙ put_same (w.seen u) j q)

      their_tree : (seen_beyond g grown u j).tree ≡ Initiate (w.at u).head.level k (w.at u).head.phase ∷ []
      their_tree =
          ap (λ (v : Seen). v.tree) (far_seen g ground.wired u u_is.some u_is.node x (put (w.seen u) j q) ((j, call) ∷ []) w j at) ∙
          ap (λ s. (adds (seen_beyond g w u j) s).tree) ((sends_one j call).only) ∙ ap (λ t. t ++ call ∷ []) under.none

      called : (s : Phase) → s ≡ Find → has_call (Initiate (w.at u).head.level k s ∷ []) ≡ true
      called Find e = refl
      called Found e = cc
      called Sleeping e = cc

      owed : (w.at u).head.phase ≡ Find → owing (tree_end (end g joint u j)) (tree_end (end g joint (far g u j) (far_port g u j))) ≡ true
      owed e = by_call _ (has_call (seen_beyond g grown u j).tree) _ (ap has_call their_tree ∙ called (w.at u).head.phase e)

  pub absorbs_floors :
      Floors g
      (absorb g u j (acts g u (took_child (w.at u) j) (left_tree w u j ms) ((j, Initiate (w.at u).head.level k (w.at u).head.phase) ∷ []) w))
      floor
  absorbs_floors =
      floors_united g ground.wired grown floor off.nodes off.in_tree off.halted u j at
      (λ e. under.apart (sym (same.fragment u) ∙ sym e ∙ same.fragment (far g u j)))
      off.links (grown.at u).coming (grown.at u).coming_name
      (below_coming g w grown holds same u j under u_is (below g ground u u_is w holds j at ms l k waits less name awake)) still
      near_new away_new
