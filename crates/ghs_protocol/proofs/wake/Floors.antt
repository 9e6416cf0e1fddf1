-- A sleeping node wakes: its floor is its least link, over which its Connect goes out.
use Rattle.std.proofs.Common.{◌≡◌, ◌≢◌, ℕ, zero, suc, false, Some, [], ◌∷◌, ◌++◌, refl, sym, ◌∙◌, ap, subst, ⊎_elim, arith}
use Rattle.std.proofs.lemmas.Bool.{cases_eq}
use Rattle.ghs_graph.specs.Key.{key_lt}
use Rattle.ghs_node.specs.declared.mark.Mark.TheVariants.{Branch}
use Rattle.ghs_node.specs.Words.{Outgoing}
use Rattle.ghs_node.specs.declared.message.Phase.TheVariants.{Sleeping, Find, Found}
use Rattle.ghs_node.specs.declared.message.Message.TheVariants.{Connect, ChangeRoot}
use Rattle.peer_network.specs.Network.{Network, port_at, At, far, far_port, InNetwork}
use Rattle.peer_network.specs.Updates.{put}
use Rattle.ghs_protocol.proofs.clauses.Scene.{Seen, add, adds, Member, Scene, End, acts, far_end}
use Rattle.ghs_protocol.proofs.clauses.Changes.{seen_beyond, awakened}
use Rattle.ghs_protocol.proofs.clauses.Wiring.{Ground}
use Rattle.ghs_protocol.proofs.clauses.Uniting.{meet}
use Rattle.ghs_protocol.proofs.clauses.Whole.{Invariant}
use Rattle.ghs_protocol.proofs.clauses.Floors.{Floor, FloorsAt, NodeFloor, IsTreeLink, BranchesInTree, HaltedIsWhole, Floors}
use Rattle.peer_network.proofs.lemmas.Updates.{put_same, put_other}
use Rattle.ghs_protocol.proofs.acts.Ends.{here_seen, far_seen}
use Rattle.ghs_protocol.proofs.acts.OneLink.{by_port_at, sends_one}
use Rattle.ghs_protocol.proofs.acts.Reactions.{put_again}
use Rattle.ghs_protocol.proofs.rows.Link.{connect_comes}
use Rattle.ghs_protocol.proofs.wake.Inward.{wakes_meeting, waking}
use Rattle.ghs_protocol.proofs.acts.Floors.{far_fits, lower_self, below_lower, cut_link}
use Rattle.ghs_protocol.proofs.search.CloseFloors.{FloorsOff, nodes_after, links_after, links_after_off, in_tree_after, halted_after}
use Rattle.ghs_protocol.proofs.union.Floors.{floors_met}
use Rattle.ghs_graph.proofs.lemmas.Keys.{lt_asymmetric, lt_irreflexive}
use Rattle.ghs_protocol.proofs.union.Lower.{SameParts, same_parts, below_new}

module _ (g : Network) (ground : Ground g) (u : ℕ) (u_is : InNetwork g u) (w : Scene) (holds : Invariant g w) (at : At g u 0)
    (sleeps : (w.at u).head.phase ≡ Sleeping) (floor : ℕ → Floor) (floors : Floors g w floor) where
  abbrev x : Member
  x = awakened (w.at u)

  abbrev ss : Outgoing
  ss = (0, Connect 0) ∷ []

  abbrev pub woken : Scene
  woken = acts g u (awakened (w.at u)) (w.seen u) ((0, Connect 0) ∷ []) w

  abbrev pub least : Floor
  least = Some (Some (port_at g u 0).key)

  is : InNetwork g u
  is = u_is

  open waking g ground.wired u u_is w holds at sleeps use {fresh, apart, plain}

  unmarked : (i : ℕ) → (w.at u).mark i ≢ Branch
  unmarked = fresh.marks

  alone : (t : ℕ) → InNetwork g t → (w.at t).fragment ≡ (w.at u).fragment → t ≡ u
  alone t it e = holds.alone u t is it sleeps e

  -- no port's key is less than that of port 0
  pub first_least : (t q : ℕ) →
      At g t q →
      (w.at t).fragment ≡ (w.at u).fragment →
      (w.at (far g t q)).fragment ≢ (w.at u).fragment →
      key_lt (port_at g t q).key (port_at g u 0).key ≡ false
  first_least t q at' same out =
      let e = alone t (record { some = at'.some; node = at'.node }) same in
      subst (λ y. key_lt (port_at g y q).key (port_at g u 0).key ≡ false) (sym e) (not_less q (subst (λ y. At g y q) e at'))
    where
      not_less : (q : ℕ) → At g u q → key_lt (port_at g u q).key (port_at g u 0).key ≡ false
      not_less zero at' = lt_irreflexive (port_at g u 0).key
      not_less (suc q) at' = lt_asymmetric (port_at g u 0).key (port_at g u (suc q)).key (ground.ordered u 0 (suc q) (omega arith) at')

  tree : IsTreeLink g u 0
  tree = cut_link g (λ t. (w.at t).fragment) (w.at u).fragment u 0 apart first_least refl

  abbrev still : ℕ → End
  still i = record { port = i; key = (port_at g u i).key; mark = put (w.at u).mark 0 Branch i; is = x; seen = w.seen u i }

  near_other : (i : ℕ) → At g u i → i ≢ 0 → FloorsAt (still i) (far_end g w u i) least (floor (far g u i))
  near_other i at' ne = record {
    none_below = λ o. below_lower (Some (port_at g u 0).key) (Some (port_at g u i).key) (ground.ordered u 0 i (omega (arith, ne)) at');
    falls = λ c. absurd (plain i ne c.joins.here);
    covered = λ p c o. absurd (plain i ne c.joins.here);
    report = λ r c t. absurd (plain i ne c.joins.here);
    core = λ c l p. absurd (plain i ne c.both.joins.here);
    out = λ o. absurd (plain i ne o.here);
    moved = λ m t. absurd (plain i ne m.both.joins.here);
    best = λ y b l z. absurd (plain i ne z.here);
  }

  far_other : (i : ℕ) → At g u i → i ≢ 0 → FloorsAt (far_end g w u i) (still i) (floor (far g u i)) least
  far_other i at' ne = record {
    none_below = (far_fits g ground.wired w holds floor floors u i at').none_below;
    falls = λ c. absurd (plain i ne c.joins.there);
    covered = λ p c o. absurd (plain i ne c.joins.there);
    report = λ r c t. absurd (plain i ne c.joins.there);
    core = λ c l p. absurd (plain i ne c.both.joins.there);
    out = λ o. (far_fits g ground.wired w holds floor floors u i at').out (record { here = o.here; there = unmarked i });
    moved = λ m t. absurd (plain i ne m.both.joins.there);
    best = λ y b l z. absurd (plain i ne z.there);
  }

  abbrev there : End
  there = record (far_end g w u 0) { seen = add (seen_beyond g w u 0) (Connect 0) }

  node_floor : NodeFloor x least
  node_floor = record { asleep = λ e. absurd (let z : Found ≡ Sleeping = e in cc); search = λ e. absurd (let z : Found ≡ Find = e in cc) }

  trees : BranchesInTree g woken
  trees =
      in_tree_after g ground.wired u u_is x (w.seen u) ss w floor floors least
      (λ p at' m. ⊎_elim (λ e. subst (IsTreeLink g u) (sym e) tree) (λ ne. absurd (plain p ne m)) (cases_eq p 0))

  halts : HaltedIsWhole g woken
  halts = halted_after g ground.wired u u_is x (w.seen u) ss w floor floors least refl refl

  -- what waits at u is as it was
  own_again : acts g u x (put (w.seen u) 0 (w.seen u 0)) ss w ≡ woken
  own_again = λ i. acts g u x (put_again (w.seen u) 0 i) ss w

  -- nobody has connected over the link
  module _ (free : (w.at (far g u 0)).mark (far_port g u 0) ≢ Branch) where
    near_out : FloorsAt (still 0) there least (floor (far g u 0))
    near_out = record {
      none_below = λ o. lower_self least;
      falls = λ c. absurd (free c.joins.there);
      covered = λ p c o. absurd (free c.joins.there);
      report = λ r c t. absurd (free c.joins.there);
      core = λ c l p. absurd (free c.both.joins.there);
      out = λ o. refl;
      moved = λ m t. absurd (free m.both.joins.there);
      best = λ y b l z. absurd (free z.there);
    }

    far_out : FloorsAt there (still 0) (floor (far g u 0)) least
    far_out = record {
      none_below = (far_fits g ground.wired w holds floor floors u 0 at).none_below;
      falls = λ c. absurd (free c.joins.here);
      covered = λ p c o. absurd (free c.joins.here);
      report = λ r c t. absurd (free c.joins.here);
      core = λ c l p. absurd (free c.both.joins.here);
      out = λ o. absurd (free o.here);
      moved = λ m t. absurd (free m.both.joins.here);
      best = λ y b l z. absurd (free z.here);
    }

    pub wakes_out_floors : Floors g woken (put floor u least)
    wakes_out_floors =
        subst (λ v. Floors g v (put floor u least)) own_again (record {
          nodes = nodes_after g ground.wired u u_is x (put (w.seen u) 0 (w.seen u 0)) ss w floor floors least node_floor;
          links =
              links_after g ground.wired u u_is x (put (w.seen u) 0 (w.seen u 0)) ss w floor floors least
              (by_port_at g ground.wired u u_is x 0 at (w.seen u 0) (Connect 0 ∷ []) ss (sends_one 0 (Connect 0)) w
              (λ i e f. FloorsAt e f least (floor (far g u i)))
              near_out near_other)
              (by_port_at g ground.wired u u_is x 0 at (w.seen u 0) (Connect 0 ∷ []) ss (sends_one 0 (Connect 0)) w
              (λ i e f. FloorsAt f e (floor (far g u i)) least)
              far_out far_other);
          in_tree = trees;
          halted = halts;
        })

  -- the far end's Connect has come in
  module _ (met : (w.at (far g u 0)).mark (far_port g u 0) ≡ Branch) where
    off : FloorsOff g woken (put floor u least) u 0
    off =
        subst (λ v. FloorsOff g v (put floor u least) u 0) own_again (record {
          nodes = nodes_after g ground.wired u u_is x (put (w.seen u) 0 (w.seen u 0)) ss w floor floors least node_floor;
          links =
              links_after_off g ground.wired u u_is x (put (w.seen u) 0 (w.seen u 0)) ss w floor floors least 0
              (by_port_at g ground.wired u u_is x 0 at (w.seen u 0) (Connect 0 ∷ []) ss (sends_one 0 (Connect 0)) w
              (λ i e f. i ≢ 0 → FloorsAt e f least (floor (far g u i)))
              (λ ne. absurd (ne refl)) (λ i at' ne no. near_other i at' ne))
              (by_port_at g ground.wired u u_is x 0 at (w.seen u 0) (Connect 0 ∷ []) ss (sends_one 0 (Connect 0)) w
              (λ i e f. i ≢ 0 → FloorsAt f e (floor (far g u i)) least)
              (λ ne. absurd (ne refl)) (λ i at' ne no. far_other i at' ne));
          in_tree = trees;
          halted = halts;
        })

    here_is : woken.at u ≡ x
    here_is = put_same w.at u x

    far_is : woken.at (far g u 0) ≡ w.at (far g u 0)
    far_is = put_other w.at u (far g u 0) x (ground.wired.apart u 0 at)

    same : SameParts w woken
    same = same_parts g u x (w.seen u) ss w refl refl refl (sym fresh.level)

    own_seen : woken.seen u 0 ≡ w.seen u 0
    own_seen = here_seen g ground.wired u u_is.some u_is.node x (w.seen u) ss w 0

    their_seen : (seen_beyond g woken u 0).tree ≡ (seen_beyond g w u 0).tree ++ Connect 0 ∷ []
    their_seen =
        ap (λ (q : Seen). q.tree) (far_seen g ground.wired u u_is.some u_is.node x (w.seen u) ss w 0 at) ∙
        ap (λ s. (adds (seen_beyond g w u 0) s).tree) ((sends_one 0 (Connect 0)).only)

    pub wakes_meeting_floors : Floors g (meet g u 0 woken) (put floor u least)
    wakes_meeting_floors =
        let came = connect_comes g ground.wired w holds u 0 at met (unmarked 0) in
        floors_met g ground.wired woken (put floor u least) off.nodes off.in_tree off.halted u 0 at
        (λ e. apart (sym (same.fragment (far g u 0)) ∙ e ∙ same.fragment u)) off.links
        (below_new g w woken holds same u 0 came (fresh.level ∙ sym fresh.coming))
        (ap (λ (m : Member). m.mark 0) here_is ∙ put_same (w.at u).mark 0 Branch) (ap (λ (m : Member). m.mark (far_port g u 0)) far_is ∙ met)
        (ap (λ (m : Member). m.up) here_is) (ap (λ (m : Member). m.up) far_is ∙ came.up)
        (λ e.
        let z = came.one in
        let y = ap (λ (q : Seen). q.tree) own_seen in
        let s : Connect (w.at (far g u 0)).head.level ∷ [] ≡ ChangeRoot ∷ [] = sym z ∙ sym y ∙ e in cc)
        (λ e. let z = came.none in let s : [] ++ Connect 0 ∷ [] ≡ ChangeRoot ∷ [] = ap (λ q. q ++ Connect 0 ∷ []) (sym z) ∙ sym their_seen ∙ e in cc)
        (wakes_meeting g ground.wired u u_is w holds at sleeps ground met)
