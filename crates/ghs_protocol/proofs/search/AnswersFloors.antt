-- What a node hears without sending anything: floors stay, and are kept.
use Rattle.std.proofs.Common.{◌≡◌, ◌≢◌, ℕ, suc, inl, inr, if◌then◌else◌, Bool, true, false, not, ◌||◌, ◌&&◌, Option, Some, None, List, [], ◌∷◌, refl, sym, ◌∙◌, ap, subst, ⊎_elim, ◌⊎◌, arith}
use Rattle.std.proofs.lemmas.Bool.{cases_eq}
use Rattle.std.proofs.lemmas.Bool.Decides.{nat_tests}
use Rattle.ghs_graph.specs.declared.key.Key.{Key}
use Rattle.ghs_graph.specs.Key.{key_lt}
use Rattle.ghs_node.specs.declared.mark.Mark.TheVariants.{Basic, Branch}
use Rattle.ghs_node.specs.Words.{Best, is_branch, is_find, is_at, below, better, best_key}
use Rattle.ghs_node.specs.declared.message.Phase.TheVariants.{Find, Found}
use Rattle.ghs_node.specs.declared.message.Message.{Message}
use Rattle.ghs_node.specs.declared.message.Message.TheVariants.{Report}
use Rattle.peer_network.specs.Network.{Network, port_at, At, far, InNetwork}
use Rattle.peer_network.proofs.lemmas.Wired.{IsWired}
use Rattle.peer_network.specs.Updates.{put}
use Rattle.ghs_protocol.proofs.clauses.Scene.{Seen, Member, Scene, End, TreeEnd, tree_end, test_end, end, acts, far_end}
use Rattle.ghs_protocol.proofs.clauses.Changes.{left_tree, left_accepts, seen_beyond, took_accept, took_report, with_halt}
use Rattle.ghs_protocol.proofs.clauses.Links.{Joins, Child}
use Rattle.ghs_protocol.proofs.clauses.TreeMessages.{Moved, MovedFits, To_here, To_there}
use Rattle.ghs_protocol.proofs.clauses.Rest.{Quiet, has_call, has_report}
use Rattle.ghs_protocol.proofs.clauses.Whole.{Invariant, NamesOf}
use Rattle.ghs_protocol.proofs.clauses.Floors.{Floor, lower, FloorsFit, FloorsAt, NodeFloor, HaltedIsWhole, Floors}
use Rattle.ghs_protocol.proofs.acts.Reactions.{put_again}
use Rattle.ghs_protocol.proofs.tests.Links.{accepted_apart}
use Rattle.ghs_protocol.proofs.acts.Situations.{probing_finds, is_find', begun_at_top}
use Rattle.ghs_protocol.proofs.acts.OneLink.{by_port_at, sends_none}
use Rattle.ghs_protocol.proofs.rest.Halt.{Back, Old, Half, owed_finds, heard_at_rest}
use Rattle.ghs_protocol.proofs.search.Answers.{better_at, child_heard}
use Rattle.ghs_protocol.proofs.rows.Link.{link_fits, link_fits', link_clauses, joined_clauses}
use Rattle.ghs_protocol.proofs.acts.Floors.{near_fits, far_fits, lower_on, lower_self, below_lower, leads_above}
use Rattle.ghs_protocol.proofs.search.CloseFloors.{nodes_after, links_after, in_tree_after, halted_after, halted_more}

-- One link is touched, and nothing is sent.
module _ (g : Network) (wired : IsWired g) (u : ℕ) (u_is : InNetwork g u) (x : Member) (j : ℕ) (at : At g u j) (q : Seen) (w : Scene)
    (floor : ℕ → Floor) (floors : Floors g w floor) where
  abbrev pub still : ℕ → End
  still i = record { port = i; key = (port_at g u i).key; mark = x.mark i; is = x; seen = w.seen u i }

  abbrev pub here : End
  here = record { port = j; key = (port_at g u j).key; mark = x.mark j; is = x; seen = q }

  pub hears_floors :
      FloorsAt here (far_end g w u j) (floor u) (floor (far g u j)) → FloorsAt (far_end g w u j) here (floor (far g u j)) (floor u) →
      ((i : ℕ) → At g u i → i ≢ j → FloorsAt (still i) (far_end g w u i) (floor u) (floor (far g u i))) →
      ((i : ℕ) → At g u i → i ≢ j → FloorsAt (far_end g w u i) (still i) (floor (far g u i)) (floor u)) →
      NodeFloor x (floor u) → ((p : ℕ) → x.mark p ≡ Branch → (w.at u).mark p ≡ Branch) → HaltedIsWhole g (acts g u x (put (w.seen u) j q) [] w) →
      Floors g (acts g u x (put (w.seen u) j q) [] w) floor
  hears_floors hit hit' miss miss' node marks halted =
      subst (Floors g (acts g u x (put (w.seen u) j q) [] w)) (put_again floor u) (record {
        nodes = nodes_after g wired u u_is x (put (w.seen u) j q) [] w floor floors (floor u) node;
        links =
            links_after g wired u u_is x (put (w.seen u) j q) [] w floor floors (floor u)
            (by_port_at g wired u u_is x j at q [] [] (sends_none j) w (λ i e f. FloorsAt e f (floor u) (floor (far g u i))) hit miss)
            (by_port_at g wired u u_is x j at q [] [] (sends_none j) w (λ i e f. FloorsAt f e (floor (far g u i)) (floor u)) hit' miss');
        in_tree = in_tree_after g wired u u_is x (put (w.seen u) j q) [] w floor floors (floor u) (λ p at' z. floors.in_tree u p at' (marks p z));
        halted = halted;
      })

-- A Report of the core's other half, or an old one, is heard at rest.
module _ (g : Network) (wired : IsWired g) (u : ℕ) (u_is : InNetwork g u) (j : ℕ) (at : At g u j) (w : Scene) (holds : Invariant g w)
    (k : Option Key) (ms : List Message) (waits : (w.seen u j).tree ≡ Report k ∷ ms) (rests : (w.at u).head.phase ≡ Found)
    (floor : ℕ → Floor) (floors : Floors g w floor) where
  open link_clauses g wired w holds u j at use {link}

  mine : (w.at u).up ≢ Some j → ⊥
  mine ne = let z = owed_finds g wired u u_is j at w holds ne (rw waits refl) in cc (z, rests)

  not_find : (w.at u).head.phase ≡ Find → ⊥
  not_find e = cc (e, rests)

  abbrev taken : Bool → End
  taken b = record {
    port = j;
    key = (port_at g u j).key;
    mark = (w.at u).mark j;
    is = with_halt (w.at u) b;
    seen = record (w.seen u j) { tree = ms };
  }

  no_moved : Moved (tree_end (end g w u j)) (tree_end (far_end g w u j)) → MovedFits (tree_end (end g w u j)) (tree_end (far_end g w u j)) → ⊥
  no_moved c (To_here m) = let z = sym waits ∙ m.queue in cc
  no_moved c (To_there m) = let z = sym waits ∙ m.queue_beyond in cc

  up_only : Child (tree_end (far_end g w u j)) (tree_end (end g w u j)) → ⊥
  up_only c = mine c.down

  near_taken : (b : Bool) → FloorsAt (taken b) (far_end g w u j) (floor u) (floor (far g u j))
  near_taken b =
      let f = near_fits g wired w holds floor floors u j at in
      record {
        none_below = f.none_below;
        falls = λ c. f.falls (record { joins = record { here = c.joins.here; there = c.joins.there }; up = c.up; down = c.down });
        covered = λ p c o.
            f.covered p
            (record { joins = record { here = c.joins.here; there = c.joins.there }; up = c.up; down = c.down })
            (ap
            (λ t. has_report (seen_beyond g w u j).tree || (has_call t || (is_find (w.at u).head.phase && is_at (w.at u).head.in_branch j)))
            waits ∙ o);
        report = λ r c t. f.report r (record { joins = record { here = c.joins.here; there = c.joins.there }; up = c.up; down = c.down }) t;
        core = λ c y p.
            f.core (record {
              both = record { joins = record { here = c.both.joins.here; there = c.both.joins.there }; up = c.both.up; up_beyond = c.both.up_beyond };
              named = c.named;
            }) y p;
        out = λ o. f.out (record { here = o.here; there = o.there });
        moved = λ z t.
            let m : Moved (tree_end (end g w u j)) (tree_end (far_end g w u j)) = record {
              both = record { joins = record { here = z.both.joins.here; there = z.both.joins.there }; up = z.both.up; up_beyond = z.both.up_beyond };
              unnamed = z.unnamed;
            } in
            absurd (no_moved m (link.tree.moved_root m));
        best = λ y e l z. f.best y e l (record { here = z.here; there = z.there });
      }

  far_taken : (b : Bool) → FloorsAt (far_end g w u j) (taken b) (floor (far g u j)) (floor u)
  far_taken b =
      let f = far_fits g wired w holds floor floors u j at in
      record {
        none_below = f.none_below;
        falls = λ c. absurd (up_only (record { joins = record { here = c.joins.here; there = c.joins.there }; up = c.up; down = c.down }));
        covered = λ p c o. absurd (not_find p);
        report = λ r c t. absurd (up_only (record { joins = record { here = c.joins.here; there = c.joins.there }; up = c.up; down = c.down }));
        core = λ c y p.
            f.core (record {
              both = record { joins = record { here = c.both.joins.here; there = c.both.joins.there }; up = c.both.up; up_beyond = c.both.up_beyond };
              named = c.named;
            }) y p;
        out = λ o. f.out (record { here = o.here; there = o.there });
        moved = λ z t.
            f.moved (record {
              both = record { joins = record { here = z.both.joins.here; there = z.both.joins.there }; up = z.both.up; up_beyond = z.both.up_beyond };
              unnamed = z.unnamed;
            }) t;
        best = λ y e l z. f.best y e l (record { here = z.here; there = z.there });
      }

  -- Reports of infinity both ways: no link leads out
  whole :
      k ≡ None →
      (w.at u).head.best ≡ None →
      (t p : ℕ) → At g t p →
      (w.at t).fragment ≡ (w.at u).fragment →
      (w.at (far g t p)).fragment ≡ (w.at u).fragment
  whole none best t p at' same = go (heard_at_rest g wired u u_is j at w holds k ms waits rests)
    where
      go :
          Back (NamesOf g w (w.at u).fragment) (tree_end (end g w u j)) (tree_end (far_end g w u j)) k ms →
          (w.at (far g t p)).fragment ≡ (w.at u).fragment
      go (Old c h x) = absurd (let z = h.worse in cc (z, none, best))
      go (Half c z a b n f y) = ⊎_elim (λ e. e) (λ ne. absurd (let l = leads ne in cc)) (cases_eq (w.at (far g t p)).fragment (w.at u).fragment)
        where
          open joined_clauses g w holds u j at c.both.joins use {joined, ghosts}

          floor_here : floor u ≡ Some None
          floor_here =
              (near_fits g wired w holds floor floors u j at).core c (begun_at_top (tree_end (end g w u j)) z.here a z.at_here) rests ∙
              ap (λ o. Some (best_key o)) best

          floor_there : floor (far g u j) ≡ Some None
          floor_there =
              (far_fits g wired w holds floor floors u j at).core
              (record {
                both =
                    record { joins = record { here = c.both.joins.there; there = c.both.joins.here }; up = c.both.up_beyond; up_beyond = c.both.up };
                named = ghosts.1 ∙ c.named;
              })
              (begun_at_top (tree_end (far_end g w u j)) z.there b z.at_there) f ∙ ap Some (y ∙ none)

          leads : (w.at (far g t p)).fragment ≢ (w.at u).fragment → lower (Some None) (Some (Some (port_at g t p).key)) ≡ true
          leads =
              leads_above g wired w holds floor floors u j at joined c.both.up c.both.up_beyond (Some None)
              (subst (λ v. lower (Some None) v ≡ true) (sym floor_here) refl) (subst (λ v. lower (Some None) v ≡ true) (sym floor_there) refl)
              (λ e. cc (e, rests)) t p at' same

  -- the Report is taken; with b the node halts
  pub ends_floors : (b : Bool) → (b ≡ (w.at u).head.halted) ⊎ ((k ≡ None) × ((w.at u).head.best ≡ None)) →
      Floors g (acts g u (with_halt (w.at u) b) (left_tree w u j ms) [] w) floor
  ends_floors b why =
      hears_floors g wired u u_is (with_halt (w.at u) b) j at (record (w.seen u j) { tree = ms }) w floor floors
      (near_taken b) (far_taken b) (λ i at' ne. near_fits g wired w holds floor floors u i at')
      (λ i at' ne. far_fits g wired w holds floor floors u i at')
      (let z = floors.nodes u u_is in record { asleep = z.asleep; search = z.search }) (λ p z. z)
      (⊎_elim (λ e. halted_after g wired u u_is (with_halt (w.at u) b) (left_tree w u j ms) [] w floor floors (floor u) refl e)
      (λ h. halted_more g wired u u_is (with_halt (w.at u) b) (left_tree w u j ms) [] w floor floors (floor u) refl (whole h.0 h.1)) why)

-- Another best.

better_lower : (o : Best) (j : ℕ) (k : Option Key) → lower (Some (best_key (better o j k))) (Some (best_key o)) ≡ true
better_lower o j None = lower_self (Some (best_key o))
better_lower None j (Some k) = refl
better_lower (Some o) j (Some k) = go (key_lt k o.1) refl
  where
    go : (c : Bool) → key_lt k o.1 ≡ c → lower (Some (best_key (if c then Some (j, k) else Some o))) (Some (Some o.1)) ≡ true
    go true e = below_lower (Some k) (Some o.1) e
    go false e = lower_self (Some (Some o.1))

better_heard : (o : Best) (j : ℕ) (k : Option Key) → lower (Some (best_key (better o j k))) (Some k) ≡ true
better_heard None j None = refl
better_heard (Some o) j None = refl
better_heard None j (Some k) = lower_self (Some (Some k))
better_heard (Some o) j (Some k) = go (key_lt k o.1) refl
  where
    go : (c : Bool) → key_lt k o.1 ≡ c → lower (Some (best_key (if c then Some (j, k) else Some o))) (Some (Some k)) ≡ true
    go true e = lower_self (Some (Some k))
    go false e = ap not e

-- what isn't below the old best isn't below the new one
above_best : (o : Option Key) (b c : Option Key) → lower (Some c) (Some b) ≡ true → below o b ≡ false → below o c ≡ false
above_best None b c h l = refl
above_best (Some x) (Some y) (Some z) h l = grind (arith, nat_tests)
above_best (Some x) None c h l = cc
above_best (Some x) (Some y) None h l = cc

module _ (e f : TreeEnd) (b : Best) (a c : Floor) (finds : e.phase ≡ Find) where
  not_rest : e.phase ≡ Found → ⊥
  not_rest z = cc (z, finds)

  near_best :
      (Moved e f → ⊥) →
      ((y : Key) → b ≡ Some (e.port, y) → Joins e f → (e.best ≡ Some (e.port, y)) ⊎ (c ≡ Some (Some y))) →
      (e.best ≢ None → e.level ≡ e.coming) →
      e.level ≡ e.coming →
      FloorsFit e f a c → FloorsFit (record e { best = b }) f a c
  near_best still news _ top h = record {
    none_below = h.none_below;
    falls = λ z. h.falls (record { joins = record { here = z.joins.here; there = z.joins.there }; up = z.up; down = z.down });
    covered = λ p z o. h.covered p (record { joins = record { here = z.joins.here; there = z.joins.there }; up = z.up; down = z.down }) o;
    report = λ r z t. h.report r (record { joins = record { here = z.joins.here; there = z.joins.there }; up = z.up; down = z.down }) t;
    core = λ z l p. absurd (not_rest p);
    out = λ o. h.out (record { here = o.here; there = o.there });
    moved = λ z t.
        absurd (still (record {
          both = record { joins = record { here = z.both.joins.here; there = z.both.joins.there }; up = z.both.up; up_beyond = z.both.up_beyond };
          unnamed = z.unnamed;
        }));
    best = λ y q l z. let j : Joins e f = record { here = z.here; there = z.there } in ⊎_elim (λ old. h.best y old l j) (λ n. n) (news y q j);
  }

  far_best : lower (Some (best_key b)) (Some (best_key e.best)) ≡ true → FloorsFit f e c a → FloorsFit f (record e { best = b }) c a
  far_best falls h = record {
    none_below = h.none_below;
    falls = λ z. h.falls (record { joins = record { here = z.joins.here; there = z.joins.there }; up = z.up; down = z.down });
    covered = λ p z o.
        lower_on (Some (best_key b)) (Some (best_key e.best)) c falls
        (h.covered p (record { joins = record { here = z.joins.here; there = z.joins.there }; up = z.up; down = z.down }) o);
    report = λ r z t. h.report r (record { joins = record { here = z.joins.here; there = z.joins.there }; up = z.up; down = z.down }) t;
    core = λ z l p.
        h.core (record {
          both = record { joins = record { here = z.both.joins.here; there = z.both.joins.there }; up = z.both.up; up_beyond = z.both.up_beyond };
          named = z.named;
        }) l p;
    out = λ o. h.out (record { here = o.here; there = o.there });
    moved = λ z t.
        h.moved (record {
          both = record { joins = record { here = z.both.joins.here; there = z.both.joins.there }; up = z.both.up; up_beyond = z.both.up_beyond };
          unnamed = z.unnamed;
        }) t;
    best = λ y q l z. h.best y q l (record { here = z.here; there = z.there });
  }

-- a node that searches
module _ (g : Network) (wired : IsWired g) (u : ℕ) (u_is : InNetwork g u) (w : Scene) (holds : Invariant g w)
    (finds : (w.at u).head.phase ≡ Find) where
  restless : Quiet g w (w.at u).fragment → ⊥
  restless q = let z = q.found u u_is refl in cc (z, finds)

  root_unmoved : (i : ℕ) → At g u i → Moved (tree_end (end g w u i)) (tree_end (far_end g w u i)) → ⊥
  root_unmoved i at m =
      restless (holds.resting.moved u i at (record {
        both = record { joins = record { here = m.both.joins.here; there = m.both.joins.there }; up = m.both.up; up_beyond = m.both.up_beyond };
        unnamed = m.unnamed;
      }))

-- An Accept is heard.
module _ (g : Network) (wired : IsWired g) (u : ℕ) (u_is : InNetwork g u) (j : ℕ) (at : At g u j) (w : Scene) (holds : Invariant g w)
    (a : ℕ) (waits : (w.seen u j).accepts ≡ suc a) (own : (w.at u).head.probe ≡ Some j) (floor : ℕ → Floor) (floors : Floors g w floor)
  where
    finds : (w.at u).head.phase ≡ Find
    finds = probing_finds (holds.nodes u u_is) own

    abbrev b : Best
    b = better (w.at u).head.best j (Some (port_at g u j).key)

    apart : (w.at (far g u j)).fragment ≢ (w.at u).fragment
    apart =
        (accepted_apart (test_end (end g w u j)) (test_end (far_end g w u j)) own (link_fits g wired w holds u j at).tests
        (link_fits' g wired w holds u j at).tests a waits).0

    -- what is new is no child's
    news : (i : ℕ) →
        At g u i →
        (y : Key) → b ≡ Some (i, y) →
        Joins (tree_end (end g w u i)) (tree_end (far_end g w u i)) →
        ((w.at u).head.best ≡ Some (i, y)) ⊎ (floor (far g u i) ≡ Some (Some y))
    news i at' y e z =
        ⊎_elim inl (λ t.
        absurd (apart (subst (λ v. (w.at (far g u v)).fragment ≡ (w.at u).fragment) t.0
        (sym (holds.trees.joined_within u i at' (record { here = ap is_branch z.here; there = ap is_branch z.there }))))))
        (better_at (w.at u).head.best j (Some (port_at g u j).key) i y e)

    near_accepts : (i : ℕ) →
        At g u i →
        FloorsFit (record (tree_end (end g w u i)) { best = b }) (tree_end (far_end g w u i)) (floor u) (floor (far g u i))
    near_accepts i at' =
        near_best (tree_end (end g w u i)) (tree_end (far_end g w u i)) b (floor u) (floor (far g u i)) finds
        (root_unmoved g wired u u_is w holds finds i at') (news i at') (λ z. ((holds.nodes u u_is).searching finds).level)
        ((holds.nodes u u_is).searching finds).level (near_fits g wired w holds floor floors u i at')

    far_accepts : (i : ℕ) →
        At g u i →
        FloorsFit (tree_end (far_end g w u i)) (record (tree_end (end g w u i)) { best = b }) (floor (far g u i)) (floor u)
    far_accepts i at' =
        far_best (tree_end (end g w u i)) (tree_end (far_end g w u i)) b (floor u) (floor (far g u i)) finds
        (better_lower (w.at u).head.best j (Some (port_at g u j).key)) (far_fits g wired w holds floor floors u i at')

    pub accept_floors : Floors g (acts g u (took_accept (w.at u) j (port_at g u j).key) (left_accepts w u j a) [] w) floor
    accept_floors =
        hears_floors g wired u u_is (took_accept (w.at u) j (port_at g u j).key) j at (record (w.seen u j) { accepts = a }) w floor floors
        (near_accepts j at) (far_accepts j at) (λ i at' ne. near_accepts i at') (λ i at' ne. far_accepts i at')
        (let z = floors.nodes u u_is in record { asleep = z.asleep; search = z.search }) (λ p z. z)
        (halted_after g wired u u_is (took_accept (w.at u) j (port_at g u j).key) (left_accepts w u j a) [] w floor floors (floor u) refl refl)

    -- and the ports that are left aren't below the new best
    pub accept_scans : ((q : ℕ) → (w.at u).mark q ≡ Basic → key_lt (port_at g u q).key (port_at g u j).key ≡ false) →
        (q : ℕ) → (w.at u).mark q ≡ Basic →
        below (Some (port_at g u q).key) (best_key (better (w.at u).head.best j (Some (port_at g u j).key))) ≡ false
    accept_scans probed q m =
        above_best (Some (port_at g u q).key) (Some (port_at g u j).key) (best_key b)
        (better_heard (w.at u).head.best j (Some (port_at g u j).key)) (probed q m)

-- A child's Report is heard.
module _ (g : Network) (wired : IsWired g) (u : ℕ) (u_is : InNetwork g u) (j : ℕ) (at : At g u j) (w : Scene) (holds : Invariant g w)
    (k : Option Key) (ms : List Message) (c : ℕ) (waits : (w.seen u j).tree ≡ Report k ∷ ms) (away : (w.at u).head.in_branch ≢ Some j)
    (count : (w.at u).head.find_count ≡ suc c)
    (floor : ℕ → Floor) (floors : Floors g w floor) where
  searches : (w.at u).head.phase ≡ Find
  searches = ⊎_elim (λ h. h) (λ ne. absurd (let z = ((holds.nodes u u_is).idle ne).1 in omega (arith, z, count))) (is_find' (w.at u).head.phase)

  abbrev best' : Best
  best' = better (w.at u).head.best j k

  open child_heard g wired u u_is j at w holds k ms waits away use {child, tree as reports}

  child_floor : floor (far g u j) ≡ Some k
  child_floor = (far_fits g wired w holds floor floors u j at).report k child reports

  learnt : (i : ℕ) →
      At g u i →
      (y : Key) → better (w.at u).head.best j k ≡ Some (i, y) →
      Joins (tree_end (end g w u i)) (tree_end (far_end g w u i)) →
      ((w.at u).head.best ≡ Some (i, y)) ⊎ (floor (far g u i) ≡ Some (Some y))
  learnt i at' y e z =
      ⊎_elim inl
      (λ t. inr (subst (λ v. floor (far g u v) ≡ Some (Some y)) (sym t.0) (child_floor ∙ ap Some t.1)))
      (better_at (w.at u).head.best j k i y e)

  near_hears : (i : ℕ) →
      At g u i →
      FloorsFit (record (tree_end (end g w u i)) { best = best' }) (tree_end (far_end g w u i)) (floor u) (floor (far g u i))
  near_hears i at' =
      near_best (tree_end (end g w u i)) (tree_end (far_end g w u i)) best' (floor u) (floor (far g u i)) searches
      (root_unmoved g wired u u_is w holds searches i at') (learnt i at') (λ z. ((holds.nodes u u_is).searching searches).level)
      ((holds.nodes u u_is).searching searches).level (near_fits g wired w holds floor floors u i at')

  far_hears : (i : ℕ) →
      At g u i →
      FloorsFit (tree_end (far_end g w u i)) (record (tree_end (end g w u i)) { best = best' }) (floor (far g u i)) (floor u)
  far_hears i at' =
      far_best (tree_end (end g w u i)) (tree_end (far_end g w u i)) best' (floor u) (floor (far g u i)) searches
      (better_lower (w.at u).head.best j k) (far_fits g wired w holds floor floors u i at')

  -- the link of the Report
  near_popped : FloorsFit (record (tree_end (end g w u j)) { best = best'; tree = [] }) (tree_end (far_end g w u j)) (floor u) (floor (far g u j))
  near_popped =
      let h = near_hears j at in
      record {
        none_below = h.none_below;
        falls = λ z. absurd (child.down z.up);
        covered = λ p z o. absurd (child.down z.up);
        report = λ r z t. absurd (child.down z.up);
        core = λ z l p. absurd (child.down z.both.up);
        out = λ o. absurd (o.there child.joins.here);
        moved = λ z t. absurd (child.down z.both.up);
        best = λ y q l z. h.best y q l (record { here = z.here; there = z.there });
      }

  far_popped : FloorsFit (tree_end (far_end g w u j)) (record (tree_end (end g w u j)) { best = best'; tree = [] }) (floor (far g u j)) (floor u)
  far_popped =
      let h = far_hears j at in
      record {
        none_below = h.none_below;
        falls = λ z. h.falls (record { joins = record { here = z.joins.here; there = z.joins.there }; up = z.up; down = z.down });
        covered = λ p z o. subst (λ v. lower (Some (best_key best')) v ≡ true) (sym child_floor) (better_heard (w.at u).head.best j k);
        report = λ r z t. absurd (let y : [] ≡ Report r ∷ [] = t in cc);
        core = λ z l p. absurd (child.down z.both.up_beyond);
        out = λ o. absurd (o.there child.joins.there);
        moved = λ z t. absurd (child.down z.both.up_beyond);
        best = λ y q l z. h.best y q l (record { here = z.here; there = z.there });
      }

  pub report_floors : Floors g (acts g u (took_report (w.at u) j k c) (left_tree w u j []) [] w) floor
  report_floors =
      hears_floors g wired u u_is (took_report (w.at u) j k c) j at (record (w.seen u j) { tree = [] }) w floor floors
      near_popped far_popped (λ i at' ne. near_hears i at') (λ i at' ne. far_hears i at')
      (let z = floors.nodes u u_is in record { asleep = z.asleep; search = z.search }) (λ p z. z)
      (halted_after g wired u u_is (took_report (w.at u) j k c) (left_tree w u j []) [] w floor floors (floor u) refl refl)

  -- and the ports that are left aren't below the new best
  pub report_scans : ((q : ℕ) → (w.at u).mark q ≡ Basic → below (Some (port_at g u q).key) (best_key (w.at u).head.best) ≡ false) →
      (q : ℕ) → (w.at u).mark q ≡ Basic →
      below (Some (port_at g u q).key) (best_key (better (w.at u).head.best j k)) ≡ false
  report_scans done q m =
      above_best (Some (port_at g u q).key) (best_key (w.at u).head.best) (best_key best') (better_lower (w.at u).head.best j k) (done q m)
