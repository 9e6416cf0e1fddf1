-- Steps that floors hardly see: Tests and their answers, a Connect that is answered over the core, a lone node, and the opening.
use Rattle.std.proofs.Common.{◌≡◌, ◌≢◌, ℕ, Some, List, [], ◌∷◌, ◌++◌, length, refl, sym, ◌∙◌, ap, subst, arith}
use Rattle.ghs_graph.specs.declared.key.Key.{Key}
use Rattle.ghs_node.specs.declared.mark.Mark.{Mark}
use Rattle.ghs_node.specs.declared.mark.Mark.TheVariants.{Basic, Branch}
use Rattle.ghs_node.specs.Words.{is_branch, Outgoing}
use Rattle.ghs_node.specs.declared.message.Phase.TheVariants.{Sleeping, Find, Found}
use Rattle.ghs_node.specs.declared.message.Message.{Message}
use Rattle.ghs_node.specs.declared.message.Message.TheVariants.{Connect, Initiate, Test, Accept, Reject}
use Rattle.peer_network.specs.Network.{Network, port_at, At, far, InNetwork}
use Rattle.peer_network.proofs.lemmas.Wired.{IsWired}
use Rattle.peer_network.specs.Updates.{put}
use Rattle.ghs_protocol.proofs.clauses.Scene.{Seen, adds, Member, Scene, End, TreeEnd, tree_end, end, acts, far_end}
use Rattle.ghs_protocol.proofs.clauses.Changes.{left_tree, left_tests, left_rejects, seen_beyond, marked, rules_out, took_reject, halts_alone}
use Rattle.ghs_protocol.proofs.clauses.Whole.{Invariant}
use Rattle.ghs_protocol.proofs.clauses.Floors.{Floor, FloorsFit, FloorsAt, NodeFloor, HaltedIsWhole, Floors}
use Rattle.ghs_protocol.proofs.acts.SameForest.{branch_mark}
use Rattle.ghs_protocol.proofs.acts.Reactions.{put_again}
use Rattle.ghs_protocol.proofs.acts.Situations.{branch_marked}
use Rattle.ghs_protocol.proofs.acts.OneLink.{SendsOn, sends_none, sends_one, by_port_at}
use Rattle.ghs_protocol.proofs.union.CoreAnswered.{serving}
use Rattle.ghs_protocol.proofs.rows.Link.{joined_clauses}
use Rattle.ghs_protocol.proofs.acts.Floors.{near_fits, far_fits}
use Rattle.ghs_protocol.proofs.search.CloseFloors.{nodes_after, links_after, in_tree_after, halted_after, halted_more}

-- another mark, which is Branch just where the old one is
module _ (e f : TreeEnd) (m : Mark) (a c : Floor) (same : is_branch m ≡ is_branch e.mark) where
  was : m ≡ Branch → e.mark ≡ Branch
  was h = branch_mark e.mark (sym same ∙ ap is_branch h)

  isnt : m ≢ Branch → e.mark ≢ Branch
  isnt ne h = ne (branch_mark m (same ∙ ap is_branch h))

  pub near_marked : FloorsFit e f a c → FloorsFit (record e { mark = m }) f a c
  near_marked h = record {
    none_below = h.none_below;
    falls = λ s. h.falls (record { joins = record { here = was s.joins.here; there = s.joins.there }; up = s.up; down = s.down });
    covered = λ p s o. h.covered p (record { joins = record { here = was s.joins.here; there = s.joins.there }; up = s.up; down = s.down }) o;
    report = λ r s t. h.report r (record { joins = record { here = was s.joins.here; there = s.joins.there }; up = s.up; down = s.down }) t;
    core = λ s l p.
        h.core (record {
          both =
              record { joins = record { here = was s.both.joins.here; there = s.both.joins.there }; up = s.both.up; up_beyond = s.both.up_beyond };
          named = s.named;
        }) l p;
    out = λ o. h.out (record { here = was o.here; there = o.there });
    moved = λ s t.
        h.moved (record {
          both =
              record { joins = record { here = was s.both.joins.here; there = s.both.joins.there }; up = s.both.up; up_beyond = s.both.up_beyond };
          unnamed = s.unnamed;
        }) t;
    best = λ k b l s. h.best k b l (record { here = was s.here; there = s.there });
  }

  pub far_marked : FloorsFit f e c a → FloorsFit f (record e { mark = m }) c a
  far_marked h = record {
    none_below = h.none_below;
    falls = λ s. h.falls (record { joins = record { here = s.joins.here; there = was s.joins.there }; up = s.up; down = s.down });
    covered = λ p s o. h.covered p (record { joins = record { here = s.joins.here; there = was s.joins.there }; up = s.up; down = s.down }) o;
    report = λ r s t. h.report r (record { joins = record { here = s.joins.here; there = was s.joins.there }; up = s.up; down = s.down }) t;
    core = λ s l p.
        h.core (record {
          both =
              record { joins = record { here = s.both.joins.here; there = was s.both.joins.there }; up = s.both.up; up_beyond = s.both.up_beyond };
          named = s.named;
        }) l p;
    out = λ o. h.out (record { here = o.here; there = isnt o.there });
    moved = λ s t.
        h.moved (record {
          both =
              record { joins = record { here = s.both.joins.here; there = was s.both.joins.there }; up = s.both.up; up_beyond = s.both.up_beyond };
          unnamed = s.unnamed;
        }) t;
    best = λ k b l s. h.best k b l (record { here = s.here; there = was s.there });
  }

-- One link is touched, floors stay.
module _ (g : Network) (wired : IsWired g) (u : ℕ) (u_is : InNetwork g u) (x : Member) (j : ℕ) (at : At g u j) (q : Seen)
    (ms : List Message) (ss : Outgoing) (on : SendsOn j ms ss) (w : Scene) (floor : ℕ → Floor) (floors : Floors g w floor) where
  abbrev pub still : ℕ → End
  still i = record { port = i; key = (port_at g u i).key; mark = x.mark i; is = x; seen = w.seen u i }

  abbrev pub here : End
  here = record { port = j; key = (port_at g u j).key; mark = x.mark j; is = x; seen = q }

  abbrev pub there : End
  there = record (far_end g w u j) { seen = adds (seen_beyond g w u j) ms }

  pub touches_floors :
      FloorsAt here there (floor u) (floor (far g u j)) → FloorsAt there here (floor (far g u j)) (floor u) →
      ((i : ℕ) → At g u i → i ≢ j → FloorsAt (still i) (far_end g w u i) (floor u) (floor (far g u i))) →
      ((i : ℕ) → At g u i → i ≢ j → FloorsAt (far_end g w u i) (still i) (floor (far g u i)) (floor u)) →
      NodeFloor x (floor u) → ((p : ℕ) → x.mark p ≡ Branch → (w.at u).mark p ≡ Branch) → HaltedIsWhole g (acts g u x (put (w.seen u) j q) ss w) →
      Floors g (acts g u x (put (w.seen u) j q) ss w) floor
  touches_floors hit hit' miss miss' node marks halted =
      subst (Floors g (acts g u x (put (w.seen u) j q) ss w)) (put_again floor u) (record {
        nodes = nodes_after g wired u u_is x (put (w.seen u) j q) ss w floor floors (floor u) node;
        links =
            links_after g wired u u_is x (put (w.seen u) j q) ss w floor floors (floor u)
            (by_port_at g wired u u_is x j at q ms ss on w (λ i e f. FloorsAt e f (floor u) (floor (far g u i))) hit miss)
            (by_port_at g wired u u_is x j at q ms ss on w (λ i e f. FloorsAt f e (floor (far g u i)) (floor u)) hit' miss');
        in_tree = in_tree_after g wired u u_is x (put (w.seen u) j q) ss w floor floors (floor u) (λ p at' z. floors.in_tree u p at' (marks p z));
        halted = halted;
      })

module _ (g : Network) (wired : IsWired g) (u : ℕ) (u_is : InNetwork g u) (j : ℕ) (at : At g u j) (w : Scene) (holds : Invariant g w)
    (floor : ℕ → Floor) (floors : Floors g w floor) where
  same_node : NodeFloor (w.at u) (floor u)
  same_node = floors.nodes u u_is

  near_mark : (m : Mark) (i : ℕ) →
      At g u i →
      is_branch m ≡ is_branch ((w.at u).mark i) →
      FloorsFit (record (tree_end (end g w u i)) { mark = m }) (tree_end (far_end g w u i)) (floor u) (floor (far g u i))
  near_mark m i at' e =
      near_marked (tree_end (end g w u i)) (tree_end (far_end g w u i)) m (floor u) (floor (far g u i)) e
      (near_fits g wired w holds floor floors u i at')

  far_mark : (m : Mark) (i : ℕ) →
      At g u i →
      is_branch m ≡ is_branch ((w.at u).mark i) →
      FloorsFit (tree_end (far_end g w u i)) (record (tree_end (end g w u i)) { mark = m }) (floor (far g u i)) (floor u)
  far_mark m i at' e =
      far_marked (tree_end (end g w u i)) (tree_end (far_end g w u i)) m (floor u) (floor (far g u i)) e
      (far_fits g wired w holds floor floors u i at')

  -- a Test is accepted
  pub accept_sent_floors : (ts : List (ℕ × Key)) → Floors g (acts g u (w.at u) (left_tests w u j ts) ((j, Accept) ∷ []) w) floor
  accept_sent_floors ts =
      touches_floors g wired u u_is (w.at u) j at (record (w.seen u j) { tests = ts }) (Accept ∷ []) ((j, Accept) ∷ []) (sends_one j Accept) w
      floor floors
      (near_fits g wired w holds floor floors u j at) (far_fits g wired w holds floor floors u j at)
      (λ i at' ne. near_fits g wired w holds floor floors u i at')
      (λ i at' ne. far_fits g wired w holds floor floors u i at')
      same_node (λ p e. e) (halted_after g wired u u_is (w.at u) (left_tests w u j ts) ((j, Accept) ∷ []) w floor floors (floor u) refl refl)

  -- a Test is rejected
  pub reject_sent_floors : (ts : List (ℕ × Key)) → Floors g (acts g u (rules_out (w.at u) j) (left_tests w u j ts) ((j, Reject) ∷ []) w) floor
  reject_sent_floors ts =
      touches_floors g wired u u_is (rules_out (w.at u) j) j at (record (w.seen u j) { tests = ts }) (Reject ∷ []) ((j, Reject) ∷ [])
      (sends_one j Reject) w floor floors
      (near_mark (marked (w.at u).mark j j) j at (branch_marked (w.at u).mark j j))
      (far_mark (marked (w.at u).mark j j) j at (branch_marked (w.at u).mark j j))
      (λ i at' ne. near_mark (marked (w.at u).mark j i) i at' (branch_marked (w.at u).mark j i))
      (λ i at' ne. far_mark (marked (w.at u).mark j i) i at' (branch_marked (w.at u).mark j i))
      (record { asleep = same_node.asleep; search = same_node.search })
      (λ p e. branch_mark _ (sym (branch_marked (w.at u).mark j p) ∙ ap is_branch e))
      (halted_after g wired u u_is (rules_out (w.at u) j) (left_tests w u j ts) ((j, Reject) ∷ []) w floor floors (floor u) refl refl)

  -- Tests cross
  pub cross_floors : (ts : List (ℕ × Key)) → Floors g (acts g u (took_reject (w.at u) j) (left_tests w u j ts) [] w) floor
  cross_floors ts =
      touches_floors g wired u u_is (took_reject (w.at u) j) j at (record (w.seen u j) { tests = ts }) [] [] (sends_none j) w floor floors
      (near_mark (marked (w.at u).mark j j) j at (branch_marked (w.at u).mark j j))
      (far_mark (marked (w.at u).mark j j) j at (branch_marked (w.at u).mark j j))
      (λ i at' ne. near_mark (marked (w.at u).mark j i) i at' (branch_marked (w.at u).mark j i))
      (λ i at' ne. far_mark (marked (w.at u).mark j i) i at' (branch_marked (w.at u).mark j i))
      (record { asleep = same_node.asleep; search = same_node.search })
      (λ p e. branch_mark _ (sym (branch_marked (w.at u).mark j p) ∙ ap is_branch e))
      (halted_after g wired u u_is (took_reject (w.at u) j) (left_tests w u j ts) [] w floor floors (floor u) refl refl)

  -- a Reject is heard
  pub reject_floors : (r : ℕ) → Floors g (acts g u (took_reject (w.at u) j) (left_rejects w u j r) [] w) floor
  reject_floors r =
      touches_floors g wired u u_is (took_reject (w.at u) j) j at (record (w.seen u j) { rejects = r }) [] [] (sends_none j) w floor floors
      (near_mark (marked (w.at u).mark j j) j at (branch_marked (w.at u).mark j j))
      (far_mark (marked (w.at u).mark j j) j at (branch_marked (w.at u).mark j j))
      (λ i at' ne. near_mark (marked (w.at u).mark j i) i at' (branch_marked (w.at u).mark j i))
      (λ i at' ne. far_mark (marked (w.at u).mark j i) i at' (branch_marked (w.at u).mark j i))
      (record { asleep = same_node.asleep; search = same_node.search })
      (λ p e. branch_mark _ (sym (branch_marked (w.at u).mark j p) ∙ ap is_branch e))
      (halted_after g wired u u_is (took_reject (w.at u) j) (left_rejects w u j r) [] w floor floors (floor u) refl refl)

  -- the next Test goes out
  pub scan_floors : (l : ℕ) (n : Key) →
      Floors g
      (acts g u (record (w.at u) { head = record (w.at u).head { probe = Some j } }) (put (w.seen u) j (w.seen u j)) ((j, Test l n) ∷ []) w)
      floor
  scan_floors l n =
      touches_floors g wired u u_is (record (w.at u) { head = record (w.at u).head { probe = Some j } }) j at (w.seen u j) (Test l n ∷ [])
      ((j, Test l n) ∷ []) (sends_one j (Test l n)) w floor floors
      (near_fits g wired w holds floor floors u j at) (far_fits g wired w holds floor floors u j at)
      (λ i at' ne. near_fits g wired w holds floor floors u i at')
      (λ i at' ne. far_fits g wired w holds floor floors u i at')
      (record { asleep = same_node.asleep; search = same_node.search }) (λ p e. e)
      (halted_after g wired u u_is (record (w.at u) { head = record (w.at u).head { probe = Some j } }) (put (w.seen u) j (w.seen u j))
      ((j, Test l n) ∷ []) w floor floors (floor u) refl refl)

  -- a Connect over the core is answered
  module _ (l : ℕ) (ms : List Message) (waits : (w.seen u j).tree ≡ Connect l ∷ ms) (marked_so : (w.at u).mark j ≢ Basic) (m : ℕ) (k : Key) where
    open serving g wired u u_is j at w holds l ms waits marked_so use {core as core_link}

    near_served :
        FloorsFit (record (tree_end (end g w u j)) { tree = ms })
        (record (tree_end (far_end g w u j)) { tree = (seen_beyond g w u j).tree ++ Initiate m k Find ∷ [] }) (floor u) (floor (far g u j))
    near_served =
        let f = near_fits g wired w holds floor floors u j at in
        record {
          none_below = f.none_below;
          falls = λ c. absurd (c.down core_link.both.up_beyond);
          covered = λ p c o. absurd (c.down core_link.both.up_beyond);
          report = λ r c t. absurd (c.down core_link.both.up_beyond);
          core = λ c y p. f.core core_link y p;
          out = λ o. absurd (o.there core_link.both.joins.there);
          moved = λ z t. absurd (z.unnamed core_link.named);
          best = λ y b e z. f.best y b e core_link.both.joins;
        }

    far_served :
        FloorsFit
        (record (tree_end (far_end g w u j)) { tree = (seen_beyond g w u j).tree ++ Initiate m k Find ∷ [] })
        (record (tree_end (end g w u j)) { tree = ms }) (floor (far g u j)) (floor u)
    far_served =
        let f = far_fits g wired w holds floor floors u j at in
        record {
          none_below = f.none_below;
          falls = λ c. absurd (c.down core_link.both.up);
          covered = λ p c o. absurd (c.down core_link.both.up);
          report = λ r c t. absurd (c.down core_link.both.up);
          core = λ c y p.
              f.core (record {
                both =
                    record { joins = record { here = c.both.joins.here; there = c.both.joins.there }; up = c.both.up; up_beyond = c.both.up_beyond };
                named = c.named;
              }) y p;
          out = λ o. absurd (o.there core_link.both.joins.here);
          moved = λ z t. absurd (z.unnamed ((joined_clauses g w holds u j at core_link.both.joins).ghosts.1 ∙ core_link.named));
          best = λ y b e z. f.best y b e (record { here = core_link.both.joins.there; there = core_link.both.joins.here });
        }

    pub serve_floors : Floors g (acts g u (w.at u) (left_tree w u j ms) ((j, Initiate m k Find) ∷ []) w) floor
    serve_floors =
        touches_floors g wired u u_is (w.at u) j at (record (w.seen u j) { tree = ms }) (Initiate m k Find ∷ []) ((j, Initiate m k Find) ∷ [])
        (sends_one j (Initiate m k Find)) w floor floors
        near_served far_served (λ i at' ne. near_fits g wired w holds floor floors u i at')
        (λ i at' ne. far_fits g wired w holds floor floors u i at')
        same_node (λ p e. e)
        (halted_after g wired u u_is (w.at u) (left_tree w u j ms) ((j, Initiate m k Find) ∷ []) w floor floors (floor u) refl refl)

-- A node without ports wakes and halts.
module _ (g : Network) (wired : IsWired g) (u : ℕ) (u_is : InNetwork g u) (w : Scene) (holds : Invariant g w)
    (lone : ◌≡◌ {A = ℕ} (length (g.ports u)) 0) (sleeps : (w.at u).head.phase ≡ Sleeping) (floor : ℕ → Floor) (floors : Floors g w floor)
  where
    no_port : (i : ℕ) → At g u i → ⊥
    no_port i at = omega (arith, at.port, lone)

    abbrev x : Member
    x = halts_alone (w.at u)

    pub lone_floors : Floors g (acts g u (halts_alone (w.at u)) (w.seen u) [] w) floor
    lone_floors =
        subst (Floors g (acts g u x (w.seen u) [] w)) (put_again floor u) (record {
          nodes =
              nodes_after g wired u u_is x (w.seen u) [] w floor floors (floor u)
              (record { asleep = λ e. absurd (let z : Found ≡ Sleeping = e in cc); search = λ e. absurd (let z : Found ≡ Find = e in cc) });
          links = links_after g wired u u_is x (w.seen u) [] w floor floors (floor u) (λ i at. absurd (no_port i at)) (λ i at. absurd (no_port i at));
          in_tree = in_tree_after g wired u u_is x (w.seen u) [] w floor floors (floor u) (λ p at m. absurd (no_port p at));
          halted =
              halted_more g wired u u_is x (w.seen u) [] w floor floors (floor u) refl
              (λ t p at same.
              absurd (let e = holds.alone u t u_is (record { some = at.some; node = at.node }) sleeps same in
              no_port p (subst (λ y. At g y p) e at)));
        })
