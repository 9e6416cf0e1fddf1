-- A node that has heard all reports.
use Rattle.std.proofs.Common.{◌≡◌, ◌≢◌, ℕ, ◌+◌, Bool, true, false, not, ◌&&◌, Option, Some, None, List, [], ◌∷◌, ◌++◌, refl, sym, ◌∙◌, ap, subst, ⊎_elim, length, arith, cond}
use Rattle.std.proofs.lemmas.Option.{same_Some}
use Rattle.ghs_graph.specs.declared.key.Key.{Key}
use Rattle.ghs_node.specs.Words.{is_at, best_key}
use Rattle.ghs_node.specs.declared.mark.Mark.TheVariants.{Branch}
use Rattle.ghs_node.specs.declared.message.Phase.TheVariants.{Sleeping, Find, Found}
use Rattle.ghs_node.specs.declared.message.Message.{Message}
use Rattle.ghs_node.specs.declared.message.Message.TheVariants.{Connect, Initiate, Test, Accept, Reject, Report, ChangeRoot}
use Rattle.peer_network.specs.Network.{Network, port_at, At, far, far_port, InNetwork}
use Rattle.peer_network.proofs.lemmas.Wired.{IsWired}
use Rattle.peer_network.specs.Updates.{put}
use Rattle.ghs_protocol.proofs.clauses.Scene.{Member, Scene, End, TreeEnd, tree_end, end, acts, far_end}
use Rattle.ghs_protocol.proofs.clauses.Changes.{seen_beyond}
use Rattle.ghs_protocol.proofs.clauses.Nodes.{NodeFits}
use Rattle.ghs_protocol.proofs.clauses.TreeMessages.{TreeFits, Upward, Nothing_up, Report_up, Downward, Initiates, Old_report, CoreFits, CoreQueue, Plain, With_report, Moved, Stage, Asking, Called, Begun, AtStage, asked, called}
use Rattle.ghs_protocol.proofs.clauses.Search.{SearchFits}
use Rattle.ghs_protocol.proofs.clauses.Whole.{Invariant}
use Rattle.ghs_protocol.proofs.clauses.Links.{Joins, Ups}
use Rattle.ghs_protocol.proofs.clauses.Rest.{debt, owes, has_call, has_report, Quiet}
use Rattle.ghs_protocol.proofs.acts.OneLink.{sends_one, sums_one, kept_one, at_near, at_far}
use Rattle.ghs_protocol.proofs.search.ReportGone.{search_trees, debt_up}
use Rattle.ghs_protocol.proofs.search.FirstReport.{mark_is}
use Rattle.ghs_protocol.proofs.rest.AtRest.{by_find}
use Rattle.ghs_protocol.proofs.rows.Link.{link_clauses, joined_clauses, not_the_way}
use Rattle.ghs_node.proofs.lemmas.{is_at_is, is_at_not}

abbrev pub found : TreeEnd → TreeEnd
found e = record e { phase = Found }

abbrev pub with_report : TreeEnd → Option Key → TreeEnd
with_report f k = record f { tree = f.tree ++ Report k ∷ [] }

-- a searching node's other links, when it is done
module _ (e f : TreeEnd) (finds : e.phase ≡ Find) where
  not_yet : e.phase ≢ Found
  not_yet z = cc (finds, z)

  up_done : Upward f e → Upward f (found e)
  up_done (Nothing_up q) = Nothing_up q
  up_done (Report_up k q r) = Report_up k q r

  down_done : {N : Key → Type 0} → Downward N f e → Downward N f (found e)
  down_done (Initiates c) = Initiates c
  down_done (Old_report k ms q h c) = Old_report k ms q (record { in_branch = h.in_branch; phase = h.phase; worse = h.worse; there = h.there }) c

  pub search_done : SearchFits e f → SearchFits (found e) f
  search_done h = record {
    rejected_inside = h.rejected_inside;
    find_leads = λ k x l m. let z = h.find_leads k x l m in record { key = z.key; apart = z.apart; higher = z.higher };
    find_reported = λ k x l j. h.find_reported k x l (record { here = j.here; there = j.there });
  }

  pub search_done' : SearchFits f e → SearchFits f (found e)
  search_done' h = record {
    rejected_inside = h.rejected_inside;
    find_leads = λ k x l m. let z = h.find_leads k x l m in record { key = z.key; apart = z.apart; higher = z.higher };
    find_reported = λ k x l j. absurd (not_yet (h.find_reported k x l (record { here = j.here; there = j.there })).phase);
  }

  module _ (away : e.up ≢ Some e.port) where
    pub tree_done : {N : ℕ → Key → Type 0} → TreeFits N e f → TreeFits N (found e) f
    tree_done h = record {
      out_connect = λ o.
          let z = h.out_connect (record { here = o.here; there = o.there }) in
          record { mark = z.mark; up = z.up; apart = z.apart; level = z.level; higher = z.higher; one = z.one; none = z.none };
      silent = h.silent;
      core_ends = λ j n. let z = h.core_ends (record { here = j.here; there = j.there }) n in record { at_top = z.at_top; below = z.below };
      upward = λ c. absurd (away c.up);
      downward = λ c. absurd (away c.up);
      core_queues = λ c. absurd (away c.both.up);
      moved_root = λ c. absurd (away c.both.up);
    }

    pub tree_done' : {N : ℕ → Key → Type 0} → TreeFits N f e → TreeFits N f (found e)
    tree_done' h = record {
      out_connect = λ o.
          let z = h.out_connect (record { here = o.here; there = o.there }) in
          record { mark = z.mark; up = z.up; apart = z.apart; level = z.level; higher = z.higher; one = z.one; none = z.none };
      silent = h.silent;
      core_ends = λ j n. let z = h.core_ends (record { here = j.here; there = j.there }) n in record { at_top = z.at_top; below = z.below };
      upward = λ c. up_done (h.upward (record { joins = record { here = c.joins.here; there = c.joins.there }; up = c.up; down = c.down }));
      downward = λ c. down_done (h.downward (record { joins = record { here = c.joins.here; there = c.joins.there }; up = c.up; down = c.down }));
      core_queues = λ c. absurd (away c.both.up_beyond);
      moved_root = λ c. absurd (away c.both.up_beyond);
    }

  -- the link to its parent, or the core
  module _ (j : Joins e f) (up : Ups e) (top : e.level ≡ e.coming) (back : e.in_branch ≡ Some e.port) (unmoved : Moved e f → ⊥) where
    empty_up : Upward e f → f.tree ≡ []
    empty_up (Nothing_up q) = q
    empty_up (Report_up k q r) = absurd (not_yet r.phase)

    down_same : {N : Key → Type 0} → Downward N e f → Downward N (found e) (with_report f (best_key e.best))
    down_same (Initiates c) = Initiates c
    down_same (Old_report k ms q h c) = absurd (not_yet h.phase)

    begun_here : (s : Stage) → AtStage e s → s ≡ Begun
    begun_here Asking a = absurd (omega (arith, a, top))
    begun_here Called a = absurd (omega (arith, a, top))
    begun_here Begun a = refl

    stage_e : (s : Stage) → AtStage e s → AtStage (found e) s
    stage_e Asking a = a
    stage_e Called a = a
    stage_e Begun a = a

    stage_f : (s : Stage) → AtStage f s → AtStage (with_report f (best_key e.best)) s
    stage_f Asking a = a
    stage_f Called a = a
    stage_f Begun a = a

    queue_e : {x y : Stage} → CoreQueue e f x y → CoreQueue (found e) (with_report f (best_key e.best)) x y
    queue_e (Plain q) = Plain q
    queue_e (With_report k q s p b) = With_report k q s p b

    queue_f : {x y : Stage} → x ≡ Begun → CoreQueue f e y x → CoreQueue (with_report f (best_key e.best)) (found e) y x
    queue_f {x} {y} s (Plain q) =
        With_report (best_key e.best)
        (ap (λ z. z ++ Report (best_key e.best) ∷ []) (q ∙ ap (λ z. asked e.level z ++ called f.coming f.key y) s)) s refl refl
    queue_f s (With_report k q t p b) = absurd (not_yet p)

    core_done : CoreFits e f → CoreFits (found e) (with_report f (best_key e.best))
    core_done z = record {
      here = z.here;
      there = z.there;
      at_here = stage_e z.here z.at_here;
      at_there = stage_f z.there z.at_there;
      served = z.served;
      served_beyond = z.served_beyond;
      queue = queue_e z.queue;
      queue_beyond = queue_f (begun_here z.here z.at_here) z.queue_beyond;
    }

    core_done' : CoreFits f e → CoreFits (with_report f (best_key e.best)) (found e)
    core_done' z = record {
      here = z.here;
      there = z.there;
      at_here = stage_f z.here z.at_here;
      at_there = stage_e z.there z.at_there;
      served = z.served;
      served_beyond = z.served_beyond;
      queue = queue_f (begun_here z.there z.at_there) z.queue;
      queue_beyond = queue_e z.queue_beyond;
    }

    pub tree_reports : {N : ℕ → Key → Type 0} → TreeFits N e f → TreeFits N (found e) (with_report f (best_key e.best))
    tree_reports h = record {
      out_connect = λ o. absurd (o.there j.there);
      silent = λ a b. absurd (a j.here);
      core_ends = λ z n. let y = h.core_ends j n in record { at_top = y.at_top; below = y.below };
      upward = λ c.
          Report_up (best_key e.best)
          (ap (λ z. z ++ Report (best_key e.best) ∷ []) (empty_up (h.upward (record { joins = j; up = c.up; down = c.down }))))
          (record { phase = refl; in_branch = back; level = top; key = refl });
      downward = λ c. down_same (h.downward (record { joins = j; up = c.up; down = c.down }));
      core_queues = λ c. core_done (h.core_queues (record { both = record { joins = j; up = up; up_beyond = c.both.up_beyond }; named = c.named }));
      moved_root = λ c. absurd (unmoved (record { both = record { joins = j; up = up; up_beyond = c.both.up_beyond }; unnamed = c.unnamed }));
    }

    pub tree_reports' : {N : ℕ → Key → Type 0} →
        f.coming_name ≡ e.coming_name →
        f.key ≡ e.key →
        TreeFits N f e →
        TreeFits N (with_report f (best_key e.best)) (found e)
    tree_reports' same keys h = record {
      out_connect = λ o. absurd (o.there j.here);
      silent = λ a b. absurd (b j.here);
      core_ends = λ z n. let y = h.core_ends (record { here = j.there; there = j.here }) n in record { at_top = y.at_top; below = y.below };
      upward = λ c. absurd (c.down up);
      downward = λ c. absurd (c.down up);
      core_queues = λ c.
          core_done' (h.core_queues
          (record { both = record { joins = record { here = j.there; there = j.here }; up = c.both.up; up_beyond = up }; named = c.named }));
      moved_root = λ c.
          absurd (unmoved
          (record { both = record { joins = j; up = up; up_beyond = c.both.up }; unnamed = λ z. c.unnamed (same ∙ z ∙ ap Some (sym keys)) }));
    }

pub has_report_append : (xs : List Message) (k : Option Key) → has_report (xs ++ Report k ∷ []) ≡ true
has_report_append [] k = refl
has_report_append (Connect l ∷ xs) k = has_report_append xs k
has_report_append (Initiate l f s ∷ xs) k = has_report_append xs k
has_report_append (Test l f ∷ xs) k = has_report_append xs k
has_report_append (Accept ∷ xs) k = has_report_append xs k
has_report_append (Reject ∷ xs) k = has_report_append xs k
has_report_append (Report r ∷ xs) k = refl
has_report_append (ChangeRoot ∷ xs) k = has_report_append xs k

has_call_append : (xs : List Message) (k : Option Key) → has_call (xs ++ Report k ∷ []) ≡ has_call xs
has_call_append [] k = refl
has_call_append (Connect l ∷ xs) k = has_call_append xs k
has_call_append (Initiate l f Find ∷ xs) k = refl
has_call_append (Initiate l f Found ∷ xs) k = has_call_append xs k
has_call_append (Initiate l f Sleeping ∷ xs) k = has_call_append xs k
has_call_append (Test l f ∷ xs) k = has_call_append xs k
has_call_append (Accept ∷ xs) k = has_call_append xs k
has_call_append (Reject ∷ xs) k = has_call_append xs k
has_call_append (Report r ∷ xs) k = has_call_append xs k
has_call_append (ChangeRoot ∷ xs) k = has_call_append xs k

module _ (g : Network) (wired : IsWired g) (u : ℕ) (u_is : InNetwork g u) (j : ℕ) (at : At g u j) (w : Scene) (holds : Invariant g w)
    (finds : (w.at u).head.phase ≡ Find) (back : (w.at u).head.in_branch ≡ Some j) (quit : (w.at u).head.probe ≡ None)
    (at_zero : ◌≡◌ {A = ℕ} (w.at u).head.find_count 0) where
  open link_clauses g wired w holds u j at use {fits as fits', link, link'}

  abbrev pub facing : ℕ → End
  facing i = far_end g w u i

  pub up : (w.at u).up ≡ Some j
  up = let s = fits'.searching finds in s.up ∙ sym s.in_branch ∙ back

  branch : (w.at u).mark j ≡ Branch
  branch =
      let z = fits'.points (λ y. cc (finds, y)) (omega (arith, at.port)) in
      subst (λ y. (w.at u).mark y ≡ Branch) (same_Some z.port j (sym z.up ∙ up)) z.mark

  pub busy : Quiet g w (w.at u).fragment → ⊥
  busy q = let z = q.found u u_is refl in cc (z, finds)

  pub joins' : Joins (tree_end (end g w u j)) (tree_end (facing j))
  joins' =
      ⊎_elim (λ b. record { here = branch; there = b })
      (λ b. absurd (busy (holds.resting.out u j at (record { here = branch; there = b }))))
      (mark_is ((w.at (far g u j)).mark (far_port g u j)))

  pub unmoved' : Moved (tree_end (end g w u j)) (tree_end (facing j)) → ⊥
  unmoved' m =
      busy (holds.resting.moved u j at (record {
        both = record { joins = record { here = m.both.joins.here; there = m.both.joins.there }; up = m.both.up; up_beyond = m.both.up_beyond };
        unnamed = m.unnamed;
      }))

  k : Option Key
  k = best_key (w.at u).head.best

  x : Member
  x = record (w.at u) { head = record (w.at u).head { phase = Found } }

  node : NodeFits (length (g.ports u)) x
  unfolding x
  node = record {
    own_ports = record { probe = fits'.own_ports.probe; in_branch = fits'.own_ports.in_branch; mark = fits'.own_ports.mark };
    untouched = λ e. absurd (let z : Found ≡ Sleeping = e in cc);
    points = λ e lt. let z = fits'.points (λ y. cc (finds, y)) lt in record { port = z.port; up = z.up; within = z.within; mark = z.mark };
    idle = λ e. (quit, at_zero);
    searching = λ e. absurd (let z : Found ≡ Find = e in cc);
    naming = record { level = fits'.naming.level; in_branch = fits'.naming.in_branch; name = fits'.naming.name };
    lag = record { level = fits'.lag.level; name = fits'.lag.name };
    best_port = fits'.best_port;
  }

  here' : ℕ → End
  here' i = record { port = i; key = (port_at g u i).key; mark = (w.at u).mark i; is = x; seen = w.seen u i }

  there' : End
  there' = record (far_end g w u j) { seen = record (seen_beyond g w u j) { tree = (seen_beyond g w u j).tree ++ Report k ∷ [] } }

  owing : owes (facing j) (end g w u j) ≡ true
  owing = by_find (has_report (seen_beyond g w u j).tree) (has_call (w.seen u j).tree) _ (rw (finds, is_at_is (w.at u).head.in_branch j back) refl)

  debt_kept : debt there' (here' j) ≡ debt (facing j) (end g w u j)
  unfolding there' here' x k
  debt_kept = go (is_at (w.at (far g u j)).up (far_port g u j))
    where
      go : (b : Bool) → ◌≡◌ {A = ℕ} (cond (not b && owes there' (here' j)) 1 0) (cond (not b && owes (facing j) (end g w u j)) 1 0)
      go true = refl
      go false = rw (owing, has_report_append (seen_beyond g w u j).tree (best_key (w.at u).head.best)) refl

  debt_aside : (i : ℕ) → i ≢ j → debt (facing i) (here' i) ≡ debt (facing i) (end g w u i)
  unfolding here' x
  debt_aside i ne = rw (is_at_not (w.at u).head.in_branch i (λ e. ne (sym (same_Some j i (sym back ∙ e)))), finds) refl

  -- the node reports and comes to rest
  pub closes :
      Invariant g (acts g u (record (w.at u) { head = record (w.at u).head { phase = Found } }) (put (w.seen u) j (w.seen u j))
      ((j, Report (best_key (w.at u).head.best)) ∷ []) w)
  unfolding x k here' there'
  closes =
      kept_one g wired u u_is x j at (w.seen u j) (Report k ∷ []) ((j, Report k) ∷ []) (sends_one j (Report k)) w
      (record {
        alike = record { fragment = refl; coming = refl; coming_name = refl; up = refl; branch = λ p. refl };
        found = λ e. refl;
        mine = λ e. e;
        theirs = λ e. has_call_append (seen_beyond g w u j).tree k ∙ e;
      })
      holds node
      (record {
        tree = tree_reports (tree_end (end g w u j)) (tree_end (facing j)) finds joins' up (fits'.searching finds).level back unmoved' link.tree;
        search =
            search_trees (found (tree_end (end g w u j))) (tree_end (facing j)) _ _
            (search_done (tree_end (end g w u j)) (tree_end (facing j)) finds link.search);
        tests = record { probing = link.tests.probing; not_probing = link.tests.not_probing };
      })
      (record {
        tree =
            tree_reports' (tree_end (end g w u j)) (tree_end (facing j)) finds joins' up (fits'.searching finds).level back unmoved'
            (joined_clauses g w holds u j at joins').ghosts.1 refl link'.tree;
        search =
            search_trees (tree_end (facing j)) (found (tree_end (end g w u j))) _ _
            (search_done' (tree_end (end g w u j)) (tree_end (facing j)) finds link'.search);
        tests = record { probing = link'.tests.probing; not_probing = link'.tests.not_probing };
      })
      (λ i at' ne h h'. record {
        tree = tree_done (tree_end (end g w u i)) (tree_end (facing i)) finds (not_the_way up i ne) h.tree;
        search = search_done (tree_end (end g w u i)) (tree_end (facing i)) finds h.search;
        tests = record { probing = h.tests.probing; not_probing = h.tests.not_probing };
      })
      (λ i at' ne h h'. record {
        tree = tree_done' (tree_end (end g w u i)) (tree_end (facing i)) finds (not_the_way up i ne) h'.tree;
        search = search_done' (tree_end (end g w u i)) (tree_end (facing i)) finds h'.search;
        tests = record { probing = h'.tests.probing; not_probing = h'.tests.not_probing };
      })
      (λ e. absurd (let z : Found ≡ Sleeping = e in cc)) refl
      (sums_one g wired u u_is x j at (w.seen u j) (Report k ∷ []) ((j, Report k) ∷ []) (sends_one j (Report k)) w holds.counted same_count
      (λ i ne. refl) debt_kept debt_aside)
    where
      same_count : (w.at u).head.find_count + debt (end g w u j) (facing j) ≡ (w.at u).head.find_count + debt (here' j) there'
      same_count = ap (λ z. (w.at u).head.find_count + z) (debt_up (end g w u j) (facing j) up ∙ sym (debt_up (here' j) there' up))
