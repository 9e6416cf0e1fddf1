-- A node that searches gets another best: what the tree clauses of its links owe.
use Rattle.std.proofs.Common.{◌≡◌, ◌≢◌, ℕ, Bool, true, false, Option, Some, None, refl, ⊎_elim, ◌⊎◌, inl, inr, cond}
use Rattle.ghs_graph.specs.declared.key.Key.{Key}
use Rattle.ghs_node.specs.Words.{Best, below, better, best_key}
use Rattle.ghs_node.specs.declared.mark.Mark.TheVariants.{Branch}
use Rattle.ghs_node.specs.declared.message.Phase.TheVariants.{Find, Found}
use Rattle.ghs_protocol.proofs.clauses.Scene.{TreeEnd}
use Rattle.ghs_protocol.proofs.clauses.TreeMessages.{TreeFits, Reported, Upward, Nothing_up, Report_up, Downward, Initiates, Old_report, CoreQueue, Plain, With_report, MovedFits, To_here, To_there, Stage, Asking, Called, Begun, AtStage}
use Rattle.ghs_protocol.proofs.clauses.Search.{SearchFits, LeadsOut}
use Rattle.ghs_protocol.proofs.clauses.Links.{Joins}

-- a change of best at e
abbrev pub with_best : TreeEnd → Best → TreeEnd
with_best e b = record e { best = b }

module _ (e f : TreeEnd) (b : Best) (finds : e.phase ≡ Find) (some : e.best ≢ None → b ≢ None) where
  not_found : e.phase ≢ Found
  not_found z = cc (finds, z)

  joins' : Joins (with_best e b) f → Joins e f
  joins' j = record { here = j.here; there = j.there }

  joins'' : Joins f (with_best e b) → Joins f e
  joins'' j = record { here = j.here; there = j.there }

  up_kept : Upward e f → Upward (with_best e b) f
  up_kept (Nothing_up q) = Nothing_up q
  up_kept (Report_up k q r) = absurd (not_found r.phase)

  up_kept' : Upward f e → Upward f (with_best e b)
  up_kept' (Nothing_up q) = Nothing_up q
  up_kept' (Report_up k q r) = Report_up k q r

  down_kept : {N : Key → Type 0} → Downward N e f → Downward N (with_best e b) f
  down_kept (Initiates c) = Initiates c
  down_kept (Old_report k ms q h c) = absurd (not_found h.phase)

  down_kept' : {N : Key → Type 0} → Downward N f e → Downward N f (with_best e b)
  down_kept' (Initiates c) = Initiates c
  down_kept' (Old_report k ms q h c) = Old_report k ms q (record { in_branch = h.in_branch; phase = h.phase; worse = h.worse; there = h.there }) c

  queue_kept : {x y : Stage} → CoreQueue e f x y → CoreQueue (with_best e b) f x y
  queue_kept (Plain q) = Plain q
  queue_kept (With_report k q s p z) = With_report k q s p z

  queue_kept' : {x y : Stage} → CoreQueue f e x y → CoreQueue f (with_best e b) x y
  queue_kept' (Plain q) = Plain q
  queue_kept' (With_report k q s p z) = absurd (not_found p)

  stage_kept : (s : Stage) → AtStage e s → AtStage (with_best e b) s
  stage_kept Asking h = h
  stage_kept Called h = h
  stage_kept Begun h = h

  moved_kept : MovedFits e f → MovedFits (with_best e b) f
  moved_kept (To_here m) =
      To_here (record {
        queue = m.queue;
        queue_beyond = m.queue_beyond;
        level = m.level;
        level_beyond = m.level_beyond;
        in_branch = m.in_branch;
        best = some m.best;
      })
  moved_kept (To_there m) =
      To_there (record {
        queue = m.queue;
        queue_beyond = m.queue_beyond;
        level = m.level;
        level_beyond = m.level_beyond;
        in_branch = m.in_branch;
        best = m.best;
      })

  moved_kept' : MovedFits f e → MovedFits f (with_best e b)
  moved_kept' (To_here m) =
      To_here (record {
        queue = m.queue;
        queue_beyond = m.queue_beyond;
        level = m.level;
        level_beyond = m.level_beyond;
        in_branch = m.in_branch;
        best = m.best;
      })
  moved_kept' (To_there m) =
      To_there (record {
        queue = m.queue;
        queue_beyond = m.queue_beyond;
        level = m.level;
        level_beyond = m.level_beyond;
        in_branch = m.in_branch;
        best = some m.best;
      })

  pub tree_best : {N : ℕ → Key → Type 0} → TreeFits N e f → TreeFits N (with_best e b) f
  tree_best h = record {
    out_connect = λ o.
        let z = h.out_connect (record { here = o.here; there = o.there }) in
        record { mark = z.mark; up = z.up; apart = z.apart; level = z.level; higher = z.higher; one = z.one; none = z.none };
    silent = h.silent;
    core_ends = λ j n. let z = h.core_ends (joins' j) n in record { at_top = z.at_top; below = z.below };
    upward = λ c. up_kept (h.upward (record { joins = joins' c.joins; up = c.up; down = c.down }));
    downward = λ c. down_kept (h.downward (record { joins = joins' c.joins; up = c.up; down = c.down }));
    core_queues = λ c.
        let z =
        h.core_queues (record { both = record { joins = joins' c.both.joins; up = c.both.up; up_beyond = c.both.up_beyond }; named = c.named }) in
        record {
          here = z.here;
          there = z.there;
          at_here = stage_kept z.here z.at_here;
          at_there = z.at_there;
          served = z.served;
          served_beyond = z.served_beyond;
          queue = queue_kept z.queue;
          queue_beyond = queue_kept' z.queue_beyond;
        };
    moved_root = λ c.
        moved_kept (h.moved_root
        (record { both = record { joins = joins' c.both.joins; up = c.both.up; up_beyond = c.both.up_beyond }; unnamed = c.unnamed }));
  }

  pub tree_best' : {N : ℕ → Key → Type 0} → TreeFits N f e → TreeFits N f (with_best e b)
  tree_best' h = record {
    out_connect = λ o.
        let z = h.out_connect (record { here = o.here; there = o.there }) in
        record { mark = z.mark; up = z.up; apart = z.apart; level = z.level; higher = z.higher; one = z.one; none = z.none };
    silent = h.silent;
    core_ends = λ j n. let z = h.core_ends (joins'' j) n in record { at_top = z.at_top; below = z.below };
    upward = λ c. up_kept' (h.upward (record { joins = joins'' c.joins; up = c.up; down = c.down }));
    downward = λ c. down_kept' (h.downward (record { joins = joins'' c.joins; up = c.up; down = c.down }));
    core_queues = λ c.
        let z =
        h.core_queues (record { both = record { joins = joins'' c.both.joins; up = c.both.up; up_beyond = c.both.up_beyond }; named = c.named }) in
        record {
          here = z.here;
          there = z.there;
          at_here = z.at_here;
          at_there = stage_kept z.there z.at_there;
          served = z.served;
          served_beyond = z.served_beyond;
          queue = queue_kept' z.queue;
          queue_beyond = queue_kept z.queue_beyond;
        };
    moved_root = λ c.
        moved_kept' (h.moved_root
        (record { both = record { joins = joins'' c.both.joins; up = c.both.up; up_beyond = c.both.up_beyond }; unnamed = c.unnamed }));
  }

  pub search_best :
      ((k : Key) → b ≡ Some (e.port, k) → (e.best ≡ Some (e.port, k)) ⊎ ((e.mark ≢ Branch → LeadsOut e f k) × (Joins e f → Reported f (Some k)))) →
      SearchFits e f →
      SearchFits (with_best e b) f
  search_best new h = record {
    rejected_inside = h.rejected_inside;
    find_leads = λ k x l m. ⊎_elim
        (λ o. let t = h.find_leads k o l m in record { key = t.key; apart = t.apart; higher = t.higher })
        (λ n. let t = n.0 m in record { key = t.key; apart = t.apart; higher = t.higher })
        (new k x);
    find_reported = λ k x l j. ⊎_elim (λ o. h.find_reported k o l (joins' j)) (λ n. n.1 (joins' j)) (new k x);
  }

  pub search_best' : SearchFits f e → SearchFits f (with_best e b)
  search_best' h = record {
    rejected_inside = h.rejected_inside;
    find_leads = λ k x l m. let t = h.find_leads k x l m in record { key = t.key; apart = t.apart; higher = t.higher };
    find_reported = λ k x l j. absurd (not_found (h.find_reported k x l (joins'' j)).phase);
  }

-- the better one is the old one, or the new
pub better_is : (o : Best) (j : ℕ) (w : Option Key) → (better o j w ≡ o) ⊎ ((k : Key) × (w ≡ Some k) × (better o j w ≡ Some (j, k)))
better_is o j None = inl refl
better_is o j (Some w) = go (below (Some w) (best_key o)) refl
  where
    go : (b : Bool) →
        below (Some w) (best_key o) ≡ b →
        (cond b (Some (j, w)) o ≡ o) ⊎ ((k : Key) × (Some w ≡ Some k) × (cond b (Some (j, w)) o ≡ Some (j, k)))
    go true e = inr (w, refl, refl)
    go false e = inl refl
