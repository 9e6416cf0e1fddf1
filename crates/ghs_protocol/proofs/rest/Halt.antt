-- A node at rest hears the Report of its in_branch: it halts, or the Report is dropped.
use Rattle.std.proofs.Common.{◌≡◌, ◌≢◌, ℕ, ◌+◌, Bool, true, Option, Some, List, [], ◌∷◌, ◌++◌, refl, sym, ◌∙◌, ap, ap₂, subst, ⊎_elim, ◌⊎◌, length, arith}
use Rattle.ghs_graph.specs.declared.key.Key.{Key}
use Rattle.ghs_node.specs.Words.{best_key}
use Rattle.ghs_node.specs.declared.message.Phase.TheVariants.{Find, Found}
use Rattle.ghs_node.specs.declared.message.Message.{Message}
use Rattle.ghs_node.specs.declared.message.Message.TheVariants.{Report}
use Rattle.peer_network.specs.Network.{Network, port_at, At, InNetwork}
use Rattle.peer_network.proofs.lemmas.Wired.{IsWired}
use Rattle.ghs_protocol.proofs.clauses.Scene.{Member, Scene, End, TreeEnd, tree_end, end, acts, far_end}
use Rattle.ghs_protocol.proofs.clauses.Changes.{left_tree, seen_beyond, with_halt}
use Rattle.ghs_protocol.proofs.clauses.Nodes.{NodeFits}
use Rattle.ghs_protocol.proofs.clauses.TreeMessages.{TreeFits, Falls, Upward, Nothing_up, Report_up, Downward, Initiates, Old_report, Harmless, CoreFits, CoreQueue, Plain, With_report, Core, MovedFits, To_here, To_there, Stage, Asking, Called, Begun, Served, asked, called}
use Rattle.ghs_protocol.proofs.clauses.Whole.{Invariant, NamesOf}
use Rattle.ghs_protocol.proofs.clauses.Links.{Joins, Child, Ups}
use Rattle.ghs_protocol.proofs.clauses.Rest.{debt, owes, has_call}
use Rattle.ghs_protocol.proofs.acts.OneLink.{sends_none, sums_one, kept_one, debt_within}
use Rattle.ghs_protocol.proofs.search.ReportGone.{search_trees, debt_one, debt_up}
use Rattle.ghs_protocol.proofs.search.FirstReport.{Joint, joint, Down_here, Down_there, On_core, On_moved, no_report, no_plain, joined}
use Rattle.ghs_protocol.proofs.acts.Situations.{is_find', core_from_there, stage_read}
use Rattle.ghs_protocol.proofs.rows.Link.{link_clauses, joined_clauses}

-- the Report is an old one, or that of the other half of the core
pub data Back (N : Key → Type 0) (e f : TreeEnd) (k : Option Key) (ms : List Message) : Type 0 where
  Old : Child e f → Harmless e f k ms → Falls N e f ms → Back N e f k ms
  Half : Core e f → (z : CoreFits e f) → z.here ≡ Begun → z.there ≡ Begun → ms ≡ [] → f.phase ≡ Found → best_key f.best ≡ k → Back N e f k ms

tail_same : (k r : Option Key) (ms xs : List Message) → Report r ∷ xs ≡ Report k ∷ ms → (r ≡ k) × (xs ≡ ms)
tail_same k r ms xs e = (cc, cc)

one_report : (v : ℕ) (n : Key) (a b : Stage) (k r : Option Key) (ms : List Message) →
    b ≡ Begun →
    Served b a →
    called v n a ++ Report r ∷ [] ≡ Report k ∷ ms →
    (a ≡ Begun) × (r ≡ k) × (ms ≡ [])
one_report v n Asking Asking k r ms s served q = absurd (let z = s in cc)
one_report v n Asking Called k r ms s served q = absurd (let z = s in cc)
one_report v n Asking Begun k r ms s served q = absurd served
one_report v n Called b k r ms s served q = absurd (let z = q in cc)
one_report v n Begun b k r ms s served q = let t = tail_same k r ms [] q in (refl, t.0, sym t.1)

module _ {N : ℕ → Key → Type 0} (e f : TreeEnd) (he : TreeFits N e f) (hf : TreeFits N f e) (ups : Joins e f → Ups e ⊎ Ups f)
    (k : Option Key) (ms : List Message) (waits : e.tree ≡ Report k ∷ ms) (mine : e.up ≢ Some e.port → ⊥) where
  pub back : Back (N e.fragment) e f k ms
  back = go (joint e f (joined e f he hf ups k ms waits) (ups (joined e f he hf ups k ms waits)))
    where
      down : (c : Child e f) → Downward (N e.fragment) e f → Back (N e.fragment) e f k ms
      down c (Initiates x) = absurd (no_report _ _ _ _ _ k ms e.tree waits x)
      down c (Old_report r xs q h x) =
          let t = tail_same k r ms xs (sym q ∙ waits) in
          Old c (subst (λ y. Harmless e f y ms) t.0 (subst (Harmless e f r) t.1 h)) (subst (Falls (N e.fragment) e f) t.1 x)

      core : (c : Core e f) → (z : CoreFits e f) → CoreQueue e f z.here z.there → Back (N e.fragment) e f k ms
      core c z (Plain q) = absurd (no_plain _ _ _ z.here z.there k ms (sym q ∙ waits))
      core c z (With_report r q s p b) =
          let t = one_report e.coming e.key z.here z.there k r ms s z.served_beyond (sym q ∙ waits) in Half c z t.0 s t.2 p (b ∙ t.1)

      moved : MovedFits e f → Back (N e.fragment) e f k ms
      moved (To_here m) = absurd (let z = m.queue in cc)
      moved (To_there m) = absurd (let z = m.queue_beyond in cc)

      go : Joint e f → Back (N e.fragment) e f k ms
      go (Down_here c) = down c (he.downward c)
      go (Down_there c) = absurd (mine c.down)
      go (On_core c) = core c (he.core_queues c) (he.core_queues c).queue
      go (On_moved c) = moved (he.moved_root c)

-- the Report is taken
module _ (e f : TreeEnd) (k : Option Key) (ms : List Message) where
  up_taken : Upward e f → Upward (record e { tree = ms }) f
  up_taken (Nothing_up q) = Nothing_up q
  up_taken (Report_up r q h) = Report_up r q (record { phase = h.phase; in_branch = h.in_branch; level = h.level; key = h.key })

  other_queue : {x y : Stage} → CoreQueue f e x y → CoreQueue f (record e { tree = ms }) x y
  other_queue (Plain q) = Plain q
  other_queue (With_report r q s p b) = With_report r q s p b

  -- in a core where both have begun
  core_taken : (z : CoreFits e f) → z.here ≡ Begun → z.there ≡ Begun → ms ≡ [] → CoreFits (record e { tree = ms }) f
  core_taken z a b n = record {
    here = z.here;
    there = z.there;
    at_here = stage_read e ms z.here z.at_here;
    at_there = z.at_there;
    served = z.served;
    served_beyond = z.served_beyond;
    queue = Plain (n ∙ sym (ap₂ (λ x y. asked f.level x ++ called e.coming e.key y) b a));
    queue_beyond = other_queue z.queue_beyond;
  }

  pub tree_taken : {N : ℕ → Key → Type 0} → Back (N e.fragment) e f k ms → TreeFits N e f → TreeFits N (record e { tree = ms }) f
  tree_taken (Old c h x) t = record {
    out_connect = λ o. absurd (o.there c.joins.there);
    silent = λ a b. absurd (a c.joins.here);
    core_ends = λ j n. let z = t.core_ends (record { here = j.here; there = j.there }) n in record { at_top = z.at_top; below = z.below };
    upward = λ y. up_taken (t.upward c);
    downward = λ y. Initiates x;
    core_queues = λ y. absurd (c.down y.both.up_beyond);
    moved_root = λ y. absurd (c.down y.both.up_beyond);
  }
  tree_taken (Half c z a b n p q) t = record {
    out_connect = λ o. absurd (o.there c.both.joins.there);
    silent = λ x y. absurd (x c.both.joins.here);
    core_ends = λ j s. let z = t.core_ends (record { here = j.here; there = j.there }) s in record { at_top = z.at_top; below = z.below };
    upward = λ y. absurd (y.down c.both.up_beyond);
    downward = λ y. absurd (y.down c.both.up_beyond);
    core_queues = λ y. core_taken z a b n;
    moved_root = λ y. absurd (y.unnamed c.named);
  }

  pub tree_taken' : {N : ℕ → Key → Type 0} →
      f.coming_name ≡ e.coming_name →
      f.key ≡ e.key →
      f.coming ≡ e.coming →
      Back (N e.fragment) e f k ms →
      TreeFits N f e →
      TreeFits N f (record e { tree = ms })
  tree_taken' vns keys vls (Old c h x) t = record {
    out_connect = λ o. absurd (o.there c.joins.here);
    silent = λ a b. absurd (b c.joins.here);
    core_ends = λ j n. let z = t.core_ends (record { here = j.here; there = j.there }) n in record { at_top = z.at_top; below = z.below };
    upward = λ y. absurd (y.down c.up);
    downward = λ y. absurd (y.down c.up);
    core_queues = λ y. absurd (c.down y.both.up);
    moved_root = λ y. absurd (c.down y.both.up);
  }
  tree_taken' vns keys vls (Half c z a b n p q) t = record {
    out_connect = λ o. absurd (o.there c.both.joins.here);
    silent = λ x y. absurd (y c.both.joins.here);
    core_ends = λ j s. let z = t.core_ends (record { here = j.here; there = j.there }) s in record { at_top = z.at_top; below = z.below };
    upward = λ y. absurd (y.down c.both.up);
    downward = λ y. absurd (y.down c.both.up);
    core_queues = λ y. core_from_there (record e { tree = ms }) f (core_taken z a b n);
    moved_root = λ y. absurd (y.unnamed (vns ∙ c.named ∙ ap Some (sym keys)));
  }

module _ (g : Network) (wired : IsWired g) (u : ℕ) (u_is : InNetwork g u) (j : ℕ) (at : At g u j) (w : Scene) (holds : Invariant g w) where
  open link_clauses g wired w holds u j at use {fits, link, link', ways}

  -- who is owed a Report by another than its parent searches
  pub owed_finds : (w.at u).up ≢ Some j → owes (end g w u j) (far_end g w u j) ≡ true → (w.at u).head.phase ≡ Find
  owed_finds ne o =
      ⊎_elim (λ h. h)
      (λ no.
      absurd (let one = debt_one (end g w u j) (far_end g w u j) ne o in
      let within = debt_within g wired w holds.counted u j at in let none = (fits.idle no).1 in omega (arith, one, within, none)))
      (is_find' (w.at u).head.phase)

  module _ (k : Option Key) (ms : List Message) (waits : (w.seen u j).tree ≡ Report k ∷ ms) (rests : (w.at u).head.phase ≡ Found) where
    mine : (w.at u).up ≢ Some j → ⊥
    mine ne = let z = owed_finds ne (rw waits refl) in cc (z, rests)

    pub heard_at_rest : Back (NamesOf g w (w.at u).fragment) (tree_end (end g w u j)) (tree_end (far_end g w u j)) k ms
    heard_at_rest = back (tree_end (end g w u j)) (tree_end (far_end g w u j)) link.tree link'.tree ways k ms waits mine

    open joined_clauses g w holds u j at (joined (tree_end (end g w u j)) (tree_end (far_end g w u j)) link.tree link'.tree ways k ms waits)
        use {ghosts}

    up : Back (NamesOf g w (w.at u).fragment) (tree_end (end g w u j)) (tree_end (far_end g w u j)) k ms → (w.at u).up ≡ Some j
    up (Old c h x) = c.up
    up (Half c z a b n p q) = c.both.up

    -- the Report is taken; with b the node halts
    pub report_ends : (b : Bool) → Invariant g (acts g u (with_halt (w.at u) b) (left_tree w u j ms) [] w)
    report_ends b =
        kept_one g wired u u_is x j at (record (w.seen u j) { tree = ms }) [] [] (sends_none j) w
        (record {
          alike = record { fragment = refl; coming = refl; coming_name = refl; up = refl; branch = λ p. refl };
          found = λ e. e;
          mine = λ e. sym (ap has_call waits) ∙ e;
          theirs = λ e. e;
        })
        holds node
        (record {
          tree = tree_taken (tree_end (end g w u j)) (tree_end (far_end g w u j)) k ms heard_at_rest link.tree;
          search = search_trees (tree_end (end g w u j)) (tree_end (far_end g w u j)) ms (seen_beyond g w u j).tree link.search;
          tests = record { probing = link.tests.probing; not_probing = link.tests.not_probing };
        })
        (record {
          tree = tree_taken' (tree_end (end g w u j)) (tree_end (far_end g w u j)) k ms ghosts.1 refl ghosts.0 heard_at_rest link'.tree;
          search = search_trees (tree_end (far_end g w u j)) (tree_end (end g w u j)) (seen_beyond g w u j).tree ms link'.search;
          tests = record { probing = link'.tests.probing; not_probing = link'.tests.not_probing };
        })
        (λ i at' ne h h'. record { tree = h.tree; search = h.search; tests = h.tests })
        (λ i at' ne h h'. record { tree = h'.tree; search = h'.search; tests = h'.tests }) (λ e. e) refl
        (sums_one g wired u u_is x j at (record (w.seen u j) { tree = ms }) [] [] (sends_none j) w holds.counted same_count (λ i ne. refl)
        (sym (ap (λ t. debt (far_end g w u j) (record (end g w u j) { seen = record (w.seen u j) { tree = t } })) waits)) (λ i ne. refl))
      where
        x : Member
        x = with_halt (w.at u) b

        here' : End
        here' = record { port = j; key = (port_at g u j).key; mark = (w.at u).mark j; is = x; seen = record (w.seen u j) { tree = ms } }

        node : NodeFits (length (g.ports u)) x
        node = record {
          own_ports = record { probe = fits.own_ports.probe; in_branch = fits.own_ports.in_branch; mark = fits.own_ports.mark };
          untouched = λ e. absurd (cc (e, rests));
          points = λ e lt. let z = fits.points e lt in record { port = z.port; up = z.up; within = z.within; mark = z.mark };
          idle = fits.idle;
          searching = λ e. let z = fits.searching e in record { level = z.level; port = z.port; in_branch = z.in_branch; up = z.up };
          naming = record { level = fits.naming.level; in_branch = fits.naming.in_branch; name = fits.naming.name };
          lag = record { level = fits.lag.level; name = fits.lag.name };
          best_port = fits.best_port;
        }

        same_count : (w.at u).head.find_count + debt (end g w u j) (far_end g w u j) ≡ (w.at u).head.find_count + debt here' (far_end g w u j)
        same_count =
            ap (λ z. (w.at u).head.find_count + z)
            (debt_up (end g w u j) (far_end g w u j) (up heard_at_rest) ∙ sym (debt_up here' (far_end g w u j) (up heard_at_rest)))
