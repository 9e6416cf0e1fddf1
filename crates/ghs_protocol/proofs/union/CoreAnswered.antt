-- A Connect over the core is answered by an Initiate.
use Rattle.std.proofs.Common.{◌≡◌, ◌≢◌, ℕ, suc, ◌+◌, true, false, Option, Some, List, [], ◌∷◌, ◌++◌, refl, sym, ◌∙◌, ap, ap₂, subst, subst₂, ⊎_elim, ◌⊎◌, arith}
use Rattle.std.proofs.lemmas.Bool.{cases_eq}
use Rattle.ghs_graph.specs.declared.key.Key.{Key}
use Rattle.ghs_node.specs.Words.{is_branch}
use Rattle.ghs_node.specs.declared.mark.Mark.TheVariants.{Basic}
use Rattle.ghs_node.specs.declared.message.Phase.TheVariants.{Find}
use Rattle.ghs_node.specs.declared.message.Message.{Message}
use Rattle.ghs_node.specs.declared.message.Message.TheVariants.{Connect, Initiate, Report, ChangeRoot}
use Rattle.peer_network.specs.Network.{Network, port_at, At, far, far_port, InNetwork}
use Rattle.peer_network.proofs.lemmas.Wired.{IsWired}
use Rattle.peer_network.specs.Updates.{put}
use Rattle.ghs_protocol.proofs.clauses.Scene.{Member, Scene, End, TreeEnd, tree_end, end, forest, acts, adds, far_end}
use Rattle.ghs_protocol.proofs.clauses.Changes.{left_tree, seen_beyond}
use Rattle.ghs_protocol.proofs.clauses.TreeMessages.{TreeFits, Chain, Upward, Nothing_up, Report_up, Downward, Initiates, Old_report, CoreFits, CoreQueue, Plain, With_report, Core, Moved, MovedFits, To_here, To_there, Stage, Asking, Called, Begun, AtStage, Served, asked, called}
use Rattle.ghs_protocol.proofs.clauses.Whole.{Invariant}
use Rattle.ghs_protocol.proofs.clauses.Links.{Joins, Out, Ups}
use Rattle.ghs_protocol.proofs.clauses.Fragments.{Root, Goes_out, Both_ways}
use Rattle.ghs_protocol.proofs.clauses.Rest.{debt, Quiet, Resting, has_call}
use Rattle.ghs_protocol.proofs.acts.SameForest.{quiet_after, branch_mark, not_branch}
use Rattle.peer_network.proofs.lemmas.Updates.{put_same, put_other}
use Rattle.ghs_protocol.proofs.acts.OneLink.{sends_one, sums_one, kept_at}
use Rattle.ghs_protocol.proofs.search.ReportGone.{search_trees, debt_up}
use Rattle.ghs_protocol.proofs.search.FirstReport.{Joint, joint, Down_here, Down_there, On_core, On_moved, mark_is}
use Rattle.ghs_protocol.proofs.acts.Situations.{core_from_there, stage_read}
use Rattle.ghs_protocol.proofs.rows.Link.{link_clauses, joined_clauses}

pub no_connect : (N : Key → Type 0) (coming : ℕ) (coming_name : Option Key) (t l k : ℕ) (ms xs : List Message) →
    xs ≡ Connect k ∷ ms →
    Chain N coming coming_name t l xs →
    ⊥
no_connect N coming coming_name t l k ms xs e c = subst (Chain N coming coming_name t l) e c

pub record Asked (e f : TreeEnd) (l : ℕ) (ms : List Message) : Type 0 where
  pub core : Core e f
  pub stages : CoreFits e f
  pub there : stages.there ≡ Asking
  pub rest : ms ≡ called e.coming e.key stages.here
  pub below : suc e.level ≡ e.coming
  pub queue : f.tree ≡ asked e.level stages.here

module _ {N : ℕ → Key → Type 0} (e f : TreeEnd) (he : TreeFits N e f) (hf : TreeFits N f e) (ups : Joins e f → Ups e ⊎ Ups f) (l : ℕ)
    (ms : List Message) (waits : e.tree ≡ Connect l ∷ ms) (marked : e.mark ≢ Basic) where
  joins_on : Joins e f
  joins_on =
      ⊎_elim (λ a. ⊎_elim (λ b. record { here = a; there = b })
      (λ b. absurd (let z = (he.out_connect (record { here = a; there = b })).none in cc))
      (mark_is f.mark))
      (λ a. ⊎_elim
      (λ b. absurd (marked (hf.out_connect (record { here = b; there = a })).mark))
      (λ b. absurd (let z = he.silent a b in cc))
      (mark_is f.mark))
      (mark_is e.mark)

  stage_of : (a b : Stage) →
      AtStage e a →
      Served a b →
      e.tree ≡ asked f.level b ++ called e.coming e.key a →
      (b ≡ Asking) × (ms ≡ called e.coming e.key a) × (suc e.level ≡ e.coming) × (a ≢ Begun)
  stage_of Asking Asking at s q = (refl, (let z : Connect l ∷ ms ≡ Connect f.level ∷ [] = sym waits ∙ q in cc), at, (λ z. cc))
  stage_of Called Asking at s q =
      (refl, (let z : Connect l ∷ ms ≡ Connect f.level ∷ Initiate e.coming e.key Find ∷ [] = sym waits ∙ q in cc), at, (λ z. cc))
  stage_of Begun Asking at s q = absurd s
  stage_of Asking Called at s q = absurd (let z : Connect l ∷ ms ≡ [] = sym waits ∙ q in cc)
  stage_of Called Called at s q = absurd (let z : Connect l ∷ ms ≡ Initiate e.coming e.key Find ∷ [] = sym waits ∙ q in cc)
  stage_of Begun Called at s q = absurd (let z : Connect l ∷ ms ≡ [] = sym waits ∙ q in cc)
  stage_of Asking Begun at s q = absurd (let z : Connect l ∷ ms ≡ [] = sym waits ∙ q in cc)
  stage_of Called Begun at s q = absurd (let z : Connect l ∷ ms ≡ Initiate e.coming e.key Find ∷ [] = sym waits ∙ q in cc)
  stage_of Begun Begun at s q = absurd (let z : Connect l ∷ ms ≡ [] = sym waits ∙ q in cc)

  no_half : (a : Stage) (r : Option Key) → e.tree ≡ called e.coming e.key a ++ Report r ∷ [] → ⊥
  no_half Asking r q = let z : Connect l ∷ ms ≡ Report r ∷ [] = sym waits ∙ q in cc
  no_half Called r q = let z : Connect l ∷ ms ≡ Initiate e.coming e.key Find ∷ Report r ∷ [] = sym waits ∙ q in cc
  no_half Begun r q = let z : Connect l ∷ ms ≡ Report r ∷ [] = sym waits ∙ q in cc

  pub asked_on : Asked e f l ms
  asked_on = go (joint e f joins_on (ups joins_on))
    where
      far_queue : (a b : Stage) → b ≡ Asking → a ≢ Begun → CoreQueue f e b a → f.tree ≡ asked e.level a
      far_queue a Asking s ne (Plain q) = q ∙ append_none (asked e.level a)
        where
          append_none : (xs : List Message) → xs ++ [] ≡ xs
          append_none [] = refl
          append_none (x ∷ xs) = ap (λ z. x ∷ z) (append_none xs)
      far_queue a Called s ne (Plain q) = absurd (let z = s in cc)
      far_queue a Begun s ne (Plain q) = absurd (let z = s in cc)
      far_queue a b s ne (With_report r q t p x) = absurd (ne t)

      core : (c : Core e f) → (z : CoreFits e f) → CoreQueue e f z.here z.there → Asked e f l ms
      core c z (Plain q) =
          let t = stage_of z.here z.there z.at_here z.served q in
          record { core = c; stages = z; there = t.0; rest = t.1; below = t.2; queue = far_queue z.here z.there t.0 t.3 z.queue_beyond }
      core c z (With_report r q s p b) = absurd (no_half z.here r q)

      down : Downward (N e.fragment) e f → Asked e f l ms
      down (Initiates x) = absurd (no_connect _ _ _ _ _ l ms e.tree waits x)
      down (Old_report r xs q h x) = absurd (let z : Connect l ∷ ms ≡ Report r ∷ xs = sym waits ∙ q in cc)

      up : Upward f e → Asked e f l ms
      up (Nothing_up q) = absurd (let z : Connect l ∷ ms ≡ [] = sym waits ∙ q in cc)
      up (Report_up r q h) = absurd (let z : Connect l ∷ ms ≡ Report r ∷ [] = sym waits ∙ q in cc)

      moved : MovedFits e f → Asked e f l ms
      moved (To_here m) = absurd (let z : Connect l ∷ ms ≡ ChangeRoot ∷ [] = sym waits ∙ m.queue in cc)
      moved (To_there m) = absurd (let z : Connect l ∷ ms ≡ [] = sym waits ∙ m.queue_beyond in cc)

      go : Joint e f → Asked e f l ms
      go (Down_here c) = down (he.downward c)
      go (Down_there c) = up (hf.upward c)
      go (On_core c) = core c (he.core_queues c) (he.core_queues c).queue
      go (On_moved c) = moved (he.moved_root c)

-- the two ends afterwards
module _ (e f : TreeEnd) (l : ℕ) (ms : List Message) (a : Asked e f l ms) (vls : f.coming ≡ e.coming) (keys : f.key ≡ e.key)
    (vns : f.coming_name ≡ e.coming_name) where
  abbrev pub answered_to : TreeEnd
  answered_to = record f { tree = f.tree ++ Initiate (e.level + 1) e.key Find ∷ [] }

  was_there : (s : Stage) → s ≡ Asking → AtStage f s → suc f.level ≡ f.coming
  was_there Asking s h = h
  was_there Called s h = absurd (let z = s in cc)
  was_there Begun s h = absurd (let z = s in cc)

  not_begun : (s : Stage) → AtStage e s → Served s Called
  not_begun Asking h = tt
  not_begun Called h = tt
  not_begun Begun h = tt

  core_after : CoreFits (record e { tree = ms }) answered_to
  core_after = let z = a.stages in record {
    here = z.here;
    there = Called;
    at_here = stage_read e ms z.here z.at_here;
    at_there = was_there z.there a.there z.at_there;
    served = not_begun z.here z.at_here;
    served_beyond = tt;
    queue = Plain a.rest;
    queue_beyond =
        Plain (ap₂ (λ x y. x ++ Initiate y e.key Find ∷ []) a.queue (let b = a.below in omega (arith, b, vls)) ∙
        ap (λ y. asked e.level z.here ++ Initiate f.coming y Find ∷ []) (sym keys));
  }

  core_after' : CoreFits answered_to (record e { tree = ms })
  core_after' = core_from_there (record e { tree = ms }) answered_to core_after

  pub serve_here : {N : ℕ → Key → Type 0} → TreeFits N e f → TreeFits N (record e { tree = ms }) answered_to
  serve_here t = let c = a.core in record {
    out_connect = λ o. absurd (o.there c.both.joins.there);
    silent = λ x y. absurd (x c.both.joins.here);
    core_ends = λ j s. let z = t.core_ends (record { here = j.here; there = j.there }) s in record { at_top = z.at_top; below = z.below };
    upward = λ y. absurd (y.down c.both.up_beyond);
    downward = λ y. absurd (y.down c.both.up_beyond);
    core_queues = λ y. core_after;
    moved_root = λ y. absurd (y.unnamed c.named);
  }

  pub serve_there : {N : ℕ → Key → Type 0} → TreeFits N f e → TreeFits N answered_to (record e { tree = ms })
  serve_there t = let c = a.core in record {
    out_connect = λ o. absurd (o.there c.both.joins.here);
    silent = λ x y. absurd (x c.both.joins.there);
    core_ends = λ j s. let z = t.core_ends (record { here = j.here; there = j.there }) s in record { at_top = z.at_top; below = z.below };
    upward = λ y. absurd (y.down c.both.up);
    downward = λ y. absurd (y.down c.both.up);
    core_queues = λ y. core_after';
    moved_root = λ y. absurd (y.unnamed (vns ∙ c.named ∙ ap Some (sym keys)));
  }

module _ (g : Network) (wired : IsWired g) (u : ℕ) (u_is : InNetwork g u) (j : ℕ) (at : At g u j) (w : Scene) (holds : Invariant g w)
    (l : ℕ) (ms : List Message) (waits : (w.seen u j).tree ≡ Connect l ∷ ms) (marked : (w.at u).mark j ≢ Basic) where
  open link_clauses g wired w holds u j at use {fits, link, link', ways}

  pub serving : Asked (tree_end (end g w u j)) (tree_end (far_end g w u j)) l ms
  serving = asked_on (tree_end (end g w u j)) (tree_end (far_end g w u j)) link.tree link'.tree ways l ms waits marked

  open joined_clauses g w holds u j at serving.core.both.joins use {joined as joined', inside as one_frag, ghosts}

  root : Root g (forest w) u j
  root = let b = serving.core.both in Both_ways joined' b.up b.up_beyond

  here_is : End
  here_is = record { port = j; key = (port_at g u j).key; mark = (w.at u).mark j; is = w.at u; seen = record (w.seen u j) { tree = ms } }

  there_is : End
  there_is = record (far_end g w u j) {
    seen =
        record (seen_beyond g w u j) { tree = (seen_beyond g w u j).tree ++ Initiate ((w.at u).head.level + 1) (port_at g u j).key Find ∷ [] };
  }

  answer : Message
  answer = Initiate ((w.at u).head.level + 1) (port_at g u j).key Find

  abbrev pub served_beyond : Scene
  served_beyond = acts g u (w.at u) (left_tree w u j ms) ((j, Initiate ((w.at u).head.level + 1) (port_at g u j).key Find) ∷ []) w

  -- another fragment's rest
  quiet_else : (a : ℕ) → (w.at u).fragment ≢ a → Quiet g w a → Quiet g served_beyond a
  quiet_else a ne z =
      quiet_after g wired u u_is (w.at u) (left_tree w u j ms)
      ((j, Initiate ((w.at u).head.level + 1) (port_at g u j).key Find) ∷ []) w a z (λ e. absurd (ne e)) (λ i at' e. absurd (ne e))
      (λ i at' e. ⊎_elim
      (λ (h : i ≡ j). absurd (ne (one_frag ∙ ap (λ y. (w.at (far g u y)).fragment) (sym h) ∙ e)))
      (λ no.
      subst (λ t. has_call (adds (seen_beyond g w u i) t).tree ≡ false)
      (sym ((sends_one j (Initiate ((w.at u).head.level + 1) (port_at g u j).key Find)).none i no)) (z.uncalled _ _ (wired.there u i at') e))
      (cases_eq i j))

  -- the nodes are as before
  as_before : (v : ℕ) → served_beyond.at v ≡ w.at v
  as_before v =
      ⊎_elim
      (λ (e : v ≡ u). subst (λ y. put w.at u (w.at u) y ≡ w.at y) (sym e) (put_same w.at u (w.at u)))
      (λ ne. put_other w.at u v (w.at u) ne) (cases_eq v u)

  -- this fragment has no root but the core
  no_out : (v p : ℕ) →
      At g v p →
      (w.at v).fragment ≡ (w.at u).fragment →
      Out (tree_end (end g w v p)) (tree_end (end g w (far g v p) (far_port g v p))) →
      ⊥
  no_out v p at' same o =
      o.there (branch_mark _ (⊎_elim
      (λ h. subst₂ (λ y z. is_branch ((w.at (far g y z)).mark (far_port g y z)) ≡ true) (sym h.0) (sym h.1) joined'.there)
      (λ h. subst₂ (λ y z. is_branch ((w.at y).mark z) ≡ true) (sym h.0) (sym h.1) joined'.here)
      (holds.trees.one_root v p u j at' at (Goes_out (ap is_branch o.here) (not_branch _ o.there)) root same)))

  no_moved : (v p : ℕ) →
      At g v p →
      (w.at v).fragment ≡ (w.at u).fragment →
      Moved (tree_end (end g w v p)) (tree_end (end g w (far g v p) (far_port g v p))) →
      ⊥
  no_moved v p at' same m =
      m.unnamed
      (⊎_elim
      (λ h. subst₂ (λ y z. (w.at y).coming_name ≡ Some (port_at g y z).key) (sym h.0) (sym h.1) serving.core.named)
      (λ h.
      (holds.trees.by_fragment v u same).1 ∙ serving.core.named ∙
      ap Some (sym (sym (wired.same_key v p at') ∙ ap₂ (λ y z. (port_at g y z).key) h.0 h.1)))
      (holds.trees.one_root v p u j at' at
      (Both_ways (record { here = ap is_branch m.both.joins.here; there = ap is_branch m.both.joins.there }) m.both.up m.both.up_beyond) root
      same))

  rests : Resting g served_beyond
  rests = record {
    out =
        λ v p at' o. let o' : Out (tree_end (end g w v p)) (tree_end (end g w (far g v p) (far_port g v p))) = record {
          here = sym (ap (λ (m : Member). m.mark p) (as_before v)) ∙ o.here;
          there = λ e. o.there (ap (λ (m : Member). m.mark (far_port g v p)) (as_before (far g v p)) ∙ e);
        }
        in ⊎_elim (λ e. absurd (no_out v p at' e o'))
        (λ ne.
        subst (λ (m : Member). Quiet g served_beyond m.fragment) (sym (as_before v))
        (quiet_else (w.at v).fragment (λ z. ne (sym z)) (holds.resting.out v p at' o')))
        (cases_eq (w.at v).fragment (w.at u).fragment);
    moved =
        λ v p at' m. let m' : Moved (tree_end (end g w v p)) (tree_end (end g w (far g v p) (far_port g v p))) = record {
          both = record {
            joins = record {
              here = sym (ap (λ (m : Member). m.mark p) (as_before v)) ∙ m.both.joins.here;
              there = sym (ap (λ (m : Member). m.mark (far_port g v p)) (as_before (far g v p))) ∙ m.both.joins.there;
            };
            up = sym (ap (λ (m : Member). m.up) (as_before v)) ∙ m.both.up;
            up_beyond = sym (ap (λ (m : Member). m.up) (as_before (far g v p))) ∙ m.both.up_beyond;
          };
          unnamed = λ e. m.unnamed (ap (λ (m : Member). m.coming_name) (as_before v) ∙ e);
        }
        in ⊎_elim (λ e. absurd (no_moved v p at' e m'))
        (λ ne.
        subst (λ (m : Member). Quiet g served_beyond m.fragment) (sym (as_before v))
        (quiet_else (w.at v).fragment (λ z. ne (sym z)) (holds.resting.moved v p at' m')))
        (cases_eq (w.at v).fragment (w.at u).fragment);
  }

  -- the Connect is answered
  pub serves : Invariant g served_beyond
  unfolding here_is there_is answer
  serves =
      kept_at g wired u u_is (w.at u) j at (record (w.seen u j) { tree = ms }) (answer ∷ []) ((j, answer) ∷ []) (sends_one j answer) w
      (record { fragment = refl; coming = refl; coming_name = refl; up = refl; branch = λ p. refl }) rests holds fits
      (record {
        tree = serve_here (tree_end (end g w u j)) (tree_end (far_end g w u j)) l ms serving ghosts.0 refl ghosts.1 link.tree;
        search = search_trees (tree_end (end g w u j)) (tree_end (far_end g w u j)) ms (tree_end there_is).tree link.search;
        tests = record { probing = link.tests.probing; not_probing = link.tests.not_probing };
      })
      (record {
        tree = serve_there (tree_end (end g w u j)) (tree_end (far_end g w u j)) l ms serving ghosts.0 refl ghosts.1 link'.tree;
        search = search_trees (tree_end (far_end g w u j)) (tree_end (end g w u j)) (tree_end there_is).tree ms link'.search;
        tests = record { probing = link'.tests.probing; not_probing = link'.tests.not_probing };
      })
      (λ i at' ne h h'. record { tree = h.tree; search = h.search; tests = h.tests })
      (λ i at' ne h h'. record { tree = h'.tree; search = h'.search; tests = h'.tests }) (λ e. e) refl
      (sums_one g wired u u_is (w.at u) j at (record (w.seen u j) { tree = ms }) (answer ∷ []) ((j, answer) ∷ []) (sends_one j answer) w
      holds.counted count (λ i ne. refl)
      (debt_up there_is here_is serving.core.both.up_beyond ∙ sym (debt_up (far_end g w u j) (end g w u j) serving.core.both.up_beyond))
      (λ i ne. refl))
    where
      count : (w.at u).head.find_count + debt (end g w u j) (far_end g w u j) ≡ (w.at u).head.find_count + debt here_is there_is
      count =
          ap (λ z. (w.at u).head.find_count + z)
          (debt_up (end g w u j) (far_end g w u j) serving.core.both.up ∙ sym (debt_up here_is there_is serving.core.both.up))
