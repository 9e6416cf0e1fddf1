-- Of the messages of one queue one waits at most.
use Rattle.std.proofs.Common.{◌≡◌, ◌≢◌, ℕ, ◌<◌, ◌≤◌, true, Option, Some, List, [], ◌∷◌, ◌++◌, length, refl, sym, ◌∙◌, ap, subst, subst₂, ⊎_elim, ◌⊎◌, arith}
use Rattle.ghs_graph.specs.declared.key.Key.{Key}
use Rattle.ghs_node.specs.declared.mark.Mark.TheVariants.{Basic, Branch}
use Rattle.ghs_node.specs.declared.message.Phase.TheVariants.{Find, Found}
use Rattle.ghs_node.specs.declared.message.Message.{Message}
use Rattle.ghs_node.specs.declared.message.Message.TheVariants.{Connect, Initiate, Test, Accept, Reject, Report, ChangeRoot}
use Rattle.peer_network.specs.Network.{Network, At, far, far_port}
use Rattle.peer_network.proofs.lemmas.Wired.{IsWired}
use Rattle.ghs_protocol.specs.Net.{Net}
use Rattle.ghs_protocol.proofs.clauses.Scene.{Scene, TreeEnd, End, Seen, Ghost, scene, see, end, tree_end, test_end, far_end}
use Rattle.ghs_protocol.proofs.clauses.Links.{Joins, Ups}
use Rattle.ghs_protocol.proofs.clauses.TreeMessages.{TreeFits, Downward, Initiates, Old_report, CoreFits, CoreQueue, Plain, With_report, MovedFits, To_here, To_there}
use Rattle.ghs_protocol.proofs.clauses.Tests.{AllFrom}
use Rattle.ghs_protocol.proofs.clauses.Whole.{Invariant}
use Rattle.ghs_protocol.proofs.acts.AsRead.{see_first}
use Rattle.ghs_protocol.proofs.rows.Read.{is_tree, seen, tree_first, test_first}
use Rattle.ghs_protocol.proofs.rows.Link.{node_fits, link_fits, link_fits', link_leads}
use Rattle.ghs_protocol.proofs.rows.Requeue.{lone_connect, lone_report, lone_test}
use Rattle.ghs_protocol.proofs.search.FirstReport.{Joint, Down_here, Down_there, On_core, On_moved, joint, mark_is, no_report, no_plain, joined}
use Rattle.ghs_protocol.proofs.acts.Situations.{probing_finds}
use Rattle.ghs_protocol.proofs.tests.Links.{probe_is}
use Rattle.ghs_protocol.proofs.progress.Found.{node_waits, Split}
use Rattle.ghs_protocol.proofs.progress.BothBegun.{AllOf}

-- a Report to a searching node comes from the other half of the core, which is done
module _ {N : ℕ → Key → Type 0} (e f : TreeEnd) (he : TreeFits N e f) (hf : TreeFits N f e) (ups : Joins e f → Ups e ⊎ Ups f)
    (k : Option Key) (ms : List Message) (waits : e.tree ≡ Report k ∷ ms) (finds : e.phase ≡ Find) (up : Ups e) where
  pub from_done : f.phase ≡ Found
  from_done = go (joint e f linked (ups linked))
    where
      linked : Joins e f
      linked = joined e f he hf ups k ms waits

      down : Downward (N e.fragment) e f → f.phase ≡ Found
      down (Initiates c) = absurd (no_report _ _ _ _ _ k ms e.tree waits c)
      down (Old_report r xs q h c) = absurd (let z = h.phase in cc (z, finds))

      core : (z : CoreFits e f) → CoreQueue e f z.here z.there → f.phase ≡ Found
      core z (Plain q) = absurd (no_plain _ _ _ z.here z.there k ms (sym q ∙ waits))
      core z (With_report r q s p b) = p

      moved : MovedFits e f → f.phase ≡ Found
      moved (To_here m) = absurd (let z : Report k ∷ ms ≡ ChangeRoot ∷ [] = sym waits ∙ m.queue in cc)
      moved (To_there m) = absurd (let z : Report k ∷ ms ≡ [] = sym waits ∙ m.queue_beyond in cc)

      go : Joint e f → f.phase ≡ Found
      go (Down_here c) = down (he.downward c)
      go (Down_there c) = absurd (c.down up)
      go (On_core c) = let z = he.core_queues c in core z z.queue
      go (On_moved c) = moved (he.moved_root c)

module _ (g : Network) (wired : IsWired g) (v p : ℕ) (at : At g v p) (n : Net) (gh : Ghost) (holds : Invariant g (scene n gh)) where
  abbrev w : Scene
  w = scene n gh

  abbrev e : End
  e = end g w v p

  abbrev f : End
  f = far_end g w v p

  at' : At g (far g v p) (far_port g v p)
  at' = wired.there v p at

  -- a Test from a node that is done is no higher than its reader
  no_high : f.is.head.phase ≡ Found → (l : ℕ) (nm : Key) (ts : List (ℕ × Key)) → e.seen.tests ≡ (l, nm) ∷ ts → e.is.head.level < l → ⊥
  no_high found l nm ts q lt =
      ⊎_elim (λ h. let z = probing_finds (holds.nodes (far g v p) (record { some = at'.some; node = at'.node })) h in cc (z, found))
      (λ ne.
      let s = (link_fits' g wired w holds v p at).tests.not_probing ne in
      let c = s.crossed (omega (arith, ap length q)) in
      let a : AllFrom e.is.head.level e.is.head.name ((l, nm) ∷ ts) = subst (AllFrom e.is.head.level e.is.head.name) q c.from in
      let same = a.0 in omega (arith, same, lt))
      (probe_is f.is.head.probe f.port)

  -- a Connect that waits comes from a fragment at rest
  connect_done : (l : ℕ) (ms : List Message) → e.seen.tree ≡ Connect l ∷ ms → e.mark ≡ Basic → f.is.head.phase ≡ Found
  connect_done l ms q basic =
      ⊎_elim (λ b.
      (holds.resting.out (far g v p) (far_port g v p) at' (record { here = b; there = away })).found (far g v p)
      (record { some = at'.some; node = at'.node }) refl)
      (λ b. absurd (let z : Connect l ∷ ms ≡ [] = sym q ∙ (link_fits g wired w holds v p at).tree.silent unmarked b in cc)) (mark_is f.mark)
    where
      unmarked : e.mark ≢ Branch
      unmarked z = let y : Branch ≡ Basic = sym z ∙ basic in cc

      away : (w.at (far g (far g v p) (far_port g v p))).mark (far_port g (far g v p) (far_port g v p)) ≢ Branch
      away z = unmarked (subst₂ (λ x y. (w.at x).mark y ≡ Branch) (wired.back v p at) (wired.back_port v p at) z)

  lone_c : (l : ℕ) (ms : List Message) → e.seen.tree ≡ Connect l ∷ ms → e.mark ≡ Basic → ms ≡ []
  lone_c l ms q b = lone_connect (tree_end e) (tree_end f) (link_fits g wired w holds v p at).tree (link_fits' g wired w holds v p at).tree l ms q b

  up : e.is.head.in_branch ≡ Some p → e.is.head.phase ≡ Find → e.is.up ≡ Some p
  up b finds = let s = (node_fits g wired w holds v p at).searching finds in s.up ∙ sym s.in_branch ∙ b

  lone_r : (k : Option Key) (ms : List Message) → e.seen.tree ≡ Report k ∷ ms → e.is.head.in_branch ≡ Some p → e.is.head.phase ≡ Find → ms ≡ []
  lone_r k ms q b finds =
      lone_report (tree_end e) (tree_end f) (link_fits g wired w holds v p at).tree (link_fits' g wired w holds v p at).tree
      (link_leads g wired w holds v p at) k ms q finds (up b finds)

  report_done : (k : Option Key) (ms : List Message) →
      e.seen.tree ≡ Report k ∷ ms →
      e.is.head.in_branch ≡ Some p →
      e.is.head.phase ≡ Find →
      f.is.head.phase ≡ Found
  report_done k ms q b finds =
      from_done (tree_end e) (tree_end f) (link_fits g wired w holds v p at).tree (link_fits' g wired w holds v p at).tree
      (link_leads g wired w holds v p at) k ms q finds (up b finds)

  lone_t : (t : ℕ × Key) (ts : List (ℕ × Key)) → e.seen.tests ≡ t ∷ ts → ts ≡ []
  lone_t t ts q = lone_test (test_end e) (test_end f) (link_fits' g wired w holds v p at).tests t ts q

  -- what a tree message at the head leaves of the Tests, and a Test of the tree messages
  tests_after : (q ms : List Message) (x : Message) → is_tree x ≡ true → q ≡ x ∷ ms → (see q).tests ≡ (see ms).tests
  tests_after q ms x t h = ap (λ (s : Seen). s.tests) (seen q ms x t h)

  tree_after : (q ms : List Message) (l : ℕ) (nm : Key) → q ≡ Test l nm ∷ ms → (see q).tree ≡ (see ms).tree
  tree_after q ms l nm h = ap (λ z. (see z).tree) h ∙ ap (λ (s : Seen). s.tree) (see_first (Test l nm) ms)

  abbrev q0 : List Message
  q0 = n.queue v p

  abbrev W : Message → Type 0
  W x = node_waits (n.node v) p x

  -- the first two messages of a queue don't both wait
  pub two_wait : (x y : Message) (ms : List Message) → q0 ≡ x ∷ y ∷ ms → W x → W y → ⊥
  two_wait (Connect l) (Connect k) ms h a b =
      let z : (see (Connect k ∷ ms)).tree ≡ [] = lone_c l _ (tree_first q0 _ (Connect l) refl h) a.2 in
      let y : [] ≡ Connect k ∷ (see ms).tree = sym z ∙ tree_first _ ms (Connect k) refl refl in cc
  two_wait (Connect l) (Report k) ms h a b =
      let z : (see (Report k ∷ ms)).tree ≡ [] = lone_c l _ (tree_first q0 _ (Connect l) refl h) a.2 in
      let y : [] ≡ Report k ∷ (see ms).tree = sym z ∙ tree_first _ ms (Report k) refl refl in cc
  two_wait (Report l) (Connect k) ms h a b =
      let z : (see (Connect k ∷ ms)).tree ≡ [] = lone_r l _ (tree_first q0 _ (Report l) refl h) a.0 a.1 in
      let y : [] ≡ Connect k ∷ (see ms).tree = sym z ∙ tree_first _ ms (Connect k) refl refl in cc
  two_wait (Report l) (Report k) ms h a b =
      let z : (see (Report k ∷ ms)).tree ≡ [] = lone_r l _ (tree_first q0 _ (Report l) refl h) a.0 a.1 in
      let y : [] ≡ Report k ∷ (see ms).tree = sym z ∙ tree_first _ ms (Report k) refl refl in cc
  two_wait (Test l m) (Test k o) ms h a b =
      let z : (see (Test k o ∷ ms)).tests ≡ [] = lone_t (l, m) _ (test_first q0 _ l m h) in
      let y : [] ≡ (k, o) ∷ (see ms).tests = sym z ∙ test_first _ ms k o refl in cc
  two_wait (Connect l) (Test k o) ms h a b =
      no_high (connect_done l _ (tree_first q0 _ (Connect l) refl h) a.2) k o _
      (tests_after q0 _ (Connect l) refl h ∙ test_first _ ms k o refl) b.1
  two_wait (Report l) (Test k o) ms h a b =
      no_high (report_done l _ (tree_first q0 _ (Report l) refl h) a.0 a.1) k o _
      (tests_after q0 _ (Report l) refl h ∙ test_first _ ms k o refl) b.1
  two_wait (Test k o) (Connect l) ms h b a =
      no_high (connect_done l _ (tree_after q0 _ k o h ∙ tree_first _ ms (Connect l) refl refl) a.2) k o _ (test_first q0 _ k o h) b.1
  two_wait (Test k o) (Report l) ms h b a =
      no_high (report_done l _ (tree_after q0 _ k o h ∙ tree_first _ ms (Report l) refl refl) a.0 a.1) k o _ (test_first q0 _ k o h) b.1
  two_wait (Initiate l m s) y ms h a b = elim a [ ]
  two_wait ChangeRoot y ms h a b = elim a [ ]
  two_wait Accept y ms h a b = elim a [ ]
  two_wait Reject y ms h a b = elim a [ ]
  two_wait x (Initiate l m s) ms h a b = elim b [ ]
  two_wait x ChangeRoot ms h a b = elim b [ ]
  two_wait x Accept ms h a b = elim b [ ]
  two_wait x Reject ms h a b = elim b [ ]

  few_in : (b : List Message) (r : List Message) → q0 ≡ b ++ r → AllOf W b → length b ≤ 1
  few_in [] r h a = omega arith
  few_in (x ∷ []) r h a = omega arith
  few_in (x ∷ y ∷ b) r h a = absurd (let z = a.1 in two_wait x y (b ++ r) h a.0 z.0)

  -- one waits at most before the first that doesn't
  pub few : (s : Split W q0) → length s.before ≤ 1
  few s = few_in s.before (s.message ∷ s.behind) s.whole s.all
