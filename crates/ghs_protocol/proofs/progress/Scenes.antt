-- Where each message waits, a core node has halted: no run is ever stuck.
use Rattle.std.proofs.Common.{◌≡◌, ◌≢◌, ℕ, zero, suc, ◌<◌, ◌≤◌, Bool, true, false, Option, Some, None, List, [], ◌∷◌, length, refl, sym, ◌∙◌, ap, subst, subst₂, ⊎_elim, ◌⊎◌, inl, inr, arith}
use Rattle.std.specs.Prelude.{⊤}
use Rattle.ghs_graph.specs.declared.key.Key.{Key}
use Rattle.ghs_graph.specs.Key.{key_lt}
use Rattle.ghs_node.specs.declared.mark.Mark.TheVariants.{Basic, Branch}
use Rattle.ghs_node.specs.declared.message.Phase.{Phase}
use Rattle.ghs_node.specs.declared.message.Phase.TheVariants.{Sleeping, Find, Found}
use Rattle.ghs_node.specs.declared.message.Message.{Message}
use Rattle.ghs_node.specs.declared.message.Message.TheVariants.{Connect, Initiate, Test, Accept, Reject, Report, ChangeRoot}
use Rattle.ghs_node.specs.Words.{Best, is_branch, below, best_key}
use Rattle.peer_network.specs.Network.{Network, port_at, At, far, far_port, InNetwork}
use Rattle.ghs_protocol.proofs.clauses.Scene.{Scene, Member, End, end, tree_end, forest, Seen, far_end}
use Rattle.ghs_protocol.proofs.clauses.Changes.{seen_beyond}
use Rattle.ghs_protocol.proofs.clauses.TreeMessages.{ConnectUnderWay}
use Rattle.ghs_protocol.proofs.clauses.Tests.{AllFrom}
use Rattle.ghs_protocol.proofs.clauses.Fragments.{Root, Goes_out, Both_ways, Reach, At_root, By_step}
use Rattle.ghs_protocol.proofs.clauses.Rest.{has_call, has_report}
use Rattle.ghs_protocol.proofs.clauses.Wiring.{Ground}
use Rattle.ghs_protocol.proofs.clauses.Whole.{Invariant, LinkFits, NamesOf}
use Rattle.ghs_protocol.proofs.clauses.UnderWay.{Answering, Test_there, Accept_here, Reject_here, Crossed_here, CoreHeard, HeardBy, brought_to, Living}
use Rattle.ghs_protocol.proofs.acts.OneLink.{at_near, at_far}
use Rattle.ghs_protocol.proofs.tests.Links.{probe_is}
use Rattle.ghs_protocol.proofs.acts.SameForest.{mark_branch}
use Rattle.ghs_protocol.proofs.progress.Askers.{Asker, someone_asks}
use Rattle.ghs_protocol.proofs.progress.Halves.{RootLink, Stands, no_tie}
use Rattle.ghs_protocol.proofs.progress.KeyDescent.{key_descent}
use Rattle.std.proofs.lemmas.Bool.{cases_Bool}
use Rattle.peer_network.proofs.lemmas.Graphs.{same_key}
use Rattle.ghs_protocol.proofs.progress.BothBegun.{BegunCore, both_begun, tree_waits, AllOf, first_of}
use Rattle.ghs_node.proofs.lemmas.{branch_mark}

-- neither of two bests is below the other: both are missing, or they have one key
data Even (a b : Best) : Type 0 where
  Both_missing : a ≡ None → b ≡ None → Even a b
  One_key : (k : Key) → best_key a ≡ Some k → best_key b ≡ Some k → Even a b

even : (a b : Best) → below (best_key a) (best_key b) ≡ false → below (best_key b) (best_key a) ≡ false → Even a b
even None None h i = Both_missing refl refl
even None (Some y) h i = cc
even (Some x) None h i = cc
even (Some x) (Some y) h i = One_key x.1 refl (ap Some (sym (same_key x.1 y.1 h i)))

-- a Test waits
abbrev pub test_waits : Member → ℕ × Key → Type 0
test_waits m t = (m.head.phase ≢ Sleeping) × (m.head.level < t.0)

abbrev pub AllTests : (ℕ × Key → Type 0) → List (ℕ × Key) → Type 0
AllTests P [] = ⊤
AllTests P (x ∷ xs) = (P x) × AllTests P xs

-- each message of a queue waits
pub record SeenWaits (m : Member) (p : ℕ) (q : Seen) : Type 0 where
  pub tree : AllOf (tree_waits m p) q.tree
  pub tests : AllTests (test_waits m) q.tests
  pub accepts : ◌≡◌ {A = ℕ} q.accepts 0
  pub rejects : ◌≡◌ {A = ℕ} q.rejects 0

calls_none : (m : Member) (p : ℕ) (xs : List Message) → AllOf (tree_waits m p) xs → has_call xs ≡ true → ⊥
calls_none m p [] a h = cc
calls_none m p (Connect l ∷ xs) a h = calls_none m p xs a.1 h
calls_none m p (Report k ∷ xs) a h = calls_none m p xs a.1 h
calls_none m p (Initiate l f s ∷ xs) a h = elim a.0 [ ]
calls_none m p (ChangeRoot ∷ xs) a h = elim a.0 [ ]
calls_none m p (Test l f ∷ xs) a h = elim a.0 [ ]
calls_none m p (Accept ∷ xs) a h = elim a.0 [ ]
calls_none m p (Reject ∷ xs) a h = elim a.0 [ ]

report_waits : (m : Member) (p : ℕ) (xs : List Message) →
    AllOf (tree_waits m p) xs →
    has_report xs ≡ true →
    (m.head.in_branch ≡ Some p) × (m.head.phase ≡ Find)
report_waits m p [] a h = cc
report_waits m p (Connect l ∷ xs) a h = report_waits m p xs a.1 h
report_waits m p (Report k ∷ xs) a h = a.0
report_waits m p (Initiate l f s ∷ xs) a h = elim a.0 [ ]
report_waits m p (ChangeRoot ∷ xs) a h = elim a.0 [ ]
report_waits m p (Test l f ∷ xs) a h = elim a.0 [ ]
report_waits m p (Accept ∷ xs) a h = elim a.0 [ ]
report_waits m p (Reject ∷ xs) a h = elim a.0 [ ]

none_brought : (m : Member) (p l : ℕ) (xs : List Message) → AllOf (tree_waits m p) xs → brought_to l xs ≡ l
none_brought m p l [] a = refl
none_brought m p l (Connect k ∷ xs) a = none_brought m p l xs a.1
none_brought m p l (Report k ∷ xs) a = none_brought m p l xs a.1
none_brought m p l (Initiate k f s ∷ xs) a = elim a.0 [ ]
none_brought m p l (ChangeRoot ∷ xs) a = elim a.0 [ ]
none_brought m p l (Test k f ∷ xs) a = elim a.0 [ ]
none_brought m p l (Accept ∷ xs) a = elim a.0 [ ]
none_brought m p l (Reject ∷ xs) a = elim a.0 [ ]

-- the tests that wait, one of them at least, are above the reader
above : (m : Member) (l : ℕ) (n : Option Key) (ts : List (ℕ × Key)) →
    1 ≤ length ts →
    AllFrom l n ts →
    AllTests (test_waits m) ts →
    (m.head.phase ≢ Sleeping) × (m.head.level < l)
above m l n [] le a b = absurd (omega (arith, le))
above m l n (t ∷ ts) le a b = let z : (m.head.phase ≢ Sleeping) × (m.head.level < t.0) = b.0 in (z.0, subst (λ x. m.head.level < x) a.0 z.1)

-- a Connect under way goes over the least link that leaves its fragment
abbrev pub ConnectsLeast : Network → Scene → Type 0
ConnectsLeast g w =
    (a j : ℕ) → At g a j →
    (w.at a).mark j ≡ Branch →
    is_branch ((w.at (far g a j)).mark (far_port g a j)) ≡ false →
    (u q : ℕ) → At g u q →
    (w.at u).fragment ≡ (w.at a).fragment →
    (w.at (far g u q)).fragment ≢ (w.at a).fragment →
    key_lt (port_at g u q).key (port_at g a j).key ≡ false

-- a node that is awake and hasn't halted has ports
pub has_ports : (g : Network) (w : Scene) → Living g w → (v : ℕ) → InNetwork g v →
    (w.at v).head.halted ≢ true →
    (w.at v).head.phase ≢ Sleeping →
    0 < length (g.ports v)
has_ports g w lives v is going awake = more (length (g.ports v)) refl
  where
    more : (n : ℕ) → length (g.ports v) ≡ n → 0 < length (g.ports v)
    more zero e = absurd (going (lives.no_port v is awake e))
    more (suc n) e = omega (arith, e)

module _ (g : Network) (ground : Ground g) (w : Scene) (holds : Invariant g w) (lives : Living g w)
    (S : ℕ → Bool) (closed : (v p : ℕ) → At g v p → S v ≡ true → S (far g v p) ≡ true)
    (trees : (v p : ℕ) → At g v p → S v ≡ true → AllOf (tree_waits (w.at v) p) (w.seen v p).tree)
    (ports : (v : ℕ) → InNetwork g v → S v ≡ true → (w.at v).head.phase ≢ Sleeping → 0 < length (g.ports v)) where
  -- none of S has halted
  abbrev pub NoneHalted : Type 0
  NoneHalted = (v : ℕ) → InNetwork g v → S v ≡ true → (w.at v).head.halted ≢ true

  reach : (v : ℕ) → InNetwork g v → S v ≡ true → (w.at v).head.phase ≢ Sleeping → Reach g (forest w) v
  reach v is m awake = let z = (holds.nodes v is).points awake (ports v is m awake) in holds.trees.reached v z.port is z.up

  -- the root of a node's fragment
  pub record RootOf (v : ℕ) : Type 0 where
    pub node : ℕ
    pub port : ℕ
    pub at : At g node port
    pub member : S node ≡ true
    pub same : (w.at node).fragment ≡ (w.at v).fragment
    pub up : (w.at node).up ≡ Some port
    pub root : Root g (forest w) node port

  root_of : {v : ℕ} → Reach g (forest w) v → S v ≡ true → RootOf v
  root_of {v} (At_root p at up root) m = record { node = v; port = p; at = at; member = m; same = refl; up = up; root = root }
  root_of {v} (By_step p at up joined r) m =
      let z = root_of r (closed v p at m) in
      record {
        node = z.node;
        port = z.port;
        at = z.at;
        member = z.member;
        same = z.same ∙ sym (holds.trees.joined_within v p at joined);
        up = z.up;
        root = z.root;
      }

  -- the Connect under way on a port that is Branch here alone
  connect : (a j : ℕ) →
      At g a j →
      (w.at a).mark j ≡ Branch →
      is_branch ((w.at (far g a j)).mark (far_port g a j)) ≡ false →
      ConnectUnderWay (tree_end (end g w a j)) (tree_end (end g w (far g a j) (far_port g a j)))
  connect a j at here away = (holds.links a j at).tree.out_connect (record { here = here; there = mark_branch _ away })

  -- it waits
  connect_waits : (a j : ℕ) →
      At g a j →
      S a ≡ true →
      (w.at a).mark j ≡ Branch →
      is_branch ((w.at (far g a j)).mark (far_port g a j)) ≡ false →
      tree_waits (w.at (far g a j)) (far_port g a j) (Connect (w.at a).head.level)
  connect_waits a j at m here away =
      first_of (tree_waits (w.at (far g a j)) (far_port g a j)) (Connect (w.at a).head.level) [] (seen_beyond g w a j).tree
      (connect a j at here away).one
      (trees (far g a j) (far_port g a j) (ground.wired.there a j at) (closed a j at m))

  module _ (a j : ℕ) (m : S a ≡ true) (r : RootLink g (forest w) a j) where
    at' : At g (far g a j) (far_port g a j)
    at' = ground.wired.there a j r.at

    m' : S (far g a j) ≡ true
    m' = closed a j r.at m

    is : InNetwork g a
    is = record { some = r.at.some; node = r.at.node }

    is' : InNetwork g (far g a j)
    is' = record { some = at'.some; node = at'.node }

    here : (w.at a).mark j ≡ Branch
    here = branch_mark _ r.joined.here

    there : (w.at (far g a j)).mark (far_port g a j) ≡ Branch
    there = branch_mark _ r.joined.there

    -- both ends have begun
    pub begun : BegunCore g w a j
    begun =
        both_begun g w holds a j r (trees a j r.at m)
        (trees (far g a j) (far_port g a j) (ground.wired.there a j r.at) (closed a j r.at m))

    abbrev e1 : End
    e1 = end g w a j

    abbrev f1 : End
    f1 = far_end g w a j

    no_reports : (v p : ℕ) → At g v p → S v ≡ true → (w.at v).head.phase ≡ Found → has_report (w.seen v p).tree ≡ false
    no_reports v p at y f =
        ⊎_elim
        (λ h. absurd (let z = (report_waits (w.at v) p (w.seen v p).tree (trees v p at y) h).1 in cc (z, f)))
        (λ h. h) (cases_Bool _)

    -- the ends aren't both done
    pub not_done : NoneHalted → (w.at a).head.phase ≡ Found → (w.at (far g a j)).head.phase ≡ Found → ⊥
    not_done unended phase phase' = by_keys (even f1.is.head.best e1.is.head.best h.key h'.key)
      where
        linked : (w.at (far g a j)).coming_name ≡ (w.at a).coming_name
        linked = (holds.trees.by_fragment (far g a j) a (sym (holds.trees.joined_within a j r.at r.joined))).1

        h : HeardBy f1.is.head.level f1.is.coming f1.is.head.phase f1.is.head.best e1.is.head.best f1.is.head.halted
        h =
            at_near g ground.wired w CoreHeard lives.links.heard a j r.at (here, there, r.up, r.up_beyond, begun.named) begun.top phase
            (no_reports (far g a j) (far_port g a j) at' m' phase')

        h' : HeardBy e1.is.head.level e1.is.coming e1.is.head.phase e1.is.head.best f1.is.head.best e1.is.head.halted
        h' =
            at_far g ground.wired w CoreHeard lives.links.heard a j r.at (there, here, r.up_beyond, r.up, linked ∙ begun.named) begun.top' phase'
            (no_reports a j r.at m phase)

        stands : (k : Key) → best_key e1.is.head.best ≡ Some k → Stands w k a
        stands k x = record {
          top = begun.top;
          way = r.up ∙ sym (((holds.links a j r.at).tree.core_ends (record { here = here; there = there }) begun.named).at_top begun.top);
          best = x;
        }

        stands' : (k : Key) → best_key f1.is.head.best ≡ Some k → Stands w k (far g a j)
        stands' k x = record {
          top = begun.top';
          way =
              r.up_beyond ∙
              sym (((at_far g ground.wired w (LinkFits (NamesOf g w)) holds.links a j r.at).tree.core_ends (record { here = there; there = here })
              (linked ∙ begun.named)).at_top
              begun.top');
          best = x;
        }

        by_keys : Even f1.is.head.best e1.is.head.best → ⊥
        by_keys (Both_missing x y) = unended (far g a j) is' m' (h.halts y x)
        by_keys (One_key k x y) = no_tie g ground.wired w holds a j r k ground.keyed is' (stands k y) (stands' k x)

  -- who stands at the root is at the coming level
  root_top : (v p : ℕ) → At g v p → S v ≡ true → (w.at v).up ≡ Some p → Root g (forest w) v p → (w.at v).head.level ≡ (w.at v).coming
  root_top v p at m up (Goes_out x z) = (connect v p at (branch_mark _ x) z).level
  root_top v p at m up (Both_ways x z t) = (begun v p m (record { at = at; joined = x; up = z; up_beyond = t })).top

  -- everyone is at the coming level
  levels : {v : ℕ} → Reach g (forest w) v → S v ≡ true → (w.at v).head.level ≡ (w.at v).coming
  levels {v} (At_root p at up root) m = root_top v p at m up root
  levels {v} (By_step p at up joined r) m =
      ⊎_elim (λ h. root_top v p at m up (Both_ways joined up h)) (λ ne. by_child ne (levels r (closed v p at m)))
      (probe_is (w.at (far g v p)).up (far_port g v p))
    where
      by_child :
          (w.at (far g v p)).up ≢ Some (far_port g v p) →
          (w.at (far g v p)).head.level ≡ (w.at (far g v p)).coming →
          (w.at v).head.level ≡ (w.at v).coming
      by_child ne top =
          let b = lives.links.brought v p at (branch_mark _ joined.here, branch_mark _ joined.there, up, ne) in
          sym (none_brought (w.at v) p (w.at v).head.level (w.seen v p).tree (trees v p at m)) ∙ b ∙ top ∙
          (holds.trees.by_fragment (far g v p) v (sym (holds.trees.joined_within v p at joined))).0

  pub top : (v : ℕ) → InNetwork g v → S v ≡ true → (w.at v).head.phase ≢ Sleeping → (w.at v).head.level ≡ (w.at v).coming
  top v is m awake = levels (reach v is m awake) m

  -- a node that is awake, in S, and comes to this level
  pub record At_level (l : ℕ) : Type 0 where
    pub node : ℕ
    pub is : InNetwork g node
    pub member : S node ≡ true
    pub awake : (w.at node).head.phase ≢ Sleeping
    pub comes : (w.at node).coming ≡ l

  -- in the fragment of who searches somebody probes
  pub search_asks : (v : ℕ) → InNetwork g v → S v ≡ true → (w.at v).head.phase ≡ Find → Asker g w S (w.at v).fragment
  search_asks v is m finds =
      someone_asks g ground.wired w holds lives.awaits S closed
      (λ x p at y h. calls_none (w.at x) p (w.seen x p).tree (trees x p at y) h)
      no_report v (reach v is m (λ e. cc (e, finds))) is m finds
    where
      no_report : (x p : ℕ) → At g x p → S x ≡ true → (w.at x).head.phase ≡ Find → (w.at x).up ≢ Some p → has_report (w.seen x p).tree ≢ true
      no_report x p at y f ne h =
          let s = (holds.nodes x (record { some = at.some; node = at.node })).searching f in
          ne (s.up ∙ sym s.in_branch ∙ (report_waits (w.at x) p (w.seen x p).tree (trees x p at y) h).0)

  -- and has the fragment's coming level
  pub asker_level : (v : ℕ) → (k : Asker g w S (w.at v).fragment) → (w.at k.node).head.level ≡ (w.at v).coming
  asker_level v k = ((holds.nodes k.node k.is).searching k.finds).level ∙ (holds.trees.by_fragment k.node v k.inside).0

  -- who searches, where below each search there is a lower level
  module _ (search_lower : (v : ℕ) → InNetwork g v → S v ≡ true → (w.at v).head.phase ≡ Find → (l : ℕ) × (l < (w.at v).coming) × At_level l) where
    -- a fragment's root, where its Connect is under way
    pub record OutRoot (v : ℕ) : Type 0 where
      pub node : ℕ
      pub port : ℕ
      pub at : At g node port
      pub member : S node ≡ true
      pub same : (w.at node).fragment ≡ (w.at v).fragment
      pub here : (w.at node).mark port ≡ Branch
      pub away : is_branch ((w.at (far g node port)).mark (far_port g node port)) ≡ false

    pub data Next (v : ℕ) : Type 0 where
      Lower : (l : ℕ) → l < (w.at v).coming → At_level l → Next v
      Outward : OutRoot v → Next v

    next : NoneHalted → (v : ℕ) → InNetwork g v → S v ≡ true → (w.at v).head.phase ≢ Sleeping → Next v
    next unended v is m awake = by_root (root_of (reach v is m awake) m)
      where
        lower : (x : ℕ) → (w.at x).fragment ≡ (w.at v).fragment → (l : ℕ) × (l < (w.at x).coming) × At_level l → Next v
        lower x e t = let lt = t.1 in let c = (holds.trees.by_fragment x v e).0 in Lower t.0 (omega (arith, lt, c)) t.2

        phase_of : (x p : ℕ) → At g x p → (w.at x).mark p ≡ Branch → ((w.at x).head.phase ≡ Found) ⊎ ((w.at x).head.phase ≡ Find)
        phase_of x p at b = go (w.at x).head.phase refl
          where
            go : (s : Phase) → (w.at x).head.phase ≡ s → ((w.at x).head.phase ≡ Found) ⊎ ((w.at x).head.phase ≡ Find)
            go Found e = inl e
            go Find e = inr e
            go Sleeping e = absurd (((holds.nodes x (record { some = at.some; node = at.node })).untouched e).marks p b)

        by_core : (a j : ℕ) → S a ≡ true → (w.at a).fragment ≡ (w.at v).fragment → RootLink g (forest w) a j → Next v
        by_core a j y e r =
            ⊎_elim
            (λ f. ⊎_elim (λ f'. absurd (not_done a j y r unended f f')) (λ f'.
            lower (far g a j) (sym (holds.trees.joined_within a j r.at r.joined) ∙ e)
            (search_lower (far g a j)
            (record { some = (ground.wired.there a j r.at).some; node = (ground.wired.there a j r.at).node }) (closed a j r.at y) f'))
            (phase_of (far g a j) (far_port g a j) (ground.wired.there a j r.at) (branch_mark _ r.joined.there)))
            (λ f. lower a e (search_lower a (record { some = r.at.some; node = r.at.node }) y f))
            (phase_of a j r.at (branch_mark _ r.joined.here))

        by_root : RootOf v → Next v
        by_root z = go z.root
          where
            go : Root g (forest w) z.node z.port → Next v
            go (Goes_out x y) =
                Outward (record { node = z.node; port = z.port; at = z.at; member = z.member; same = z.same; here = branch_mark _ x; away = y })
            go (Both_ways x y t) = by_core z.node z.port z.member z.same (record { at = z.at; joined = x; up = y; up_beyond = t })

    module _ (unended : NoneHalted) (least : ConnectsLeast g w) where
      module _ (l : ℕ) (low : (x : ℕ) → x < l → At_level x → ⊥) where
        abbrev P : Key → Type 0
        P k =
            (a j : ℕ) → At g a j →
            S a ≡ true →
            (w.at a).coming ≡ l →
            (w.at a).mark j ≡ Branch →
            is_branch ((w.at (far g a j)).mark (far_port g a j)) ≡ false →
            (port_at g a j).key ≡ k →
            ⊥

        out_step : (k : Key) → ((j : Key) → key_lt j k ≡ true → P j) → P k
        out_step k r a j at m c here away e = go (next unended y is' m' awake)
          where
            y : ℕ
            y = far g a j

            at' : At g (far g a j) (far_port g a j)
            at' = ground.wired.there a j at

            is' : InNetwork g (far g a j)
            is' = record { some = at'.some; node = at'.node }

            m' : S (far g a j) ≡ true
            m' = closed a j at m

            under : ConnectUnderWay (tree_end (end g w a j)) (tree_end (end g w (far g a j) (far_port g a j)))
            under = connect a j at here away

            waits : tree_waits (w.at (far g a j)) (far_port g a j) (Connect (w.at a).head.level)
            waits = connect_waits a j at m here away

            awake : (w.at (far g a j)).head.phase ≢ Sleeping
            awake = waits.0

            comes : (w.at (far g a j)).coming ≡ l
            comes =
                let t = top (far g a j) is' m' awake in let x = waits.1 in let h = under.higher in let v = under.level in omega (arith, t, x, h, v, c)

            go : Next (far g a j) → ⊥
            go (Lower x lt z) = low x (omega (arith, lt, comes)) z
            go (Outward o) =
                ⊎_elim (λ h.
                r (port_at g o.node o.port).key (subst (λ z. key_lt (port_at g o.node o.port).key z ≡ true) e h) o.node o.port o.at o.member
                ((holds.trees.by_fragment o.node (far g a j) o.same).0 ∙ comes) o.here o.away refl)
                (λ h. same h) (cases_Bool _)
              where
                not_less : key_lt (port_at g a j).key (port_at g o.node o.port).key ≡ false
                not_less =
                    subst (λ z. key_lt z (port_at g o.node o.port).key ≡ false) (ground.wired.same_key a j at)
                    (least o.node o.port o.at o.here o.away (far g a j) (far_port g a j) at' (sym o.same)
                    (λ h. under.apart (sym o.same ∙ sym h ∙ ap (λ z. (w.at z).fragment) (ground.wired.back a j at))))

                same : key_lt (port_at g o.node o.port).key (port_at g a j).key ≡ false → ⊥
                same h =
                    ⊎_elim (λ t. under.apart (sym o.same ∙ ap (λ z. (w.at z).fragment) (sym t.0)))
                    (λ t.
                    let b : (w.at (far g a j)).mark (far_port g a j) ≡ Branch = subst₂ (λ z q. (w.at z).mark q ≡ Branch) (sym t.0) (sym t.1) o.here in
                    let x : Basic ≡ Branch = sym waits.2 ∙ b in cc)
                    (ground.keyed a j o.node o.port at o.at (same_key _ _ not_less h))

        none_at : At_level l → ⊥
        none_at z = go (next unended z.node z.is z.member z.awake)
          where
            go : Next z.node → ⊥
            go (Lower x lt y) = low x (let c = z.comes in omega (arith, lt, c)) y
            go (Outward o) =
                key_descent P out_step (port_at g o.node o.port).key o.node o.port o.at o.member
                ((holds.trees.by_fragment o.node z.node o.same).0 ∙ z.comes) o.here o.away refl

      below_level : (n l : ℕ) → l < n → At_level l → ⊥
      below_level zero l lt z = omega (arith, lt)
      below_level (suc n) l lt z = none_at l (λ x le y. below_level n x (omega (arith, le, lt)) y) z

      -- nobody is awake
      pub nobody_awake : (v : ℕ) → InNetwork g v → S v ≡ true → (w.at v).head.phase ≢ Sleeping → ⊥
      nobody_awake v is m awake =
          below_level (suc (w.at v).coming) (w.at v).coming (omega arith) (record { node = v; is = is; member = m; awake = awake; comes = refl })

-- all messages wait, those that aren't tree messages too
module _ (g : Network) (ground : Ground g) (w : Scene) (holds : Invariant g w) (lives : Living g w)
    (S : ℕ → Bool) (closed : (v p : ℕ) → At g v p → S v ≡ true → S (far g v p) ≡ true)
    (stuck : (v p : ℕ) → At g v p → S v ≡ true → SeenWaits (w.at v) p (w.seen v p))
    (ports : (v : ℕ) → InNetwork g v → S v ≡ true → (w.at v).head.phase ≢ Sleeping → 0 < length (g.ports v)) where
  pub trees : (v p : ℕ) → At g v p → S v ≡ true → AllOf (tree_waits (w.at v) p) (w.seen v p).tree
  trees v p at m = (stuck v p at m).tree

  -- below a search there is a lower level
  pub search_lower : (v : ℕ) → InNetwork g v → S v ≡ true → (w.at v).head.phase ≡ Find → (l : ℕ) ×
      (l < (w.at v).coming) × At_level g ground w holds lives S closed trees ports l
  search_lower v is m finds = asks (search_asks g ground w holds lives S closed trees ports v is m finds)
    where
      asks : Asker g w S (w.at v).fragment → (l : ℕ) × (l < (w.at v).coming) × At_level g ground w holds lives S closed trees ports l
      asks k = go (lives.links.asks k.node k.port at k.probe)
        where
          u : ℕ
          u = k.node

          at : At g k.node k.port
          at = record { some = k.is.some; node = k.is.node; port = (holds.nodes k.node k.is).own_ports.probe k.port k.probe }

          at' : At g (far g k.node k.port) (far_port g k.node k.port)
          at' = ground.wired.there k.node k.port at

          m' : S (far g k.node k.port) ≡ true
          m' = closed k.node k.port at k.member

          level : (w.at k.node).head.level ≡ (w.at v).coming
          level = asker_level g ground w holds lives S closed trees ports v k

          lower :
              ((w.at (far g k.node k.port)).head.phase ≢ Sleeping) × ((w.at (far g k.node k.port)).head.level < (w.at k.node).head.level) →
              (l : ℕ) × (l < (w.at v).coming) × At_level g ground w holds lives S closed trees ports l
          lower (awake, lt) =
              let is' : InNetwork g (far g k.node k.port) = record { some = at'.some; node = at'.node } in
              let t = top g ground w holds lives S closed trees ports (far g k.node k.port) is' m' awake in (
                (w.at (far g k.node k.port)).coming,
                omega (arith, lt, t, level),
                record { node = far g k.node k.port; is = is'; member = m'; awake = awake; comes = refl },
              )

          go :
              Answering (w.seen (far g k.node k.port) (far_port g k.node k.port)).tests (w.seen k.node k.port).accepts (w.seen k.node k.port).rejects
              (w.seen k.node k.port).tests (w.at (far g k.node k.port)).head.probe (far_port g k.node k.port) →
              (l : ℕ) × (l < (w.at v).coming) × At_level g ground w holds lives S closed trees ports l
          go (Test_there le) =
              lower (above (w.at (far g k.node k.port)) (w.at k.node).head.level (w.at k.node).head.name
              (w.seen (far g k.node k.port) (far_port g k.node k.port)).tests le ((holds.links k.node k.port at).tests.probing k.probe).from
              (stuck (far g k.node k.port) (far_port g k.node k.port) at' m').tests)
          go (Accept_here le) = let z = (stuck k.node k.port at k.member).accepts in absurd (omega (arith, le, z))
          go (Reject_here le) = let z = (stuck k.node k.port at k.member).rejects in absurd (omega (arith, le, z))
          go (Crossed_here le ne) =
              let c = ((at_far g ground.wired w (LinkFits (NamesOf g w)) holds.links k.node k.port at).tests.not_probing ne).crossed le in
              let z = above (w.at k.node) (w.at k.node).head.level (w.at k.node).head.name (w.seen k.node k.port).tests le c.from
              (stuck k.node k.port at k.member).tests in
              let lt = z.1 in absurd (omega (arith, lt))

  -- no net is stuck
  pub not_stuck : ((v : ℕ) → InNetwork g v → S v ≡ true → (w.at v).head.halted ≢ true) → ConnectsLeast g w → (v : ℕ) → InNetwork g v →
      S v ≡ true → (w.at v).head.phase ≢ Sleeping → ⊥
  not_stuck = nobody_awake g ground w holds lives S closed trees ports search_lower
