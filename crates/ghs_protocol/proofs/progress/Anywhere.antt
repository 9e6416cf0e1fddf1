-- Where a message waits, one that doesn't can be had, also after a core node has halted.
use Rattle.std.proofs.Common.{◌≡◌, ◌≢◌, ℕ, ◌<◌, ◌==◌, Bool, true, List, [], ◌∷◌, length, refl, sym, ◌∙◌, ap, subst, ⊎_elim, arith, eq-eqb, eqb-true}
use Rattle.ghs_graph.specs.Graph.{Shape}
use Rattle.ghs_node.specs.declared.mark.Mark.TheVariants.{Basic, Branch}
use Rattle.ghs_node.specs.declared.message.Phase.TheVariants.{Sleeping, Find}
use Rattle.ghs_node.specs.declared.message.Message.{Message}
use Rattle.ghs_node.specs.declared.message.Message.TheVariants.{Connect, Initiate, Test, Accept, Reject, Report, ChangeRoot}
use Rattle.peer_network.specs.Network.{Network, network_of, At, far, far_port, InNetwork}
use Rattle.peer_network.proofs.lemmas.Graphs.{graph_wired}
use Rattle.ghs_protocol.specs.Net.{Net}
use Rattle.ghs_protocol.specs.Laws.{IsNetOf}
use Rattle.ghs_protocol.specs.Living.{AnyLink, GoesOn}
use Rattle.ghs_protocol.specs.Marks.{Leads, Here, Over}
use Rattle.ghs_protocol.specs.Fairness.{NoMessageIsStuck}
use Rattle.ghs_protocol.proofs.clauses.Scene.{Scene, Ghost, scene, see, forest}
use Rattle.ghs_protocol.proofs.clauses.Fragments.{IsJoinedIn}
use Rattle.ghs_protocol.proofs.clauses.Tests.{AllFrom}
use Rattle.ghs_protocol.proofs.clauses.Wiring.{Ground}
use Rattle.ghs_protocol.proofs.clauses.Whole.{Invariant}
use Rattle.ghs_protocol.proofs.clauses.UnderWay.{Living}
use Rattle.ghs_protocol.proofs.acts.Grounds.{graph_ground}
use Rattle.ghs_protocol.proofs.acts.Situations.{probing_finds}
use Rattle.ghs_protocol.proofs.every_run.Sound.{sound}
use Rattle.ghs_protocol.proofs.lemmas.Waiting.{waits_awake}
use Rattle.ghs_protocol.proofs.progress.Awaits.{net_lives}
use Rattle.ghs_protocol.proofs.progress.BothBegun.{AllOf}
use Rattle.ghs_protocol.proofs.progress.Finish.{component, comes, test, unended, leads_inside}
use Rattle.ghs_protocol.proofs.progress.Found.{node_waits, seen_waits, look}
use Rattle.ghs_protocol.proofs.progress.Nets.{found_goes, so}
use Rattle.ghs_protocol.proofs.progress.Runs.{no_run_is_stuck}
use Rattle.ghs_protocol.proofs.progress.Scenes.{SeenWaits, search_lower}
use Rattle.ghs_protocol.proofs.rows.Link.{link_fits, link_fits', connect_comes}
use Rattle.ghs_protocol.proofs.rows.Read.{tree_first, test_first}
use Rattle.ghs_protocol.proofs.search.FirstReport.{mark_is}
use Rattle.ghs_protocol.proofs.tests.Links.{probe_is}

-- ways lead on within a set that no link leaves
leads_on : {R : ℕ → ℕ → Type 0} (g : Network) (S : ℕ → Bool) → ((v p : ℕ) → At g v p → S v ≡ true → S (far g v p) ≡ true) → {v u : ℕ} →
    Leads g R v u → S v ≡ true → S u ≡ true
leads_on g S closed Here m = m
leads_on g S closed {v} (Over p at x l) m = leads_on g S closed l (closed v p at m)

-- No link leaves fragment f, and each message there waits: then there is none.
module _ (g : Network) (ground : Ground g) (n : Net) (gh : Ghost) (holds : Invariant g (scene n gh)) (lives : Living g (scene n gh)) (f : ℕ)
    (whole : (t p : ℕ) → At g t p → gh.fragment t ≡ f → gh.fragment (far g t p) ≡ f)
    (waiting : (t p : ℕ) → At g t p → gh.fragment t ≡ f → AllOf (node_waits (n.node t) p) (n.queue t p)) where
  abbrev w : Scene
  w = scene n gh

  -- whose links lead there lies there
  leads_back : {v u : ℕ} → Leads g AnyLink v u → gh.fragment u ≡ f → gh.fragment v ≡ f
  leads_back Here e = e
  leads_back {v} (Over p at x l) e =
      subst (λ y. gh.fragment y ≡ f) (ground.wired.back v p at) (whole (far g v p) (far_port g v p) (ground.wired.there v p at) (leads_back l e))

  inside : ℕ → Bool
  inside t = gh.fragment t == f

  closed : (t p : ℕ) → At g t p → inside t ≡ true → inside (far g t p) ≡ true
  unfolding inside
  closed t p at m = eq-eqb _ _ (whole t p at (eqb-true _ _ m))

  all_seen : (t p : ℕ) → At g t p → inside t ≡ true → SeenWaits (w.at t) p (w.seen t p)
  unfolding inside
  all_seen t p at m = seen_waits g n gh t p (waiting t p at (eqb-true _ _ m))

  module _ (v p : ℕ) (at : At g v p) (here : gh.fragment v ≡ f) where
    is : InNetwork g v
    is = record { some = at.some; node = at.node }

    -- ports lead from each node of the fragment to v, which has one
    ports : (t : ℕ) → InNetwork g t → inside t ≡ true → (w.at t).head.phase ≢ Sleeping → 0 < length (g.ports t)
    unfolding inside
    ports t t_is m awake = go (holds.trees.connected t v t_is is (eqb-true _ _ m ∙ sym here)) refl
      where
        go : {u : ℕ} → Leads g (IsJoinedIn g (forest w)) t u → u ≡ v → 0 < length (g.ports t)
        go Here e = let z : 0 < length (g.ports v) = (let lt = at.port in omega (arith, lt)) in subst (λ y. 0 < length (g.ports y)) (sym e) z
        go (Over q at' j l) e = let lt = at'.port in omega (arith, lt)

    -- nobody searches
    no_search : (t : ℕ) → InNetwork g t → gh.fragment t ≡ f → (w.at t).head.phase ≢ Find
    unfolding inside
    no_search t t_is same finds =
        let z = search_lower g ground w holds lives inside closed all_seen ports t t_is (eq-eqb _ _ same) finds in
        let x = z.2 in
        let c = (holds.trees.by_fragment x.node t (eqb-true _ _ x.member ∙ sym same)).0 in
        let lt = z.1 in
        let k = x.comes in
        omega (arith, lt, c, k)

    there_is : InNetwork g (far g v p)
    there_is = let z = ground.wired.there v p at in record { some = z.some; node = z.node }

    pub none_first : (m : Message) (ms : List Message) → n.queue v p ≡ m ∷ ms → node_waits (n.node v) p m → ⊥
    none_first (Report k) ms q h = no_search v is here h.1
    none_first (Test l k) ms q h =
        ⊎_elim
        (λ probes. no_search (far g v p) there_is (whole v p at here) (probing_finds (holds.nodes (far g v p) there_is) probes))
        (λ ne.
        let t = test_first (n.queue v p) ms l k q in
        let c = (link_fits' g ground.wired w holds v p at).tests.not_probing ne in
        let d = c.crossed (omega (arith, ap length t)) in
        let a : AllFrom (w.at v).head.level (w.at v).head.name ((l, k) ∷ (see ms).tests) =
        subst (AllFrom (w.at v).head.level (w.at v).head.name) t d.from in
        let same = a.0 in
        let lt = h.1 in
        omega (arith, same, lt))
        (probe_is (w.at (far g v p)).head.probe (far_port g v p))
    none_first (Connect l) ms q h =
        ⊎_elim
        (λ b. (connect_comes g ground.wired w holds v p at b unmarked).apart (here ∙ sym (whole v p at here)))
        (λ b.
        let z : Connect l ∷ (see ms).tree ≡ [] =
        sym (tree_first (n.queue v p) ms (Connect l) refl q) ∙ (link_fits g ground.wired w holds v p at).tree.silent unmarked b in
        cc)
        (mark_is ((w.at (far g v p)).mark (far_port g v p)))
      where
        unmarked : (w.at v).mark p ≢ Branch
        unmarked z = let y : Branch ≡ Basic = sym z ∙ h.2 in cc
    none_first (Initiate l k s) ms q h = elim h [ ]
    none_first ChangeRoot ms q h = elim h [ ]
    none_first Accept ms q h = elim h [ ]
    none_first Reject ms q h = elim h [ ]

module _ (g : Shape) (w : Net) (n : IsNetOf g w) (S : ℕ → Bool)
    (closed : (v p : ℕ) → At (network_of g) v p → S v ≡ true → S (far (network_of g) v p) ≡ true)
    (v p : ℕ) (at : At (network_of g) v p) (m : S v ≡ true) (some : w.queue v p ≢ []) where
  v_is : InNetwork (network_of g) v
  v_is = record { some = at.some; node = at.node }

  -- each message of S waits
  module _ (all : (t q : ℕ) → At (network_of g) t q → S t ≡ true → AllOf (node_waits (w.node t) q) (w.queue t q)) where
    -- a node that has halted is in the component
    ended : (x : Message) (xs : List Message) → w.queue v p ≡ x ∷ xs → node_waits (w.node v) p x → (u : ℕ) → Leads (network_of g) AnyLink v u →
        (w.node u).head.halted ≡ true → ⊥
    ended x xs e waits u way halted =
        none_first (network_of g) (graph_ground g n.graph) w (sound g w n).ghost (sound g w n).holds.first
        (net_lives g w n (sound g w n).ghost (sound g w n).holds.lives) ((sound g w n).ghost.fragment u) whole waiting v p at
        (leads_back (network_of g) (graph_ground g n.graph) w (sound g w n).ghost (sound g w n).holds.first
        (net_lives g w n (sound g w n).ghost (sound g w n).holds.lives) ((sound g w n).ghost.fragment u) whole waiting way refl)
        x xs e waits
      where
        u_is : InNetwork (network_of g) u
        u_is = leads_inside (network_of g) (graph_wired g n.graph) way v_is

        whole : (t q : ℕ) → At (network_of g) t q → (sound g w n).ghost.fragment t ≡ (sound g w n).ghost.fragment u →
            (sound g w n).ghost.fragment (far (network_of g) t q) ≡ (sound g w n).ghost.fragment u
        whole t q at' same = (sound g w n).holds.floors.halted u t q u_is halted at' same

        waiting : (t q : ℕ) → At (network_of g) t q → (sound g w n).ghost.fragment t ≡ (sound g w n).ghost.fragment u →
            AllOf (node_waits (w.node t) q) (w.queue t q)
        waiting t q at' same =
            all t q at'
            (leads_on (network_of g) S closed
            ((sound g w n).holds.first.trees.connected u t u_is (record { some = at'.some; node = at'.node }) (sym same))
            (leads_on (network_of g) S closed way m))

    all_wait : GoesOn (network_of g) w S
    all_wait = go (w.queue v p) refl (all v p at m)
      where
        go : (q : List Message) → w.queue v p ≡ q → AllOf (node_waits (w.node v) p) q → GoesOn (network_of g) w S
        go [] e a = absurd (some e)
        go (x ∷ xs) e a =
            ⊎_elim
            (λ o.
            let z = no_run_is_stuck g w n (component g n.graph v) (unended g n.graph w v at.some at.node o) in
            record {
              node = z.node;
              port = z.port;
              at = z.at;
              member = leads_on (network_of g) S closed (comes g n.graph v z.node z.member) m;
              before = z.before;
              message = z.message;
              behind = z.behind;
              queue = z.queue;
              waiting = z.waiting;
              few = z.few;
              goes = z.goes;
            })
            (λ h. let u = h (waits_awake (w.node v) p x (so (w.node v) p x a.0)) in absurd (ended x xs e a.0 u.0 u.1 u.2))
            (test g n.graph w v)

  goes_on : GoesOn (network_of g) w S
  goes_on =
      ⊎_elim (found_goes (network_of g) (graph_ground g n.graph) w (sound g w n).ghost (sound g w n).holds.first S) all_wait (look (network_of g) w S)

pub no_message_is_stuck : NoMessageIsStuck
no_message_is_stuck g w n S closed v p at m some = goes_on g w n S closed v p at m some
