-- What is under way for a probe, as messages of a queue; and how much a node that probes owes at most.
use Rattle.std.proofs.Common.{◌≡◌, ◌≢◌, ◌⊎◌, inl, inr, ℕ, suc, ◌+◌, ◌*◌, ◌<◌, ◌≤◌, ◌==◌, Bool, true, false, Option, Some, None, List, [], ◌∷◌, ◌++◌, length, refl, sym, ◌∙◌, ap, subst, ⊎_elim, arith, eq-eqb, ne_eqb, if◌then◌else◌}
use Rattle.std.proofs.lemmas.Bool.{cases_eq}
use Rattle.std.proofs.lemmas.Option.{same_Some}
use Rattle.ghs_graph.specs.Bound.{IsFloorLog2}
use Rattle.ghs_graph.specs.declared.key.Key.{Key}
use Rattle.ghs_graph.specs.Graph.{Shape}
use Rattle.ghs_node.specs.declared.mark.Mark.{Mark}
use Rattle.ghs_node.specs.declared.mark.Mark.TheVariants.{Basic, Branch, Rejected}
use Rattle.ghs_node.specs.declared.message.Message.{Message}
use Rattle.ghs_node.specs.declared.message.Message.TheVariants.{Connect, Initiate, Test, Accept, Reject, Report, ChangeRoot}
use Rattle.ghs_node.specs.declared.message.Phase.TheVariants.{Sleeping, Find}
use Rattle.ghs_node.specs.NodeState.{NodeState, degree, mark_at}
use Rattle.ghs_node.specs.Reaction.{after}
use Rattle.peer_network.specs.Network.{Network, network_of, At, InNetwork, far, far_port}
use Rattle.peer_network.proofs.lemmas.Graphs.{graph_few, graph_wired}
use Rattle.peer_network.proofs.lemmas.Sums.{sum_less}
use Rattle.peer_network.proofs.lemmas.Wired.{IsWired}
use Rattle.ghs_protocol.specs.Laws.{IsNetOf}
use Rattle.ghs_protocol.specs.Ledger.{of_kind}
use Rattle.ghs_protocol.specs.Net.{Net}
use Rattle.ghs_protocol.specs.Steps.{Step, Takes_one, Wakes_up, reacted, taken, waking}
use Rattle.ghs_protocol.proofs.acts.AsRead.{see_first}
use Rattle.ghs_protocol.proofs.acts.OneLink.{at_far}
use Rattle.ghs_protocol.proofs.acts.Situations.{probing_finds}
use Rattle.ghs_protocol.proofs.charges.Waiting.{level_most}
use Rattle.ghs_protocol.proofs.clauses.Floors.{HasSound}
use Rattle.ghs_protocol.proofs.clauses.Nodes.{NodeFits}
use Rattle.ghs_protocol.proofs.clauses.Scene.{Seen, add, end, far_end, scene, see, test_end, unseen}
use Rattle.ghs_protocol.proofs.clauses.Tests.{AllFrom, TestsFit}
use Rattle.ghs_protocol.proofs.clauses.UnderWay.{Accept_here, Answering, Crossed_here, Reject_here, Test_there}
use Rattle.ghs_protocol.proofs.clauses.Whole.{LinkFits, NamesOf}
use Rattle.ghs_protocol.proofs.every_run.Foreseen.{sum_lacks}
use Rattle.ghs_protocol.proofs.every_run.Sound.{sound}
use Rattle.ghs_protocol.proofs.lemmas.Nodes.{ports_many}
use Rattle.ghs_protocol.proofs.lemmas.Sends.{node_here, node_there}
use Rattle.ghs_protocol.proofs.lemmas.Effects.{taken_here, taken_there}
use Rattle.ghs_protocol.proofs.lemmas.WellFormed.{IsWellFormed, after_formed}
use Rattle.ghs_protocol.proofs.progress.Bills.{one_of, other_basic}
use Rattle.ghs_protocol.proofs.progress.Hears.{IsAnswer, IsTestBy, row_probes}
use Rattle.ghs_protocol.proofs.progress.LinkBills.{any_most, asked, bill}
use Rattle.ghs_protocol.proofs.rows.Link.{link_fits}

-- a message of the queue is such
abbrev pub Has : (Message → Type 0) → List Message → Type 0
Has P [] = ⊥
Has P (m ∷ ms) = P m ⊎ Has P ms

-- what is read of a queue that has a message more, the first
tests_first : (m : Message) (ms : List Message) → (see (m ∷ ms)).tests ≡ (add unseen m).tests ++ (see ms).tests
tests_first m ms = ap (λ (s : Seen). s.tests) (see_first m ms)

accepts_first : (m : Message) (ms : List Message) → (see (m ∷ ms)).accepts ≡ (see ms).accepts + (add unseen m).accepts
accepts_first m ms = ap (λ (s : Seen). s.accepts) (see_first m ms)

rejects_first : (m : Message) (ms : List Message) → (see (m ∷ ms)).rejects ≡ (see ms).rejects + (add unseen m).rejects
rejects_first m ms = ap (λ (s : Seen). s.rejects) (see_first m ms)

-- how many Tests
pub tests_seen : (ms : List Message) → length (see ms).tests ≡ of_kind 2 ms
tests_seen [] = refl
tests_seen (Connect l ∷ ms) = let a = ap length (tests_first (Connect l) ms) in let b = tests_seen ms in omega (arith, a, b)
tests_seen (Initiate l f s ∷ ms) = let a = ap length (tests_first (Initiate l f s) ms) in let b = tests_seen ms in omega (arith, a, b)
tests_seen (Test l f ∷ ms) = let a = ap length (tests_first (Test l f) ms) in let b = tests_seen ms in omega (arith, a, b)
tests_seen (Accept ∷ ms) = let a = ap length (tests_first Accept ms) in let b = tests_seen ms in omega (arith, a, b)
tests_seen (Reject ∷ ms) = let a = ap length (tests_first Reject ms) in let b = tests_seen ms in omega (arith, a, b)
tests_seen (Report k ∷ ms) = let a = ap length (tests_first (Report k) ms) in let b = tests_seen ms in omega (arith, a, b)
tests_seen (ChangeRoot ∷ ms) = let a = ap length (tests_first ChangeRoot ms) in let b = tests_seen ms in omega (arith, a, b)

module _ (P : Message → Type 0) where
  -- an Accept, a Reject
  has_accept : P Accept → (ms : List Message) → 1 ≤ (see ms).accepts → Has P ms
  has_accept h [] le = absurd (omega (arith, le))
  has_accept h (Connect l ∷ ms) le = let a = accepts_first (Connect l) ms in inr (has_accept h ms (omega (arith, a, le)))
  has_accept h (Initiate l f s ∷ ms) le = let a = accepts_first (Initiate l f s) ms in inr (has_accept h ms (omega (arith, a, le)))
  has_accept h (Test l f ∷ ms) le = let a = accepts_first (Test l f) ms in inr (has_accept h ms (omega (arith, a, le)))
  has_accept h (Accept ∷ ms) le = inl h
  has_accept h (Reject ∷ ms) le = let a = accepts_first Reject ms in inr (has_accept h ms (omega (arith, a, le)))
  has_accept h (Report k ∷ ms) le = let a = accepts_first (Report k) ms in inr (has_accept h ms (omega (arith, a, le)))
  has_accept h (ChangeRoot ∷ ms) le = let a = accepts_first ChangeRoot ms in inr (has_accept h ms (omega (arith, a, le)))

  has_reject : P Reject → (ms : List Message) → 1 ≤ (see ms).rejects → Has P ms
  has_reject h [] le = absurd (omega (arith, le))
  has_reject h (Connect l ∷ ms) le = let a = rejects_first (Connect l) ms in inr (has_reject h ms (omega (arith, a, le)))
  has_reject h (Initiate l f s ∷ ms) le = let a = rejects_first (Initiate l f s) ms in inr (has_reject h ms (omega (arith, a, le)))
  has_reject h (Test l f ∷ ms) le = let a = rejects_first (Test l f) ms in inr (has_reject h ms (omega (arith, a, le)))
  has_reject h (Accept ∷ ms) le = let a = rejects_first Accept ms in inr (has_reject h ms (omega (arith, a, le)))
  has_reject h (Reject ∷ ms) le = inl h
  has_reject h (Report k ∷ ms) le = let a = rejects_first (Report k) ms in inr (has_reject h ms (omega (arith, a, le)))
  has_reject h (ChangeRoot ∷ ms) le = let a = rejects_first ChangeRoot ms in inr (has_reject h ms (omega (arith, a, le)))

  -- a Test of this level and name
  module _ (l : ℕ) (n : Option Key) (so : (f : Key) → n ≡ Some f → P (Test l f)) where
    has_test : (ms : List Message) → 1 ≤ length (see ms).tests → AllFrom l n (see ms).tests → Has P ms
    has_test [] le from = absurd (omega (arith, le))
    has_test (Connect k ∷ ms) le from =
        let e = tests_first (Connect k) ms in inr (has_test ms (let z = ap length e in omega (arith, le, z)) (subst (AllFrom l n) e from))
    has_test (Initiate k f s ∷ ms) le from =
        let e = tests_first (Initiate k f s) ms in inr (has_test ms (let z = ap length e in omega (arith, le, z)) (subst (AllFrom l n) e from))
    has_test (Test k f ∷ ms) le from =
        let z : AllFrom l n ((k, f) ∷ (see ms).tests) = subst (AllFrom l n) (tests_first (Test k f) ms) from in
        inl (subst (λ y. P (Test y f)) (sym z.0) (so f z.1))
    has_test (Accept ∷ ms) le from =
        let e = tests_first Accept ms in inr (has_test ms (let z = ap length e in omega (arith, le, z)) (subst (AllFrom l n) e from))
    has_test (Reject ∷ ms) le from =
        let e = tests_first Reject ms in inr (has_test ms (let z = ap length e in omega (arith, le, z)) (subst (AllFrom l n) e from))
    has_test (Report k ∷ ms) le from =
        let e = tests_first (Report k) ms in inr (has_test ms (let z = ap length e in omega (arith, le, z)) (subst (AllFrom l n) e from))
    has_test (ChangeRoot ∷ ms) le from =
        let e = tests_first ChangeRoot ms in inr (has_test ms (let z = ap length e in omega (arith, le, z)) (subst (AllFrom l n) e from))

-- the probe isn't the way to the core
abbrev pub ProbesAside : NodeState → Type 0
ProbesAside n = (p : ℕ) → n.head.probe ≡ Some p → n.head.in_branch ≡ Some p → ⊥

module _ (g : Network) (wired : IsWired g) where
  -- who searches has its way to the core over a Branch, and no Basic port is that way
  basic_aside : (w : Net) → HasSound g w → IsWellFormed g w → (v p : ℕ) → InNetwork g v → (w.node v).head.probe ≡ Some p → mark_at
      (w.node v) p ≡ Basic →
      (w.node v).head.in_branch ≡ Some p → ⊥
  basic_aside w s f v p is probe basic way =
      let fits = s.holds.first.nodes v is in
      let finds = probing_finds fits probe in
      let at_top = fits.searching finds in
      let port = fits.own_ports.probe p probe in
      let up = fits.points (λ e. cc (e, finds)) (omega (arith, port)) in
      let same : up.port ≡ p = same_Some up.port p (sym up.up ∙ at_top.up ∙ sym at_top.in_branch ∙ way) in
      let z : Basic ≡ Branch = sym basic ∙ ap (λ q. mark_at (w.node v) q) (sym same) ∙ up.mark in
      cc

  abbrev pub Aside : Net → Type 0
  Aside w = HasSound g w × ((v : ℕ) → InNetwork g v → ProbesAside (w.node v))

  module _ (keeps : (w x : Net) → IsWellFormed g w → HasSound g w → Step g w x → HasSound g x)
      (formed_next : (w x : Net) → IsWellFormed g w → Step g w x → IsWellFormed g x) where
    pub step_aside : (w x : Net) → IsWellFormed g w → Aside w → Step g w x → Aside x
    step_aside w _ f i (Wakes_up u lo hi s) = (keeps w _ f i.0 (Wakes_up u lo hi s), aside)
      where
        x : Net
        x = reacted g u (waking (w.node u)) w

        none : (k : List Mark) → (n : NodeState) → n.marks ≡ k → n.head.phase ≡ Sleeping → (after n (waking n)).head.phase ≢ Find
        none [] n e s = rw e (λ z. cc)
        none (m ∷ k) n e s = rw e (λ z. cc)

        aside : (v : ℕ) → InNetwork g v → ProbesAside (x.node v)
        aside v is p probe way = ⊎_elim
            (λ (e : v ≡ u).
            let finds = probing_finds ((keeps w _ f i.0 (Wakes_up u lo hi s)).holds.first.nodes v is) probe in
            none (w.node u).marks (w.node u) refl s
            (ap (λ (n : NodeState). n.head.phase) (sym (node_here g u (waking (w.node u)) w)) ∙ ap (λ y. (x.node y).head.phase) (sym e) ∙ finds))
            (λ ne.
            let same = node_there g u (waking (w.node u)) w v ne in
            i.1 v is p (ap (λ (n : NodeState). n.head.probe) (sym same) ∙ probe) (ap (λ (n : NodeState). n.head.in_branch) (sym same) ∙ way))
            (cases_eq v u)
    step_aside w _ f i (Takes_one u j m ms d at q up row) = (s', aside)
      where
        x : Net
        x = taken g u j m ms d w

        s' : HasSound g (taken g u j m ms d w)
        s' = keeps w _ f i.0 (Takes_one u j m ms d at q up row)

        f' : IsWellFormed g (taken g u j m ms d w)
        f' = formed_next w _ f (Takes_one u j m ms d at q up row)

        is_u : InNetwork g u
        is_u = record { some = at.some; node = at.node }

        here : (taken g u j m ms d w).node u ≡ after (w.node u) d
        here = taken_here g u j m ms d w

        lt : j < degree (w.node u)
        lt = let a = ports_many (f.nodes u) in let b = at.port in omega (arith, a, b)

        at_u : ProbesAside ((taken g u j m ms d w).node u)
        at_u p probe way =
            let finds = probing_finds (s'.holds.first.nodes u is_u) probe in
            ⊎_elim
            (λ basic. basic_aside (taken g u j m ms d w) s' f' u p is_u probe (ap (λ (n : NodeState). mark_at n p) here ∙ basic) way)
            (λ old. i.1 u is_u p old.0 (sym old.1 ∙ ap (λ (n : NodeState). n.head.in_branch) (sym here) ∙ way))
            (row_probes (w.node u) j m d lt row (ap (λ (n : NodeState). n.head.phase) (sym here) ∙ finds) p
            (ap (λ (n : NodeState). n.head.probe) (sym here) ∙ probe))

        aside : (v : ℕ) → InNetwork g v → ProbesAside ((taken g u j m ms d w).node v)
        aside v is = ⊎_elim
            (λ (e : v ≡ u). subst (λ y. ProbesAside ((taken g u j m ms d w).node y)) (sym e) at_u)
            (λ ne. subst ProbesAside (sym (taken_there g u j m ms d w v ne)) (i.1 v is))
            (cases_eq v u)

module _ (g : Shape) (w : Net) (n : IsNetOf g w) where
  abbrev G : Network
  G = network_of g

  wired : IsWired (network_of g)
  wired = graph_wired g n.graph

  pub net_formed : IsWellFormed (network_of g) w
  net_formed = after_formed (network_of g) (graph_wired g n.graph) (graph_few g n.graph) n.events w n.run

  fits : (v : ℕ) → InNetwork (network_of g) v → NodeFits (length ((network_of g).ports v)) ((scene w (sound g w n).ghost).at v)
  fits v is = (sound g w n).holds.first.nodes v is

  -- levels are at most the floor of log2 of the nodes
  pub level_few : (k : ℕ) → IsFloorLog2 g.nodes k → (v : ℕ) → InNetwork (network_of g) v → (w.node v).head.level ≤ k
  level_few k log v is = level_most (network_of g) (graph_wired g n.graph) k log w (sound g w n).ghost (sound g w n).holds.first v is

  module _ (v p : ℕ) (is : InNetwork (network_of g) v) (probe : (w.node v).head.probe ≡ Some p) where
    pub probe_at : At (network_of g) v p
    probe_at = record { some = is.some; node = is.node; port = (fits v is).own_ports.probe p probe }

    -- who probes has a level
    pub probe_level : 1 ≤ (w.node v).head.level
    probe_level =
        let f = fits v is in
        let top = f.searching (probing_finds f probe) in
        ⊎_elim
        (λ (z : (w.node v).head.level ≡ 0). absurd (let a = f.naming.in_branch z in let b = top.in_branch in
        let c : None ≡ Some top.port = sym a ∙ b in cc))
        (λ ne. omega (arith, ne))
        (cases_eq (w.node v).head.level 0)

    tests_fit : TestsFit (test_end (end (network_of g) (scene w (sound g w n).ghost) v p))
        (test_end (far_end (network_of g) (scene w (sound g w n).ghost) v p))
    tests_fit = (link_fits (network_of g) (graph_wired g n.graph) (scene w (sound g w n).ghost) (sound g w n).holds.first v p probe_at).tests

    -- one Test of its at most is under way
    pub asked_one : asked (network_of g) w v p ≤ 1
    asked_one =
        let one = (tests_fit.probing probe).one in
        let e = tests_seen (w.queue (far (network_of g) v p) (far_port (network_of g) v p)) in
        omega (arith, one, e)

    -- At the far end, of no lower level, stands its Test; or what answers it is here.
    module _ (low : (w.node v).head.level ≤ (w.node (far (network_of g) v p)).head.level) where
      abbrev Awaited : Type 0
      Awaited =
          Has (IsTestBy (w.node (far (network_of g) v p)).head.level) (w.queue (far (network_of g) v p) (far_port (network_of g) v p)) ⊎
          Has (IsAnswer (w.node v).head) (w.queue v p)

      pub awaited : Awaited
      awaited = go ((sound g w n).holds.lives.asks v p probe_at probe)
        where
          go : Answering (see (w.queue (far (network_of g) v p) (far_port (network_of g) v p))).tests (see (w.queue v p)).accepts
              (see (w.queue v p)).rejects
              (see (w.queue v p)).tests (w.node (far (network_of g) v p)).head.probe (far_port (network_of g) v p) → Awaited
          go (Test_there le) =
              inl (has_test (IsTestBy (w.node (far (network_of g) v p)).head.level) (w.node v).head.level (w.node v).head.name (λ f e. low)
              (w.queue (far (network_of g) v p) (far_port (network_of g) v p)) le (tests_fit.probing probe).from)
          go (Accept_here le) = inr (has_accept (IsAnswer (w.node v).head) tt (w.queue v p) le)
          go (Reject_here le) = inr (has_reject (IsAnswer (w.node v).head) tt (w.queue v p) le)
          go (Crossed_here le ne) =
              let c =
              ((at_far (network_of g) (graph_wired g n.graph) (scene w (sound g w n).ghost)
              (LinkFits (NamesOf (network_of g) (scene w (sound g w n).ghost)))
              (sound g w n).holds.first.links v p probe_at).tests.not_probing ne).crossed le in
              inr (has_test (IsAnswer (w.node v).head) (w.node v).head.level (w.node v).head.name (λ f e. (refl, e)) (w.queue v p) le c.from)

    -- It owes no more than twice the ports but one.
    module _ (aside : ProbesAside (w.node v)) (b : ℕ) (ports : degree (w.node v) ≤ suc b) where
      abbrev besides : ℕ → ℕ
      besides i = if i == p then 0 else 1

      besides_most : (i : ℕ) → besides i ≤ 1
      besides_most i = go (i == p)
        where
          go : (c : Bool) → (if c then 0 else 1) ≤ 1
          go true = omega arith
          go false = omega arith

      basic_besides : (i : ℕ) → other_basic (w.node v) p i ≤ besides i
      basic_besides i = go (mark_at (w.node v) i) (i == p)
        where
          go : (m : Mark) (c : Bool) → one_of m c ≤ (if c then 0 else 1)
          go Basic true = omega arith
          go Basic false = omega arith
          go Branch true = omega arith
          go Branch false = omega arith
          go Rejected true = omega arith
          go Rejected false = omega arith

      pub bill_few : bill (network_of g) w v p ≤ 2 * b
      bill_few =
          let f = fits v is in
          let top = f.searching (probing_finds f probe) in
          let finds = probing_finds f probe in
          let many = ports_many (net_formed.nodes v) in
          let own = f.own_ports.probe p probe in
          let up = f.points (λ e. cc (e, finds)) (omega (arith, own)) in
          let ne : up.port ≢ p = λ e. aside p probe (top.in_branch ∙ sym top.up ∙ up.up ∙ ap Some e) in
          let within = up.within in
          let no_basic : other_basic (w.node v) p up.port ≡ 0 = ap (λ m. one_of m (up.port == p)) up.mark in
          let one : besides up.port ≡ 1 = ap (λ c. if c then 0 else 1) (ne_false up.port ne) in
          let none : besides p ≡ 0 = ap (λ c. if c then 0 else 1) (eq-eqb p p refl) in
          let less = sum_less (degree (w.node v)) up.port (other_basic (w.node v) p) besides (omega (arith, within, many)) (λ i lt. basic_besides i)
          (omega (arith, no_basic, one)) in
          let lacks = sum_lacks (degree (w.node v)) p besides (omega (arith, own, many)) besides_most none in
          let most = any_most (asked (network_of g) w v p) in
          omega (arith, less, lacks, most, ports)
        where
          ne_false : (i : ℕ) → i ≢ p → (i == p) ≡ false
          ne_false i ne = ne_eqb i p ne
