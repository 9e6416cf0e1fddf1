-- In a net in which all of a set are awake and none has halted, a tree message goes, or somebody of the least level probes.
use Rattle.std.proofs.Common.{◌≡◌, ℕ, zero, suc, ◌<◌, Bool, true, false, Option, Some, None, List, [], ◌∷◌, length, refl, sym, ◌∙◌, ⊎_elim, ◌⊎◌, inl, inr, arith}
use Rattle.std.specs.Prelude.{⊤}
use Rattle.std.proofs.lemmas.Bool.{cases_eq, cases_Bool}
use Rattle.ghs_node.specs.declared.message.Message.{Message}
use Rattle.ghs_node.specs.declared.message.Message.TheVariants.{Connect, Initiate, Test, Accept, Reject, Report, ChangeRoot}
use Rattle.ghs_node.specs.NodeState.{NodeState}
use Rattle.peer_network.specs.Network.{Network, network_of, At, InNetwork}
use Rattle.peer_network.proofs.lemmas.Graphs.{graph_wired}
use Rattle.ghs_protocol.specs.Net.{Net}
use Rattle.ghs_protocol.specs.Living.{Waits}
use Rattle.ghs_protocol.specs.Time.{A_probe, A_tree_message, GoesAtLeast, IsLeast, SomethingGoesAtLeast, is_tree}
use Rattle.ghs_protocol.proofs.acts.Grounds.{graph_ground}
use Rattle.ghs_protocol.proofs.clauses.Scene.{Member, Seen, Ghost, scene, add, adds, see, unseen}
use Rattle.ghs_protocol.proofs.clauses.Wiring.{Ground}
use Rattle.ghs_protocol.proofs.clauses.Whole.{Invariant}
use Rattle.ghs_protocol.proofs.clauses.UnderWay.{Living}
use Rattle.ghs_protocol.proofs.every_run.Sound.{sound}
use Rattle.ghs_protocol.proofs.progress.Awaits.{net_lives}
use Rattle.ghs_protocol.proofs.progress.BothBegun.{tree_waits, AllOf}
use Rattle.ghs_protocol.proofs.progress.Found.{Split, node_waits, search, split, tree_end, waits_is}
use Rattle.ghs_protocol.proofs.progress.Least.{none_least}
use Rattle.ghs_protocol.proofs.progress.Nets.{back}
use Rattle.ghs_protocol.proofs.progress.Runs.{goes_over_least}
use Rattle.ghs_protocol.proofs.progress.Scenes.{ConnectsLeast}

-- a tree message waits; of Tests and answers nothing is said
abbrev pub calm : NodeState → ℕ → Message → Type 0
calm n p (Connect l) = node_waits n p (Connect l)
calm n p (Report k) = node_waits n p (Report k)
calm n p (Initiate l f s) = Prim.⊥
calm n p ChangeRoot = Prim.⊥
calm n p (Test l f) = ⊤
calm n p Accept = ⊤
calm n p Reject = ⊤

calm_is : (n : NodeState) (p : ℕ) (x : Message) → (calm n p x) ⊎ (calm n p x → ⊥)
calm_is n p (Connect l) = waits_is n p (Connect l)
calm_is n p (Report k) = waits_is n p (Report k)
calm_is n p (Initiate l f s) = inr (λ h. elim h [ ])
calm_is n p ChangeRoot = inr (λ h. elim h [ ])
calm_is n p (Test l f) = inl tt
calm_is n p Accept = inl tt
calm_is n p Reject = inl tt

module _ (w : Net) (gh : Ghost) (v p : ℕ) where
  abbrev m : Member
  m = (scene w gh).at v

  more : (q : Seen) (x : Message) → AllOf (tree_waits m p) q.tree → calm (w.node v) p x → AllOf (tree_waits m p) (add q x).tree
  more q (Connect l) a h = tree_end (tree_waits m p) q.tree (Connect l) a h
  more q (Report k) a h = tree_end (tree_waits m p) q.tree (Report k) a h
  more q (Test l f) a h = a
  more q (Initiate l f s) a h = elim h [ ]
  more q ChangeRoot a h = elim h [ ]
  more q Accept a h = a
  more q Reject a h = a

  all_more : (ms : List Message) (q : Seen) → AllOf (tree_waits m p) q.tree → AllOf (calm (w.node v) p) ms → AllOf (tree_waits m p) (adds q ms).tree
  all_more [] q a h = a
  all_more (x ∷ ms) q a h = all_more ms (add q x) (more q x a h.0) h.1

  trees_calm : AllOf (calm (w.node v) p) (w.queue v p) → AllOf (tree_waits m p) (see (w.queue v p)).tree
  trees_calm h = all_more (w.queue v p) unseen tt h

-- what isn't calm is a tree message that doesn't wait
not_calm : (n : NodeState) (p : ℕ) (x : Message) → (calm n p x → ⊥) → (is_tree x ≡ true) × (Waits n p x → ⊥)
not_calm n p (Connect l) h = (refl, (λ z. h (back n p (Connect l) z)))
not_calm n p (Report k) h = (refl, (λ z. h (back n p (Report k) z)))
not_calm n p (Initiate l f s) h = (refl, (λ z. elim (back n p (Initiate l f s) z) [ ]))
not_calm n p ChangeRoot h = (refl, (λ z. elim (back n p ChangeRoot z) [ ]))
not_calm n p (Test l f) h = absurd (h tt)
not_calm n p Accept h = absurd (h tt)
not_calm n p Reject h = absurd (h tt)

module _ (g : Network) (w : Net) (S : ℕ → Bool) where
  record Here (v p : ℕ) : Type 0 where
    pub at : At g v p
    pub member : S v ≡ true
    pub place : Split (calm (w.node v) p) (w.queue v p)

  abbrev AllCalm : ℕ → Type 0
  AllCalm v = (p : ℕ) → At g v p → S v ≡ true → AllOf (calm (w.node v) p) (w.queue v p)

  at_node : (v : ℕ) → InNetwork g v → ((p : ℕ) × Here v p) ⊎ AllCalm v
  at_node v is =
      ⊎_elim
      (λ m. ⊎_elim (λ h. inl (h.0, h.2)) (λ h. inr (λ p at y. h p at.port))
      (search (λ p. Here v p) (λ p. AllOf (calm (w.node v) p) (w.queue v p)) (length (g.ports v))
      (λ p lt. ⊎_elim (λ a. inr a)
      (λ s. inl (record { at = record { some = is.some; node = is.node; port = lt }; member = m; place = s }))
      (split (calm (w.node v) p) (calm_is (w.node v) p) (w.queue v p)))))
      (λ n. inr (λ p at m. let z : true ≡ false = sym m ∙ n in cc))
      (cases_Bool (S v))

  look : ((v : ℕ) × (p : ℕ) × Here v p) ⊎ ((v p : ℕ) → At g v p → S v ≡ true → AllOf (calm (w.node v) p) (w.queue v p))
  look =
      ⊎_elim
      (λ h. inl (suc h.0, h.2.0, h.2.1))
      (λ h. inr (λ v p at m. all h v p at m))
      (search (λ i. (p : ℕ) × Here (suc i) p) (λ i. AllCalm (suc i)) g.count
      (λ i lt. at_node (suc i) (record { some = omega arith; node = omega (arith, lt) })))
    where
      all : ((i : ℕ) → i < g.count → AllCalm (suc i)) → (v p : ℕ) → At g v p → S v ≡ true → AllOf (calm (w.node v) p) (w.queue v p)
      all h zero p at m = absurd (let z = at.some in omega (arith, z))
      all h (suc i) p at m = h i (let z = at.node in omega (arith, z)) p at m

  -- somebody of a level who probes
  record Prober (l v : ℕ) : Type 0 where
    pub port : ℕ
    pub is : InNetwork g v
    pub member : S v ≡ true
    pub level : (w.node v).head.level ≡ l
    pub probe : (w.node v).head.probe ≡ Some port

  abbrev NoProber : ℕ → ℕ → Type 0
  NoProber l v = (p : ℕ) → InNetwork g v → S v ≡ true → (w.node v).head.level ≡ l → (w.node v).head.probe ≡ Some p → ⊥

  prober_at : (l v : ℕ) → InNetwork g v → Prober l v ⊎ NoProber l v
  prober_at l v is =
      ⊎_elim
      (λ m. ⊎_elim (λ e. by_probe m e (w.node v).head.probe refl) (λ ne. inr (λ p i m e h. ne e)) (cases_eq (w.node v).head.level l))
      (λ n. inr (λ p i m e h. let z : true ≡ false = sym m ∙ n in cc))
      (cases_Bool (S v))
    where
      by_probe : S v ≡ true → (w.node v).head.level ≡ l → (o : Option ℕ) → (w.node v).head.probe ≡ o → Prober l v ⊎ NoProber l v
      by_probe m e None h = inr (λ p i m' e' h'. let z : None ≡ Some p = sym h ∙ h' in cc)
      by_probe m e (Some p) h = inl (record { port = p; is = is; member = m; level = e; probe = h })

  probers : (l : ℕ) → ((v : ℕ) × Prober l v) ⊎ ((v p : ℕ) → InNetwork g v → S v ≡ true → (w.node v).head.level ≡ l →
      (w.node v).head.probe ≡ Some p → ⊥)
  probers l =
      ⊎_elim
      (λ h. inl (suc h.0, h.2))
      (λ h. inr (λ v p is m e k. all h v p is m e k))
      (search (λ i. Prober l (suc i)) (λ i. NoProber l (suc i)) g.count
      (λ i lt. prober_at l (suc i) (record { some = omega arith; node = omega (arith, lt) })))
    where
      all : ((i : ℕ) → i < g.count → NoProber l (suc i)) → (v p : ℕ) → InNetwork g v → S v ≡ true → (w.node v).head.level ≡ l →
          (w.node v).head.probe ≡ Some p → ⊥
      all h zero p is m e k = let z = is.some in omega (arith, z)
      all h (suc i) p is m e k = h i (let z = is.node in omega (arith, z)) p is m e k

module _ (g : Network) (ground : Ground g) (w : Net) (gh : Ghost) (holds : Invariant g (scene w gh)) (lives : Living g (scene w gh))
    (S : ℕ → Bool) (l : ℕ) (least : IsLeast g w S l) where
  scene_moves : ConnectsLeast g (scene w gh) → GoesAtLeast g w S l
  scene_moves over =
      ⊎_elim
      (λ h.
      let s = h.2.place in
      let t = not_calm (w.node h.0) h.1 s.message s.goes in
      A_tree_message h.0 h.1 s.before s.message s.behind h.2.at h.2.member s.whole t.0 t.1)
      (λ calms. ⊎_elim
      (λ h. let k = h.1 in A_probe h.0 k.port k.is k.member k.level k.probe)
      (λ none. absurd (none_least g ground (scene w gh) holds lives S least.closed
      (λ v p at m. trees_calm w gh v p (calms v p at m))
      (λ v is m. least.none_halted v is m) least.awake l least.node least.is least.member least.level least.low none over))
      (probers g w S l))
      (look g w S)

-- in a net of a run
pub something_goes_at_least : SomethingGoesAtLeast
something_goes_at_least g w n S l least =
    let s = sound g w n in
    scene_moves (network_of g) (graph_ground g n.graph) w s.ghost s.holds.first (net_lives g w n s.ghost s.holds.lives) S l least
    (goes_over_least (network_of g) (graph_wired g n.graph) (scene w s.ghost) s.holds.first s.holds.floor s.holds.floors)
