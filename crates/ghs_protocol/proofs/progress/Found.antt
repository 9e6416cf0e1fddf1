-- In a net that is not stuck, a message that doesn't wait is found.
use Rattle.std.proofs.Common.{◌≡◌, ◌≢◌, ℕ, zero, suc, ◌<◌, ◌≤◌, Bool, true, false, Some, List, [], ◌∷◌, ◌++◌, length, refl, sym, ◌∙◌, ap, subst, ⊎_elim, ◌⊎◌, inl, inr, arith}
use Rattle.std.proofs.lemmas.Bool.{cases_lt, cases_Bool}
use Rattle.ghs_graph.specs.declared.key.Key.{Key}
use Rattle.ghs_node.specs.declared.mark.Mark.{Mark}
use Rattle.ghs_node.specs.declared.mark.Mark.TheVariants.{Basic, Branch, Rejected}
use Rattle.ghs_node.specs.declared.message.Phase.TheVariants.{Sleeping, Find}
use Rattle.ghs_node.specs.declared.message.Message.{Message}
use Rattle.ghs_node.specs.declared.message.Message.TheVariants.{Connect, Initiate, Test, Accept, Reject, Report, ChangeRoot}
use Rattle.ghs_node.specs.NodeState.{NodeState, mark_at}
use Rattle.peer_network.specs.Network.{Network, At, InNetwork}
use Rattle.ghs_protocol.specs.Net.{Net}
use Rattle.ghs_protocol.proofs.clauses.Scene.{Member, Seen, Ghost, scene, add, adds, see, unseen}
use Rattle.ghs_protocol.proofs.clauses.Wiring.{Ground}
use Rattle.ghs_protocol.proofs.clauses.Whole.{Invariant}
use Rattle.ghs_protocol.specs.Living.{Unended}
use Rattle.ghs_protocol.proofs.clauses.UnderWay.{Living}
use Rattle.ghs_protocol.proofs.tests.Links.{probe_is}
use Rattle.ghs_protocol.proofs.acts.Situations.{is_find'}
use Rattle.ghs_protocol.proofs.progress.Scenes.{ConnectsLeast, test_waits, AllTests, SeenWaits, has_ports, not_stuck}
use Rattle.ghs_protocol.proofs.lemmas.Woken.{asleep_or_not}
use Rattle.ghs_protocol.proofs.progress.BothBegun.{tree_waits, AllOf}

-- a message waits
abbrev pub node_waits : NodeState → ℕ → Message → Type 0
node_waits n p (Connect l) = (n.head.phase ≢ Sleeping) × (n.head.level ≤ l) × (mark_at n p ≡ Basic)
node_waits n p (Report k) = (n.head.in_branch ≡ Some p) × (n.head.phase ≡ Find)
node_waits n p (Test l f) = (n.head.phase ≢ Sleeping) × (n.head.level < l)
node_waits n p (Initiate l f s) = Prim.⊥
node_waits n p ChangeRoot = Prim.⊥
node_waits n p Accept = Prim.⊥
node_waits n p Reject = Prim.⊥

pub tree_end : (P : Message → Type 0) (xs : List Message) (x : Message) → AllOf P xs → P x → AllOf P (xs ++ x ∷ [])
tree_end P [] x a h = (h, tt)
tree_end P (y ∷ xs) x a h = (a.0, tree_end P xs x a.1 h)

tests_end : (P : ℕ × Key → Type 0) (xs : List (ℕ × Key)) (x : ℕ × Key) → AllTests P xs → P x → AllTests P (xs ++ x ∷ [])
tests_end P [] x a h = (h, tt)
tests_end P (y ∷ xs) x a h = (a.0, tests_end P xs x a.1 h)

module _ (g : Network) (w : Net) (gh : Ghost) (v p : ℕ) where
  abbrev m : Member
  m = (scene w gh).at v

  more : (q : Seen) (x : Message) → SeenWaits m p q → node_waits (w.node v) p x → SeenWaits m p (add q x)
  more q (Connect l) a h =
      record { tree = tree_end (tree_waits m p) q.tree (Connect l) a.tree h; tests = a.tests; accepts = a.accepts; rejects = a.rejects }
  more q (Report k) a h =
      record { tree = tree_end (tree_waits m p) q.tree (Report k) a.tree h; tests = a.tests; accepts = a.accepts; rejects = a.rejects }
  more q (Test l f) a h =
      record { tree = a.tree; tests = tests_end (test_waits m) q.tests (l, f) a.tests h; accepts = a.accepts; rejects = a.rejects }
  more q (Initiate l f s) a h = elim h [ ]
  more q ChangeRoot a h = elim h [ ]
  more q Accept a h = elim h [ ]
  more q Reject a h = elim h [ ]

  all_more : (ms : List Message) (q : Seen) → SeenWaits m p q → AllOf (node_waits (w.node v) p) ms → SeenWaits m p (adds q ms)
  all_more [] q a h = a
  all_more (x ∷ ms) q a h = all_more ms (add q x) (more q x a h.0) h.1

  pub seen_waits : AllOf (node_waits (w.node v) p) (w.queue v p) → SeenWaits m p (see (w.queue v p))
  seen_waits h = all_more (w.queue v p) unseen (record { tree = tt; tests = tt; accepts = refl; rejects = refl }) h

-- it is decided
basic_is : (x : Mark) → (x ≡ Basic) ⊎ (x ≢ Basic)
basic_is Basic = inl refl
basic_is Branch = inr (λ z. cc)
basic_is Rejected = inr (λ z. cc)

pub waits_is : (n : NodeState) (p : ℕ) (x : Message) → (node_waits n p x) ⊎ (node_waits n p x → ⊥)
waits_is n p (Connect l) =
    ⊎_elim (λ s. inr (λ h. h.0 s)) (λ a.
    ⊎_elim (λ lt. inr (λ h. let le = h.1 in omega (arith, le, lt))) (λ ge.
    ⊎_elim (λ b. inl (a, (omega (arith, ge)), b)) (λ ne. inr (λ h. ne h.2)) (basic_is (mark_at n p)))
    (cases_lt l n.head.level))
    (asleep_or_not n.head.phase)
waits_is n p (Report k) =
    ⊎_elim
    (λ a. ⊎_elim (λ b. inl (a, b)) (λ ne. inr (λ h. ne h.1)) (is_find' n.head.phase))
    (λ ne. inr (λ h. ne h.0)) (probe_is n.head.in_branch p)
waits_is n p (Test l f) =
    ⊎_elim (λ s. inr (λ h. h.0 s))
    (λ a. ⊎_elim (λ lt. inl (a, lt)) (λ ge. inr (λ h. let lt = h.1 in omega (arith, lt, ge))) (cases_lt n.head.level l))
    (asleep_or_not n.head.phase)
waits_is n p (Initiate l f s) = inr (λ h. elim h [ ])
waits_is n p ChangeRoot = inr (λ h. elim h [ ])
waits_is n p Accept = inr (λ h. elim h [ ])
waits_is n p Reject = inr (λ h. elim h [ ])

-- a list with a place from which P fails
pub record Split (P : Message → Type 0) (ms : List Message) : Type 0 where
  pub before : List Message
  pub message : Message
  pub behind : List Message
  pub whole : ms ≡ before ++ message ∷ behind
  pub all : AllOf P before
  pub goes : P message → ⊥

pub split : (P : Message → Type 0) → ((x : Message) → (P x) ⊎ (P x → ⊥)) → (ms : List Message) → AllOf P ms ⊎ Split P ms
split P dec [] = inl tt
split P dec (x ∷ ms) =
    ⊎_elim (λ h. ⊎_elim (λ a. inl (h, a)) (λ s.
    inr (record {
      before = x ∷ s.before;
      message = s.message;
      behind = s.behind;
      whole = ap (λ z. x ∷ z) s.whole;
      all = (h, s.all);
      goes = s.goes;
    })) (split P dec ms))
    (λ n. inr (record { before = []; message = x; behind = ms; whole = refl; all = tt; goes = n }))
    (dec x)

-- a search below a bound
pub search : (A B : ℕ → Type 0) → (n : ℕ) → ((i : ℕ) → i < n → A i ⊎ B i) → ((i : ℕ) × (i < n) × A i) ⊎ ((i : ℕ) → i < n → B i)
search A B zero f = inr (λ i lt. absurd (omega (arith, lt)))
search A B (suc n) f =
    ⊎_elim (λ h. inl (h.0, (let lt = h.1 in omega (arith, lt)), h.2))
    (λ h. ⊎_elim (λ a. inl (n, omega arith, a))
    (λ b. inr (λ i lt. ⊎_elim (λ l. h i l) (λ ge. let e : n ≡ i = omega (arith, lt, ge) in subst B e b) (cases_lt i n)))
    (f n (omega arith)))
    (search A B n (λ i lt. f i (omega (arith, lt))))

-- what is found
pub record Found_one (g : Network) (w : Net) (S : ℕ → Bool) : Type 0 where
  pub node : ℕ
  pub port : ℕ
  pub at : At g node port
  pub member : S node ≡ true
  pub place : Split (node_waits (w.node node) port) (w.queue node port)

record Here (g : Network) (w : Net) (S : ℕ → Bool) (v p : ℕ) : Type 0 where
  pub at : At g v p
  pub member : S v ≡ true
  pub place : Split (node_waits (w.node v) p) (w.queue v p)

abbrev AllWait : Network → Net → (ℕ → Bool) → ℕ → Type 0
AllWait g w S v = (p : ℕ) → At g v p → S v ≡ true → AllOf (node_waits (w.node v) p) (w.queue v p)

module _ (g : Network) (w : Net) (S : ℕ → Bool) where
  at_node : (v : ℕ) → InNetwork g v → ((p : ℕ) × Here g w S v p) ⊎ AllWait g w S v
  at_node v is =
      ⊎_elim
      (λ m. ⊎_elim (λ h. inl (h.0, h.2)) (λ h. inr (λ p at y. h p at.port))
      (search (λ p. Here g w S v p) (λ p. AllOf (node_waits (w.node v) p) (w.queue v p)) (length (g.ports v))
      (λ p lt. ⊎_elim (λ a. inr a)
      (λ s. inl (record { at = record { some = is.some; node = is.node; port = lt }; member = m; place = s }))
      (split (node_waits (w.node v) p) (waits_is (w.node v) p) (w.queue v p)))))
      (λ n. inr (λ p at m. let z : true ≡ false = sym m ∙ n in cc))
      (cases_Bool (S v))

  pub look : Found_one g w S ⊎ ((v p : ℕ) → At g v p → S v ≡ true → AllOf (node_waits (w.node v) p) (w.queue v p))
  look =
      ⊎_elim
      (λ h. let t = h.2 in inl (record { node = suc h.0; port = t.0; at = t.1.at; member = t.1.member; place = t.1.place }))
      (λ h. inr (λ v p at m. all h v p at m))
      (search (λ i. (p : ℕ) × Here g w S (suc i) p) (λ i. AllWait g w S (suc i)) g.count
      (λ i lt. at_node (suc i) (record { some = omega arith; node = omega (arith, lt) })))
    where
      all : ((i : ℕ) → i < g.count → AllWait g w S (suc i)) → (v p : ℕ) → At g v p → S v ≡ true → AllOf (node_waits (w.node v) p) (w.queue v p)
      all h zero p at m = absurd (let z = at.some in omega (arith, z))
      all h (suc i) p at m = h i (let z = at.node in omega (arith, z)) p at m

module _ (g : Network) (ground : Ground g) (w : Net) (gh : Ghost) (holds : Invariant g (scene w gh)) (lives : Living g (scene w gh))
    (S : ℕ → Bool) (going : Unended g w S) where
  -- a message that doesn't wait, if the Connects under way go over least links
  pub goes_on : ConnectsLeast g (scene w gh) → Found_one g w S
  goes_on least =
      ⊎_elim (λ h. h)
      (λ all.
      absurd (not_stuck g ground (scene w gh) holds lives S going.closed (λ v p at m. seen_waits g w gh v p (all v p at m))
      (λ v is m. has_ports g (scene w gh) lives v is (going.none_halted v is m))
      (λ v is m. going.none_halted v is m) least
      going.node going.is going.member going.awake))
      (look g w S)
