-- How many Initiates and Accepts may wait at a node.
use Rattle.std.proofs.Common.{◌≡◌, ◌≢◌, ◌⊎◌, inl, inr, ℕ, zero, suc, ◌+◌, ◌≤◌, ◌<◌, false, Option, Some, None, List, [], ◌∷◌, ◌++◌, length, refl, sym, ◌∙◌, ap, subst, arith, ⊎_elim, eq-eqb, ne_eqb, ◌==◌, if◌then◌else◌}
use Rattle.std.proofs.lemmas.Bool.{cases_eq, cases_lt}
use Rattle.ghs_graph.specs.declared.key.Key.{Key}
use Rattle.ghs_graph.specs.Bound.{IsFloorLog2}
use Rattle.ghs_node.specs.declared.message.Message.{Message}
use Rattle.ghs_node.specs.declared.message.Message.TheVariants.{Connect, Initiate, Test, Accept, Reject, Report, ChangeRoot}
use Rattle.ghs_node.specs.Words.{is_branch}
use Rattle.peer_network.specs.Network.{Network, At, far, InNetwork}
use Rattle.peer_network.proofs.lemmas.Wired.{IsWired}
use Rattle.ghs_protocol.specs.Net.{Net}
use Rattle.ghs_protocol.specs.Ledger.{of_kind}
use Rattle.peer_network.specs.Sums.{sum_below}
use Rattle.ghs_protocol.specs.Payments.{calls_at, testing}
use Rattle.ghs_protocol.proofs.clauses.Scene.{Ghost, Seen, TreeEnd, add, adds, end, see, test_end, tree_end, unseen, scene, far_end}
use Rattle.ghs_protocol.proofs.clauses.Links.{Joins, Ups, Child}
use Rattle.ghs_protocol.proofs.clauses.Tests.{TestsFit}
use Rattle.ghs_protocol.proofs.clauses.TreeMessages.{TreeFits, Upward, Nothing_up, Report_up, Chain, Downward, Initiates, Old_report, Stage, Asking, Called, Begun, AtStage, asked, called, CoreQueue, Plain, With_report, Core, CoreFits, MovedFits, To_here, To_there}
use Rattle.ghs_protocol.proofs.clauses.Whole.{Invariant, opening_ghost}
use Rattle.ghs_protocol.proofs.clauses.Charges.{IsLow, busy, moved_on, paid_at}
use Rattle.ghs_protocol.proofs.lemmas.Balance.{of_kind_append}
use Rattle.peer_network.proofs.lemmas.Sums.{sum_none, sum_few}
use Rattle.ghs_protocol.proofs.charges.Acts.{busy_below, busy_some, busy_top, moved_most}
use Rattle.ghs_protocol.proofs.every_run.Foreseen.{sum_lacks}
use Rattle.ghs_protocol.proofs.charges.TopLevel.{below_top, coming_most}
use Rattle.ghs_protocol.proofs.charges.Due.{paid_not, paid_once}
use Rattle.ghs_protocol.proofs.search.FirstReport.{Joint, joint, Down_here, Down_there, On_core, On_moved, chain_rises, mark_is}
use Rattle.ghs_protocol.proofs.rows.Link.{link_fits, link_fits', link_leads}
use Rattle.ghs_protocol.proofs.acts.Situations.{probing_finds}
use Rattle.ghs_protocol.proofs.tests.Links.{probe_is}

-- what is read of a queue, counted

none_of : (i j : ℕ) → (i == j) ≡ false → ◌≡◌ {A = ℕ} (if i == j then 1 else 0) 0
none_of i j e = ap (λ b. if b then 1 else 0) e

-- messages of a kind that stays among the tree messages
kinds_added : (j : ℕ) →
    (2 == j) ≡ false →
    (3 == j) ≡ false →
    (4 == j) ≡ false →
    (q : Seen) (ms : List Message) → of_kind j (adds q ms).tree ≡ of_kind j q.tree + of_kind j ms
kinds_added j t a r q [] = omega arith
kinds_added j t a r q (Connect l ∷ ms) =
    let z = kinds_added j t a r (add q (Connect l)) ms in let y = of_kind_append j q.tree (Connect l ∷ []) in omega (arith, z, y)
kinds_added j t a r q (Initiate l f s ∷ ms) =
    let z = kinds_added j t a r (add q (Initiate l f s)) ms in let y = of_kind_append j q.tree (Initiate l f s ∷ []) in omega (arith, z, y)
kinds_added j t a r q (Test l f ∷ ms) = let z = kinds_added j t a r (add q (Test l f)) ms in let y = none_of 2 j t in omega (arith, z, y)
kinds_added j t a r q (Accept ∷ ms) = let z = kinds_added j t a r (add q Accept) ms in let y = none_of 3 j a in omega (arith, z, y)
kinds_added j t a r q (Reject ∷ ms) = let z = kinds_added j t a r (add q Reject) ms in let y = none_of 4 j r in omega (arith, z, y)
kinds_added j t a r q (Report w ∷ ms) =
    let z = kinds_added j t a r (add q (Report w)) ms in let y = of_kind_append j q.tree (Report w ∷ []) in omega (arith, z, y)
kinds_added j t a r q (ChangeRoot ∷ ms) =
    let z = kinds_added j t a r (add q ChangeRoot) ms in let y = of_kind_append j q.tree (ChangeRoot ∷ []) in omega (arith, z, y)

accepts_added : (q : Seen) (ms : List Message) → (adds q ms).accepts ≡ q.accepts + of_kind 3 ms
accepts_added q [] = omega arith
accepts_added q (Connect l ∷ ms) = let z = accepts_added (add q (Connect l)) ms in omega (arith, z)
accepts_added q (Initiate l f s ∷ ms) = let z = accepts_added (add q (Initiate l f s)) ms in omega (arith, z)
accepts_added q (Test l f ∷ ms) = let z = accepts_added (add q (Test l f)) ms in omega (arith, z)
accepts_added q (Accept ∷ ms) = let z = accepts_added (add q Accept) ms in omega (arith, z)
accepts_added q (Reject ∷ ms) = let z = accepts_added (add q Reject) ms in omega (arith, z)
accepts_added q (Report w ∷ ms) = let z = accepts_added (add q (Report w)) ms in omega (arith, z)
accepts_added q (ChangeRoot ∷ ms) = let z = accepts_added (add q ChangeRoot) ms in omega (arith, z)

pub kinds_seen : (j : ℕ) → (2 == j) ≡ false → (3 == j) ≡ false → (4 == j) ≡ false → (ms : List Message) → of_kind j (see ms).tree ≡ of_kind j ms
kinds_seen j t a r ms = let z = kinds_added j t a r unseen ms in omega (arith, z)

calls_seen : (ms : List Message) → of_kind 1 (see ms).tree ≡ of_kind 1 ms
calls_seen = kinds_seen 1 refl refl refl

accepts_seen : (ms : List Message) → (see ms).accepts ≡ of_kind 3 ms
accepts_seen ms = let z = accepts_added unseen ms in omega (arith, z)

-- Initiates of one level
calls_at_append : (l : ℕ) (a b : List Message) → calls_at l (a ++ b) ≡ calls_at l a + calls_at l b
calls_at_append l [] b = omega arith
calls_at_append l (Connect i ∷ a) b = calls_at_append l a b
calls_at_append l (Initiate i f s ∷ a) b = let z = calls_at_append l a b in omega (arith, z)
calls_at_append l (Test i f ∷ a) b = calls_at_append l a b
calls_at_append l (Accept ∷ a) b = calls_at_append l a b
calls_at_append l (Reject ∷ a) b = calls_at_append l a b
calls_at_append l (Report w ∷ a) b = calls_at_append l a b
calls_at_append l (ChangeRoot ∷ a) b = calls_at_append l a b

calls_at_added : (n : ℕ) (q : Seen) (ms : List Message) → calls_at n (adds q ms).tree ≡ calls_at n q.tree + calls_at n ms
calls_at_added n q [] = omega arith
calls_at_added n q (Connect l ∷ ms) =
    let z = calls_at_added n (add q (Connect l)) ms in let y = calls_at_append n q.tree (Connect l ∷ []) in omega (arith, z, y)
calls_at_added n q (Initiate l f s ∷ ms) =
    let z = calls_at_added n (add q (Initiate l f s)) ms in let y = calls_at_append n q.tree (Initiate l f s ∷ []) in omega (arith, z, y)
calls_at_added n q (Test l f ∷ ms) = let z = calls_at_added n (add q (Test l f)) ms in omega (arith, z)
calls_at_added n q (Accept ∷ ms) = let z = calls_at_added n (add q Accept) ms in omega (arith, z)
calls_at_added n q (Reject ∷ ms) = let z = calls_at_added n (add q Reject) ms in omega (arith, z)
calls_at_added n q (Report w ∷ ms) =
    let z = calls_at_added n (add q (Report w)) ms in let y = calls_at_append n q.tree (Report w ∷ []) in omega (arith, z, y)
calls_at_added n q (ChangeRoot ∷ ms) =
    let z = calls_at_added n (add q ChangeRoot) ms in let y = calls_at_append n q.tree (ChangeRoot ∷ []) in omega (arith, z, y)

calls_at_seen : (n : ℕ) (ms : List Message) → calls_at n (see ms).tree ≡ calls_at n ms
calls_at_seen n ms = let z = calls_at_added n unseen ms in omega (arith, z)

-- of a chain from level l to t, one at most is of level n, and it lies between
chain_one : (N : Key → Type 0) (top : ℕ) (name : Option Key) (n t l : ℕ) (ms : List Message) →
    Chain N top name t l ms →
    (calls_at n ms ≡ 0) ⊎ ((calls_at n ms ≡ 1) × (l < n) × (n ≤ t))
chain_one N top name n t l [] c = inl refl
chain_one N top name n t l (Initiate k f s ∷ ms) c = go (chain_one N top name n t k ms c.5) (cases_eq k n)
  where
    high : k ≤ t
    high = chain_rises N top name t k ms c.5

    go : (calls_at n ms ≡ 0) ⊎ ((calls_at n ms ≡ 1) × (k < n) × (n ≤ t)) → (k ≡ n) ⊎ (k ≢ n) →
        ((if k == n then 1 else 0) + calls_at n ms ≡ 0) ⊎ (((if k == n then 1 else 0) + calls_at n ms ≡ 1) × (l < n) × (n ≤ t))
    go (inl z) (inl e) = let b = eq-eqb k n e in rw b (inr (omega (arith, z), omega (arith, c.0, e), omega (arith, e, high)))
    go (inl z) (inr ne) = let b = ne_eqb k n ne in rw b (inl (omega (arith, z)))
    go (inr z) (inl e) = absurd (omega (arith, z.1, e))
    go (inr z) (inr ne) = let b = ne_eqb k n ne in rw b (inr (omega (arith, z.0), omega (arith, z.1, c.0), z.2))
chain_one N top name n t l (Connect k ∷ ms) c = absurd c
chain_one N top name n t l (Test k f ∷ ms) c = absurd c
chain_one N top name n t l (Accept ∷ ms) c = absurd c
chain_one N top name n t l (Reject ∷ ms) c = absurd c
chain_one N top name n t l (Report k ∷ ms) c = absurd c
chain_one N top name n t l (ChangeRoot ∷ ms) c = absurd c

-- a chain's Initiates rise
chain_short : (N : Key → Type 0) (top : ℕ) (name : Option Key) (t l : ℕ) (ms : List Message) → Chain N top name t l ms → of_kind 1 ms + l ≤ t
chain_short N top name t l [] c = omega (arith, c)
chain_short N top name t l (Initiate k f s ∷ ms) c = let z = chain_short N top name t k ms c.5 in omega (arith, z, c.0)
chain_short N top name t l (Connect k ∷ ms) c = absurd c
chain_short N top name t l (Test k f ∷ ms) c = absurd c
chain_short N top name t l (Accept ∷ ms) c = absurd c
chain_short N top name t l (Reject ∷ ms) c = absurd c
chain_short N top name t l (Report k ∷ ms) c = absurd c
chain_short N top name t l (ChangeRoot ∷ ms) c = absurd c

-- the Initiates that wait at an end are below the coming level, and come over the way to the root
abbrev Few : TreeEnd → Type 0
Few e = (of_kind 1 e.tree ≡ 0) ⊎ (Ups e × (of_kind 1 e.tree + e.level ≤ e.coming))

few_none : (e : TreeEnd) (ms : List Message) → e.tree ≡ ms → of_kind 1 ms ≡ 0 → Few e
few_none e ms q z = inl (ap (of_kind 1) q ∙ z)

module _ {N : ℕ → Key → Type 0} (e f : TreeEnd) (he : TreeFits N e f) (hf : TreeFits N f e) (ups : Joins e f → Ups e ⊎ Ups f)
    (lags : Joins e f → f.level ≤ e.coming) where
  core_few : (a b : Stage) → AtStage e a → of_kind 1 (asked f.level b ++ called e.coming e.key a) + e.level ≤ e.coming
  core_few Asking Asking at = omega (arith, at)
  core_few Asking Called at = omega (arith, at)
  core_few Asking Begun at = omega (arith, at)
  core_few Called Asking at = omega (arith, at)
  core_few Called Called at = omega (arith, at)
  core_few Called Begun at = omega (arith, at)
  core_few Begun Asking at = omega (arith, at)
  core_few Begun Called at = omega (arith, at)
  core_few Begun Begun at = omega (arith, at)

  half_few : (k : Option Key) (a : Stage) → AtStage e a → of_kind 1 (called e.coming e.key a ++ Report k ∷ []) + e.level ≤ e.coming
  half_few k Asking at = omega (arith, at)
  half_few k Called at = omega (arith, at)
  half_few k Begun at = omega (arith, at)

  joined_few : Joins e f → Few e
  joined_few j = go (joint e f j (ups j))
    where
      down : Child e f → Downward (N e.fragment) e f → Few e
      down c (Initiates x) = inr (c.up, (let z = chain_short _ _ _ _ _ e.tree x in let y = lags j in omega (arith, z, y)))
      down c (Old_report k ms q h x) =
          inr (c.up, (let z = chain_short _ _ _ _ _ ms x in let y = lags j in let s = ap (of_kind 1) q in omega (arith, z, y, s)))

      up : Upward f e → Few e
      up (Nothing_up q) = few_none e _ q refl
      up (Report_up k q r) = few_none e _ q refl

      core : Core e f → (z : CoreFits e f) → CoreQueue e f z.here z.there → Few e
      core c z (Plain q) = inr (c.both.up, (let y = core_few z.here z.there z.at_here in let s = ap (of_kind 1) q in omega (arith, y, s)))
      core c z (With_report k q b p x) = inr (c.both.up, (let y = half_few k z.here z.at_here in let s = ap (of_kind 1) q in omega (arith, y, s)))

      moved : MovedFits e f → Few e
      moved (To_here m) = few_none e _ m.queue refl
      moved (To_there m) = few_none e _ m.queue_beyond refl

      go : Joint e f → Few e
      go (Down_here c) = down c (he.downward c)
      go (Down_there c) = up (hf.upward c)
      go (On_core c) = let z = he.core_queues c in core c z z.queue
      go (On_moved c) = moved (he.moved_root c)

  few : Few e
  few =
      ⊎_elim (λ a. ⊎_elim (λ b. joined_few (record { here = a; there = b }))
      (λ b. few_none e _ (he.out_connect (record { here = a; there = b })).none refl)
      (mark_is f.mark))
      (λ a. ⊎_elim
      (λ b. few_none e _ (hf.out_connect (record { here = b; there = a })).one refl)
      (λ b. few_none e _ (he.silent a b) refl) (mark_is f.mark))
      (mark_is e.mark)

-- the Initiate of level n that waits at an end
abbrev FewAt : ℕ → TreeEnd → Type 0
FewAt n e = (calls_at n e.tree ≡ 0) ⊎ (Ups e × (calls_at n e.tree ≡ 1) × (e.level < n) × (n ≤ e.coming))

none_at : (n : ℕ) (e : TreeEnd) (ms : List Message) → e.tree ≡ ms → calls_at n ms ≡ 0 → FewAt n e
none_at n e ms q z = inl (ap (calls_at n) q ∙ z)

module _ {N : ℕ → Key → Type 0} (n : ℕ) (e f : TreeEnd) (he : TreeFits N e f) (hf : TreeFits N f e) (ups : Joins e f → Ups e ⊎ Ups f)
    (lags : Joins e f → f.level ≤ e.coming) where
  core_at : (ms : List Message) → e.tree ≡ ms → Ups e → suc e.level ≡ e.coming → calls_at n ms ≡ (if e.coming == n then 1 else 0) → FewAt n e
  core_at ms q up low z = ⊎_elim
      (λ (s : e.coming ≡ n).
      let b = eq-eqb e.coming n s in
      inr (up, (ap (calls_at n) q ∙ z ∙ ap (λ b. if b then 1 else 0) b), omega (arith, low, s), omega (arith, s)))
      (λ ne. let b = ne_eqb e.coming n ne in inl (ap (calls_at n) q ∙ z ∙ ap (λ b. if b then 1 else 0) b))
      (cases_eq e.coming n)

  add_none : (c : ℕ) → c + 0 ≡ c
  add_none c = omega arith

  core_few_at : (c : Core e f) (a b : Stage) → AtStage e a → e.tree ≡ asked f.level b ++ called e.coming e.key a → FewAt n e
  core_few_at c Asking Asking at q = none_at n e _ q refl
  core_few_at c Asking Called at q = none_at n e _ q refl
  core_few_at c Asking Begun at q = none_at n e _ q refl
  core_few_at c Called Asking at q = core_at _ q c.both.up at (add_none (if e.coming == n then 1 else 0))
  core_few_at c Called Called at q = core_at _ q c.both.up at (add_none (if e.coming == n then 1 else 0))
  core_few_at c Called Begun at q = core_at _ q c.both.up at (add_none (if e.coming == n then 1 else 0))
  core_few_at c Begun Asking at q = none_at n e _ q refl
  core_few_at c Begun Called at q = none_at n e _ q refl
  core_few_at c Begun Begun at q = none_at n e _ q refl

  half_few_at : (c : Core e f) (k : Option Key) (a : Stage) → AtStage e a → e.tree ≡ called e.coming e.key a ++ Report k ∷ [] → FewAt n e
  half_few_at c k Asking at q = none_at n e _ q refl
  half_few_at c k Called at q = core_at _ q c.both.up at (add_none (if e.coming == n then 1 else 0))
  half_few_at c k Begun at q = none_at n e _ q refl

  joined_few_at : Joins e f → FewAt n e
  joined_few_at j = go (joint e f j (ups j))
    where
      down : Child e f → Downward (N e.fragment) e f → FewAt n e
      down c (Initiates x) =
          ⊎_elim (λ z. inl z) (λ z. inr (c.up, z.0, z.1, (let y = lags j in omega (arith, z.2, y)))) (chain_one _ _ _ n _ _ e.tree x)
      down c (Old_report k ms q h x) =
          ⊎_elim (λ z. inl (ap (calls_at n) q ∙ z))
          (λ z. inr (c.up, (ap (calls_at n) q ∙ z.0), z.1, (let y = lags j in omega (arith, z.2, y))))
          (chain_one _ _ _ n _ _ ms x)

      up : Upward f e → FewAt n e
      up (Nothing_up q) = none_at n e _ q refl
      up (Report_up k q r) = none_at n e _ q refl

      core : Core e f → (z : CoreFits e f) → CoreQueue e f z.here z.there → FewAt n e
      core c z (Plain q) = core_few_at c z.here z.there z.at_here q
      core c z (With_report k q b p x) = half_few_at c k z.here z.at_here q

      moved : MovedFits e f → FewAt n e
      moved (To_here m) = none_at n e _ m.queue refl
      moved (To_there m) = none_at n e _ m.queue_beyond refl

      go : Joint e f → FewAt n e
      go (Down_here c) = down c (he.downward c)
      go (Down_there c) = up (hf.upward c)
      go (On_core c) = let z = he.core_queues c in core c z z.queue
      go (On_moved c) = moved (he.moved_root c)

  few_at_end : FewAt n e
  few_at_end =
      ⊎_elim (λ a. ⊎_elim (λ b. joined_few_at (record { here = a; there = b }))
      (λ b. none_at n e _ (he.out_connect (record { here = a; there = b })).none refl)
      (mark_is f.mark))
      (λ a. ⊎_elim
      (λ b. none_at n e _ (hf.out_connect (record { here = b; there = a })).one refl)
      (λ b. none_at n e _ (he.silent a b) refl)
      (mark_is f.mark))
      (mark_is e.mark)

-- a sum with one term
lonely : (n j : ℕ) (f : ℕ → ℕ) → ((i : ℕ) → i < n → i ≢ j → f i ≡ 0) → sum_below n f ≤ f j
lonely zero j f z = omega arith
lonely (suc n) j f z = ⊎_elim
    (λ (e : j ≡ n).
    let y = sum_none n f (λ i lt. z i (omega arith) (omega (arith, lt, e))) in
    subst (λ x. sum_below n f + f n ≤ f x) (sym e) (omega (arith, y)))
    (let y = lonely n j f (λ i lt ne. z i (omega arith) ne) in λ ne. let x = z n (omega arith) (λ h. ne (sym h)) in omega (arith, y, x))
    (cases_eq j n)

module _ (g : Network) (wired : IsWired g) (k : ℕ) (log : IsFloorLog2 g.count k) (w : Net) (gh : Ghost)
    (holds : Invariant g (scene w gh)) (v : ℕ) (is : InNetwork g v) where
  place : (p : ℕ) → p < length (g.ports v) → At g v p
  place p lt = record { some = is.some; node = is.node; port = lt }

  pub level_most : (w.node v).head.level ≤ k
  level_most = let a = (holds.nodes v is).lag.level in let b = coming_most g k log (scene w gh) holds v is in omega (arith, a, b)

  few_at : (p : ℕ) →
      p < length (g.ports v) →
      (of_kind 1 (w.queue v p) ≡ 0) ⊎ ((gh.up v ≡ Some p) × (of_kind 1 (w.queue v p) + (w.node v).head.level ≤ gh.coming (gh.fragment v)))
  few_at p lt = ⊎_elim (λ z. inl (sym (calls_seen (w.queue v p)) ∙ z)) (λ z. inr (z.0, (let y = calls_seen (w.queue v p) in omega (arith, y, z.1))))
      (few (tree_end (end g (scene w gh) v p)) (tree_end (far_end g (scene w gh) v p))
      (link_fits g wired (scene w gh) holds v p (place p lt)).tree (link_fits' g wired (scene w gh) holds v p (place p lt)).tree
      (link_leads g wired (scene w gh) holds v p (place p lt)) lags)
    where
      lags :
          Joins (tree_end (end g (scene w gh) v p)) (tree_end (far_end g (scene w gh) v p)) →
          (tree_end (far_end g (scene w gh) v p)).level ≤ (tree_end (end g (scene w gh) v p)).coming
      lags j =
          let t = wired.there v p (place p lt) in
          let same = (holds.trees.by_fragment v (far g v p)
          (holds.trees.joined_within v p (place p lt) (record { here = ap is_branch j.here; there = ap is_branch j.there }))).0 in
          let z = (holds.nodes (far g v p) (record { some = t.some; node = t.node })).lag.level in
          omega (arith, same, z)

  -- the Initiates that wait, and those that have come in
  pub calls_most : sum_below (length (g.ports v)) (λ p. of_kind 1 (w.queue v p)) + (w.node v).head.level ≤ k
  calls_most = go (gh.up v) refl
    where
      go : (o : Option ℕ) → gh.up v ≡ o → sum_below (length (g.ports v)) (λ p. of_kind 1 (w.queue v p)) + (w.node v).head.level ≤ k
      go None e =
          let z = sum_none (length (g.ports v)) (λ p. of_kind 1 (w.queue v p))
          (λ p lt. ⊎_elim (λ a. a) (λ a. absurd (let y = a.0 in cc (y, e))) (few_at p lt)) in
          omega (arith, z, level_most)
      go (Some q) e = ⊎_elim within outside (cases_lt q (length (g.ports v)))
        where
          others : (p : ℕ) → p < length (g.ports v) → p ≢ q → of_kind 1 (w.queue v p) ≡ 0
          others p lt ne = ⊎_elim (λ a. a) (λ a. absurd (ne (let y : Some p ≡ Some q = sym a.0 ∙ e in cc))) (few_at p lt)

          within : q < length (g.ports v) → sum_below (length (g.ports v)) (λ p. of_kind 1 (w.queue v p)) + (w.node v).head.level ≤ k
          within lt =
              let s = lonely (length (g.ports v)) q (λ p. of_kind 1 (w.queue v p)) others in
              let top = coming_most g k log (scene w gh) holds v is in
              ⊎_elim (λ a. omega (arith, s, a, level_most)) (λ a. omega (arith, s, a.1, top)) (few_at q lt)

          outside : length (g.ports v) ≤ q → sum_below (length (g.ports v)) (λ p. of_kind 1 (w.queue v p)) + (w.node v).head.level ≤ k
          outside out =
              let z = sum_none (length (g.ports v)) (λ p. of_kind 1 (w.queue v p)) (λ p lt. others p lt (λ h. absurd (omega (arith, h, lt, out)))) in
              omega (arith, z, level_most)

  -- the Initiates of one level that wait
  one_at : (n p : ℕ) →
      p < length (g.ports v) →
      (calls_at n (w.queue v p) ≡ 0) ⊎
      ((gh.up v ≡ Some p) × (calls_at n (w.queue v p) ≡ 1) × ((w.node v).head.level < n) × (n ≤ gh.coming (gh.fragment v)))
  one_at n p lt = ⊎_elim (λ z. inl (sym (calls_at_seen n (w.queue v p)) ∙ z)) (λ z. inr (z.0, (sym (calls_at_seen n (w.queue v p)) ∙ z.1), z.2, z.3))
      (few_at_end n (tree_end (end g (scene w gh) v p)) (tree_end (far_end g (scene w gh) v p))
      (link_fits g wired (scene w gh) holds v p (place p lt)).tree (link_fits' g wired (scene w gh) holds v p (place p lt)).tree
      (link_leads g wired (scene w gh) holds v p (place p lt)) lags)
    where
      lags :
          Joins (tree_end (end g (scene w gh) v p)) (tree_end (far_end g (scene w gh) v p)) →
          (tree_end (far_end g (scene w gh) v p)).level ≤ (tree_end (end g (scene w gh) v p)).coming
      lags j =
          let t = wired.there v p (place p lt) in
          let same = (holds.trees.by_fragment v (far g v p)
          (holds.trees.joined_within v p (place p lt) (record { here = ap is_branch j.here; there = ap is_branch j.there }))).0 in
          let z = (holds.nodes (far g v p) (record { some = t.some; node = t.node })).lag.level in
          omega (arith, same, z)

  pub calls_one : (n : ℕ) →
      (sum_below (length (g.ports v)) (λ p. calls_at n (w.queue v p)) ≡ 0) ⊎
      ((sum_below (length (g.ports v)) (λ p. calls_at n (w.queue v p)) ≤ 1) × ((w.node v).head.level < n) × (n ≤ k))
  calls_one n = go (gh.up v) refl
    where
      go : (o : Option ℕ) →
          gh.up v ≡ o →
          (sum_below (length (g.ports v)) (λ p. calls_at n (w.queue v p)) ≡ 0) ⊎
          ((sum_below (length (g.ports v)) (λ p. calls_at n (w.queue v p)) ≤ 1) × ((w.node v).head.level < n) × (n ≤ k))
      go None e =
          inl (sum_none (length (g.ports v)) (λ p. calls_at n (w.queue v p))
          (λ p lt. ⊎_elim (λ a. a) (λ a. absurd (let y = a.0 in cc (y, e))) (one_at n p lt)))
      go (Some q) e = ⊎_elim within outside (cases_lt q (length (g.ports v)))
        where
          others : (p : ℕ) → p < length (g.ports v) → p ≢ q → calls_at n (w.queue v p) ≡ 0
          others p lt ne = ⊎_elim (λ a. a) (λ a. absurd (ne (let y : Some p ≡ Some q = sym a.0 ∙ e in cc))) (one_at n p lt)

          within :
              q < length (g.ports v) →
              (sum_below (length (g.ports v)) (λ p. calls_at n (w.queue v p)) ≡ 0) ⊎
              ((sum_below (length (g.ports v)) (λ p. calls_at n (w.queue v p)) ≤ 1) × ((w.node v).head.level < n) × (n ≤ k))
          within lt =
              let s = lonely (length (g.ports v)) q (λ p. calls_at n (w.queue v p)) others in
              let top = coming_most g k log (scene w gh) holds v is in
              ⊎_elim (λ a. inl (omega (arith, s, a))) (λ a. inr (omega (arith, s, a.1), a.2, omega (arith, a.3, top))) (one_at n q lt)

          outside :
              length (g.ports v) ≤ q →
              (sum_below (length (g.ports v)) (λ p. calls_at n (w.queue v p)) ≡ 0) ⊎
              ((sum_below (length (g.ports v)) (λ p. calls_at n (w.queue v p)) ≤ 1) × ((w.node v).head.level < n) × (n ≤ k))
          outside out =
              inl (sum_none (length (g.ports v)) (λ p. calls_at n (w.queue v p)) (λ p lt. others p lt (λ h. absurd (omega (arith, h, lt, out)))))

  -- s is 1 at most, and not above k
  module _ (s : ℕ) (one : s ≤ 1) (low : s ≤ k) where
    pub quota : (w.node v).head.level + s ≤ k + busy k (w.node v).head.level (w.node v).head.probe
    quota = ⊎_elim
        (λ (lt : (w.node v).head.level < k). omega (arith, lt, one))
        (λ ge. ⊎_elim
        (λ (lt : 0 < (w.node v).head.level).
        let z = busy_top k (w.node v).head.level (w.node v).head.probe (omega (arith, lt)) (omega (arith, ge)) in
        omega (arith, z, level_most, one))
        (λ none. omega (arith, none, low, ge))
        (cases_lt 0 (w.node v).head.level))
        (cases_lt (w.node v).head.level k)

    accepts_at : (p : ℕ) →
        p < length (g.ports v) →
        (of_kind 3 (w.queue v p) ≡ 0) ⊎ (((w.node v).head.probe ≡ Some p) × (of_kind 3 (w.queue v p) ≤ 1) × ((w.node v).head.level < k))
    accepts_at p lt = go (cases_eq (of_kind 3 (w.queue v p)) 0)
      where
        seen : (see (w.queue v p)).accepts ≡ of_kind 3 (w.queue v p)
        seen = accepts_seen (w.queue v p)

        link : TestsFit (test_end (end g (scene w gh) v p)) (test_end (far_end g (scene w gh) v p))
        link = (link_fits g wired (scene w gh) holds v p (place p lt)).tests

        far_in : InNetwork g (far g v p)
        far_in = let t = wired.there v p (place p lt) in record { some = t.some; node = t.node }

        some :
            of_kind 3 (w.queue v p) ≢ 0 →
            (w.node v).head.probe ≡ Some p →
            ((w.node v).head.probe ≡ Some p) × (of_kind 3 (w.queue v p) ≤ 1) × ((w.node v).head.level < k)
        some ne own =
            let probes = link.probing own in
            let count = probes.one in
            let apart = probes.accepted (omega (arith, seen, ne)) in
            let finds = probing_finds (holds.nodes v is) own in
            let top = ((holds.nodes v is).searching finds).level in
            let lag = (holds.nodes (far g v p) far_in).lag.level in
            let lower = below_top g k log (scene w gh) holds v (far g v p) is far_in apart.0 (omega (arith, top, lag, apart.1)) in
            (own, omega (arith, count, seen), omega (arith, lower, top))

        go :
            (of_kind 3 (w.queue v p) ≡ 0) ⊎ (of_kind 3 (w.queue v p) ≢ 0) →
            (of_kind 3 (w.queue v p) ≡ 0) ⊎ (((w.node v).head.probe ≡ Some p) × (of_kind 3 (w.queue v p) ≤ 1) × ((w.node v).head.level < k))
        go (inl z) = inl z
        go (inr ne) =
            ⊎_elim (λ own. inr (some ne own))
            (λ away. absurd (let z = (link.not_probing away).accepts in omega (arith, z, seen, ne)))
            (probe_is (w.node v).head.probe p)

    -- the Accepts that wait, and those that have come in
    pub accepts_most :
        sum_below (length (g.ports v)) (λ p. of_kind 3 (w.queue v p)) + (w.node v).head.level + s ≤ k + busy k (w.node v).head.level
        (w.node v).head.probe
    accepts_most = go (w.node v).head.probe refl
      where
        none :
            sum_below (length (g.ports v)) (λ p. of_kind 3 (w.queue v p)) ≡ 0 →
            sum_below (length (g.ports v)) (λ p. of_kind 3 (w.queue v p)) + (w.node v).head.level + s ≤ k + busy k (w.node v).head.level
            (w.node v).head.probe
        none z = omega (arith, z, quota)

        go : (o : Option ℕ) →
            (w.node v).head.probe ≡ o →
            sum_below (length (g.ports v)) (λ p. of_kind 3 (w.queue v p)) + (w.node v).head.level + s ≤ k + busy k (w.node v).head.level
            (w.node v).head.probe
        go None e =
            none (sum_none (length (g.ports v)) (λ p. of_kind 3 (w.queue v p))
            (λ p lt. ⊎_elim (λ a. a) (λ a. absurd (let y = a.0 in cc (y, e))) (accepts_at p lt)))
        go (Some q) e =
            let q_in : q < length (g.ports v) = (holds.nodes v is).own_ports.probe q e in
            let sum = lonely (length (g.ports v)) q (λ p. of_kind 3 (w.queue v p))
            (λ p lt ne. ⊎_elim (λ a. a) (λ a. absurd (ne (let y : Some p ≡ Some q = sym a.0 ∙ e in cc))) (accepts_at p lt)) in
            ⊎_elim (λ a. none (omega (arith, sum, a)))
            (λ a.
            let b = busy_below k (w.node v).head.level (w.node v).head.probe a.2 in let t = ap testing e in omega (arith, sum, a.1, a.2, b, t, one))
            (accepts_at q q_in)

  -- the Accepts that wait: one at most, of a port that is probed
  pub accepts_one :
      (sum_below (length (g.ports v)) (λ p. of_kind 3 (w.queue v p)) ≡ 0) ⊎
      ((sum_below (length (g.ports v)) (λ p. of_kind 3 (w.queue v p)) ≤ 1) × (busy k (w.node v).head.level (w.node v).head.probe ≡ 1))
  accepts_one = go (w.node v).head.probe refl
    where
      go : (o : Option ℕ) →
          (w.node v).head.probe ≡ o →
          (sum_below (length (g.ports v)) (λ p. of_kind 3 (w.queue v p)) ≡ 0) ⊎
          ((sum_below (length (g.ports v)) (λ p. of_kind 3 (w.queue v p)) ≤ 1) × (busy k (w.node v).head.level (w.node v).head.probe ≡ 1))
      go None e =
          inl (sum_none (length (g.ports v)) (λ p. of_kind 3 (w.queue v p))
          (λ p lt. ⊎_elim (λ a. a) (λ a. absurd (let y = a.0 in cc (y, e))) (accepts_at 0 (omega arith) (omega arith) p lt)))
      go (Some q) e =
          let q_in : q < length (g.ports v) = (holds.nodes v is).own_ports.probe q e in
          let sum = lonely (length (g.ports v)) q (λ p. of_kind 3 (w.queue v p))
          (λ p lt ne.
          ⊎_elim (λ a. a) (λ a. absurd (ne (let y : Some p ≡ Some q = sym a.0 ∙ e in cc))) (accepts_at 0 (omega arith) (omega arith) p lt)) in
          ⊎_elim (λ a. inl (omega (arith, sum, a)))
          (λ a. inr (omega (arith, sum, a.1), ap (busy k (w.node v).head.level) e ∙ busy_some k (w.node v).head.level q))
          (accepts_at 0 (omega arith) (omega arith) q q_in)

  -- the ports that have paid, and the one that is being tested
  pub ports_most : sum_below (length (g.ports v)) (paid_at g (scene w opening_ghost) v) + testing (w.node v).head.probe ≤ length (g.ports v)
  ports_most = go (w.node v).head.probe refl
    where
      go : (o : Option ℕ) →
          (w.node v).head.probe ≡ o →
          sum_below (length (g.ports v)) (paid_at g (scene w opening_ghost) v) + testing (w.node v).head.probe ≤ length (g.ports v)
      go None e =
          let z = sum_few (length (g.ports v)) (paid_at g (scene w opening_ghost) v) (λ p. paid_once g (scene w opening_ghost) v p) in
          let t = ap testing e in omega (arith, z, t)
      go (Some q) e =
          let z = sum_lacks (length (g.ports v)) q (paid_at g (scene w opening_ghost) v) ((holds.nodes v is).own_ports.probe q e)
          (λ p. paid_once g (scene w opening_ghost) v p)
          (paid_not g (scene w opening_ghost) v q e) in
          let t = ap testing e in omega (arith, z, t)

  -- the root messages
  pub roots_most : IsLow k (w.node v).head (gh.up v) → (w.node v).head.level + moved_on (w.node v).head.in_branch (gh.up v) ≤ k
  roots_most low = ⊎_elim
      (λ (lt : 0 < moved_on (w.node v).head.in_branch (gh.up v)).
      let z = low.moved (omega (arith, lt)) in let y = moved_most (w.node v).head.in_branch (gh.up v) in omega (arith, z, y))
      (λ ge. omega (arith, ge, level_most)) (cases_lt 0 (moved_on (w.node v).head.in_branch (gh.up v)))
