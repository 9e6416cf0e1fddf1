-- Below a node that searches, where nothing else is under way, a node has a probe.
use Rattle.std.proofs.Common.{◌≡◌, ◌≢◌, ℕ, zero, suc, ◌<◌, ◌≤◌, Bool, true, false, not, ◌&&◌, ◌||◌, Option, Some, None, length, if◌then◌else◌, refl, sym, ◌∙◌, ap, ap₂, subst, subst₂, ⊎_elim, arith}
use Rattle.ghs_node.specs.declared.mark.Mark.TheVariants.{Branch}
use Rattle.ghs_node.specs.declared.message.Phase.TheVariants.{Find}
use Rattle.ghs_node.specs.Words.{is_find, is_at, is_branch, is_zero, is_missing}
use Rattle.peer_network.specs.Network.{Network, At, far, far_port, InNetwork}
use Rattle.peer_network.proofs.lemmas.Wired.{IsWired}
use Rattle.peer_network.specs.Sums.{sum_below}
use Rattle.ghs_protocol.proofs.clauses.Scene.{Scene, End, end, forest}
use Rattle.ghs_protocol.proofs.clauses.Fragments.{IsJoinedIn, Reach}
use Rattle.ghs_protocol.proofs.clauses.Rest.{owes, debt, has_call, has_report}
use Rattle.ghs_protocol.proofs.clauses.Whole.{Invariant}
use Rattle.ghs_protocol.proofs.clauses.UnderWay.{FindAwaits}
use Rattle.std.proofs.lemmas.Option.{same_Some}
use Rattle.ghs_protocol.proofs.acts.SameForest.{mark_branch}
use Rattle.ghs_protocol.proofs.progress.Depths.{IsChild, upwards}
use Rattle.std.proofs.lemmas.Bool.{cases_Bool}
use Rattle.ghs_node.proofs.lemmas.{at_is, find_is, is_at_is}

-- a sum above 0 has a term above 0
pub some_term : (n : ℕ) (f : ℕ → ℕ) → 1 ≤ sum_below n f → (i : ℕ) × (i < n) × (1 ≤ f i)
some_term zero f le = absurd (omega (arith, le))
some_term (suc n) f le = go (f n) refl (λ h. some_term n f h)
  where
    go : (k : ℕ) → f n ≡ k → (1 ≤ sum_below n f → (i : ℕ) × (i < n) × (1 ≤ f i)) → (i : ℕ) × (i < suc n) × (1 ≤ f i)
    go zero e r = let t = r (omega (arith, le, e)) in (t.0, (let lt = t.1 in omega (arith, lt)), t.2)
    go (suc k) e r = (n, omega arith, omega (arith, e))

-- what a debt is
pub data Owed (e f : End) : Type 0 where
  By_report : has_report e.seen.tree ≡ true → Owed e f
  By_call : has_call f.seen.tree ≡ true → Owed e f
  By_search : f.is.head.phase ≡ Find → f.is.head.in_branch ≡ Some f.port → Owed e f

pub owed_is : (e f : End) → owes e f ≡ true → Owed e f
owed_is e f o =
    report (has_report e.seen.tree) (has_call f.seen.tree) (is_find f.is.head.phase) (is_at f.is.head.in_branch f.port) refl refl refl refl
    o
  where
    report : (a b c d : Bool) →
        has_report e.seen.tree ≡ a →
        has_call f.seen.tree ≡ b →
        is_find f.is.head.phase ≡ c →
        is_at f.is.head.in_branch f.port ≡ d →
        (a || (b || (c && d))) ≡ true →
        Owed e f
    report true b c d h i j k o = By_report h
    report false true c d h i j k o = By_call i
    report false false true true h i j k o = By_search (find_is _ j) (at_is _ _ k)
    report false false true false h i j k o = absurd (let z : false ≡ true = o in cc)
    report false false false d h i j k o = absurd (let z : false ≡ true = o in cc)

pub debt_is : (e f : End) → 1 ≤ debt e f → (e.is.up ≢ Some e.port) × (owes e f ≡ true)
debt_is e f le = go (is_at e.is.up e.port) (owes e f) refl refl le
  where
    go : (a b : Bool) → is_at e.is.up e.port ≡ a → owes e f ≡ b → 1 ≤ (if not a && b then 1 else 0) → (e.is.up ≢ Some e.port) × (owes e f ≡ true)
    go true b h i le = absurd (omega (arith, le))
    go false true h i le = ((λ z. let k : is_at e.is.up e.port ≡ true = is_at_is e.is.up e.port z in let y : true ≡ false = sym k ∙ h in cc), i)
    go false false h i le = absurd (omega (arith, le))

-- a node that searches and has a probe
pub record Asker (g : Network) (w : Scene) (S : ℕ → Bool) (f : ℕ) : Type 0 where
  pub node : ℕ
  pub port : ℕ
  pub is : InNetwork g node
  pub member : S node ≡ true
  pub inside : (w.at node).fragment ≡ f
  pub finds : (w.at node).head.phase ≡ Find
  pub probe : (w.at node).head.probe ≡ Some port

module _ (g : Network) (wired : IsWired g) (w : Scene) (holds : Invariant g w) (awaits : (v : ℕ) → InNetwork g v → FindAwaits (w.at v))
    (S : ℕ → Bool) (closed : (v p : ℕ) → At g v p → S v ≡ true → S (far g v p) ≡ true)
    (no_call : (v p : ℕ) → At g v p → S v ≡ true → has_call (w.seen v p).tree ≢ true)
    (no_report : (v p : ℕ) → At g v p → S v ≡ true → (w.at v).head.phase ≡ Find → (w.at v).up ≢ Some p → has_report (w.seen v p).tree ≢ true) where
  -- the ways of who searches are joined
  search_joined : (z p : ℕ) → At g z p → (w.at z).head.phase ≡ Find → (w.at z).up ≡ Some p → IsJoinedIn g (forest w) z p
  search_joined z p at finds up = record { here = here; there = ⊎_elim (λ h. h) (λ h. absurd (away h)) (cases_Bool _) }
    where
      is : InNetwork g z
      is = record { some = at.some; node = at.node }

      marked : (w.at z).mark p ≡ Branch
      marked =
          let y = (holds.nodes z is).points (λ e. cc (e, finds)) (let lt = at.port in omega (arith, lt)) in
          subst (λ q. (w.at z).mark q ≡ Branch) (same_Some y.port p (sym y.up ∙ up)) y.mark

      here : is_branch ((w.at z).mark p) ≡ true
      here = ap is_branch marked

      away : is_branch ((w.at (far g z p)).mark (far_port g z p)) ≡ false → ⊥
      away h = let q = (holds.resting.out z p at (record { here = marked; there = mark_branch _ h })).found z is refl in cc (q, finds)

  -- a node of fragment a that searches leads to one that probes
  abbrev LeadsToAsker : ℕ → ℕ → Type 0
  LeadsToAsker a v = InNetwork g v → (w.at v).fragment ≡ a → S v ≡ true → (w.at v).head.phase ≡ Find → Asker g w S a

  owing : (a v p : ℕ) →
      ((z : ℕ) → IsChild g (forest w) z v → LeadsToAsker a z) →
      At g v p →
      (w.at v).fragment ≡ a →
      S v ≡ true →
      (w.at v).head.phase ≡ Find →
      (w.at v).up ≢ Some p →
      Owed (end g w v p) (end g w (far g v p) (far_port g v p)) →
      Asker g w S a
  owing a v p below at same m finds ne (By_report h) = absurd (no_report v p at m finds ne h)
  owing a v p below at same m finds ne (By_call h) = absurd (no_call (far g v p) (far_port g v p) (wired.there v p at) (closed v p at m) h)
  owing a v p below at same m finds ne (By_search f b) =
      below z child (record { some = at'.some; node = at'.node })
      (holds.trees.joined_within (far g v p) (far_port g v p) at' child.joined ∙ ap (λ y. (w.at y).fragment) (wired.back v p at) ∙ same)
      (closed v p at m) f
    where
      z : ℕ
      z = far g v p

      at' : At g (far g v p) (far_port g v p)
      at' = wired.there v p at

      up : (w.at (far g v p)).up ≡ Some (far_port g v p)
      up = let s = (holds.nodes (far g v p) (record { some = at'.some; node = at'.node })).searching f in s.up ∙ sym s.in_branch ∙ b

      child : IsChild g (forest w) (far g v p) v
      child = record {
        port = far_port g v p;
        at = at';
        up = up;
        joined = search_joined (far g v p) (far_port g v p) at' f up;
        down = λ h. ne (subst₂ (λ a b. (w.at a).up ≡ Some b) (wired.back v p at) (wired.back_port v p at) h);
        to = wired.back v p at;
      }

  step : (a v : ℕ) → ((z : ℕ) → IsChild g (forest w) z v → LeadsToAsker a z) → LeadsToAsker a v
  step a v below is same m finds = go (w.at v).head.probe refl
    where
      count : is_missing (w.at v).head.probe ≡ true → 1 ≤ (w.at v).head.find_count
      count e = more (w.at v).head.find_count refl
        where
          more : (n : ℕ) → (w.at v).head.find_count ≡ n → 1 ≤ (w.at v).head.find_count
          more zero h = absurd (let y = awaits v is finds in let k : true ≡ false = sym (ap₂ (λ a b. a && b) (ap is_zero h) e) ∙ y in cc)
          more (suc n) h = omega (arith, h)

      go : (o : Option ℕ) → (w.at v).head.probe ≡ o → Asker g w S a
      go (Some p) e = record { node = v; port = p; is = is; member = m; inside = same; finds = finds; probe = e }
      go None e =
          let c = count (ap is_missing e) in
          let d = holds.counted v is in
          let t = some_term (length (g.ports v)) (λ p. debt (end g w v p) (end g w (far g v p) (far_port g v p))) (omega (arith, c, d)) in
          let at : At g v t.0 = record { some = is.some; node = is.node; port = t.1 } in
          let o = debt_is (end g w v t.0) (end g w (far g v t.0) (far_port g v t.0)) t.2 in
          owing a v t.0 below at same m finds o.0 (owed_is _ _ o.1)

  -- in a fragment that searches, without a call under way and without a Report but on the way, somebody probes
  pub someone_asks : (v : ℕ) → Reach g (forest w) v → InNetwork g v → S v ≡ true → (w.at v).head.phase ≡ Find → Asker g w S (w.at v).fragment
  someone_asks v r is m finds = upwards g (forest w) (LeadsToAsker (w.at v).fragment) (step (w.at v).fragment) v r is refl m finds
