-- What one act pays, the net pays; and what each row pays.
use Rattle.std.proofs.Common.{◌≡◌, ◌≢◌, ℕ, zero, suc, ◌+◌, ◌≤◌, ◌<◌, ◌==◌, true, false, nat_le, Option, Some, None, List, [], ◌∷◌, ◌++◌, refl, sym, ◌∙◌, ap, ap₂, subst, subst₂, arith, ⊎_elim, ne_eqb, eq-eqb, if◌then◌else◌}
use Rattle.std.proofs.lemmas.Bool.{cases_eq}
use Rattle.std.proofs.lemmas.Bool.Decides.{nat_tests}
use Rattle.ghs_graph.specs.declared.key.Key.{Key}
use Rattle.ghs_node.specs.declared.head.Head.{Head}
use Rattle.ghs_node.specs.declared.mark.Mark.{Mark}
use Rattle.ghs_node.specs.declared.mark.Mark.TheVariants.{Basic, Branch, Rejected}
use Rattle.ghs_node.specs.declared.message.Phase.{Phase}
use Rattle.ghs_node.specs.declared.message.Phase.TheVariants.{Sleeping, Find, Found}
use Rattle.ghs_node.specs.declared.message.Message.{Message}
use Rattle.ghs_node.specs.declared.message.Message.TheVariants.{Connect, Initiate}
use Rattle.ghs_node.specs.NodeState.{NodeState}
use Rattle.ghs_node.specs.Words.{Outgoing, is_at, better, on_branches_from}
use Rattle.ghs_node.specs.Reaction.{Ending, Probing, Reporting, Waiting, last_sends, phase_after, probe_after, no_probe, answered, heard, initiated, root_message}
use Rattle.ghs_node.specs.Rows.{Closes, Reports, Waits}
use Rattle.peer_network.specs.Network.{Network}
use Rattle.ghs_protocol.specs.Net.{Net}
use Rattle.ghs_protocol.specs.Ledger.{of_kind}
use Rattle.peer_network.specs.Sums.{sum_over_nodes}
use Rattle.ghs_protocol.specs.Payments.{testing}
use Rattle.ghs_protocol.proofs.clauses.Charges.{finding, moved_on, busy, IsLow, Charges, Pays, Acted}
use Rattle.ghs_protocol.proofs.clauses.Scene.{scene}
use Rattle.ghs_protocol.proofs.clauses.Whole.{opening_ghost}
use Rattle.ghs_protocol.proofs.charges.Due.{all_more}
use Rattle.ghs_protocol.proofs.lemmas.Sends.{messages}
use Rattle.peer_network.proofs.lemmas.Sums.{sum_one}

-- the number of one node changes
pub nodes_one : (g : Network) (f h : ℕ → ℕ) (v : ℕ) →
    1 ≤ v →
    v ≤ g.count →
    ((u : ℕ) → u ≢ v → f u ≡ h u) →
    sum_over_nodes g h + f v ≡ sum_over_nodes g f + h v
nodes_one g f h zero lo hi e = absurd (omega arith)
nodes_one g f h (suc v) lo hi e = sum_one g.count v (λ i. f (suc i)) (λ i. h (suc i)) (omega arith) (λ i ne. e (suc i) (λ z. ne (omega (arith, z))))

-- node v has acted
module _ (g : Network) (k v : ℕ) (lo : 1 ≤ v) (hi : v ≤ g.count) (up up' : ℕ → Option ℕ) (w w' : Net) (act : Acted g k v up up' w w') where
  tally : (f : Head → Option ℕ → ℕ) →
      sum_over_nodes g (λ u. f (w'.node u).head (up' u)) + f (w.node v).head (up v) ≡
      sum_over_nodes g (λ u. f (w.node u).head (up u)) + f (w'.node v).head (up' v)
  tally f =
      nodes_one g (λ u. f (w.node u).head (up u)) (λ u. f (w'.node u).head (up' u)) v lo hi
      (λ u ne. ap₂ (λ (n : NodeState) o. f n.head o) (sym (act.there u ne)) (sym (act.ways u ne)))

  pub charges_keep : Charges g k up w → Charges g k up' w'
  charges_keep old = record {
    calls = let t = tally (λ h o. h.level) in let c = act.consumed 1 in let p = act.pays.calls in omega (arith, t, c, old.calls, p);
    reports =
        let t = tally (λ h o. h.level) in
        let f = tally (λ h o. finding h.phase) in let c = act.sent 5 in let p = act.pays.reports in omega (arith, t, f, c, old.reports, p);
    roots =
        let t = tally (λ h o. h.level) in
        let f = tally (λ h o. moved_on h.in_branch o) in
        let c = act.sent 0 in let d = act.sent 6 in let p = act.pays.roots in omega (arith, t, f, c, d, old.roots, p);
    accepts =
        let t = tally (λ h o. h.level) in
        let f = tally (λ h o. busy k h.level h.probe) in
        let c = act.consumed 3 in let p = act.pays.accepts in omega (arith, t, f, c, old.accepts, p);
    tests =
        let f = tally (λ h o. testing h.probe) in
        let c = act.sent 2 in
        let d = act.sent 4 in
        let e = act.consumed 3 in
        let m = all_more g (scene w opening_ghost) (scene w' opening_ghost) v act.port act.paid_more act.ports in
        let p = act.pays.tests in omega (arith, f, c, d, e, m, old.tests, p);
    low = λ u is. ⊎_elim
        (λ (e : u ≡ v). subst (λ y. IsLow k (w'.node y).head (up' y)) (sym e) act.pays.low)
        (λ ne. subst₂ (λ n o. IsLow k n.head o) (sym (act.there u ne)) (sym (act.ways u ne)) (old.low u is))
        (cases_eq u v);
  }

pub busy_some : (k l p : ℕ) → busy k l (Some p) ≡ 1
busy_some k zero p = refl
busy_some k (suc l) p = elim (nat_le k (suc l)) as (λ b. ◌≡◌ {A = ℕ} (if b then 1 else 1) 1) [ true ↦ refl | false ↦ refl ]

testing_most : (o : Option ℕ) → testing o ≤ 1
testing_most None = omega arith
testing_most (Some p) = omega arith

pub busy_most : (k l : ℕ) (o : Option ℕ) → busy k l o ≤ 1
busy_most k zero o = testing_most o
busy_most k (suc l) o =
    let z = testing_most o in elim (nat_le k (suc l)) as (λ b. (if b then 1 else testing o) ≤ 1) [ true ↦ omega arith | false ↦ z ]

pub busy_below : (k l : ℕ) (o : Option ℕ) → l < k → busy k l o ≡ testing o
busy_below k zero o lt = refl
busy_below k (suc l) o lt = let z : nat_le k (suc l) ≡ false = search (nat_tests, arith, lt) in rw z refl

pub busy_top : (k l : ℕ) (o : Option ℕ) → 1 ≤ l → k ≤ l → busy k l o ≡ 1
busy_top k zero o le top = absurd (omega arith)
busy_top k (suc l) o le top = let z : nat_le k (suc l) ≡ true = search (nat_tests, arith, top) in rw z refl

pub moved_most : (c o : Option ℕ) → moved_on c o ≤ 1
moved_most c None = omega arith
moved_most c (Some p) = elim (is_at c p) as (λ b. (if b then 0 else 1) ≤ 1) [ true ↦ omega arith | false ↦ omega arith ]

pub finding_most : (s : Phase) → finding s ≤ 1
finding_most Sleeping = omega arith
finding_most Find = omega arith
finding_most Found = omega arith

at_home : (c o : Option ℕ) (p : ℕ) → c ≡ Some p → o ≡ Some p → ◌≡◌ {A = ℕ} (moved_on c o) 0
at_home c o p e h = ap₂ moved_on e h ∙ ap (λ b. if b then 0 else 1) (eq-eqb p p refl)

away : (c o : Option ℕ) (b : ℕ) → c ≢ Some b → o ≡ Some b → ◌≡◌ {A = ℕ} (moved_on c o) 1
away None o b ne h = ap (moved_on None) h
away (Some p) o b ne h = ap (moved_on (Some p)) h ∙ ap (λ b. if b then 0 else 1) (ne_eqb p b (λ z. ne (ap Some z)))

pub kinds_append : (j : ℕ) (a b : Outgoing) → of_kind j (messages (a ++ b)) ≡ of_kind j (messages a) + of_kind j (messages b)
kinds_append j [] b = omega arith
kinds_append j (s ∷ a) b = let z = kinds_append j a b in omega (arith, z)

-- Initiates are of one kind
abbrev pub AllCalls : Outgoing → Type 0
AllCalls ss = (j : ℕ) → j ≢ 1 → of_kind j (messages ss) ≡ 0

pub all_calls : (q : ℕ) (ms : List Mark) (i l : ℕ) (f : Key) (s : Phase) → AllCalls (on_branches_from q ms i (Initiate l f s))
all_calls q [] i l f s j ne = refl
all_calls q (Basic ∷ ms) i l f s j ne = all_calls (suc q) ms i l f s j ne
all_calls q (Rejected ∷ ms) i l f s j ne = all_calls (suc q) ms i l f s j ne
all_calls q (Branch ∷ ms) i l f s j ne =
    let z = all_calls (suc q) ms i l f s j ne in
    let one : (1 == j) ≡ false = ne_eqb 1 j (λ e. ne (sym e)) in
    elim (q == i) as (λ b.
    of_kind j (messages
    (if b then on_branches_from (suc q) ms i (Initiate l f s) else ((q, Initiate l f s) ∷ on_branches_from (suc q) ms i (Initiate l f s)))) ≡
    0)
    [ true ↦ z | false ↦ rw one (omega (arith, z)) ]

module _ (k : ℕ) (h : Head) (o : Option ℕ) (low : IsLow k h o) where
  -- nothing that counts changes
  pub pays_idle :
      (x : Head) (c : ℕ → ℕ) (ss : List Message) (d : ℕ) → x.level ≡ h.level →
      x.phase ≡ h.phase →
      x.in_branch ≡ h.in_branch →
      x.best ≡ h.best →
      x.probe ≡ h.probe →
      c 1 ≡ 0 → c 3 ≡ 0 → of_kind 0 ss ≡ 0 → of_kind 6 ss ≡ 0 → of_kind 5 ss ≡ 0 → of_kind 2 ss + of_kind 4 ss ≡ d → Pays k h o x o c ss d
  pays_idle x c ss d level phase way best probe c1 c3 s0 s6 s5 s24 = record {
    calls = omega (arith, c1, level);
    reports = let z = ap finding phase in omega (arith, s5, z, level);
    roots = let z = ap (λ y. moved_on y o) way in omega (arith, s0, s6, z, level);
    accepts = let z = ap₂ (busy k) level probe in omega (arith, c3, z, level);
    tests = let z = ap testing probe in omega (arith, c3, s24, z);
    low = record {
      moved = λ m. let z = low.moved (subst (λ y. 1 ≤ moved_on y o) way m) in omega (arith, z, level);
      best = λ m. let z = low.best (subst (λ y. y ≢ None) best m) in omega (arith, z, level);
    };
    rises = λ r. absurd (omega (arith, r, level));
  }

  -- a port stops being probed, and pays; then the next is tested, or the node reports or waits
  pub pays_turn : (j : ℕ) (c : ℕ → ℕ) (e : Ending) → h.probe ≡ Some j → h.phase ≡ Find → c 1 ≡ 0 → c 3 ≡ 0 →
      Pays k h o (record h { phase = phase_after h.phase e; probe = probe_after None e }) o c (messages (last_sends (no_probe h) e)) 1
  pays_turn j c (Probing p) own finds c1 c3 = record {
    calls = omega (arith, c1);
    reports = omega arith;
    roots = omega arith;
    accepts = let a = busy_some k h.level p in let b = ap (busy k h.level) own ∙ busy_some k h.level j in omega (arith, c3, a, b);
    tests = let z = ap testing own in omega (arith, c3, z);
    low = record { moved = low.moved; best = low.best };
    rises = λ r. absurd (omega (arith, r));
  }
  pays_turn j c Reporting own finds c1 c3 = record {
    calls = omega (arith, c1);
    reports = let z = ap finding finds in omega (arith, z);
    roots = omega arith;
    accepts = let a = busy_most k h.level None in let b = ap (busy k h.level) own ∙ busy_some k h.level j in omega (arith, c3, a, b);
    tests = let z = ap testing own in omega (arith, c3, z);
    low = record { moved = low.moved; best = low.best };
    rises = λ r. absurd (omega (arith, r));
  }
  pays_turn j c Waiting own finds c1 c3 = record {
    calls = omega (arith, c1);
    reports = omega arith;
    roots = omega arith;
    accepts = let a = busy_most k h.level None in let b = ap (busy k h.level) own ∙ busy_some k h.level j in omega (arith, c3, a, b);
    tests = let z = ap testing own in omega (arith, c3, z);
    low = record { moved = low.moved; best = low.best };
    rises = λ r. absurd (omega (arith, r));
  }

  -- an Accept comes in, and the node reports or waits
  pub pays_accept : (j : ℕ) (q : Option Key) (c : ℕ → ℕ) (e : Ending) →
      h.probe ≡ Some j →
      h.phase ≡ Find →
      h.level < k →
      c 1 ≡ 0 →
      c 3 ≡ 1 →
      Closes (answered h j q) e →
      Pays k h o
      (record (answered h j q) { phase = phase_after h.phase e; probe = probe_after None e }) o c (messages (last_sends (answered h j q) e)) 0
  pays_accept j q c _ own finds lt c1 c3 (Reports _ _) = record {
    calls = omega (arith, c1);
    reports = let z = ap finding finds in omega (arith, z);
    roots = omega arith;
    accepts = let a = busy_below k h.level None lt in let b = ap (busy k h.level) own ∙ busy_some k h.level j in omega (arith, c3, a, b);
    tests = let z = ap testing own in omega (arith, c3, z);
    low = record { moved = low.moved; best = λ m. lt };
    rises = λ r. absurd (omega (arith, r));
  }
  pays_accept j q c _ own finds lt c1 c3 (Waits _) = record {
    calls = omega (arith, c1);
    reports = omega arith;
    roots = omega arith;
    accepts = let a = busy_below k h.level None lt in let b = ap (busy k h.level) own ∙ busy_some k h.level j in omega (arith, c3, a, b);
    tests = let z = ap testing own in omega (arith, c3, z);
    low = record { moved = low.moved; best = λ m. lt };
    rises = λ r. absurd (omega (arith, r));
  }

  -- a Report comes in
  pub pays_report : (i j : ℕ) (q : Option Key) (c : ℕ → ℕ) (e : Ending) →
      h.phase ≡ Find →
      (q ≢ None → h.level < k) →
      c 1 ≡ 0 →
      c 3 ≡ 0 →
      Closes (heard h i j q) e →
      Pays k h o
      (record (heard h i j q) { phase = phase_after h.phase e; probe = probe_after h.probe e }) o c (messages (last_sends (heard h i j q) e))
      0
  pays_report i j q c e finds lt c1 c3 closes = go e closes
    where
      found : (q : Option Key) → (q ≢ None → h.level < k) → better h.best j q ≢ None → h.level < k
      found None f ne = low.best ne
      found (Some y) f ne = f (λ z. cc)

      go : (e : Ending) →
          Closes (heard h i j q) e →
          Pays k h o
          (record (heard h i j q) { phase = phase_after h.phase e; probe = probe_after h.probe e }) o c (messages (last_sends (heard h i j q) e))
          0
      go _ (Reports _ _) = record {
        calls = omega (arith, c1);
        reports = let z = ap finding finds in omega (arith, z);
        roots = omega arith;
        accepts = omega (arith, c3);
        tests = omega (arith, c3);
        low = record { moved = low.moved; best = found q lt };
        rises = λ r. absurd (omega (arith, r));
      }
      go _ (Waits _) = record {
        calls = omega (arith, c1);
        reports = omega arith;
        roots = omega arith;
        accepts = omega (arith, c3);
        tests = omega (arith, c3);
        low = record { moved = low.moved; best = found q lt };
        rises = λ r. absurd (omega (arith, r));
      }

  -- an Initiate comes in
  pub pays_rest : (j l : ℕ) (f : Key) (i : ℕ) (c : ℕ → ℕ) (ss : Outgoing) → h.level < l → o ≡ Some j → c 1 ≡ 1 → c 3 ≡ 0 → AllCalls ss →
      Pays k h o (initiated h j l f Found i) o c (messages ss) 0
  pays_rest j l f i c ss lt up c1 c3 calls = record {
    calls = omega (arith, c1, lt);
    reports = let z = calls 5 (λ e. omega (arith, e)) in omega (arith, z, lt);
    roots =
        let z = calls 0 (λ e. omega (arith, e)) in
        let y = calls 6 (λ e. omega (arith, e)) in let m = moved_most h.in_branch o in omega (arith, z, y, m, lt);
    accepts = let a = busy_most k l h.probe in omega (arith, c3, a, lt);
    tests = let z = calls 2 (λ e. omega (arith, e)) in let y = calls 4 (λ e. omega (arith, e)) in omega (arith, c3, z, y);
    low = record { moved = λ m. absurd (let z = at_home (Some j) o j refl up in omega (arith, z, m)); best = λ m. absurd (m refl) };
    rises = λ r. (
      omega (arith, c1),
      c3,
      (let z = calls 0 (λ e. omega (arith, e)) in let y = calls 6 (λ e. omega (arith, e)) in omega (arith, z, y)),
      (let z = calls 5 (λ e. omega (arith, e)) in omega (arith, z)),
    );
  }

  pub pays_search : (j l : ℕ) (f : Key) (i : ℕ) (c : ℕ → ℕ) (ss : Outgoing) (e : Ending) →
      h.level < l →
      h.probe ≡ None →
      o ≡ Some j →
      c 1 ≡ 1 →
      c 3 ≡ 0 →
      AllCalls ss →
      Pays k h o
      (record (no_probe (initiated h j l f Find i)) { phase = phase_after Find e; probe = probe_after None e }) o c
      (messages (ss ++ last_sends (no_probe (initiated h j l f Find i)) e)) 0
  pays_search j l f i c ss e lt free up c1 c3 calls = record {
    calls = omega (arith, c1, lt);
    reports = let z = sent 5 (λ e. omega (arith, e)) in let y = report e in omega (arith, z, y, lt);
    roots =
        let z = sent 0 (λ e. omega (arith, e)) in
        let y = sent 6 (λ e. omega (arith, e)) in let m = moved_most h.in_branch o in let r = root e in omega (arith, z, y, m, r, lt);
    accepts = let a = busy_most k l (probe_after None e) in omega (arith, c3, a, lt);
    tests =
        let z = sent 2 (λ e. omega (arith, e)) in
        let y = sent 4 (λ e. omega (arith, e)) in let t = test e in let p = ap testing free in omega (arith, c3, z, y, t, p);
    low = record { moved = λ m. absurd (let z = at_home (Some j) o j refl up in omega (arith, z, m)); best = λ m. absurd (m refl) };
    rises = λ r. (
      omega (arith, c1),
      c3,
      (let z = sent 0 (λ e. omega (arith, e)) in let y = sent 6 (λ e. omega (arith, e)) in let x = root e in omega (arith, z, y, x)),
      (let z = sent 5 (λ e. omega (arith, e)) in let y = report e in omega (arith, z, y)),
    );
  }
    where
      sent : (a : ℕ) →
          a ≢ 1 →
          of_kind a (messages (ss ++ last_sends (no_probe (initiated h j l f Find i)) e)) ≡
          of_kind a (messages (last_sends (no_probe (initiated h j l f Find i)) e))
      sent a ne = let z = kinds_append a ss (last_sends (no_probe (initiated h j l f Find i)) e) in let y = calls a ne in omega (arith, z, y)

      report : (e : Ending) → of_kind 5 (messages (last_sends (no_probe (initiated h j l f Find i)) e)) + finding (phase_after Find e) ≤ 1
      report (Probing p) = omega arith
      report Reporting = omega arith
      report Waiting = omega arith

      root : (e : Ending) →
          of_kind 0 (messages (last_sends (no_probe (initiated h j l f Find i)) e)) + of_kind 6
          (messages (last_sends (no_probe (initiated h j l f Find i)) e)) ≡ 0
      root (Probing p) = refl
      root Reporting = refl
      root Waiting = refl

      test : (e : Ending) →
          of_kind 2 (messages (last_sends (no_probe (initiated h j l f Find i)) e)) + of_kind 4
          (messages (last_sends (no_probe (initiated h j l f Find i)) e)) ≡ testing (probe_after None e)
      test (Probing p) = refl
      test Reporting = refl
      test Waiting = refl

  -- the root is sent on
  pub pays_root : (p b : ℕ) (m : Mark) (c : ℕ → ℕ) → h.in_branch ≡ Some p → o ≡ Some p → h.in_branch ≢ Some b → h.level < k → c 1 ≡ 0 → c 3 ≡ 0 →
      Pays k h o h (Some b) c (messages ((b, root_message m h.level) ∷ [])) 0
  pays_root p b m c way up other lt c1 c3 = record {
    calls = omega (arith, c1);
    reports = let z = none 5 m in omega (arith, z.0);
    roots = let z = one m in let y = at_home h.in_branch o p way up in let a = away h.in_branch (Some b) b other refl in omega (arith, z, y, a);
    accepts = omega (arith, c3);
    tests = let z = none 5 m in omega (arith, c3, z.1);
    low = record { moved = λ x. lt; best = λ x. lt };
    rises = λ r. absurd (omega (arith, r));
  }
    where
      none : (j : ℕ) (m : Mark) →
          (of_kind 5 (messages ((b, root_message m h.level) ∷ [])) ≡ 0) ×
          (of_kind 2 (messages ((b, root_message m h.level) ∷ [])) + of_kind 4 (messages ((b, root_message m h.level) ∷ [])) ≡ 0)
      none j Basic = (refl, refl)
      none j Branch = (refl, refl)
      none j Rejected = (refl, refl)

      one : (m : Mark) → of_kind 0 (messages ((b, root_message m h.level) ∷ [])) + of_kind 6 (messages ((b, root_message m h.level) ∷ [])) ≡ 1
      one Basic = refl
      one Branch = refl
      one Rejected = refl

-- a node wakes over its least link
pub pays_wake : (k : ℕ) (h : Head) (c : ℕ → ℕ) →
    1 ≤ k →
    ◌≡◌ {A = ℕ} h.level 0 →
    h.phase ≡ Sleeping →
    h.in_branch ≡ None →
    h.best ≡ None →
    c 1 ≡ 0 →
    c 3 ≡ 0 →
    Pays k h None (record h { level = 0; phase = Found; find_count = 0 }) (Some 0) c (messages ((0, Connect 0) ∷ [])) 0
pays_wake k h c le level sleeps way best c1 c3 = record {
  calls = omega (arith, c1, level);
  reports = omega (arith, level);
  roots = let a = away h.in_branch (Some 0) 0 (λ e. let z = sym way ∙ e in cc) refl in omega (arith, level, a);
  accepts = let z = ap (λ l. busy k l h.probe) level in omega (arith, c3, level, z);
  tests = omega (arith, c3);
  low = record { moved = λ m. le; best = λ m. absurd (m best) };
  rises = λ r. absurd (omega (arith, r));
}

-- a node without links wakes
pub pays_alone : (k : ℕ) (h : Head) (c : ℕ → ℕ) → h.phase ≡ Sleeping → h.best ≡ None → c 1 ≡ 0 → c 3 ≡ 0 →
    Pays k h None (record h { phase = Found; halted = true }) None c [] 0
pays_alone k h c sleeps best c1 c3 = record {
  calls = omega (arith, c1);
  reports = omega arith;
  roots = omega arith;
  accepts = omega (arith, c3);
  tests = omega (arith, c3);
  low = record { moved = λ m. absurd (omega (arith, m)); best = λ m. absurd (m best) };
  rises = λ r. absurd (omega (arith, r));
}
