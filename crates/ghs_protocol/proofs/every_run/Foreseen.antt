-- No lawful event is without a rule.
use Rattle.std.proofs.Common.{◌≡◌, ◌≢◌, ℕ, zero, suc, ◌+◌, ◌^◌, ◌<◌, ◌≤◌, true, false, not, ◌&&◌, Option, Some, List, [], ◌∷◌, length, refl, sym, ◌∙◌, ap, subst, arith, ⊎_elim, ◌⊎◌, if◌then◌else◌, pow_mono}
use Rattle.std.proofs.lemmas.Bool.{cases_eq, cases_lt}
use Rattle.ghs_graph.specs.declared.key.Key.{Key}
use Rattle.ghs_node.specs.declared.mark.Mark.TheVariants.{Branch}
use Rattle.ghs_node.specs.declared.message.Phase.{Phase}
use Rattle.ghs_node.specs.declared.message.Phase.TheVariants.{Sleeping, Find, Found}
use Rattle.ghs_node.specs.declared.message.Message.{Message}
use Rattle.ghs_node.specs.declared.message.Message.TheVariants.{Connect, Initiate, Accept, Reject, Report, ChangeRoot}
use Rattle.ghs_node.specs.declared.work.Work.TheVariants.{Deliver}
use Rattle.ghs_node.specs.Words.{is_branch, is_at, on_branches, find_more}
use Rattle.ghs_node.specs.NodeState.{degree}
use Rattle.ghs_node.specs.NoRule.{NoRule, IsForAwake, An_initiate, An_accept, A_reject, A_report, A_change_root, Still_asleep, Initiate_too_low, Initiate_to_sleep, Accept_untested, Reject_untested, Report_unowed, Root_without_best, Merge_above_levels, Absorbs_too_many, Searches_too_many}
use Rattle.peer_network.specs.Network.{Network, At, port_at, far, far_port, InNetwork}
use Rattle.peer_network.proofs.lemmas.Wired.{IsWired}
use Rattle.ghs_protocol.specs.Net.{Net}
use Rattle.ghs_protocol.specs.Nodes.{IsNodeOf}
use Rattle.peer_network.specs.Sums.{sum_below}
use Rattle.ghs_protocol.proofs.acts.Many.{few_nodes}
use Rattle.ghs_protocol.proofs.clauses.Scene.{End, end, tree_end, see, scene, Ghost, far_end}
use Rattle.ghs_protocol.proofs.clauses.Changes.{marked}
use Rattle.ghs_protocol.proofs.clauses.Links.{Joins, Ups}
use Rattle.ghs_protocol.proofs.clauses.Nodes.{Searching}
use Rattle.ghs_protocol.proofs.clauses.Rest.{owes, debt}
use Rattle.ghs_protocol.proofs.clauses.Whole.{Invariant, NamesOf}
use Rattle.ghs_protocol.proofs.lemmas.Nodes.{ports_many}
use Rattle.peer_network.proofs.lemmas.Sums.{sum_same, term_le, sum_few}
use Rattle.ghs_protocol.proofs.rows.Link.{link_leads, link_clauses}
use Rattle.ghs_protocol.proofs.search.ReportGone.{debt_one, debt_up}
use Rattle.ghs_protocol.proofs.search.FirstReport as reports
use Rattle.ghs_protocol.proofs.search.FirstReport.{mark_is}
use Rattle.ghs_protocol.proofs.union.CoreAnswered.{asked_on}
use Rattle.ghs_protocol.proofs.root.AtRoot.{root_sent}
use Rattle.ghs_protocol.proofs.search.Called.{Calls, calls}
use Rattle.ghs_protocol.proofs.rows.Read.{is_tree, tree_first, accept_first, reject_first}
use Rattle.ghs_protocol.proofs.lemmas.Few.{branches_few}

-- where one of them is 0
pub sum_lacks : (n j : ℕ) (f : ℕ → ℕ) → j < n → ((i : ℕ) → f i ≤ 1) → f j ≡ 0 → sum_below n f < n
sum_lacks zero j f lt most none = absurd (omega arith)
sum_lacks (suc n) j f lt most none =
    ⊎_elim (λ (e : j ≡ n). let z = sum_few n f most in let y : ◌≡◌ {A = ℕ} (f n) 0 = ap f (sym e) ∙ none in omega (arith, z, y))
    (λ ne. let z = sum_lacks n j f (omega arith) most none in let y = most n in omega (arith, z, y)) (cases_eq j n)

module _ (g : Network) (wired : IsWired g) (few : g.count ≤ 1048576) (v p : ℕ) (at : At g v p) (w : Net) (is : IsNodeOf g v (w.node v))
    (gh : Ghost) (holds : Invariant g (scene w gh)) where
  inside : InNetwork g v
  inside = record { some = at.some; node = at.node }

  open link_clauses g wired (scene w gh) holds v p at use {link, link'}

  ways :
      Joins (tree_end (end g (scene w gh) v p)) (tree_end (far_end g (scene w gh) v p)) →
      Ups (tree_end (end g (scene w gh) v p)) ⊎ Ups (tree_end (far_end g (scene w gh) v p))
  ways = link_leads g wired (scene w gh) holds v p at

  -- to a sleeping node no other message comes than a Connect or a Test
  quiet_sleep : (m : Message) (ms : List Message) →
      w.queue v p ≡ m ∷ ms →
      is_tree m ≡ true →
      ((l : ℕ) → m ≢ Connect l) →
      (w.node v).head.phase ≡ Sleeping →
      ⊥
  quiet_sleep m ms q tree other sleeps =
      ⊎_elim
      (λ b.
      other (tree_end (far_end g (scene w gh) v p)).level
      (let z : m ∷ (see ms).tree ≡ Connect (tree_end (far_end g (scene w gh) v p)).level ∷ [] =
      sym first ∙ (link'.tree.out_connect (record { here = b; there = bare })).one in
      cc))
      (λ b. let z : m ∷ (see ms).tree ≡ [] = sym first ∙ link.tree.silent bare b in cc) (mark_is (tree_end (far_end g (scene w gh) v p)).mark)
    where
      bare : (tree_end (end g (scene w gh) v p)).mark ≢ Branch
      bare = ((holds.nodes v inside).untouched sleeps).marks p

      first : (see (w.queue v p)).tree ≡ m ∷ (see ms).tree
      first = tree_first (w.queue v p) ms m tree q

  -- answers come to who probes
  answered : (w.node v).head.probe ≢ Some p → ((see (w.queue v p)).accepts ≡ 0) × ((see (w.queue v p)).rejects ≡ 0)
  answered ne = let z = link.tests.not_probing ne in (z.accepts, z.rejects)

  unprobed : (w.node v).head.phase ≡ Sleeping → (w.node v).head.probe ≢ Some p
  unprobed s e = let z = ((holds.nodes v inside).untouched s).probe in cc (z, e)

  no_accept : (ms : List Message) → w.queue v p ≡ Accept ∷ ms → (w.node v).head.probe ≢ Some p → ⊥
  no_accept ms q ne = let z = (answered ne).0 in let y = accept_first (w.queue v p) ms q in omega (arith, z, y)

  no_reject : (ms : List Message) → w.queue v p ≡ Reject ∷ ms → (w.node v).head.probe ≢ Some p → ⊥
  no_reject ms q ne = let z = (answered ne).1 in let y = reject_first (w.queue v p) ms q in omega (arith, z, y)

  asleep_foreseen : (m : Message) (ms : List Message) → w.queue v p ≡ m ∷ ms → IsForAwake m → (w.node v).head.phase ≡ Sleeping → ⊥
  asleep_foreseen m ms q An_initiate s = quiet_sleep m ms q refl (λ l z. cc) s
  asleep_foreseen m ms q An_accept s = no_accept ms q (unprobed s)
  asleep_foreseen m ms q A_reject s = no_reject ms q (unprobed s)
  asleep_foreseen m ms q A_report s = quiet_sleep m ms q refl (λ l z. cc) s
  asleep_foreseen m ms q A_change_root s = quiet_sleep m ms q refl (λ l z. cc) s

  -- an Initiate rises
  called_by :
      (l : ℕ) (n : Key) (s : Phase) (ms : List Message) → w.queue v p ≡ Initiate l n s ∷ ms →
      Calls (NamesOf g (scene w gh) (gh.fragment v)) (tree_end (end g (scene w gh) v p)) (tree_end (far_end g (scene w gh) v p)) l n s (see ms).tree
  called_by l n s ms q =
      calls (tree_end (end g (scene w gh) v p)) (tree_end (far_end g (scene w gh) v p)) link.tree link'.tree ways own lags l n s
      (see ms).tree
      (tree_first (w.queue v p) ms (Initiate l n s) refl q)
    where
      own :
          Joins (tree_end (end g (scene w gh) v p)) (tree_end (far_end g (scene w gh) v p)) →
          NamesOf g (scene w gh) (gh.fragment v) (port_at g v p).key
      own j = record {
        node = v;
        port = p;
        at = at;
        joined = record { here = ap is_branch j.here; there = ap is_branch j.there };
        fragment = refl;
        key = refl;
      }

      lags :
          Joins (tree_end (end g (scene w gh) v p)) (tree_end (far_end g (scene w gh) v p)) →
          (tree_end (far_end g (scene w gh) v p)).level ≤ (tree_end (end g (scene w gh) v p)).coming
      lags j =
          let t = wired.there v p at in
          let same = (holds.trees.by_fragment v (far g v p)
          (holds.trees.joined_within v p at (record { here = ap is_branch j.here; there = ap is_branch j.there }))).0 in
          let z = (holds.nodes (far g v p) (record { some = t.some; node = t.node })).lag.level in
          omega (arith, same, z)

  -- find_count
  owed : (w.node v).head.find_count ≡ sum_below (length (g.ports v)) (λ i. debt (end g (scene w gh) v i) (far_end g (scene w gh) v i))
  owed =
      holds.counted v inside ∙
      sum_same (length (g.ports v)) _ _
      (λ i lt.
      let at' : At g v i = record { some = at.some; node = at.node; port = lt } in
      ap (debt (end g (scene w gh) v i)) (λ k. record {
        port = far_port g v i;
        key = wired.same_key v i at' k;
        mark = ((scene w gh).at (far g v i)).mark (far_port g v i);
        is = (scene w gh).at (far g v i);
        seen = (scene w gh).seen (far g v i) (far_port g v i);
      }))

  debt_most : (e f : End) → debt e f ≤ 1
  debt_most e f = elim (not (is_at e.is.up e.port) && owes e f) as (λ b. (if b then 1 else 0) ≤ 1) [ true ↦ omega arith | false ↦ omega arith ]

  -- who searches waits for less Reports than it has ports
  owed_few : (w.node v).head.phase ≡ Find → (w.node v).head.find_count < degree (w.node v)
  owed_few finds =
      let s : Searching ((scene w gh).at v) = (holds.nodes v inside).searching finds in
      let lt : s.port < length (g.ports v) = (holds.nodes v inside).own_ports.in_branch s.port s.in_branch in
      let z = sum_lacks (length (g.ports v)) s.port (λ i. debt (end g (scene w gh) v i) (far_end g (scene w gh) v i)) lt
      (λ i. debt_most (end g (scene w gh) v i) (far_end g (scene w gh) v i))
      (debt_up (end g (scene w gh) v s.port) (far_end g (scene w gh) v s.port) s.up) in
      omega (arith, z, owed, ports_many is)

  more_few : degree (w.node v) < find_more (w.node v).head.phase (w.node v).head.find_count → ⊥
  more_few many = go (w.node v).head.phase refl
    where
      go : (s : Phase) → (w.node v).head.phase ≡ s → ⊥
      go Find e =
          let y : degree (w.node v) < suc (w.node v).head.find_count =
          subst (λ s. degree (w.node v) < find_more s (w.node v).head.find_count) e many in
          let z = owed_few e in
          omega (arith, y, z)
      go Found e =
          let y : degree (w.node v) < (w.node v).head.find_count = subst (λ s. degree (w.node v) < find_more s (w.node v).head.find_count) e many in
          let z = ((holds.nodes v inside).idle (λ h. cc (e, h))).1 in
          omega (arith, y, z)
      go Sleeping e =
          let y : degree (w.node v) < (w.node v).head.find_count = subst (λ s. degree (w.node v) < find_more s (w.node v).head.find_count) e many in
          let z = ((holds.nodes v inside).idle (λ h. cc (e, h))).1 in
          omega (arith, y, z)

  -- a fragment's coming level is one that a network of so few nodes can have
  coming_most : gh.coming (gh.fragment v) ≤ 20
  coming_most = ⊎_elim (λ big. absurd (too_many big)) (λ small. omega (arith, small)) (cases_lt 20 (gh.coming (gh.fragment v)))
    where
      too_many : 20 < gh.coming (gh.fragment v) → ⊥
      too_many big =
          let many : 2 ^ gh.coming (gh.fragment v) ≤ g.count = few_nodes g _ (λ x z. z.0) (holds.trees.sizes v inside) in
          let power : 2 ^ 21 ≤ 2 ^ gh.coming (gh.fragment v) = pow_mono big in
          omega (arith, many, power, few)

  -- a Report over another link than the way to the core is owed
  unowed : (k : Option Key) (ms : List Message) →
      w.queue v p ≡ Report k ∷ ms →
      (w.node v).head.in_branch ≢ Some p →
      (w.node v).head.find_count ≡ 0 →
      ⊥
  unowed k ms q ne none = omega (arith, none, owed, term, one)
    where
      f : ℕ → ℕ
      f i = debt (end g (scene w gh) v i) (far_end g (scene w gh) v i)

      term : f p ≤ sum_below (length (g.ports v)) f
      term = term_le (length (g.ports v)) p f at.port

      one : ◌≡◌ {A = ℕ} (f p) 1
      one =
          debt_one (end g (scene w gh) v p) (far_end g (scene w gh) v p)
          (reports.heard_first (tree_end (end g (scene w gh) v p)) (tree_end (far_end g (scene w gh) v p)) link.tree link'.tree ways k
          (see ms).tree (tree_first (w.queue v p) ms (Report k) refl q) ne).child.down
          (rw (tree_first (w.queue v p) ms (Report k) refl q) refl)

  search_few :
      (l : ℕ) (n : Key) (ms : List Message) → w.queue v p ≡ Initiate l n Find ∷ ms →
      degree (w.node v) < (w.node v).head.find_count + length (on_branches (w.node v).marks p (Initiate l n Find)) → ⊥
  search_few l n ms q many =
      let c = called_by l n Find ms q in
      let z = ((holds.nodes v inside).idle
      (λ h. let y = ((holds.nodes v inside).searching h).level in let r = c.rises in let t = c.most in omega (arith, y, r, t))).1 in
      let few' = branches_few 0 (w.node v).marks p (Initiate l n Find) in
      omega (arith, z, few', many)

  pub foreseen : (m : Message) (ms : List Message) → w.queue v p ≡ m ∷ ms → NoRule (w.node v) (Deliver p m) → ⊥
  foreseen m ms q (Still_asleep s a) = asleep_foreseen m ms q a s
  foreseen m ms q (Initiate_too_low {l = l} {f = f} {s = s} up le) = let z = (called_by l f s ms q).rises in omega (arith, z, le)
  foreseen m ms q (Initiate_to_sleep {l = l} {f = f} up) = (called_by l f Sleeping ms q).awake refl
  foreseen m ms q (Accept_untested up ne) = no_accept ms q ne
  foreseen m ms q (Reject_untested up ne) = no_reject ms q ne
  foreseen m ms q (Report_unowed {w = k} up ne z) = unowed k ms q ne z
  foreseen m ms q (Root_without_best up none) =
      (root_sent (tree_end (end g (scene w gh) v p)) (tree_end (far_end g (scene w gh) v p)) link.tree link'.tree ways (see ms).tree
      (tree_first (w.queue v p) ms ChangeRoot refl q)).fits.best
      none
  foreseen m ms q (Merge_above_levels {l = l} up top le marked) =
      let z = (asked_on (tree_end (end g (scene w gh) v p)) (tree_end (far_end g (scene w gh) v p)) link.tree link'.tree ways l
      (see ms).tree
      (tree_first (w.queue v p) ms (Connect l) refl q) marked).below in
      omega (arith, z, top, coming_most)
  foreseen m ms q (Absorbs_too_many up lt many) = more_few many
  foreseen m ms q (Searches_too_many {l = l} {f = f} up lt many) = search_few l f ms q many
