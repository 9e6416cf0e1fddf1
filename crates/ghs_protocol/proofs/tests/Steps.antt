-- The steps on Tests and answers keep the invariant.
use Rattle.std.proofs.Common.{◌≡◌, ◌≢◌, ℕ, suc, ◌<◌, ◌≤◌, Some, None, List, [], ◌∷◌, refl, sym, ◌∙◌, ap, subst, length, le_refl}
use Rattle.std.proofs.lemmas.Option.{same_Some}
use Rattle.ghs_graph.specs.declared.key.Key.{Key}
use Rattle.ghs_node.specs.declared.mark.Mark.{Mark}
use Rattle.ghs_node.specs.declared.mark.Mark.TheVariants.{Basic}
use Rattle.ghs_node.specs.declared.message.Phase.TheVariants.{Sleeping, Find}
use Rattle.ghs_node.specs.declared.message.Message.TheVariants.{Accept, Reject, Test}
use Rattle.peer_network.specs.Network.{Network, port_at, At, far, far_port, InNetwork}
use Rattle.peer_network.proofs.lemmas.Wired.{IsWired}
use Rattle.peer_network.specs.Updates.{put}
use Rattle.peer_network.proofs.lemmas.Updates.{put_same, put_other}
use Rattle.ghs_protocol.proofs.clauses.Scene.{Seen, Member, Scene, End, tree_end, test_end, end, forest, acts, far_end}
use Rattle.ghs_protocol.proofs.clauses.Changes.{left_tests, left_rejects, seen_beyond, rejected, marked, rules_out, took_reject}
use Rattle.ghs_protocol.proofs.clauses.Nodes.{NodeFits}
use Rattle.ghs_protocol.proofs.clauses.Tests.{TestsFit}
use Rattle.ghs_protocol.proofs.clauses.Whole.{LinkFits, Invariant, NamesOf}
use Rattle.ghs_protocol.proofs.clauses.Wiring.{IsKeyed}
use Rattle.ghs_protocol.proofs.acts.OneLink.{sends_none, sends_one, at_near, at_far, onto, sums_one, kept_one}
use Rattle.ghs_protocol.proofs.tests.Links.{not_some, tests_aside, tests_aside', accept_here, accept_there, reject_here, reject_there, reject_frag, cross_frag, cross_here, cross_there, rejected_facts, rejected_here, rejected_there, scan_here, scan_there}
use Rattle.ghs_protocol.proofs.acts.Situations.{probing_finds, tops_alike, named_apart, one_fragment, tree_rejected, tree_rejected', search_rejected, search_rejected', node_turned, branch_marked, within_marked}
use Rattle.ghs_protocol.proofs.rows.Link.{node_clauses}

module _ (g : Network) (wired : IsWired g) (u : ℕ) (u_is : InNetwork g u) (j : ℕ) (at : At g u j) (w : Scene) (holds : Invariant g w) where
  abbrev pub beyond' : End
  beyond' = onto g wired u u_is (w.at u) j at (w.seen u j) [] [] (sends_none j) w j

  open node_clauses g wired w holds u u_is use {fits as here_fits}

  far_fits : NodeFits (length (g.ports (far g u j))) (w.at (far g u j))
  far_fits = let t = wired.there u j at in holds.nodes (far g u j) (record { some = t.some; node = t.node })

  link : LinkFits (NamesOf g w) (end g w u j) beyond'
  link = at_near g wired w (LinkFits (NamesOf g w)) holds.links u j at

  link' : LinkFits (NamesOf g w) beyond' (end g w u j)
  link' = at_far g wired w (LinkFits (NamesOf g w)) holds.links u j at

  same_ghosts :
      (w.at (far g u j)).fragment ≡ (w.at u).fragment →
      ((w.at (far g u j)).coming ≡ (w.at u).coming) × ((w.at (far g u j)).coming_name ≡ (w.at u).coming_name)
  same_ghosts e = holds.trees.by_fragment (far g u j) u e

  -- a Test of another name is accepted
  pub accept_sends : (l : ℕ) (n : Key) (ts : List (ℕ × Key)) →
      (w.seen u j).tests ≡ (l, n) ∷ ts →
      l ≤ (w.at u).head.level →
      (w.at u).head.name ≢ Some n →
      Invariant g (acts g u (w.at u) (left_tests w u j ts) ((j, Accept) ∷ []) w)
  accept_sends l n ts waits le other =
      kept_one g wired u u_is (w.at u) j at (record (w.seen u j) { tests = ts }) (Accept ∷ []) ((j, Accept) ∷ []) (sends_one j Accept) w
      (record {
        alike = record { fragment = refl; coming = refl; coming_name = refl; up = refl; branch = λ p. refl };
        found = λ e. e;
        mine = λ e. e;
        theirs = λ e. e;
      })
      holds here_fits
      (record {
        tree = link.tree;
        search = link.search;
        tests = accept_here (test_end (end g w u j)) (test_end beyond') l n ts waits link.tests link'.tests other apart le;
      })
      (record {
        tree = link'.tree;
        search = link'.search;
        tests = accept_there (test_end (end g w u j)) (test_end beyond') l n ts waits link.tests link'.tests other apart le;
      })
      (λ i at' ne a b. a) (λ i at' ne a b. b) (λ e. e) refl
      (sums_one g wired u u_is (w.at u) j at (record (w.seen u j) { tests = ts }) (Accept ∷ []) ((j, Accept) ∷ []) (sends_one j Accept) w
      holds.counted refl (λ i ne. refl) refl (λ i ne. refl))
    where
      apart :
          (w.at (far g u j)).head.probe ≡ Some (far_port g u j) →
          l ≡ (w.at (far g u j)).head.level →
          (w.at (far g u j)).head.name ≡ Some n →
          (w.at (far g u j)).fragment ≢ (w.at u).fragment
      apart p e name =
          named_apart (w.at u) (w.at (far g u j)) l n here_fits.lag far_fits.lag same_ghosts le e
          (far_fits.searching (probing_finds far_fits p)).level name other

  -- a name is of one fragment, at the two ends
  pub one_name : (n : Key) →
      IsKeyed g →
      (w.at u).head.name ≡ Some n →
      (w.at (far g u j)).head.name ≡ Some n →
      (w.at u).fragment ≡ (w.at (far g u j)).fragment
  one_name n keyed e f =
      let t = wired.there u j at in
      one_fragment g (forest w) _ _ n keyed holds.trees.joined_within (holds.named u n u_is e)
      (holds.named (far g u j) n (record { some = t.some; node = t.node }) f)

  -- an end of u, turned into x, with this mark
  abbrev marked_end : Member → Seen → ℕ → Mark → End
  marked_end x q i z = record { port = i; key = (port_at g u i).key; mark = z; is = x; seen = q }

  -- at a link but j's, a mark of u's is as it was
  aside : (x : Member) (i : ℕ) → i ≢ j → x.mark ≡ marked (w.at u).mark j → (P : Mark → Type 0) → P ((w.at u).mark i) → P (x.mark i)
  aside x i ne e P h = subst P (sym (ap (λ (f : ℕ → Mark). f i) e ∙ put_other (w.at u).mark j i (rejected ((w.at u).mark j)) ne)) h

  ahead : (P : Mark → Type 0) → P (rejected ((w.at u).mark j)) → P (marked (w.at u).mark j j)
  ahead P h = subst P (sym (put_same (w.at u).mark j (rejected ((w.at u).mark j)))) h

  -- a Test of one's own name comes from one's own fragment
  pub reject_inside : (l : ℕ) (n : Key) (ts : List (ℕ × Key)) →
      IsKeyed g →
      (w.seen u j).tests ≡ (l, n) ∷ ts →
      (w.at u).head.name ≡ Some n →
      (w.at u).head.probe ≢ Some j →
      (w.at u).fragment ≡ (w.at (far g u j)).fragment
  reject_inside l n ts keyed waits name free =
      reject_frag (test_end (end g w u j)) (test_end beyond') l n ts waits link.tests link'.tests free (λ p e. one_name n keyed name e)

  -- a Test of one's own name is rejected
  pub reject_sends : (l : ℕ) (n : Key) (ts : List (ℕ × Key)) →
      IsKeyed g →
      (w.at u).head.phase ≢ Sleeping →
      (w.seen u j).tests ≡ (l, n) ∷ ts →
      (w.at u).head.name ≡ Some n →
      (w.at u).head.probe ≢ Some j →
      Invariant g (acts g u (rules_out (w.at u) j) (left_tests w u j ts) ((j, Reject) ∷ []) w)
  reject_sends l n ts keyed awake waits name free =
      kept_one g wired u u_is x j at q (Reject ∷ []) ((j, Reject) ∷ []) (sends_one j Reject) w
      (record {
        alike = record { fragment = refl; coming = refl; coming_name = refl; up = refl; branch = branch_marked (w.at u).mark j };
        found = λ e. e;
        mine = λ e. e;
        theirs = λ e. e;
      })
      holds
      (node_turned (length (g.ports u)) (w.at u) (marked (w.at u).mark j) _ _ _ here_fits awake (branch_marked (w.at u).mark j)
      (within_marked (w.at u).mark j _ at.port here_fits.own_ports.mark) here_fits.own_ports.probe here_fits.idle here_fits.best_port)
      (ahead (λ z. LinkFits (NamesOf g w) (marked_end x q j z) there') (record {
        tree = tree_rejected (tree_end (end g w u j)) (tree_end beyond') inside ((w.at u).mark j) link.tree;
        search = search_rejected (tree_end (end g w u j)) (tree_end beyond') inside ((w.at u).mark j) link.search;
        tests = reject_here (test_end (end g w u j)) (test_end beyond') l n ts waits link.tests link'.tests free same;
      }))
      (ahead (λ z. LinkFits (NamesOf g w) there' (marked_end x q j z)) (record {
        tree = tree_rejected' (tree_end (end g w u j)) (tree_end beyond') inside ((w.at u).mark j) link'.tree;
        search = search_rejected' (tree_end (end g w u j)) (tree_end beyond') inside ((w.at u).mark j) link'.search;
        tests = reject_there (test_end (end g w u j)) (test_end beyond') l n ts waits link.tests link'.tests free same;
      }))
      (λ i at' ne a b.
      aside x i ne refl (λ z. LinkFits (NamesOf g w) (marked_end x (w.seen u i) i z) (far_end g w u i))
      (record { tree = a.tree; search = a.search; tests = a.tests }))
      (λ i at' ne a b.
      aside x i ne refl (λ z. LinkFits (NamesOf g w) (far_end g w u i) (marked_end x (w.seen u i) i z))
      (record { tree = b.tree; search = b.search; tests = b.tests }))
      (λ e. e) refl
      (sums_one g wired u u_is x j at q (Reject ∷ []) ((j, Reject) ∷ []) (sends_one j Reject) w holds.counted refl (λ i ne. refl) refl (λ i ne. refl))
    where
      x : Member
      x = rules_out (w.at u) j

      q : Seen
      q = record (w.seen u j) { tests = ts }

      there' : End
      there' = record beyond' { seen = record (seen_beyond g w u j) { rejects = suc (seen_beyond g w u j).rejects } }

      same :
          (w.at (far g u j)).head.probe ≡ Some (far_port g u j) →
          (w.at (far g u j)).head.name ≡ Some n →
          (w.at u).fragment ≡ (w.at (far g u j)).fragment
      same p e = one_name n keyed name e

      inside : (w.at u).fragment ≡ (w.at (far g u j)).fragment
      inside = reject_frag (test_end (end g w u j)) (test_end beyond') l n ts waits link.tests link'.tests free same

  elsewhere : (i : ℕ) → i ≢ j → (w.at u).head.probe ≡ Some j → (w.at u).head.probe ≢ Some i
  elsewhere i ne own = λ z. ne (sym (same_Some j i (sym own ∙ z)))

  -- where both ends probe the link, they are at their fragment's level and have its name
  tops : (w.at u).head.probe ≡ Some j →
      (w.at (far g u j)).head.probe ≡ Some (far_port g u j) →
      (w.at u).fragment ≡ (w.at (far g u j)).fragment →
      ((w.at u).head.level ≡ (w.at (far g u j)).head.level) × ((w.at u).head.name ≡ (w.at (far g u j)).head.name)
  tops own p e =
      let t = same_ghosts (sym e) in
      tops_alike (w.at u) (w.at (far g u j)) here_fits.lag far_fits.lag (sym t.0) (sym t.1)
      (here_fits.searching (probing_finds here_fits own)).level (far_fits.searching (probing_finds far_fits p)).level

  -- so does one that crosses one's own Test
  pub cross_inside : (l : ℕ) (n : Key) (ts : List (ℕ × Key)) →
      IsKeyed g →
      (w.seen u j).tests ≡ (l, n) ∷ ts →
      (w.at u).head.name ≡ Some n →
      (w.at u).head.probe ≡ Some j →
      (w.at u).fragment ≡ (w.at (far g u j)).fragment
  cross_inside l n ts keyed waits name own =
      cross_frag (test_end (end g w u j)) (test_end beyond') l n ts waits link.tests link'.tests own (λ p e. one_name n keyed name e) (tops own)

  -- what u's probe has brought says that the far end lies inside: the mark turns Rejected, and the probe is dropped
  probe_rejected : (ts : List (ℕ × Key)) (r : ℕ) →
      (w.at u).head.probe ≡ Some j →
      (w.at u).fragment ≡ (w.at (far g u j)).fragment →
      TestsFit (test_end (marked_end (took_reject (w.at u) j) (record (w.seen u j) { tests = ts; rejects = r }) j (rejected ((w.at u).mark j))))
      (test_end beyond') →
      TestsFit (test_end beyond')
      (test_end (marked_end (took_reject (w.at u) j) (record (w.seen u j) { tests = ts; rejects = r }) j (rejected ((w.at u).mark j)))) →
      Invariant g (acts g u (took_reject (w.at u) j) (put (w.seen u) j (record (w.seen u j) { tests = ts; rejects = r })) [] w)
  probe_rejected ts r own inside tests_here tests_there =
      kept_one g wired u u_is x j at q [] [] (sends_none j) w
      (record {
        alike = record { fragment = refl; coming = refl; coming_name = refl; up = refl; branch = branch_marked (w.at u).mark j };
        found = λ e. e;
        mine = λ e. e;
        theirs = λ e. e;
      })
      holds
      (node_turned (length (g.ports u)) (w.at u) (marked (w.at u).mark j) None _ _ here_fits (λ z. cc (finds, z))
      (branch_marked (w.at u).mark j) (within_marked (w.at u).mark j _ at.port here_fits.own_ports.mark)
      (λ p z. absurd (not_some None p refl z)) (λ z. (refl, (here_fits.idle z).1))
      here_fits.best_port)
      (ahead (λ z. LinkFits (NamesOf g w) (marked_end x q j z) beyond') (record {
        tree = tree_rejected (tree_end (end g w u j)) (tree_end beyond') inside ((w.at u).mark j) link.tree;
        search = search_rejected (tree_end (end g w u j)) (tree_end beyond') inside ((w.at u).mark j) link.search;
        tests = tests_here;
      }))
      (ahead (λ z. LinkFits (NamesOf g w) beyond' (marked_end x q j z)) (record {
        tree = tree_rejected' (tree_end (end g w u j)) (tree_end beyond') inside ((w.at u).mark j) link'.tree;
        search = search_rejected' (tree_end (end g w u j)) (tree_end beyond') inside ((w.at u).mark j) link'.search;
        tests = tests_there;
      }))
      (λ i at' ne a b.
      aside x i ne refl (λ z. LinkFits (NamesOf g w) (marked_end x (w.seen u i) i z) (far_end g w u i)) (record {
        tree = a.tree;
        search = a.search;
        tests =
            tests_aside (test_end (end g w u i)) (test_end (far_end g w u i)) None _ _ (elsewhere i ne own) (not_some None i refl) (le_refl _)
            a.tests b.tests;
      }))
      (λ i at' ne a b.
      aside x i ne refl (λ z. LinkFits (NamesOf g w) (far_end g w u i) (marked_end x (w.seen u i) i z)) (record {
        tree = b.tree;
        search = b.search;
        tests =
            tests_aside' (test_end (end g w u i)) (test_end (far_end g w u i)) None _ (w.at u).head.name (elsewhere i ne own)
            (not_some None i refl) (le_refl _)
            a.tests b.tests;
      }))
      (λ e. e) refl
      (sums_one g wired u u_is x j at q [] [] (sends_none j) w holds.counted refl (λ i ne. refl) refl (λ i ne. refl))
    where
      x : Member
      x = took_reject (w.at u) j

      q : Seen
      q = record (w.seen u j) { tests = ts; rejects = r }

      finds : (w.at u).head.phase ≡ Find
      finds = probing_finds here_fits own

  -- a Test of one's own name that crosses one's own Test
  pub crosses : (l : ℕ) (n : Key) (ts : List (ℕ × Key)) →
      IsKeyed g →
      (w.seen u j).tests ≡ (l, n) ∷ ts →
      (w.at u).head.name ≡ Some n →
      (w.at u).head.probe ≡ Some j →
      Invariant g (acts g u (took_reject (w.at u) j) (left_tests w u j ts) [] w)
  crosses l n ts keyed waits name own =
      probe_rejected ts (w.seen u j).rejects own (cross_inside l n ts keyed waits name own)
      (cross_here (test_end (end g w u j)) (test_end beyond') l n ts waits link.tests link'.tests own (λ p e. one_name n keyed name e) (tops own))
      (cross_there (test_end (end g w u j)) (test_end beyond') l n ts waits link.tests link'.tests own (λ p e. one_name n keyed name e) (tops own))

  -- a Reject is heard
  pub hears_reject : (r : ℕ) →
      (w.seen u j).rejects ≡ suc r →
      (w.at u).head.probe ≡ Some j →
      Invariant g (acts g u (took_reject (w.at u) j) (left_rejects w u j r) [] w)
  hears_reject r waits own =
      probe_rejected (w.seen u j).tests r own
      (sym (rejected_facts (test_end (end g w u j)) (test_end beyond') own link.tests link'.tests r waits).0)
      (rejected_here (test_end (end g w u j)) (test_end beyond') own link.tests link'.tests r waits)
      (rejected_there (test_end (end g w u j)) (test_end beyond') own link.tests link'.tests r waits)

  -- the next Test goes out, where a Basic port is left
  pub scans : (n : Key) →
      (w.at u).head.name ≡ Some n →
      (w.at u).head.phase ≡ Find →
      (w.at u).head.probe ≡ None →
      (w.at u).mark j ≡ Basic →
      Invariant g (acts g u (record (w.at u) { head = record (w.at u).head { probe = Some j } }) (put (w.seen u) j (w.seen u j))
      ((j, Test (w.at u).head.level n) ∷ []) w)
  scans n name finds free basic =
      kept_one g wired u u_is x j at (w.seen u j) (Test (w.at u).head.level n ∷ []) ((j, Test (w.at u).head.level n) ∷ [])
      (sends_one j (Test (w.at u).head.level n)) w
      (record {
        alike = record { fragment = refl; coming = refl; coming_name = refl; up = refl; branch = λ p. refl };
        found = λ e. e;
        mine = λ e. e;
        theirs = λ e. e;
      })
      holds
      (node_turned (length (g.ports u)) (w.at u) (w.at u).mark (Some j) _ _ here_fits (λ z. cc (finds, z)) (λ p. refl) here_fits.own_ports.mark
      (λ p z. subst (λ y. y < length (g.ports u)) (same_Some j p z) at.port)
      (λ z. absurd (z finds)) here_fits.best_port)
      (record {
        tree = link.tree;
        search = link.search;
        tests = scan_here (test_end (end g w u j)) (test_end beyond') n name free basic link.tests link'.tests;
      })
      (record {
        tree = link'.tree;
        search = link'.search;
        tests = scan_there (test_end (end g w u j)) (test_end beyond') n name free basic link.tests link'.tests;
      })
      (λ i at' ne a b. record {
        tree = a.tree;
        search = a.search;
        tests =
            tests_aside (test_end (end g w u i))
            (test_end (onto g wired u u_is x j at (w.seen u j) [] [] (sends_none j) w i)) (Some j) _ _ (not_some _ i free)
            (λ z. ne (sym (same_Some j i z))) (le_refl _)
            a.tests b.tests;
      })
      (λ i at' ne a b. record {
        tree = b.tree;
        search = b.search;
        tests =
            tests_aside' (test_end (end g w u i))
            (test_end (onto g wired u u_is x j at (w.seen u j) [] [] (sends_none j) w i)) (Some j) _ (w.at u).head.name (not_some _ i free)
            (λ z. ne (sym (same_Some j i z))) (le_refl _)
            a.tests b.tests;
      })
      (λ e. e) refl
      (sums_one g wired u u_is x j at (w.seen u j) (Test (w.at u).head.level n ∷ []) ((j, Test (w.at u).head.level n) ∷ [])
      (sends_one j (Test (w.at u).head.level n)) w holds.counted refl (λ i ne. refl) refl (λ i ne. refl))
    where
      x : Member
      x = record (w.at u) { head = record (w.at u).head { probe = Some j } }
