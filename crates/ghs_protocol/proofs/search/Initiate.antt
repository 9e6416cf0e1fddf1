-- An Initiate is heard and passed on: the invariant is kept.
use Rattle.std.proofs.Common.{◌≡◌, ◌≢◌, ℕ, zero, suc, ◌+◌, ◌<◌, ◌≤◌, Bool, true, false, ◌&&◌, ◌||◌, Option, Some, None, List, [], ◌∷◌, ◌++◌, refl, sym, ◌∙◌, ap, subst, subst₂, ⊎_elim, ◌⊎◌, length, arith, cond, eq-eqb, ne_eqb, zero-add}
use Rattle.std.proofs.lemmas.Option.{same_Some}
use Rattle.std.proofs.lemmas.Bool.{cases_eq, or_parts}
use Rattle.ghs_graph.specs.declared.key.Key.{Key}
use Rattle.ghs_node.specs.declared.mark.Mark.{Mark}
use Rattle.ghs_node.specs.declared.mark.Mark.TheVariants.{Branch}
use Rattle.ghs_node.specs.declared.message.Phase.{Phase}
use Rattle.ghs_node.specs.declared.message.Phase.TheVariants.{Sleeping, Find, Found}
use Rattle.ghs_node.specs.declared.message.Message.{Message}
use Rattle.ghs_node.specs.declared.message.Message.TheVariants.{Connect, Initiate, Test, Accept, Reject, Report, ChangeRoot}
use Rattle.ghs_node.specs.Words.{Outgoing, is_branch, is_find, on_branches}
use Rattle.peer_network.specs.Network.{Network, port_at, At, far, far_port, InNetwork}
use Rattle.peer_network.proofs.lemmas.Wired.{IsWired}
use Rattle.peer_network.specs.Updates.{put}
use Rattle.peer_network.specs.Sums.{sum_below}
use Rattle.ghs_protocol.proofs.clauses.Scene.{Seen, add, adds, Member, Scene, End, tree_end, test_end, end, forest, acts, far_end}
use Rattle.ghs_protocol.proofs.clauses.Changes.{left_tree, seen_beyond, took_initiate, took_rest}
use Rattle.ghs_protocol.proofs.clauses.Nodes.{NodeFits}
use Rattle.ghs_protocol.proofs.clauses.Links.{Joins, Ups}
use Rattle.ghs_protocol.proofs.clauses.Fragments.{Names}
use Rattle.ghs_protocol.proofs.clauses.Rest.{DebtsCounted, debt, Quiet, has_call}
use Rattle.ghs_protocol.proofs.clauses.Whole.{Invariant, NamesOf, LinkFits}
use Rattle.ghs_protocol.proofs.clauses.Uniting.{MarksAre}
use Rattle.ghs_protocol.specs.Steps.{sent_on}
use Rattle.peer_network.proofs.lemmas.Updates.{put_same, put_other}
use Rattle.peer_network.proofs.lemmas.Sums.{sum_same}
use Rattle.ghs_protocol.proofs.acts.SameForest.{Alike, near', far', quiet_after, forest_after, sums_after, kept_after, not_branch}
use Rattle.ghs_protocol.proofs.acts.OneLink.{debt_within}
use Rattle.ghs_protocol.proofs.tests.Links.{tests_aside, tests_aside', not_some}
use Rattle.ghs_protocol.proofs.rest.StaysAtRest.{rests_alike}
use Rattle.ghs_protocol.proofs.search.ReportGone.{debt_up, debt_one}
use Rattle.ghs_protocol.proofs.search.FirstReport.{mark_is}
use Rattle.ghs_protocol.proofs.search.PassedOn.{forwards_on, forwards_many, one_on}
use Rattle.ghs_protocol.proofs.search.Called.{Calls, calls, tree_told, tree_told', tree_past, tree_past', tree_passed, tree_passed', search_told, search_told'}
use Rattle.ghs_protocol.proofs.lemmas.Balance.{none_or_none}
use Rattle.ghs_protocol.proofs.rows.Link.{node_clauses, not_the_way, link_leads, joined_clauses}
use Rattle.ghs_node.proofs.lemmas.{found_is}

pub has_call_more : (xs : List Message) (l : ℕ) (n : Key) (s : Phase) → has_call (xs ++ Initiate l n s ∷ []) ≡ (has_call xs || is_find s)
has_call_more [] l n Sleeping = refl
has_call_more [] l n Find = refl
has_call_more [] l n Found = refl
has_call_more (Initiate k f Find ∷ xs) l n s = refl
has_call_more (Initiate k f Found ∷ xs) l n s = has_call_more xs l n s
has_call_more (Initiate k f Sleeping ∷ xs) l n s = has_call_more xs l n s
has_call_more (Connect _ ∷ xs) l n s = has_call_more xs l n s
has_call_more (Test _ _ ∷ xs) l n s = has_call_more xs l n s
has_call_more (Accept ∷ xs) l n s = has_call_more xs l n s
has_call_more (Reject ∷ xs) l n s = has_call_more xs l n s
has_call_more (Report _ ∷ xs) l n s = has_call_more xs l n s
has_call_more (ChangeRoot ∷ xs) l n s = has_call_more xs l n s

pub has_call_first : (xs : List Message) (l : ℕ) (n : Key) (s : Phase) → has_call (Initiate l n s ∷ xs) ≡ (is_find s || has_call xs)
has_call_first xs l n Sleeping = refl
has_call_first xs l n Find = refl
has_call_first xs l n Found = refl

and_false : (b : Bool) → (b && false) ≡ false
and_false true = refl
and_false false = refl

or_false : (b : Bool) → (b || false) ≡ b
or_false true = refl
or_false false = refl

turn_about : (b c : Bool) → (b || (c && true)) ≡ ((c || b) || false)
turn_about true true = refl
turn_about true false = refl
turn_about false true = refl
turn_about false false = refl

not_find : (p : Phase) → p ≢ Find → is_find p ≡ false
not_find Sleeping ne = refl
not_find Find ne = absurd (ne refl)
not_find Found ne = refl

any_true : (a b c : Bool) → (a || ((b || true) || c)) ≡ true
any_true true b c = refl
any_true false true c = refl
any_true false false c = refl

zero_of : (a b : ℕ) → a ≤ b → b ≡ 0 → a ≡ 0
zero_of a b le e = omega (arith, le, e)

sum_zero : (n : ℕ) → sum_below n (λ i. 0) ≡ 0
sum_zero zero = refl
sum_zero (suc n) = let z = sum_zero n in omega (arith, z)

module _ (g : Network) (wired : IsWired g) (u : ℕ) (u_is : InNetwork g u) (j : ℕ) (at : At g u j) (w : Scene) (holds : Invariant g w)
    (l : ℕ) (n : Key) (s : Phase) (ms : List Message) (xs : List Mark) (marks : MarksAre g u (w.at u) xs)
    (waits : (w.seen u j).tree ≡ Initiate l n s ∷ ms) (o : Option ℕ) (quit : o ≡ None) (count : ℕ)
    (counts : ◌≡◌ {A = ℕ} (w.at u).head.find_count 0 → count ≡ cond (is_find s) (length (on_branches xs j (Initiate l n s))) 0) where
  abbrev pub hearer : Member
  hearer = took_initiate (w.at u) l n s j o count

  abbrev pub left : Seen
  left = record (w.seen u j) { tree = ms }

  abbrev pub passing : Outgoing
  passing = on_branches xs j (Initiate l n s)

  abbrev pub still : ℕ → End
  still i = record { port = i; key = (port_at g u i).key; mark = (w.at u).mark i; is = hearer; seen = w.seen u i }

  abbrev pub heard_at : End
  heard_at = record { port = j; key = (port_at g u j).key; mark = (w.at u).mark j; is = hearer; seen = left }

  abbrev pub passed : ℕ → End
  passed i = record (far_end g w u i) { seen = add (seen_beyond g w u i) (Initiate l n s) }

  abbrev pub initiated : Scene
  initiated = acts g u hearer (put (w.seen u) j left) passing w

  here : InNetwork g u
  here = u_is

  open node_clauses g wired w holds u u_is use {fits, link, link'}

  pub ghosts : (i : ℕ) →
      At g u i →
      Joins (tree_end (end g w u i)) (tree_end (far_end g w u i)) →
      ((w.at (far g u i)).coming ≡ (w.at u).coming) × ((w.at (far g u i)).coming_name ≡ (w.at u).coming_name)
  ghosts i at' h = (joined_clauses g w holds u i at' h).ghosts

  named : Joins (tree_end (end g w u j)) (tree_end (far_end g w u j)) → NamesOf g w (w.at u).fragment (port_at g u j).key
  named h = record {
    node = u;
    port = j;
    at = at;
    joined = record { here = ap is_branch h.here; there = ap is_branch h.there };
    fragment = refl;
    key = refl;
  }

  lags : Joins (tree_end (end g w u j)) (tree_end (far_end g w u j)) → (w.at (far g u j)).head.level ≤ (w.at u).coming
  lags h =
      let t = wired.there u j at in
      let z = (holds.nodes (far g u j) (record { some = t.some; node = t.node })).lag.level in omega (arith, z, (ghosts j at h).0)

  pub call : Calls (NamesOf g w (w.at u).fragment) (tree_end (end g w u j)) (tree_end (far_end g w u j)) l n s ms
  call =
      calls (tree_end (end g w u j)) (tree_end (far_end g w u j)) (link j at).tree (link' j at).tree (link_leads g wired w holds u j at) named lags
      l n s ms waits

  pub found : (w.at u).head.phase ≡ Found
  found = go (w.at u).head.phase refl
    where
      go : (p : Phase) → (w.at u).head.phase ≡ p → (w.at u).head.phase ≡ Found
      go Sleeping e = absurd (let z = (fits.untouched e).up in let y = call.up in cc)
      go Find e = absurd (let z = (fits.searching e).level in let a = call.rises in let b = call.most in omega (arith, z, a, b))
      go Found e = e

  pub idle : ((w.at u).head.probe ≡ None) × (◌≡◌ {A = ℕ} (w.at u).head.find_count 0)
  idle = fits.idle (λ z. cc (z, found))

  pub branch_joined : (i : ℕ) → At g u i → i ≢ j → (w.at u).mark i ≡ Branch → Joins (tree_end (end g w u i)) (tree_end (far_end g w u i))
  branch_joined i at' ne b =
      ⊎_elim (λ z. record { here = b; there = z })
      (λ z. absurd (not_the_way call.up i ne ((link i at').tree.out_connect (record { here = b; there = z })).up))
      (mark_is ((w.at (far g u i)).mark (far_port g u i)))

  pub child : (i : ℕ) → At g u i → i ≢ j → (w.at u).mark i ≡ Branch → Ups (tree_end (far_end g w u i))
  child i at' ne b = ⊎_elim (λ z. absurd (not_the_way call.up i ne z)) (λ z. z) (link_leads g wired w holds u i at' (branch_joined i at' ne b))

  -- what goes out on each port
  sent_here : sent_on passing j ≡ []
  sent_here = forwards_on xs j j (Initiate l n s) ∙ rw (eq-eqb j j refl, and_false) refl

  sent_branch : (i : ℕ) → i ≢ j → (w.at u).mark i ≡ Branch → sent_on passing i ≡ Initiate l n s ∷ []
  sent_branch i ne b = forwards_on xs j i (Initiate l n s) ∙ rw (← marks.marks i, b, ne_eqb i j ne) refl

  sent_other : (i : ℕ) → (w.at u).mark i ≢ Branch → sent_on passing i ≡ []
  sent_other i nb = forwards_on xs j i (Initiate l n s) ∙ rw (← marks.marks i, not_branch ((w.at u).mark i) nb) refl

  -- an end of u, and a far one, with what is read there and what came there
  abbrev hearing : ℕ → Seen → End
  hearing i q = record { port = i; key = (port_at g u i).key; mark = (w.at u).mark i; is = hearer; seen = q }

  abbrev beyond : ℕ → List Message → End
  beyond i more = record (far_end g w u i) { seen = adds (seen_beyond g w u i) more }

  abbrev near_then : ℕ → End
  near_then i = near' g wired u u_is hearer (put (w.seen u) j left) passing w i

  abbrev far_then : ℕ → End
  far_then i = far' g wired u u_is hearer (put (w.seen u) j left) passing w i

  -- by the three sorts of port
  pub by_port_at : (P : ℕ → End → End → Type 0) →
      P j heard_at (far_end g w u j) →
      ((i : ℕ) → At g u i → i ≢ j → (w.at u).mark i ≡ Branch → P i (still i) (passed i)) →
      ((i : ℕ) → At g u i → i ≢ j → (w.at u).mark i ≢ Branch → P i (still i) (far_end g w u i)) →
      (i : ℕ) → At g u i → P i (near_then i) (far_then i)
  by_port_at P hit branch other i at' = ⊎_elim at_j elsewhere (cases_eq i j)
    where
      at_j : i ≡ j → P i (near_then i) (far_then i)
      at_j e =
          subst (λ y. P y (near_then y) (far_then y)) (sym e)
          (subst₂ (λ q more. P j (hearing j q) (beyond j more)) (sym (put_same (w.seen u) j left)) (sym sent_here) hit)

      as_sent : (more : List Message) → i ≢ j → sent_on passing i ≡ more → P i (still i) (beyond i more) → P i (near_then i) (far_then i)
      as_sent more ne sent = subst₂ (λ q out. P i (hearing i q) (beyond i out)) (sym (put_other (w.seen u) j i left ne)) (sym sent)

      elsewhere : i ≢ j → P i (near_then i) (far_then i)
      elsewhere ne =
          ⊎_elim
          (λ b. as_sent (Initiate l n s ∷ []) ne (sent_branch i ne b) (branch i at' ne b))
          (λ nb. as_sent [] ne (sent_other i nb) (other i at' ne nb))
          (mark_is ((w.at u).mark i))

  by_port : (P : End → End → Type 0) →
      P heard_at (far_end g w u j) →
      ((i : ℕ) → At g u i → i ≢ j → (w.at u).mark i ≡ Branch → P (still i) (passed i)) →
      ((i : ℕ) → At g u i → i ≢ j → (w.at u).mark i ≢ Branch → P (still i) (far_end g w u i)) →
      (i : ℕ) → At g u i → P (near_then i) (far_then i)
  by_port P = by_port_at (λ i. P)

  -- the node
  node : NodeFits (length (g.ports u)) hearer
  node = record {
    own_ports = record {
      probe = λ p e. absurd (not_some o p quit e);
      in_branch = λ p e. subst (λ y. y < length (g.ports u)) (same_Some j p e) at.port;
      mark = fits.own_ports.mark;
    };
    untouched = λ e. absurd (call.awake e);
    points = λ e lt. let z = fits.points (λ y. cc (y, found)) lt in record { port = z.port; up = z.up; within = z.within; mark = z.mark };
    idle = λ z. (quit, counts idle.1 ∙ ap (λ b. cond b (length (on_branches xs j (Initiate l n s))) 0) (not_find s z));
    searching = λ e. record { level = call.find e; port = j; in_branch = refl; up = call.up };
    naming = record {
      level = λ e. absurd (let z = e in cc);
      in_branch = λ e. absurd (let z = call.rises in omega (arith, z, e));
      name = λ e. absurd (let z = e in cc);
    };
    lag = record { level = call.most; name = λ e. sym (call.name e) };
    best_port = λ p k e. absurd (let z = e in cc);
  }

  -- nobody owed a Report before
  owed_none : (i : ℕ) → At g u i → ◌≡◌ {A = ℕ} (debt (end g w u i) (far_end g w u i)) 0
  owed_none i at' = zero_of _ _ (debt_within g wired w holds.counted u i at') idle.1

  value : ℕ → ℕ
  value i = cond (is_find s) (one_on xs 0 j i) 0

  owed_here : (i : ℕ) →
      At g u i →
      debt (near' g wired u u_is hearer (put (w.seen u) j left) passing w i) (far' g wired u u_is hearer (put (w.seen u) j left) passing w i) ≡
      value i
  unfolding value
  owed_here = by_port (λ e f. debt e f ≡ value e.port) hit branch other
    where
      hit : debt heard_at (far_end g w u j) ≡ value j
      hit = debt_up heard_at (far_end g w u j) call.up ∙ sym (rw (zero-add, eq-eqb j j refl, and_false, none_or_none) refl)

      branch : (i : ℕ) → At g u i → i ≢ j → (w.at u).mark i ≡ Branch → debt (still i) (passed i) ≡ value i
      branch i at' ne b = go (is_find s) refl
        where
          go : (c : Bool) → is_find s ≡ c → debt (still i) (passed i) ≡ cond c (one_on xs 0 j i) 0
          go true e =
              debt_one (still i) (passed i) (not_the_way call.up i ne) (rw (has_call_more (seen_beyond g w u i).tree l n s, e) (any_true _ _ _)) ∙
              sym (rw (zero-add, ← marks.marks i, b, ne_eqb i j ne) refl)
          go false e = rw (has_call_more (seen_beyond g w u i).tree l n s, e, or_false) (owed_none i at')

      other : (i : ℕ) → At g u i → i ≢ j → (w.at u).mark i ≢ Branch → debt (still i) (far_end g w u i) ≡ value i
      other i at' ne nb = owed_none i at' ∙ sym (rw (← marks.marks i, not_branch ((w.at u).mark i) nb, none_or_none) refl)

  total : count ≡ sum_below (length (g.ports u)) value
  unfolding value
  total = counts idle.1 ∙ go (is_find s)
    where
      go : (c : Bool) → cond c (length (on_branches xs j (Initiate l n s))) 0 ≡ sum_below (length (g.ports u)) (λ i. cond c (one_on xs 0 j i) 0)
      go true = forwards_many xs j (Initiate l n s) ∙ ap (λ k. sum_below k (one_on xs 0 j)) marks.ports
      go false = sym (sum_zero (length (g.ports u)))

  owed_there : (i : ℕ) →
      At g u i →
      debt (far' g wired u u_is hearer (put (w.seen u) j left) passing w i) (near' g wired u u_is hearer (put (w.seen u) j left) passing w i) ≡
      debt (far_end g w u i) (end g w u i)
  owed_there = by_port (λ e f. debt f e ≡ debt (far_end g w u e.port) (end g w u e.port)) hit branch other
    where
      hit : debt (far_end g w u j) heard_at ≡ debt (far_end g w u j) (end g w u j)
      hit = rw (waits, has_call_first ms l n s, found, eq-eqb j j refl, turn_about) refl

      branch : (i : ℕ) → At g u i → i ≢ j → (w.at u).mark i ≡ Branch → debt (passed i) (still i) ≡ debt (far_end g w u i) (end g w u i)
      branch i at' ne b = debt_up (passed i) (still i) (child i at' ne b) ∙ sym (debt_up (far_end g w u i) (end g w u i) (child i at' ne b))

      other : (i : ℕ) → At g u i → i ≢ j → (w.at u).mark i ≢ Branch → debt (far_end g w u i) (still i) ≡ debt (far_end g w u i) (end g w u i)
      other i at' ne nb = rw (ne_eqb j i (λ z. ne (sym z)), found, and_false) refl

  debts : DebtsCounted g initiated
  debts =
      sums_after g wired u u_is hearer (put (w.seen u) j left) passing w holds.counted
      (total ∙ sum_same (length (g.ports u)) _ _ (λ i lt. sym (owed_here i (record { some = u_is.some; node = u_is.node; port = lt }))))
      owed_there

  -- the links, from this node's ends and from the far ones
  quits : (i : ℕ) → (w.at u).head.probe ≢ Some i
  quits i = not_some (w.at u).head.probe i idle.0

  low : (w.at u).head.level ≤ l
  low = let z = call.rises in omega (arith, z)

  fits_near : (i : ℕ) →
      At g u i →
      LinkFits (NamesOf g w) (near' g wired u u_is hearer (put (w.seen u) j left) passing w i)
      (far' g wired u u_is hearer (put (w.seen u) j left) passing w i)
  fits_near = by_port (LinkFits (NamesOf g w)) hit branch other
    where
      hit : LinkFits (NamesOf g w) heard_at (far_end g w u j)
      hit = record {
        tree = tree_told (NamesOf g w) (tree_end (end g w u j)) (tree_end (far_end g w u j)) l n s ms call;
        search =
            search_told (tree_end (end g w u j)) (tree_end (far_end g w u j)) l s (Some j) call.rises call.most ms (seen_beyond g w u j).tree
            (link j at).search;
        tests =
            tests_aside (test_end (end g w u j)) (test_end (far_end g w u j)) o l (Some n) (quits j) (not_some o j quit) low (link j at).tests
            (link' j at).tests;
      }

      branch : (i : ℕ) → At g u i → i ≢ j → (w.at u).mark i ≡ Branch → LinkFits (NamesOf g w) (still i) (passed i)
      branch i at' ne b = let jo = branch_joined i at' ne b in record {
        tree =
            tree_passed (NamesOf g w) (tree_end (end g w u i)) (tree_end (far_end g w u i)) l n s (Some j) (not_the_way call.up i ne) call.rises
            call.most jo (child i at' ne b) (sym (joined_clauses g w holds u i at' jo).inside) (ghosts i at' jo).0 (ghosts i at' jo).1 call.inside
            call.name call.awake call.find
            (link i at').tree;
        search =
            search_told (tree_end (end g w u i)) (tree_end (far_end g w u i)) l s (Some j) call.rises call.most (w.seen u i).tree
            (tree_end (passed i)).tree (link i at').search;
        tests =
            tests_aside (test_end (end g w u i)) (test_end (far_end g w u i)) o l (Some n) (quits i) (not_some o i quit) low (link i at').tests
            (link' i at').tests;
      }

      other : (i : ℕ) → At g u i → i ≢ j → (w.at u).mark i ≢ Branch → LinkFits (NamesOf g w) (still i) (far_end g w u i)
      other i at' ne nb = record {
        tree =
            tree_past (NamesOf g w) (tree_end (end g w u i)) (tree_end (far_end g w u i)) l n s (Some j) (not_the_way call.up i ne) call.rises
            call.most nb (link i at').tree;
        search =
            search_told (tree_end (end g w u i)) (tree_end (far_end g w u i)) l s (Some j) call.rises call.most (w.seen u i).tree
            (tree_end (far_end g w u i)).tree (link i at').search;
        tests =
            tests_aside (test_end (end g w u i)) (test_end (far_end g w u i)) o l (Some n) (quits i) (not_some o i quit) low (link i at').tests
            (link' i at').tests;
      }

  fits_far : (i : ℕ) →
      At g u i →
      LinkFits (NamesOf g w) (far' g wired u u_is hearer (put (w.seen u) j left) passing w i)
      (near' g wired u u_is hearer (put (w.seen u) j left) passing w i)
  fits_far = by_port (λ e f. LinkFits (NamesOf g w) f e) hit branch other
    where
      hit : LinkFits (NamesOf g w) (far_end g w u j) heard_at
      hit = record {
        tree =
            tree_told' (NamesOf g w) (tree_end (end g w u j)) (tree_end (far_end g w u j)) l n s ms call (ghosts j at call.joins).1 refl
            (link' j at).tree;
        search =
            search_told' (tree_end (end g w u j)) (tree_end (far_end g w u j)) l s (Some j) call.rises call.most ms (seen_beyond g w u j).tree
            (link' j at).search;
        tests =
            tests_aside' (test_end (end g w u j)) (test_end (far_end g w u j)) o l (Some n) (quits j) (not_some o j quit) low (link j at).tests
            (link' j at).tests;
      }

      branch : (i : ℕ) → At g u i → i ≢ j → (w.at u).mark i ≡ Branch → LinkFits (NamesOf g w) (passed i) (still i)
      branch i at' ne b = let jo = branch_joined i at' ne b in record {
        tree =
            tree_passed' (NamesOf g w) (tree_end (end g w u i)) (tree_end (far_end g w u i)) l n s (Some j) (not_the_way call.up i ne) call.rises
            call.most jo (child i at' ne b) (sym (joined_clauses g w holds u i at' jo).inside) (ghosts i at' jo).0 (ghosts i at' jo).1 call.inside
            call.name call.awake call.find
            (link' i at').tree;
        search =
            search_told' (tree_end (end g w u i)) (tree_end (far_end g w u i)) l s (Some j) call.rises call.most (w.seen u i).tree
            (tree_end (passed i)).tree (link' i at').search;
        tests =
            tests_aside' (test_end (end g w u i)) (test_end (far_end g w u i)) o l (Some n) (quits i) (not_some o i quit) low (link i at').tests
            (link' i at').tests;
      }

      other : (i : ℕ) → At g u i → i ≢ j → (w.at u).mark i ≢ Branch → LinkFits (NamesOf g w) (far_end g w u i) (still i)
      other i at' ne nb = record {
        tree =
            tree_past' (NamesOf g w) (tree_end (end g w u i)) (tree_end (far_end g w u i)) l n s (Some j) (not_the_way call.up i ne) call.rises
            call.most nb (link' i at').tree;
        search =
            search_told' (tree_end (end g w u i)) (tree_end (far_end g w u i)) l s (Some j) call.rises call.most (w.seen u i).tree
            (tree_end (far_end g w u i)).tree (link' i at').search;
        tests =
            tests_aside' (test_end (end g w u i)) (test_end (far_end g w u i)) o l (Some n) (quits i) (not_some o i quit) low (link i at').tests
            (link' i at').tests;
      }

  -- a fragment at rest hears no call to search
  quiet : (a : ℕ) → Quiet g w a → Quiet g initiated a
  quiet a q = quiet_after g wired u u_is hearer (put (w.seen u) j left) passing w a q (λ e. found_is s call.awake (calm e).0) mine theirs
    where
      calm : (w.at u).fragment ≡ a → (is_find s ≡ false) × (has_call ms ≡ false)
      calm e = or_parts _ _ (sym (has_call_first ms l n s) ∙ sym (ap has_call waits) ∙ q.uncalled u j at e)

      mine : (i : ℕ) → At g u i → hearer.fragment ≡ a → has_call (put (w.seen u) j left i).tree ≡ false
      mine =
          by_port (λ e f. e.is.fragment ≡ a → has_call e.seen.tree ≡ false) (λ e. (calm e).1) (λ i at' ne b e. q.uncalled u i at' e)
          (λ i at' ne nb e. q.uncalled u i at' e)

      theirs : (i : ℕ) → At g u i → (w.at (far g u i)).fragment ≡ a → has_call (adds (seen_beyond g w u i) (sent_on passing i)).tree ≡ false
      theirs =
          by_port (λ e f. f.is.fragment ≡ a → has_call f.seen.tree ≡ false) (λ e. q.uncalled _ _ (wired.there u j at) e)
          (λ i at' ne b e.
          rw
          (has_call_more (seen_beyond g w u i).tree l n s, q.uncalled _ _ (wired.there u i at') e)
          (calm ((joined_clauses g w holds u i at' (branch_joined i at' ne b)).inside ∙ e)).0)
          (λ i at' ne nb e. q.uncalled _ _ (wired.there u i at') e)

  pub initiates : Invariant g initiated
  initiates =
      kept_after g wired u u_is hearer (put (w.seen u) j left) passing w holds alike node fits_near fits_far (λ e. absurd (call.awake e))
      (λ k e. subst (Names g (forest w) (w.at u).fragment) (name_is k e) call.inside)
      (rests_alike g w initiated (forest_after g wired u u_is hearer (put (w.seen u) j left) passing w alike) quiet holds.resting) debts
    where
      alike : Alike (w.at u) hearer
      alike = record { fragment = refl; coming = refl; coming_name = refl; up = refl; branch = λ p. refl }

      name_is : (k : Key) → Some n ≡ Some k → n ≡ k
      name_is k e = cc

module _ (g : Network) (wired : IsWired g) (u : ℕ) (u_is : InNetwork g u) (w : Scene) (holds : Invariant g w) (j : ℕ) (at : At g u j)
    (ms : List Message) (l : ℕ) (n : Key) (xs : List Mark) (marks : MarksAre g u (w.at u) xs) where
  -- the node is told of a search that doesn't concern it yet
  pub initiates_rest :
      (w.seen u j).tree ≡ Initiate l n Found ∷ ms →
      Invariant g (acts g u (took_rest (w.at u) l n j) (left_tree w u j ms) (on_branches xs j (Initiate l n Found)) w)
  initiates_rest waits =
      initiates g wired u u_is j at w holds l n Found ms xs marks waits (w.at u).head.probe
      (idle g wired u u_is j at w holds l n Found ms xs marks waits None refl 0 (λ e. refl)).0 (w.at u).head.find_count (λ e. e)

  -- the node searches; its first Test comes in a step of its own
  pub initiates_search :
      (w.seen u j).tree ≡ Initiate l n Find ∷ ms →
      Invariant g (acts g u
      (took_initiate (w.at u) l n Find j None ((w.at u).head.find_count + length (on_branches xs j (Initiate l n Find)))) (left_tree w u j ms)
      (on_branches xs j (Initiate l n Find)) w)
  initiates_search waits =
      initiates g wired u u_is j at w holds l n Find ms xs marks waits None refl
      ((w.at u).head.find_count + length (on_branches xs j (Initiate l n Find))) (λ e. rw e (zero-add _))
