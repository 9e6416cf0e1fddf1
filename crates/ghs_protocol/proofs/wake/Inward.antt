-- A sleeping node wakes: its Connect goes out over its least link.
use Rattle.std.proofs.Common.{◌≡◌, ◌≢◌, ℕ, zero, suc, ◌<◌, ◌≤◌, ◌==◌, Bool, true, false, not, ◌&&◌, Option, Some, None, [], ◌∷◌, refl, sym, ◌∙◌, ap, ap₂, subst, subst₂, ⊎_elim, length, arith, cond}
use Rattle.std.proofs.lemmas.Bool.{cases_eq, cases_Bool}
use Rattle.ghs_graph.specs.declared.key.Key.{Key}
use Rattle.ghs_node.specs.declared.head.Head.{Head}
use Rattle.ghs_node.specs.declared.mark.Mark.TheVariants.{Branch}
use Rattle.ghs_node.specs.declared.message.Phase.TheVariants.{Sleeping, Find, Found}
use Rattle.ghs_node.specs.declared.message.Message.TheVariants.{Connect}
use Rattle.ghs_node.specs.Words.{Outgoing, is_branch, is_at}
use Rattle.peer_network.specs.Network.{Network, port_at, At, far, far_port, InNetwork}
use Rattle.peer_network.proofs.lemmas.Wired.{IsWired}
use Rattle.peer_network.specs.Sums.{sum_below}
use Rattle.ghs_protocol.proofs.clauses.Scene.{Seen, adds, Member, Scene, End, TreeEnd, end, tree_end, test_end, forest, acts, far_end}
use Rattle.ghs_protocol.proofs.clauses.Changes.{seen_beyond, awakened}
use Rattle.ghs_protocol.proofs.clauses.Nodes.{NodeFits, Untouched}
use Rattle.ghs_protocol.proofs.clauses.TreeMessages.{TreeFits}
use Rattle.ghs_protocol.proofs.clauses.Search.{SearchFits}
use Rattle.ghs_protocol.proofs.clauses.Fragments.{Root, Goes_out, Both_ways}
use Rattle.ghs_protocol.proofs.clauses.Rest.{Quiet, has_call, owes, debt, DebtsCounted}
use Rattle.ghs_protocol.proofs.clauses.Whole.{Invariant, NamesOf, LinkFits}
use Rattle.ghs_protocol.proofs.clauses.Wiring.{Ground}
use Rattle.ghs_protocol.proofs.clauses.Uniting.{meet}
use Rattle.peer_network.proofs.lemmas.Updates.{put_same, put_other}
use Rattle.ghs_protocol.proofs.acts.Ends.{here_seen}
use Rattle.ghs_protocol.proofs.acts.SameForest.{near', far', sums_after, branch_mark}
use Rattle.ghs_protocol.proofs.acts.OneLink.{sends_one, debt_within}
use Rattle.ghs_protocol.proofs.tests.Links.{tests_aside, tests_aside', not_some}
use Rattle.ghs_protocol.proofs.search.ReportGone.{debt_up, debt_one}
use Rattle.ghs_protocol.proofs.search.FirstReport.{mark_is}
use Rattle.ghs_protocol.proofs.root.OldLink.{report_append}
use Rattle.ghs_protocol.proofs.union.Met.{meets}
use Rattle.ghs_protocol.proofs.rows.Link.{node_clauses}
use Rattle.peer_network.proofs.lemmas.Wires.{at_in}
use Rattle.peer_network.specs.Updates.{put}

-- a node that isn't on the link, awake now, at level 0 as before
abbrev pub woke : TreeEnd → Option ℕ → TreeEnd
woke e o = record e { up = o; level = 0; phase = Found }

module _ (e f : TreeEnd) (o : Option ℕ) (low : ◌≡◌ {A = ℕ} e.level 0) (plain : e.mark ≢ Branch) where
  pub tree_woke : {N : ℕ → Key → Type 0} → TreeFits N e f → TreeFits N (woke e o) f
  tree_woke t = record {
    out_connect = λ z. absurd (plain z.here);
    silent = t.silent;
    core_ends = λ j. absurd (plain j.here);
    upward = λ c. absurd (plain c.joins.here);
    downward = λ c. absurd (plain c.joins.here);
    core_queues = λ c. absurd (plain c.both.joins.here);
    moved_root = λ c. absurd (plain c.both.joins.here);
  }

  pub tree_woke' : {N : ℕ → Key → Type 0} → TreeFits N f e → TreeFits N f (woke e o)
  tree_woke' t = record {
    out_connect = λ z.
        let y = t.out_connect (record { here = z.here; there = z.there }) in
        record {
          mark = y.mark;
          up = y.up;
          apart = y.apart;
          level = y.level;
          higher = let q = y.higher in omega (arith, q, low);
          one = y.one;
          none = y.none;
        };
    silent = t.silent;
    core_ends = λ j. absurd (plain j.there);
    upward = λ c. absurd (plain c.joins.there);
    downward = λ c. absurd (plain c.joins.there);
    core_queues = λ c. absurd (plain c.both.joins.there);
    moved_root = λ c. absurd (plain c.both.joins.there);
  }

  pub search_woke : SearchFits e f → e.best ≡ None → SearchFits (woke e o) f
  search_woke h none =
      record { rejected_inside = h.rejected_inside; find_leads = λ k z. absurd (cc (none, z)); find_reported = λ k z. absurd (cc (none, z)) }

  pub search_woke' : SearchFits f e → SearchFits f (woke e o)
  search_woke' h = record {
    rejected_inside = h.rejected_inside;
    find_leads =
        λ k x y m. let z = h.find_leads k x y m in record { key = z.key; apart = z.apart; higher = let q = z.higher in omega (arith, q, low) };
    find_reported = λ k x y j. absurd (plain j.there);
  }

  -- nobody is called over a link that isn't joined
  pub uncalled : {N : ℕ → Key → Type 0} → TreeFits N e f → TreeFits N f e → has_call e.tree ≡ false
  uncalled t t' =
      ⊎_elim
      (λ z. ap has_call (t'.out_connect (record { here = z; there = plain })).one)
      (λ z. ap has_call (t.silent plain z)) (mark_is f.mark)

-- what is known of a sleeping node that wakes
pub record Waking (g : Network) (w : Scene) (u : ℕ) : Type 0 where
  pub fresh : Untouched (w.at u)
  pub apart : (w.at (far g u 0)).fragment ≢ (w.at u).fragment
  pub plain : (i : ℕ) → i ≢ 0 → put (w.at u).mark 0 Branch i ≢ Branch

module _ (g : Network) (wired : IsWired g) (u : ℕ) (u_is : InNetwork g u) (w : Scene) (holds : Invariant g w) (at : At g u 0)
    (sleeps : (w.at u).head.phase ≡ Sleeping) where
  abbrev pub woken_head : Head
  woken_head = record (w.at u).head { level = 0; phase = Found; find_count = 0 }

  abbrev pub waker : Member
  waker = awakened (w.at u)

  abbrev pub sends : Outgoing
  sends = (0, Connect 0) ∷ []

  abbrev pub sent : Scene
  sent = acts g u waker (w.seen u) sends w

  pub is : InNetwork g u
  is = u_is

  open node_clauses g wired w holds u u_is use {fits, link, link'}

  pub fresh : Untouched (w.at u)
  fresh = fits.untouched sleeps

  -- what is known of the node: it is untouched and alone, and no port is Branch afterwards but the first
  pub waking : Waking g w u
  waking = record {
    fresh = fresh;
    apart = λ e. wired.apart u 0 at (holds.alone u (far g u 0) u_is (at_in (wired.there u 0 at)) sleeps e);
    plain = λ i ne e. fresh.marks i (sym (put_other (w.at u).mark 0 i Branch ne) ∙ e);
  }

  -- the ends of its other links
  abbrev pub still : ℕ → End
  still i = record { port = i; key = (port_at g u i).key; mark = (w.at u).mark i; is = waker; seen = w.seen u i }

  near_is : (i : ℕ) → i ≢ 0 → near' g wired u u_is waker (w.seen u) sends w i ≡ still i
  near_is i ne = λ k. record { port = i; key = (port_at g u i).key; mark = put_other (w.at u).mark 0 i Branch ne k; is = waker; seen = w.seen u i }

  far_is : (i : ℕ) → i ≢ 0 → far' g wired u u_is waker (w.seen u) sends w i ≡ far_end g w u i
  far_is i ne = λ k. record (far_end g w u i) { seen = adds (seen_beyond g w u i) ((sends_one 0 (Connect 0)).none i ne k) }

  pub low : (w.at u).head.level ≤ 0
  low = let z = fresh.level in omega (arith, z)

  pub still_fits : (i : ℕ) → At g u i → LinkFits (NamesOf g w) (still i) (far_end g w u i)
  still_fits i at' = record {
    tree = tree_woke (tree_end (end g w u i)) (tree_end (far_end g w u i)) (Some 0) fresh.level (fresh.marks i) (link i at').tree;
    search = search_woke (tree_end (end g w u i)) (tree_end (far_end g w u i)) (Some 0) fresh.level (fresh.marks i) (link i at').search fresh.best;
    tests =
        tests_aside (test_end (end g w u i)) (test_end (far_end g w u i)) (w.at u).head.probe 0 (w.at u).head.name
        (not_some (w.at u).head.probe i fresh.probe) (not_some (w.at u).head.probe i fresh.probe) low (link i at').tests (link' i at').tests;
  }

  pub still_fits' : (i : ℕ) → At g u i → LinkFits (NamesOf g w) (far_end g w u i) (still i)
  still_fits' i at' = record {
    tree = tree_woke' (tree_end (end g w u i)) (tree_end (far_end g w u i)) (Some 0) fresh.level (fresh.marks i) (link' i at').tree;
    search = search_woke' (tree_end (end g w u i)) (tree_end (far_end g w u i)) (Some 0) fresh.level (fresh.marks i) (link' i at').search;
    tests =
        tests_aside' (test_end (end g w u i)) (test_end (far_end g w u i)) (w.at u).head.probe 0 (w.at u).head.name
        (not_some (w.at u).head.probe i fresh.probe) (not_some (w.at u).head.probe i fresh.probe) low (link i at').tests (link' i at').tests;
  }

  pub near_fits : (i : ℕ) →
      At g u i →
      i ≢ 0 →
      LinkFits (NamesOf g w) (near' g wired u u_is waker (w.seen u) sends w i) (far' g wired u u_is waker (w.seen u) sends w i)
  near_fits i at' ne = subst₂ (LinkFits (NamesOf g w)) (sym (near_is i ne)) (sym (far_is i ne)) (still_fits i at')

  pub far_fits : (i : ℕ) →
      At g u i →
      i ≢ 0 →
      LinkFits (NamesOf g w) (far' g wired u u_is waker (w.seen u) sends w i) (near' g wired u u_is waker (w.seen u) sends w i)
  far_fits i at' ne = subst₂ (LinkFits (NamesOf g w)) (sym (far_is i ne)) (sym (near_is i ne)) (still_fits' i at')

  pub node : NodeFits (length (g.ports u)) waker
  node = record {
    own_ports = record {
      probe = fits.own_ports.probe;
      in_branch = fits.own_ports.in_branch;
      mark = λ p ne. ⊎_elim (λ (e : p ≡ 0). subst (λ y. y < length (g.ports u)) (sym e) at.port)
          (λ no. fits.own_ports.mark p (λ z. ne (put_other (w.at u).mark 0 p Branch no ∙ z)))
          (cases_eq p 0);
    };
    untouched = λ e. absurd (let z : Found ≡ Sleeping = e in cc);
    points = λ e lt. record { port = 0; up = refl; within = at.port; mark = put_same (w.at u).mark 0 Branch };
    idle = λ e. (fresh.probe, refl);
    searching = λ e. absurd (let z : Found ≡ Find = e in cc);
    naming = record { level = λ e. refl; in_branch = λ e. fresh.in_branch; name = λ e. fresh.name };
    lag = let z = fits.lag.level in let q = fresh.level in record { level = omega arith; name = λ e. fits.lag.name (q ∙ e) };
    best_port = fits.best_port;
  }

  -- nobody owes it a Report
  unowed : (i : ℕ) → At g u i → owes (end g w u i) (far_end g w u i) ≡ false
  unowed i at' =
      ⊎_elim (λ z.
      absurd (let one = debt_one (end g w u i) (far_end g w u i) (λ y. let q = fresh.up in cc (q, y)) z in
      let within = debt_within g wired w holds.counted u i at' in let n = fresh.find_count in omega (arith, one, within, n)))
      (λ z. z) (cases_Bool (owes (end g w u i) (far_end g w u i)))

  zeros : (n : ℕ) (f : ℕ → ℕ) → ((i : ℕ) → i < n → ◌≡◌ {A = ℕ} (f i) 0) → ◌≡◌ {A = ℕ} 0 (sum_below n f)
  zeros zero f h = refl
  zeros (suc n) f h = let a = zeros n f (λ i lt. h i (omega arith)) in let b = h n (omega arith) in omega (arith, a, b)

  pub counted : DebtsCounted g sent
  counted =
      sums_after g wired u u_is waker (w.seen u) sends w holds.counted
      (zeros (length (g.ports u)) _ (λ i lt. mine i (record { some = u_is.some; node = u_is.node; port = lt }))) theirs
    where
      mine : (i : ℕ) →
          At g u i →
          ◌≡◌ {A = ℕ} (debt (near' g wired u u_is waker (w.seen u) sends w i) (far' g wired u u_is waker (w.seen u) sends w i)) 0
      mine i at' =
          ⊎_elim (λ (e : i ≡ 0).
          debt_up (near' g wired u u_is waker (w.seen u) sends w i) (far' g wired u u_is waker (w.seen u) sends w i) (ap Some (sym e)))
          (λ ne. ap₂ debt (near_is i ne) (far_is i ne) ∙ rw (unowed i at') (none (is_at (Some 0) i)))
          (cases_eq i 0)
        where
          none : (c : Bool) → ◌≡◌ {A = ℕ} (cond (not c && false) 1 0) 0
          none true = refl
          none false = refl

      theirs : (i : ℕ) →
          At g u i →
          debt (far' g wired u u_is waker (w.seen u) sends w i) (near' g wired u u_is waker (w.seen u) sends w i) ≡
          debt (far_end g w u i) (end g w u i)
      theirs i at' = go (0 == i)
        where
          go : (c : Bool) →
              debt
              (record (far_end g w u i) { seen = adds (seen_beyond g w u i) (cond c (Connect 0 ∷ []) []) })
              (near' g wired u u_is waker (w.seen u) sends w i) ≡ debt (far_end g w u i) (end g w u i)
          go true = rw (report_append (Connect 0) refl (seen_beyond g w u i).tree, sleeps) refl
          go false = rw sleeps refl

  pub unbranched : (p : ℕ) → is_branch ((w.at u).mark p) ≡ true → ⊥
  unbranched p e = fresh.marks p (branch_mark _ e)

  -- it is alone
  lonely : (t : ℕ) → InNetwork g t → (sent.at t).fragment ≡ (w.at u).fragment → t ≡ u
  lonely t it e =
      ⊎_elim (λ z. z)
      (λ ne. holds.alone u t is it sleeps (ap (λ (m : Member). m.fragment) (sym (put_other w.at u t waker ne)) ∙ e))
      (cases_eq t u)

  pub quiet : Quiet g sent (w.at u).fragment
  quiet = record {
    found = λ t it e. subst (λ y. (sent.at y).head.phase ≡ Found) (sym (lonely t it e)) (ap (λ (m : Member). m.head.phase) (put_same w.at u waker));
    uncalled = λ t p at' e.
        let z = lonely t (record { some = at'.some; node = at'.node }) e in
        subst (λ y. has_call (sent.seen y p).tree ≡ false) (sym z) (calm p (subst (λ y. At g y p) z at'));
  }
    where
      calm : (p : ℕ) → At g u p → has_call (sent.seen u p).tree ≡ false
      calm p at' =
          ap (λ (s : Seen). has_call s.tree) (here_seen g wired u u_is.some u_is.node waker (w.seen u) sends w p) ∙
          uncalled (tree_end (end g w u p)) (tree_end (far_end g w u p)) (Some 0) fresh.level (fresh.marks p) (link p at').tree (link' p at').tree

  pub no_root : (t p : ℕ) → At g t p → Root g (forest w) t p → (w.at t).fragment ≡ (w.at u).fragment → ⊥
  no_root t p at' r e = go (subst (λ y. Root g (forest w) y p) (holds.alone u t is (record { some = at'.some; node = at'.node }) sleeps e) r)
    where
      go : Root g (forest w) u p → ⊥
      go (Goes_out h k) = unbranched p h
      go (Both_ways j h k) = unbranched p j.here

  -- over its least link a Connect has come in
  pub wakes_meeting :
      Ground g →
      (w.at (far g u 0)).mark (far_port g u 0) ≡ Branch →
      Invariant g (meet g u 0 (acts g u (awakened (w.at u)) (w.seen u) ((0, Connect 0) ∷ []) w))
  wakes_meeting ground came = meets g ground u u_is 0 at w holds woken_head (w.seen u) (record {
    node = node;
    found = refl;
    name = refl;
    probe = fresh.probe;
    probe' = fresh.probe;
    same_level = sym fresh.level;
    top = sym fresh.coming;
    least = omega arith;
    unmarked = fresh.marks 0;
    marked = came;
    own_same = refl;
    near = near_fits;
    away = far_fits;
    quiet = quiet;
    old = λ t p at' r e. absurd (no_root t p at' r e);
    led = λ i at' j. absurd (unbranched i j.here);
    counted = counted;
  })
