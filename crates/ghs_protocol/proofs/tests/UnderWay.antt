-- What an act owes of what is always under way; and Tests and their answers.
use Rattle.std.proofs.Common.{◌≡◌, ◌≢◌, ℕ, suc, Bool, true, false, Option, Some, None, List, [], ◌∷◌, ◌++◌, length, refl, sym, ◌∙◌, ap, subst, arith, ⊎_elim, ◌⊎◌, length-append}
use Rattle.std.proofs.lemmas.Option.{same_Some}
use Rattle.ghs_graph.specs.declared.key.Key.{Key}
use Rattle.ghs_node.specs.declared.mark.Mark.{Mark}
use Rattle.ghs_node.specs.declared.mark.Mark.TheVariants.{Basic, Branch}
use Rattle.ghs_node.specs.Words.{Best, is_branch, below, best_key, Outgoing}
use Rattle.ghs_node.specs.declared.message.Phase.{Phase}
use Rattle.ghs_node.specs.declared.message.Phase.TheVariants.{Find, Found}
use Rattle.ghs_node.specs.declared.message.Message.{Message}
use Rattle.ghs_node.specs.declared.message.Message.TheVariants.{Connect, Initiate, Test, Accept, Reject, Report, ChangeRoot}
use Rattle.peer_network.specs.Network.{Network, port_at, At, far, far_port, InNetwork}
use Rattle.peer_network.proofs.lemmas.Wired.{IsWired}
use Rattle.peer_network.specs.Updates.{put}
use Rattle.ghs_protocol.proofs.clauses.Scene.{Seen, adds, Member, Scene, End, tree_end, end, acts, far_end}
use Rattle.ghs_protocol.proofs.clauses.Changes.{left_tree, left_tests, left_accepts, left_rejects, seen_beyond, marked, rules_out, took_reject, took_accept, took_report, with_halt, halts_alone}
use Rattle.ghs_protocol.proofs.clauses.Whole.{Invariant, NamesOf}
use Rattle.ghs_protocol.proofs.clauses.Tests.{AllFrom}
use Rattle.ghs_protocol.proofs.clauses.Rest.{has_report}
use Rattle.ghs_protocol.proofs.clauses.UnderWay.{Answering, Test_there, Accept_here, Reject_here, Crossed_here, ProbeAsks, brought_to, ChildBrought, IsCore, HeardBy, CoreHeard, Lives}
use Rattle.ghs_protocol.proofs.acts.Ends.{acts_keeps}
use Rattle.ghs_protocol.proofs.acts.SameForest.{branch_mark}
use Rattle.ghs_protocol.proofs.tests.Steps.{one_name}
use Rattle.ghs_protocol.proofs.clauses.Wiring.{IsKeyed}
use Rattle.ghs_protocol.proofs.acts.OneLink.{SendsOn, sends_none, sends_one, by_port_at, at_near, at_far}
use Rattle.ghs_protocol.proofs.rows.Link.{link_fits, link_fits'}
use Rattle.ghs_protocol.proofs.acts.Situations.{branch_marked, probing_finds, is_find', begun_at_top}
use Rattle.ghs_protocol.proofs.union.CoreAnswered.{serving}
use Rattle.ghs_protocol.proofs.rest.Halt.{Back, Old, Half, heard_at_rest}
use Rattle.ghs_protocol.proofs.search.Close.{has_report_append}
use Rattle.ghs_protocol.proofs.tests.Links.{probe_is}
use Rattle.ghs_protocol.proofs.search.Answers.{child_heard}

-- One link is touched: a fact of all links.
module _ (g : Network) (wired : IsWired g) (u : ℕ) (u_is : InNetwork g u) (x : Member) (j : ℕ) (at : At g u j) (q : Seen)
    (ms : List Message) (ss : Outgoing) (on : SendsOn j ms ss) (w : Scene) where
  abbrev pub still : ℕ → End
  still i = record { port = i; key = (port_at g u i).key; mark = x.mark i; is = x; seen = w.seen u i }

  abbrev pub here : End
  here = record { port = j; key = (port_at g u j).key; mark = x.mark j; is = x; seen = q }

  abbrev pub there : End
  there = record (far_end g w u j) { seen = adds (seen_beyond g w u j) ms }

  abbrev after : Scene
  after = acts g u x (put (w.seen u) j q) ss w

  pub touches :
      (P : End → End → Type 0) → ((v p : ℕ) → At g v p → P (end g w v p) (end g w (far g v p) (far_port g v p))) → P here there → P there here →
      ((i : ℕ) → At g u i → i ≢ j → P (still i) (far_end g w u i)) → ((i : ℕ) → At g u i → i ≢ j → P (far_end g w u i) (still i)) →
      (v p : ℕ) → At g v p → P (end g after v p) (end g after (far g v p) (far_port g v p))
  touches P all hit hit' miss miss' =
      acts_keeps g wired u u_is.some u_is.node x (put (w.seen u) j q) ss w P all
      (by_port_at g wired u u_is x j at q ms ss on w (λ i e f. P e f) hit miss)
      (by_port_at g wired u u_is x j at q ms ss on w (λ i e f. P f e) hit' miss')

  -- the four readings of a fact that the act leaves to show
  abbrev pub Ends : (End → End → Type 0) → Type 0
  Ends P =
      P here there × P there here × ((i : ℕ) → At g u i → i ≢ j → P (still i) (far_end g w u i)) ×
      ((i : ℕ) → At g u i → i ≢ j → P (far_end g w u i) (still i))

  pub touches_lives : Lives g w → Ends ProbeAsks → Ends ChildBrought → Ends CoreHeard → Lives g (acts g u x (put (w.seen u) j q) ss w)
  touches_lives lives a b c = record {
    asks = touches ProbeAsks lives.asks a.0 a.1 a.2 a.3;
    brought = touches ChildBrought lives.brought b.0 b.1 b.2 b.3;
    heard = touches CoreHeard lives.heard c.0 c.1 c.2 c.3;
  }

-- whoever drops its probe leaves the far end's as it was
pub dropped : (ts : List (ℕ × Key)) (a r : ℕ) (es : List (ℕ × Key)) (o : Option ℕ) (p : ℕ) → Answering ts a r es o p → Answering ts a r es None p
dropped ts a r es o p (Test_there h) = Test_there h
dropped ts a r es o p (Accept_here h) = Accept_here h
dropped ts a r es o p (Reject_here h) = Reject_here h
dropped ts a r es o p (Crossed_here h ne) = Crossed_here h (λ z. cc)

unprobed : (p : ℕ) → None ≡ Some p → ⊥
unprobed p e = cc

-- the end's old mark, which was Branch just where the new one is
was_branch : (m : ℕ → Mark) (j i : ℕ) → marked m j i ≡ Branch → m i ≡ Branch
was_branch m j i e = branch_mark (m i) (sym (branch_marked m j i) ∙ ap is_branch e)

-- a message more at the end of a queue
call_unreported : (xs : List Message) (m : ℕ) (k : Key) (s : Phase) → has_report (xs ++ Initiate m k s ∷ []) ≡ has_report xs
call_unreported [] m k s = refl
call_unreported (Connect l ∷ xs) m k s = call_unreported xs m k s
call_unreported (Initiate l f t ∷ xs) m k s = call_unreported xs m k s
call_unreported (Test l f ∷ xs) m k s = call_unreported xs m k s
call_unreported (Accept ∷ xs) m k s = call_unreported xs m k s
call_unreported (Reject ∷ xs) m k s = call_unreported xs m k s
call_unreported (Report r ∷ xs) m k s = refl
call_unreported (ChangeRoot ∷ xs) m k s = call_unreported xs m k s

pub brought_by_call : (xs : List Message) (l m : ℕ) (k : Key) (s : Phase) → brought_to l (xs ++ Initiate m k s ∷ []) ≡ m
brought_by_call [] l m k s = refl
brought_by_call (Connect r ∷ xs) l m k s = brought_by_call xs l m k s
brought_by_call (Initiate r f t ∷ xs) l m k s = brought_by_call xs r m k s
brought_by_call (Test r f ∷ xs) l m k s = brought_by_call xs l m k s
brought_by_call (Accept ∷ xs) l m k s = brought_by_call xs l m k s
brought_by_call (Reject ∷ xs) l m k s = brought_by_call xs l m k s
brought_by_call (Report r ∷ xs) l m k s = brought_by_call xs l m k s
brought_by_call (ChangeRoot ∷ xs) l m k s = brought_by_call xs l m k s

brought_despite : (xs : List Message) (l : ℕ) (k : Option Key) → brought_to l (xs ++ Report k ∷ []) ≡ brought_to l xs
brought_despite [] l k = refl
brought_despite (Connect r ∷ xs) l k = brought_despite xs l k
brought_despite (Initiate r f t ∷ xs) l k = brought_despite xs r k
brought_despite (Test r f ∷ xs) l k = brought_despite xs l k
brought_despite (Accept ∷ xs) l k = brought_despite xs l k
brought_despite (Reject ∷ xs) l k = brought_despite xs l k
brought_despite (Report r ∷ xs) l k = brought_despite xs l k
brought_despite (ChangeRoot ∷ xs) l k = brought_despite xs l k

module _ (g : Network) (wired : IsWired g) (u : ℕ) (u_is : InNetwork g u) (j : ℕ) (at : At g u j) (w : Scene) (holds : Invariant g w)
    (lives : Lives g w) where
  pub near_asks : (i : ℕ) → At g u i → ProbeAsks (end g w u i) (far_end g w u i)
  near_asks i at' = at_near g wired w ProbeAsks lives.asks u i at'

  pub far_asks : (i : ℕ) → At g u i → ProbeAsks (far_end g w u i) (end g w u i)
  far_asks i at' = at_far g wired w ProbeAsks lives.asks u i at'

  pub near_brought : (i : ℕ) → At g u i → ChildBrought (end g w u i) (far_end g w u i)
  near_brought i at' = at_near g wired w ChildBrought lives.brought u i at'

  pub far_brought : (i : ℕ) → At g u i → ChildBrought (far_end g w u i) (end g w u i)
  far_brought i at' = at_far g wired w ChildBrought lives.brought u i at'

  pub near_heard : (i : ℕ) → At g u i → CoreHeard (end g w u i) (far_end g w u i)
  near_heard i at' = at_near g wired w CoreHeard lives.heard u i at'

  pub far_heard : (i : ℕ) → At g u i → CoreHeard (far_end g w u i) (end g w u i)
  far_heard i at' = at_far g wired w CoreHeard lives.heard u i at'

  -- with a mark more, which isn't Branch
  near_brought_marked : (i : ℕ) → At g u i → ChildBrought (record (end g w u i) { mark = marked (w.at u).mark j i }) (far_end g w u i)
  near_brought_marked i at' c = near_brought i at' (was_branch (w.at u).mark j i c.0, c.1, c.2, c.3)

  far_brought_marked : (i : ℕ) → At g u i → ChildBrought (far_end g w u i) (record (end g w u i) { mark = marked (w.at u).mark j i })
  far_brought_marked i at' c = far_brought i at' (c.0, was_branch (w.at u).mark j i c.1, c.2, c.3)

  near_heard_marked : (i : ℕ) → At g u i → CoreHeard (record (end g w u i) { mark = marked (w.at u).mark j i }) (far_end g w u i)
  near_heard_marked i at' c = near_heard i at' (was_branch (w.at u).mark j i c.0, c.1, c.2, c.3, c.4)

  far_heard_marked : (i : ℕ) → At g u i → CoreHeard (far_end g w u i) (record (end g w u i) { mark = marked (w.at u).mark j i })
  far_heard_marked i at' c = far_heard i at' (c.0, was_branch (w.at u).mark j i c.1, c.2, c.3, c.4)

  -- a Test that comes in is the far end's own, unless u's name is its
  own_test : (l : ℕ) (n : Key) (ts : List (ℕ × Key)) →
      (w.seen u j).tests ≡ (l, n) ∷ ts →
      (w.at u).head.name ≢ Some n →
      (w.at (far g u j)).head.probe ≡ Some (far_port g u j)
  own_test l n ts waits other =
      ⊎_elim (λ e. e)
      (λ ne.
      let s = (link_fits' g wired w holds u j at).tests.not_probing ne in
      let c = s.crossed (omega (arith, ap length waits)) in
      let a : AllFrom (w.at u).head.level (w.at u).head.name ((l, n) ∷ ts) = subst (AllFrom (w.at u).head.level (w.at u).head.name) waits c.from in
      absurd (other a.1))
      (probe_is (w.at (far g u j)).head.probe (far_port g u j))

  -- a Test is accepted
  pub accept_sent_lives : (l : ℕ) (n : Key) (ts : List (ℕ × Key)) →
      (w.seen u j).tests ≡ (l, n) ∷ ts →
      (w.at u).head.name ≢ Some n →
      Lives g (acts g u (w.at u) (left_tests w u j ts) ((j, Accept) ∷ []) w)
  accept_sent_lives l n ts waits other =
      touches_lives g wired u u_is (w.at u) j at (record (w.seen u j) { tests = ts }) (Accept ∷ []) ((j, Accept) ∷ []) (sends_one j Accept) w lives
      ((λ own. go (near_asks j at own)), (λ own. Accept_here (omega arith)), (λ i at' ne. near_asks i at'), (λ i at' ne. far_asks i at'))
      (near_brought j at, far_brought j at, (λ i at' ne. near_brought i at'), (λ i at' ne. far_brought i at'))
      (near_heard j at, far_heard j at, (λ i at' ne. near_heard i at'), (λ i at' ne. far_heard i at'))
    where
      go :
          Answering (seen_beyond g w u j).tests (w.seen u j).accepts (w.seen u j).rejects (w.seen u j).tests (w.at (far g u j)).head.probe
          (far_port g u j) →
          Answering (seen_beyond g w u j).tests (w.seen u j).accepts (w.seen u j).rejects ts (w.at (far g u j)).head.probe (far_port g u j)
      go (Test_there h) = Test_there h
      go (Accept_here h) = Accept_here h
      go (Reject_here h) = Reject_here h
      go (Crossed_here h ne) = absurd (ne (own_test l n ts waits other))

  -- a Test is rejected
  pub reject_sent_lives : (ts : List (ℕ × Key)) →
      (w.at u).head.probe ≢ Some j →
      Lives g (acts g u (rules_out (w.at u) j) (left_tests w u j ts) ((j, Reject) ∷ []) w)
  reject_sent_lives ts free =
      touches_lives g wired u u_is (rules_out (w.at u) j) j at (record (w.seen u j) { tests = ts }) (Reject ∷ []) ((j, Reject) ∷ [])
      (sends_one j Reject) w lives
      ((λ own. absurd (free own)), (λ own. Reject_here (omega arith)), (λ i at' ne. near_asks i at'), (λ i at' ne. far_asks i at'))
      (near_brought_marked j at, far_brought_marked j at, (λ i at' ne. near_brought_marked i at'), (λ i at' ne. far_brought_marked i at'))
      (near_heard_marked j at, far_heard_marked j at, (λ i at' ne. near_heard_marked i at'), (λ i at' ne. far_heard_marked i at'))

  -- u drops its probe
  far_dropped : (i : ℕ) →
      At g u i →
      (w.at (far g u i)).head.probe ≡ Some (far_port g u i) →
      Answering (w.seen u i).tests (seen_beyond g w u i).accepts (seen_beyond g w u i).rejects (seen_beyond g w u i).tests None i
  far_dropped i at' own = dropped _ _ _ _ (w.at u).head.probe i (far_asks i at' own)

  -- Tests cross
  pub cross_lives : (l : ℕ) (n : Key) (ts : List (ℕ × Key)) →
      IsKeyed g →
      (w.seen u j).tests ≡ (l, n) ∷ ts →
      (w.at u).head.name ≡ Some n →
      (w.at u).head.probe ≡ Some j →
      Lives g (acts g u (took_reject (w.at u) j) (left_tests w u j ts) [] w)
  cross_lives l n ts keyed waits name own =
      touches_lives g wired u u_is (took_reject (w.at u) j) j at (record (w.seen u j) { tests = ts }) [] [] (sends_none j) w lives (
        (λ z. absurd (unprobed j z)),
        (λ theirs. go theirs (near_asks j at own)),
        (λ i at' ne z. absurd (unprobed i z)),
        (λ i at' ne. far_dropped i at'),
      )
      (near_brought_marked j at, far_brought_marked j at, (λ i at' ne. near_brought_marked i at'), (λ i at' ne. far_brought_marked i at'))
      (near_heard_marked j at, far_heard_marked j at, (λ i at' ne. near_heard_marked i at'), (λ i at' ne. far_heard_marked i at'))
    where
      -- the far end's Test has my name, so it is of my fragment
      same : (w.at (far g u j)).head.probe ≡ Some (far_port g u j) → (w.at (far g u j)).fragment ≡ (w.at u).fragment
      same theirs =
          let a : AllFrom (w.at (far g u j)).head.level (w.at (far g u j)).head.name ((l, n) ∷ ts) =
          subst (AllFrom (w.at (far g u j)).head.level (w.at (far g u j)).head.name) waits
          ((link_fits' g wired w holds u j at).tests.probing theirs).from in
          sym (one_name g wired u u_is j at w holds n keyed name a.1)

      go :
          (w.at (far g u j)).head.probe ≡ Some (far_port g u j) →
          Answering (seen_beyond g w u j).tests (w.seen u j).accepts (w.seen u j).rejects (w.seen u j).tests (w.at (far g u j)).head.probe
          (far_port g u j) →
          Answering ts (seen_beyond g w u j).accepts (seen_beyond g w u j).rejects (seen_beyond g w u j).tests None j
      go theirs (Test_there h) = Crossed_here h (λ z. cc)
      go theirs (Accept_here h) = absurd ((((link_fits g wired w holds u j at).tests.probing own).accepted h).0 (same theirs))
      go theirs (Reject_here h) = absurd ((((link_fits g wired w holds u j at).tests.probing own).rejected h).2 theirs)
      go theirs (Crossed_here h ne) = absurd (ne theirs)

  -- a Reject is heard
  pub reject_lives : (r : ℕ) → Lives g (acts g u (took_reject (w.at u) j) (left_rejects w u j r) [] w)
  reject_lives r =
      touches_lives g wired u u_is (took_reject (w.at u) j) j at (record (w.seen u j) { rejects = r }) [] [] (sends_none j) w lives
      ((λ z. absurd (unprobed j z)), far_dropped j at, (λ i at' ne z. absurd (unprobed i z)), (λ i at' ne. far_dropped i at'))
      (near_brought_marked j at, far_brought_marked j at, (λ i at' ne. near_brought_marked i at'), (λ i at' ne. far_brought_marked i at'))
      (near_heard_marked j at, far_heard_marked j at, (λ i at' ne. near_heard_marked i at'), (λ i at' ne. far_heard_marked i at'))

  -- the next Test goes out
  pub scan_lives : (l : ℕ) (n : Key) →
      (w.at u).head.probe ≡ None →
      (w.at u).mark j ≡ Basic →
      Lives g
      (acts g u (record (w.at u) { head = record (w.at u).head { probe = Some j } }) (put (w.seen u) j (w.seen u j)) ((j, Test l n) ∷ []) w)
  scan_lives l n none basic =
      touches_lives g wired u u_is (record (w.at u) { head = record (w.at u).head { probe = Some j } }) j at (w.seen u j) (Test l n ∷ [])
      ((j, Test l n) ∷ []) (sends_one j (Test l n)) w lives (
        (λ own. Test_there (let z = length-append (seen_beyond g w u j).tests ((l, n) ∷ []) in omega (arith, z))),
        (λ theirs. here (far_asks j at theirs)),
        (λ i at' ne own. absurd (ne (sym (same_Some j i own)))),
        (λ i at' ne theirs. beside i ne (far_asks i at' theirs)),
      )
      (near_brought j at, far_brought j at, (λ i at' ne. near_brought i at'), (λ i at' ne. far_brought i at'))
      (near_heard j at, far_heard j at, (λ i at' ne. near_heard i at'), (λ i at' ne. far_heard i at'))
    where
      -- no Test of u's was on its way, as the port is Basic
      here :
          Answering (w.seen u j).tests (seen_beyond g w u j).accepts (seen_beyond g w u j).rejects (seen_beyond g w u j).tests (w.at u).head.probe
          j →
          Answering (w.seen u j).tests (seen_beyond g w u j).accepts (seen_beyond g w u j).rejects ((seen_beyond g w u j).tests ++ (l, n) ∷ [])
          (Some j) j
      here (Test_there h) = Test_there h
      here (Accept_here h) = Accept_here h
      here (Reject_here h) = Reject_here h
      here (Crossed_here h ne) = absurd ((((link_fits g wired w holds u j at).tests.not_probing ne).crossed h).mark basic)

      beside : (i : ℕ) →
          i ≢ j →
          Answering (w.seen u i).tests (seen_beyond g w u i).accepts (seen_beyond g w u i).rejects (seen_beyond g w u i).tests (w.at u).head.probe
          i →
          Answering (w.seen u i).tests (seen_beyond g w u i).accepts (seen_beyond g w u i).rejects (seen_beyond g w u i).tests (Some j) i
      beside i ne (Test_there h) = Test_there h
      beside i ne (Accept_here h) = Accept_here h
      beside i ne (Reject_here h) = Reject_here h
      beside i ne (Crossed_here h z) = Crossed_here h (λ y. ne (sym (same_Some j i y)))

  -- while u searches, no end of a core has heard it
  hears_nothing :
      (w.at u).head.phase ≡ Find →
      (i : ℕ) → At g u i →
      IsCore (far_end g w u i) (end g w u i) →
      (w.at (far g u i)).head.level ≡ (w.at (far g u i)).coming →
      (w.at (far g u i)).head.phase ≡ Found →
      has_report (w.seen u i).tree ≡ false →
      ⊥
  hears_nothing finds i at' c top done none = let z = (far_heard i at' c top done none).done in cc (z, finds)

  -- an Accept is heard
  pub accept_lives : (a : ℕ) →
      (w.at u).head.probe ≡ Some j →
      Lives g (acts g u (took_accept (w.at u) j (port_at g u j).key) (left_accepts w u j a) [] w)
  accept_lives a own =
      touches_lives g wired u u_is (took_accept (w.at u) j (port_at g u j).key) j at (record (w.seen u j) { accepts = a }) [] []
      (sends_none j) w lives
      ((λ z. absurd (unprobed j z)), far_dropped j at, (λ i at' ne z. absurd (unprobed i z)), (λ i at' ne. far_dropped i at'))
      (near_brought j at, far_brought j at, (λ i at' ne. near_brought i at'), (λ i at' ne. far_brought i at')) (
        (λ c t f n. absurd (let z : (w.at u).head.phase ≡ Found = f in cc (z, finds))),
        (λ c t f n. absurd (hears_nothing finds j at c t f n)),
        (λ i at' ne c t f n. absurd (let z : (w.at u).head.phase ≡ Found = f in cc (z, finds))),
        (λ i at' ne c t f n. absurd (hears_nothing finds i at' c t f n)),
      )
    where
      finds : (w.at u).head.phase ≡ Find
      finds = probing_finds (holds.nodes u u_is) own

  -- a child's Report is heard
  pub report_lives : (k : Option Key) (ms : List Message) (c : ℕ) →
      (w.seen u j).tree ≡ Report k ∷ ms →
      (w.at u).head.in_branch ≢ Some j →
      (w.at u).head.find_count ≡ suc c →
      Lives g (acts g u (took_report (w.at u) j k c) (left_tree w u j []) [] w)
  report_lives k ms c waits away count =
      touches_lives g wired u u_is (took_report (w.at u) j k c) j at (record (w.seen u j) { tree = [] }) [] [] (sends_none j) w lives
      (near_asks j at, far_asks j at, (λ i at' ne. near_asks i at'), (λ i at' ne. far_asks i at'))
      ((λ z. absurd (child.down z.2)), far_brought j at, (λ i at' ne. near_brought i at'), (λ i at' ne. far_brought i at')) (
        (λ z. absurd (child.down z.2)),
        (λ z. absurd (child.down z.3)),
        (λ i at' ne z t f n. absurd (let y : (w.at u).head.phase ≡ Found = f in cc (y, finds))),
        (λ i at' ne z t f n. absurd (hears_nothing finds i at' z t f n)),
      )
    where
      finds : (w.at u).head.phase ≡ Find
      finds = ⊎_elim (λ h. h) (λ ne. absurd (let z = ((holds.nodes u u_is).idle ne).1 in omega (arith, z, count))) (is_find' (w.at u).head.phase)

      open child_heard g wired u u_is j at w holds k ms waits away use {child}

  -- a Connect over the core is answered
  pub serve_lives : (l : ℕ) (ms : List Message) →
      (w.seen u j).tree ≡ Connect l ∷ ms →
      (w.at u).mark j ≢ Basic →
      (m : ℕ) (k : Key) → Lives g (acts g u (w.at u) (left_tree w u j ms) ((j, Initiate m k Find) ∷ []) w)
  serve_lives l ms waits marked_so m k =
      touches_lives g wired u u_is (w.at u) j at (record (w.seen u j) { tree = ms }) (Initiate m k Find ∷ []) ((j, Initiate m k Find) ∷ [])
      (sends_one j (Initiate m k Find)) w lives
      (near_asks j at, far_asks j at, (λ i at' ne. near_asks i at'), (λ i at' ne. far_asks i at')) (
        (λ z. absurd (z.3 core_link.both.up_beyond)),
        (λ z. absurd (z.3 core_link.both.up)),
        (λ i at' ne. near_brought i at'),
        (λ i at' ne. far_brought i at'),
      ) (
        (λ z t f n. near_heard j at z t f (sym (call_unreported (seen_beyond g w u j).tree m k Find) ∙ n)),
        (λ z t f n. far_heard j at z t f (ap has_report waits ∙ n)),
        (λ i at' ne. near_heard i at'),
        (λ i at' ne. far_heard i at'),
      )
    where
      open serving g wired u u_is j at w holds l ms waits marked_so use {core as core_link}

  -- a Report of the core's other half, or an old one, is heard at rest; with b the node halts
  pub end_lives : (k : Option Key) (ms : List Message) →
      (w.seen u j).tree ≡ Report k ∷ ms →
      (w.at u).head.phase ≡ Found →
      (b : Bool) → (b ≡ (w.at u).head.halted) ⊎ (b ≡ true) →
      below (best_key (w.at u).head.best) k ≡ false →
      (k ≡ None → (w.at u).head.best ≡ None → b ≡ true) →
      Lives g (acts g u (with_halt (w.at u) b) (left_tree w u j ms) [] w)
  end_lives k ms waits rests b why less halts =
      touches_lives g wired u u_is (with_halt (w.at u) b) j at (record (w.seen u j) { tree = ms }) [] [] (sends_none j) w lives
      (near_asks j at, far_asks j at, (λ i at' ne. near_asks i at'), (λ i at' ne. far_asks i at')) (
        (λ c. ap (brought_to (w.at u).head.level) (sym waits) ∙ near_brought j at c),
        far_brought j at,
        (λ i at' ne. near_brought i at'),
        (λ i at' ne. far_brought i at'),
      ) (
        near_heard j at,
        (λ c t f n. from_back c (heard_at_rest g wired u u_is j at w holds k ms waits rests)),
        (λ i at' ne. near_heard i at'),
        (λ i at' ne c t f n. more (far_heard i at' c t f n)),
      )
    where
      more : {o : Best} →
          HeardBy (w.at u).head.level (w.at u).coming (w.at u).head.phase (w.at u).head.best o (w.at u).head.halted →
          HeardBy (w.at u).head.level (w.at u).coming (w.at u).head.phase (w.at u).head.best o b
      more h = record { top = h.top; done = h.done; key = h.key; halts = λ x y. ⊎_elim (λ e. e ∙ h.halts x y) (λ e. e) why }

      from_back :
          IsCore (far_end g w u j) (end g w u j) →
          Back (NamesOf g w (w.at u).fragment) (tree_end (end g w u j)) (tree_end (far_end g w u j)) k ms →
          HeardBy (w.at u).head.level (w.at u).coming (w.at u).head.phase (w.at u).head.best (w.at (far g u j)).head.best b
      from_back c (Old h x y) = absurd (h.down c.2)
      from_back c (Half z s x y n f q) = record {
        top = begun_at_top (tree_end (end g w u j)) s.here x s.at_here;
        done = rests;
        key = ap (below (best_key (w.at u).head.best)) q ∙ less;
        halts = λ o p. halts (sym q ∙ ap best_key o) p;
      }

  -- a node that has heard all reports makes its own
  pub closes_lives :
      (w.at u).head.phase ≡ Find →
      (w.at u).head.in_branch ≡ Some j →
      (k : Option Key) → Lives g
      (acts g u (record (w.at u) { head = record (w.at u).head { phase = Found } }) (put (w.seen u) j (w.seen u j)) ((j, Report k) ∷ []) w)
  closes_lives finds way k =
      touches_lives g wired u u_is (record (w.at u) { head = record (w.at u).head { phase = Found } }) j at (w.seen u j) (Report k ∷ [])
      ((j, Report k) ∷ []) (sends_one j (Report k)) w lives
      (near_asks j at, far_asks j at, (λ i at' ne. near_asks i at'), (λ i at' ne. far_asks i at')) (
        near_brought j at,
        (λ c. brought_despite (seen_beyond g w u j).tree (w.at (far g u j)).head.level k ∙ far_brought j at c),
        (λ i at' ne. near_brought i at'),
        (λ i at' ne. far_brought i at'),
      ) (
        (λ c t f n. absurd (let z = has_report_append (seen_beyond g w u j).tree k in cc (z, n))),
        (λ c t f n. absurd (hears_nothing finds j at c t f n)),
        (λ i at' ne c t f n. absurd (ne (sym (same_Some j i (sym up ∙ c.2))))),
        (λ i at' ne c t f n. absurd (hears_nothing finds i at' c t f n)),
      )
    where
      up : (w.at u).up ≡ Some j
      up = let s = (holds.nodes u u_is).searching finds in s.up ∙ sym s.in_branch ∙ way

-- a node without ports wakes and halts
module _ (g : Network) (wired : IsWired g) (u : ℕ) (u_is : InNetwork g u) (w : Scene) (lives : Lives g w)
    (lone : ◌≡◌ {A = ℕ} (length (g.ports u)) 0) where
  no_port : (i : ℕ) → At g u i → ⊥
  no_port i at = omega (arith, at.port, lone)

  abbrev x : Member
  x = halts_alone (w.at u)

  pub lone_lives : Lives g (acts g u (halts_alone (w.at u)) (w.seen u) [] w)
  lone_lives = record {
    asks =
        acts_keeps g wired u u_is.some u_is.node x (w.seen u) [] w ProbeAsks lives.asks (λ i at. absurd (no_port i at))
        (λ i at. absurd (no_port i at));
    brought =
        acts_keeps g wired u u_is.some u_is.node x (w.seen u) [] w ChildBrought lives.brought (λ i at. absurd (no_port i at))
        (λ i at. absurd (no_port i at));
    heard =
        acts_keeps g wired u u_is.some u_is.node x (w.seen u) [] w CoreHeard lives.heard (λ i at. absurd (no_port i at))
        (λ i at. absurd (no_port i at));
  }
