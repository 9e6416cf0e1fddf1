-- What ports have paid never falls.
use Rattle.std.proofs.Common.{◌≡◌, ◌≢◌, ℕ, zero, suc, ◌+◌, ◌≤◌, ◌<◌, ◌==◌, Bool, true, false, Some, List, [], ◌∷◌, ◌++◌, length, refl, sym, ◌∙◌, ap, ap₂, subst, subst₂, arith, ⊎_elim, ne_eqb, eq-eqb, if◌then◌else◌}
use Rattle.std.proofs.lemmas.Bool.{cases_eq}
use Rattle.ghs_graph.specs.declared.key.Key.{Key}
use Rattle.ghs_node.specs.declared.mark.Mark.{Mark}
use Rattle.ghs_node.specs.declared.mark.Mark.TheVariants.{Basic, Branch, Rejected}
use Rattle.ghs_node.specs.declared.message.Message.{Message}
use Rattle.ghs_node.specs.declared.message.Message.TheVariants.{Connect, Initiate, Test, Accept, Reject, Report, ChangeRoot}
use Rattle.ghs_node.specs.Words.{Outgoing, is_at}
use Rattle.peer_network.specs.Network.{Network, At, far, far_port, InNetwork}
use Rattle.peer_network.proofs.lemmas.Wired.{IsWired}
use Rattle.ghs_protocol.specs.Ledger.{of_kind}
use Rattle.peer_network.specs.Sums.{sum_below, sum_over_ports}
use Rattle.ghs_protocol.specs.Steps.{sent_on}
use Rattle.ghs_protocol.proofs.clauses.Scene.{Seen, add, adds, Member, Scene, end, TestEnd, test_end, acts}
use Rattle.ghs_protocol.proofs.clauses.Changes.{seen_beyond}
use Rattle.ghs_protocol.proofs.clauses.Charges.{any_test, settled, due, paid, paid_at, Rises}
use Rattle.ghs_protocol.proofs.lemmas.Sends.{messages}
use Rattle.peer_network.proofs.lemmas.Sums.{sum_most}
use Rattle.ghs_protocol.proofs.acts.Ends.{acts_read}

-- sums that rise
more_below : (n j d : ℕ) (f h : ℕ → ℕ) → j < n → ((i : ℕ) → i < n → f i ≤ h i) → f j + d ≤ h j → sum_below n f + d ≤ sum_below n h
more_below zero j d f h lt le more = absurd (omega arith)
more_below (suc n) j d f h lt le more = ⊎_elim here (before (λ k. more_below n j d f h k (λ i l. le i (omega arith)) more)) (cases_eq j n)
  where
    here : j ≡ n → sum_below n f + f n + d ≤ sum_below n h + h n
    here e =
        let rest = sum_most n f h (λ i l. le i (omega arith)) in
        let z : f n + d ≤ h n = subst (λ y. f y + d ≤ h y) e more in omega (arith, rest, z)

    before : (j < n → sum_below n f + d ≤ sum_below n h) → j ≢ n → sum_below n f + f n + d ≤ sum_below n h + h n
    before ih ne = let rest = ih (omega arith) in let last = le n (omega arith) in omega (arith, rest, last)

module _ (g : Network) where
  pub ports_most : (f h : ℕ → ℕ → ℕ) → ((v p : ℕ) → At g v p → f v p ≤ h v p) → sum_over_ports g f ≤ sum_over_ports g h
  ports_most f h le =
      sum_most g.count _ _ (λ i lt.
      sum_most (length (g.ports (suc i))) (f (suc i)) (h (suc i))
      (λ p l. le (suc i) p (record { some = omega arith; node = omega arith; port = l })))

  pub ports_more : (f h : ℕ → ℕ → ℕ) (v p d : ℕ) →
      At g v p →
      ((a b : ℕ) → At g a b → f a b ≤ h a b) →
      f v p + d ≤ h v p →
      sum_over_ports g f + d ≤ sum_over_ports g h
  ports_more f h zero p d at le more = absurd (let lo = at.some in omega arith)
  ports_more f h (suc v) p d at le more =
      more_below g.count v d _ _ (let k = at.node in omega arith)
      (λ i lt.
      sum_most (length (g.ports (suc i))) (f (suc i)) (h (suc i))
      (λ b l. le (suc i) b (record { some = omega arith; node = omega arith; port = l })))
      (more_below (length (g.ports (suc v))) p d (f (suc v)) (h (suc v)) at.port
      (λ b l. le (suc v) b (record { some = omega arith; node = at.node; port = l }))
      more)

-- a mark that is none may become any, others stay
abbrev pub Grows : Mark → Mark → Type 0
Grows m m' = m ≢ Basic → m' ≡ m

pub due_most : (own b t : Bool) (m n : Mark) → due own b t m n ≤ 1
due_most true b t m n = omega arith
due_most false true true m n = omega arith
due_most false b t Basic n =
    elim b as (λ b. due false b t Basic n ≤ 1)
    [ true ↦ elim t as (λ t. due false true t Basic n ≤ 1) [ true ↦ omega arith | false ↦ omega arith ] | false ↦ omega arith ]
due_most false false t Branch Basic = omega arith
due_most false false t Branch Branch = omega arith
due_most false false t Branch Rejected = omega arith
due_most false false t Rejected Basic = omega arith
due_most false false t Rejected Branch = omega arith
due_most false false t Rejected Rejected = omega arith
due_most false true false Branch Basic = omega arith
due_most false true false Branch Branch = omega arith
due_most false true false Branch Rejected = omega arith
due_most false true false Rejected Basic = omega arith
due_most false true false Rejected Branch = omega arith
due_most false true false Rejected Rejected = omega arith

-- an unmarked end has paid nothing
pub due_basic : (own b t : Bool) (n : Mark) → due own b t Basic n ≡ 0
due_basic true b t n = refl
due_basic false true true n = refl
due_basic false true false n = refl
due_basic false false t n = refl

-- nor has one whose far end has no mark and doesn't probe
due_aside : (own t : Bool) (m : Mark) → due own false t m Basic ≡ 0
due_aside true t m = refl
due_aside false t Basic = refl
due_aside false t Branch = refl
due_aside false t Rejected = refl

least : (n : ℕ) → 0 ≤ n
least n = omega arith

-- marks grow at this end, and Tests are taken
due_near : (own b t t' : Bool) (m m' n : Mark) → (t' ≡ true → t ≡ true) → Grows m m' → due own b t m n ≤ due own b t' m' n
due_near own b t t' Basic m' n fewer grows = let z = due_basic own b t n in let y = least (due own b t' m' n) in omega (arith, z, y)
due_near own b t t' Branch m' n fewer grows =
    subst (λ x. due own b t Branch n ≤ due own b t' x n) (sym (grows (λ e. cc))) (tests Branch own b t t' fewer)
  where
    tests : (m : Mark) (own b t t' : Bool) → (t' ≡ true → t ≡ true) → due own b t m n ≤ due own b t' m n
    tests m true b t t' f = omega arith
    tests m false false t t' f = omega arith
    tests m false true true t' f = least (due false true t' m n)
    tests m false true false false f = omega arith
    tests m false true false true f = absurd (let z = f refl in cc)
due_near own b t t' Rejected m' n fewer grows =
    subst (λ x. due own b t Rejected n ≤ due own b t' x n) (sym (grows (λ e. cc))) (tests Rejected own b t t' fewer)
  where
    tests : (m : Mark) (own b t t' : Bool) → (t' ≡ true → t ≡ true) → due own b t m n ≤ due own b t' m n
    tests m true b t t' f = omega arith
    tests m false false t t' f = omega arith
    tests m false true true t' f = least (due false true t' m n)
    tests m false true false false f = omega arith
    tests m false true false true f = absurd (let z = f refl in cc)

settled_far : (b : Bool) (m n' : Mark) → settled b m Basic ≤ settled b m n'
settled_far b Basic n' = omega arith
settled_far b Branch n' = omega arith
settled_far true Rejected Basic = omega arith
settled_far true Rejected Branch = omega arith
settled_far true Rejected Rejected = omega arith
settled_far false Rejected n' = omega arith

-- marks grow at the far end
pub due_far : (own b t : Bool) (m n n' : Mark) → Grows n n' → due own b t m n ≤ due own b t m n'
due_far own b t m Branch n' grows = subst (λ x. due own b t m Branch ≤ due own b t m x) (sym (grows (λ e. cc))) (omega arith)
due_far own b t m Rejected n' grows = subst (λ x. due own b t m Rejected ≤ due own b t m x) (sym (grows (λ e. cc))) (omega arith)
due_far true b t m Basic n' grows = omega arith
due_far false true true m Basic n' grows = omega arith
due_far false true false m Basic n' grows = settled_far true m n'
due_far false false t m Basic n' grows = settled_far false m n'

-- messages that are no Tests

abbrev pub NoTests : List Message → Type 0
NoTests ms = of_kind 2 ms ≡ 0

pub tests_stay : (q : Seen) (ms : List Message) → NoTests ms → (adds q ms).tests ≡ q.tests
tests_stay q [] e = refl
tests_stay q (Connect l ∷ ms) e = tests_stay (add q (Connect l)) ms (omega (arith, e))
tests_stay q (Initiate l f s ∷ ms) e = tests_stay (add q (Initiate l f s)) ms (omega (arith, e))
tests_stay q (Test l f ∷ ms) e = absurd (omega (arith, e))
tests_stay q (Accept ∷ ms) e = tests_stay (add q Accept) ms (omega (arith, e))
tests_stay q (Reject ∷ ms) e = tests_stay (add q Reject) ms (omega (arith, e))
tests_stay q (Report w ∷ ms) e = tests_stay (add q (Report w)) ms (omega (arith, e))
tests_stay q (ChangeRoot ∷ ms) e = tests_stay (add q ChangeRoot) ms (omega (arith, e))

pub sent_none : (ss : Outgoing) (i : ℕ) → NoTests (messages ss) → NoTests (sent_on ss i)
sent_none [] i e = refl
sent_none (s ∷ ss) i e = go (s.0 == i) (sent_none ss i (omega (arith, e))) (omega (arith, e))
  where
    go : (b : Bool) → NoTests (sent_on ss i) → of_kind 2 (s.1 ∷ []) ≡ 0 → NoTests (if b then s.1 ∷ sent_on ss i else sent_on ss i)
    go true r one = omega (arith, r, one)
    go false r one = r

pub sent_aside : (ss : Outgoing) (p i : ℕ) (m : Message) → i ≢ p → sent_on (ss ++ (p, m) ∷ []) i ≡ sent_on ss i
sent_aside [] p i m ne = rw (ne_eqb p i (λ z. ne (sym z))) refl
sent_aside (s ∷ ss) p i m ne = ap (λ (x : List Message). if s.0 == i then s.1 ∷ x else x) (sent_aside ss p i m ne)

-- One act, as ports pay.
module _ (g : Network) (wired : IsWired g) (u : ℕ) (u_is : InNetwork g u) (x : Member) (own : ℕ → Seen) (ss : Outgoing) (w : Scene) where
  -- the far end's node, and the queue there
  abbrev pub beyond : ℕ → Member
  beyond i = w.at (far g u i)

  abbrev pub queue_beyond : ℕ → Seen
  queue_beyond i = seen_beyond g w u i

  abbrev pub here_was : ℕ → ℕ
  here_was i =
      due (is_at (w.at u).head.probe i) (is_at (beyond i).head.probe (far_port g u i)) (any_test (w.seen u i).tests) ((w.at u).mark i)
      ((beyond i).mark (far_port g u i))

  abbrev pub there_was : ℕ → ℕ
  there_was i =
      due (is_at (beyond i).head.probe (far_port g u i)) (is_at (w.at u).head.probe i) (any_test (queue_beyond i).tests)
      ((beyond i).mark (far_port g u i)) ((w.at u).mark i)

  abbrev pub here_is : ℕ → ℕ
  here_is i =
      due (is_at x.head.probe i) (is_at (beyond i).head.probe (far_port g u i)) (any_test (own i).tests) (x.mark i)
      ((beyond i).mark (far_port g u i))

  abbrev pub there_is : ℕ → ℕ
  there_is i =
      due (is_at (beyond i).head.probe (far_port g u i)) (is_at x.head.probe i) (any_test (adds (queue_beyond i) (sent_on ss i)).tests)
      ((beyond i).mark (far_port g u i)) (x.mark i)

  -- how a port of the node that acts fares: nothing but a mark, and Tests that are taken; or it is to be tested; or else
  pub data Fares (i : ℕ) : Type 0 where
    Same :
        is_at x.head.probe i ≡ is_at (w.at u).head.probe i →
        Grows ((w.at u).mark i) (x.mark i) →
        (any_test (own i).tests ≡ true → any_test (w.seen u i).tests ≡ true) →
        (adds (queue_beyond i) (sent_on ss i)).tests ≡ (queue_beyond i).tests → Fares i
    Tested : (w.at u).mark i ≡ Basic → is_at (w.at u).head.probe i ≡ false → Fares i
    Done : here_was i ≤ here_is i → there_was i ≤ there_is i → Fares i

  pub fares_here : (i : ℕ) → Fares i → here_was i ≤ here_is i
  fares_here i (Same probe grows fewer same) =
      subst (λ b.
      here_was i ≤ due b (is_at (beyond i).head.probe (far_port g u i)) (any_test (own i).tests) (x.mark i) ((beyond i).mark (far_port g u i)))
      (sym probe)
      (due_near (is_at (w.at u).head.probe i) (is_at (beyond i).head.probe (far_port g u i)) (any_test (w.seen u i).tests)
      (any_test (own i).tests) ((w.at u).mark i) (x.mark i) ((beyond i).mark (far_port g u i)) fewer grows)
  fares_here i (Tested basic free) =
      let z : here_was i ≡ 0 = ap (λ m.
      due (is_at (w.at u).head.probe i) (is_at (beyond i).head.probe (far_port g u i)) (any_test (w.seen u i).tests) m
      ((beyond i).mark (far_port g u i)))
      basic ∙
      due_basic (is_at (w.at u).head.probe i) (is_at (beyond i).head.probe (far_port g u i)) (any_test (w.seen u i).tests)
      ((beyond i).mark (far_port g u i)) in
      let y = least (here_is i) in
      omega (arith, z, y)
  fares_here i (Done a b) = a

  pub fares_there : (i : ℕ) → Fares i → there_was i ≤ there_is i
  fares_there i (Same probe grows fewer same) =
      subst₂ (λ b (t : List (ℕ × Key)).
      there_was i ≤ due (is_at (beyond i).head.probe (far_port g u i)) b (any_test t) ((beyond i).mark (far_port g u i)) (x.mark i))
      (sym probe) (sym same)
      (due_far (is_at (beyond i).head.probe (far_port g u i)) (is_at (w.at u).head.probe i) (any_test (queue_beyond i).tests)
      ((beyond i).mark (far_port g u i)) ((w.at u).mark i) (x.mark i) grows)
  fares_there i (Tested basic free) =
      let z : there_was i ≡ 0 = ap₂
      (λ b m. due (is_at (beyond i).head.probe (far_port g u i)) b (any_test (queue_beyond i).tests) ((beyond i).mark (far_port g u i)) m)
      free basic ∙
      due_aside (is_at (beyond i).head.probe (far_port g u i)) (any_test (queue_beyond i).tests) ((beyond i).mark (far_port g u i)) in
      let y = least (there_is i) in
      omega (arith, z, y)
  fares_there i (Done a b) = b

  module _ (fares : (i : ℕ) → At g u i → Fares i) where
    pub paid_stays : (v p : ℕ) → At g v p → paid_at g w v p ≤ paid_at g (acts g u x own ss w) v p
    paid_stays =
        acts_read g wired u u_is.some u_is.node x own ss w (λ v p e f. paid_at g w v p ≤ paid (test_end e) (test_end f))
        (λ v p at ne ne'. omega arith)
        (λ i at. fares_here i (fares i at))
        (λ i at.
        subst₂
        (λ a b. paid (test_end (end g w (far g u i) (far_port g u i))) (test_end (end g w a b)) ≤ there_is i)
        (sym (wired.back u i at)) (sym (wired.back_port u i at)) (fares_there i (fares i at)))

    pub paid_most : (j : ℕ) → Rises g w (acts g u x own ss w) u j 0
    paid_most j = record { stays = paid_stays; more = λ h. absurd (omega (arith, h)) }

    -- and a port pays
    pub paid_more : (j d : ℕ) → At g u j → here_was j + d ≤ here_is j → Rises g w (acts g u x own ss w) u j d
    paid_more j d at more = record {
      stays = paid_stays;
      more = λ h. (
        at,
        acts_read g wired u u_is.some u_is.node x own ss w
            (λ v p e f. v ≡ u → p ≡ j → paid_at g w v p + d ≤ paid (test_end e) (test_end f))
            (λ v p at ne ne' e e'. absurd (ne e))
            (λ i at e e'. subst (λ y. here_was y + d ≤ here_is y) (sym e') more)
            (λ i at e e'. absurd (wired.apart u i at e)) u j at refl refl,
      );
    }

-- what all ports have paid
pub all_more : (g : Network) (w w' : Scene) (v p a : ℕ) → Rises g w w' v p a → sum_over_ports g (paid_at g w) + a ≤ sum_over_ports g (paid_at g w')
all_more g w w' v p zero r = let z = ports_most g (paid_at g w) (paid_at g w') r.stays in omega (arith, z)
all_more g w w' v p (suc a) r = let z = r.more (omega arith) in ports_more g (paid_at g w) (paid_at g w') v p (suc a) z.0 r.stays z.1

-- no port pays more than once, and none does that is being tested
module _ (g : Network) (w : Scene) (v p : ℕ) where
  abbrev f : TestEnd
  f = test_end (end g w (far g v p) (far_port g v p))

  pub paid_once : paid_at g w v p ≤ 1
  paid_once = due_most (is_at (w.at v).head.probe p) (is_at f.probe f.port) (any_test (w.seen v p).tests) ((w.at v).mark p) f.mark

  pub paid_not : (w.at v).head.probe ≡ Some p → ◌≡◌ {A = ℕ} (paid_at g w v p) 0
  paid_not e = ap (λ b. due b (is_at f.probe f.port) (any_test (w.seen v p).tests) ((w.at v).mark p) f.mark) (ap (λ o. is_at o p) e ∙ eq-eqb p p refl)
