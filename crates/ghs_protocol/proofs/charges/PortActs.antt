-- What ports pay, act by act.
use Rattle.std.proofs.Common.{◌≡◌, ◌≢◌, ◌⊎◌, inl, inr, ℕ, ◌+◌, ◌≤◌, Bool, true, false, Some, None, List, [], ◌∷◌, ◌++◌, refl, sym, ◌∙◌, ap, ap₂, subst, subst₂, arith, ⊎_elim, ne_eqb, eq-eqb}
use Rattle.std.proofs.lemmas.Bool.{cases_eq}
use Rattle.ghs_node.specs.declared.head.Head.{Head}
use Rattle.ghs_node.specs.declared.mark.Mark.{Mark}
use Rattle.ghs_node.specs.declared.mark.Mark.TheVariants.{Basic, Branch, Rejected}
use Rattle.ghs_node.specs.declared.message.Message.{Message}
use Rattle.ghs_node.specs.declared.message.Message.TheVariants.{Test}
use Rattle.ghs_node.specs.Words.{Outgoing, is_at}
use Rattle.ghs_node.specs.Reaction.{Ending, Probing, Reporting, Waiting, last_sends, probe_after, name_of}
use Rattle.peer_network.specs.Network.{Network, At, far, far_port, InNetwork}
use Rattle.peer_network.proofs.lemmas.Wired.{IsWired}
use Rattle.peer_network.specs.Updates.{put}
use Rattle.ghs_protocol.specs.Steps.{sent_on}
use Rattle.ghs_protocol.proofs.clauses.Scene.{Seen, adds, Member, Scene, acts}
use Rattle.ghs_protocol.proofs.clauses.Changes.{seen_beyond, rejected, marked}
use Rattle.ghs_protocol.proofs.clauses.Charges.{any_test, settled, due, Rises}
use Rattle.ghs_protocol.proofs.lemmas.Sends.{messages}
use Rattle.peer_network.proofs.lemmas.Updates.{put_same, put_other}
use Rattle.ghs_protocol.proofs.tests.Links.{not_basic}
use Rattle.ghs_protocol.proofs.charges.Due.{Grows, due_most, due_basic, NoTests, tests_stay, sent_none, sent_aside, Fares, Same, Tested, Done, here_was, there_was, here_is, there_is, paid_most, paid_more}

not_at : (j i : ℕ) → i ≢ j → is_at (Some j) i ≡ false
not_at j i ne = ne_eqb j i (λ e. ne (sym e))

-- the far end has paid no less once this end has a mark
freed : (own t t' : Bool) (z m m' : Mark) → m' ≢ Basic → due own true t z m ≤ due own false t' z m'
freed true t t' z m m' marked = omega arith
freed false t t' Basic m m' marked = let z = due_basic false true t m in omega (arith, z)
freed false t t' Branch m Basic marked = absurd (marked refl)
freed false t t' Branch m Branch marked = due_most false true t Branch m
freed false t t' Branch m Rejected marked = due_most false true t Branch m
freed false t t' Rejected m Basic marked = absurd (marked refl)
freed false t t' Rejected m Branch marked = due_most false true t Rejected m
freed false t t' Rejected m Rejected marked = due_most false true t Rejected m

-- nor where it hasn't, if the far end isn't Rejected
freed_basic : (own t t' : Bool) (z : Mark) → z ≢ Rejected → due own true t z Basic ≤ due own false t' z Basic
freed_basic true t t' z ne = omega arith
freed_basic false true t' z ne = omega arith
freed_basic false false t' Basic ne = omega arith
freed_basic false false t' Branch ne = omega arith
freed_basic false false t' Rejected ne = absurd (ne refl)

pub freed_any : (own t t' : Bool) (z m : Mark) → (m ≡ Basic → z ≢ Rejected) → due own true t z m ≤ due own false t' z m
freed_any own t t' z Basic ne = freed_basic own t t' z (ne refl)
freed_any own t t' z Branch ne = freed own t t' z Branch Branch (λ e. cc)
freed_any own t t' z Rejected ne = freed own t t' z Rejected Rejected (λ e. cc)

-- a port that has a mark, and whose far end has one or still probes it
pub settled_one : (b : Bool) (m n : Mark) → m ≢ Basic → (n ≢ Basic) ⊎ ((b ≡ true) × (m ≡ Rejected)) → ◌≡◌ {A = ℕ} (settled b m n) 1
settled_one b Basic n ne why = absurd (ne refl)
settled_one b Branch Basic ne (inl z) = absurd (z refl)
settled_one b Branch Basic ne (inr z) = absurd (let y = z.1 in cc)
settled_one b Branch Branch ne why = refl
settled_one b Branch Rejected ne why = refl
settled_one b Rejected Basic ne (inl z) = absurd (z refl)
settled_one b Rejected Basic ne (inr z) = ap (λ b. settled b Rejected Basic) z.0
settled_one b Rejected Branch ne why = refl
settled_one b Rejected Rejected ne why = refl

unmet : (b t : Bool) (m n : Mark) → (b ≡ true → t ≡ false) → due false b t m n ≡ settled b m n
unmet true true m n f = absurd (let z = f refl in cc)
unmet true false m n f = refl
unmet false t m n f = refl

grows_rejected : (m : Mark) → Grows m (rejected m)
grows_rejected Basic ne = absurd (ne refl)
grows_rejected Branch ne = refl
grows_rejected Rejected ne = refl

grows_same : (m m' : Mark) → m' ≡ m → Grows m m'
grows_same m m' e ne = e

pub grows_marked : (f : ℕ → Mark) (j i : ℕ) → Grows (f i) (marked f j i)
grows_marked f j i =
    ⊎_elim (λ (e : i ≡ j).
    subst (λ y. Grows (f y) (marked f j y)) (sym e) (subst (Grows (f j)) (sym (put_same f j (rejected (f j)))) (grows_rejected (f j))))
    (λ ne. grows_same (f i) (marked f j i) (put_other f j i (rejected (f j)) ne))
    (cases_eq i j)

pub grows_branch : (f : ℕ → Mark) (j i : ℕ) → f j ≢ Rejected → Grows (f i) (put f j Branch i)
grows_branch f j i free =
    ⊎_elim
    (λ (e : i ≡ j). subst (λ y. Grows (f y) (put f j Branch y)) (sym e) (subst (Grows (f j)) (sym (put_same f j Branch)) (branch (f j) free)))
    (λ ne. grows_same (f i) (put f j Branch i) (put_other f j i Branch ne))
    (cases_eq i j)
  where
    branch : (m : Mark) → m ≢ Rejected → Grows m Branch
    branch Basic free ne = absurd (ne refl)
    branch Branch free ne = refl
    branch Rejected free ne = absurd (free refl)

module _ (g : Network) (wired : IsWired g) (u : ℕ) (u_is : InNetwork g u) (x : Member) (own : ℕ → Seen) (w : Scene)
    (fewer : (i : ℕ) → any_test (own i).tests ≡ true → any_test (w.seen u i).tests ≡ true) where
  -- no Test goes out, and no port stops being probed
  pub calm_pays : (ss : Outgoing) → NoTests (messages ss) → x.head.probe ≡ (w.at u).head.probe → ((i : ℕ) → Grows ((w.at u).mark i) (x.mark i)) →
      (j : ℕ) → Rises g w (acts g u x own ss w) u j 0
  calm_pays ss none probe grows =
      paid_most g wired u u_is x own ss w
      (λ i at. Same (ap (λ o. is_at o i) probe) (grows i) (fewer i) (tests_stay (seen_beyond g w u i) (sent_on ss i) (sent_none ss i none)))

  -- a port that isn't probed, where what comes next is this ending
  next_fares : (base : Outgoing) (h : Head) (e : Ending) →
      NoTests (messages base) →
      x.head.probe ≡ probe_after None e →
      ((q : ℕ) → e ≡ Probing q → (w.at u).mark q ≡ Basic) →
      (i : ℕ) → Grows ((w.at u).mark i) (x.mark i) → is_at (w.at u).head.probe i ≡ false → Fares g wired u u_is x own (base ++ last_sends h e) w i
  next_fares base h (Probing q) none probe next i grows free = ⊎_elim
      (λ (z : i ≡ q). Tested (ap (w.at u).mark z ∙ next q refl) free)
      (λ ne. Same (ap (λ o. is_at o i) probe ∙ not_at q i ne ∙ sym free) grows (fewer i)
      (subst
      (λ (ms : List Message). (adds (seen_beyond g w u i) ms).tests ≡ (seen_beyond g w u i).tests)
      (sym (sent_aside base q i (Test h.level (name_of h)) ne))
      (tests_stay (seen_beyond g w u i) (sent_on base i) (sent_none base i none))))
      (cases_eq i q)
  next_fares base h Reporting none probe next i grows free =
      Same (ap (λ o. is_at o i) probe ∙ sym free) grows (fewer i)
      (tests_stay (seen_beyond g w u i) (sent_on (base ++ last_sends h Reporting) i)
      (sent_none (base ++ last_sends h Reporting) i (no_more base none)))
    where
      no_more : (base : Outgoing) → NoTests (messages base) → NoTests (messages (base ++ last_sends h Reporting))
      no_more [] z = refl
      no_more (s ∷ base) z = let y = no_more base (omega (arith, z)) in omega (arith, z, y)
  next_fares base h Waiting none probe next i grows free =
      Same (ap (λ o. is_at o i) probe ∙ sym free) grows (fewer i)
      (tests_stay (seen_beyond g w u i) (sent_on (base ++ last_sends h Waiting) i)
      (sent_none (base ++ last_sends h Waiting) i (no_more base none)))
    where
      no_more : (base : Outgoing) → NoTests (messages base) → NoTests (messages (base ++ last_sends h Waiting))
      no_more [] z = refl
      no_more (s ∷ base) z = let y = no_more base (omega (arith, z)) in omega (arith, z, y)

  -- a search begins
  pub search_pays : (base : Outgoing) (h : Head) (e : Ending) →
      NoTests (messages base) →
      x.head.probe ≡ probe_after None e →
      ((q : ℕ) → e ≡ Probing q → (w.at u).mark q ≡ Basic) →
      x.mark ≡ (w.at u).mark → (w.at u).head.probe ≡ None → (j : ℕ) → Rises g w (acts g u x own (base ++ last_sends h e) w) u j 0
  search_pays base h e none probe next marks free =
      paid_most g wired u u_is x own (base ++ last_sends h e) w
      (λ i at. next_fares base h e none probe next i (grows_same _ _ (ap (λ (f : ℕ → Mark). f i) marks)) (ap (λ o. is_at o i) free))

  module _ (j : ℕ) (at : At g u j) where
    -- what stands at j's far end
    abbrev z_mark : Mark
    z_mark = (w.at (far g u j)).mark (far_port g u j)

    abbrev z_own : Bool
    z_own = is_at (w.at (far g u j)).head.probe (far_port g u j)

    abbrev z_tests : Seen
    z_tests = seen_beyond g w u j

    -- port j stops being probed
    module _ (h : Head) (e : Ending) (probe : x.head.probe ≡ probe_after None e) (was : (w.at u).head.probe ≡ Some j)
        (next : (q : ℕ) → e ≡ Probing q → (w.at u).mark q ≡ Basic) (apart : (q : ℕ) → e ≡ Probing q → q ≢ j) where
      gone : is_at x.head.probe j ≡ false
      gone = ap (λ o. is_at o j) probe ∙ after e apart
        where
          after : (e : Ending) → ((q : ℕ) → e ≡ Probing q → q ≢ j) → is_at (probe_after None e) j ≡ false
          after (Probing q) ne = not_at q j (λ z. ne q refl (sym z))
          after Reporting ne = refl
          after Waiting ne = refl

      others : ((i : ℕ) → Grows ((w.at u).mark i) (x.mark i)) →
          there_was g wired u u_is x own (last_sends h e) w j ≤ there_is g wired u u_is x own (last_sends h e) w j →
          (i : ℕ) → At g u i →
          Fares g wired u u_is x own (last_sends h e) w i
      others grows there i at' = ⊎_elim
          (λ (z : i ≡ j). subst (Fares g wired u u_is x own (last_sends h e) w) (sym z) (Done (omega (arith, no_debt)) there))
          (λ ne. next_fares [] h e refl probe next i (grows i) (ap (λ o. is_at o i) was ∙ not_at j i ne))
          (cases_eq i j)
        where
          no_debt : here_was g wired u u_is x own (last_sends h e) w j ≡ 0
          no_debt = ap (λ b. due b z_own (any_test (w.seen u j).tests) ((w.at u).mark j) z_mark) (ap (λ o. is_at o j) was ∙ eq-eqb j j refl)

      -- after an Accept
      pub accept_pays : x.mark ≡ (w.at u).mark → ((w.at u).mark j ≡ Basic → z_mark ≢ Rejected) → Rises g w (acts g u x own (last_sends h e) w) u j 0
      accept_pays marks free =
          paid_most g wired u u_is x own (last_sends h e) w
          (others (λ i. grows_same _ _ (ap (λ (f : ℕ → Mark). f i) marks))
          (subst₂ (λ b b'.
          due z_own b (any_test z_tests.tests) z_mark ((w.at u).mark j) ≤ due z_own b'
          (any_test (adds z_tests (sent_on (last_sends h e) j)).tests) z_mark (x.mark j))
          (sym (ap (λ o. is_at o j) was ∙ eq-eqb j j refl)) (sym gone)
          (subst (λ (f : ℕ → Mark).
          due z_own true (any_test z_tests.tests) z_mark ((w.at u).mark j) ≤ due z_own false
          (any_test (adds z_tests (sent_on (last_sends h e) j)).tests) z_mark (f j))
          (sym marks)
          (freed_any z_own (any_test z_tests.tests) (any_test (adds z_tests (sent_on (last_sends h e) j)).tests) z_mark ((w.at u).mark j) free)))) j

      -- after a Reject, and after a Test that crossed one's own
      pub turn_pays :
          x.mark ≡ marked (w.at u).mark j →
          (z_own ≡ true → any_test (own j).tests ≡ false) →
          (z_mark ≢ Basic) ⊎ ((z_own ≡ true) × (x.mark j ≡ Rejected)) →
          Rises g w (acts g u x own (last_sends h e) w) u j 1
      turn_pays marks met why =
          paid_more g wired u u_is x own (last_sends h e) w
          (others (λ i. subst (λ (f : ℕ → Mark). Grows ((w.at u).mark i) (f i)) (sym marks) (grows_marked (w.at u).mark j i))
          (subst₂ (λ b b'.
          due z_own b (any_test z_tests.tests) z_mark ((w.at u).mark j) ≤ due z_own b'
          (any_test (adds z_tests (sent_on (last_sends h e) j)).tests) z_mark (x.mark j))
          (sym probed) (sym gone)
          (freed z_own (any_test z_tests.tests) (any_test (adds z_tests (sent_on (last_sends h e) j)).tests) z_mark ((w.at u).mark j) (x.mark j)
          has_mark)))
          j 1 at
          (subst₂
          (λ b b'. due b z_own (any_test (w.seen u j).tests) ((w.at u).mark j) z_mark + 1 ≤ due b' z_own (any_test (own j).tests) (x.mark j) z_mark)
          (sym probed) (sym gone)
          (let one = unmet z_own (any_test (own j).tests) (x.mark j) z_mark met ∙ settled_one z_own (x.mark j) z_mark has_mark why in
          omega (arith, one)))
        where
          probed : is_at (w.at u).head.probe j ≡ true
          probed = ap (λ o. is_at o j) was ∙ eq-eqb j j refl

          has_mark : x.mark j ≢ Basic
          has_mark b =
              not_basic ((w.at u).mark j) (sym (put_same (w.at u).mark j (rejected ((w.at u).mark j))) ∙ sym (ap (λ (f : ℕ → Mark). f j) marks) ∙ b)

    -- a Reject goes out
    pub reject_pays : (ss : Outgoing) →
        NoTests (messages ss) →
        x.head.probe ≡ (w.at u).head.probe →
        is_at (w.at u).head.probe j ≡ false →
        x.mark ≡ marked (w.at u).mark j →
        z_own ≡ true → any_test (w.seen u j).tests ≡ true → any_test (own j).tests ≡ false → (x.mark j ≡ Branch → z_mark ≢ Basic) →
        Rises g w (acts g u x own ss w) u j 1
    reject_pays ss none probe free marks theirs waits left why =
        paid_more g wired u u_is x own ss w
        (λ i at'.
        Same (ap (λ o. is_at o i) probe)
        (subst (λ (f : ℕ → Mark). Grows ((w.at u).mark i) (f i)) (sym marks) (grows_marked (w.at u).mark j i)) (fewer i)
        (tests_stay (seen_beyond g w u i) (sent_on ss i) (sent_none ss i none)))
        j 1 at
        (omega (arith, was, is))
      where
        has_mark : x.mark j ≢ Basic
        has_mark b =
            not_basic ((w.at u).mark j) (sym (put_same (w.at u).mark j (rejected ((w.at u).mark j))) ∙ sym (ap (λ (f : ℕ → Mark). f j) marks) ∙ b)

        was : here_was g wired u u_is x own ss w j ≡ 0
        was =
            ap₂ (λ b t. due (is_at (w.at u).head.probe j) b t ((w.at u).mark j) z_mark) theirs waits ∙
            ap (λ b. due b true true ((w.at u).mark j) z_mark) free

        kind : (m : Mark) → m ≢ Basic → (m ≡ Branch → z_mark ≢ Basic) → (z_mark ≢ Basic) ⊎ ((z_own ≡ true) × (m ≡ Rejected))
        kind Basic ne f = absurd (ne refl)
        kind Branch ne f = inl (f refl)
        kind Rejected ne f = inr (theirs, refl)

        is : here_is g wired u u_is x own ss w j ≡ 1
        is =
            ap (λ b. due b z_own (any_test (own j).tests) (x.mark j) z_mark) (ap (λ o. is_at o j) probe ∙ free) ∙
            unmet z_own (any_test (own j).tests) (x.mark j) z_mark (λ e. left) ∙
            settled_one z_own (x.mark j) z_mark has_mark (kind (x.mark j) has_mark why)
