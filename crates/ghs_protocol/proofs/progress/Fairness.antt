-- A fair run comes to its end: of two laps one takes a message that doesn't wait, or wakes a node.
use Rattle.std.proofs.Common.{◌≡◌, ◌≢◌, ℕ, zero, suc, ◌<◌, ◌≤◌, ◌+◌, ◌*◌, true, Some, List, [], ◌∷◌, ◌++◌, length, refl, sym, ◌∙◌, ap, subst, ⊎_elim, ◌⊎◌, inl, inr, arith, append_assoc, length-append, suc-mul}
use Rattle.std.proofs.lemmas.Bool.{cases_lt}
use Rattle.std.proofs.lemmas.Option.{same_Some}
use Rattle.ghs_graph.specs.Graph.{Shape, IsGraph}
use Rattle.ghs_node.specs.declared.message.Message.{Message}
use Rattle.peer_network.specs.declared.event.Event.{Event}
use Rattle.peer_network.specs.declared.event.Event.TheVariants as events
use Rattle.peer_network.specs.declared.event.Event.TheVariants.{Take}
use Rattle.ghs_node.specs.declared.message.Phase.TheVariants.{Sleeping}
use Rattle.peer_network.specs.Network.{Network, network_of, At}
use Rattle.peer_network.proofs.lemmas.Sums.{sum_most}
use Rattle.ghs_protocol.specs.Net.{Net, happens}
use Rattle.ghs_protocol.specs.Run.{run}
use Rattle.ghs_protocol.specs.Ledger.{in_all}
use Rattle.ghs_protocol.specs.Laws.{IsNetOf}
use Rattle.ghs_protocol.specs.Steps.{Happens, Woke, Took}
use Rattle.ghs_protocol.specs.Living.{GoesOn, Stands, Now, Soon, StandsTwice, Now_and_soon, Soon_twice}
use Rattle.ghs_protocol.specs.Fairness.{HasWork, IsLap, IsFullLap, AllTakenIsLap, GotOn, Consumes, Wakes, TwoLapsGetOn, FullLapGetsOn, IsCut, Goes, LapsAreFew, FullLapsAreFew, IsServed, ServedRunsAreShort, PromptRunsAreShort}
use Rattle.ghs_protocol.proofs.charges.Bound.{sends_within}
use Rattle.ghs_protocol.proofs.lemmas.Events.{happening, taken_at}
use Rattle.ghs_protocol.proofs.lemmas.Runs.{both_some, run_splits, run_joins, run_keeps}
use Rattle.ghs_protocol.proofs.progress.Anywhere.{no_message_is_stuck}
use Rattle.ghs_protocol.proofs.progress.Finish.{reached, later, grows, most, awake_one, awake_few, awake_is, asleep_is, phase_is}
use Rattle.ghs_protocol.proofs.progress.Found.{search}
use Rattle.ghs_protocol.proofs.progress.Rounds.{wake_gets_on, Ready, happened, at_most}

pub not_empty : (bs : List Message) (m : Message) (cs : List Message) → bs ++ m ∷ cs ≢ []
not_empty [] m cs e = cc
not_empty (b ∷ bs) m cs e = cc

pub taken_some : {g : Network} {w : Net} {v p : ℕ} {x : Net} → Happens g w (events.Take v p) x → w.queue v p ≢ []
taken_some (Took v p m ms d at q r) e = let z : m ∷ ms ≡ [] = sym q ∙ e in cc

pub one_node : {g : Network} {w x : Net} {e : Event} → Happens g w e x → 1 ≤ g.count
one_node (Woke v d lo hi s r) = omega (arith, lo, hi)
one_node (Took v p m ms d at q r) = let a = at.some in let b = at.node in omega (arith, a, b)

module _ (g : Shape) (graph : IsGraph g) where
  -- nothing that was reached is lost
  pub keeps : (w x : Net) (e : Event) → IsNetOf g w → Happens (network_of g) w e x → reached (network_of g) w ≤ reached (network_of g) x
  keeps w x (events.Wake v) n h = let z = wake_gets_on g graph w v x n h in omega (arith, z)
  keeps w x (Take v p) n h = grows g graph w x v p n h

  is_net : (es : List Event) (w x : Net) → IsNetOf g w → run (network_of g) es w ≡ Some x → IsNetOf g x
  is_net es w x n h = run_keeps (network_of g) (IsNetOf g) (λ y z e i t. later g graph y z e i t) es w x n h

  all_keep : (es : List Event) (w x : Net) → IsNetOf g w → run (network_of g) es w ≡ Some x → reached (network_of g) w ≤ reached (network_of g) x
  all_keep [] w x n h = subst (λ y. reached (network_of g) w ≤ reached (network_of g) y) (same_Some w x h) (omega arith)
  all_keep (e ∷ es) w x n h =
      both_some (happens (network_of g) w e) (λ y. run (network_of g) es y) x h
      (λ y a b.
      let t = happening (network_of g) w y e a in
      let k = keeps w y e n t in
      let z = all_keep es y x (later g graph w y e n t) b in
      omega (arith, k, z))

  -- where an event happens, it gets on as a wake, or a message waits, and then one that can be had
  pub first : (w : Net) (e : Event) (x : Net) →
      IsNetOf g w →
      Happens (network_of g) w e x →
      (suc (reached (network_of g) w) ≤ reached (network_of g) x) ⊎ GoesOn (network_of g) w (λ u. true)
  first w (events.Wake v) x n h = inl (wake_gets_on g graph w v x n h)
  first w (Take v p) x n h = inr (no_message_is_stuck g w n (λ u. true) (λ a b c d. refl) v p (taken_at h) refl (taken_some h))

  pub ready : (w : Net) (z : GoesOn (network_of g) w (λ u. true)) → Ready g graph z.node z.port 1 w
  ready w z = record { before = z.before; message = z.message; behind = z.behind; queue = z.queue; few = z.few; goes = z.goes }

  pub has_work : (v p k : ℕ) (w : Net) → Ready g graph v p k w → HasWork w v p
  has_work v p k w r = record { before = r.before; message = r.message; behind = r.behind; queue = r.queue; goes = r.goes }

  module _ (v p : ℕ) (at : At (network_of g) v p) where
    -- a run gets on, or leaves it in its place
    carried : (k : ℕ) (es : List Event) (w x : Net) →
        IsNetOf g w →
        run (network_of g) es w ≡ Some x →
        Ready g graph v p k w →
        (suc (reached (network_of g) w) ≤ reached (network_of g) x) ⊎ Ready g graph v p k x
    carried k [] w x n h r = inr (subst (Ready g graph v p k) (same_Some w x h) r)
    carried k (e ∷ es) w x n h r =
        both_some (happens (network_of g) w e) (λ y. run (network_of g) es y) x h
        (λ y a b.
        let t = happening (network_of g) w y e a in
        let m = later g graph w y e n t in
        ⊎_elim (λ z. let l = all_keep es y x m b in inl (omega (arith, z, l)))
        (λ z. ⊎_elim (λ c. let l = keeps w y e n t in inl (omega (arith, c, l))) (λ c. inr c) (carried k es y x m b (z.0 k r)))
        (happened g graph v p at w y e n t))

    -- one that takes from its queue gets on, where it stands first
    once : (es : List Event) →
        Stands (Take v p) es →
        (w x : Net) → IsNetOf g w →
        run (network_of g) es w ≡ Some x →
        Ready g graph v p 0 w →
        suc (reached (network_of g) w) ≤ reached (network_of g) x
    once _ (Now {es = es}) w x n h r =
        both_some (happens (network_of g) w (Take v p)) (λ y. run (network_of g) es y) x h
        (λ y a b.
        let t = happening (network_of g) w y (Take v p) a in
        ⊎_elim (λ z. let l = all_keep es y x (later g graph w y (Take v p) n t) b in omega (arith, z, l)) (λ z. absurd (z.2 refl r))
        (happened g graph v p at w y (Take v p) n t))
    once _ (Soon {x = e} {es = es} s) w x n h r =
        both_some (happens (network_of g) w e) (λ y. run (network_of g) es y) x h
        (λ y a b.
        let t = happening (network_of g) w y e a in
        let m = later g graph w y e n t in
        ⊎_elim (λ z. let l = all_keep es y x m b in omega (arith, z, l))
        (λ z. let l = keeps w y e n t in let c = once es s y x m b (z.0 0 r) in omega (arith, l, c))
        (happened g graph v p at w y e n t))

    -- and gets on or brings it to the first place, where it stands second
    nearer : (es : List Event) →
        Stands (Take v p) es →
        (w x : Net) → IsNetOf g w →
        run (network_of g) es w ≡ Some x →
        Ready g graph v p 1 w →
        (suc (reached (network_of g) w) ≤ reached (network_of g) x) ⊎ Ready g graph v p 0 x
    nearer _ (Now {es = es}) w x n h r =
        both_some (happens (network_of g) w (Take v p)) (λ y. run (network_of g) es y) x h
        (λ y a b.
        let t = happening (network_of g) w y (Take v p) a in
        let m = later g graph w y (Take v p) n t in
        ⊎_elim (λ z. let l = all_keep es y x m b in inl (omega (arith, z, l)))
        (λ z. ⊎_elim (λ c. let l = keeps w y (Take v p) n t in inl (omega (arith, c, l))) (λ c. inr c) (carried 0 es y x m b (z.1 refl 0 r)))
        (happened g graph v p at w y (Take v p) n t))
    nearer _ (Soon {x = e} {es = es} s) w x n h r =
        both_some (happens (network_of g) w e) (λ y. run (network_of g) es y) x h
        (λ y a b.
        let t = happening (network_of g) w y e a in
        let m = later g graph w y e n t in
        ⊎_elim (λ z. let l = all_keep es y x m b in inl (omega (arith, z, l)))
        (λ z. ⊎_elim (λ c. let l = keeps w y e n t in inl (omega (arith, c, l))) (λ c. inr c) (nearer es s y x m b (z.0 1 r)))
        (happened g graph v p at w y e n t))

    -- and one that takes from it twice gets on
    twice : (es : List Event) →
        StandsTwice (Take v p) es →
        (w x : Net) → IsNetOf g w →
        run (network_of g) es w ≡ Some x →
        Ready g graph v p 1 w →
        suc (reached (network_of g) w) ≤ reached (network_of g) x
    twice _ (Now_and_soon {es = es} s) w x n h r =
        both_some (happens (network_of g) w (Take v p)) (λ y. run (network_of g) es y) x h
        (λ y a b.
        let t = happening (network_of g) w y (Take v p) a in
        let m = later g graph w y (Take v p) n t in
        ⊎_elim (λ z. let l = all_keep es y x m b in omega (arith, z, l))
        (λ z. let l = keeps w y (Take v p) n t in let c = once es s y x m b (z.1 refl 0 r) in omega (arith, l, c))
        (happened g graph v p at w y (Take v p) n t))
    twice _ (Soon_twice {x = e} {es = es} s) w x n h r =
        both_some (happens (network_of g) w e) (λ y. run (network_of g) es y) x h
        (λ y a b.
        let t = happening (network_of g) w y e a in
        let m = later g graph w y e n t in
        ⊎_elim (λ z. let l = all_keep es y x m b in omega (arith, z, l))
        (λ z. let l = keeps w y e n t in let c = twice es s y x m b (z.0 1 r) in omega (arith, l, c))
        (happened g graph v p at w y e n t))

  -- of two laps one gets on
  two_laps : (es fs : List Event) (w x y : Net) →
      IsNetOf g w →
      es ≢ [] →
      IsLap (network_of g) w es →
      run (network_of g) es w ≡ Some x →
      IsLap (network_of g) x fs →
      run (network_of g) fs x ≡ Some y →
      suc (reached (network_of g) w) ≤ reached (network_of g) y
  two_laps [] fs w x y n ne s h t k = absurd (ne refl)
  two_laps (e ∷ es) fs w x y n ne s h t k =
      both_some (happens (network_of g) w e) (λ z. run (network_of g) es z) x h
      (λ z a b.
      let i = happening (network_of g) w z e a in
      ⊎_elim
      (λ gets. let l = all_keep es z x (later g graph w z e n i) b in omega (arith, gets, l, last))
      (λ o. on o) (first w e z n i))
    where
      m : IsNetOf g x
      m = is_net (e ∷ es) w x n h

      last : reached (network_of g) x ≤ reached (network_of g) y
      last = all_keep fs x y m k

      on : GoesOn (network_of g) w (λ u. true) → suc (reached (network_of g) w) ≤ reached (network_of g) y
      on o =
          ⊎_elim (λ gets. omega (arith, gets, last))
          (λ r.
          let l = all_keep (e ∷ es) w x n h in
          let c = once o.node o.port o.at fs (t o.node o.port o.at (has_work o.node o.port 0 x r)) x y m k r in
          omega (arith, l, c))
          (nearer o.node o.port o.at (e ∷ es) (s o.node o.port o.at (has_work o.node o.port 1 w (ready w o))) w x n h (ready w o))

  -- a full lap gets on
  full_lap : (es : List Event) (w x : Net) →
      IsNetOf g w →
      es ≢ [] →
      IsFullLap (network_of g) w es →
      run (network_of g) es w ≡ Some x →
      suc (reached (network_of g) w) ≤ reached (network_of g) x
  full_lap [] w x n ne s h = absurd (ne refl)
  full_lap (e ∷ es) w x n ne s h =
      both_some (happens (network_of g) w e) (λ z. run (network_of g) es z) x h
      (λ z a b.
      let i = happening (network_of g) w z e a in
      ⊎_elim (λ gets. let l = all_keep es z x (later g graph w z e n i) b in omega (arith, gets, l)) (λ o. on o o.before o.queue o.few)
      (first w e z n i))
    where
      on : (o : GoesOn (network_of g) w (λ u. true)) (bs : List Message) → w.queue o.node o.port ≡ bs ++ o.message ∷ o.behind → length bs ≤ 1 →
          suc (reached (network_of g) w) ≤ reached (network_of g) x
      on o [] q few =
          once o.node o.port o.at (e ∷ es) (s.firsts o.node o.port o.at o.message o.behind q o.goes) w x n h
          (record { before = []; message = o.message; behind = o.behind; queue = q; few = omega arith; goes = o.goes })
      on o (k ∷ []) q few = twice o.node o.port o.at (e ∷ es) (s.seconds o.node o.port o.at k o.message o.behind q o.goes) w x n h (ready w o)
      on o (k ∷ (l ∷ bs)) q few = absurd (omega (arith, few))

  module _ (b : ℕ) (within : (w : Net) → IsNetOf g w → in_all w.sent ≤ b) where
    -- nothing happens where nothing more can be reached
    nothing_left : (es : List Event) (w x : Net) →
        IsNetOf g w →
        es ≢ [] →
        run (network_of g) es w ≡ Some x →
        b + g.nodes ≤ reached (network_of g) w →
        ⊥
    nothing_left [] w x n ne h le = ne refl
    nothing_left (e ∷ es) w x n ne h le =
        both_some (happens (network_of g) w e) (λ y. run (network_of g) es y) x h
        (λ y a c.
        let t = happening (network_of g) w y e a in
        ⊎_elim (λ gets. let m = most g graph b within y (later g graph w y e n t) in absurd (omega (arith, gets, m, le)))
        (λ o. at_most g graph b within w n le (λ u. true) o)
        (first w e y n t))

    laps_few : (k : ℕ) (ss : List (List Event)) (w : Net) →
        IsNetOf g w →
        IsCut (network_of g) (IsLap (network_of g)) w ss →
        b + g.nodes ≤ k + reached (network_of g) w →
        length ss ≤ 2 * k
    laps_few zero [] w n c le = omega arith
    laps_few zero (es ∷ ss) w n (Goes {x = x} ne s h c) le = absurd (nothing_left es w x n ne h (omega (arith, le)))
    laps_few (suc k) [] w n c le = omega arith
    laps_few (suc k) (es ∷ []) w n c le = omega arith
    laps_few (suc k) (es ∷ (fs ∷ ss)) w n (Goes {x = x} ne s h (Goes {x = y} ne' s' h' c)) le =
        let a = two_laps es fs w x y n ne s h s' h' in
        let l = laps_few k ss y (is_net fs x y (is_net es w x n h) h') c (omega (arith, a, le)) in
        omega (arith, l)

    fulls_few : (k : ℕ) (ss : List (List Event)) (w : Net) →
        IsNetOf g w →
        IsCut (network_of g) (IsFullLap (network_of g)) w ss →
        b + g.nodes ≤ k + reached (network_of g) w →
        length ss ≤ k
    fulls_few zero [] w n c le = omega arith
    fulls_few zero (es ∷ ss) w n (Goes {x = x} ne s h c) le = absurd (nothing_left es w x n ne h (omega (arith, le)))
    fulls_few (suc k) [] w n c le = omega arith
    fulls_few (suc k) (es ∷ ss) w n (Goes {x = x} ne s h c) le =
        let a = full_lap es w x n ne s h in
        let l = fulls_few k ss x (is_net es w x n h) c (omega (arith, a, le)) in
        omega (arith, l)

pub laps_are_few : LapsAreFew
laps_are_few g w n b is ss c = laps_few g n.graph b (λ x m. sends_within g x m b is) (b + g.nodes) ss w n c (omega arith)

pub full_laps_are_few : FullLapsAreFew
full_laps_are_few g w n b is ss c = fulls_few g n.graph b (λ x m. sends_within g x m b is) (b + g.nodes) ss w n c (omega arith)

-- where more was reached, a message more is consumed or a node has woken
got_on : (g : Network) (w x : Net) → suc (reached g w) ≤ reached g x → GotOn g w x
got_on g w x more =
    ⊎_elim (λ (lt : in_all w.consumed < in_all x.consumed). Consumes lt)
    (λ ge.
    ⊎_elim
    (λ z. Wakes (suc z.0) (record { some = omega arith; node = z.1 }) z.2.0 z.2.1)
    (λ none.
    let s = sum_most g.count (λ i. awake_one (x.node (suc i))) (λ i. awake_one (w.node (suc i))) none in
    absurd (omega (arith, more, ge, s)))
    (search (λ i. ((w.node (suc i)).head.phase ≡ Sleeping) × ((x.node (suc i)).head.phase ≢ Sleeping))
    (λ i. awake_one (x.node (suc i)) ≤ awake_one (w.node (suc i))) g.count (λ i lt. at_node (suc i))))
    (cases_lt (in_all w.consumed) (in_all x.consumed))
  where
    at_node : (v : ℕ) →
        (((w.node v).head.phase ≡ Sleeping) × ((x.node v).head.phase ≢ Sleeping)) ⊎ (awake_one (x.node v) ≤ awake_one (w.node v))
    at_node v =
        ⊎_elim
        (λ s. ⊎_elim (λ t. inr (let a = asleep_is (x.node v) t in omega (arith, a))) (λ up. inl (s, up)) (phase_is (x.node v)))
        (λ up. inr (let a = awake_is (w.node v) up in let b = awake_few (x.node v) in omega (arith, a, b)))
        (phase_is (w.node v))

pub two_laps_get_on : TwoLapsGetOn
two_laps_get_on g w x y es fs n ne s h t k = got_on (network_of g) w y (two_laps g n.graph es fs w x y n ne s h t k)

pub full_lap_gets_on : FullLapGetsOn
full_lap_gets_on g w x es n ne s h = got_on (network_of g) w x (full_lap g n.graph es w x n ne s h)

-- who has work has a message
pub some_there : {w : Net} {v p : ℕ} → HasWork w v p → w.queue v p ≢ []
some_there h e = not_empty h.before h.message h.behind (sym h.queue ∙ e)

pub all_taken_is_lap : AllTakenIsLap
all_taken_is_lap g w es taken v p at h = taken v p at (some_there h)

-- Windows.

-- the first f events of a list, and those that follow
record Cut_at (f : ℕ) (es : List Event) : Type 0 where
  front : List Event
  rest : List Event
  whole : es ≡ front ++ rest
  long : length front ≡ f

cut_at : (f : ℕ) (es : List Event) → f ≤ length es → Cut_at f es
cut_at zero es le = record { front = []; rest = es; whole = refl; long = refl }
cut_at (suc f) [] le = absurd (omega (arith, le))
cut_at (suc f) (e ∷ es) le =
    let c = cut_at f es (omega (arith, le)) in
    record { front = e ∷ c.front; rest = c.rest; whole = ap (λ x. e ∷ x) c.whole; long = let l = c.long in omega (arith, l) }

some_long : (f : ℕ) (es : List Event) → length es ≡ f → 1 ≤ f → es ≢ []
some_long f [] l le e = omega (arith, l, le)
some_long f (x ∷ es) l le e = cc

none_shorter : (es : List Event) → (es ≢ [] → ⊥) → length es ≤ 0
none_shorter [] h = omega arith
none_shorter (e ∷ es) h = absurd (h (λ z. cc))

-- what was served is served from a later net on
served_later : (g : Network) (P : Net → List Event → Type 0) (f : ℕ) (w : Net) (es fs rest : List Event) (x : Net) →
    IsServed g P f w es →
    es ≡ fs ++ rest →
    run g fs w ≡ Some x →
    IsServed g P f x rest
served_later g P f w es fs rest x s e h before window after y i l r =
    s (fs ++ before) window after y
    (e ∙ ap (λ t. fs ++ t) (i ∙ append_assoc before window after) ∙ sym (append_assoc fs before (window ++ after)) ∙
    sym (append_assoc (fs ++ before) window after))
    l
    (run_joins g fs before w x h ∙ r)

module _ (g : Shape) (graph : IsGraph g) (b : ℕ) (within : (w : Net) → IsNetOf g w → in_all w.sent ≤ b) (f : ℕ) (some : 1 ≤ f) where
  prompt_short : (k : ℕ) (es : List Event) (w w' : Net) →
      IsNetOf g w →
      run (network_of g) es w ≡ Some w' →
      IsServed (network_of g) (IsFullLap (network_of g)) f w es →
      b + g.nodes ≤ k + reached (network_of g) w →
      length es ≤ k * f
  prompt_short zero es w w' n h s le =
      let z = none_shorter es (λ ne. nothing_left g graph b within es w w' n ne h (omega (arith, le))) in omega (arith, z)
  prompt_short (suc k) es w w' n h s le =
      ⊎_elim (λ lt. let p = suc-mul k f in omega (arith, lt, p))
      (λ ge. on (λ rest x m j t l. prompt_short k rest x w' m j t l) (cut_at f es (omega (arith, ge)))) (cases_lt (length es) f)
    where
      on :
          ((rest : List Event) (x : Net) → IsNetOf g x →
          run (network_of g) rest x ≡ Some w' →
          IsServed (network_of g) (IsFullLap (network_of g)) f x rest →
          b + g.nodes ≤ k + reached (network_of g) x →
          length rest ≤ k * f) →
          Cut_at f es →
          length es ≤ suc k * f
      on short c =
          run_splits (network_of g) c.front c.rest w w' (ap (λ t. run (network_of g) t w) (sym c.whole) ∙ h)
          (λ x i j.
          let a = full_lap g graph c.front w x n (some_long f c.front c.long some) (s [] c.front c.rest w c.whole c.long refl) i in
          let l = short c.rest x (is_net g graph c.front w x n i) j
          (served_later (network_of g) (IsFullLap (network_of g)) f w es c.front c.rest x s c.whole i) (omega (arith, a, le)) in
          let p = suc-mul k f in
          let t = ap length c.whole in
          let u = length-append c.front c.rest in
          let v = c.long in
          omega (arith, l, p, t, u, v))

  served_short : (m : ℕ) → m ≡ 2 * f → (k : ℕ) (es : List Event) (w w' : Net) →
      IsNetOf g w →
      run (network_of g) es w ≡ Some w' →
      IsServed (network_of g) (IsLap (network_of g)) f w es →
      b + g.nodes ≤ k + reached (network_of g) w →
      length es ≤ k * m
  served_short m is zero es w w' n h s le =
      let z = none_shorter es (λ ne. nothing_left g graph b within es w w' n ne h (omega (arith, le))) in omega (arith, z)
  served_short m is (suc k) es w w' n h s le =
      ⊎_elim (λ lt. let p = suc-mul k m in omega (arith, lt, p))
      (λ ge. on (λ rest x i j t l. served_short m is k rest x w' i j t l) (cut_at f es (omega (arith, ge, is))) ge) (cases_lt (length es) m)
    where
      on :
          ((rest : List Event) (x : Net) → IsNetOf g x →
          run (network_of g) rest x ≡ Some w' →
          IsServed (network_of g) (IsLap (network_of g)) f x rest →
          b + g.nodes ≤ k + reached (network_of g) x →
          length rest ≤ k * m) →
          Cut_at f es →
          m ≤ length es →
          length es ≤ suc k * m
      on short c ge =
          next
          (cut_at f c.rest
          (let t = ap length c.whole in let u = length-append c.front c.rest in let v = c.long in omega (arith, t, u, v, ge, is)))
        where
          next : Cut_at f c.rest → length es ≤ suc k * m
          next d =
              run_splits (network_of g) c.front c.rest w w' (ap (λ t. run (network_of g) t w) (sym c.whole) ∙ h)
              (λ x i j.
              run_splits (network_of g) d.front d.rest x w' (ap (λ t. run (network_of g) t x) (sym d.whole) ∙ j)
              (λ y i' j'.
              let s' = served_later (network_of g) (IsLap (network_of g)) f w es c.front c.rest x s c.whole i in
              let a = two_laps g graph c.front d.front w x y n (some_long f c.front c.long some) (s [] c.front c.rest w c.whole c.long refl) i
              (s' [] d.front d.rest x d.whole d.long refl) i' in
              let l = short d.rest y (is_net g graph d.front x y (is_net g graph c.front w x n i) i') j'
              (served_later (network_of g) (IsLap (network_of g)) f x c.rest d.front d.rest y s' d.whole i') (omega (arith, a, le)) in
              let p = suc-mul k m in
              let t = ap length c.whole in
              let u = length-append c.front c.rest in
              let v = c.long in
              let t' = ap length d.whole in
              let u' = length-append d.front d.rest in
              let v' = d.long in
              omega (arith, l, p, t, u, v, t', u', v', is)))

pub served_runs_are_short : ServedRunsAreShort
served_runs_are_short g w n b is f some es w' h s =
    served_short g n.graph b (λ x m. sends_within g x m b is) f some (2 * f) refl (b + g.nodes) es w w' n h s (omega arith)

pub prompt_runs_are_short : PromptRunsAreShort
prompt_runs_are_short g w n b is f some es w' h s =
    prompt_short g n.graph b (λ x m. sends_within g x m b is) f some (b + g.nodes) es w w' n h s (omega arith)
