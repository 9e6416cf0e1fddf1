-- Each level of a node pays once for messages of each sort.
use Rattle.std.proofs.Common.{◌≡◌, ◌≢◌, ◌⊎◌, ℕ, zero, suc, ◌+◌, ◌-◌, ◌≤◌, ◌<◌, ◌==◌, ◌&&◌, Bool, true, false, Option, Some, None, List, [], ◌∷◌, length, refl, sym, ◌∙◌, ap, subst, subst₂, arith, ⊎_elim, eq-eqb, ne_eqb, zero-add, if◌then◌else◌}
use Rattle.std.proofs.lemmas.Bool.{cases_eq, cases_lt}
use Rattle.std.proofs.lemmas.Option.{same_Some}
use Rattle.ghs_graph.specs.Bound.{IsFloorLog2}
use Rattle.ghs_graph.proofs.lemmas.Logs.{floor_log2_is_one}
use Rattle.ghs_node.specs.declared.head.Head.{Head}
use Rattle.ghs_node.specs.declared.message.Phase.{Phase}
use Rattle.ghs_node.specs.declared.message.Phase.TheVariants.{Sleeping, Find, Found}
use Rattle.peer_network.specs.declared.event.Event.{Event}
use Rattle.peer_network.specs.Network.{Network, network_of, InNetwork}
use Rattle.peer_network.proofs.lemmas.Wired.{IsWired, HasFewPorts}
use Rattle.ghs_protocol.specs.Net.{Net, opening, happens}
use Rattle.peer_network.specs.Events.{event_node}
use Rattle.ghs_protocol.specs.Run.{run, IsAfter}
use Rattle.ghs_protocol.specs.Ledger.{of_kind}
use Rattle.peer_network.specs.Sums.{sum_below}
use Rattle.ghs_protocol.specs.Steps.{Happens}
use Rattle.ghs_protocol.specs.Payments.{calls_at, added_up, LevelPays, risen, then_count, paid_by, roots, reports, calls, accepts, testing}
use Rattle.ghs_protocol.specs.Interleavings.{LevelsPayOnce}
use Rattle.ghs_protocol.proofs.clauses.Scene.{Member, scene}
use Rattle.ghs_protocol.proofs.clauses.Nodes.{NodeFits}
use Rattle.ghs_protocol.proofs.clauses.Wiring.{Ground}
use Rattle.ghs_protocol.proofs.clauses.Charges.{Acted, HasCharges, busy, finding, moved_on}
use Rattle.ghs_protocol.proofs.lemmas.Events.{happening}
use Rattle.peer_network.proofs.lemmas.Graphs.{graph_few}
use Rattle.ghs_protocol.proofs.lemmas.Runs.{both_some}
use Rattle.ghs_protocol.proofs.lemmas.Steps.{step_formed}
use Rattle.ghs_protocol.proofs.lemmas.Woken.{StepBy, StepsBy, One_by, Two_by, event_steps_by}
use Rattle.ghs_protocol.proofs.lemmas.WellFormed.{IsWellFormed, event_formed, opening_formed}
use Rattle.ghs_protocol.proofs.charges.Acts.{busy_most, busy_some, busy_top, charges_keep, finding_most, moved_most}
use Rattle.ghs_protocol.proofs.charges.Runs.{Stepped, opening_has, stepped}
use Rattle.ghs_protocol.proofs.charges.Waiting.{accepts_one, calls_one, level_most}
use Rattle.ghs_protocol.proofs.acts.Situations.{probing_finds}
use Rattle.ghs_protocol.proofs.acts.Grounds.{graph_ground}

-- level l has paid t, where the present level may have paid cap, and one that is left may have paid top
pub record Within (t l level cap top : ℕ) : Type 0 where
  pub past : l < level → t ≤ top
  pub now : l ≡ level → t ≤ cap
  pub ahead : level < l → t ≡ 0

-- n more are paid by the level that is now reached
within_step : (t l a b cap cap' n top : ℕ) →
    (a ≡ l → cap ≤ top) →
    a ≤ b →
    (b ≡ a → cap + n ≤ cap') →
    (a < b → n ≤ cap') →
    Within t l a cap top →
    Within (t + (if b == l then n else 0)) l b cap' top
within_step t l a b cap cap' n top most le stay rise h = ⊎_elim here away (cases_eq b l)
  where
    before : l ≤ a → t ≤ top
    before lt =
        ⊎_elim (λ (z : l < a). h.past z)
        (λ ge. let same : a ≡ l = omega (arith, ge, lt) in let z = h.now (sym same) in let y = most same in omega (arith, z, y))
        (cases_lt l a)

    here : b ≡ l → Within (t + (if b == l then n else 0)) l b cap' top
    here e = rw (eq-eqb b l e) (record {
      past = λ lt. absurd (omega (arith, e, lt));
      now = λ z. ⊎_elim
          (λ (up : a < b). let none = h.ahead (omega (arith, e, up)) in let r = rise up in omega (arith, none, r))
          (λ ge. let same : b ≡ a = omega (arith, le, ge) in let s = stay same in let z' = h.now (omega (arith, e, same)) in omega (arith, s, z'))
          (cases_lt a b);
      ahead = λ lt. absurd (omega (arith, e, lt));
    })

    away : b ≢ l → Within (t + (if b == l then n else 0)) l b cap' top
    away ne = rw (ne_eqb b l ne) (record {
      past = λ lt. ⊎_elim (λ (up : a < l). let none = h.ahead up in omega (arith, none)) (λ ge. let z = before ge in omega (arith, z)) (cases_lt a l);
      now = λ z. absurd (ne (sym z));
      ahead = λ lt. let z = h.ahead (omega (arith, le, lt)) in omega (arith, z);
    })

-- what each event adds, a run adds up
pub counted : (g : Network) (wired : IsWired g) (each : Net → Event → Net → ℕ) (I : Net → ℕ → Type 0) →
    ((w x : Net) (e : Event) (t : ℕ) → IsWellFormed g w → I w t → Happens g w e x → I x (t + each w e x)) →
    (es : List Event) (w x : Net) (t : ℕ) → IsWellFormed g w → I w t → run g es w ≡ Some x → I x (t + added_up each g es w)
counted g wired each I keeps [] w x t f h r = subst (I x) (add_none t) (subst (λ y. I y t) (same_Some w x r) h)
  where
    add_none : (n : ℕ) → n ≡ n + 0
    add_none n = omega arith
counted g wired each I keeps (e ∷ es) w x t f h r =
    both_some (happens g w e) (λ y. run g es y) x r
    (λ y a b. subst (I x) (more (happens g w e) (λ z. each w e z + added_up each g es z) y a t (each w e y) (added_up each g es y) refl)
    (counted g wired each I keeps es y x (t + each w e y) (event_formed g wired w y e f (happening g w y e a))
    (keeps w y e t f h (happening g w y e a)) b))
  where
    more : (o : Option Net) (c : Net → ℕ) (y : Net) → o ≡ Some y → (t i j : ℕ) → c y ≡ i + j → t + i + j ≡ t + then_count o c
    more o c y z t i j e = let one : then_count o c ≡ c y = ap (λ q. then_count q c) z in omega (arith, one, e)

-- a sort of messages: m counts them, cap is what the present level may have paid, and an act pays for its own
module _ (g : Network) (ground : Ground g) (k : ℕ) (log : IsFloorLog2 g.count k) (m : Net → ℕ) (cap : Head → Option ℕ → ℕ) (top : ℕ → ℕ)
    (most : (h : Head) (o : Option ℕ) → cap h o ≤ top h.level) where
  -- what an act of node u does to them
  pub record Sorted (u : ℕ) (o o' : Option ℕ) (w x : Net) : Type 0 where
    pub grows : m w ≤ m x
    pub climbs : (w.node u).head.level ≤ (x.node u).head.level
    pub stay : (x.node u).head.level ≡ (w.node u).head.level → cap (w.node u).head o + (m x - m w) ≤ cap (x.node u).head o'
    pub rise : (w.node u).head.level < (x.node u).head.level → m x - m w ≤ cap (x.node u).head o'

  module _
      (sorted : (w x : Net) (h : HasCharges g k w) (u : ℕ) (up : ℕ → Option ℕ) →
      InNetwork g u →
      Acted g k u h.up up w x →
      Sorted u (h.up u) (up u) w x)
      (v l : ℕ) where
    -- what level l of node v has paid
    pub record Tolled (w : Net) (t : ℕ) : Type 0 where
      pub has : HasCharges g k w
      pub within : Within t l (w.node v).head.level (cap (w.node v).head (has.up v)) (top l)

    -- a step of v
    steps_in : (w x : Net) (t : ℕ) →
        IsWellFormed g w →
        Tolled w t →
        StepBy g v w x →
        Tolled x (t + (if (x.node v).head.level == l then m x - m w else 0)) × (m w ≤ m x)
    steps_in w x t f h s = (
      record {
        has =
            record { up = did.up; sound = did.sound; charges = charges_keep g k v did.some did.within h.has.up did.up w x did.acted h.has.charges };
        within =
            within_step t l (w.node v).head.level (x.node v).head.level (cap (w.node v).head (h.has.up v)) (cap (x.node v).head (did.up v))
            (m x - m w) (top l)
            (λ e. subst (λ n. cap (w.node v).head (h.has.up v) ≤ top n) e (most (w.node v).head (h.has.up v)))
            of.climbs of.stay of.rise h.within;
      },
      of.grows,
    )
      where
        did : Stepped g ground k log w x h.has v
        did = subst (Stepped g ground k log w x h.has) s.by (stepped g ground k log w x f.nodes h.has s.step)

        of : Sorted v (h.has.up v) (did.up v) w x
        of = sorted w x h.has v did.up (record { some = did.some; node = did.within }) did.acted

    -- a step of another node
    steps_aside : (u : ℕ) (w x : Net) (t : ℕ) → IsWellFormed g w → Tolled w t → StepBy g u w x → u ≢ v → Tolled x t
    steps_aside u w x t f h s ne = record {
      has = record { up = did.up; sound = did.sound; charges = charges_keep g k u did.some did.within h.has.up did.up w x did.acted h.has.charges };
      within =
          subst₂ (λ n o. Within t l n.head.level (cap n.head o) (top l)) (sym (did.acted.there v (λ e. ne (sym e))))
          (sym (did.acted.ways v (λ e. ne (sym e)))) h.within;
    }
      where
        did : Stepped g ground k log w x h.has u
        did = subst (Stepped g ground k log w x h.has) s.by (stepped g ground k log w x f.nodes h.has s.step)

    event_tolled : (w x : Net) (e : Event) (t : ℕ) → IsWellFormed g w → Tolled w t → Happens g w e x → Tolled x (t + risen m v l w e x)
    event_tolled w x e t f h happened = ⊎_elim own other (cases_eq (event_node e) v)
      where
        steps : StepsBy g (event_node e) w x
        steps = event_steps_by g ground.wired w x e f.nodes happened

        own : event_node e ≡ v → Tolled x (t + risen m v l w e x)
        own z =
            subst (Tolled x)
            (ap (λ b. t + (if b && ((x.node v).head.level == l) then m x - m w else 0)) (sym (eq-eqb (event_node e) v z)))
            (go (subst (λ u. StepsBy g u w x) z steps))
          where
            go : StepsBy g v w x → Tolled x (t + (if (x.node v).head.level == l then m x - m w else 0))
            go (One_by s) = (steps_in w x t f h s).0
            go (Two_by {u = y} s s' level) =
                let a = steps_in w y t f h s in
                let b = steps_in y x (t + (if (y.node v).head.level == l then m y - m w else 0)) (step_formed g ground.wired f s.step) a.0 s' in
                subst (Tolled x)
                (together ((x.node v).head.level == l) (m w) (m y) (m x) a.1 b.1 ∙ refl)
                (subst (λ n. Tolled x (t + (if n == l then m y - m w else 0) + (if (x.node v).head.level == l then m x - m y else 0))) level b.0)
              where
                together : (b : Bool) (i j n : ℕ) →
                    i ≤ j →
                    j ≤ n →
                    t + (if b then j - i else 0) + (if b then n - j else 0) ≡ t + (if b then n - i else 0)
                together true i j n p q = omega (arith, p, q)
                together false i j n p q = omega arith

        other : event_node e ≢ v → Tolled x (t + risen m v l w e x)
        other ne =
            subst (Tolled x)
            (ap (λ b. t + (if b && ((x.node v).head.level == l) then m x - m w else 0)) (sym (ne_eqb (event_node e) v ne)))
            (subst (Tolled x) (plus t) (go steps))
          where
            plus : (n : ℕ) → n ≡ n + 0
            plus n = omega arith

            go : StepsBy g (event_node e) w x → Tolled x t
            go (One_by s) = steps_aside (event_node e) w x t f h s ne
            go (Two_by {u = y} s s' level) = steps_aside (event_node e) y x t (step_formed g ground.wired f s.step)
                (steps_aside (event_node e) w y t f h s ne) s' ne

    run_tolled : (es : List Event) (w x : Net) (t : ℕ) → IsWellFormed g w → Tolled w t → run g es w ≡ Some x → Tolled x (t + paid_by m g v l es w)
    run_tolled = counted g ground.wired (risen m v l) Tolled event_tolled

    pub from_opening : (es : List Event) (w : Net) →
        HasFewPorts g →
        HasCharges g k (opening g) →
        IsAfter g es w →
        Tolled w (paid_by m g v l es (opening g))
    from_opening es w few has after =
        subst (Tolled w) (zero-add (paid_by m g v l es (opening g)))
        (run_tolled es (opening g) w 0 (opening_formed g few)
        (record { has = has; within = record { past = λ lt. omega arith; now = λ e. omega arith; ahead = λ lt. refl } }) after)

-- what a level above 0 may have paid
abbrev above_zero : ℕ → ℕ → ℕ
above_zero zero c = 0
above_zero (suc l) c = c

above_is : (l c : ℕ) → 1 ≤ l → above_zero l c ≡ c
above_is zero c le = absurd (omega arith)
above_is (suc l) c le = refl

above_none : (l c : ℕ) → l ≡ 0 → ◌≡◌ {A = ℕ} (above_zero l c) 0
above_none zero c e = refl
above_none (suc l) c e = absurd (omega (arith, e))

above_most : (l c : ℕ) → c ≤ 1 → above_zero l c ≤ above_zero l 1
above_most zero c le = omega arith
above_most (suc l) c le = le

-- at level 0 nobody searches
low_find : {n : ℕ} {m : Member} → NodeFits n m → finding m.head.phase ≤ m.head.level
low_find {n} {m} fits = go m.head.phase refl
  where
    go : (s : Phase) → m.head.phase ≡ s → finding s ≤ m.head.level
    go Sleeping e = omega arith
    go Found e = omega arith
    go Find e =
        ⊎_elim (λ (lt : 0 < m.head.level). omega (arith, lt))
        (λ ge. let s = fits.searching e in let z = fits.naming.in_branch (omega (arith, ge)) in absurd (let y = s.in_branch in cc (y, z)))
        (cases_lt 0 m.head.level)

low_test : {n : ℕ} {m : Member} → NodeFits n m → testing m.head.probe ≤ m.head.level
low_test {n} {m} fits = go m.head.probe refl
  where
    go : (o : Option ℕ) → m.head.probe ≡ o → testing o ≤ m.head.level
    go None e = omega arith
    go (Some p) e = let z = low_find fits in let y = ap finding (probing_finds fits e) in omega (arith, z, y)

module _ (g : Network) (ground : Ground g) (k : ℕ) (log : IsFloorLog2 g.count k) where
  fits : (w : Net) (h : HasCharges g k w) (u : ℕ) → InNetwork g u → NodeFits (length (g.ports u)) ((scene w h.sound.ghost).at u)
  fits w h u is = h.sound.holds.first.nodes u is

  root_cap : Head → Option ℕ → ℕ
  root_cap h o = moved_on h.in_branch o

  report_cap : Head → Option ℕ → ℕ
  report_cap h o = above_zero h.level (1 - finding h.phase)

  call_cap : Head → Option ℕ → ℕ
  call_cap h o = above_zero h.level 1

  accept_cap : Head → Option ℕ → ℕ
  accept_cap h o = above_zero h.level (1 - busy k h.level h.probe)

  one : ℕ → ℕ
  one l = 1

  some : ℕ → ℕ
  some l = above_zero l 1

  root_most : (h : Head) (o : Option ℕ) → root_cap h o ≤ one h.level
  unfolding root_cap one
  root_most h o = moved_most h.in_branch o

  report_most : (h : Head) (o : Option ℕ) → report_cap h o ≤ some h.level
  unfolding report_cap some
  report_most h o = above_most h.level (1 - finding h.phase) (omega arith)

  call_most : (h : Head) (o : Option ℕ) → call_cap h o ≤ some h.level
  unfolding call_cap some
  call_most h o = omega arith

  accept_most : (h : Head) (o : Option ℕ) → accept_cap h o ≤ some h.level
  unfolding accept_cap some
  accept_most h o = above_most h.level (1 - busy k h.level h.probe) (omega arith)

  module _ (w x : Net) (h : HasCharges g k w) (u : ℕ) (up : ℕ → Option ℕ) (is : InNetwork g u) (act : Acted g k u h.up up w x) where
    up_by : (w.node u).head.level ≤ (x.node u).head.level
    up_by = let p = act.pays.calls in omega (arith, p)

    root_sorted : Sorted g ground k log roots root_cap one root_most u (h.up u) (up u) w x
    unfolding root_cap
    root_sorted =
        let a = act.sent 0 in let b = act.sent 6 in let p = act.pays.roots in
        record {
          grows = omega (arith, a, b);
          climbs = up_by;
          stay = λ e. omega (arith, a, b, p, e);
          rise = λ lt. let z = (act.pays.rises lt).2 in omega (arith, a, b, z);
        }

    report_sorted : Sorted g ground k log reports report_cap some report_most u (h.up u) (up u) w x
    unfolding report_cap
    report_sorted =
        let a = act.sent 5 in let p = act.pays.reports in let low = low_find (fits w h u is) in let f = finding_most (w.node u).head.phase in
        record {
          grows = omega (arith, a);
          climbs = up_by;
          stay = λ e. ⊎_elim
              (λ (lt : 0 < (w.node u).head.level).
              let c = above_is (w.node u).head.level (1 - finding (w.node u).head.phase) (omega (arith, lt)) in
              let c' = above_is (x.node u).head.level (1 - finding (x.node u).head.phase) (omega (arith, lt, e)) in
              omega (arith, a, p, e, f, c, c'))
              (λ ge.
              let c = above_none (w.node u).head.level (1 - finding (w.node u).head.phase) (omega (arith, ge)) in omega (arith, a, p, e, low, ge, c))
              (cases_lt 0 (w.node u).head.level);
          rise = λ lt.
              let z = (act.pays.rises lt).3 in
              let c = above_is (x.node u).head.level (1 - finding (x.node u).head.phase) (omega (arith, lt)) in omega (arith, a, z, c);
        }

    call_sorted : Sorted g ground k log calls call_cap some call_most u (h.up u) (up u) w x
    unfolding call_cap
    call_sorted =
        let a = act.consumed 1 in let p = act.pays.calls in
        record {
          grows = omega (arith, a);
          climbs = up_by;
          stay = λ e. let c = ap (λ n. above_zero n 1) e in omega (arith, a, p, e, c);
          rise = λ lt. let z = (act.pays.rises lt).0 in let c = above_is (x.node u).head.level 1 (omega (arith, lt)) in omega (arith, a, z, c);
        }

    accept_sorted : Sorted g ground k log accepts accept_cap some accept_most u (h.up u) (up u) w x
    unfolding accept_cap
    accept_sorted =
        let a =
        act.consumed 3 in let p =
        act.pays.accepts in let low = low_test (fits w h u is) in let f = busy_most k (w.node u).head.level (w.node u).head.probe in
        record {
          grows = omega (arith, a);
          climbs = up_by;
          stay = λ e. ⊎_elim
              (λ (lt : 0 < (w.node u).head.level).
              let c = above_is (w.node u).head.level (1 - busy k (w.node u).head.level (w.node u).head.probe) (omega (arith, lt)) in
              let c' = above_is (x.node u).head.level (1 - busy k (x.node u).head.level (x.node u).head.probe) (omega (arith, lt, e)) in
              omega (arith, a, p, e, f, c, c'))
              (λ ge.
              let c = above_none (w.node u).head.level (1 - busy k (w.node u).head.level (w.node u).head.probe) (omega (arith, ge)) in
              let b = idle_busy (w.node u).head.level (w.node u).head.probe (omega (arith, ge)) in
              omega (arith, a, p, e, low, ge, c, b))
              (cases_lt 0 (w.node u).head.level);
          rise = λ lt. let z = (act.pays.rises lt).1 in omega (arith, a, z);
        }
      where
        idle_busy : (l : ℕ) (o : Option ℕ) → l ≡ 0 → busy k l o ≡ testing o
        idle_busy zero o e = refl
        idle_busy (suc l) o e = absurd (omega (arith, e))

  within_top : (t l level cap top : ℕ) → Within t l level cap top → (level ≡ l → cap ≤ top) → t ≤ top
  within_top t l level cap top h most = ⊎_elim
      (λ (lt : l < level). h.past lt)
      (λ ge. ⊎_elim (λ (gt : level < l). let z = h.ahead gt in omega (arith, z))
      (λ le. let same : level ≡ l = omega (arith, le, ge) in let z = h.now (sym same) in let y = most same in omega (arith, z, y))
      (cases_lt level l))
      (cases_lt l level)

  module _ (few : HasFewPorts g) (es : List Event) (w : Net) (after : IsAfter g es w) (v : ℕ) (is : InNetwork g v) (l : ℕ) where
    root_paid : Tolled g ground k log roots root_cap one root_most root_sorted v l w (paid_by roots g v l es (opening g))
    root_paid = from_opening g ground k log roots root_cap one root_most root_sorted v l es w few (opening_has g ground k log) after

    report_paid : Tolled g ground k log reports report_cap some report_most report_sorted v l w (paid_by reports g v l es (opening g))
    report_paid = from_opening g ground k log reports report_cap some report_most report_sorted v l es w few (opening_has g ground k log) after

    call_paid : Tolled g ground k log calls call_cap some call_most call_sorted v l w (paid_by calls g v l es (opening g))
    call_paid = from_opening g ground k log calls call_cap some call_most call_sorted v l es w few (opening_has g ground k log) after

    accept_paid : Tolled g ground k log accepts accept_cap some accept_most accept_sorted v l w (paid_by accepts g v l es (opening g))
    accept_paid = from_opening g ground k log accepts accept_cap some accept_most accept_sorted v l es w few (opening_has g ground k log) after

    level_is : (h : HasCharges g k w) → (w.node v).head.level ≤ k
    level_is h = level_most g ground.wired k log w h.sound.ghost h.sound.holds.first v is

    -- at most what the limit is
    root_top : paid_by roots g v l es (opening g) ≤ 1
    unfolding one root_cap
    root_top =
        let h = root_paid in
        within_top _ l (w.node v).head.level (root_cap (w.node v).head (h.has.up v)) 1 h.within (λ e. root_most (w.node v).head (h.has.up v))

    report_top : paid_by reports g v l es (opening g) ≤ above_zero l 1
    unfolding some
    report_top =
        let h = report_paid in
        within_top _ l (w.node v).head.level (report_cap (w.node v).head (h.has.up v)) (some l) h.within
        (λ e. subst (λ n. report_cap (w.node v).head (h.has.up v) ≤ some n) e (report_most (w.node v).head (h.has.up v)))

    call_top : paid_by calls g v l es (opening g) ≤ above_zero l 1
    unfolding some
    call_top =
        let h = call_paid in
        within_top _ l (w.node v).head.level (call_cap (w.node v).head (h.has.up v)) (some l) h.within
        (λ e. subst (λ n. call_cap (w.node v).head (h.has.up v) ≤ some n) e (call_most (w.node v).head (h.has.up v)))

    accept_top : paid_by accepts g v l es (opening g) ≤ above_zero l 1
    unfolding some
    accept_top =
        let h = accept_paid in
        within_top _ l (w.node v).head.level (accept_cap (w.node v).head (h.has.up v)) (some l) h.within
        (λ e. subst (λ n. accept_cap (w.node v).head (h.has.up v) ≤ some n) e (accept_most (w.node v).head (h.has.up v)))

    -- the present level's Accept, while a port is probed or the level is the highest
    no_accept : l ≡ (w.node v).head.level → busy k (w.node v).head.level (w.node v).head.probe ≡ 1 → paid_by accepts g v l es (opening g) ≡ 0
    unfolding accept_cap
    no_accept e b =
        let z = accept_paid.within.now e in
        let y = above_most' (w.node v).head.level (1 - busy k (w.node v).head.level (w.node v).head.probe) in
        omega (arith, z, y, b)
      where
        above_most' : (l c : ℕ) → above_zero l c ≤ c
        above_most' zero c = omega arith
        above_most' (suc l) c = omega arith

    zero_or_one : (t : ℕ) → t ≤ above_zero l 1 → t ≤ 1
    zero_or_one t le = let z = above_most'' l in omega (arith, z, le)
      where
        above_most'' : (l : ℕ) → above_zero l 1 ≤ 1
        above_most'' zero = omega arith
        above_most'' (suc l) = omega arith

    none_at_zero : (t : ℕ) → t ≤ above_zero l 1 → l ≡ 0 → t ≡ 0
    none_at_zero t le e = let z = above_none l 1 e in omega (arith, z, le)

    no_root : k ≤ l → paid_by roots g v l es (opening g) ≡ 0
    unfolding root_cap
    no_root le =
        let h = root_paid in
        let top = level_is h.has in
        ⊎_elim (λ (lt : (w.node v).head.level < l). h.within.ahead lt)
        (λ ge.
        let now = h.within.now (omega (arith, top, le, ge)) in
        let low = h.has.charges.low v is in
        ⊎_elim
        (λ (m : 0 < moved_on (w.node v).head.in_branch (h.has.up v)). absurd (let z = low.moved (omega (arith, m)) in omega (arith, z, le, ge)))
        (λ m. omega (arith, m, now)) (cases_lt 0 (moved_on (w.node v).head.in_branch (h.has.up v))))
        (cases_lt (w.node v).head.level l)

    no_accept_above : k ≤ l → paid_by accepts g v l es (opening g) ≡ 0
    no_accept_above le =
        let h = accept_paid in
        let top = level_is h.has in
        ⊎_elim (λ (lt : (w.node v).head.level < l). h.within.ahead lt)
        (λ ge.
        ⊎_elim
        (λ (up : 0 < l).
        no_accept (omega (arith, top, le, ge))
        (busy_top k (w.node v).head.level (w.node v).head.probe (omega (arith, ge, up)) (omega (arith, le, ge))))
        (λ none. none_at_zero _ accept_top (omega (arith, none)))
        (cases_lt 0 l))
        (cases_lt (w.node v).head.level l)

    -- with what waits
    waiting_one :
        (sum_below (length (g.ports v)) (λ p. calls_at l (w.queue v p)) ≡ 0) ⊎
        ((sum_below (length (g.ports v)) (λ p. calls_at l (w.queue v p)) ≤ 1) × ((w.node v).head.level < l) × (l ≤ k))
    waiting_one = let h = call_paid in calls_one g ground.wired k log w h.has.sound.ghost h.has.sound.holds.first v is l

    all_calls : paid_by calls g v l es (opening g) + sum_below (length (g.ports v)) (λ p. calls_at l (w.queue v p)) ≤ above_zero l 1
    all_calls =
        ⊎_elim (λ z. let a = call_top in omega (arith, a, z))
        (λ z. let a = call_paid.within.ahead z.1 in let b = above_is l 1 (omega (arith, z.1)) in omega (arith, a, b, z.0))
        waiting_one

    no_call_above : k < l → paid_by calls g v l es (opening g) + sum_below (length (g.ports v)) (λ p. calls_at l (w.queue v p)) ≡ 0
    no_call_above lt =
        let h = call_paid in
        let z = level_is h.has in
        let a = h.within.ahead (omega (arith, z, lt)) in ⊎_elim (λ y. omega (arith, a, y)) (λ y. absurd (omega (arith, y.2, lt))) waiting_one

    accept_with : l ≡ (w.node v).head.level → paid_by accepts g v l es (opening g) + sum_below (length (g.ports v)) (λ p. of_kind 3 (w.queue v p)) ≤ 1
    accept_with e =
        let h = accept_paid in
        ⊎_elim (λ z. let a = zero_or_one _ accept_top in omega (arith, a, z)) (λ z. let a = no_accept e z.1 in omega (arith, a, z.0))
        (accepts_one g ground.wired k log w h.has.sound.ghost h.has.sound.holds.first v is)

    pub level_pays : LevelPays g k es w v l
    level_pays = record {
      root = root_top;
      report = zero_or_one _ report_top;
      call = zero_or_one _ all_calls;
      accept = zero_or_one _ accept_top;
      accept_now = accept_with;
      probe = λ e p own. no_accept e (ap (busy k (w.node v).head.level) own ∙ busy_some k (w.node v).head.level p);
      at_zero = λ e. (none_at_zero _ report_top e, none_at_zero _ all_calls e, none_at_zero _ accept_top e);
      at_top = λ le. (no_root le, no_accept_above le);
      above = λ lt. ((let h = report_paid in let z = level_is h.has in h.within.ahead (omega (arith, z, lt))), no_call_above lt);
    }

pub levels_pay_once : LevelsPayOnce
levels_pay_once g es w ok after =
    let top = floor_log2_is_one g.nodes ok.some in (
      top.0,
      top.1,
      λ v lo hi l. level_pays (network_of g) (graph_ground g ok) top.0 top.1 (graph_few g ok) es w after v (record { some = lo; node = hi }) l,
    )
