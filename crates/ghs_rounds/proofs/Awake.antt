-- Rounds of runs from where all nodes are awake.
use Rattle.std.proofs.Common.{◌≡◌, ◌≢◌, ℕ, suc, ◌+◌, ◌*◌, ◌≤◌, Bool, true, Some, List, [], ◌∷◌, ◌++◌, length, refl, sym, ◌∙◌, ap, subst, ⊎_elim, inl, inr, ◌⊎◌, arith}
use Rattle.std.specs.List.{Contains}
use Rattle.std.proofs.lemmas.Bool.{and_from}
use Rattle.std.proofs.lemmas.Option.{same_Some}
use Rattle.ghs_graph.specs.Bound.{IsFloorLog2}
use Rattle.ghs_graph.specs.Graph.{Shape, IsGraph}
use Rattle.ghs_graph.specs.Ports.{ports_of}
use Rattle.ghs_node.specs.declared.delta.Delta.{Delta}
use Rattle.ghs_node.specs.declared.message.Message.{Message}
use Rattle.ghs_node.specs.declared.message.Phase.TheVariants.{Sleeping}
use Rattle.ghs_node.specs.Reaction.{reaction}
use Rattle.ghs_node.specs.Words.{is_sleeping}
use Rattle.peer_network.specs.declared.event.Event.{Event}
use Rattle.peer_network.specs.declared.event.Event.TheVariants.{Take}
use Rattle.peer_network.specs.Events.{event_node}
use Rattle.peer_network.specs.Network.{InNetwork, network_of}
use Rattle.peer_network.proofs.lemmas.Events.{is_node_of}
use Rattle.ghs_protocol.specs.Interleavings.{EventsHaveRules}
use Rattle.ghs_protocol.specs.Laws.{IsLater, IsNetOf}
use Rattle.ghs_protocol.specs.Marks.{HasEnded, HasHalted}
use Rattle.ghs_protocol.specs.Net.{Net, is_lawful}
use Rattle.ghs_protocol.specs.Run.{IsAfter, net_after}
use Rattle.ghs_protocol.specs.Schedules.{PatienceLasts}
use Rattle.ghs_protocol.specs.Steps.{Happens, Took, Woke}
use Rattle.ghs_protocol.specs.Steps as steps
use Rattle.ghs_protocol.specs.Time.{tree_messages}
use Rattle.ghs_protocol.proofs.lemmas.Laws.{halts_stay, tree_messages_are_few}
use Rattle.ghs_protocol.proofs.lemmas.Runs.{after_is_net, after_more, lawful_under}
use Rattle.ghs_protocol.proofs.lemmas.Time.{component, halting_counts, joined_component, open_or_ended}
use Rattle.ghs_core.specs.NetState.{delivery, work_at}
use Rattle.peer_chains.specs.Chains.{Chains}
use Rattle.ghs_following.specs.Chains.{chains_of, reacted}
use Rattle.ghs_following.proofs.lemmas.Lengths.{same_lengths}
use Rattle.peer_index.specs.Places.{HasPlace}
use Rattle.ghs_rounds.specs.Rounds.{events_in}
use Rattle.ghs_rounds.proofs.AnyOrder.{Begun, ByNumbers, FromByNumbers, Over, Went, goes_on}
use Rattle.ghs_rounds.proofs.Paid.{Awaits, Good, Goes, In, Member, ProbesIn, Quiet, State, Step, TreeDue, bill_of, facts, from, from_is, level_of, taken_of}
use Rattle.ghs_rounds.proofs.Paying as paying
use Rattle.ghs_rounds.proofs.Picked.{lawful_pick, of_round}
use Rattle.ghs_rounds.proofs.Steps.{Promised}
use Rattle.ghs_rounds.proofs.Told.{IsTold, answer, chains_are, d, net_is, so, told}

module _ (law : Promised) (rules : EventsHaveRules) (lasts : PatienceLasts) (may : ℕ → Bool) (g : Shape) (ok : IsGraph g) (k : ℕ)
    (log : IsFloorLog2 g.nodes k) (b : ℕ) (few : (v : ℕ) → 1 ≤ v → v ≤ g.nodes → length (ports_of g.keys v) ≤ suc b) where
  abbrev state : List Event → State
  state es = record { net = net_after g es; chains = chains_of (network_of g) es }

  abbrev pub AllAwake : Net → Type 0
  AllAwake w = (v : ℕ) → InNetwork (network_of g) v → (w.node v).head.phase ≢ Sleeping

  -- a component in which none has halted, or the run has ended
  abbrev Splits : Net → Type 0
  Splits w =
      ((v : ℕ) × (1 ≤ v) × (v ≤ g.nodes) × ((u : ℕ) → 1 ≤ u → u ≤ g.nodes → component g ok v u ≡ true → HasHalted w u → ⊥)) ⊎ HasEnded g w

  tells : (es : List Event) (r : ℕ) → ByNumbers may g es r → IsTold may g es r
  tells es r by = told law rules lasts may g ok es r by

  whole : (es : List Event) (r : ℕ) → ByNumbers may g es r → IsAfter (network_of g) es (net_after g es)
  whole es r by = after_is_net g es (tells es r by).is_run

  net_of_run : (es : List Event) (r : ℕ) → ByNumbers may g es r → IsNetOf g (net_after g es)
  net_of_run es r by = record { graph = ok; events = es; run = whole es r by }

  few_trees : (es : List Event) (r : ℕ) → ByNumbers may g es r → tree_messages (net_after g es) ≤ 3 * (g.nodes * k)
  few_trees es r by = tree_messages_are_few g (net_after g es) (net_of_run es r by) k log

  -- an event of a round
  module _ (es : List Event) (r : ℕ) (e : Event) (before : ByNumbers may g es r) (going : HasEnded g (net_after g es) → ⊥)
      (one : Contains (events_in may g es r) e) where
    pub legal : HasPlace (network_of g) e × (is_lawful (network_of g) (net_after g es) e ≡ true)
    legal =
        let z = of_round may (network_of g) (net_after g es) (chains_of (network_of g) es) r e one in (
          z.0,
          ((lawful_under may (network_of g) (net_after g es) e).0
              (lawful_pick may (network_of g) (net_after g es) (chains_of (network_of g) es) r e z)).1,
        )

    pub happens_then : Happens (network_of g) (net_after g es) e (net_after g (es ++ e ∷ []))
    happens_then =
        subst (Happens (network_of g) (net_after g es) e)
        (sym (net_is law rules lasts may g ok es r (tells es r before) going e legal.0 legal.1))
        (so law rules lasts may g ok es r (tells es r before) going e legal.0 legal.1)

    pub reacts : Delta
    reacts = d law rules lasts may g ok es r (tells es r before) going e legal.0 legal.1

    pub answers : reaction ((net_after g es).node (event_node e)) (work_at (net_after g es) e) ≡ Some reacts
    unfolding reacts
    answers = answer law rules lasts may g ok es r (tells es r before) going e legal.0 legal.1

    pub chains_then : chains_of (network_of g) (es ++ e ∷ []) ≡ reacted (network_of g) (net_after g es) e reacts (chains_of (network_of g) es)
    unfolding reacts
    chains_then = chains_are law rules lasts may g ok es r (tells es r before) going e legal.0 legal.1

    later_by : IsLater g (net_after g es) (net_after g (es ++ e ∷ []))
    later_by = record {
      graph = ok;
      events = es;
      further = e ∷ [];
      run = whole es r before;
      later = after_more (network_of g) es e (net_after g es) (net_after g (es ++ e ∷ [])) (whole es r before) happens_then;
    }

  -- from where all are awake
  module _ (start : List Event) (first : ℕ) (begun : ByNumbers may g start first) (up : AllAwake (net_after g start)) where
    abbrev By : List Event → ℕ → Type 0
    By es r = FromByNumbers may g start first es r

    all : (es : List Event) (r : ℕ) → By es r → ByNumbers may g es r
    all es r by = goes_on may g start first begun es r by

    all_awake : (es : List Event) (r : ℕ) → By es r → AllAwake (net_after g es)
    all_awake _ _ Begun v is asleep = up v is asleep
    all_awake _ _ (Went es r e before going one) v is asleep =
        law.awake g (net_after g es) (net_after g (es ++ e ∷ [])) (later_by es r e (all es r before) going one) v (all_awake es r before v is) asleep
    all_awake _ _ (Over es r before going over) v is asleep = all_awake es r before v is asleep

    module _ (z : ℕ) (z_is : InNetwork (network_of g) z) where
      abbrev Open : List Event → Type 0
      Open es = (v : ℕ) → InNetwork (network_of g) v → component g ok z v ≡ true → HasHalted (net_after g es) v → ⊥

      good : (es : List Event) (r : ℕ) → ByNumbers may g es r → AllAwake (net_after g es) → Open es →
          Good law may g ok k log b few z z_is (state es) r
      good es r by awake free = record {
        is = net_of_run es r by;
        timed = (tells es r by).timed;
        same = same_lengths (network_of g) es (net_after g es) (whole es r by);
        awake = awake;
        going = free;
      }

      step_of : (w : Net) (c : Chains) (r : ℕ) (e : Event) (x : Net) (c' : Chains) → Happens (network_of g) w e x → (D : Delta) →
          reaction (w.node (event_node e)) (work_at w e) ≡ Some D → c' ≡ reacted (network_of g) w e D c →
          Good law may g ok k log b few z z_is (record { net = w; chains = c }) r →
          Good law may g ok k log b few z z_is (record { net = x; chains = c' }) r →
          Step law may g ok k log b few z z_is r (record { net = w; chains = c }) (record { net = x; chains = c' })
      step_of w c r _ _ c' (Woke v q lo hi asleep h) D ans is good good' = absurd (good.awake v (record { some = lo; node = hi }) asleep)
      step_of w c r _ _ c' (Took a j m ms q at first h) D ans is good good' =
          let same : q ≡ D = same_Some q D (sym h ∙ ap (λ (l : List Message). reaction (w.node a) (delivery j l)) (sym first) ∙ ans) in
          let now : c' ≡ reacted (network_of g) w (Take a j) q c = is ∙ ap (λ (y : Delta). reacted (network_of g) w (Take a j) y c) (sym same) in
          subst
          (λ (y : Chains). Step law may g ok k log b few z z_is r (record { net = w; chains = c })
          (record { net = steps.taken (network_of g) a j m ms q w; chains = y })) (sym now)
          (Goes w c good.is a j m ms q at first h (good.awake a (record { some = at.some; node = at.node })) good
          (subst (λ (y : Chains). Good law may g ok k log b few z z_is
          (record { net = steps.taken (network_of g) a j m ms q w; chains = y }) r) now good'))

      -- its account
      abbrev Run : List Event → ℕ → Type 0
      Run es r =
          Good law may g ok k log b few z z_is (state start) first ×
          ((n : ℕ) × (r ≡ from first n) × In law may g ok k log b few z z_is first (state start) (state es) n)

      before_open : (es : List Event) (e : Event) → IsLater g (net_after g es) (net_after g (es ++ e ∷ [])) → Open (es ++ e ∷ []) → Open es
      before_open es e later free v is m halted = free v is m (halts_stay g (net_after g es) (net_after g (es ++ e ∷ [])) later v halted)

      pub run_of : (es : List Event) (r : ℕ) → By es r → Open es → Run es r
      run_of _ _ Begun free = (good start first begun up free, (0, refl, paying.Begun))
      run_of _ _ (Over es r before going over) free =
          let t = run_of es r before free in
          let now : Quiet law may g ok k log b few z z_is r (state es) = (good es r (all es r before) (all_awake es r before) free, over) in (
            t.0,
            (
              suc t.1.0,
              ap suc t.1.1,
              paying.Over (state es) t.1.0 t.1.2 (subst (λ (y : ℕ). Quiet law may g ok k log b few z z_is y (state es)) t.1.1 now),
            ),
          )
      run_of _ _ (Went es r e before going one) free =
          let by = all es r before in
          let free' = before_open es e (later_by es r e by going one) free in
          let t = run_of es r before free' in
          let more = Went es r e before going one in
          let step : Step law may g ok k log b few z z_is r (state es) (state (es ++ e ∷ [])) =
          step_of (net_after g es) (chains_of (network_of g) es) r e (net_after g (es ++ e ∷ [])) (chains_of (network_of g) (es ++ e ∷ []))
          (happens_then es r e by going one) (reacts es r e by going one) (answers es r e by going one) (chains_then es r e by going one)
          (good es r by (all_awake es r before) free')
          (good (es ++ e ∷ []) r (all (es ++ e ∷ []) r more) (all_awake (es ++ e ∷ []) r more) free) in (
            t.0,
            (
              t.1.0,
              t.1.1,
              paying.Went (state es) (state (es ++ e ∷ [])) t.1.0 t.1.2
                  (subst (λ (y : ℕ). Step law may g ok k log b few z z_is y (state es) (state (es ++ e ∷ []))) t.1.1 step),
            ),
          )

      pub pays : (es : List Event) (r n : ℕ) → Run es r → suc (tree_messages (net_after g es)) ≤ n → r ≤ first + (n + 2 * (b * k))
      pays es r n t le =
          let a : t.1.0 ≤ n + 2 * (b * k) =
          paying.last_pays State (λ i. Step law may g ok k log b few z z_is (from first i))
          (λ i. Quiet law may g ok k log b few z z_is (from first i))
          (state start) (Member law may g ok k log b few z z_is)
          (level_of law may g ok k log b few z z_is) (ProbesIn law may g ok k log b few z z_is) (bill_of law may g ok k log b few z z_is)
          (taken_of law may g ok k log b few z z_is) (λ i. Awaits law may g ok k log b few z z_is (from first i))
          (λ i. TreeDue law may g ok k log b few z z_is (from first i)) b k
          (facts law may g ok k log b few z z_is first (state start) t.0) (state es) t.1.0 n t.1.2 le in
          let c = from_is first t.1.0 in
          let d = t.1.1 in
          omega (arith, a, c, d)

    halts_by : (w : Net) → IsNetOf g w → AllAwake w → (e : Event) (x : Net) → Happens (network_of g) w e x → (u : ℕ) → HasHalted x u →
        (HasHalted w u → ⊥) →
        suc (tree_messages w) ≤ tree_messages x
    halts_by w n awake _ _ (Woke v q lo hi asleep h) u now not = absurd (awake v (record { some = lo; node = hi }) asleep)
    halts_by w n awake _ _ (Took a j m ms q at first h) u now not =
        halting_counts g w n a j m ms q at first h (awake a (record { some = at.some; node = at.node })) u now not

    -- as long as it goes on
    open_few : (es : List Event) (r : ℕ) → By es r → (HasEnded g (net_after g es) → ⊥) → r ≤ first + suc (3 * (g.nodes * k) + 2 * (b * k))
    open_few es r by going = split (open_or_ended g ok (net_after g es))
      where
        split : Splits (net_after g es) → r ≤ first + suc (3 * (g.nodes * k) + 2 * (b * k))
        split (inr ended) = absurd (going ended)
        split (inl t) =
            let z_is : InNetwork (network_of g) t.0 = record { some = t.1; node = t.2 } in
            let free : (v : ℕ) → InNetwork (network_of g) v → component g ok t.0 v ≡ true → HasHalted (net_after g es) v → ⊥ =
            λ v is m. t.3 v is.some is.node m in
            let trees = few_trees es r (all es r by) in
            let a = pays t.0 z_is es r (suc (3 * (g.nodes * k))) (run_of t.0 z_is es r by free) (omega (arith, trees)) in
            omega (arith, a)

    pub from_near : (es : List Event) (r : ℕ) → By es r → r ≤ first + suc (3 * (g.nodes * k) + 2 * (b * k))
    from_near _ _ Begun = omega arith
    from_near _ _ (Over es r before going over) = open_few es (suc r) (Over es r before going over) going
    from_near _ _ (Went es r e before going one) = open_few es r before going

    pub from_few : (es : List Event) (r : ℕ) → By es r → HasEnded g (net_after g es) → r ≤ first + (3 * (g.nodes * k) + 2 * (b * k))
    from_few _ _ Begun ended = omega arith
    from_few _ _ (Over es r before going over) ended = absurd (going ended)
    from_few _ _ (Went es r e before going one) ended = split (open_or_ended g ok (net_after g es))
      where
        split : Splits (net_after g es) → r ≤ first + (3 * (g.nodes * k) + 2 * (b * k))
        split (inr over) = absurd (going over)
        split (inl t) =
            let z_is : InNetwork (network_of g) t.0 = record { some = t.1; node = t.2 } in
            let free : (v : ℕ) → InNetwork (network_of g) v → component g ok t.0 v ≡ true → HasHalted (net_after g es) v → ⊥ =
            λ v is m. t.3 v is.some is.node m in
            let by = all es r before in
            let more : ByNumbers may g (es ++ e ∷ []) r = all (es ++ e ∷ []) r (Went es r e before going one) in
            let u = ended t.0 t.1 t.2 in
            let halted : HasHalted (net_after g es) u.0 → ⊥ = t.3 u.0 u.1 u.2 (joined_component g ok t.0 u.0 u.3) in
            let less = halts_by (net_after g es) (net_of_run es r by) (all_awake es r before) e (net_after g (es ++ e ∷ []))
            (happens_then es r e by going one) u.0 u.4 halted in
            let trees = few_trees (es ++ e ∷ []) r more in
            pays t.0 z_is es r (3 * (g.nodes * k)) (run_of t.0 z_is es r before free) (omega (arith, less, trees))

  -- Where each node may wake by itself all are awake at the end of round 0.
  module _ (wake : (v : ℕ) → 1 ≤ v → v ≤ g.nodes → may v ≡ true) where
    up_at_one : (es : List Event) (r : ℕ) → ByNumbers may g es r → 1 ≤ r → AllAwake (net_after g es)
    up_at_one es r by some v is asleep =
        (tells es r by).timed.woken some v
        (and_from (may v) _ (wake v is.some is.node) (and_from _ _ (is_node_of (network_of g) v is.some is.node) (ap is_sleeping asleep)))

    abbrev WakesFirst : List Event → ℕ → Type 0
    WakesFirst es r =
        (r ≡ 0) ⊎ ((start : List Event) × ByNumbers may g start 0 × AllAwake (net_after g start) × FromByNumbers may g start 0 es r)

    wakes_first : (es : List Event) (r : ℕ) → ByNumbers may g es r → WakesFirst es r
    wakes_first _ _ Begun = inl refl
    wakes_first _ _ (Went es r e before going one) =
        ⊎_elim (λ (e : r ≡ 0). inl e) (λ t. inr (t.0, t.1, t.2, Went es r e t.3 going one)) (wakes_first es r before)
    wakes_first _ _ (Over es r before going over) =
        ⊎_elim
        (λ (zero : r ≡ 0).
        inr (
          es,
          subst (λ y. ByNumbers may g es y) zero before,
          up_at_one es (suc r) (Over es r before going over) (omega arith),
          subst (λ y. FromByNumbers may g es 0 es (suc y)) (sym zero) (Over es 0 Begun going (subst (λ y. events_in may g es y ≡ []) zero over)),
        ))
        (λ t. inr (t.0, t.1, t.2, Over es r t.3 going over))
        (wakes_first es r before)

    pub rounds_are_near : (es : List Event) (r : ℕ) → ByNumbers may g es r → r ≤ suc (3 * (g.nodes * k) + 2 * (b * k))
    rounds_are_near es r by =
        ⊎_elim
        (λ (zero : r ≡ 0). omega (arith, zero))
        (λ t. let a = from_near t.0 0 t.1 t.2 es r t.3 in omega (arith, a))
        (wakes_first es r by)

    pub rounds_are_few : (es : List Event) (r : ℕ) → ByNumbers may g es r → HasEnded g (net_after g es) → r ≤ 3 * (g.nodes * k) + 2 * (b * k)
    rounds_are_few es r by ended =
        ⊎_elim
        (λ (zero : r ≡ 0). omega (arith, zero))
        (λ t. let a = from_few t.0 0 t.1 t.2 es r t.3 ended in omega (arith, a))
        (wakes_first es r by)
