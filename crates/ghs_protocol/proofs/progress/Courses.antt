-- Each fair course comes to its end, and no fair run goes on for ever.
use Rattle.std.proofs.Common.{◌≡◌, ◌≢◌, ℕ, zero, suc, ◌<◌, ◌≤◌, ◌+◌, ◌-◌, Bool, true, Option, Some, None, List, [], ◌∷◌, length, refl, sym, ◌∙◌, ap, subst, ⊎_elim, ◌⊎◌, inl, inr, arith}
use Rattle.std.proofs.lemmas.Bool.{cases_lt}
use Rattle.std.proofs.lemmas.Option.{same_Some}
use Rattle.ghs_graph.specs.Graph.{Shape}
use Rattle.ghs_graph.proofs.lemmas.Joining.{joined_back}
use Rattle.ghs_graph.proofs.lemmas.Logs.{bound_is_one}
use Rattle.ghs_node.specs.declared.message.Message.{Message}
use Rattle.ghs_node.specs.declared.message.Phase.TheVariants.{Sleeping, Found}
use Rattle.peer_network.specs.declared.event.Event.{Event}
use Rattle.peer_network.specs.declared.event.Event.TheVariants as events
use Rattle.peer_network.specs.declared.event.Event.TheVariants.{Take}
use Rattle.peer_network.specs.Network.{Network, network_of, At}
use Rattle.peer_network.specs.Wakes.{AllMayWake}
use Rattle.peer_network.proofs.lemmas.Graphs.{graph_wired}
use Rattle.ghs_protocol.specs.Net.{Net}
use Rattle.ghs_protocol.specs.Laws.{IsNetOf}
use Rattle.ghs_protocol.specs.Living.{GoesOn}
use Rattle.ghs_protocol.specs.Steps.{Happens, Woke, Took}
use Rattle.ghs_protocol.specs.Cores.{IsQuietAt}
use Rattle.ghs_protocol.specs.Fairness.{IsMoment, Happened, Idle, IsCourse, IsWeaklyFair, WakesAll, AllTakenIsFair, NoFairRunIsEndless, ComesToRest, FairCoursesEnd}
use Rattle.ghs_protocol.proofs.charges.Bound.{sends_within}
use Rattle.ghs_protocol.proofs.lemmas.Events.{taken_at}
use Rattle.ghs_protocol.proofs.lemmas.Lasting.{event_lasts}
use Rattle.ghs_protocol.proofs.one_core.Quiet.{quiet_nodes}
use Rattle.ghs_protocol.proofs.progress.Anywhere.{no_message_is_stuck}
use Rattle.ghs_protocol.proofs.progress.Fairness.{keeps, first, ready, has_work, taken_some, one_node, some_there}
use Rattle.ghs_protocol.proofs.progress.Finish.{reached, later, formed, most, silent_nets_have_ended}
use Rattle.ghs_protocol.proofs.progress.Found.{search}
use Rattle.ghs_protocol.proofs.progress.Rounds.{wake_gets_on, Ready, happened}
use Rattle.ghs_protocol.proofs.progress.Schedules.{end_for, Sleeper, sleeper_to}

-- so many moments later
ahead : ℕ → ℕ → ℕ
ahead zero i = i
ahead (suc d) i = ahead d (suc i)

ahead_is : (d i j : ℕ) → j ≡ d + i → ahead d i ≡ j
unfolding ahead
ahead_is zero i j e = omega (arith, e)
ahead_is (suc d) i j e = ahead_is d (suc i) j (omega (arith, e))

-- of a queue that has work still something is taken
taken_at_last : {P Q : Type 0} → P ⊎ (Q → ⊥) → Q → P
taken_at_last (inl p) q = p
taken_at_last (inr n) q = absurd (n q)

-- a queue is empty or isn't
empty_or_not : (q : List Message) → (q ≢ []) ⊎ (q ≡ [])
empty_or_not [] = inr refl
empty_or_not (m ∷ q) = inl (λ e. cc)

-- what happened where something did
event_of : {g : Network} {w x : Net} {o : Option Event} → IsMoment g w o x → o ≢ None → (e : Event) × Happens g w e x
event_of (Happened {e = e} h) some = (e, h)
event_of Idle some = absurd (some refl)

-- where nothing can happen the net stays
stays_still : {g : Network} {w x : Net} {o : Option Event} → IsMoment g w o x → ((e : Event) → Happens g w e x → ⊥) → x ≡ w
stays_still (Happened {e = e} h) none = absurd (none e h)
stays_still Idle none = refl

-- where all are awake and nothing waits nothing can happen
no_event : {g : Network} (e : Event) (w x : Net) →
    ((v p : ℕ) → At g v p → w.queue v p ≡ []) →
    ((v : ℕ) → 1 ≤ v → v ≤ g.count → (w.node v).head.phase ≢ Sleeping) →
    Happens g w e x →
    ⊥
no_event _ w _ t a (Woke v d lo hi s r) = a v lo hi s
no_event _ w _ t a (Took v p m ms d at q r) = let z : m ∷ ms ≡ [] = sym q ∙ t v p at in cc

-- A message waits somewhere, or nowhere.
module _ (g : Shape) where
  abbrev pub Waiting : Net → Type 0
  Waiting w = (v : ℕ) × (p : ℕ) × At (network_of g) v p × (w.queue v p ≢ [])

  abbrev pub Silent : Net → Type 0
  Silent w = (v p : ℕ) → At (network_of g) v p → w.queue v p ≡ []

  pub waiting_or_silent : (w : Net) → Waiting w ⊎ Silent w
  waiting_or_silent w =
      ⊎_elim (λ z. let t = z.2 in inl (suc z.0, t.0, t.1, t.2))
      (λ none. inr (λ v p at. all none v p at))
      (search (λ i. (p : ℕ) × At (network_of g) (suc i) p × (w.queue (suc i) p ≢ []))
      (λ i. (p : ℕ) → At (network_of g) (suc i) p → w.queue (suc i) p ≡ [])
      g.nodes (λ i lt. at_node i lt))
    where
      at_node : (i : ℕ) → i < g.nodes →
          ((p : ℕ) × At (network_of g) (suc i) p × (w.queue (suc i) p ≢ [])) ⊎ ((p : ℕ) → At (network_of g) (suc i) p → w.queue (suc i) p ≡ [])
      at_node i lt =
          ⊎_elim (λ z. inl (z.0, record { some = omega arith; node = omega (arith, lt); port = z.1 }, z.2)) (λ none. inr (λ p at. none p at.port))
          (search (λ p. w.queue (suc i) p ≢ []) (λ p. w.queue (suc i) p ≡ []) (length ((network_of g).ports (suc i)))
          (λ p _. empty_or_not (w.queue (suc i) p)))

      all : ((i : ℕ) → i < g.nodes → (p : ℕ) → At (network_of g) (suc i) p → w.queue (suc i) p ≡ []) → (v p : ℕ) → At (network_of g) v p →
          w.queue v p ≡ []
      all none zero p at = absurd (let z = at.some in omega (arith, z))
      all none (suc i) p at = none i (let z = at.node in omega (arith, z)) p at

module _ (g : Shape) (net : ℕ → Net) (event : ℕ → Option Event) (start : IsNetOf g (net 0)) (c : IsCourse (network_of g) net event) where
  moment_net : (w x : Net) (o : Option Event) → IsNetOf g w → IsMoment (network_of g) w o x → IsNetOf g x
  moment_net w _ _ n (Happened {e = e} {x = x} h) = later g start.graph w x e n h
  moment_net w _ _ n Idle = n

  net_at : (i : ℕ) → IsNetOf g (net i)
  net_at zero = start
  net_at (suc i) = moment_net (net i) (net (suc i)) (event i) (net_at i) (c.moment i)

  abbrev so_far : ℕ → ℕ
  so_far i = reached (network_of g) (net i)

  moment_keeps : (w x : Net) (o : Option Event) → IsNetOf g w → IsMoment (network_of g) w o x → reached (network_of g) w ≤ reached (network_of g) x
  moment_keeps w _ _ n (Happened {e = e} {x = x} h) = keeps g start.graph w x e n h
  moment_keeps w _ _ n Idle = omega arith

  kept : (i : ℕ) → so_far i ≤ so_far (suc i)
  kept i = moment_keeps (net i) (net (suc i)) (event i) (net_at i) (c.moment i)

  rises : (d i : ℕ) → so_far i ≤ so_far (ahead d i)
  unfolding ahead
  rises zero i = omega arith
  rises (suc d) i = let a = kept i in let z = rises d (suc i) in omega (arith, a, z)

  -- by this later moment it has got on
  record On (i : ℕ) : Type 0 where
    then : ℕ
    later_on : i ≤ then
    more : suc (so_far i) ≤ so_far then

  module _ (v p : ℕ) (at : At (network_of g) v p) where
    -- what a moment leaves of a message that stands behind others
    abbrev Passes : Net → Option Event → Net → Type 0
    Passes w o x =
        (suc (reached (network_of g) w) ≤ reached (network_of g) x) ⊎
        (((k : ℕ) → Ready g start.graph v p k w → Ready g start.graph v p k x) ×
        (o ≡ Some (Take v p) → (k : ℕ) → Ready g start.graph v p (suc k) w → Ready g start.graph v p k x) ×
        (o ≡ Some (Take v p) → Ready g start.graph v p 0 w → ⊥))

    moment_passes : (w x : Net) (o : Option Event) → IsNetOf g w → IsMoment (network_of g) w o x → Passes w o x
    moment_passes w _ _ n (Happened {e = e} {x = x} h) =
        ⊎_elim (λ z. inl z)
        (λ z. inr (z.0, (λ i. z.1 (same_Some e (Take v p) i)), (λ i. z.2 (same_Some e (Take v p) i))))
        (happened g start.graph v p at w x e n h)
    moment_passes w _ _ n Idle = inr ((λ k r. r), (λ i. absurd (nothing i)), (λ i r. nothing i))
      where
        nothing : None ≡ Some (Take v p) → ⊥
        nothing e = cc

    passes : (i : ℕ) → Passes (net i) (event i) (net (suc i))
    passes i = moment_passes (net i) (net (suc i)) (event i) (net_at i) (c.moment i)

    carried_to : (k d i : ℕ) → Ready g start.graph v p k (net i) → (suc (so_far i) ≤ so_far (ahead d i)) ⊎ Ready g start.graph v p k (net (ahead d i))
    unfolding ahead
    carried_to k zero i z = inr z
    carried_to k (suc d) i z =
        ⊎_elim (λ a. let l = rises d (suc i) in inl (omega (arith, a, l)))
        (λ a. ⊎_elim (λ y. let l = kept i in inl (omega (arith, y, l))) (λ y. inr y) (carried_to k d (suc i) (a.0 k z)))
        (passes i)

    -- up to moment j
    carried_at : (k i j : ℕ) → i ≤ j → Ready g start.graph v p k (net i) →
        (suc (so_far i) ≤ so_far j) ⊎ ((so_far i ≤ so_far j) × Ready g start.graph v p k (net j))
    carried_at k i j le z =
        let e : ahead (j - i) i ≡ j = ahead_is (j - i) i j (omega (arith, le)) in
        subst (λ (y : ℕ). (suc (so_far i) ≤ so_far y) ⊎ ((so_far i ≤ so_far y) × Ready g start.graph v p k (net y))) e
        (⊎_elim (λ a. inl a) (λ a. inr (rises (j - i) i, a)) (carried_to k (j - i) i z))

    module _ (fair : IsWeaklyFair (network_of g) net event) where
      first_goes : (i : ℕ) → Ready g start.graph v p 0 (net i) → On i
      first_goes i z =
          let f = fair i v p at (has_work g start.graph v p 0 (net i) z) in
          let le = f.1 in
          ⊎_elim (λ a. record { then = f.0; later_on = le; more = a })
          (λ a.
          let taken = taken_at_last f.2 (has_work g start.graph v p 0 (net f.0) a.1) in
          ⊎_elim (λ y. record { then = suc f.0; later_on = omega (arith, le); more = (let l = a.0 in omega (arith, y, l)) })
          (λ y. absurd (y.2 taken a.1))
          (passes f.0))
          (carried_at 0 i f.0 f.1 z)

      second_goes : (i : ℕ) → Ready g start.graph v p 1 (net i) → On i
      second_goes i z =
          let f = fair i v p at (has_work g start.graph v p 1 (net i) z) in
          let le = f.1 in
          ⊎_elim (λ a. record { then = f.0; later_on = le; more = a })
          (λ a.
          let l = a.0 in
          let taken = taken_at_last f.2 (has_work g start.graph v p 1 (net f.0) a.1) in
          ⊎_elim (λ y. record { then = suc f.0; later_on = omega (arith, le); more = omega (arith, y, l) })
          (λ y.
          let o = first_goes (suc f.0) (y.1 taken 0 a.1) in
          let k = kept f.0 in
          let m = o.more in
          let n = o.later_on in
          record { then = o.then; later_on = omega (arith, le, n); more = omega (arith, l, k, m) })
          (passes f.0))
          (carried_at 1 i f.0 f.1 z)

  module _ (fair : IsWeaklyFair (network_of g) net event) where
    goes : (i : ℕ) → GoesOn (network_of g) (net i) (λ u. true) → On i
    goes i o = second_goes o.node o.port o.at fair i (ready g start.graph (net i) o)

    -- Without end.
    module _ (never : (i : ℕ) → event i ≢ None) where
      on : (i : ℕ) → On i
      on i =
          let e = event_of (c.moment i) (never i) in
          ⊎_elim (λ gets. record { then = suc i; later_on = omega arith; more = gets }) (λ o. goes i o)
          (first g start.graph (net i) e.0 (net (suc i)) (net_at i) e.1)

      climbs : (k : ℕ) → (j : ℕ) × (k ≤ so_far j)
      climbs zero = (0, omega arith)
      climbs (suc k) = let z = climbs k in let o = on z.0 in let l = z.1 in let m = o.more in (o.then, omega (arith, l, m))

      no_end : ⊥
      no_end =
          let b = bound_is_one g.nodes (length g.keys) (one_node (event_of (c.moment 0) (never 0)).1) in
          let z = climbs (suc (b.0 + g.nodes)) in
          let l = z.1 in
          let m = most g start.graph b.0 (λ x k. sends_within g x k b.0 b.1) (net z.0) (net_at z.0) in
          omega (arith, l, m)

    -- To the end.
    -- from a silent net on it stays, or a wake gets on
    wakes_or_stays : (d i : ℕ) → Silent g (net i) → (suc (so_far i) ≤ so_far (ahead d i)) ⊎ (net (ahead d i) ≡ net i)
    unfolding ahead
    wakes_or_stays zero i s = inr refl
    wakes_or_stays (suc d) i s =
        ⊎_elim (λ a. let l = rises d (suc i) in inl (omega (arith, a, l)))
        (λ (e : net (suc i) ≡ net i).
        ⊎_elim (λ a. let l = kept i in inl (omega (arith, a, l))) (λ f. inr (f ∙ e))
        (wakes_or_stays d (suc i) (λ v p at. ap (λ (w : Net). w.queue v p) e ∙ s v p at)))
        (next (net i) (net (suc i)) (event i) (net_at i) s (c.moment i))
      where
        next : (w x : Net) (o : Option Event) → IsNetOf g w → ((v p : ℕ) → At (network_of g) v p → w.queue v p ≡ []) →
            IsMoment (network_of g) w o x → (suc (reached (network_of g) w) ≤ reached (network_of g) x) ⊎ (x ≡ w)
        next w _ _ n t (Happened {e = events.Wake v} {x = x} h) = inl (wake_gets_on g start.graph w v x n h)
        next w _ _ n t (Happened {e = events.Take v p} {x = x} h) = absurd (taken_some h (t v p (taken_at h)))
        next w _ _ n t Idle = inr refl

    awake_later : (d i v : ℕ) → ((net i).node v).head.phase ≢ Sleeping → ((net (ahead d i)).node v).head.phase ≢ Sleeping
    unfolding ahead
    awake_later zero i v up = up
    awake_later (suc d) i v up = awake_later d (suc i) v (one (net i) (net (suc i)) (event i) (net_at i) (c.moment i) up)
      where
        one : (w x : Net) (o : Option Event) → IsNetOf g w → IsMoment (network_of g) w o x → (w.node v).head.phase ≢ Sleeping →
            (x.node v).head.phase ≢ Sleeping
        one w _ _ n (Happened {e = e} {x = x} h) u =
            (event_lasts (network_of g) (graph_wired g start.graph) w x e (formed g start.graph w n) h v).awake u
        one w _ _ n Idle u = u

    -- where all are awake and nothing waits the net stays
    stays : (d i : ℕ) → Silent g (net i) → ((v : ℕ) → 1 ≤ v → v ≤ g.nodes → ((net i).node v).head.phase ≢ Sleeping) → net (ahead d i) ≡ net i
    unfolding ahead
    stays zero i t a = refl
    stays (suc d) i t a =
        let e : net (suc i) ≡ net i = stays_still (c.moment i) (λ e h. nothing e h) in
        stays d (suc i) (λ v p at. ap (λ (w : Net). w.queue v p) e ∙ t v p at)
        (subst (λ (w : Net). (v : ℕ) → 1 ≤ v → v ≤ g.nodes → (w.node v).head.phase ≢ Sleeping) (sym e) a) ∙
        e
      where
        nothing : (e : Event) → Happens (network_of g) (net i) e (net (suc i)) → ⊥
        nothing e h = no_event e (net i) (net (suc i)) t a h

    module _ (may : ℕ → Bool) (all : AllMayWake may g) (wakes : WakesAll may g net) where
      -- a moment from which on nothing happens
      rest : (i : ℕ) → Silent g (net i) →
          ((v : ℕ) → 1 ≤ v → v ≤ g.nodes → may v ≡ true → ((net i).node v).head.phase ≢ Sleeping) →
          ComesToRest g net
      rest i s ups = record {
        moment = i;
        ended = λ v lo hi.
            end_for g start.graph (net i) v lo hi
            (silent_nets_have_ended g (net i) (net_at i) s v (record { some = lo; node = hi }) (up v lo hi));
        silent = s;
        still = λ j le. subst (λ (y : ℕ). net y ≡ net i) (ahead_is (j - i) i j (omega (arith, le))) (stays (j - i) i s up);
      }
        where
          up : (v : ℕ) → 1 ≤ v → v ≤ g.nodes → ((net i).node v).head.phase ≢ Sleeping
          up v lo hi e =
              let u = all v lo hi in
              let q : IsQuietAt g (net i) v = record {
                net = net_at i;
                silent = s;
                woken = u.0;
                some = u.1;
                node = u.2;
                awake = ups u.0 u.1 u.2 u.4;
                way = joined_back u.3;
              } in
              let z : Found ≡ Sleeping = sym (quiet_nodes g (net i) v q).0 ∙ e in
              cc

      comes : (b k : ℕ) → ((w : Net) → IsNetOf g w → reached (network_of g) w ≤ b) → (i : ℕ) → suc b ≤ k + so_far i → ComesToRest g net
      comes b zero within i le = absurd (let m = within (net i) (net_at i) in omega (arith, m, le))
      comes b (suc k) within i le = step (λ o. comes b k within o.then (let m = o.more in omega (arith, m, le)))
        where
          asleep : (On i → ComesToRest g net) → Silent g (net i) → Sleeper g may (net i) → ComesToRest g net
          asleep further s z =
              let t = wakes z.0 z.1 z.2 z.3 in
              ⊎_elim
              (λ (lt : t.0 < i).
              absurd
              (subst (λ (y : ℕ). ((net y).node z.0).head.phase ≢ Sleeping) (ahead_is (i - t.0) t.0 i (omega (arith, lt)))
              (awake_later (i - t.0) t.0 z.0 t.1) z.4))
              (λ (ge : i ≤ t.0).
              let e : ahead (t.0 - i) i ≡ t.0 = ahead_is (t.0 - i) i t.0 (omega (arith, ge)) in
              ⊎_elim
              (λ m. further (record { then = t.0; later_on = ge; more = subst (λ (y : ℕ). suc (so_far i) ≤ so_far y) e m }))
              (λ same.
              absurd (t.1 (ap (λ (w : Net). (w.node z.0).head.phase) (ap net (sym e) ∙ same) ∙ z.4)))
              (wakes_or_stays (t.0 - i) i s))
              (cases_lt t.0 i)

          step : (On i → ComesToRest g net) → ComesToRest g net
          step further =
              ⊎_elim
              (λ z. further (goes i (no_message_is_stuck g (net i) (net_at i) (λ u. true) (λ x y h m. refl) z.0 z.1 z.2 refl z.3)))
              (λ s. ⊎_elim (λ z. asleep further s z) (λ ups. rest i s ups) (sleeper_to g may (net i) g.nodes (omega arith)))
              (waiting_or_silent g (net i))

pub no_fair_run_is_endless : NoFairRunIsEndless
no_fair_run_is_endless g net event start c fair never = no_end g net event start c fair never

pub fair_courses_end : FairCoursesEnd
fair_courses_end g may net event start all c fair wakes = go (cases_lt 0 g.nodes)
  where
    go : (0 < g.nodes) ⊎ (g.nodes ≤ 0) → ComesToRest g net
    go (inl some) =
        let b = bound_is_one g.nodes (length g.keys) (omega (arith, some)) in
        comes g net event start c fair may all wakes (b.0 + g.nodes) (suc (b.0 + g.nodes))
        (most g start.graph b.0 (λ x k. sends_within g x k b.0 b.1)) 0 (omega arith)
    go (inr none) =
        rest g net event start c fair may all wakes 0 (λ v p at. absurd (let lo = at.some in let hi = at.node in omega (arith, lo, hi, none)))
        (λ v lo hi can. absurd (omega (arith, lo, hi, none)))

pub all_taken_is_fair : AllTakenIsFair
all_taken_is_fair g net event taken i v p at h = let t = taken i v p at (some_there h) in (t.0, t.1, inl t.2)
