-- From each net of a run a fair course leads on: to a net in which nothing waits, where it stays.
use Rattle.std.proofs.Common.{◌≡◌, ◌≢◌, ℕ, zero, suc, ◌<◌, ◌≤◌, ◌+◌, Bool, true, Option, Some, None, List, [], ◌∷◌, ◌++◌, length, refl, sym, ◌∙◌, ap, subst, ⊎_elim, ◌⊎◌, inl, inr, arith, unwrap_or}
use Rattle.std.proofs.lemmas.Bool.{cases_lt}
use Rattle.std.proofs.lemmas.Option.{same_Some}
use Rattle.ghs_graph.specs.Graph.{Shape}
use Rattle.ghs_graph.proofs.lemmas.Logs.{bound_is_one}
use Rattle.ghs_node.specs.declared.message.Phase.TheVariants.{Sleeping}
use Rattle.peer_network.specs.declared.event.Event.{Event}
use Rattle.peer_network.specs.declared.event.Event.TheVariants as events
use Rattle.peer_network.specs.Network.{Network, network_of, At}
use Rattle.ghs_protocol.specs.Net.{Net, happens}
use Rattle.ghs_protocol.specs.Run.{and_then, run}
use Rattle.ghs_protocol.specs.Laws.{IsNetOf}
use Rattle.ghs_protocol.specs.Living.{if_can}
use Rattle.ghs_protocol.specs.Fairness.{HasWork, IsCourse, IsWeaklyFair, IsMoment, Happened, Idle, FairCourse, FairCoursesAre, WakesAll}
use Rattle.ghs_protocol.proofs.charges.Bound.{sends_within}
use Rattle.ghs_protocol.proofs.lemmas.Events.{happening, happens_so}
use Rattle.ghs_protocol.proofs.lemmas.Runs.{both_some, run_joins}
use Rattle.ghs_protocol.proofs.progress.Anywhere.{no_message_is_stuck}
use Rattle.ghs_protocol.proofs.progress.Courses.{waiting_or_silent}
use Rattle.ghs_protocol.proofs.progress.Fairness.{some_there}
use Rattle.ghs_protocol.proofs.progress.Finish.{reached, later, advance, most}
use Rattle.ghs_protocol.proofs.progress.Rounds.{wake_gets_on}
use Rattle.ghs_protocol.proofs.progress.Schedules.{sleeper_to, can_wake}

-- the nets and the events of a run, and then nothing more
abbrev pub nets : Network → List Event → Net → ℕ → Net
nets g [] w i = w
nets g (e ∷ es) w zero = w
nets g (e ∷ es) w (suc i) = nets g es (if_can g w e) i

abbrev pub at_moments : List Event → ℕ → Option Event
at_moments [] i = None
at_moments (e ∷ es) zero = Some e
at_moments (e ∷ es) (suc i) = at_moments es i

nets_first : (g : Network) (es : List Event) (w : Net) → nets g es w 0 ≡ w
nets_first g [] w = refl
nets_first g (e ∷ es) w = refl

-- what can happen does
can_is : (g : Network) (w : Net) (e : Event) (x : Net) → happens g w e ≡ Some x → if_can g w e ≡ x
can_is g w e x h = ap (λ o. unwrap_or o w) h

rest_is : (g : Network) (e : Event) (es : List Event) (w x : Net) → run g (e ∷ es) w ≡ Some x → run g es (if_can g w e) ≡ Some x
rest_is g e es w x h =
    both_some (happens g w e) (λ y. run g es y) x h (λ y a b. subst (λ z. run g es z ≡ Some x) (sym (can_is g w e y a)) b)

moments : (g : Network) (es : List Event) (w x : Net) → run g es w ≡ Some x → (i : ℕ) →
    IsMoment g (nets g es w i) (at_moments es i) (nets g es w (suc i))
moments g [] w x h i = Idle
moments g (e ∷ es) w x h zero =
    both_some (happens g w e) (λ y. run g es y) x h
    (λ y a b.
    subst (λ z. IsMoment g w (Some e) z) (sym (can_is g w e y a) ∙ sym (nets_first g es (if_can g w e))) (Happened (happening g w y e a)))
moments g (e ∷ es) w x h (suc i) = moments g es (if_can g w e) x (rest_is g e es w x h) i

-- in the end the net is the last
at_last : (g : Network) (es : List Event) (w x : Net) → run g es w ≡ Some x → (i : ℕ) → length es ≤ i → nets g es w i ≡ x
at_last g [] w x h i le = same_Some w x h
at_last g (e ∷ es) w x h zero le = absurd (omega (arith, le))
at_last g (e ∷ es) w x h (suc i) le = at_last g es (if_can g w e) x (rest_is g e es w x h) i (omega (arith, le))

module _ (g : Shape) (may : ℕ → Bool) where
  -- events after which nothing waits, and all are awake who may wake
  pub record Quiet (w : Net) : Type 0 where
    pub events_on : List Event
    pub next : Net
    pub leads : run (network_of g) events_on w ≡ Some next
    pub silent : (v p : ℕ) → At (network_of g) v p → next.queue v p ≡ []
    pub awake : (v : ℕ) → 1 ≤ v → v ≤ g.nodes → may v ≡ true → (next.node v).head.phase ≢ Sleeping

  comes : (b k : ℕ) →
      ((w : Net) → IsNetOf g w → reached (network_of g) w ≤ b) →
      (w : Net) → IsNetOf g w →
      suc b ≤ k + reached (network_of g) w →
      Quiet w
  comes b zero within w n le = absurd (let m = within w n in omega (arith, m, le))
  comes b (suc k) within w n le =
      step (λ es x h m more. onto es x h (comes b k within x m (omega (arith, more, le))))
    where
      onto : (es : List Event) (x : Net) → run (network_of g) es w ≡ Some x → Quiet x → Quiet w
      onto es x h q = record {
        events_on = es ++ q.events_on;
        next = q.next;
        leads = run_joins (network_of g) es q.events_on w x h ∙ q.leads;
        silent = q.silent;
        awake = q.awake;
      }

      step :
          ((es : List Event) (x : Net) → run (network_of g) es w ≡ Some x →
          IsNetOf g x →
          suc (reached (network_of g) w) ≤ reached (network_of g) x →
          Quiet w) →
          Quiet w
      step further =
          ⊎_elim
          (λ z.
          let a = advance g n.graph w n (λ u. true) (no_message_is_stuck g w n (λ u. true) (λ c d i m. refl) z.0 z.1 z.2 refl z.3) in
          further a.events a.next a.leads a.is a.more)
          (λ s.
          ⊎_elim
          (λ z.
          let t = can_wake (network_of g) w z.0 z.1 z.2 z.4 in
          further (events.Wake z.0 ∷ []) t.0 (ap (λ o. and_then o (λ x. Some x)) (happens_so t.1))
          (later g n.graph w t.0 (events.Wake z.0) n t.1) (wake_gets_on g n.graph w z.0 t.0 n t.1))
          (λ ups. record { events_on = []; next = w; leads = refl; silent = s; awake = ups })
          (sleeper_to g may w g.nodes (omega arith)))
          (waiting_or_silent g w)

  module _ (w : Net) (q : Quiet w) where
    abbrev net : ℕ → Net
    net i = nets (network_of g) q.events_on w i

    abbrev event : ℕ → Option Event
    event i = at_moments q.events_on i

    pub is_course : IsCourse (network_of g) net event
    is_course = record { moment = λ i. moments (network_of g) q.events_on w q.next q.leads i }

    pub comes_last : (i : ℕ) → length q.events_on ≤ i → net i ≡ q.next
    comes_last i le = at_last (network_of g) q.events_on w q.next q.leads i le

    pub is_fair : IsWeaklyFair (network_of g) net event
    is_fair i v p at h = (
      i + length q.events_on,
      omega arith,
      inr (λ work. some_there (subst (λ x. HasWork x v p) (comes_last (i + length q.events_on) (omega arith)) work) (q.silent v p at)),
    )

    pub wakes_all : WakesAll may g net
    wakes_all v lo hi can = (
      length q.events_on,
      subst (λ (x : Net). (x.node v).head.phase ≢ Sleeping) (sym (comes_last (length q.events_on) (omega arith))) (q.awake v lo hi can),
    )

    course_of : FairCourse g may w
    course_of = record {
      net = net;
      event = event;
      start = nets_first (network_of g) q.events_on w;
      course = is_course;
      fair = is_fair;
      wakes = wakes_all;
    }

pub fair_courses_are : FairCoursesAre
fair_courses_are g may w n = go (cases_lt 0 g.nodes)
  where
    go : (0 < g.nodes) ⊎ (g.nodes ≤ 0) → FairCourse g may w
    go (inl some) =
        let b = bound_is_one g.nodes (length g.keys) (omega (arith, some)) in
        course_of g may w
        (comes g may (b.0 + g.nodes) (suc (b.0 + g.nodes)) (most g n.graph b.0 (λ x k. sends_within g x k b.0 b.1)) w n (omega arith))
    go (inr none) =
        course_of g may w
        (record {
          events_on = [];
          next = w;
          leads = refl;
          silent = λ v p at. absurd (let lo = at.some in let hi = at.node in omega (arith, lo, hi, none));
          awake = λ v lo hi can. absurd (omega (arith, lo, hi, none));
        })
