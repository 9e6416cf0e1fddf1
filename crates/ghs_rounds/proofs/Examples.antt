-- Runs by rounds of three nodes, computed from the moments of sending: the triangle, where all wake, and where the first node does.
use Rattle.std.proofs.Common.{◌≡◌, ◌≢◌, ℕ, zero, suc, ◌+◌, ◌*◌, ◌^◌, ◌≤◌, ◌==◌, Bool, true, false, ◌&&◌, not, Option, Some, None, List, [], ◌∷◌, ◌++◌, length, cond, refl, sym, ◌∙◌, ap₂, subst, ⊎_elim, arith, pow_mono}
use Rattle.std.specs.List.{Contains}
use Rattle.std.proofs.lemmas.Bool.{and_parts, both_ways, cases_eq, not-true}
use Rattle.ghs_graph.specs.Bound.{IsBound, IsFloorLog2}
use Rattle.ghs_graph.specs.declared.key.Key.{Key}
use Rattle.ghs_graph.specs.Graph.{Shape, IsGraph}
use Rattle.ghs_graph.specs.Links.{AreAmong, Back, IsRising, Joined, Same, links}
use Rattle.ghs_graph.specs.Ports.{ports_of}
use Rattle.ghs_graph.proofs.lemmas.Members.{first_in, in_cases, later_in, nothing_in}
use Rattle.ghs_node.specs.declared.delta.Delta.{Delta}
use Rattle.ghs_node.specs.declared.message.Phase.TheVariants.{Sleeping}
use Rattle.ghs_node.specs.Reaction.{reaction}
use Rattle.peer_network.specs.declared.event.Event.{Event}
use Rattle.peer_network.specs.declared.event.Event.TheVariants.{Wake, Take}
use Rattle.peer_network.specs.Events.{event_node}
use Rattle.peer_network.specs.Network.{network_of}
use Rattle.ghs_protocol.specs.Marks.{HasEnded, HasHalted}
use Rattle.ghs_protocol.specs.Net.{Net}
use Rattle.ghs_protocol.specs.Run.{net_after}
use Rattle.ghs_core.specs.NetState.{work_at}
use Rattle.ghs_following.specs.Chains.{chains_of, longest_chain}
use Rattle.ghs_rounds.specs.Laws.{IsSimple}
use Rattle.ghs_rounds.specs.Moments.{GoesByRounds, Happened, IsByRounds, Moments, Passed, Stands, moved, none_sent, round_of}

-- The run in which always the first event of the round happens.

-- how far it has come
record Moment : Type 0 where
  events : List Event
  round : ℕ
  sent : Moments

abbrev opened : Moment
opened = record { events = []; round = 0; sent = none_sent }

-- none of the nodes 1 to n has halted
abbrev none_halted : Net → ℕ → Bool
none_halted w zero = true
none_halted w (suc n) = none_halted w n && not (w.node (suc n)).head.halted

module _ (may : ℕ → Bool) (g : Shape) where
  abbrev net : Moment → Net
  net m = net_after g m.events

  abbrev now : Moment → List Event
  now m = round_of may (network_of g) (net m) m.sent m.round

  abbrev answer : Moment → Event → Option Delta
  answer m e = reaction ((net m).node (event_node e)) (work_at (net m) e)

  abbrev by_answer : Moment → Event → Option Delta → Moment
  by_answer m e None = m
  by_answer m e (Some d) = record { events = m.events ++ e ∷ []; round = m.round; sent = moved m.round (network_of g) e d m.sent }

  abbrev by_events : Moment → List Event → Moment
  by_events m [] = record { events = m.events; round = suc m.round; sent = m.sent }
  by_events m (e ∷ es) = by_answer m e (answer m e)

  abbrev if_going : Bool → Moment → Moment → Moment
  if_going true m x = x
  if_going false m x = m

  -- one step: an event, or the next round; and so many
  abbrev step : Moment → Moment
  step m = if_going (none_halted (net m) g.nodes) m (by_events m (now m))

  abbrev steps : ℕ → Moment → Moment
  steps zero m = m
  steps (suc n) m = steps n (step m)

  -- they make a run by rounds, and go on from any of its moments by rounds
  halted_not : (w : Net) (n : ℕ) → none_halted w n ≡ true → (u : ℕ) → 1 ≤ u → u ≤ n → HasHalted w u → ⊥
  halted_not w zero t u lo hi h = omega (arith, lo, hi)
  halted_not w (suc n) t u lo hi h =
      let z = and_parts (none_halted w n) (not (w.node (suc n)).head.halted) t in
      ⊎_elim
      (λ (e : u ≡ suc n).
      let a : (w.node (suc n)).head.halted ≡ true = subst (λ y. (w.node y).head.halted ≡ true) e h in
      let b = not-true (w.node (suc n)).head.halted z.1 in
      both_ways (w.node (suc n)).head.halted b a)
      (λ ne. halted_not w n z.0 u lo (omega (arith, hi, ne)) h)
      (cases_eq u (suc n))

  going_on : (m : Moment) → 1 ≤ g.nodes → none_halted (net m) g.nodes ≡ true → HasEnded g (net m) → ⊥
  going_on m some t ended = let z = ended 1 (omega arith) some in halted_not (net m) g.nodes t z.0 z.1 z.2 z.4

  -- from one moment to another
  abbrev Goes : Moment → Moment → Type 0
  Goes s m = GoesByRounds may g s.events s.round s.sent m.events m.round m.sent

  step_goes : 1 ≤ g.nodes → (s m : Moment) → Goes s m → Goes s (step m)
  step_goes some s m is = if_so (none_halted (net m) g.nodes) refl
    where
      by_so : (HasEnded g (net m) → ⊥) → (es : List Event) → now m ≡ es → (e : Event) → Contains es e → (o : Option Delta) → answer m e ≡ o →
          Goes s (by_answer m e o)
      by_so going es same e one None a = is
      by_so going es same e one (Some d) a =
          Happened m.events m.round m.sent e d is going (subst (λ (l : List Event). Contains l e) (sym same) one) a

      go : (HasEnded g (net m) → ⊥) → (es : List Event) → now m ≡ es → Goes s (by_events m es)
      go going [] same = Passed m.events m.round m.sent is going same
      go going (e ∷ es) same = by_so going (e ∷ es) same e (first_in e es) (answer m e) refl

      if_so : (b : Bool) → none_halted (net m) g.nodes ≡ b → Goes s (if_going b m (by_events m (now m)))
      if_so true t = go (going_on m some t) (now m) refl
      if_so false t = is

  steps_go : 1 ≤ g.nodes → (n : ℕ) (s m : Moment) → Goes s m → Goes s (steps n m)
  steps_go some zero s m is = is
  steps_go some (suc n) s m is = steps_go some n s (step m) (step_goes some s m is)

-- The triangle, where each node may wake by itself.
abbrev light : Key
light = record { weight = 1; a = 1; b = 2 }

abbrev middle : Key
middle = record { weight = 2; a = 2; b = 3 }

abbrev heavy : Key
heavy = record { weight = 3; a = 1; b = 3 }

abbrev g : Shape
g = record { nodes = 3; keys = light ∷ middle ∷ heavy ∷ [] }

abbrev all : ℕ → Bool
all v = true

-- 16 events and 5 ends of rounds
abbrev end : Moment
end = steps all g 21 opened

-- its events, the rounds 0 to 5
abbrev events : List Event
events =
    Wake 1 ∷ Wake 2 ∷ Wake 3 ∷
    Take 1 0 ∷ Take 2 0 ∷
    Take 1 0 ∷ Take 2 0 ∷ Take 2 1 ∷
    Take 3 0 ∷ Take 3 0 ∷ Take 3 0 ∷ Take 3 1 ∷
    Take 1 1 ∷ Take 2 1 ∷ Take 2 1 ∷
    Take 1 0 ∷ []

-- when round 3 begins a Test of round 2 waits at node 3, before an Initiate of the same round: the Test makes way
abbrev third : Moment
third = steps all g 11 opened

gives_way : (third.round ≡ 3) × (third.sent 3 0 ≡ 2 ∷ 2 ∷ []) × (now all g third ≡ Take 3 0 ∷ [])
unfolding net_after ports_of
gives_way = (refl, refl, refl)

rounds : end.round ≡ 5
unfolding net_after ports_of
rounds = refl

its_events : end.events ≡ events
unfolding net_after ports_of
its_events = refl

-- The premises of the bounds hold of it, and it is within them.
among : AreAmong 3 g.keys
among zero d lt = (omega arith, omega arith, omega arith)
among (suc zero) d lt = (omega arith, omega arith, omega arith)
among (suc (suc zero)) d lt = (omega arith, omega arith, omega arith)
among (suc (suc (suc k))) d lt = absurd (omega (arith, lt))

rising : IsRising g.keys
rising zero zero d lt l = absurd (omega (arith, lt))
rising zero (suc zero) d lt l = refl
rising zero (suc (suc zero)) d lt l = refl
rising zero (suc (suc (suc k))) d lt l = absurd (omega (arith, l))
rising (suc zero) zero d lt l = absurd (omega (arith, lt))
rising (suc zero) (suc zero) d lt l = absurd (omega (arith, lt))
rising (suc zero) (suc (suc zero)) d lt l = refl
rising (suc zero) (suc (suc (suc k))) d lt l = absurd (omega (arith, l))
rising (suc (suc i)) zero d lt l = absurd (omega (arith, lt))
rising (suc (suc i)) (suc zero) d lt l = absurd (omega (arith, lt))
rising (suc (suc i)) (suc (suc zero)) d lt l = absurd (omega (arith, lt))
rising (suc (suc i)) (suc (suc (suc k))) d lt l = absurd (omega (arith, l))

graph : IsGraph g
graph = record { some = omega arith; nodes = omega arith; links = omega arith; among = among; rising = rising }

by_rounds : IsByRounds all g events 5 end.sent
by_rounds =
    subst (λ (es : List Event). IsByRounds all g es 5 end.sent) its_events
    (subst (λ (r : ℕ). IsByRounds all g end.events r end.sent) rounds (steps_go all g (omega arith) 21 opened opened Stands))

greatest : (j : ℕ) → 2 ^ j ≤ 3 → j ≤ 1
greatest zero le = omega arith
greatest (suc zero) le = omega arith
greatest (suc (suc j)) le =
    absurd (let two : 2 ≤ suc (suc j) = omega arith in let z : 2 ^ 2 ≤ 2 ^ (suc (suc j)) = pow_mono two in omega (arith, z, le))

log2 : IsFloorLog2 3 1
log2 = record { at_most = omega arith; greatest = greatest }

two_ports : (v : ℕ) → 1 ≤ v → v ≤ 3 → length (ports_of g.keys v) ≤ 2
unfolding ports_of
two_ports zero lo hi = absurd (omega (arith, lo))
two_ports (suc zero) lo hi = omega arith
two_ports (suc (suc zero)) lo hi = omega arith
two_ports (suc (suc (suc zero))) lo hi = omega arith
two_ports (suc (suc (suc (suc v)))) lo hi = absurd (omega (arith, hi))

halted : ((net_after g events).node 1).head.halted ≡ true
unfolding net_after ports_of
halted = refl

joined : (v : ℕ) → 1 ≤ v → v ≤ 3 → Joined (links g.keys) v 1
joined zero lo hi = absurd (omega (arith, lo))
joined (suc zero) lo hi = Same
joined (suc (suc zero)) lo hi = Back light (first_in light (middle ∷ heavy ∷ [])) Same
joined (suc (suc (suc zero))) lo hi =
    Back heavy (later_in light heavy (middle ∷ heavy ∷ []) (later_in middle heavy (heavy ∷ []) (first_in heavy []))) Same
joined (suc (suc (suc (suc v)))) lo hi = absurd (omega (arith, hi))

ended : HasEnded g (net_after g events)
ended v lo hi = (1, omega arith, omega arith, joined v lo hi, halted)

-- it has 5 rounds, and the bound is 11
within : 5 ≤ 3 * (3 * 1) + 2 * (1 * 1)
within = omega arith

-- its longest chain has as many messages
chain : longest_chain (network_of g) events ≡ 5
unfolding chains_of ports_of
chain = refl

bound : IsBound 3 3 21
bound = record { levels = 1; log2 = log2; bound = refl }

-- no two of its links have the same ends, since these tell the link
abbrev by_ends : ℕ → ℕ → Key
by_ends a b = cond (a == 2) middle (cond (b == 2) light heavy)

told : (k : Key) → Contains g.keys k → k ≡ by_ends k.a k.b
told k h =
    let is = λ (x : Key). x ≡ by_ends x.a x.b in
    ⊎_elim
    (λ t. ⊎_elim
    (λ u. ⊎_elim (λ z. absurd (nothing_in k z)) (λ e. subst is e refl) (in_cases heavy k [] u))
    (λ e. subst is e refl)
    (in_cases middle k (heavy ∷ []) t))
    (λ e. subst is e refl)
    (in_cases light k (middle ∷ heavy ∷ []) h)

simple : IsSimple g
simple j k at there a b = told j at ∙ ap₂ by_ends a b ∙ sym (told k there)

-- The triangle, where only node 1 may wake by itself: all are awake in round 3, and it ends in round 7, within the bound for who has woken.
abbrev first : ℕ → Bool
first v = v == 1

-- 6 events and 3 ends of rounds, and then 9 and 4
abbrev woken : Moment
woken = steps first g 9 opened

abbrev done : Moment
done = steps first g 13 woken

woken_by_rounds : Goes first g opened woken
woken_by_rounds = steps_go first g (omega arith) 9 opened opened Stands

goes_on_by_rounds : Goes first g woken done
goes_on_by_rounds = steps_go first g (omega arith) 13 woken woken Stands

-- its events, the rounds 0 to 3, and those to 7
abbrev events_to_woken : List Event
events_to_woken = Wake 1 ∷ Take 2 0 ∷ Take 1 0 ∷ Take 1 0 ∷ Take 2 0 ∷ Take 3 1 ∷ []

abbrev events_to_done : List Event
events_to_done =
    Wake 1 ∷ Take 2 0 ∷ Take 1 0 ∷ Take 1 0 ∷ Take 2 0 ∷ Take 3 1 ∷
    Take 2 1 ∷ Take 3 0 ∷ Take 3 0 ∷ Take 3 0 ∷ Take 3 1 ∷ Take 1 1 ∷ Take 2 1 ∷ Take 2 1 ∷ Take 1 0 ∷ []

its_rounds : (woken.round ≡ 3) × (woken.events ≡ events_to_woken) × (done.round ≡ 7) × (done.events ≡ events_to_done)
unfolding net_after ports_of
its_rounds = (refl, refl, refl, refl)

all_are_awake : (v : ℕ) → 1 ≤ v → v ≤ 3 → ((net_after g events_to_woken).node v).head.phase ≢ Sleeping
unfolding net_after ports_of
all_are_awake zero lo hi = absurd (omega (arith, lo))
all_are_awake (suc zero) lo hi = λ e. cc
all_are_awake (suc (suc zero)) lo hi = λ e. cc
all_are_awake (suc (suc (suc zero))) lo hi = λ e. cc
all_are_awake (suc (suc (suc (suc v)))) lo hi = absurd (omega (arith, hi))

done_halted : ((net_after g events_to_done).node 1).head.halted ≡ true
unfolding net_after ports_of
done_halted = refl

done_ended : HasEnded g (net_after g events_to_done)
done_ended v lo hi = (1, omega arith, omega arith, joined v lo hi, done_halted)

done_within : 7 ≤ 3 + (3 * (3 * 1) + 2 * (1 * 1))
done_within = omega arith
