-- The premises of the laws on progress hold of a real net, and their "at most one" can't be less: here the first message of each queue waits.
use Rattle.std.proofs.Common.{◌≡◌, ℕ, zero, suc, ◌<◌, true, None, List, [], ◌∷◌, refl, arith}
use Rattle.ghs_graph.specs.declared.key.Key.{Key}
use Rattle.ghs_graph.specs.Graph.{Shape}
use Rattle.ghs_graph.specs.Links.{AreAmong, IsRising}
use Rattle.ghs_graph.specs.Ports.{ports_of}
use Rattle.ghs_node.specs.declared.message.Phase.TheVariants.{Find}
use Rattle.ghs_node.specs.declared.message.Message.TheVariants.{Initiate, Test, Report}
use Rattle.peer_network.specs.declared.event.Event.{Event}
use Rattle.peer_network.specs.declared.event.Event.TheVariants.{Wake, Take}
use Rattle.peer_network.specs.Network.{network_of, InNetwork}
use Rattle.ghs_protocol.specs.Run.{net_after}
use Rattle.ghs_protocol.specs.Marks.{HasHalted}
use Rattle.ghs_protocol.specs.Laws.{IsNetOf}
use Rattle.ghs_protocol.specs.Living.{Waits, Test_waits, Report_waits, Unended, IsRound, Now, Soon, Now_and_soon, Soon_twice}

abbrev light : Key
light = record { weight = 1; a = 1; b = 2 }

abbrev g : Shape
g = record { nodes = 3; keys = record { weight = 1; a = 1; b = 2 } ∷ record { weight = 2; a = 1; b = 3 } ∷ [] }

abbrev events : List Event
events = Wake 1 ∷ Wake 3 ∷ Take 2 0 ∷ Take 1 0 ∷ Take 1 0 ∷ Take 2 0 ∷ Take 1 1 ∷ []

among : AreAmong 3 g.keys
among zero d lt = (omega arith, omega arith, omega arith)
among (suc zero) d lt = (omega arith, omega arith, omega arith)
among (suc (suc k)) d lt = absurd (omega (arith, lt))

rising : IsRising g.keys
rising zero zero d lt l = absurd (omega (arith, lt))
rising zero (suc zero) d lt l = refl
rising zero (suc (suc k)) d lt l = absurd (omega (arith, l))
rising (suc i) zero d lt l = absurd (omega (arith, lt))
rising (suc i) (suc zero) d lt l = absurd (omega (arith, lt))
rising (suc i) (suc (suc k)) d lt l = absurd (omega (arith, l))

is_net : IsNetOf g (net_after g events)
unfolding net_after ports_of
is_net = record {
  graph = record { some = omega arith; nodes = omega arith; links = omega arith; among = among; rising = rising };
  events = events;
  run = refl;
}

none_halted : (v : ℕ) → InNetwork (network_of g) v → HasHalted (net_after g events) v → ⊥
unfolding net_after ports_of
none_halted zero is h = absurd (let lo = is.some in omega (arith, lo))
none_halted (suc zero) is h = cc
none_halted (suc (suc zero)) is h = cc
none_halted (suc (suc (suc zero))) is h = cc
none_halted (suc (suc (suc (suc v)))) is h = absurd (let hi = is.node in omega (arith, hi))

awake : ((net_after g events).node 1).head.phase ≡ Find
unfolding net_after ports_of
awake = refl

unended : Unended (network_of g) (net_after g events) (λ v. true)
unended = record {
  closed = λ v p at e. refl;
  node = 1;
  is = record { some = omega arith; node = omega arith };
  member = refl;
  awake = λ e. let z = awake in cc;
  none_halted = λ v is e h. none_halted v is h;
}

-- all that waits
queues :
    ((net_after g events).queue 1 0 ≡ Report None ∷ []) × ((net_after g events).queue 1 1 ≡ []) × ((net_after g events).queue 2 0 ≡ []) ×
    ((net_after g events).queue 3 0 ≡ Test 1 light ∷ Initiate 1 light Find ∷ [])
unfolding net_after ports_of
queues = (refl, refl, refl, refl)

firsts_wait : Waits ((net_after g events).node 1) 0 (Report None) × Waits ((net_after g events).node 3) 0 (Test 1 light)
unfolding net_after ports_of
firsts_wait = (Report_waits refl refl, Test_waits (λ e. cc) (omega arith))

-- a round
abbrev round : List Event
round = Take 1 0 ∷ Take 1 1 ∷ Take 2 0 ∷ Wake 2 ∷ Take 3 0 ∷ Take 3 0 ∷ Take 1 1 ∷ Take 2 0 ∷ Take 1 0 ∷ []

is_round : IsRound (network_of g) round
unfolding ports_of
is_round zero p at = absurd (let lo = at.some in omega (arith, lo))
is_round (suc zero) zero at = Now_and_soon (Soon (Soon (Soon (Soon (Soon (Soon (Soon Now)))))))
is_round (suc zero) (suc zero) at = Soon_twice (Now_and_soon (Soon (Soon (Soon (Soon Now)))))
is_round (suc zero) (suc (suc p)) at = absurd (let lt : suc (suc p) < 2 = at.port in omega (arith, lt))
is_round (suc (suc zero)) zero at = Soon_twice (Soon_twice (Now_and_soon (Soon (Soon (Soon (Soon Now))))))
is_round (suc (suc zero)) (suc p) at = absurd (let lt : suc p < 1 = at.port in omega (arith, lt))
is_round (suc (suc (suc zero))) zero at = Soon_twice (Soon_twice (Soon_twice (Soon_twice (Now_and_soon Now))))
is_round (suc (suc (suc zero))) (suc p) at = absurd (let lt : suc p < 1 = at.port in omega (arith, lt))
is_round (suc (suc (suc (suc v)))) p at = absurd (let hi = at.node in omega (arith, hi))
