-- The premises of the laws on fairness hold of a real course: the triangle, whose events come lap by lap until nothing waits, and then nothing more.
use Rattle.std.proofs.Common.{◌≡◌, ◌≢◌, ℕ, zero, suc, ◌<◌, ◌≤◌, Bool, true, Option, Some, List, [], ◌∷◌, refl, sym, ◌∙◌, ap, arith}
use Rattle.ghs_graph.specs.declared.key.Key.{Key}
use Rattle.ghs_graph.specs.Graph.{Shape, IsGraph}
use Rattle.ghs_graph.specs.Links.{AreAmong, IsRising, Joined, Same, Back, links}
use Rattle.ghs_graph.specs.Ports.{ports_of}
use Rattle.ghs_graph.proofs.lemmas.Members.{first_in, later_in}
use Rattle.ghs_node.specs.declared.message.Phase.TheVariants.{Sleeping}
use Rattle.peer_network.specs.declared.event.Event.{Event}
use Rattle.peer_network.specs.declared.event.Event.TheVariants.{Wake, Take}
use Rattle.peer_network.specs.Network.{network_of, At}
use Rattle.peer_network.specs.Wakes.{AllMayWake}
use Rattle.ghs_protocol.specs.Fairness.{ComesToRest, IsCourse, IsWeaklyFair, WakesAll}
use Rattle.ghs_protocol.specs.Laws.{IsNetOf}
use Rattle.ghs_protocol.specs.Marks.{HasEnded}
use Rattle.ghs_protocol.specs.Net.{Net, opening}
use Rattle.ghs_protocol.specs.Run.{net_after, run}
use Rattle.ghs_protocol.proofs.progress.FairCourses.{Quiet, at_moments, comes_last, is_course, is_fair, nets, wakes_all}

abbrev light : Key
light = record { weight = 1; a = 1; b = 2 }

abbrev middle : Key
middle = record { weight = 2; a = 2; b = 3 }

abbrev heavy : Key
heavy = record { weight = 3; a = 1; b = 3 }

abbrev g : Shape
g = record { nodes = 3; keys = light ∷ middle ∷ heavy ∷ [] }

among : AreAmong 3 g.keys
among zero d lt = (omega arith, omega arith, omega arith)
among (suc zero) d lt = (omega arith, omega arith, omega arith)
among (suc (suc zero)) d lt = (omega arith, omega arith, omega arith)
among (suc (suc (suc k))) d lt = absurd (omega (arith, lt))

rising : IsRising g.keys
rising zero zero d lt l = absurd (omega (arith, lt))
rising zero (suc zero) d lt l = refl
rising zero (suc (suc zero)) d lt l = refl
rising zero (suc (suc (suc k))) d lt l = absurd (omega (arith, l))
rising (suc zero) zero d lt l = absurd (omega (arith, lt))
rising (suc zero) (suc zero) d lt l = absurd (omega (arith, lt))
rising (suc zero) (suc (suc zero)) d lt l = refl
rising (suc zero) (suc (suc (suc k))) d lt l = absurd (omega (arith, l))
rising (suc (suc i)) zero d lt l = absurd (omega (arith, lt))
rising (suc (suc i)) (suc zero) d lt l = absurd (omega (arith, lt))
rising (suc (suc i)) (suc (suc zero)) d lt l = absurd (omega (arith, lt))
rising (suc (suc i)) (suc (suc (suc k))) d lt l = absurd (omega (arith, l))

graph : IsGraph g
graph = record { some = omega arith; nodes = omega arith; links = omega arith; among = among; rising = rising }

-- all wake; then each lap takes once from each queue in which a message waits when it begins, or comes to wait before its place
abbrev events : List Event
events =
    Wake 1 ∷ Wake 2 ∷ Wake 3 ∷
    Take 1 0 ∷ Take 2 0 ∷ Take 2 1 ∷
    Take 1 0 ∷ Take 2 0 ∷ Take 2 1 ∷ Take 3 0 ∷ Take 3 1 ∷
    Take 3 0 ∷ Take 3 1 ∷
    Take 1 1 ∷ Take 2 0 ∷ Take 2 1 ∷ Take 3 0 ∷
    Take 2 0 ∷ Take 2 1 ∷
    Take 1 0 ∷ Take 2 0 ∷ []

abbrev start : Net
start = opening (network_of g)

abbrev last : Net
last = net_after g events

start_is : IsNetOf g start
start_is = record { graph = graph; events = []; run = refl }

leads : run (network_of g) events start ≡ Some last
unfolding net_after ports_of
leads = refl

-- then nothing waits
silent : (v p : ℕ) → At (network_of g) v p → last.queue v p ≡ []
unfolding net_after ports_of
silent zero p at = absurd (let lo = at.some in omega (arith, lo))
silent (suc zero) zero at = refl
silent (suc zero) (suc zero) at = refl
silent (suc zero) (suc (suc p)) at = absurd (let lt : suc (suc p) < 2 = at.port in omega (arith, lt))
silent (suc (suc zero)) zero at = refl
silent (suc (suc zero)) (suc zero) at = refl
silent (suc (suc zero)) (suc (suc p)) at = absurd (let lt : suc (suc p) < 2 = at.port in omega (arith, lt))
silent (suc (suc (suc zero))) zero at = refl
silent (suc (suc (suc zero))) (suc zero) at = refl
silent (suc (suc (suc zero))) (suc (suc p)) at = absurd (let lt : suc (suc p) < 2 = at.port in omega (arith, lt))
silent (suc (suc (suc (suc v)))) p at = absurd (let hi = at.node in omega (arith, hi))

awake : (v : ℕ) → 1 ≤ v → v ≤ 3 → (last.node v).head.phase ≢ Sleeping
unfolding net_after ports_of
awake zero lo hi e = absurd (omega (arith, lo))
awake (suc zero) lo hi e = cc
awake (suc (suc zero)) lo hi e = cc
awake (suc (suc (suc zero))) lo hi e = cc
awake (suc (suc (suc (suc v)))) lo hi e = absurd (omega (arith, hi))

-- and the run has ended: node 1 has halted
halted : (last.node 1).head.halted ≡ true
unfolding net_after ports_of
halted = refl

joined : (v : ℕ) → 1 ≤ v → v ≤ 3 → Joined (links g.keys) v 1
joined zero lo hi = absurd (omega (arith, lo))
joined (suc zero) lo hi = Same
joined (suc (suc zero)) lo hi = Back light (first_in light (middle ∷ heavy ∷ [])) Same
joined (suc (suc (suc zero))) lo hi =
    Back heavy (later_in light heavy (middle ∷ heavy ∷ []) (later_in middle heavy (heavy ∷ []) (first_in heavy []))) Same
joined (suc (suc (suc (suc v)))) lo hi = absurd (omega (arith, hi))

ended : HasEnded g last
ended v lo hi = (1, omega arith, omega arith, joined v lo hi, halted)

-- all may wake
abbrev may : ℕ → Bool
may v = true

may_wake : AllMayWake may g
may_wake v lo hi = (v, lo, hi, Same, refl)

-- So it is a fair course, in which all wake, and it comes to rest.
abbrev net : ℕ → Net
net i = nets (network_of g) events start i

abbrev event : ℕ → Option Event
event i = at_moments events i

run_on : Quiet g may start
run_on = record { events_on = events; next = last; leads = leads; silent = silent; awake = λ v lo hi can. awake v lo hi }

is_a_course : IsCourse (network_of g) net event
unfolding run_on
is_a_course = is_course g may start run_on

is_a_fair_one : IsWeaklyFair (network_of g) net event
unfolding run_on
is_a_fair_one = is_fair g may start run_on

all_wake : WakesAll may g net
unfolding run_on
all_wake = wakes_all g may start run_on

rests : ComesToRest g net
unfolding run_on
rests = record {
  moment = 21;
  ended = rw (end 21 (omega arith)) ended;
  silent = λ v p at. ap (λ (w : Net). w.queue v p) (end 21 (omega arith)) ∙ silent v p at;
  still = λ i le. end i le ∙ sym (end 21 (omega arith));
}
  where
    end : (i : ℕ) → 21 ≤ i → net i ≡ last
    end i le = comes_last g may start run_on i (omega (arith, le))
