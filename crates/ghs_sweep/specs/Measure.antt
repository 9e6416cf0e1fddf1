-- What of GHS's runs is the graph's.
use Rattle.std.specs.Prelude.{◌≡◌, ℕ, Bool, true, false, List, Option, Some, None, codes, if◌then◌else◌, ◌==◌}
use Rattle.ghs_graph.specs.Graph.{Shape, IsGraph}
use Rattle.peer_network.specs.declared.event.Event.{Event}
use Rattle.peer_network.specs.Network.{network_of}
use Rattle.ghs_protocol.specs.Run.{IsRun}
use Rattle.peer_sweep.specs.declared.figures.Figures.{Figures}
use Rattle.peer_sweep.specs.declared.measure.Measure.{Measure}
use Rattle.peer_sweep.specs.declared.measure.Measure.TheVariants as measure
use Rattle.peer_sweep.specs.About.{About}
use Rattle.peer_sweep.specs.Measure.{value_of}
use Rattle.ghs_sweep.specs.Figures.{AreFigures}

-- the name of a kind of messages, by its number
abbrev pub kind_word : ℕ → List ℕ
kind_word k =
    if k == 0
    then codes "connect"
    else (if k == 1
    then codes "initiate"
    else (if k == 2
    then codes "test"
    else (if k == 3
    then codes "accept"
    else (if k == 4
    then codes "reject"
    else (if k == 5
    then codes "report"
    else codes "changeroot")))))

-- the kind of Connect
abbrev pub is_connect : Option ℕ → Bool
is_connect None = false
is_connect (Some k) = k == 0

-- it is the graph's: each run that has ended has it
abbrev pub is_fixed : Measure → Bool
is_fixed (measure.Kind k) = is_connect k
is_fixed measure.Bound = true
is_fixed measure.Level = true
is_fixed measure.Fragments = true
is_fixed measure.Weight = true
is_fixed measure.Events = false
is_fixed measure.Sent = false
is_fixed measure.Requeued = false
is_fixed measure.Queued = false
is_fixed measure.Halted = false
is_fixed measure.Chain = false
is_fixed measure.Bits = false
is_fixed measure.Longest = false

-- what the lines of GHS's runs tell of it
abbrev pub about_ghs : About
about_ghs = record { name = codes "ghs"; kinds = 7; kind = kind_word; is_fixed = is_fixed }

-- whatever the order of events and whoever wakes: in two runs of a graph that have ended each measure that is fixed has one value
abbrev pub FixedMeasuresAgree : Type 0
FixedMeasuresAgree =
    (g : Shape) (es fs : List Event) (f f' : Figures) (m : Measure) → IsGraph g → IsRun (network_of g) es → IsRun (network_of g) fs →
    AreFigures g es f → AreFigures g fs f' → f.ended ≡ true → f'.ended ≡ true → is_fixed m ≡ true → value_of m f ≡ value_of m f'
