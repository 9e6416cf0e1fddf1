-- What is measured of each run of a sweep.
use Rattle.std.specs.Prelude.{◌≡◌, ℕ, nat_lt, true, List, Option, Some, None, slice_index, if◌then◌else◌}
use Rattle.ghs_graph.specs.Graph.{Shape}
use Rattle.peer_sweep.specs.declared.figures.Figures.{Figures}
use Rattle.peer_sweep.specs.declared.measure.Measure.{Measure}
use Rattle.peer_sweep.specs.declared.measure.Measure.TheVariants.{Events, Sent, Kind, Requeued, Queued, Bound, Level, Fragments, Weight, Halted, Chain, Bits, Longest}
use Rattle.peer_sweep.specs.declared.setup.Setup.{Setup}
use Rattle.peer_sweep.specs.About.{About}

-- the messages of a kind; nothing where there is no such kind
abbrev pub count_of : List ℕ → Option ℕ → Option ℕ
count_of counts None = None
count_of counts (Some k) = if nat_lt k 8 then Some (slice_index counts k) else None

-- its value for a run, if the run has it: a run that has ended is halted once
abbrev pub value_of : Measure → Figures → Option ℕ
value_of Events f = Some f.events
value_of Sent f = Some f.sent
value_of (Kind k) f = count_of f.kinds k
value_of Requeued f = Some f.requeued
value_of Queued f = Some f.queued
value_of Bound f = Some f.bound
value_of Level f = f.level
value_of Fragments f = f.fragments
value_of Weight f = f.weight
value_of Halted f = Some (if f.ended then 1 else 0)
value_of Chain f = Some f.lengths.chain
value_of Bits f = Some f.lengths.bits
value_of Longest f = Some f.lengths.longest

-- Each measure that a protocol's lines call fixed has one value in any two runs of a graph that have ended. are g setup seed f says that
-- f are the figures of the seed's run.
abbrev pub FixedMeasuresAgree : (Shape → Setup → ℕ → Figures → Type 0) → About → Type 0
FixedMeasuresAgree are p =
    (g : Shape) (s s' : Setup) (seed seed' : ℕ) (f f' : Figures) (m : Measure) → are g s seed f → are g s' seed' f' → f.ended ≡ true →
    f'.ended ≡ true → p.is_fixed m ≡ true → value_of m f ≡ value_of m f'
