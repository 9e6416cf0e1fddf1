-- The text of a run's time.
use Rattle.std.specs.Prelude.{◌≡◌, ℕ, Option, Some, None, List, [], ◌++◌, codes, decimal}
use Rattle.ghs_graph.specs.Graph.{Shape}
use Rattle.peer_network.specs.declared.event.Event.{Event}
use Rattle.peer_network.specs.declared.wake_set.WakeSet.{WakeSet}
use Rattle.ghs_picking.specs.Lengths.{lengths_of}
use Rattle.ghs_picking.specs.RoundBound.{IsRoundBound}
use Rattle.ghs_picking.specs.declared.laps.LapCount.{LapCount}
use Rattle.ghs_picking.specs.declared.lengths.RunLengths.{RunLengths}
use Rattle.ghs_picking.specs.declared.time.RoundCount.{RoundCount}

-- `l CHAIN`: how many messages the longest chain has
unfoldable pub chain_line : ℕ → List ℕ
chain_line chain = codes "l " ++ decimal chain ++ codes "\n"

-- `u ROUNDS BOUND`: in how many rounds, each a unit of time, a run by rounds went, and the bound on them
unfoldable pub rounds_line : RoundCount → List ℕ
rounds_line count = codes "u " ++ decimal count.rounds ++ codes " " ++ decimal count.bound ++ codes "\n"

-- `r LAPS BOUND`: in how many laps a run by round robin went, and the bound on them
unfoldable pub laps_line : LapCount → List ℕ
laps_line count = codes "r " ++ decimal count.laps ++ codes " " ++ decimal count.bound ++ codes "\n"

-- `b BITS LONGEST`: how many bits the messages that were sent have, each counted once, and how many the longest has
unfoldable pub bits_line : ℕ → ℕ → List ℕ
bits_line bits longest = codes "b " ++ decimal bits ++ codes " " ++ decimal longest ++ codes "\n"

-- no line, where the run goes by no rounds
abbrev pub rounds_lines : Option RoundCount → List ℕ
rounds_lines None = []
rounds_lines (Some count) = rounds_line count

-- nor one of laps, where it doesn't go by round robin
abbrev pub laps_lines : Option LapCount → List ℕ
laps_lines None = []
laps_lines (Some count) = laps_line count

-- all lines
abbrev pub time_text : RunLengths → Option RoundCount → Option LapCount → List ℕ
time_text lengths count laps = chain_line lengths.chain ++ rounds_lines count ++ laps_lines laps ++ bits_line lengths.bits lengths.longest

-- rounds, where there are any, with the bound on those of the graph under the wake set
abbrev pub AreCounted : WakeSet → Shape → Option ℕ → Option RoundCount → Type 0
AreCounted wake g None count = count ≡ None
AreCounted wake g (Some rounds) count = (bound : ℕ) × IsRoundBound wake g bound × (count ≡ Some (record { rounds = rounds; bound = bound }))

-- the text of a run's time, where it goes in so many rounds or laps
abbrev pub IsTimeText : WakeSet → Shape → List Event → Option ℕ → Option LapCount → List ℕ → Type 0
IsTimeText wake g events rounds laps text =
    (count : Option RoundCount) × AreCounted wake g rounds count × (text ≡ time_text (lengths_of g events) count laps)
