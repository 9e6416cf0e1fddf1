-- The text of the time of a run by any protocol.
use Rattle.std.specs.Prelude.{ℕ, ◌++◌, List, [], codes, decimal}
use Rattle.ghs_choices.specs.declared.schedule_kind.ScheduleKind.{ScheduleKind}
use Rattle.ghs_choices.specs.declared.schedule_kind.ScheduleKind.TheVariants.{Lifo, Patient, RoundRobin, Rounds, Seeded, Waits}
use Rattle.ghs_graph.specs.Graph.{Shape}
use Rattle.ghs_picking.specs.Time.{bits_line, chain_line}
use Rattle.ghs_picking.specs.declared.lengths.RunLengths.{RunLengths}
use Rattle.peer_network.specs.declared.event.Event.{Event}
use Rattle.peer_network.specs.Network.{network_of}
use Rattle.peer_lengths.specs.Chain.{longest_chain}
use Rattle.peer_lengths.specs.Sends.{bits_sent, longest_sent}
use Rattle.peer_machine.specs.Rules.{Rules}

-- a line of rounds without a bound
unfoldable pub rounds_line : ℕ → List ℕ
rounds_line rounds = codes "u " ++ decimal rounds ++ codes "\n"

-- `u ROUNDS`: by rounds a run that has ended has as many rounds as its longest chain has messages. By other schedules there is no line
abbrev pub rounds_lines : ScheduleKind → ℕ → List ℕ
rounds_lines Seeded rounds = []
rounds_lines Patient rounds = []
rounds_lines Rounds rounds = rounds_line rounds
rounds_lines Waits rounds = []
rounds_lines Lifo rounds = []
rounds_lines RoundRobin rounds = []

-- the rules of a protocol
module _ {S M : Type 0} (r : Rules S M) where
  -- how long a run is: its longest chain, in messages; and in bits all that it sends together, and the longest message
  abbrev pub lengths_of : Shape → List Event → RunLengths
  lengths_of g events = record {
    chain = longest_chain r (network_of g) events;
    bits = bits_sent r g events;
    longest = longest_sent r g events;
  }

  -- the text of the time of a run that has ended: its longest chain, by rounds these, and its bits
  abbrev pub timed_text : ScheduleKind → Shape → List Event → List ℕ
  timed_text kind g events =
      let lengths = lengths_of g events in
      chain_line lengths.chain ++ rounds_lines kind lengths.chain ++ bits_line lengths.bits lengths.longest
