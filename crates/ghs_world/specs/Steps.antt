-- Steps, and what a commit does.
use Rattle.std.specs.Prelude.{◌≡◌, ℕ, true, false, ◌+◌, ◌↔◌, List, [], ◌∷◌, ◌++◌, map, Some}
use Rattle.std.specs.List.{Contains}
use Rattle.std.specs.List.Sorted.{IsStrictlyIncreasing}
use Rattle.ghs_node.specs.declared.delta.Delta.{Delta}
use Rattle.ghs_node.specs.declared.message.Message.{Message}
use Rattle.ghs_node.specs.Words.{Outgoing}
use Rattle.peer_network.specs.declared.event.Event.{Event}
use Rattle.peer_network.specs.Network.{Network, far}
use Rattle.ghs_protocol.specs.Net.{happens}
use Rattle.ghs_core.specs.NetState.{network, event_node, IsAnswer, IsSameNet}
use Rattle.ghs_world.specs.declared.fault.CommitFault.{CommitFault}
use Rattle.ghs_world.specs.declared.fault.CommitFault.TheVariants as commits
use Rattle.ghs_world.specs.Tickets.{TicketState}
use Rattle.ghs_world.specs.Outs.{without}
use Rattle.ghs_world.specs.WorldState.{WorldState, home, IsUnknown, IsOut}
use Rattle.ghs_world.specs.Ready.{has_ready}

-- why a step isn't committed: the first that holds
abbrev pub RefusesStep : WorldState → TicketState → CommitFault → Type 0
RefusesStep s t commits.UnknownTicket = IsUnknown s t.number
RefusesStep s t commits.Altered = (IsUnknown s t.number → ⊥) × (IsOut s t → ⊥)
RefusesStep s t commits.Memory = IsOut s t

-- the home view makes exactly the event, and its ticket, of number n, is out no more
pub record Commits (old : WorldState) (n : ℕ) (e : Event) (new : WorldState) : Type 0 where
  pub graph : new.net.graph ≡ old.net.graph
  pub trace : new.net.trace ≡ old.net.trace ++ e ∷ []
  pub event : happens (network old.net) (home old) e ≡ Some (home new)
  pub wake : new.wake ≡ old.wake
  pub turns : new.turns ≡ old.turns
  pub outs : new.outs ≡ without n old.outs
  pub last : new.last ≡ old.last

-- the home view makes exactly the event, under the next number
pub record Makes (old : WorldState) (e : Event) (new : WorldState) : Type 0 where
  pub graph : new.net.graph ≡ old.net.graph
  pub trace : new.net.trace ≡ old.net.trace ++ e ∷ []
  pub event : happens (network old.net) (home old) e ≡ Some (home new)
  pub wake : new.wake ≡ old.wake
  pub turns : new.turns ≡ old.turns
  pub outs : new.outs ≡ old.outs
  pub last : new.last ≡ old.last + 1

-- the same world, and nowhere less room
pub record IsSameWorld (old new : WorldState) : Type 0 where
  pub net : IsSameNet old.net new.net
  pub wake : new.wake ≡ old.wake
  pub turns : new.turns ≡ old.turns
  pub outs : new.outs ≡ old.outs
  pub last : new.last ≡ old.last

-- the nodes that a reaction of node v touches: itself, and the far ends of what it sends
abbrev pub touched : Network → ℕ → Outgoing → List ℕ
touched g v ss = v ∷ map (λ (s : ℕ × Message). far g v s.0) ss

-- the same numbers, rising, each once
pub record HasEach (some us : List ℕ) : Type 0 where
  pub rising : IsStrictlyIncreasing us
  pub all : (u : ℕ) → Contains us u ↔ Contains some u

-- of some nodes those that may be checked out, rising, each once
pub record AreReadyOf (s : WorldState) (some us : List ℕ) : Type 0 where
  pub rising : IsStrictlyIncreasing us
  pub all : (u : ℕ) → Contains us u ↔ (Contains some u × (has_ready s u ≡ true))

-- of the event's node and the far ends of what its reaction sends those that may be checked out afterwards, rising, each once
abbrev pub HasRoused : WorldState → Event → WorldState → List ℕ → Type 0
HasRoused old e new us = (d : Delta) × IsAnswer old.net e d × AreReadyOf new (touched (network old.net) (event_node e) d.sends) us

-- each node that may be checked out now, and might not before, is among these
abbrev pub HasAllRoused : WorldState → WorldState → List ℕ → Type 0
HasAllRoused old new us = (u : ℕ) → has_ready new u ≡ true → has_ready old u ≡ false → Contains us u

-- every other ticket stays as it was
abbrev pub LeavesOthers : WorldState → ℕ → WorldState → Type 0
LeavesOthers old n new = (t : TicketState) → (t.number ≡ n → ⊥) → IsOut old t → IsOut new t
