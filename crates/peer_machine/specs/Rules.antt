-- The rules of a protocol: what one node does, for any type S of a node's states and any type M of messages.
use Rattle.std.specs.Prelude.{◌≡◌, ℕ, ◌<◌, Bool, false, Option, List, map}
use Rattle.ghs_graph.specs.declared.port.Port.{Port}
use Rattle.ghs_graph.specs.Graph.{Shape}
use Rattle.peer_machine.specs.declared.work.Work.{Work}

-- messages that go out, each with its port, in the order of sending
abbrev pub Outgoing : Type 0 → Type 0
Outgoing M = List (ℕ × M)

-- the messages without their ports
abbrev pub messages : {M : Type 0} → Outgoing M → List M
messages {M} ss = map (λ (s : ℕ × M). s.1) ss

-- what a reaction leads to: the node's state behind it, and what goes out
pub record Outcome (S M : Type 0) : Type 0 where
  pub state : S
  pub sends : Outgoing M

-- A node's state at the opening, by its number and its ports; whether it sleeps, and whether it has halted; its reaction to a wake or to a message
-- at a port, none where no rule is; whether it defers that message, so that it goes to the end of its queue; how many kinds of messages there are,
-- the kind of each, and its length in bits by the graph.
pub record Rules (S M : Type 0) : Type 0 where
  pub opening : ℕ → List Port → S
  pub is_asleep : S → Bool
  pub has_halted : S → Bool
  pub reaction : S → Work M → Option (Outcome S M)
  pub defers : S → Work M → Bool
  pub kinds : ℕ
  pub kind_of : M → ℕ
  pub bits : Shape → M → ℕ

-- each message is of one of the kinds
abbrev pub HasKinds : {S M : Type 0} → Rules S M → Type 0
HasKinds {S} {M} r = (m : M) → r.kind_of m < r.kinds

-- no message is ever deferred
abbrev pub NeverDefers : {S M : Type 0} → Rules S M → Type 0
NeverDefers {S} {M} r = (n : S) (k : Work M) → r.defers n k ≡ false
