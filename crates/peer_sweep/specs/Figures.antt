-- The figures of a run of any protocol.
use Rattle.std.specs.Prelude.{◌≡◌, ℕ, ◌<◌, ◌≤◌, ◌^◌, ◌↔◌, true, false, Bool, List, Option, Some, None, length, slice_index}
use Rattle.ghs_graph.specs.declared.key.Key.{Key}
use Rattle.ghs_graph.specs.Graph.{Shape}
use Rattle.ghs_graph.specs.Links.{total_weight}
use Rattle.peer_network.specs.declared.event.Event.{Event}
use Rattle.peer_network.specs.Network.{network_of}
use Rattle.peer_lengths.specs.Lengths.{AreLengths}
use Rattle.peer_machine.specs.Branches.{AreBranches}
use Rattle.peer_machine.specs.Ledger.{in_all, waiting}
use Rattle.peer_machine.specs.Net.{Net}
use Rattle.peer_machine.specs.Rules.{Rules}
use Rattle.peer_machine.specs.Run.{net_after}
use Rattle.peer_sweep.specs.declared.figures.Figures.{Figures}

-- a weight, if there is one, that leaves room for the sum of many
abbrev pub IsSmall : Option ℕ → Type 0
IsSmall None = Unit {0}
IsSmall (Some n) = n < 2 ^ 96

-- the weight and the bits leave room for the sums of many
pub record LeavesRoom (f : Figures) : Type 0 where
  pub weight : IsSmall f.weight
  pub bits : f.lengths.bits < 2 ^ 96

-- the rules of a protocol, its bound on messages, the marks of links, and when a run has ended
module _ {S M : Type 0} (r : Rules S M) where
  -- the messages: how many were sent, of all kinds and of each, were put back, and wait; and the bound that they keep to
  pub record AreMessages (most : ℕ) (g : Shape) (w : Net S M) (f : Figures) : Type 0 where
    pub sent : f.sent ≡ in_all r w.sent
    pub kinds : (k : ℕ) → k < 8 → k < r.kinds → slice_index f.kinds k ≡ w.sent k
    pub requeued : f.requeued ≡ w.deferred
    pub queued : f.queued ≡ waiting (network_of g) w
    pub bound : f.bound ≡ most
    pub within : f.sent ≤ f.bound

  -- what is counted of the net after some events, and how long the run of these events is
  pub record AreCounts (bound : Shape → ℕ) (g : Shape) (es : List Event) (f : Figures) : Type 0 where
    pub nodes : f.nodes ≡ g.nodes
    pub links : f.links ≡ length g.keys
    pub events : f.events ≡ length es
    pub messages : AreMessages (bound g) g (net_after r g es) f
    pub level : f.level ≡ None
    pub fragments : f.fragments ≡ None
    pub weight : f.weight ≡ None
    pub ended : f.ended ≡ false
    pub lengths : AreLengths r g es f.lengths
    pub room : LeavesRoom f

  -- the weight of the links that are marked as branches
  pub record IsWeight (is_branch : S → ℕ → Bool) (g : Shape) (w : Net S M) (weight : Option ℕ) : Type 0 where
    pub branches : List Key
    pub all : AreBranches is_branch (network_of g) w branches
    pub sum : weight ≡ Some (total_weight branches)

  -- the figures of the net after some events, and how long the run of these events is; it is told of no levels and fragments
  pub record AreFigures (bound : Shape → ℕ) (is_branch : S → ℕ → Bool) (has_ended : Shape → Net S M → Type 0) (g : Shape) (es : List Event)
      (f : Figures) : Type 0 where
    pub nodes : f.nodes ≡ g.nodes
    pub links : f.links ≡ length g.keys
    pub events : f.events ≡ length es
    pub messages : AreMessages (bound g) g (net_after r g es) f
    pub level : f.level ≡ None
    pub fragments : f.fragments ≡ None
    pub weight : IsWeight is_branch g (net_after r g es) f.weight
    pub ended : (f.ended ≡ true) ↔ has_ended g (net_after r g es)
    pub lengths : AreLengths r g es f.lengths
    pub room : LeavesRoom f
