-- What each level of a node pays for, and each port, counted over the events of a run.
use Rattle.std.specs.Prelude.{◌≡◌, ℕ, suc, ◌+◌, ◌-◌, ◌≤◌, ◌<◌, Bool, true, false, not, ◌&&◌, ◌==◌, Option, Some, None, List, [], ◌∷◌, length, if◌then◌else◌}
use Rattle.ghs_node.specs.declared.message.Message.{Message}
use Rattle.ghs_node.specs.declared.message.Message.TheVariants.{Accept, Initiate}
use Rattle.ghs_node.specs.Words.{is_at}
use Rattle.peer_network.specs.declared.event.Event.{Event}
use Rattle.peer_network.specs.declared.event.Event.TheVariants.{Wake, Take}
use Rattle.peer_network.specs.Network.{Network}
use Rattle.ghs_protocol.specs.Net.{Net, opening, happens}
use Rattle.peer_network.specs.Events.{event_node}
use Rattle.ghs_protocol.specs.Ledger.{of_kind, waiting_of}
use Rattle.peer_network.specs.Sums.{sum_below, sum_over_nodes, sum_over_ports}

-- by how much a count rises where the event is one of node v that leaves it at level l
abbrev pub risen : (Net → ℕ) → ℕ → ℕ → Net → Event → Net → ℕ
risen m v l w e x = if (event_node e == v) && ((x.node v).head.level == l) then m x - m w else 0

abbrev pub then_count : Option Net → (Net → ℕ) → ℕ
then_count None f = 0
then_count (Some w) f = f w

-- what is paid in each event, added up
abbrev pub added_up : (Net → Event → Net → ℕ) → Network → List Event → Net → ℕ
added_up f g [] w = 0
added_up f g (e ∷ es) w = then_count (happens g w e) (λ x. f w e x + added_up f g es x)

-- by how much a count rises over all events of node v that leave it at level l
abbrev pub paid_by : (Net → ℕ) → Network → ℕ → ℕ → List Event → Net → ℕ
paid_by m g v l es w = added_up (risen m v l) g es w

-- something else than an Accept comes first
abbrev pub no_accept_first : List Message → Bool
no_accept_first [] = false
no_accept_first (Accept ∷ ms) = false
no_accept_first (_ ∷ ms) = true

-- 1 where a Test of v's on port p has ended, and not by an Accept
abbrev pub failed : ℕ → ℕ → Net → Net → ℕ
failed v p w x = if is_at (w.node v).head.probe p && (not (is_at (x.node v).head.probe p) && no_accept_first (w.queue v p)) then 1 else 0

-- what port p of node v pays in an event: for the Reject with which v answers there, and for its Test there that has failed
abbrev pub port_pays : ℕ → ℕ → Net → Event → Net → ℕ
port_pays v p w (Wake u) x = 0
port_pays v p w (Take u q) x = if (u == v) && (q == p) then (x.sent 4 - w.sent 4) + failed v p w x else 0

-- Connects and ChangeRoots sent, Reports sent, Initiates taken, Accepts taken
abbrev pub roots : Net → ℕ
roots w = w.sent 0 + w.sent 6

abbrev pub reports : Net → ℕ
reports w = w.sent 5

abbrev pub calls : Net → ℕ
calls w = w.consumed 1

abbrev pub accepts : Net → ℕ
accepts w = w.consumed 3

-- how many Initiates of level l there are among messages
abbrev pub calls_at : ℕ → List Message → ℕ
calls_at l [] = 0
calls_at l (Initiate k f s ∷ ms) = (if k == l then 1 else 0) + calls_at l ms
calls_at l (_ ∷ ms) = calls_at l ms

-- the Initiates of level l, and the Accepts, that wait at node v
abbrev pub calls_waiting : Network → Net → ℕ → ℕ → ℕ
calls_waiting g w v l = sum_below (length (g.ports v)) (λ p. calls_at l (w.queue v p))

abbrev pub accepts_waiting : Network → Net → ℕ → ℕ
accepts_waiting g w v = sum_below (length (g.ports v)) (λ p. of_kind 3 (w.queue v p))

-- what all levels up to k of all nodes have paid of a count
abbrev pub paid_by_levels : (Net → ℕ) → Network → ℕ → List Event → Net → ℕ
paid_by_levels m g k es w = sum_over_nodes g (λ v. sum_below (suc k) (λ l. paid_by m g v l es w))

-- what all ports have paid
abbrev pub paid_by_ports : Network → List Event → Net → ℕ
paid_by_ports g es w = sum_over_ports g (λ v p. added_up (port_pays v p) g es w)

-- 1 where a port is probed
abbrev pub testing : Option ℕ → ℕ
testing None = 0
testing (Some p) = 1

-- how many Tests have no end yet
abbrev pub tests_out : Network → Net → ℕ
tests_out g w = sum_over_nodes g (λ v. testing (w.node v).head.probe)

-- What was sent in these events, which lead to net w, is what was paid and no more; k is the highest level.
pub record AllIsPaid (g : Network) (k : ℕ) (es : List Event) (w : Net) : Type 0 where
  pub root : w.sent 0 + w.sent 6 ≡ paid_by_levels roots g k es (opening g)
  pub report : w.sent 5 ≡ paid_by_levels reports g k es (opening g)
  pub call : w.sent 1 ≡ paid_by_levels calls g k es (opening g) + waiting_of g w 1
  pub accept : w.sent 3 ≡ paid_by_levels accepts g k es (opening g) + waiting_of g w 3
  -- each Test was accepted, or has no end yet, or failed; for those that failed ports pay, and for Rejects
  pub test : w.sent 2 + w.sent 4 ≡ paid_by_levels accepts g k es (opening g) + tests_out g w + paid_by_ports g es (opening g)

-- What node v has paid at level l in these events, which lead to net w; k is the highest level.
pub record LevelPays (g : Network) (k : ℕ) (es : List Event) (w : Net) (v l : ℕ) : Type 0 where
  -- a level pays for one message of each sort at most: a Connect or ChangeRoot that v sends, a Report that it sends,
  -- an Initiate that it has taken or that waits, an Accept that it has taken or that waits
  pub root : paid_by roots g v l es (opening g) ≤ 1
  pub report : paid_by reports g v l es (opening g) ≤ 1
  pub call : paid_by calls g v l es (opening g) + calls_waiting g w v l ≤ 1
  pub accept : paid_by accepts g v l es (opening g) ≤ 1
  pub accept_now : l ≡ (w.node v).head.level → paid_by accepts g v l es (opening g) + accepts_waiting g w v ≤ 1
  -- while a port is probed, its level has had no Accept
  pub probe : l ≡ (w.node v).head.level → (p : ℕ) → (w.node v).head.probe ≡ Some p → paid_by accepts g v l es (opening g) ≡ 0
  -- level 0 pays for a Connect alone
  pub at_zero :
      l ≡ 0 →
      (paid_by reports g v l es (opening g) ≡ 0) × (paid_by calls g v l es (opening g) + calls_waiting g w v l ≡ 0) ×
      (paid_by accepts g v l es (opening g) ≡ 0)
  -- the highest level pays for an Initiate and a Report alone, and no level is above it
  pub at_top : k ≤ l → (paid_by roots g v l es (opening g) ≡ 0) × (paid_by accepts g v l es (opening g) ≡ 0)
  pub above : k < l → (paid_by reports g v l es (opening g) ≡ 0) × (paid_by calls g v l es (opening g) + calls_waiting g w v l ≡ 0)
