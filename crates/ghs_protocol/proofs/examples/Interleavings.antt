-- Graphs of three to five nodes, whose events are taken in turn: after each event every fragment is large enough, and in the end there is one.
use Rattle.std.specs.Prelude.{◌≡◌, ℕ, zero, suc, ◌^◌, true, false, Bool, ◌&&◌, ◌||◌, ◌==◌, nat_le, Option, Some, None, List, [], ◌∷◌, ◌++◌, length, if◌then◌else◌, refl}
use Rattle.ghs_graph.specs.declared.key.Key.{Key}
use Rattle.ghs_graph.specs.Ports.{ports_of}
use Rattle.ghs_node.specs.Words.{is_branch}
use Rattle.ghs_node.specs.NodeState.{mark_at}
use Rattle.peer_network.specs.declared.event.Event.{Event}
use Rattle.peer_network.specs.declared.event.Event.TheVariants.{Wake, Take}
use Rattle.peer_network.specs.Network.{Network, network_of, far, far_port}
use Rattle.ghs_protocol.specs.Net.{Net, opening, happens}
use Rattle.ghs_protocol.specs.Ledger.{waiting}

abbrev key : ℕ → ℕ → ℕ → Key
key w a b = record { weight = w; a = a; b = b }

abbrev is_among : ℕ → List ℕ → Bool
is_among x [] = false
is_among x (y ∷ ys) = (x == y) || is_among x ys

-- the nodes, and those to which joined links lead from v's first n ports
abbrev with_joined : Network → Net → ℕ → ℕ → List ℕ → List ℕ
with_joined g w v zero us = us
with_joined g w v (suc n) us =
    if is_branch (mark_at (w.node v) n) &&
    (is_branch (mark_at (w.node (far g v n)) (far_port g v n)) && (if is_among (far g v n) us then false else true)) then far g v n ∷
    with_joined g w v n us else with_joined g w v n us

abbrev with_neighbours : Network → Net → List ℕ → List ℕ → List ℕ
with_neighbours g w [] us = us
with_neighbours g w (v ∷ vs) us = with_neighbours g w vs (with_joined g w v (length (g.ports v)) us)

-- the nodes that n joined links at most lead to
abbrev spread : Network → Net → ℕ → List ℕ → List ℕ
spread g w zero us = us
spread g w (suc n) us = spread g w n (with_neighbours g w us us)

abbrev size_of : Network → Net → ℕ → ℕ
size_of g w v = length (spread g w g.count (v ∷ []))

abbrev are_large : Network → Net → ℕ → Bool
are_large g w zero = true
are_large g w (suc v) = nat_le (2 ^ (w.node (suc v)).head.level) (size_of g w (suc v)) && are_large g w v

-- the net so far, and whether after each event every fragment was large enough
pub record Course : Type 0 where
  pub net : Net
  pub large : Bool

abbrev goes_on : Network → Course → Option Net → Course
goes_on g c None = c
goes_on g c (Some w) = record { net = w; large = c.large && are_large g w g.count }

abbrev takes_all : Network → Course → List Event → Course
takes_all g c [] = c
takes_all g c (e ∷ es) = takes_all g (goes_on g c (happens g c.net e)) es

abbrev takes_of : ℕ → ℕ → List Event → List Event
takes_of v zero es = es
takes_of v (suc p) es = takes_of v p (Take v p ∷ es)

abbrev turns : Network → ℕ → List Event → List Event
turns g zero es = es
turns g (suc v) es = turns g v (Wake (suc v) ∷ takes_of (suc v) (length (g.ports (suc v))) es)

-- the events of all nodes and ports in turn, n times
abbrev rounds : Network → ℕ → Course → Course
rounds g zero c = c
rounds g (suc n) c = rounds g n (takes_all g c (turns g g.count []))

abbrev course : Network → ℕ → Course
course g n = rounds g n (record { net = opening g; large = true })

abbrev levels_and_sizes : Network → Net → ℕ → List (ℕ × ℕ)
levels_and_sizes g w zero = []
levels_and_sizes g w (suc v) = levels_and_sizes g w v ++ ((w.node (suc v)).head.level, size_of g w (suc v)) ∷ []

abbrev counts : (ℕ → ℕ) → List ℕ
counts f = f 0 ∷ f 1 ∷ f 2 ∷ f 3 ∷ f 4 ∷ f 5 ∷ f 6 ∷ []

-- what a course comes to: whether fragments were large throughout, what waits, levels and sizes, and the counts of what was sent
pub record Outcome : Type 0 where
  pub large : Bool
  pub waits : ℕ
  pub fragments : List (ℕ × ℕ)
  pub sent : List ℕ

abbrev outcome_of : Network → Course → Outcome
outcome_of g c = record { large = c.large; waits = waiting g c.net; fragments = levels_and_sizes g c.net g.count; sent = counts c.net.sent }

abbrev outcome : Network → ℕ → Outcome
outcome g n = outcome_of g (course g n)

abbrev triangle : Network
triangle = network_of (record { nodes = 3; keys = key 1 1 2 ∷ key 2 2 3 ∷ key 3 1 3 ∷ [] })

triangle-outcome :
    outcome triangle 8 ≡
    record { large = true; waits = 0; fragments = (1, 3) ∷ (1, 3) ∷ (1, 3) ∷ []; sent = 3 ∷ 3 ∷ 3 ∷ 0 ∷ 1 ∷ 3 ∷ 0 ∷ [] }
unfolding ports_of
triangle-outcome = refl

abbrev four : Network
four = network_of (record { nodes = 4; keys = key 1 1 2 ∷ key 2 3 4 ∷ key 3 2 3 ∷ [] })

four-outcome :
    outcome four 12 ≡
    record { large = true; waits = 0; fragments = (2, 4) ∷ (2, 4) ∷ (2, 4) ∷ (2, 4) ∷ []; sent = 6 ∷ 8 ∷ 2 ∷ 2 ∷ 0 ∷ 8 ∷ 0 ∷ [] }
unfolding ports_of
four-outcome = refl

abbrev five : Network
five = network_of (record { nodes = 5; keys = key 1 1 2 ∷ key 2 2 3 ∷ key 3 4 5 ∷ key 4 3 4 ∷ [] })

five-outcome :
    outcome five 16 ≡
    record { large = true; waits = 0; fragments = (2, 5) ∷ (2, 5) ∷ (2, 5) ∷ (2, 5) ∷ (2, 5) ∷ []; sent = 7 ∷ 10 ∷ 3 ∷ 2 ∷ 1 ∷ 10 ∷ 1 ∷ [] }
unfolding ports_of
five-outcome = refl
