-- Runs computed from the definitions: two nodes with one link, and the path of three nodes.
use Rattle.std.specs.Prelude.{◌≡◌, ℕ, true, false, None, List, [], ◌∷◌, ◌==◌, if◌then◌else◌, unwrap_or, refl}
use Rattle.ghs_graph.specs.declared.key.Key.{Key}
use Rattle.ghs_graph.specs.declared.port.Port.{Port}
use Rattle.ghs_node.specs.declared.mark.Mark.TheVariants.{Basic, Branch}
use Rattle.peer_network.specs.declared.event.Event.{Event}
use Rattle.peer_network.specs.declared.event.Event.TheVariants.{Wake, Take}
use Rattle.peer_network.specs.Network.{Network}
use Rattle.ghs_protocol.specs.Net.{Net, opening}
use Rattle.ghs_protocol.specs.Run.{run}
use Rattle.ghs_protocol.specs.Ledger.{waiting}

abbrev key : ℕ → ℕ → ℕ → Key
key w a b = record { weight = w; a = a; b = b }

abbrev port : Key → ℕ → ℕ → Port
port k far back = record { key = k; far = far; far_port = back }

abbrev pair_ports : ℕ → List Port
pair_ports v = if v == 1 then (port (key 5 1 2) 2 0 ∷ []) else (if v == 2 then (port (key 5 1 2) 1 0 ∷ []) else [])

-- two nodes and the link (5, 1, 2)
abbrev pair : Network
pair = record { count = 2; ports = pair_ports }

abbrev path_ports : ℕ → List Port
path_ports v =
    if v == 1 then (port (key 5 1 2) 2 0 ∷ []) else
    (if v == 2 then (port (key 5 1 2) 1 0 ∷ port (key 7 2 3) 3 0 ∷ []) else (if v == 3 then (port (key 7 2 3) 2 1 ∷ []) else []))

-- the path 1-2-3
abbrev path : Network
path = record { count = 3; ports = path_ports }

-- the net after a list of events, or the opening net where there is none
abbrev net : Network → List Event → Net
net g es = unwrap_or (run g es (opening g)) (opening g)

abbrev seven : List Event
seven = Wake 1 ∷ Wake 2 ∷ Take 1 0 ∷ Take 2 0 ∷ Take 1 0 ∷ Take 2 0 ∷ Take 1 0 ∷ []

abbrev counts : (ℕ → ℕ) → List ℕ
counts f = f 0 ∷ f 1 ∷ f 2 ∷ f 3 ∷ f 4 ∷ f 5 ∷ f 6 ∷ []

pair-halts : ((net pair seven).node 1).head.halted ≡ true
pair-halts = refl

pair-halts_once : ((net pair seven).node 2).head.halted ≡ false
pair-halts_once = refl

pair-sent : counts (net pair seven).sent ≡ 2 ∷ 2 ∷ 0 ∷ 0 ∷ 0 ∷ 2 ∷ 0 ∷ []
pair-sent = refl

pair-consumed : counts (net pair seven).consumed ≡ 2 ∷ 2 ∷ 0 ∷ 0 ∷ 0 ∷ 1 ∷ 0 ∷ []
pair-consumed = refl

pair-waiting : waiting pair (net pair seven) ≡ 1
pair-waiting = refl

path-sent : counts (net path (Wake 1 ∷ Wake 2 ∷ Wake 3 ∷ [])).sent ≡ 3 ∷ 0 ∷ 0 ∷ 0 ∷ 0 ∷ 0 ∷ 0 ∷ []
path-sent = refl

path-waiting : waiting path (net path (Wake 1 ∷ Wake 2 ∷ Wake 3 ∷ [])) ≡ 3
path-waiting = refl

path-marks : ((net path (Wake 1 ∷ Wake 2 ∷ Wake 3 ∷ [])).node 2).marks ≡ Branch ∷ Basic ∷ []
path-marks = refl

unlawful : run pair (Wake 1 ∷ Wake 1 ∷ []) (opening pair) ≡ None
unlawful = refl
