-- Three networks, run event by event from the opening to the halt by the machine of these rules.
use Rattle.std.specs.Prelude.{◌≡◌, ℕ, Bool, true, false, ◌==◌, Option, Some, None, List, [], ◌∷◌, ◌++◌, map, refl, if◌then◌else◌}
use Rattle.ghs_graph.specs.declared.key.Key.{Key}
use Rattle.ghs_graph.specs.declared.port.Port.{Port}
use Rattle.peer_network.specs.declared.event.Event.{Event}
use Rattle.peer_network.specs.declared.event.Event.TheVariants.{Wake, Take}
use Rattle.peer_network.specs.Network.{Network}
use Rattle.peer_machine.specs.Net.{Net, opening}
use Rattle.peer_machine.specs.Run.{run}
use Rattle.boruvka_node.specs.declared.mark.Mark.{Mark}
use Rattle.boruvka_node.specs.declared.mark.Mark.TheVariants.{Asked, Branch, Inside}
use Rattle.boruvka_node.specs.declared.message.Message.{Message}
use Rattle.boruvka_node.specs.declared.message.Message.TheVariants.{Connect, Initiate, Report, ChangeRoot}
use Rattle.boruvka_node.specs.declared.port_state.PortState.{PortState}
use Rattle.boruvka_node.specs.State.{State}
use Rattle.boruvka_node.specs.Boruvka.{boruvka}

-- a link's end, of a key, to port q of node v
abbrev to : Key → ℕ → ℕ → Port
to k v q = record { key = k; far = v; far_port = q }

-- the network of so many nodes, with the ports of nodes 1 to 4
abbrev network : ℕ → List Port → List Port → List Port → List Port → Network
network n a b c d = record { count = n; ports = λ v. if v == 1 then a else (if v == 2 then b else (if v == 3 then c else d)) }

abbrev key : ℕ → ℕ → ℕ → Key
key w a b = record { weight = w; a = a; b = b }

abbrev after_run : Network → List Event → Option (Net State Message)
after_run g es = run boruvka g es (opening boruvka g)

abbrev seen : {A : Type 0} → (Net State Message → A) → Option (Net State Message) → Option A
seen f None = None
seen f (Some w) = Some (f w)

-- the messages that wait at a port
abbrev waits_at : Network → List Event → ℕ → ℕ → Option (List Message)
waits_at g es v p = seen (λ w. w.queue v p) (after_run g es)

-- the marks of a node, its level, and whether it has halted
abbrev stands : Network → List Event → ℕ → Option (List Mark × ℕ × Bool)
stands g es v = seen (λ w. (map (λ (x : PortState). x.mark) (w.node v).ports, (w.node v).head.level, (w.node v).head.halted)) (after_run g es)

-- how many messages of each kind were sent
abbrev counts : Network → List Event → Option (List ℕ)
counts g es = seen (λ w. w.sent 0 ∷ w.sent 1 ∷ w.sent 2 ∷ w.sent 3 ∷ w.sent 4 ∷ []) (after_run g es)

-- The path 1-2-3, the lesser key at 1.

abbrev left : Key
left = key 5 1 2

abbrev right : Key
right = key 7 2 3

abbrev path : Network
path = network 3 (to left 2 0 ∷ []) (to left 1 0 ∷ to right 3 0 ∷ []) (to right 2 1 ∷ []) []

-- all wake, and the Connects arrive: node 1 has entered level 1, node 2 waits to be called
abbrev met : List Event
met = Wake 1 ∷ Wake 2 ∷ Wake 3 ∷ Take 1 0 ∷ Take 2 0 ∷ Take 2 1 ∷ []

path_core : waits_at path met 2 0 ≡ Some (Initiate 1 left ∷ [])
path_core = refl

path_root : stands path met 1 ≡ Some (Branch ∷ [], 1, false)
path_root = refl

path_asked : stands path met 2 ≡ Some (Asked ∷ Asked ∷ [], 0, false)
path_asked = refl

-- both calls, and both Reports
abbrev joined : List Event
joined = met ++ Take 2 0 ∷ Take 3 0 ∷ Take 2 1 ∷ Take 1 0 ∷ []

path_halts : stands path joined 1 ≡ Some (Branch ∷ [], 1, true)
path_halts = refl

path_middle : stands path joined 2 ≡ Some (Branch ∷ Branch ∷ [], 1, false)
path_middle = refl

path_counts : counts path joined ≡ Some (3 ∷ 2 ∷ 0 ∷ 2 ∷ 0 ∷ [])
path_counts = refl

-- Node 1 alone wakes: the others are woken, by a Connect and by a Name.
abbrev woken : List Event
woken = Wake 1 ∷ Take 2 0 ∷ Take 1 0 ∷ Take 2 0 ∷ Take 3 0 ∷ []

late : waits_at path woken 2 1 ≡ Some (Connect 0 ∷ [])
late = refl

called_late : waits_at path (woken ++ Take 2 1 ∷ []) 3 0 ≡ Some (Initiate 1 left ∷ [])
called_late = refl

late_halts : stands path (woken ++ Take 2 1 ∷ Take 3 0 ∷ Take 2 1 ∷ Take 1 0 ∷ []) 1 ≡ Some (Branch ∷ [], 1, true)
late_halts = refl

late_counts : counts path (woken ++ Take 2 1 ∷ Take 3 0 ∷ Take 2 1 ∷ Take 1 0 ∷ []) ≡ Some (3 ∷ 2 ∷ 1 ∷ 2 ∷ 0 ∷ [])
late_counts = refl

-- a node that is awake has no rule to wake
awake_already : counts path (Wake 1 ∷ Wake 1 ∷ []) ≡ None
awake_already = refl

-- The triangle: the heaviest link is Inside at both ends.

abbrev least : Key
least = key 1 1 2

abbrev second : Key
second = key 2 2 3

abbrev heaviest : Key
heaviest = key 3 1 3

abbrev triangle : Network
triangle =
    network 3 (to least 2 0 ∷ to heaviest 3 1 ∷ []) (to least 1 0 ∷ to second 3 0 ∷ []) (to second 2 1 ∷ to heaviest 1 1 ∷ []) []

abbrev round : List Event
round =
    Wake 1 ∷ Wake 2 ∷ Take 1 0 ∷ Take 2 0 ∷ Take 2 0 ∷ Take 3 0 ∷ Take 2 1 ∷ Take 3 1 ∷ Take 3 0 ∷ Take 1 1 ∷ Take 2 1 ∷ Take 1 0 ∷ []

triangle_halts : stands triangle round 1 ≡ Some (Branch ∷ Inside ∷ [], 1, true)
triangle_halts = refl

triangle_middle : stands triangle round 2 ≡ Some (Branch ∷ Branch ∷ [], 1, false)
triangle_middle = refl

triangle_third : stands triangle round 3 ≡ Some (Branch ∷ Inside ∷ [], 1, false)
triangle_third = refl

triangle_counts : counts triangle round ≡ Some (3 ∷ 2 ∷ 3 ∷ 2 ∷ 0 ∷ [])
triangle_counts = refl

-- The path 1-2-3-4, the greatest key in the middle: two fragments of level 1, and a ChangeRoot.

abbrev first : Key
first = key 1 1 2

abbrev middle : Key
middle = key 3 2 3

abbrev last : Key
last = key 2 3 4

abbrev four : Network
four = network 4 (to first 2 0 ∷ []) (to first 1 0 ∷ to middle 3 1 ∷ []) (to last 4 0 ∷ to middle 2 1 ∷ []) (to last 3 0 ∷ [])

-- two fragments of level 1, and both ends have heard of the other one
abbrev halves : List Event
halves =
    Wake 1 ∷ Wake 2 ∷ Wake 3 ∷ Wake 4 ∷ Take 1 0 ∷ Take 2 0 ∷ Take 2 0 ∷ Take 3 0 ∷ Take 4 0 ∷ Take 4 0 ∷ Take 2 1 ∷ []

reports_middle : waits_at four halves 1 0 ≡ Some (Report (Some middle) ∷ [])
reports_middle = refl

moves_root : waits_at four (halves ++ Take 1 0 ∷ []) 2 0 ≡ Some (ChangeRoot ∷ [])
moves_root = refl

-- both go out over the middle link, node 3 where a Connect has come already: it waits, since 2 is the lesser end
abbrev chosen : List Event
chosen = halves ++ Take 1 0 ∷ Take 2 0 ∷ Take 3 1 ∷ Take 3 1 ∷ Take 3 0 ∷ []

goes_out_over_asked : stands four chosen 3 ≡ Some (Branch ∷ Asked ∷ [], 1, false)
goes_out_over_asked = refl

abbrev whole : List Event
whole = chosen ++ Take 2 1 ∷ Take 3 1 ∷ Take 1 0 ∷ Take 4 0 ∷ Take 3 0 ∷ Take 2 0 ∷ Take 2 1 ∷ []

four_halts : stands four whole 2 ≡ Some (Branch ∷ Branch ∷ [], 2, true)
four_halts = refl

four_counts : counts four whole ≡ Some (6 ∷ 5 ∷ 2 ∷ 5 ∷ 1 ∷ [])
four_counts = refl
