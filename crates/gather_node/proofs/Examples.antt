-- Two networks, run event by event from the opening to the end by the machine of these rules. What goes out was found by hand from the rules; how
-- much of each kind, and that nine events end the triangle's run, is what the simulator of other protocols says too.
use Rattle.std.specs.Prelude.{◌≡◌, ℕ, Bool, true, false, ◌==◌, Option, Some, None, List, [], ◌∷◌, refl, if◌then◌else◌}
use Rattle.ghs_graph.specs.declared.key.Key.{Key}
use Rattle.ghs_graph.specs.declared.port.Port.{Port}
use Rattle.peer_network.specs.declared.event.Event.{Event}
use Rattle.peer_network.specs.declared.event.Event.TheVariants.{Wake, Take}
use Rattle.peer_network.specs.Network.{Network}
use Rattle.peer_machine.specs.Net.{Net, opening}
use Rattle.peer_machine.specs.Run.{run}
use Rattle.gather_node.specs.declared.message.Message.{Message}
use Rattle.gather_node.specs.declared.message.Message.TheVariants.{Explore, Back, Tree}
use Rattle.gather_node.specs.Forest.{forest}
use Rattle.gather_node.specs.State.{State}
use Rattle.gather_node.specs.Gather.{gather}

-- a link's end, of a key, to port q of node v
abbrev to : Key → ℕ → ℕ → Port
to k v q = record { key = k; far = v; far_port = q }

abbrev network : ℕ → List Port → List Port → List Port → Network
network n a b c = record { count = n; ports = λ v. if v == 1 then a else (if v == 2 then b else c) }

abbrev key : ℕ → ℕ → ℕ → Key
key w a b = record { weight = w; a = a; b = b }

abbrev after_run : Network → List Event → Option (Net State Message)
after_run g es = run gather g es (opening gather g)

abbrev seen : {A : Type 0} → (Net State Message → A) → Option (Net State Message) → Option A
seen f None = None
seen f (Some w) = Some (f w)

-- the messages that wait at a port
abbrev waits_at : Network → List Event → ℕ → ℕ → Option (List Message)
waits_at g es v p = seen (λ w. w.queue v p) (after_run g es)

-- which ports of a node are Branch, and whether it has halted
abbrev stands : Network → List Event → ℕ → Option (List Bool × Bool)
stands g es v = seen (λ w. ((w.node v).branches, (w.node v).head.halted)) (after_run g es)

-- how many messages of each kind were sent
abbrev counts : Network → List Event → Option (List ℕ)
counts g es = seen (λ w. w.sent 0 ∷ w.sent 1 ∷ w.sent 2 ∷ []) (after_run g es)

-- A triangle, where node 1 wakes.

abbrev light : Key
light = key 1 2 3

abbrev middle : Key
middle = key 7 1 2

abbrev heavy : Key
heavy = key 9 1 3

abbrev triangle : Network
triangle = network 3 (to middle 2 1 ∷ to heavy 3 1 ∷ []) (to light 3 0 ∷ to middle 1 0 ∷ []) (to light 2 0 ∷ to heavy 1 1 ∷ [])

-- the wave has gone out, and its Explores have crossed on the light link
abbrev gone_out : List Event
gone_out = Wake 1 ∷ Take 2 1 ∷ Take 3 1 ∷ []

crossed_at_2 : waits_at triangle gone_out 2 0 ≡ Some (Explore 1 ∷ [])
unfolding forest
crossed_at_2 = refl

crossed_at_3 : waits_at triangle gone_out 3 0 ≡ Some (Explore 1 ∷ [])
unfolding forest
crossed_at_3 = refl

-- each is the other's answer, and the links come back
abbrev come_back : List Event
come_back = Wake 1 ∷ Take 2 1 ∷ Take 3 1 ∷ Take 2 0 ∷ Take 3 0 ∷ []

back_from_2 : waits_at triangle come_back 1 0 ≡ Some (Back 1 (light ∷ middle ∷ []) ∷ [])
unfolding forest
back_from_2 = refl

back_from_3 : waits_at triangle come_back 1 1 ≡ Some (Back 1 (light ∷ heavy ∷ []) ∷ [])
unfolding forest
back_from_3 = refl

-- the leader knows the tree, and tells each child its links of it
abbrev told : List Event
told = Wake 1 ∷ Take 2 1 ∷ Take 3 1 ∷ Take 2 0 ∷ Take 3 0 ∷ Take 1 0 ∷ Take 1 1 ∷ []

leader : stands triangle told 1 ≡ Some (true ∷ false ∷ [], true)
unfolding forest
leader = refl

tree_to_2 : waits_at triangle told 2 1 ≡ Some (Tree (light ∷ middle ∷ []) ∷ [])
unfolding forest
tree_to_2 = refl

tree_to_3 : waits_at triangle told 3 1 ≡ Some (Tree (light ∷ []) ∷ [])
unfolding forest
tree_to_3 = refl

-- the end: 2E + N - 1 messages
abbrev all : List Event
all = Wake 1 ∷ Take 2 1 ∷ Take 3 1 ∷ Take 2 0 ∷ Take 3 0 ∷ Take 1 0 ∷ Take 1 1 ∷ Take 2 1 ∷ Take 3 1 ∷ []

end_2 : stands triangle all 2 ≡ Some (true ∷ true ∷ [], true)
unfolding forest
end_2 = refl

end_3 : stands triangle all 3 ≡ Some (true ∷ false ∷ [], true)
unfolding forest
end_3 = refl

sent : counts triangle all ≡ Some (4 ∷ 2 ∷ 2 ∷ [])
unfolding forest
sent = refl

-- A pair, where both nodes wake: the wave of node 2 is left, and its Explore ignored.

abbrev link : Key
link = key 5 1 2

abbrev pair : Network
pair = network 2 (to link 2 0 ∷ []) (to link 1 0 ∷ []) []

abbrev both : List Event
both = Wake 2 ∷ Wake 1 ∷ Take 2 0 ∷ []

-- node 2 has joined the wave of node 1, has nobody to ask, and answers at once
left : waits_at pair both 1 0 ≡ Some (Explore 2 ∷ Back 1 (link ∷ []) ∷ [])
unfolding forest
left = refl

abbrev pair_told : List Event
pair_told = Wake 2 ∷ Wake 1 ∷ Take 2 0 ∷ Take 1 0 ∷ Take 1 0 ∷ Take 2 0 ∷ []

pair_end : stands pair pair_told 2 ≡ Some (true ∷ [], true)
unfolding forest
pair_end = refl

pair_sent : counts pair pair_told ≡ Some (2 ∷ 1 ∷ 1 ∷ [])
unfolding forest
pair_sent = refl
