-- The deltas of the steps suffice: they lead from net to net.
use Rattle.std.proofs.Common.{◌≡◌, ℕ, ◌<◌, ◌||◌, Bool, true, List, [], ◌∷◌, ◌++◌, Some, map, refl, sym, ◌∙◌, ap, arith, unwrap_or}
use Rattle.ghs_graph.specs.Graph.{Shape, IsGraph}
use Rattle.ghs_node.specs.declared.delta.Delta.{Delta}
use Rattle.ghs_node.specs.declared.message.Message.{Message}
use Rattle.ghs_node.specs.declared.work.Work.{Work}
use Rattle.ghs_node.specs.declared.work.Work.TheVariants.{Wake, Deliver}
use Rattle.ghs_node.specs.NodeState.{NodeState, degree}
use Rattle.ghs_node.specs.Reaction.{HasPort, after, reaction, requeues}
use Rattle.ghs_node.specs.Words.{Outgoing}
use Rattle.ghs_node.proofs.lemmas.{reaction_inverts, row_halts}
use Rattle.peer_network.specs.declared.event.Event.{Event}
use Rattle.peer_network.specs.declared.event.Event.TheVariants as events
use Rattle.ghs_protocol.specs.Net.{Net, change, happens, left_of, opening, send, send_all, take_first}
use Rattle.peer_network.specs.Updates.{put, put_at}
use Rattle.peer_network.specs.Network.{network_of}
use Rattle.ghs_protocol.specs.Run.{IsAfter, net_after, run}
use Rattle.ghs_protocol.specs.Steps.{Happens, Woke, Took}
use Rattle.ghs_protocol.proofs.lemmas.Events.{happening}
use Rattle.peer_network.proofs.lemmas.Graphs.{graph_few, graph_wired}
use Rattle.ghs_protocol.proofs.lemmas.Nodes.{ports_many}
use Rattle.ghs_protocol.proofs.lemmas.Runs.{after_more, both_some, net_after_is, run_splits}
use Rattle.ghs_protocol.proofs.lemmas.WellFormed.{IsWellFormed, after_formed}
use Rattle.ghs_core.specs.NetState.{work_at}
use Rattle.ghs_steps.specs.Changes.{changes}
use Rattle.ghs_steps.specs.Deltas.{DeltasSuffice, State, apply_step, apply_steps, arrive, change_at, state_of, taken, with_changes}
use Rattle.ghs_steps.specs.Step.{delta_of, step, steps_behind}
use Rattle.ghs_steps.specs.Told.{sent_by}
use Rattle.ghs_steps.proofs.Applied.{changes_made}

-- what is sent arrives
all_arrive : (g : Shape) (v : ℕ) (ss : Outgoing) (w : Net) →
    arrive (state_of w) (map (sent_by g v) ss) ≡ state_of (send_all (network_of g) v ss w)
all_arrive g v [] w = refl
all_arrive g v (s ∷ ss) w = all_arrive g v ss (send (network_of g) v w s)

-- a node that has halted stays so
stays_halted : (n : NodeState) (k : Work) (d : Delta) → HasPort n k → reaction n k ≡ Some d → n.head.halted ≡ true → d.head.halted ≡ true
stays_halted n k d port r h = row_halts n k d (reaction_inverts n k d port r) ∙ ap (λ (b : Bool). b || d.halts) h

-- the node has reacted, and its messages are out
reaction_made : (g : Shape) (v : ℕ) (k : Work) (d : Delta) (w x : Net) → x.node v ≡ w.node v → HasPort (w.node v) k → reaction (w.node v) k ≡ Some d →
    arrive (change_at v (changes (w.node v) d) (state_of x)) (map (sent_by g v) d.sends) ≡ state_of (send_all (network_of g) v d.sends (change v d x))
reaction_made g v k d w x same port r =
    ap (λ (n : NodeState). arrive (record (state_of x) { node = put x.node v n }) (map (sent_by g v) d.sends))
    (ap (λ (n : NodeState). with_changes n (changes (w.node v) d)) same
    ∙ (changes_made (w.node v) d (stays_halted (w.node v) k d port r) ∙ ap (λ (n : NodeState). after n d) (sym same)))
    ∙ all_arrive g v d.sends (change v d x)

-- the delta of a step is the reaction
delta_is : (n : NodeState) (k : Work) (d : Delta) → reaction n k ≡ Some d → delta_of n k ≡ d
delta_is n k d r = ap (λ o. unwrap_or o (requeues n.head)) r

-- a step's line, applied to the state before its event, gives the state after it
step_made : (g : Shape) (done : List Event) (e : Event) (w w' : Net) → net_after g done ≡ w → IsWellFormed (network_of g) w →
    Happens (network_of g) w e w' → apply_step (state_of w) (step g done e) ≡ state_of w'
step_made g done _ w _ is_net formed (Woke v d lo hi s r) =
    ap (λ (x : Net). arrive (change_at v (changes (x.node v) (delta_of (x.node v) Wake)) (state_of w))
    (map (sent_by g v) (delta_of (x.node v) Wake).sends)) is_net
    ∙ (ap (λ (y : Delta). arrive (change_at v (changes (w.node v) y) (state_of w)) (map (sent_by g v) y.sends)) (delta_is (w.node v) Wake d r)
    ∙ reaction_made g v Wake d w w refl tt r)
step_made g done _ w _ is_net formed (Took v p m ms d at q r) =
    let port : p < degree (w.node v) = omega (arith, at.port, ports_many (formed.nodes v)) in
    let told : Work → NodeState → List Message → State =
    λ k n queue.
    let y = delta_of n k in
    arrive (change_at v (changes n y) (record (state_of w) { queue = put_at w.queue v p (taken y.fate queue) })) (map (sent_by g v) y.sends) in
    let at_w : apply_step (state_of w) (step g done (events.Take v p)) ≡ told (work_at w (events.Take v p)) (w.node v) (w.queue v p) =
    ap (λ (x : Net). told (work_at x (events.Take v p)) (x.node v) (w.queue v p)) is_net in
    let there : told (work_at w (events.Take v p)) (w.node v) (w.queue v p) ≡ told (Deliver p m) (w.node v) (m ∷ ms) = rw q refl in
    let with_d : told (Deliver p m) (w.node v) (m ∷ ms) ≡
    arrive (change_at v (changes (w.node v) d) (state_of (take_first d.fate v p m ms w))) (map (sent_by g v) d.sends) =
    ap (λ (y : Delta). arrive (change_at v (changes (w.node v) y) (record (state_of w) { queue = put_at w.queue v p (left_of y.fate m ms) }))
    (map (sent_by g v) y.sends))
    (delta_is (w.node v) (Deliver p m) d r) in
    at_w ∙ (there ∙ (with_d ∙ reaction_made g v (Deliver p m) d w (take_first d.fate v p m ms w) refl port r))

-- from one net of a run to a later one
steps_made : (g : Shape) (done es : List Event) (w w' : Net) → IsGraph g → IsAfter (network_of g) done w → run (network_of g) es w ≡ Some w' →
    apply_steps (state_of w) (steps_behind g done es) ≡ state_of w'
steps_made g done [] w w' graph before h = ap (λ o. state_of (unwrap_or o w)) h
steps_made g done (e ∷ es) w w' graph before h =
    both_some (happens (network_of g) w e) (λ x. run (network_of g) es x) w' h
    (λ x here rest.
    let happened = happening (network_of g) w x e here in
    ap (λ s. apply_steps s (steps_behind g (done ++ e ∷ []) es))
    (step_made g done e w x (net_after_is g done w before)
    (after_formed (network_of g) (graph_wired g graph) (graph_few g graph) done w before) happened)
    ∙ steps_made g (done ++ e ∷ []) es x w' graph (after_more (network_of g) done e w x before happened) rest)

pub deltas_suffice : (g : Shape) (done es : List Event) → IsGraph g → DeltasSuffice g done es
deltas_suffice g done es graph is_run =
    run_splits (network_of g) done es (opening (network_of g)) is_run.0 is_run.1
    (λ w before rest.
    ap (λ (x : Net). apply_steps (state_of x) (steps_behind g done es)) (net_after_is g done w before)
    ∙ (steps_made g done es w is_run.0 graph before rest ∙ ap state_of (sym (net_after_is g (done ++ es) is_run.0 is_run.1))))
