-- What holds of every net of a run whatever the graph's levels are: each node keeps its ports, and who sleeps is untouched and has sent nothing.
use Rattle.std.proofs.Common.{◌≡◌, ◌≢◌, ℕ, List, [], ◌∷◌, refl, sym, ◌∙◌, ap, subst, ⊎_elim}
use Rattle.std.proofs.lemmas.Bool.{cases_eq}
use Rattle.std.proofs.lemmas.List.{length-replicate}
use Rattle.ghs_graph.specs.Graph.{Shape}
use Rattle.peer_network.specs.declared.event.Event.{Event}
use Rattle.peer_network.specs.Network.{Network, network_of, At, InNetwork, far, far_port}
use Rattle.peer_network.proofs.lemmas.Wired.{IsWired}
use Rattle.peer_network.proofs.lemmas.Wires.{at_in, neighbour}
use Rattle.peer_network.proofs.lemmas.Graphs.{graph_wired}
use Rattle.peer_network.proofs.lemmas.Updates.{one_place, put_at_miss}
use Rattle.peer_machine.specs.declared.work.Work.TheVariants.{Wake, Deliver}
use Rattle.peer_machine.specs.Net.{Net, put, opening, reacted, take_first}
use Rattle.peer_machine.specs.Run.{IsNetOf}
use Rattle.peer_machine.specs.Steps.{Happens, Woke, Took}
use Rattle.peer_machine.proofs.lemmas.Runs.{run_keeps}
use Rattle.peer_machine.proofs.lemmas.Sends.{node_here, node_there, queue_kept}
use Rattle.boruvka_node.specs.declared.message.Message.{Message}
use Rattle.boruvka_node.specs.declared.message.Phase.TheVariants.{Sleeping}
use Rattle.boruvka_node.specs.State.{State, fresh_port}
use Rattle.boruvka_node.specs.Reaction.{Outcome}
use Rattle.boruvka_node.specs.Boruvka.{boruvka}
use Rattle.boruvka_protocol.specs.Laws.{IsNodeOf}
use Rattle.boruvka_protocol.proofs.invariant.Whole.{Ground}
use Rattle.boruvka_protocol.proofs.rows.Grows.{Grows, grows_not, Wakes_up, reaction_grows}

pub ground_opening : (g : Network) → Ground g (opening boruvka g)
ground_opening g = record {
  nodes = λ v. record { number = refl; keys = refl; ports = length-replicate _ fresh_port };
  untouched = λ v s. refl;
  silent = λ v p at s. refl;
}

-- sleepers have level 0
pub sleeper_level : {g : Network} {w : Net State Message} → Ground g w → (v : ℕ) → (w.node v).head.phase ≡ Sleeping →
    ◌≡◌ {A = ℕ} (w.node v).head.level 0
sleeper_level i v s = ap (λ (n : State). n.head.level) (i.untouched v s)

no_message : {P : Type 0} (m : Message) (ms : List Message) → m ∷ ms ≡ [] → P
no_message m ms e = cc

module _ (g : Network) where
  -- node v has come to another state, in a net with the nodes of w
  module _ (w x : Net State Message) (v : ℕ) (o : Outcome) (i : Ground g w) (nodes : x.node ≡ w.node) (up : Wakes_up (w.node v) o.state) where
    at_node : (u : ℕ) → x.node u ≡ w.node u
    at_node u = ap (λ (f : ℕ → State). f u) nodes

    -- what held of each node before, and holds of v's new state, holds of each now
    pub node_by_node : (P : ℕ → State → Type 0) → P v o.state → ((u : ℕ) → u ≢ v → P u (w.node u)) →
        (u : ℕ) → P u ((reacted boruvka g v o x).node u)
    node_by_node P here there u = ⊎_elim
        (λ (e : u ≡ v).
        subst (λ y. P y ((reacted boruvka g v o x).node y)) (sym e) (subst (P v) (sym (node_here boruvka g v o x)) here))
        (λ ne. subst (P u) (sym (node_there boruvka g v o x u ne ∙ at_node u)) (there u ne))
        (cases_eq u v)

    pub grows_each : (u : ℕ) → Grows (w.node u) ((reacted boruvka g v o x).node u)
    grows_each = node_by_node (λ u n. Grows (w.node u) n) up.0 (λ u ne. grows_not (w.node u))

    -- who sleeps then is another node, which slept
    slept : (u : ℕ) → ((reacted boruvka g v o x).node u).head.phase ≡ Sleeping → (u ≢ v) × ((w.node u).head.phase ≡ Sleeping)
    slept u s = let ne = other in (ne, sym (ap (λ (n : State). n.head.phase) (node_there boruvka g v o x u ne ∙ at_node u)) ∙ s)
      where
        other : u ≢ v
        other e = up.1
            (sym (ap (λ (n : State). n.head.phase) (node_here boruvka g v o x))
            ∙ subst (λ y. ((reacted boruvka g v o x).node y).head.phase ≡ Sleeping) e s)

    module _ (wired : IsWired g) (here : InNetwork g v)
        (queues : (u p : ℕ) → At g u p → u ≢ v → w.queue (far g u p) (far_port g u p) ≡ [] → x.queue (far g u p) (far_port g u p) ≡ []) where
      silent_still : (u p : ℕ) → At g u p → ((reacted boruvka g v o x).node u).head.phase ≡ Sleeping →
          (reacted boruvka g v o x).queue (far g u p) (far_port g u p) ≡ []
      silent_still u p at s =
          let b = slept u s in
          queue_kept boruvka g v (far g u p) (far_port g u p) o.sends (record x { node = put x.node v o.state })
          (λ j e h. b.0 (sym (wired.back u p at) ∙ neighbour g wired v j (far g u p) (far_port g u p) here.some here.node (wired.there u p at) e h))
          ∙ queues u p at b.0 (i.silent u p at b.1)

      pub ground_reacted : Ground g (reacted boruvka g v o x)
      ground_reacted = record {
        nodes = node_by_node (IsNodeOf g)
            (let n = i.nodes v in
            record { number = up.0.number ∙ n.number; keys = up.0.keys ∙ n.keys; ports = up.0.ports ∙ n.ports })
            (λ u ne. i.nodes u);
        untouched = λ u s. let b = slept u s in (node_there boruvka g v o x u b.0 ∙ at_node u) ∙ i.untouched u b.1;
        silent = silent_still;
      }

  -- a message is taken at v: queues of others stay, and one that was empty stays so
  pub taken_empty : (w : Net State Message) (v p : ℕ) (m : Message) (ms : List Message) (a b : ℕ) → w.queue v p ≡ m ∷ ms → w.queue a b ≡ [] →
      (take_first boruvka g v p m ms w).queue a b ≡ []
  taken_empty w v p m ms a b q none = ⊎_elim
      (λ e. no_message m ms (sym q ∙ sym (ap (λ c. w.queue c b) e.0 ∙ ap (λ c. w.queue v c) e.1) ∙ none))
      (λ miss. put_at_miss w.queue v p a b ms miss ∙ none)
      (one_place v p a b)

  -- an act of a node that is awake then keeps the ground
  pub ground_taken : IsWired g → (w : Net State Message) (v p : ℕ) (m : Message) (ms : List Message) (o : Outcome) → Ground g w → At g v p →
      w.queue v p ≡ m ∷ ms → Wakes_up (w.node v) o.state → Ground g (reacted boruvka g v o (take_first boruvka g v p m ms w))
  ground_taken wired w v p m ms o i at q up =
      ground_reacted w (take_first boruvka g v p m ms w) v o i refl up wired (at_in at)
      (λ u b there ne h. taken_empty w v p m ms (far g u b) (far_port g u b) q h)

  pub ground_event : IsWired g → (w w' : Net State Message) (e : Event) → Ground g w → Happens boruvka g w e w' → Ground g w'
  ground_event wired w _ _ i (Woke v o lo hi s r t) =
      ground_reacted w w v o i refl (reaction_grows (w.node v) Wake o (sleeper_level i v) r) wired
      (record { some = lo; node = hi }) (λ u p at ne h. h)
  ground_event wired w _ _ i (Took v p m ms o at q r t) =
      ground_taken wired w v p m ms o i at q (reaction_grows (w.node v) (Deliver p m) o (sleeper_level i v) r)

  pub event_grows : (w w' : Net State Message) (e : Event) → Ground g w → Happens boruvka g w e w' → (u : ℕ) → Grows (w.node u) (w'.node u)
  event_grows w _ _ i (Woke v o lo hi s r t) = grows_each w w v o i refl (reaction_grows (w.node v) Wake o (sleeper_level i v) r)
  event_grows w _ _ i (Took v p m ms o at q r t) =
      grows_each w (take_first boruvka g v p m ms w) v o i refl (reaction_grows (w.node v) (Deliver p m) o (sleeper_level i v) r)

pub ground_after : (g : Shape) (w : Net State Message) → IsNetOf boruvka g w → Ground (network_of g) w
ground_after g w h =
    run_keeps boruvka (network_of g) (Ground (network_of g)) (ground_event (network_of g) (graph_wired g h.graph)) h.events
    (opening boruvka (network_of g)) w (ground_opening (network_of g)) h.run
