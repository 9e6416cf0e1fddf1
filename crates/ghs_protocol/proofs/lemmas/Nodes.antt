-- Facts of one node, carried over what one node does.
use Rattle.std.proofs.Common.{◌≡◌, ◌≢◌, ℕ, length, refl, sym, ◌∙◌, ap, subst, ⊎_elim}
use Rattle.std.proofs.lemmas.Bool.{cases_eq}
use Rattle.std.proofs.lemmas.List.{length-map}
use Rattle.ghs_node.specs.declared.message.Message.{Message}
use Rattle.ghs_node.specs.declared.message.Phase.TheVariants.{Sleeping}
use Rattle.ghs_node.specs.declared.delta.Delta.{Delta}
use Rattle.ghs_node.specs.NodeState.{NodeState, degree}
use Rattle.ghs_node.specs.Reaction.{after}
use Rattle.ghs_node.specs.Rows.{AwakeRow}
use Rattle.peer_network.specs.Network.{Network}
use Rattle.ghs_protocol.specs.Net.{Net, take_first}
use Rattle.peer_network.specs.Updates.{put}
use Rattle.ghs_protocol.specs.Steps.{reacted, waking, Step, Wakes_up, Takes_one}
use Rattle.ghs_protocol.specs.Nodes.{IsNodeOf}
use Rattle.peer_network.proofs.lemmas.Updates.{put_same, put_other}
use Rattle.ghs_protocol.proofs.lemmas.Sends.{nodes_put}

-- a node has as many marks as ports
pub ports_many : {g : Network} {v : ℕ} {n : NodeState} → IsNodeOf g v n → degree n ≡ length (g.ports v)
ports_many {g} {v} {n} i = i.node.ports ∙ ap length i.keys ∙ length-map (g.ports v) _

-- a fact of each node that is kept by what a node does
pub record NodeKept (I : ℕ → NodeState → Type 0) : Type 0 where
  pub takes : (v : ℕ) (n : NodeState) (j : ℕ) (m : Message) (d : Delta) → I v n → n.head.phase ≢ Sleeping → AwakeRow n j m d → I v (after n d)
  pub wakes : (v : ℕ) (n : NodeState) → I v n → n.head.phase ≡ Sleeping → I v (after n (waking n))

-- a fact of a node before and after
abbrev pub AllNodes : (ℕ → NodeState → NodeState → Type 0) → Net → Net → Type 0
AllNodes R w w' = (v : ℕ) → R v (w.node v) (w'.node v)

module _ (g : Network) (u : ℕ) (d : Delta) (w w1 : Net) (nodes : w1.node ≡ w.node) where
  -- u did d after w1, which has the nodes of w: what holds before and after at u, and of nodes that stay, holds of all
  pub node_by_node : (R : ℕ → NodeState → NodeState → Type 0) → R u (w.node u) (after (w.node u) d) →
      ((v : ℕ) → v ≢ u → R v (w.node v) (w.node v)) → AllNodes R w (reacted g u d w1)
  node_by_node R now same v = subst (λ (f : ℕ → NodeState). R v (w.node v) (f v)) (sym (nodes_put g u d w1)) (⊎_elim here away (cases_eq v u))
    where
      here : v ≡ u → R v (w.node v) (put w1.node u (after (w1.node u) d) v)
      here x =
          subst (λ y. R y (w.node y) (put w1.node u (after (w1.node u) d) y)) (sym x)
          (subst (R u (w.node u)) (ap (λ (f : ℕ → NodeState). after (f u) d) (sym nodes) ∙ sym (put_same w1.node u _)) now)

      away : v ≢ u → R v (w.node v) (put w1.node u (after (w1.node u) d) v)
      away ne = subst (R v (w.node v)) (ap (λ (f : ℕ → NodeState). f v) (sym nodes) ∙ sym (put_other w1.node u v _ ne)) (same v ne)

  pub node_kept : (I : ℕ → NodeState → Type 0) → ((v : ℕ) → I v (w.node v)) → I u (after (w.node u) d) → (v : ℕ) → I v ((reacted g u d w1).node v)
  node_kept I before now = node_by_node (λ v n n'. I v n') now (λ v ne. before v)

-- a fact of one node, over a step
pub node_step : (g : Network) (I : ℕ → NodeState → Type 0) →
    NodeKept I →
    (w w' : Net) → ((v : ℕ) → I v (w.node v)) →
    Step g w w' →
    (v : ℕ) → I v (w'.node v)
node_step g I k w w' b (Wakes_up u lo hi s) = node_kept g u (waking (w.node u)) w w refl I b (k.wakes u (w.node u) (b u) s)
node_step g I k w w' b (Takes_one u j m ms d at q up row) =
    node_kept g u d w (take_first d.fate u j m ms w) refl I b (k.takes u (w.node u) j m d (b u) up row)
