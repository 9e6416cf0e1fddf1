-- An event in two stages: the message that it takes meets its fate, and then the node reacts.
use Rattle.std.proofs.Common.{◌≡◌, ℕ, ◌≤◌, true, List, [], ◌∷◌, Some, refl, arith}
use Rattle.std.proofs.lemmas.Bool.{and_parts}
use Rattle.ghs_node.specs.declared.message.Message.{Message}
use Rattle.ghs_node.specs.declared.message.Phase.TheVariants.{Sleeping}
use Rattle.ghs_node.specs.declared.delta.Delta.{Delta}
use Rattle.ghs_node.specs.declared.work.Work.TheVariants as works
use Rattle.ghs_node.specs.NodeState.{NodeState}
use Rattle.ghs_node.specs.Reaction.{reaction, IsReaction}
use Rattle.ghs_node.specs.Rows.{Row}
use Rattle.ghs_node.proofs.lemmas.{reaction_inverts, sleeping_is}
use Rattle.peer_network.specs.declared.event.Event.{Event}
use Rattle.peer_network.specs.declared.event.Event.TheVariants.{Wake, Take}
use Rattle.peer_network.specs.Network.{Network, At}
use Rattle.ghs_protocol.specs.Net.{Net, is_lawful, is_waiting, take_first}
use Rattle.ghs_protocol.specs.Nodes.{IsNodeOf}
use Rattle.ghs_protocol.specs.Steps.{Happens, Woke, Took, reacted}
use Rattle.peer_network.proofs.lemmas.Events.{node_of, at_of}
use Rattle.ghs_protocol.proofs.lemmas.Nodes.{ports_many}
use Rattle.ghs_core.specs.NetState.{event_node, work_at, delivery}

-- the event brings the reaction d about, and x is the net before the node reacts
pub data Stage (g : Network) (w : Net) : Event → Delta → Net → Type 0 where
  Wakes : (v : ℕ) (d : Delta) →
      1 ≤ v →
      v ≤ g.count →
      (w.node v).head.phase ≡ Sleeping →
      reaction (w.node v) works.Wake ≡ Some d →
      Stage g w (Wake v) d w
  Takes : (v p : ℕ) (m : Message) (ms : List Message) (d : Delta) →
      At g v p →
      w.queue v p ≡ m ∷ ms →
      reaction (w.node v) (works.Deliver p m) ≡ Some d →
      Stage g w (Take v p) d (take_first d.fate v p m ms w)

pub record Staged (g : Network) (w : Net) (e : Event) (d : Delta) : Type 0 where
  pub before : Net
  pub stage : Stage g w e d before

module _ (g : Network) (w : Net) where
  takes : (v p : ℕ) (d : Delta) →
      At g v p →
      (q : List Message) → w.queue v p ≡ q →
      is_waiting q ≡ true →
      reaction (w.node v) (delivery p q) ≡ Some d →
      Staged g w (Take v p) d
  takes v p d at [] e waits r = cc
  takes v p d at (m ∷ ms) e waits r = record { before = take_first d.fate v p m ms w; stage = Takes v p m ms d at e r }

  -- a lawful event and the reaction to its work
  pub staged : (e : Event) (d : Delta) → is_lawful g w e ≡ true → reaction (w.node (event_node e)) (work_at w e) ≡ Some d → Staged g w e d
  staged (Wake v) d l r =
      let b = and_parts _ _ l in
      let n = node_of g v b.0 in
      record { before = w; stage = Wakes v d n.0 n.1 (sleeping_is _ b.1) r }
  staged (Take v p) d l r = let b = and_parts _ _ l in takes v p d (at_of g v p b.0) (w.queue v p) refl b.1 r

module _ {g : Network} {w : Net} where
  pub stage_happens : {e : Event} {d : Delta} {x : Net} → Stage g w e d x → Happens g w e (reacted g (event_node e) d x)
  stage_happens (Wakes v d lo hi s r) = Woke v d lo hi s r
  stage_happens (Takes v p m ms d at q r) = Took v p m ms d at q r

  pub stage_low : {e : Event} {d : Delta} {x : Net} → Stage g w e d x → 1 ≤ event_node e
  stage_low (Wakes v d lo hi s r) = lo
  stage_low (Takes v p m ms d at q r) = at.some

  pub stage_high : {e : Event} {d : Delta} {x : Net} → Stage g w e d x → event_node e ≤ g.count
  stage_high (Wakes v d lo hi s r) = hi
  stage_high (Takes v p m ms d at q r) = at.node

  pub stage_nodes : {e : Event} {d : Delta} {x : Net} → Stage g w e d x → x.node ≡ w.node
  stage_nodes (Wakes v d lo hi s r) = refl
  stage_nodes (Takes v p m ms d at q r) = refl

  pub stage_reaction : {e : Event} {d : Delta} {x : Net} →
      Stage g w e d x →
      IsNodeOf g (event_node e) (w.node (event_node e)) →
      IsReaction (w.node (event_node e)) d
  stage_reaction (Wakes v d lo hi s r) n = record { work = works.Wake; port = tt; is = r }
  stage_reaction (Takes v p m ms d at q r) n = record { work = works.Deliver p m; port = let lt = at.port in omega (arith, lt, ports_many n); is = r }

-- a reaction is a row of the table
pub reaction_row : (n : NodeState) (d : Delta) (r : IsReaction n d) → Row n r.work d
reaction_row n d r = reaction_inverts n r.work d r.port r.is
