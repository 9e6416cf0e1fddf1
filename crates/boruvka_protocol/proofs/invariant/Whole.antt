-- All clauses together.
use Rattle.std.specs.Prelude.{◌≡◌, ◌≢◌, ℕ, List, []}
use Rattle.ghs_graph.specs.declared.key.Key.{Key}
use Rattle.ghs_graph.specs.Graph.{Shape, IsGraph}
use Rattle.peer_network.specs.Network.{Network, network_of, InNetwork, At, far, far_port}
use Rattle.peer_machine.specs.Net.{Net}
use Rattle.boruvka_node.specs.declared.message.Message.{Message}
use Rattle.boruvka_node.specs.declared.message.Phase.TheVariants.{Sleeping}
use Rattle.boruvka_node.specs.State.{State, sleeper}
use Rattle.boruvka_protocol.specs.Laws.{IsNodeOf}
use Rattle.boruvka_protocol.proofs.invariant.Sides.{AtPort, at_port, side_of, far_side_of, heard_at, names_in, calls_in}
use Rattle.boruvka_protocol.proofs.invariant.Nodes.{AwakeFits}
use Rattle.boruvka_protocol.proofs.invariant.Marks.{MarksFit}
use Rattle.boruvka_protocol.proofs.invariant.Names.{NamesFit}
use Rattle.boruvka_protocol.proofs.invariant.Connects.{ConnectsFit}
use Rattle.boruvka_protocol.proofs.invariant.TreeMessages.{CallsFit}
use Rattle.boruvka_protocol.proofs.invariant.Children.{ChildrenFit}
use Rattle.boruvka_protocol.proofs.invariant.Search.{LacksSome, OwesFit, SearchFits}
use Rattle.boruvka_protocol.proofs.invariant.Token.{TokensFit}

-- What holds whatever the graph's levels are.
pub record Ground (g : Network) (w : Net State Message) : Type 0 where
  pub nodes : (v : ℕ) → IsNodeOf g v (w.node v)
  -- who sleeps is untouched, and has sent nothing
  pub untouched : (v : ℕ) → (w.node v).head.phase ≡ Sleeping → w.node v ≡ sleeper v (g.ports v)
  pub silent : (v p : ℕ) → At g v p → (w.node v).head.phase ≡ Sleeping → w.queue (far g v p) (far_port g v p) ≡ []

-- Clauses of the link at port p of node v: v has n there, the node at the far end has m, and q is what waits at the port.
module _ (ks : List Key) (g : Network) (v p : ℕ) (n m : AtPort) (q : List Message) where
  abbrev pub MarksAt : Type 0
  MarksAt = MarksFit ks (side_of g v p n) (far_side_of g v p m) (heard_at n).level (calls_in q)

  abbrev pub NamesAt : Type 0
  NamesAt = NamesFit ks (side_of g v p n) (far_side_of g v p m) (heard_at n) (names_in q)

  abbrev pub CallsAt : Type 0
  CallsAt = CallsFit ks (side_of g v p n) (far_side_of g v p m) (calls_in q)

-- the link, where r waits at the far end
pub record LinkFits (ks : List Key) (g : Network) (v p : ℕ) (n m : AtPort) (q r : List Message) : Type 0 where
  pub marks : MarksAt ks g v p n m q
  pub names : NamesAt ks g v p n m q
  pub connects : ConnectsFit ks (side_of g v p n) (far_side_of g v p m) (calls_in q) (calls_in r)
  pub calls : CallsAt ks g v p n m q
  pub children : ChildrenFit ks (side_of g v p n) (far_side_of g v p m) (calls_in q) (calls_in r)
  pub owes : OwesFit ks (side_of g v p n) (far_side_of g v p m) n.port.owes (calls_in q)

-- the link at port p of node v in a net
abbrev pub LinkIn : List Key → Network → Net State Message → ℕ → ℕ → Type 0
LinkIn ks g w v p =
    LinkFits ks g v p (at_port (w.node v) p) (at_port (w.node (far g v p)) (far_port g v p)) (w.queue v p) (w.queue (far g v p) (far_port g v p))

-- each link of a net, from each of its ends
abbrev pub LinksFit : List Key → Network → Net State Message → Type 0
LinksFit ks g w = (v p : ℕ) → At g v p → LinkIn ks g w v p

-- each node that is awake
abbrev pub NodesFit : List Key → Network → Net State Message → Type 0
NodesFit ks g w = (v : ℕ) → InNetwork g v → AwakeFits ks v (w.node v)

-- each node's search
abbrev pub SearchesFit : List Key → Network → Net State Message → Type 0
SearchesFit ks g w = (v : ℕ) → InNetwork g v → SearchFits ks g v (w.node v) (λ p. (w.node (far g v p)).head) (λ p. w.queue v p)

-- each node that searches waits for something
abbrev pub SearchersLack : Network → Net State Message → Type 0
SearchersLack g w = (v : ℕ) → InNetwork g v → LacksSome (w.node v)

pub record Fits (ks : List Key) (g : Network) (w : Net State Message) : Type 0 where
  pub ground : Ground g w
  pub nodes : NodesFit ks g w
  pub links : LinksFit ks g w
  pub search : SearchesFit ks g w
  pub lacks : SearchersLack g w
  pub tokens : TokensFit ks g w

-- v has heard something and may be about to end its search: all holds but that it waits for more
pub record NearlyFits (ks : List Key) (g : Network) (w : Net State Message) (v : ℕ) : Type 0 where
  pub ground : Ground g w
  pub nodes : NodesFit ks g w
  pub links : LinksFit ks g w
  pub search : SearchesFit ks g w
  pub others : (u : ℕ) → InNetwork g u → u ≢ v → LacksSome (w.node u)
  pub tokens : TokensFit ks g w

-- what holds of a graph's net but for its links
pub record AllButLinks (g : Shape) (w : Net State Message) : Type 0 where
  pub ground : Ground (network_of g) w
  pub nodes : NodesFit g.keys (network_of g) w
  pub search : SearchesFit g.keys (network_of g) w
  pub lacks : SearchersLack (network_of g) w
  pub tokens : TokensFit g.keys (network_of g) w

-- the invariant, of a net of a graph
pub record Holds (g : Shape) (w : Net State Message) : Type 0 where
  pub graph : IsGraph g
  pub fits : Fits g.keys (network_of g) w
