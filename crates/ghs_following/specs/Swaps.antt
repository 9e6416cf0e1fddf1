-- Events of a run that have nothing to do with each other, and runs that differ in the order of such events alone.
use Rattle.std.specs.Prelude.{◌≡◌, ◌≢◌, ℕ, true, Option, Some, List, [], ◌∷◌, ◌++◌}
use Rattle.ghs_graph.specs.Graph.{Shape, IsGraph}
use Rattle.ghs_node.specs.declared.delta.Delta.{Delta}
use Rattle.ghs_node.specs.declared.delta.Fate.TheVariants.{Requeued}
use Rattle.ghs_node.specs.Reaction.{reaction}
use Rattle.peer_network.specs.declared.event.Event.{Event}
use Rattle.peer_network.specs.declared.event.Event.TheVariants.{Take}
use Rattle.peer_network.specs.Network.{Network, network_of}
use Rattle.ghs_protocol.specs.Net.{Net, is_lawful, opening}
use Rattle.peer_network.specs.Events.{event_node}
use Rattle.ghs_protocol.specs.Run.{IsAfter, IsRun, run}
use Rattle.ghs_core.specs.Dispatch.{arriving}
use Rattle.ghs_core.specs.NetState.{work_at}
use Rattle.ghs_following.specs.Chains.{chains_of, longest_chain}

-- what the event's node does, where there is a rule
abbrev pub answer : Net → Event → Option Delta
answer w e = reaction (w.node (event_node e)) (work_at w e)

-- the event takes the first message of port p of v, and its node puts it back
pub record PutsBackAt (w : Net) (e : Event) (v p : ℕ) : Type 0 where
  pub takes : e ≡ Take v p
  pub delta : Delta
  pub answer : answer w e ≡ Some delta
  pub back : delta.fate ≡ Requeued

-- its node sends something to port p of v
pub record SendsTo (g : Network) (w : Net) (e : Event) (v p : ℕ) : Type 0 where
  pub delta : Delta
  pub answer : answer w e ≡ Some delta
  pub some : arriving g (event_node e) delta.sends v p ≢ []

-- They have nothing to do with each other: they are of two nodes, each may happen first, and neither puts a message back to the end of a queue to
-- whose end the other one sends.
pub record AreApart (g : Network) (w : Net) (e f : Event) : Type 0 where
  pub nodes : event_node e ≢ event_node f
  pub one : is_lawful g w e ≡ true
  pub other : is_lawful g w f ≡ true
  pub neither : (v p : ℕ) → PutsBackAt w e v p → SendsTo g w f v p → ⊥
  pub nor : (v p : ℕ) → PutsBackAt w f v p → SendsTo g w e v p → ⊥

-- two lists of events lead to one net, or both to none, with one number at each node and each message, and so one longest chain
pub record AreAlike (g : Network) (es fs : List Event) : Type 0 where
  pub net : run g es (opening g) ≡ run g fs (opening g)
  pub chains : chains_of g es ≡ chains_of g fs
  pub longest : longest_chain g es ≡ longest_chain g fs

-- where two events have nothing to do with each other, they may happen in either order, and whatever follows, nothing tells which it was
abbrev pub SwapsAreAlike : Type 0
SwapsAreAlike =
    (g : Shape) (es : List Event) (w : Net) (e f : Event) → IsGraph g → IsAfter (network_of g) es w → AreApart (network_of g) w e f →
    IsRun (network_of g) (es ++ e ∷ f ∷ []) × ((rest : List Event) → AreAlike (network_of g) (es ++ e ∷ f ∷ rest) (es ++ f ∷ e ∷ rest))

-- the second list comes from the first by swaps of such neighbours, one after another
pub data AreSwapped (g : Network) : List Event → List Event → Type 0 where
  No_swap : (es : List Event) → AreSwapped g es es
  Swap_more : (es : List Event) (w : Net) (e f : Event) (rest fs : List Event) → IsAfter g es w → AreApart g w e f →
      AreSwapped g (es ++ f ∷ e ∷ rest) fs → AreSwapped g (es ++ e ∷ f ∷ rest) fs

-- so all orders that swaps lead to are alike
abbrev pub OrdersAreAlike : Type 0
OrdersAreAlike = (g : Shape) (es fs : List Event) → IsGraph g → AreSwapped (network_of g) es fs → AreAlike (network_of g) es fs
