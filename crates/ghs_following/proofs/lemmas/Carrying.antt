-- Chains that follow an event before it happens.
use Rattle.std.proofs.Common.{◌≡◌, ℕ, suc, Bool, true, false, List, [], ◌∷◌, ◌++◌, length, refl, sym, ◌∙◌, ap, ap₂, add-one}
use Rattle.std.specs.List.{All}
use Rattle.ghs_graph.specs.Graph.{Shape, IsGraph}
use Rattle.ghs_node.specs.declared.delta.Delta.{Delta}
use Rattle.ghs_node.specs.declared.message.Message.{Message}
use Rattle.ghs_node.specs.Reaction.{requeues}
use Rattle.ghs_node.specs.Words.{is_sleeping}
use Rattle.peer_network.specs.declared.event.Event.{Event}
use Rattle.peer_network.specs.declared.event.Event.TheVariants.{Take}
use Rattle.peer_network.specs.Events.{event_node}
use Rattle.peer_network.specs.Network.{far, far_port, network_of}
use Rattle.ghs_protocol.specs.Run.{IsRun}
use Rattle.peer_network.proofs.lemmas.Graphs.{graph_few, graph_wired}
use Rattle.ghs_protocol.proofs.lemmas.Runs.{after_is_net}
use Rattle.ghs_protocol.proofs.lemmas.WellFormed.{after_formed}
use Rattle.ghs_core.specs.NetState.{IsAnswer, IsLawful, NetState, net_of, network}
use Rattle.ghs_core.specs.PutBack.{IsPutBack}
use Rattle.peer_chains.specs.Chains.{Chains, hears, most_below, sent, taken}
use Rattle.peer_chains.specs.Kept.{Fits, HasPlace, Kept, SamePlaces, seen}
use Rattle.peer_chains.proofs.lemmas.Fitting.{fits_kept, place_at, same_then}
use Rattle.peer_chains.proofs.lemmas.Hears.{turned_alone}
use Rattle.ghs_following.specs.Chains.{chains_of, is_deferred, longest_chain, reacted}
use Rattle.ghs_following.specs.Kept.{AreChains, AreChainsOf, AreChainsThen}
use Rattle.ghs_following.proofs.Filling.{OnPorts}
use Rattle.ghs_following.proofs.lemmas.Following.{chains_of_more}
use Rattle.ghs_following.proofs.lemmas.Lengths.{same_lengths}
use Rattle.ghs_following.proofs.Swapping.{happens_made, made, on_ports}

module _ (s : NetState) (graph : IsGraph s.graph) (r : IsRun (network s) s.trace) (e : Event) (lawful : IsLawful s e) (d : Delta)
    (answer : IsAnswer s e d) where
  goes_out : OnPorts (network s) (event_node e) d.sends
  goes_out =
      let wired = graph_wired s.graph graph in
      on_ports (network s) wired (net_of s)
      (after_formed (network s) wired (graph_few s.graph graph) s.trace (net_of s) (after_is_net s.graph s.trace r)) e d lawful answer

  -- what the event's node sends arrives at ports
  pub out_to : (k : Kept) → Fits s.graph k →
      All (λ (x : ℕ × Message). HasPlace k (far (network s) (event_node e) x.0) (far_port (network s) (event_node e) x.0)) d.sends
  out_to k f i x lt = place_at s.graph k _ _ f ((graph_wired s.graph graph).there (event_node e) _ (goes_out i x lt))

  -- what the chains are once the event has happened
  happened : chains_of (network s) (s.trace ++ e ∷ []) ≡ reacted (network s) (net_of s) e d (chains_of (network s) s.trace)
  happened = chains_of_more s e d (made (network s) e d (net_of s)) r (happens_made (network s) (net_of s) e d lawful answer) answer

  -- the chains have heard and sent
  pub carried : (k k1 k' : Kept) → AreChains s k → SamePlaces k k1 →
      seen k1 ≡ hears e (is_sleeping ((net_of s).node (event_node e)).head.phase) (is_deferred d.fate) (seen k) → SamePlaces k1 k' →
      seen k' ≡ sent (network s) (event_node e) d.sends (seen k1) → AreChainsThen s e k'
  carried k k1 k' are p1 heard p2 out = record {
    fits = fits_kept s.graph k k' (same_then k k1 k' p1 p2) are.fits;
    same =
        out ∙ ap (sent (network s) (event_node e) d.sends)
        (heard ∙ ap (hears e (is_sleeping ((net_of s).node (event_node e)).head.phase) (is_deferred d.fate)) are.same)
        ∙ sym happened;
  }

-- where the only number of a queue is put behind itself, nothing changes
pub carried_alone : (s : NetState) (v p : ℕ) (k : Kept) → IsGraph s.graph → IsRun (network s) s.trace → IsLawful s (Take v p) → IsPutBack s v p →
    is_sleeping ((net_of s).node v).head.phase ≡ false → length ((net_of s).queue v p) ≡ 1 → AreChains s k → AreChainsThen s (Take v p) k
carried_alone s v p k graph r lawful back awake one are =
    let g = network s in
    let c = chains_of g s.trace in
    let d : Delta = requeues ((net_of s).node v).head in
    let lengths = (same_lengths g s.trace (net_of s) (after_is_net s.graph s.trace r)).queue v p in
    let then : chains_of g (s.trace ++ Take v p ∷ []) ≡ c =
    happened s graph r (Take v p) lawful d back ∙ ap (λ (b : Bool). taken v p b true (c.queue v p) c) awake
    ∙ turned_alone c v p (c.queue v p) refl (lengths ∙ one) in
    record { fits = are.fits; same = are.same ∙ sym then }

-- the greatest number of a node is the longest chain
pub longest_are : (g : Shape) (es : List Event) (k : Kept) (n : ℕ) → AreChainsOf g es k → n ≡ most_below (length k.numbers) (seen k).node →
    n ≡ longest_chain (network_of g) es
longest_are g es k n are value =
    let count : length k.numbers ≡ suc g.nodes = are.fits.numbers ∙ add-one g.nodes in
    value ∙ ap₂ (λ (m : ℕ) (c : Chains). most_below m c.node) count are.same
