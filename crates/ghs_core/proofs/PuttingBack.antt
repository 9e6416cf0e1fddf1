-- What a net keeps when a message is only put back.
use Rattle.std.proofs.Common.{◌≡◌, ℕ, ◌-◌, ◌<◌, ◌++◌, ◌∷◌, [], List, Some, get_or, refl, sym, ◌∙◌, ap, subst, arith}
use Rattle.std.specs.List.{slice_get}
use Rattle.std.proofs.lemmas.List.{get_or_default, set-get_or}
use Rattle.std.proofs.lemmas.Option.{same_Some}
use Rattle.ghs_graph.specs.Graph.{Shape}
use Rattle.ghs_node.specs.declared.delta.Delta.{Delta}
use Rattle.ghs_node.specs.declared.delta.Fate.TheVariants.{Requeued}
use Rattle.ghs_node.specs.declared.message.Message.{Message}
use Rattle.ghs_node.specs.NodeState.{NodeState, degree}
use Rattle.ghs_node.specs.Reaction.{after, reaction, requeues}
use Rattle.peer_channels.specs.Channels.{ChannelsState, queue_at}
use Rattle.peer_network.specs.declared.event.Event.{Event}
use Rattle.peer_network.specs.declared.event.Event.TheVariants.{Take}
use Rattle.ghs_protocol.specs.Living.{Waits}
use Rattle.peer_network.specs.Network.{At, network_of}
use Rattle.ghs_protocol.specs.Run.{net_after}
use Rattle.ghs_protocol.proofs.lemmas.Waiting.{waits_reaction}
use Rattle.ghs_core.specs.declared.counts.Counts.{Counts}
use Rattle.ghs_core.specs.declared.halts.Halts.{Halts}
use Rattle.ghs_core.specs.Dispatch.{Disposes}
use Rattle.ghs_core.specs.Kept.{IsKept, no_node}
use Rattle.ghs_core.specs.NetState.{NetState, net_of, delivery, IsLawful}
use Rattle.ghs_core.specs.PutBack.{IsPutBack}
use Rattle.ghs_core.proofs.Playing.{Plays, found, inside, played_still}
use Rattle.ghs_core.proofs.Reading.{node_found, port_below}
use Rattle.ghs_core.proofs.Sending.{none_sent}

module _ {g : Shape} {es : List Event} {nodes : List NodeState} {channels : ChannelsState Message} {counts : Counts} {halts : Halts} {v p : ℕ}
    (plays : Plays g es nodes channels counts halts (Take v p) (requeues ((net_after g es).node v).head)) where
  abbrev answer : Delta
  answer = requeues ((net_after g es).node v).head

  abbrev node : NodeState
  node = get_or nodes (v - 1) no_node

  there : node ≡ get_or nodes (v - 1) node
  there = sym (get_or_default nodes (v - 1) node no_node (inside plays))

  -- the node stays as it is
  unchanged : node ≡ after node answer
  unchanged = subst (λ (n : NodeState). n ≡ after n answer) (sym (found plays node there)) refl

  pub kept_back : (l : ChannelsState Message) (c : Counts) → Disposes (Take v p) Requeued channels l counts c →
      IsKept g (es ++ Take v p ∷ []) nodes l c halts
  kept_back l c s =
      let nothing = none_sent g v [] l c.sent (λ i has. omega arith) in
      subst (λ (ns : List NodeState). IsKept g (es ++ Take v p ∷ []) ns l c halts) (set-get_or nodes (v - 1) no_node)
      (played_still plays l c s l c.sent nothing.arrives nothing.counts node there unchanged)

-- the events of a run so far, and a message that is only put back
pub plays_back :
    {g : Shape} {es : List Event} {nodes : List NodeState} {channels : ChannelsState Message} {counts : Counts} {halts : Halts} {spare : ℕ} {s :
    NetState}
    {v p : ℕ} →
    IsKept g es nodes channels counts halts → record { graph = g; trace = es; channels = channels; spare = spare } ≡ s → IsLawful s (Take v p) →
    IsPutBack s v p →
    Plays g es nodes channels counts halts (Take v p) (requeues ((net_after g es).node v).head)
plays_back kept view lawful back = record { kept = kept; lawful = rw (← view) at lawful; answer = rw (← view) at back }

-- a first message that waits is only put back
pub back_where_waits : (s : NetState) (v p : ℕ) (m : Message) → p < degree ((net_of s).node v) → Some m ≡ slice_get ((net_of s).queue v p) 0 →
    Waits ((net_of s).node v) p m → IsPutBack s v p
back_where_waits s v p m lt first h = of_queue ((net_of s).queue v p) first
  where
    of_queue : (q : List Message) → Some m ≡ slice_get q 0 → reaction ((net_of s).node v) (delivery p q) ≡ Some (requeues ((net_of s).node v).head)
    of_queue [] e = cc
    of_queue (x ∷ q) e = let same : x ≡ m = same_Some x m (sym e) in rw same (waits_reaction ((net_of s).node v) p m lt h)

-- the same, of what contracts see
pub back_here :
    {g : Shape} {es : List Event} {nodes : List NodeState} {channels : ChannelsState Message} {counts : Counts} {halts : Halts} {spare : ℕ} {s :
    NetState} →
    (kept : IsKept g es nodes channels counts halts) → record { graph = g; trace = es; channels = channels; spare = spare } ≡ s →
    (v p : ℕ) (x : NodeState) → At (network_of g) v p → x ≡ get_or nodes (v - 1) x → (m : Message) → Some m ≡ slice_get (queue_at channels v p) 0 →
    Waits x p m → IsPutBack s v p
back_here {g} {es} {nodes} {channels} {counts} {halts} {spare} kept view v p x at is m first h =
    let here = node_found kept v x at.some at.node is in
    rw (← view)
    (back_where_waits (record { graph = g; trace = es; channels = channels; spare = spare }) v p m
    (subst (λ (n : NodeState). p < degree n) here (port_below kept v p x at is))
    (first ∙ ap (λ (q : List Message). slice_get q 0) (kept.shows.queue v p at))
    (subst (λ (n : NodeState). Waits n p m) here h))
