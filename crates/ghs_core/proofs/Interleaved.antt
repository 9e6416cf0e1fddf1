-- What holds of every run, for the net at hand.
use Rattle.std.proofs.Common.{◌≡◌, ℕ, ◌≤◌, ◌^◌, List, [], ◌∷◌, get_or, true, refl, arith}
use Rattle.std.specs.Prelude.{IsSome, IfOk, Result, Ok, Err, Option, Some, None, ◌↔◌}
use Rattle.std.proofs.lemmas.Bool.{and_parts}
use Rattle.ghs_graph.specs.Graph.{Shape, IsGraph}
use Rattle.ghs_node.specs.NodeState.{mark_at}
use Rattle.ghs_node.specs.declared.mark.Mark.TheVariants.{Rejected, Branch}
use Rattle.ghs_node.specs.declared.message.Message.{Message}
use Rattle.ghs_node.specs.declared.work.Work.{Work}
use Rattle.ghs_node.specs.Reaction.{reaction}
use Rattle.peer_network.specs.declared.event.Event.{Event}
use Rattle.peer_network.specs.declared.event.Event.TheVariants.{Wake, Take}
use Rattle.ghs_protocol.specs.Net.{Net, is_lawful, is_waiting}
use Rattle.peer_network.specs.Network.{Network, network_of, port_at, far, At}
use Rattle.ghs_protocol.specs.Run.{IsRun, net_after}
use Rattle.ghs_protocol.specs.Marks.{InOneFragment, IsBranchLink, HasHalted, HasEnded}
use Rattle.ghs_protocol.specs.Laws.{IsNetOf}
use Rattle.ghs_protocol.specs.Interleavings.{HaveAtLeast, Asks, To_wake, To_take}
use Rattle.ghs_node.proofs.lemmas.{sleeping_is}
use Rattle.peer_network.proofs.lemmas.Events.{node_of}
use Rattle.ghs_protocol.proofs.lemmas.Runs.{after_is_net}
use Rattle.ghs_graph.specs.declared.key.Key.{Key}
use Rattle.ghs_graph.specs.Links.{InTree, IsTree}
use Rattle.ghs_protocol.proofs.lemmas.Laws.{branch_links_in_tree, rejected_links_aside, halt_is_exact, end_is_tree, sends_within, sends_within_sharp, fragments_are_large, rejected_links_inside, work_has_reaction}
use Rattle.peer_network.proofs.lemmas.Sums.{sum_same}
use Rattle.ghs_protocol.specs.Ledger.{in_all}
use Rattle.ghs_core.specs.declared.ledger.Ledger.{Ledger}
use Rattle.ghs_core.specs.Ledger.{IsLedger, IsWithinBound}
use Rattle.ghs_core.specs.Marked.{IsInFragment, IsExactAt, IsExactWhere, IsExact, AreInTree, AreBranches}
use Rattle.ghs_core.specs.NetState.{IsLeastHalted, event_node, work_at, delivery}
use Rattle.ghs_core.proofs.Reading.{lawful_port}

-- the net that a run of a graph leaves
pub net_of_run : (g : Shape) (es : List Event) → IsGraph g → IsRun (network_of g) es → IsNetOf g (net_after g es)
net_of_run g es graph run = record { graph = graph; events = es; run = after_is_net g es run }

pub large_fragment : (g : Shape) (es : List Event) →
    IsGraph g →
    IsRun (network_of g) es →
    (v level : ℕ) → 1 ≤ v →
    v ≤ g.nodes →
    level ≡ ((net_after g es).node v).head.level →
    HaveAtLeast (2 ^ level) (IsInFragment (network_of g) (net_after g es) v)
large_fragment g es graph run v level low high e = rw e (fragments_are_large g (net_after g es) (net_of_run g es graph run) v low high)

pub inside_fragment : (g : Shape) (es : List Event) →
    IsGraph g →
    IsRun (network_of g) es →
    (v p : ℕ) → At (network_of g) v p →
    mark_at ((net_after g es).node v) p ≡ Rejected →
    InOneFragment (network_of g) (net_after g es) v (far (network_of g) v p)
inside_fragment g es graph run v p at marked = rejected_links_inside g (net_after g es) (net_of_run g es graph run) v p at marked

-- what an event that may happen asks of its node
asked : (g : Network) (w : Net) (e : Event) → is_lawful g w e ≡ true → Asks g w (event_node e) (work_at w e)
asked g w (Wake v) l = let b = and_parts _ _ l in let n = node_of g v b.0 in To_wake v n.0 n.1 (sleeping_is _ b.1)
asked g w (Take v p) l = go (w.queue v p) refl (and_parts _ _ l).1 where
  go : (q : List Message) → w.queue v p ≡ q → is_waiting q ≡ true → Asks g w v (delivery p q)
  go [] e b = absurd cc
  go (m ∷ ms) e b = To_take v p m ms (lawful_port g w v p l) e

pub work_has_rule : (g : Shape) (es : List Event) →
    IsGraph g →
    IsRun (network_of g) es →
    (e : Event) (k : Work) → is_lawful (network_of g) (net_after g es) e ≡ true →
    k ≡ work_at (net_after g es) e →
    IsSome (reaction ((net_after g es).node (event_node e)) k)
work_has_rule g es graph run e k lawful is =
    rw is (work_has_reaction g (net_after g es) (net_of_run g es graph run) (event_node e) (work_at (net_after g es) e)
    (asked (network_of g) (net_after g es) e lawful))

pub branch_tree : (g : Shape) (es : List Event) →
    IsGraph g →
    IsRun (network_of g) es →
    (v p : ℕ) → At (network_of g) v p →
    mark_at ((net_after g es).node v) p ≡ Branch →
    InTree g.keys (port_at (network_of g) v p).key
branch_tree g es graph run v p at m =
    branch_links_in_tree g (net_after g es) (net_of_run g es graph run) (port_at (network_of g) v p).key (v, p, at, refl, m)

pub rejected_tree : (g : Shape) (es : List Event) → IsGraph g → IsRun (network_of g) es → (v p : ℕ) → At (network_of g) v p →
    mark_at ((net_after g es).node v) p ≡ Rejected → InTree g.keys (port_at (network_of g) v p).key → ⊥
rejected_tree g es graph run v p at m =
    rejected_links_aside g (net_after g es) (net_of_run g es graph run) (port_at (network_of g) v p).key (v, p, at, refl, m)

pub branches_tree : (g : Shape) (es : List Event) →
    IsGraph g →
    IsRun (network_of g) es →
    (k : Key) → IsBranchLink (network_of g) (net_after g es) k →
    InTree g.keys k
branches_tree g es graph run k b = branch_links_in_tree g (net_after g es) (net_of_run g es graph run) k b

pub exact_halt : (g : Shape) (es : List Event) →
    IsGraph g →
    IsRun (network_of g) es →
    (v : ℕ) → 1 ≤ v →
    v ≤ g.nodes →
    HasHalted (net_after g es) v →
    IsExactAt g (net_after g es) v
exact_halt g es graph run v lo hi h = halt_is_exact g (net_after g es) (net_of_run g es graph run) v lo hi h

-- of the keys in an answer
pub all_in_tree : (g : Shape) (es : List Event) → IsGraph g → IsRun (network_of g) es → {A E : Type 0} (r : Result A E) (items : A → List Key) →
    IfOk r (λ x. AreBranches (network_of g) (net_after g es) (items x)) → IfOk r (λ x. AreInTree g.keys (items x))
all_in_tree g es graph run (Ok x) items h = λ k i. branches_tree g es graph run k ((h.all k).0 i)
all_in_tree g es graph run (Err e) items h = tt

-- and where the run has ended
pub all_of_tree : (g : Shape) (es : List Event) → IsGraph g → IsRun (network_of g) es → {A E : Type 0} (r : Result A E) (items : A → List Key) →
    IfOk r (λ x. AreBranches (network_of g) (net_after g es) (items x)) →
    IfOk r (λ x. HasEnded g (net_after g es) → IsTree g.keys (items x))
all_of_tree g es graph run (Ok x) items h = λ ended.
    let is : (k : Key) → IsBranchLink (network_of g) (net_after g es) k ↔ InTree g.keys k =
    λ k. (end_is_tree g (net_after g es) (net_of_run g es graph run) ended k).0 in
    record { rising = h.rising; has = λ k i. (is k).0 ((h.all k).0 i); all = λ k tree. (h.all k).1 ((is k).1 tree) }
all_of_tree g es graph run (Err e) items h = tt

-- where the least halted node is named
pub exact_where : (g : Shape) (es : List Event) →
    IsGraph g →
    IsRun (network_of g) es →
    (o : Option ℕ) → IsLeastHalted (network_of g) (net_after g es) o →
    IsExactWhere g (net_after g es) o
exact_where g es graph run None h = tt
exact_where g es graph run (Some v) h = exact_halt g es graph run v h.0 h.1 h.2

-- where the run has ended
pub exact_end : (g : Shape) (es : List Event) → IsGraph g → IsRun (network_of g) es → HasEnded g (net_after g es) → IsExact g (net_after g es)
exact_end g es graph run ended = end_is_tree g (net_after g es) (net_of_run g es graph run) ended

-- what a ledger counts as sent
pub within_bound : (g : Shape) (es : List Event) →
    IsGraph g →
    IsRun (network_of g) es →
    (l : Ledger) → IsLedger (network_of g) (net_after g es) l →
    IsWithinBound g l
within_bound g es graph run l told =
    let same : in_all (λ k. get_or l.sent k 0) ≡ in_all (net_after g es).sent = sum_same 7 _ _ told.sent in
    record {
      bound = λ b is. let z = sends_within g (net_after g es) (net_of_run g es graph run) b is in omega (arith, z, same);
      spare = λ b two is. let z = sends_within_sharp g (net_after g es) (net_of_run g es graph run) b two is in omega (arith, z, same);
    }
