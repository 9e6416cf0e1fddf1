-- Events that are lawful: of a node and a port of the network, with a message that waits; and each event of a run is so.
use Rattle.std.proofs.Common.{◌≡◌, ℕ, suc, ◌<◌, ◌≤◌, true, Some, None, List, [], ◌∷◌, ◌++◌, length, get_or, take, drop, refl, sym, ap, subst, slice_get}
use Rattle.std.proofs.Math.Seq.{split_at}
use Rattle.std.proofs.lemmas.Bool.{and_parts}
use Rattle.std.proofs.lemmas.Option.{same_Some}
use Rattle.ghs_graph.specs.Graph.{Shape}
use Rattle.peer_network.specs.declared.event.Event.{Event}
use Rattle.peer_network.specs.declared.event.Event.TheVariants as events
use Rattle.peer_network.specs.Network.{network_of, At}
use Rattle.peer_network.proofs.lemmas.Events.{at_of, if_some, node_of}
use Rattle.peer_machine.specs.declared.work.Work.TheVariants.{Wake, Deliver}
use Rattle.peer_machine.specs.Net.{effect, event_node, happens, is_lawful, opening}
use Rattle.peer_machine.specs.Run.{IsRun, net_after, run}
use Rattle.peer_machine.proofs.lemmas.Runs.{both_some, net_after_is, run_splits}
use Rattle.peer_net.specs.NetState.{NetState, network, delivery, IsLawful}
use Rattle.peer_machine.specs.Rules.{Rules}

pub lawful_node : {S M : Type 0} (r : Rules S M) (s : NetState) (e : Event) → IsLawful r s e → (1 ≤ event_node e) × (event_node e ≤ s.graph.nodes)
lawful_node r s (events.Wake v) h = node_of (network s) v (and_parts _ _ h).0
lawful_node r s (events.Take v p) h = let at = at_of (network s) v p (and_parts _ _ h).0 in (at.some, at.node)

pub lawful_port : {S M : Type 0} (r : Rules S M) (s : NetState) (v p : ℕ) → IsLawful r s (events.Take v p) → At (network s) v p
lawful_port r s v p h = at_of (network s) v p (and_parts _ _ h).0

-- the first message of a queue is what is delivered
pub first_is : {M : Type 0} (p : ℕ) (q : List M) (m : M) → slice_get q 0 ≡ Some m → delivery p q ≡ Deliver p m
first_is p [] m e = cc
first_is p (x ∷ xs) m e = ap (Deliver p) (same_Some _ _ e)

pub first_is_none : {M : Type 0} (p : ℕ) (q : List M) → slice_get q 0 ≡ None → delivery p q ≡ Wake
first_is_none p [] e = refl
first_is_none p (x ∷ xs) e = cc

-- each event of a run is lawful where it stands
pub lawful_here : {S M : Type 0} (r : Rules S M) (g : Shape) (es : List Event) (i : ℕ) (d : Event) → IsRun r (network_of g) es → i < length es →
    is_lawful r (network_of g) (net_after r g (take i es)) (get_or es i d) ≡ true
lawful_here r g es i d is_run lt =
    let n = network_of g in
    let e = get_or es i d in
    let cut : es ≡ take i es ++ e ∷ drop (suc i) es = split_at es i d lt in
    let whole : run r n (take i es ++ e ∷ drop (suc i) es) (opening r n) ≡ Some is_run.0 =
    subst (λ fs. run r n fs (opening r n) ≡ Some is_run.0) cut is_run.1 in
    run_splits r n (take i es) (e ∷ drop (suc i) es) (opening r n) is_run.0 whole (λ x front rest.
    both_some r (happens r n x e) (λ y. run r n (drop (suc i) es) y) is_run.0 rest (λ y here _.
    subst (λ w. is_lawful r n w e ≡ true) (sym (net_after_is r g (take i es) x front))
    (if_some (is_lawful r n x e) (effect r n x e) y here (λ lawful _. lawful))))
