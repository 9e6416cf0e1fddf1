-- Events of a run where they stand in it.
use Rattle.std.proofs.Common.{◌≡◌, ◌^◌, ◌<◌, ◌≤◌, ℕ, suc, true, Some, List, ◌∷◌, ◌++◌, ap, arith, drop, length, subst, sym, take, ◌∙◌}
use Rattle.std.specs.List.{slice_index_or}
use Rattle.std.proofs.lemmas.List.{length-take-le, take-append-drop}
use Rattle.std.proofs.Math.Seq.{drop-cons}
use Rattle.ghs_graph.specs.Graph.{Shape}
use Rattle.peer_network.specs.declared.event.Event.{Event}
use Rattle.ghs_protocol.specs.Net.{Net, happens, is_lawful, opening}
use Rattle.peer_network.specs.Network.{network_of}
use Rattle.ghs_protocol.specs.Run.{IsRun, net_after, run}
use Rattle.peer_network.proofs.lemmas.Events.{if_some}
use Rattle.ghs_protocol.proofs.lemmas.Runs.{both_some, net_after_is, run_splits}
use Rattle.ghs_core.specs.NetState.{IsLawful, NetState, net_of, network}

-- an event of a run may happen in the net that those before it have
pub lawful_at : (g : Shape) (es : List Event) (i : ℕ) (d : Event) (s : NetState) → s.graph ≡ g → s.trace ≡ take i es → i < length es →
    IsRun (network_of g) es → IsLawful s (slice_index_or es i d)
lawful_at g es i d s graph trace lt (w, r) =
    let e = slice_index_or es i d in
    let parts : es ≡ take i es ++ (e ∷ drop (suc i) es) =
    sym (take-append-drop i es) ∙ ap (λ (l : List Event). take i es ++ l) (drop-cons es i d lt) in
    let both : run (network_of g) (take i es ++ (e ∷ drop (suc i) es)) (opening (network_of g)) ≡ Some w =
    subst (λ (l : List Event). run (network_of g) l (opening (network_of g)) ≡ Some w) parts r in
    run_splits (network_of g) (take i es) (e ∷ drop (suc i) es) (opening (network_of g)) w both
    (λ x here on. both_some (happens (network_of g) x e) (λ y. run (network_of g) (drop (suc i) es) y) w on
    (λ y happened rest. if_some (is_lawful (network_of g) x e) _ y happened
    (λ lawful effect.
    let at : net_of s ≡ x = ap (λ (h : Shape). net_after h s.trace) graph ∙ ap (net_after g) trace ∙ net_after_is g (take i es) x here in
    subst (λ (n : Net). is_lawful (network s) n e ≡ true) (sym at) (subst (λ (h : Shape). is_lawful (network_of h) x e ≡ true) (sym graph) lawful))))

-- so many were played before it
pub few_at : (es : List Event) (i : ℕ) (s : NetState) → s.trace ≡ take i es → i < length es → length es ≤ 2 ^ 40 → length s.trace < 2 ^ 40
few_at es i s trace lt few =
    let count : length (take i es) ≡ i = length-take-le i es (omega (arith, lt)) in
    let same : length s.trace ≡ i = ap (λ (l : List Event). length l) trace ∙ count in
    omega (arith, same, lt, few)
