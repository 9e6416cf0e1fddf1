-- Every event that names a node or port of a network stands in the list of all.
use Rattle.std.proofs.Common.{◌≡◌, ℕ, zero, suc, ◌<◌, ◌≤◌, ⊎_elim, true, [], ◌∷◌, length, sym, subst, arith}
use Rattle.std.specs.List.{Contains}
use Rattle.std.proofs.lemmas.Bool.{and_parts, cases_eq, ltb-true}
use Rattle.std.proofs.lemmas.List.Elements.{Contains-append_left, Contains-append_right}
use Rattle.ghs_graph.proofs.lemmas.Members.{first_in}
use Rattle.peer_network.specs.declared.event.Event.{Event}
use Rattle.peer_network.specs.declared.event.Event.TheVariants.{Wake, Take}
use Rattle.peer_network.specs.Network.{Network}
use Rattle.peer_network.proofs.lemmas.Events.{node_of}
use Rattle.peer_index.specs.Places.{has_place, all_events, events_at, events_to, node_events}

wake_listed : (v d : ℕ) → Contains (events_at v d) (Wake v)
wake_listed v zero = first_in (Wake v) []
wake_listed v (suc d) = Contains-append_left (events_at v d) (Take v d ∷ []) (Wake v) (wake_listed v d)

take_listed : (v d p : ℕ) → p < d → Contains (events_at v d) (Take v p)
take_listed v zero p lt = absurd (omega arith)
take_listed v (suc d) p lt = ⊎_elim
    (λ (e : p ≡ d).
    Contains-append_right (events_at v d) (Take v d ∷ []) (Take v p)
    (subst (λ q. Contains (Take v d ∷ []) (Take v q)) (sym e) (first_in (Take v d) [])))
    (λ ne. Contains-append_left (events_at v d) (Take v d ∷ []) (Take v p) (take_listed v d p (omega arith)))
    (cases_eq p d)

node_listed : (g : Network) (n v : ℕ) (e : Event) → 1 ≤ v → v ≤ n → Contains (node_events g v) e → Contains (events_to g n) e
node_listed g zero v e low high h = absurd (omega arith)
node_listed g (suc n) v e low high h = ⊎_elim
    (λ (same : v ≡ suc n).
    Contains-append_right (events_to g n) (node_events g (suc n)) e (subst (λ u. Contains (node_events g u) e) same h))
    (λ ne. Contains-append_left (events_to g n) (node_events g (suc n)) e (node_listed g n v e low (omega arith) h))
    (cases_eq v (suc n))

pub listed : (g : Network) (e : Event) → has_place g e ≡ true → Contains (all_events g) e
listed g (Wake v) h = let n = node_of g v h in node_listed g g.count v (Wake v) n.0 n.1 (wake_listed v (length (g.ports v)))
listed g (Take v p) h =
    let both = and_parts _ _ h in
    let n = node_of g v both.0 in
    node_listed g g.count v (Take v p) n.0 n.1 (take_listed v (length (g.ports v)) p (ltb-true _ _ both.1))
