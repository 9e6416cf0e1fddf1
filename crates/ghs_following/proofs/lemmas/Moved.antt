-- What is kept of one run is kept of the same.
use Rattle.std.proofs.Common.{◌≡◌, List, subst, sym}
use Rattle.ghs_graph.specs.Graph.{Shape}
use Rattle.peer_network.specs.declared.event.Event.{Event}

-- the same graph and the same events
pub moved : {K : Type 0} (is_of : Shape → List Event → K → Type 0) (g h : Shape) (es fs : List Event) (k : K) → h ≡ g → fs ≡ es → is_of g es k →
    is_of h fs k
moved is_of g h es fs k graph events is =
    subst (λ (x : Shape). is_of x fs k) (sym graph) (subst (λ (l : List Event). is_of g l k) (sym events) is)
