-- The bound, as it is computed.
use Rattle.std.proofs.Common.{◌≡◌, ℕ, ◌+◌, ◌*◌, ◌≤◌, length, refl, subst, arith}
use Rattle.ghs_graph.specs.Bound.{IsFloorLog2}
use Rattle.ghs_graph.specs.Graph.{Shape, IsGraph}
use Rattle.boruvka_protocol.specs.Bound.{floor_log2, bound_of}
use Rattle.boruvka_protocol.proofs.lemmas.Laws.{floor_log2_is}

-- two floors of log2 are one
pub same_floor : (n k : ℕ) → 1 ≤ n → IsFloorLog2 n k → k ≡ floor_log2 n
same_floor n k some log =
    let own = floor_log2_is n some in
    let up = own.greatest k log.at_most in
    let down = log.greatest (floor_log2 n) own.at_most in
    omega (arith, up, down)

pub bound_is : (g : Shape) (n e k : ℕ) → IsGraph g → n ≡ g.nodes → e ≡ length g.keys → IsFloorLog2 n k → 2 * (e * k) + 3 * (n * k) + n ≡ bound_of g
bound_is g n e k ok nodes links log =
    let floor : k ≡ floor_log2 g.nodes = same_floor g.nodes k ok.some (subst (λ m. IsFloorLog2 m k) nodes log) in
    rw (nodes, links, floor) refl
