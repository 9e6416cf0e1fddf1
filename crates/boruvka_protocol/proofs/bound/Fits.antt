-- The bound of each graph is below 2^64: no more than 2^20 nodes, each of as few levels, and 2^23 links.
use Rattle.std.proofs.Common.{ℕ, ◌*◌, ◌≤◌, length, arith}
use Rattle.std.proofs.Math.Nat.{mul-le-mul_left, mul-le-mul_right}
use Rattle.ghs_graph.specs.Bound.{IsFloorLog2}
use Rattle.peer_machine.specs.Protocol.{FitsGraphs}
use Rattle.boruvka_protocol.specs.Bound.{floor_log2, bound_of}
use Rattle.boruvka_protocol.proofs.bound.Logs.{small, floor_log2_is}

-- a product of numbers that are few
product_most : (a b c d : ℕ) → a ≤ c → b ≤ d → a * b ≤ c * d
product_most a b c d le le' =
    let one : a * b ≤ c * b = mul-le-mul_right b le in
    let two : c * b ≤ c * d = mul-le-mul_left c le' in
    omega (arith, one, two)

pub bound_fits : FitsGraphs bound_of
bound_fits g ok =
    let log = floor_log2_is g.nodes ok.some in
    let k = floor_log2 g.nodes in
    let levels : k ≤ g.nodes = few k log in
    let low : k ≤ 1048576 = omega (arith, levels, ok.nodes) in
    let links : length g.keys * k ≤ 8388608 * 1048576 = product_most (length g.keys) k 8388608 1048576 (omega (arith, ok.links)) low in
    let nodes : g.nodes * k ≤ 1048576 * 1048576 = product_most g.nodes k 1048576 1048576 (omega (arith, ok.nodes)) low in
    omega (arith, links, nodes, ok.nodes)
  where
    few : (k : ℕ) → IsFloorLog2 g.nodes k → k ≤ g.nodes
    few k log = let a = small g.nodes k log k in omega (arith, a, log.at_most)
