use Rattle.std.proofs.Common.{arith}
use Rattle.peer_network.specs.Network.{network_of}
use Rattle.peer_index.proofs.Finding.{span}
use Rattle.peer_index.proofs.bases.span_of.Goals as goal

pub returns-clause-order : goal.returns-clause-order
returns-clause-order c =
    let s = span (network_of c.args.graph.now) c.args.bases.now c.args.v c.requires.bases c.requires.low c.requires.high in
    let from = s.from in
    let to = s.to in
    let many = s.many in
    omega arith

pub returns-clause-within : goal.returns-clause-within
returns-clause-within c =
    let s = span (network_of c.args.graph.now) c.args.bases.now c.args.v c.requires.bases c.requires.low c.requires.high in
    let to = s.to in
    let within = s.within in
    omega arith
