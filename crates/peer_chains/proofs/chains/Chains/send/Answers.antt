use Rattle.std.proofs.Common.{◌≡◌, ◌+◌, ◌∙◌, ℕ, List, ap, slice_index, subst, sym}
use Rattle.std.specs.List.{slice_index_or}
use Rattle.std.proofs.lemmas.List.{get_or_default}
use Rattle.ghs_graph.specs.declared.port.Port.{Port}
use Rattle.ghs_graph.specs.Ports.{no_port}
use Rattle.peer_network.specs.Network.{far, far_port, network_of}
use Rattle.peer_chains.specs.Chains.{with_last}
use Rattle.peer_chains.specs.Kept.{HasPlace, seen}
use Rattle.peer_chains.proofs.Placing.{one_port, one_sent}
use Rattle.peer_chains.proofs.lemmas.Fitting.{place_kept, same_then}
use Rattle.peer_chains.proofs.chains.Chains.send.Goals as goal

pub push-requires : goal.push-requires
push-requires g c =
    let n = network_of c.args.graph.now in
    let v = c.args.v in
    let s = slice_index_or c.args.sends.now c.loop-port.port-index c.loop-port-item.result in
    let item : c.loop-port-item.result ≡ s = c.loop-port-item.is in
    let there : HasPlace c.loop-port.self (far n v s.0) (far_port n v s.0) =
    place_kept c.args.self.now c.loop-port.self _ _ c.loop-port.invariant.places
    (c.requires.far c.loop-port.port-index c.loop-port-item.result c.loop-port-test.true) in
    let of_item : HasPlace c.loop-port.self (far n v c.loop-port-item.result.0) (far_port n v c.loop-port-item.result.0) =
    subst (λ (p : ℕ). HasPlace c.loop-port.self (far n v p) (far_port n v p)) (sym (one_port c.loop-port-item.result s item)) there in
    subst (λ (ps : List Port). HasPlace c.loop-port.self (slice_index_or ps c.loop-port-item.result.0 no_port).far
    (slice_index_or ps c.loop-port-item.result.0 no_port).far_port)
    (sym c.ports-ports.ensures) of_item

pub loop-port-preserved : goal.loop-port-preserved
loop-port-preserved g c =
    let n = network_of c.args.graph.now in
    let v = c.args.v in
    let x = c.loop-port-item.result in
    let s = slice_index_or c.args.sends.now c.loop-port.port-index x in
    let item : x ≡ s = c.loop-port-item.is in
    let m = c.index-number.result.now + 1 in
    let number : m ≡ slice_index c.args.self.now.numbers v + 1 =
    rw (← c.self.view_is) (ap (λ (k : ℕ). k + 1)
    (c.index-number.ensures ∙ get_or_default c.self.inside.numbers.items v c.index-number.result.now 0 (rw (← c.self.view_is) at c.requires.node))) in
    let one : seen c.push.new.self ≡ with_last (far n v x.0) (far_port n v x.0) m (seen c.loop-port.self) =
    subst (λ (ps : List Port). seen c.push.new.self ≡
    with_last (slice_index_or ps x.0 no_port).far (slice_index_or ps x.0 no_port).far_port m (seen c.loop-port.self))
    c.ports-ports.ensures c.in_ok-push.ensures.last in
    let two =
    subst (λ (p : ℕ). seen c.push.new.self ≡ with_last (far n v p) (far_port n v p) m (seen c.loop-port.self)) (one_port x s item) one in
    record {
      places = same_then c.args.self.now c.loop-port.self c.push.new.self c.loop-port.invariant.places c.in_ok-push.ensures.places;
      numbers = c.in_ok-push.ensures.numbers ∙ c.loop-port.invariant.numbers;
      sent = one_sent n v c.loop-port.port-index m c.args.sends.now x c.args.self.now c.loop-port.self c.push.new.self c.loop-port-test.true
          c.loop-port.invariant.sent number two;
    }
