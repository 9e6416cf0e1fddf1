use Rattle.std.proofs.Common.{◌≡◌, ◌<◌, ◌+◌, ◌∙◌, ℕ, suc, ◌∷◌, ap, drop, drop-cons, get_or, length, subst, sym, arith}
use Rattle.std.proofs.Math.ListN.{drop_of_length-le}
use Rattle.std.proofs.lemmas.List.Elements.{All-get_or}
use Rattle.ghs_graph.specs.Ports.{ports_of}
use Rattle.ghs_node.specs.declared.message.Message.{Message}
use Rattle.ghs_node.specs.Words.{Outgoing}
use Rattle.peer_network.specs.Network.{Network, network_of}
use Rattle.ghs_orders.specs.Kept.{NumbersState, with_all, with_one}
use Rattle.ghs_orders.proofs.Numbering.{for_one}
use Rattle.ghs_orders.proofs.numbers.Numbers.send.Goals as goal

-- the next of what is left to send
next_sent : (g : Network) (v i : ℕ) (ss : Outgoing) (s : ℕ × Message) (k : NumbersState) → i < length ss → s ≡ get_or ss i s →
    with_all g v (drop i ss) k ≡ with_all g v (drop (i + 1) ss) (with_one g v s.0 k)
next_sent g v i ss s k lt e =
    let up : suc i ≡ i + 1 = omega arith in
    ap (λ (l : Outgoing). with_all g v l k) (drop-cons ss i s lt ∙ ap (λ (x : ℕ × Message). x ∷ drop (suc i) ss) (sym e))
    ∙ ap (λ (n : ℕ). with_all g v (drop n ss) (with_one g v s.0 k)) up

pub send_on-requires-clause-port : goal.send_on-requires-clause-port
send_on-requires-clause-port c =
    let port = All-get_or (λ (s : ℕ × Message). s.0 < length (ports_of c.args.graph.now.keys c.args.v)) c.args.sends.now c.loop-port.port-index
    c.loop-port-item.result c.loop-port-test.true c.requires.ports in
    record {
      some = c.requires.low;
      node = c.requires.high;
      port = subst (λ (s : ℕ × Message). s.0 < length (ports_of c.args.graph.now.keys c.args.v)) (sym c.loop-port-item.is) port;
    }

pub send_on-requires-clause-few : goal.send_on-requires-clause-few
send_on-requires-clause-few c =
    let count = c.loop-port.invariant.count in
    let lt = c.loop-port-test.true in
    let few = c.requires.few in
    omega (arith, count, lt, few)

pub send_on-requires-clause-kept : goal.send_on-requires-clause-kept
send_on-requires-clause-kept c = c.loop-port.invariant.kept

pub loop-port-preserved : goal.loop-port-preserved
loop-port-preserved c =
    let g = network_of c.args.graph.now in
    record {
      kept = rw c.send_on.ensures (for_one g c.args.v c.loop-port-item.result.0 c.loop-port.self c.loop-port.invariant.kept);
      count =
          let before = c.loop-port.invariant.count in
          let one = ap (λ (k : NumbersState). k.count) c.send_on.ensures in
          omega (arith, before, one);
      sent =
          ap (with_all g c.args.v (drop (c.loop-port.port-index + 1) c.args.sends.now)) c.send_on.ensures
          ∙ sym (next_sent g c.args.v c.loop-port.port-index c.args.sends.now c.loop-port-item.result c.loop-port.self c.loop-port-test.true
          c.loop-port-item.is)
          ∙ c.loop-port.invariant.sent;
    }

pub returns : goal.returns
returns c = let end = c.loop-port-test.false in (rw (drop_of_length-le c.args.sends.now end) at c.loop-port.invariant.sent)
