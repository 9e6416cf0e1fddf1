-- No node falls asleep, so runs are short.
use Rattle.std.proofs.Common.{◌≡◌, ◌≢◌, ℕ, zero, suc, false, Option, Some, None, List, [], ◌∷◌, refl, sym, ◌∙◌, ap, subst, arith}
use Rattle.std.specs.Prelude.{filter, is_none}
use Rattle.ghs_graph.specs.declared.key.Key.{Key}
use Rattle.ghs_graph.specs.Graph.{Shape}
use Rattle.peer_network.specs.Network.{network_of, At}
use Rattle.peer_network.proofs.lemmas.Graphs.{graph_wired}
use Rattle.peer_machine.specs.declared.work.Work.TheVariants.{Deliver}
use Rattle.peer_machine.specs.Rules.{Outcome}
use Rattle.peer_machine.specs.Net.{Net, take_first}
use Rattle.peer_machine.specs.Protocol.{StaysAwake}
use Rattle.peer_machine.specs.Run.{IsNetOf}
use Rattle.peer_machine.specs.Steps.{Woke, Took}
use Rattle.peer_machine.proofs.lemmas.Ends.{events_few}
use Rattle.peer_machine.proofs.lemmas.Sends.{node_here}
use Rattle.gather_node.specs.declared.message.Message.{Message}
use Rattle.gather_node.specs.declared.message.Message.TheVariants.{Tree}
use Rattle.gather_node.specs.Gather.{gather}
use Rattle.gather_node.specs.Reaction.{brings, due, explores, hears, in_wave, joins_wave}
use Rattle.gather_node.specs.State.{State, degree}
use Rattle.gather_protocol.proofs.Events.{stale_joined}
use Rattle.gather_protocol.specs.Laws.{RunsAreShort}
use Rattle.gather_protocol.proofs.Bound.{sends_within_bound, trees_of}
use Rattle.gather_protocol.proofs.Rules.{anyone, defers_never, has_kinds, waves_of}
use Rattle.gather_protocol.proofs.Sends.{closed_stand, is_tree}
use Rattle.gather_protocol.proofs.TreeEvents.{own_wave}
use Rattle.gather_protocol.proofs.Turns.{by_turn, told_as, woke_as}

hears_wave : (n : State) (x a : ℕ) → (hears n x a).state.head.wave ≡ n.head.wave
hears_wave n x zero = refl
hears_wave n x (suc k) = (closed_stand (record n { head = record n.head { awaits = k } }) x k n.head.parent []).wave

awake_in : (n : State) (x : ℕ) → n.head.wave ≡ Some x → gather.is_asleep n ≡ false
awake_in n x e = ap is_none e

joins_awake : (n : State) (x : ℕ) (par : Option ℕ) → gather.is_asleep (joins_wave n x par).state ≡ false
joins_awake n x par =
    awake_in (joins_wave n x par).state x (closed_stand (in_wave n x par) x (due (degree n) par) par (explores x (degree n) par)).wave

module _ (g : Shape) (w : Net State Message) (is : IsNetOf gather g w) where
  took_awake : (v p : ℕ) (m : Message) (ms : List Message) (o : Outcome State Message) → At (network_of g) v p → w.queue v p ≡ m ∷ ms →
      gather.reaction (w.node v) (Deliver p m) ≡ Some o → gather.is_asleep o.state ≡ false
  took_awake v p m ms o at q h =
      let n = w.node v in
      let i = waves_of g w is in
      let wired = graph_wired g is.graph in
      by_turn (gather.is_asleep o.state ≡ false) n p m o
      (λ x e c k. so k (joins_awake n x (Some p)))
      (λ x e wave k. so k (awake_in (hears n x n.head.awaits).state x (hears_wave n x n.head.awaits ∙ wave)))
      (λ x y e wave lt k. so k (awake_in n y wave))
      (λ x ks e wave k.
      so k (awake_in (hears (brings n p ks) x n.head.awaits).state x (hears_wave (brings n p ks) x n.head.awaits ∙ wave)))
      (λ x ks e away k.
      let j = stale_joined (network_of g) anyone wired w i v (record { some = at.some; node = at.node }) p m ms at q x ks e in
      let l = (i.nodes v).least x j in
      so k (awake_in n l.0 l.1))
      (λ ks e k.
      let wave = own_wave (network_of g) anyone wired w i (trees_of g w is) v p at (some ks e) in
      so k (ap is_none wave))
      (told_as n p m o h)
    where
      so : {b : Outcome State Message} → b ≡ o → gather.is_asleep b.state ≡ false → gather.is_asleep o.state ≡ false
      so k f = subst (λ (c : Outcome State Message). gather.is_asleep c.state ≡ false) k f

      some : (ks : List Key) → Tree ks ≡ m → filter is_tree (w.queue v p) ≢ []
      some ks e z =
          let f : Tree ks ∷ filter is_tree ms ≡ [] = ap (λ (b : Message). filter is_tree (b ∷ ms)) e ∙ sym (ap (filter is_tree) q) ∙ z in cc

pub awake_stays : StaysAwake gather
awake_stays g w _ _ is (Woke v o lo hi s h t) =
    let k = woke_as (w.node v) o h in
    ap (λ (n : State). gather.is_asleep n) (node_here gather (network_of g) v o w)
    ∙ subst (λ (c : Outcome State Message). gather.is_asleep c.state ≡ false) k.1 (joins_awake (w.node v) (w.node v).number None)
awake_stays g w _ _ is (Took v p m ms o at q h t) =
    ap (λ (n : State). gather.is_asleep n) (node_here gather (network_of g) v o (take_first gather (network_of g) v p m ms w))
    ∙ took_awake g w is v p m ms o at q h

pub runs_are_short : RunsAreShort
runs_are_short g ok es run =
    let a = events_few gather defers_never awake_stays has_kinds g es run.0 ok run.1 in
    let b = sends_within_bound g run.0 (record { graph = ok; events = es; run = run.1 }) in
    omega (arith, a, b)
