-- What the fields of a net tell.
use Rattle.std.proofs.Common.{◌≡◌, ℕ, zero, suc, ◌<◌, ◌↔◌, nat_eq, IsTrue, List, [], ◌∷◌, length, get_or, replicate, refl, ◌∙◌, ap, arith, eq-eqb, eqb-true}
use Rattle.std.proofs.lemmas.List.{length-replicate, get_or-replicate}
use Rattle.ghs_graph.specs.Graph.{Shape}
use Rattle.peer_network.specs.declared.event.Event.{Event}
use Rattle.peer_network.specs.Network.{network_of}
use Rattle.peer_network.specs.Sums.{sum_below}
use Rattle.peer_network.proofs.lemmas.Graphs.{graph_wired}
use Rattle.peer_network.proofs.lemmas.Sums.{sum_same, sum_none, term_le, ports_none, ports_same}
use Rattle.peer_machine.specs.Rules.{Rules, HasKinds}
use Rattle.peer_machine.specs.Net.{Net, opening}
use Rattle.peer_machine.specs.Run.{net_after}
use Rattle.peer_machine.specs.Ledger.{waiting}
use Rattle.peer_machine.specs.Protocol.{IsBoundedBy}
use Rattle.peer_machine.proofs.lemmas.Balance.{after_balanced, balanced_in_all}
use Rattle.peer_machine.proofs.lemmas.Runs.{net_after_is}
use Rattle.peer_net.specs.declared.counts.Counts.{Counts}
use Rattle.peer_net.specs.declared.ledger.Ledger.{Ledger}
use Rattle.peer_net.specs.NetState.{IsSilent}
use Rattle.peer_channels.specs.Channels.{ChannelsState, IsFor, AllEmpty, total_of}
use Rattle.peer_channels.proofs.lemmas.Rooms.{port_queue}
use Rattle.peer_net.specs.Counts.{AreNone}
use Rattle.peer_net.specs.Ledger.{IsLedger, IsWithin}
use Rattle.peer_net.specs.Kept.{AreCounts, AreOpen, IsKept}
use Rattle.peer_net.proofs.Playing.{after, is_net}

module _ {S M : Type 0} {r : Rules S M} {g : Shape} {es : List Event} {states : List S} {l : ChannelsState M} {c : Counts}
    (kept : IsKept r g es states l c) where
  abbrev w : Net S M
  w = net_after r g es

  module _ (kinds : HasKinds r) where
    -- what is counted as queued waits
    pub queued_is : total_of l ≡ waiting (network_of g) w
    queued_is =
        let b = balanced_in_all r kinds (network_of g) w (after_balanced r (network_of g) (graph_wired g kept.graph) es w (after kept)) in
        let a = kept.shows.queued in
        omega (arith, a, b)

    -- the ledger
    pub told : (x : Ledger) → x.sent.now ≡ c.sent.items → x.consumed.now ≡ c.consumed.items → x.queued ≡ total_of l → x.deferred ≡ c.deferred →
        IsLedger r (network_of g) w x
    told x s d n f =
        let balanced = after_balanced r (network_of g) (graph_wired g kept.graph) es w (after kept) in
        let sent : (k : ℕ) → k < r.kinds → get_or x.sent.now k 0 ≡ w.sent k =
        λ k lt. ap (λ (y : List ℕ). get_or y k 0) s ∙ kept.shows.sent.each k lt in
        let consumed : (k : ℕ) → k < r.kinds → get_or x.consumed.now k 0 ≡ w.consumed k =
        λ k lt. ap (λ (y : List ℕ). get_or y k 0) d ∙ kept.shows.consumed.each k lt in
        let all_sent = sum_same r.kinds (λ k. get_or x.sent.now k 0) w.sent sent in
        let all_consumed = sum_same r.kinds (λ k. get_or x.consumed.now k 0) w.consumed consumed in
        let a = kept.shows.queued in
        record {
          sent_kinds = ap (λ (y : List ℕ). length y) s ∙ kept.shows.sent.many;
          consumed_kinds = ap (λ (y : List ℕ). length y) d ∙ kept.shows.consumed.many;
          sent = sent;
          consumed = consumed;
          queued = n ∙ queued_is;
          deferred = f ∙ kept.shows.deferred;
          kinds = λ k lt. let a = sent k lt in let y = consumed k lt in let b = balanced k in omega (arith, a, y, b);
          balance = omega (arith, all_sent, all_consumed, a, n);
        }

    -- nothing is counted as queued just where nothing waits
    pub silent_so : IsTrue (nat_eq (total_of l) 0) ↔ IsSilent (network_of g) w
    silent_so = (none, all)
      where
        nil : (l : List M) → length l ≡ 0 → l ≡ []
        nil [] z = refl
        nil (m ∷ ms) z = absurd (omega (arith, z))

        none : IsTrue (nat_eq (total_of l) 0) → IsSilent (network_of g) w
        none t zero p at = absurd (let lo = at.some in omega (arith, lo))
        none t (suc i) p at =
            let n = eqb-true (total_of l) 0 t in
            let one = term_le (length ((network_of g).ports (suc i))) p (λ b. length (w.queue (suc i) b)) at.port in
            let hi = at.node in
            let row =
            term_le g.nodes i (λ a. sum_below (length ((network_of g).ports (suc a))) (λ b. length (w.queue (suc a) b))) (omega (arith, hi)) in
            nil (w.queue (suc i) p) (omega (arith, n, one, row, queued_is))

        all : IsSilent (network_of g) w → IsTrue (nat_eq (total_of l) 0)
        all h =
            let same = ports_same (network_of g) (λ v p. length (w.queue v p)) (λ v p. 0) (λ v p at. ap (λ (l : List M). length l) (h v p at)) in
            let zero = ports_none (network_of g) (λ v p. 0) (λ v p. refl) in
            eq-eqb (total_of l) 0 (queued_is ∙ same ∙ zero)

  -- what was sent is within the bound
  pub within : {bound : Shape → ℕ} → IsBoundedBy r bound → (x : Ledger) → x.sent.now ≡ c.sent.items → IsWithin r (bound g) x
  within bounded x s =
      let all =
      sum_same r.kinds (λ k. get_or x.sent.now k 0) w.sent (λ k lt. ap (λ (y : List ℕ). get_or y k 0) s ∙ kept.shows.sent.each k lt) in
      let b = bounded g w (is_net kept) in
      omega (arith, all, b)

-- the fields of an opening net
module _ {S M : Type 0} (r : Rules S M) (g : Shape) where
  pub opens : net_after r g [] ≡ opening r (network_of g)
  opens = net_after_is r g [] (opening r (network_of g)) refl

  none_of : (l : List ℕ) → l ≡ replicate r.kinds 0 → AreCounts r.kinds (λ k. 0) l
  none_of l e = rw e (record { many = length-replicate r.kinds 0; each = λ k lt. get_or-replicate r.kinds k 0 0 lt })

  pub opened : (states : List S) (l : ChannelsState M) (c : Counts) → AreOpen r g states → IsFor g l → AllEmpty l → total_of l ≡ 0 →
      AreNone r.kinds c →
      IsKept r g [] states l c
  opened states l c s for empty none n = record {
    graph = s.graph;
    run = (opening r (network_of g), refl);
    shows = rw opens (record {
      states = s.states;
      queues = record { ports = for; queue = λ v p at. empty v p (port_queue for v p at) };
      sent = none_of c.sent.items n.sent;
      consumed = none_of c.consumed.items n.consumed;
      queued =
          let z = sum_none r.kinds (λ k. 0) (λ k lt. refl) in
          omega (arith, none, z);
      deferred = n.deferred;
    });
  }
