-- Nodes that pay for what they do: what they paid for, and what all nodes have left, is no more than they opened with.
use Rattle.std.proofs.Common.{◌≡◌, ℕ, zero, suc, ◌+◌, ◌*◌, ◌≤◌, Bool, true, false, List, length, Some, refl, sym, ap, cond, arith}
use Rattle.ghs_graph.specs.declared.port.Port.{Port}
use Rattle.peer_network.specs.declared.event.Event.{Event}
use Rattle.peer_network.specs.Network.{Network, network_of}
use Rattle.peer_network.specs.Sums.{sum_below}
use Rattle.peer_network.proofs.lemmas.Graphs.{graph_wired}
use Rattle.peer_network.proofs.lemmas.Sums.{sum_none, sum_one}
use Rattle.peer_network.proofs.lemmas.Updates.{put_same, put_other}
use Rattle.peer_machine.specs.declared.work.Work.{Work}
use Rattle.peer_machine.specs.declared.work.Work.TheVariants.{Wake, Deliver}
use Rattle.peer_machine.specs.Rules.{Rules, Outcome, HasKinds}
use Rattle.peer_machine.specs.Net.{Net, opening, put, reacted, take_first}
use Rattle.peer_machine.specs.Run.{IsAfter}
use Rattle.peer_machine.specs.Ledger.{in_all}
use Rattle.peer_machine.specs.Steps.{Happens, Woke, Took}
use Rattle.peer_machine.specs.Budget.{PaysFrom, DefersFrom, SendsWithin, EndsWithin}
use Rattle.peer_machine.proofs.lemmas.Balance.{after_balanced, balanced_in_all}
use Rattle.peer_machine.proofs.lemmas.Counts.{after_counts, sent_in_all, take_defers}
use Rattle.peer_machine.proofs.lemmas.Ends.{wakes_few}
use Rattle.peer_machine.proofs.lemmas.Runs.{run_keeps}
use Rattle.peer_machine.proofs.lemmas.Sends.{deferred_now, nodes_put}

sum_each : (n most : ℕ) (f : ℕ → ℕ) → ((i : ℕ) → f i ≤ most) → sum_below n f ≤ n * most
sum_each zero most f e = omega arith
sum_each (suc n) most f e = let rest = sum_each n most f e in let here = e n in omega (arith, rest, here)

-- what a node pays for a deferral, where deferrals cost
abbrev price : Bool → Bool → ℕ
price costs later = cond costs (cond later 1 0) 0

-- of so many deferrals, those that were paid for
abbrev paid_of : Bool → ℕ → ℕ
paid_of costs n = cond costs n 0

paid_none : (costs : Bool) → paid_of costs 0 ≡ 0
paid_none true = refl
paid_none false = refl

paid_more : (costs later : Bool) (n m : ℕ) → m ≡ n + cond later 1 0 → paid_of costs m ≡ paid_of costs n + price costs later
paid_more true later n m e = e
paid_more false later n m e = refl

-- each node pays for what it sends, and for what it defers, where that costs
abbrev Pays : {S M : Type 0} → Rules S M → (S → ℕ) → Bool → Type 0
Pays {S} {M} r budget costs =
    (n : S) (k : Work M) (o : Outcome S M) → r.reaction n k ≡ Some o →
    length o.sends + price costs (r.defers n k) + budget o.state ≤ budget n

module _ {S M : Type 0} (r : Rules S M) (kinds : HasKinds r) (budget : S → ℕ) (most : ℕ)
    (opens : (v : ℕ) (ports : List Port) → budget (r.opening v ports) ≤ most) (costs : Bool) (pays : Pays r budget costs) (g : Network) where
  -- what the nodes have left together
  abbrev left_in : (ℕ → S) → ℕ
  left_in node = sum_below g.count (λ i. budget (node (suc i)))

  -- what every net of a run keeps
  abbrev Kept : Net S M → Type 0
  Kept w = in_all r w.sent + paid_of costs w.deferred + left_in w.node ≤ g.count * most

  -- one node reacts, and pays so much
  left_then : (v : ℕ) (n : S) (node : ℕ → S) → 1 ≤ v → v ≤ g.count → left_in (put node v n) + budget (node v) ≡ left_in node + budget n
  left_then zero n node lo hi = absurd (omega (arith, lo))
  left_then (suc j) n node lo hi =
      let one =
      sum_one g.count j (λ i. budget (node (suc i))) (λ i. budget (put node (suc j) n (suc i))) (omega (arith, hi))
      (λ i ne. ap budget (sym (put_other node (suc j) (suc i) n (λ z. ne (omega (arith, z)))))) in
      let here = ap budget (put_same node (suc j) n) in
      omega (arith, one, here)

  reacted_keeps : (v : ℕ) (o : Outcome S M) (w : Net S M) (cost : ℕ) → 1 ≤ v → v ≤ g.count →
      length o.sends + cost + budget o.state ≤ budget (w.node v) →
      in_all r w.sent + paid_of costs w.deferred + left_in w.node ≤ g.count * most + cost → Kept (reacted r g v o w)
  reacted_keeps v o w cost lo hi paid i =
      let left = left_then v o.state w.node lo hi in
      let now = ap left_in (nodes_put r g v o w) in
      let sent = sent_in_all r g kinds v o w in
      let later = ap (paid_of costs) (deferred_now r g v o w) in
      omega (arith, left, now, sent, later, paid, i)

  event_keeps : (w w' : Net S M) (e : Event) → Kept w → Happens r g w e w' → Kept w'
  event_keeps w _ _ i (Woke v o lo hi s e t) =
      reacted_keeps v o w 0 lo hi (let p = pays (w.node v) Wake o e in omega (arith, p)) (omega (arith, i))
  event_keeps w _ _ i (Took v p m ms o at q e t) =
      let x = take_first r g v p m ms w in
      let defers = r.defers (w.node v) (Deliver p m) in
      let later = paid_more costs defers w.deferred x.deferred (take_defers r g v p m ms w) in
      reacted_keeps v o x (price costs defers) at.some at.node (pays (w.node v) (Deliver p m) o e) (omega (arith, later, i))

  kept : (es : List Event) (w : Net S M) → IsAfter r g es w → Kept w
  kept es w h =
      run_keeps r g Kept event_keeps es (opening r g) w
      (let none = sum_none r.kinds (λ k. 0) (λ k lt. refl) in
      let all = sum_each g.count most (λ i. budget (r.opening (suc i) (g.ports (suc i)))) (λ i. opens (suc i) (g.ports (suc i))) in
      let free = paid_none costs in
      omega (arith, none, all, free)) h

module _ {S M : Type 0} (r : Rules S M) where
  pub sends_within : SendsWithin r
  sends_within kinds budget most pays g w is =
      let k =
      kept r kinds budget most pays.opens false (λ n k o h. let p = pays.pays n k o h in omega (arith, p)) (network_of g) is.events w is.run in
      omega (arith, k)

  -- who pays for what it sends, and for what it defers, pays for both
  pays_both : (budget : S → ℕ) (most : ℕ) → PaysFrom r budget most → DefersFrom r budget → Pays r budget true
  pays_both budget most pays defers n k o h = by (r.defers n k) refl
    where
      by : (later : Bool) → r.defers n k ≡ later → length o.sends + price true later + budget o.state ≤ budget n
      by true e = let d = defers n k o h e in omega (arith, d)
      by false e = let p = pays.pays n k o h in omega (arith, p)

  pub ends_within : EndsWithin r
  ends_within kinds awake budget most pays defers g ok es w h =
      let k = kept r kinds budget most pays.opens true (pays_both budget most pays defers) (network_of g) es w h in
      let taken = after_counts r (network_of g) kinds es w h in
      let balanced = balanced_in_all r kinds (network_of g) w (after_balanced r (network_of g) (graph_wired g ok) es w h) in
      let wakes = wakes_few r awake g ok es w h in
      omega (arith, k, taken, balanced, wakes)
