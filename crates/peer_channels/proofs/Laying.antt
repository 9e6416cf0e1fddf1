-- Blocks of queues, one node after another.
use Rattle.std.proofs.Common.{◌≡◌, ℕ, zero, suc, ◌+◌, ◌-◌, ◌<◌, ◌≤◌, List, [], ◌∷◌, ◌++◌, length, get_or, replicate, refl, sym, ◌∙◌, ap, ⊎_elim, arith, length-append}
use Rattle.std.proofs.lemmas.Bool.{cases_lt, cases_eq}
use Rattle.std.proofs.lemmas.List.{get_or_push, get_or_append_left, get_or-replicate, get_or_past, length-replicate, length-map, map-append}
use Rattle.std.proofs.lemmas.List.FromFn.{length-range_with_len, get_or-range_with_len}
use Rattle.std.proofs.lemmas.List.Sums.{sum_by-cons, sum_by_more, sum_by_more_le, sum_by-take-le}
use Rattle.std.specs.List.{sum_by}
use Rattle.ghs_graph.specs.Graph.{Shape, IsGraph, nodes_of}
use Rattle.ghs_graph.specs.Ports.{ports_of}
use Rattle.ghs_graph.proofs.lemmas.Degrees.{degrees_are_twice}
use Rattle.peer_channels.specs.Queue.{QueueState, Slot, no_queue}
use Rattle.peer_channels.specs.Channels.{IsPort, IsFor, AllEmpty, port_of, total_of}
use Rattle.peer_channels.specs.Kept.{Laid, AreBlocks, AreInOrder, EachEmpty, IsKept, LeadFar, AreParts, port_at, queues_in, places_in, seen}
use Rattle.peer_channels.proofs.lemmas.Ports.{far_port_is}
use Rattle.peer_channels.proofs.Places.{HasPlace, place_within, place_of_port, port_of_place, places_apart, has_place, place_has, state_is, destination_is, total_is, seen_count}

-- no node yet

pub no_blocks : (g : Shape) → AreBlocks g 0 (0 ∷ 0 ∷ []) 0
no_blocks g = record {
  count = refl;
  first = refl;
  second = refl;
  next = λ v a b. absurd (omega arith);
  rising = rising;
  most = λ v a b. absurd (omega arith);
  all = refl;
}
  where
    zero_at : (v : ℕ) → v < 2 → ◌≡◌ {A = ℕ} (get_or (0 ∷ 0 ∷ []) v 0) 0
    zero_at zero lt = refl
    zero_at (suc zero) lt = refl
    zero_at (suc (suc v)) lt = absurd (omega arith)

    rising : (u v : ℕ) → u ≤ v → v < 2 → get_or {A = ℕ} (0 ∷ 0 ∷ []) u 0 ≤ get_or {A = ℕ} (0 ∷ 0 ∷ []) v 0
    rising u v le lt = omega (arith, zero_at u (omega arith), zero_at v lt)

node_there : (g : Shape) (n : ℕ) → n < g.nodes → n < length (nodes_of g)
node_there g n lt = omega (arith, length-range_with_len 1 g.nodes)

node_at_place : (g : Shape) (n : ℕ) → n < g.nodes → get_or (nodes_of g) n 0 ≡ n + 1
node_at_place g n lt = omega (arith, get_or-range_with_len 1 g.nodes n 0 lt)

-- all ports together are few
pub blocks_few : (g : Shape) → IsGraph g → (n : ℕ) (starts : List ℕ) (widest : ℕ) → AreBlocks g n starts widest → get_or starts (n + 1) 0 ≤ 16777216
blocks_few g k n starts widest b =
    let z = b.all in
    let links = k.links in
    omega (arith, z, links, sum_by-take-le (λ v. length (ports_of g.keys v)) (nodes_of g) n, degrees_are_twice g k)

-- and so with the next node's
pub next_few : (g : Shape) → IsGraph g → (n : ℕ) (starts : List ℕ) (widest : ℕ) → AreBlocks g n starts widest → n < g.nodes →
    get_or starts (n + 1) 0 + length (ports_of g.keys (n + 1)) ≤ 16777216
next_few g k n starts widest b lt =
    let z = b.all in
    let links = k.links in
    let here = ap (λ v. length (ports_of g.keys v)) (node_at_place g n lt) in
    omega (arith, z, links, here, sum_by_more_le (λ v. length (ports_of g.keys v)) (nodes_of g) n 0 (node_there g n lt), degrees_are_twice g k)

-- one node more
pub blocks_more : (g : Shape) →
    IsGraph g →
    (n : ℕ) (starts : List ℕ) (widest end d m : ℕ) → n < g.nodes →
    AreBlocks g n starts widest →
    widest ≤ m →
    d ≤ m →
    end ≡ get_or starts (n + 1) 0 + d → d ≡ length (ports_of g.keys (n + 1)) → AreBlocks g (n + 1) (starts ++ end ∷ []) m
blocks_more g k n starts widest end d m lt b x y e f = record {
  count = omega (arith, length-append starts (end ∷ []), count);
  first = old 0 (omega (arith, count)) ∙ b.first;
  second = old 1 (omega (arith, count)) ∙ b.second;
  next = λ v lo hi. ⊎_elim
      (λ (lt : v < n + 1). rw (old v (omega (arith, count)), old (v + 1) (omega (arith, count))) (b.next v lo (omega arith)))
      (λ (le : n + 1 ≤ v). let z : v ≡ n + 1 = omega arith in rw z last_next)
      (cases_lt v (n + 1));
  rising = λ u v le lt. ⊎_elim
      (λ (l : v < n + 2). rw (old u (omega (arith, count)), old v (omega (arith, count))) (b.rising u v le (omega (arith, count))))
      (λ (l : n + 2 ≤ v). let z : v ≡ n + 2 = omega (arith, length-append starts (end ∷ []), count) in rw z (up u (omega arith)))
      (cases_lt v (n + 2));
  most = λ v lo hi. ⊎_elim
      (λ (lt : v < n + 1). let o = b.most v lo (omega arith) in omega (arith, o, x))
      (λ (le : n + 1 ≤ v). let z : v ≡ n + 1 = omega arith in rw z (omega (arith, f, y)))
      (cases_lt v (n + 1));
  all =
      let z = b.all in
      rw last (omega (arith, e, f, z, sum_by_more (λ v. length (ports_of g.keys v)) (nodes_of g) n 0 (node_there g n lt), here_ports));
}
  where
    count : length starts ≡ n + 2
    count = b.count

    here_ports : length (ports_of g.keys (get_or (nodes_of g) n 0)) ≡ length (ports_of g.keys (n + 1))
    here_ports = ap (λ v. length (ports_of g.keys v)) (node_at_place g n lt)

    old : (v : ℕ) → v < length starts → get_or (starts ++ end ∷ []) v 0 ≡ get_or starts v 0
    old v lt = get_or_append_left starts (end ∷ []) 0 v lt

    last : get_or (starts ++ end ∷ []) (n + 1 + 1) 0 ≡ end
    last = get_or_push starts end 0 (n + 1 + 1) (omega (arith, count))

    last_next : get_or (starts ++ end ∷ []) (n + 1 + 1) 0 ≡ get_or (starts ++ end ∷ []) (n + 1) 0 + length (ports_of g.keys (n + 1))
    last_next = rw (last, old (n + 1) (omega (arith, count))) (omega (arith, e, f))

    up : (u : ℕ) → u ≤ n + 2 → get_or (starts ++ end ∷ []) u 0 ≤ get_or (starts ++ end ∷ []) (n + 2) 0
    up u le = ⊎_elim
        (λ (lt : u < n + 2).
        let r = b.rising u (n + 1) (omega arith) (omega (arith, count)) in
        let l : get_or (starts ++ end ∷ []) (n + 2) 0 ≡ end = get_or_push starts end 0 (n + 2) count in
        rw (old u (omega (arith, count)), l) (omega (arith, r, e)))
        (λ (ge : n + 2 ≤ u). let z : u ≡ n + 2 = omega arith in rw z (omega arith)) (cases_lt u (n + 2))

-- the same, with what the loop keeps
pub blocks_step : (g : Shape) →
    IsGraph g →
    (n : ℕ) (starts ss : List ℕ) (widest end d m : ℕ) → n < g.nodes →
    AreBlocks g n starts widest × (end ≡ get_or starts (n + 1) 0) →
    widest ≤ m →
    d ≤ m →
    d ≡ length (ports_of g.keys (n + 1)) →
    ss ≡ starts ++ (end + d) ∷ [] →
    AreBlocks g (n + 1) ss m × (end + d ≡ get_or ss (n + 1 + 1) 0)
blocks_step g k n starts ss widest end d m lt b x y f e =
    let count = b.0.count in
    rw e (
      blocks_more g k n starts widest (end + d) d m lt b.0 x y (ap (λ (i : ℕ). i + d) b.1) f,
      sym (get_or_push starts (end + d) 0 (n + 1 + 1) (omega (arith, count))),
    )

zeros_at : (n k : ℕ) → ◌≡◌ {A = ℕ} (get_or (replicate n 0) k 0) 0
zeros_at n k =
    ⊎_elim (λ lt. get_or-replicate n k 0 0 lt)
    (λ le. get_or_past (replicate n 0) k 0 (omega (arith, length-replicate {A = ℕ} n 0, le)))
    (cases_lt k n)

-- the next port of node i + 1
pub next_port : (g : Shape) (i j : ℕ) → i < g.nodes → j < length (ports_of g.keys (i + 1)) → IsPort g (i + 1) j
next_port g i j lt port = record { some = omega arith; node = omega arith; port = port }

pub far_inside : (g : Shape) →
    IsGraph g →
    (starts : List ℕ) → AreParts g starts →
    (v p : ℕ) → p < length (ports_of g.keys v) →
    (port_of g v p).far < length starts
far_inside g graph starts parts v p lt =
    let there = far_port_is g graph v p lt in let node = there.node in let count = parts.1.count in omega (arith, node, count)

-- the place of a far end is few: three bytes hold it
pub far_few : (g : Shape) → IsGraph g → (starts : List ℕ) → AreParts g starts → (v p : ℕ) → p < length (ports_of g.keys v) →
    get_or starts (port_of g v p).far 0 + (port_of g v p).far_port < 16777216
far_few g graph starts parts v p lt =
    let b = parts.1 in
    let there = far_port_is g graph v p lt in
    let some = there.some in
    let node = there.node in
    let port = there.port in
    let count = b.count in
    let next = b.next (port_of g v p).far some node in
    let up = b.rising ((port_of g v p).far + 1) (g.nodes + 1) (omega arith) (omega (arith, count)) in
    omega (arith, port, next, up, blocks_few g graph g.nodes starts parts.0 b)

module _ {M : Type 0} where
  pub none_waits : (qs : List (QueueState M)) → EachEmpty qs → sum_by (λ (q : QueueState M). length q.list) qs ≡ 0
  none_waits [] h = refl
  none_waits (q ∷ qs) h =
      sum_by-cons (λ (q : QueueState M). length q.list) q qs ∙
      (let e : q.list ≡ [] = h 0 in let rest = none_waits qs (λ i. h (suc i)) in rw e (omega (arith, rest)))

  -- The queues of a graph, once its nodes have their parts.
  module _ (g : Shape) (graph : IsGraph g) (starts : List ℕ) (widest : ℕ) (b : AreBlocks g g.nodes starts widest) (qs : List (QueueState M))
      (e : length qs ≡ get_or starts (g.nodes + 1) 0) where
    -- where nothing is known of the far ends yet
    abbrev bare : Laid M
    bare = record { starts = starts; queues = qs; far = replicate (length qs) 0 }

    bare_order : AreInOrder bare
    bare_order = record {
      some = let c = b.count in omega (arith, c);
      first = b.first;
      rising = b.rising;
      last = let c = b.count in let z : length starts - 1 ≡ g.nodes + 1 = omega (arith, c) in rw z (sym e);
      wide = length-replicate {A = ℕ} (length qs) 0;
      far = λ i lt. let z : ◌≡◌ {A = ℕ} (get_or (replicate (length qs) 0) i 0) 0 = get_or-replicate (length qs) i 0 0 lt in omega (arith, z, lt);
    }

    pub place_port : (far : List ℕ) (v p : ℕ) → HasPlace (record { starts = starts; queues = qs; far = far }) v p → IsPort g v p
    place_port far v p h = ⊎_elim
        (λ (lo : 0 < v).
        let n = h.node in
        let c = b.count in
        let hi : v ≤ g.nodes = omega (arith, n, c) in
        let q = h.port in let x = b.next v lo hi in record { some = lo; node = hi; port = omega (arith, q, x) })
        (λ (z : v ≤ 0). let e : v ≡ 0 = omega arith in let q = h.port in absurd (none p (rw e at q)))
        (cases_lt 0 v)
      where
        none : (p : ℕ) → get_or starts 0 0 + p < get_or starts (0 + 1) 0 → ⊥
        none p lt = omega (arith, lt, b.first, b.second)

    pub port_place : (far : List ℕ) (v p : ℕ) → IsPort g v p → HasPlace (record { starts = starts; queues = qs; far = far }) v p
    port_place far v p i =
        let n = i.node in
        let c = b.count in
        let q = i.port in
        let x = b.next v i.some n in
        record { node = omega (arith, n, c); port = omega (arith, q, x) }

    pub far_within : (v p : ℕ) → IsPort g v p → get_or starts (port_of g v p).far 0 + (port_of g v p).far_port < length qs
    far_within v p i = place_within bare bare_order _ _ (port_place bare.far _ _ (far_port_is g graph v p i.port))

    -- one more far place
    pub far_more : (far : List ℕ) (v p x : ℕ) → LeadFar g starts far → IsPort g v p → length far ≡ get_or starts v 0 + p →
        x ≡ get_or starts (port_of g v p).far 0 + (port_of g v p).far_port → LeadFar g starts (far ++ x ∷ [])
    far_more far v p x lead port n is u r other lt = ⊎_elim
        (λ (old : get_or starts u 0 + r < length far). get_or_append_left far (x ∷ []) 0 (get_or starts u 0 + r) old ∙ lead u r other old)
        (λ new. let z : get_or starts u 0 + r ≡ length far = omega (arith, new, lt, length-append far (x ∷ [])) in last z)
        (cases_lt (get_or starts u 0 + r) (length far))
      where
        last :
            get_or starts u 0 + r ≡ length far →
            get_or (far ++ x ∷ []) (get_or starts u 0 + r) 0 ≡ get_or starts (port_of g u r).far 0 + (port_of g u r).far_port
        last z =
            let apart = places_apart bare bare_order u r v p (port_place bare.far u r other) (port_place bare.far v p port) in
            ⊎_elim
            (λ (nodes : u ≡ v). ⊎_elim
            (λ (ports : r ≡ p). get_or_push far x 0 (get_or starts u 0 + r) (sym z) ∙ is ∙ rw (nodes, ports) refl)
            (λ ne. absurd (apart (λ both. ne both.1) (z ∙ n)))
            (cases_eq r p))
            (λ ne. absurd (apart (λ both. ne both.0) (z ∙ n)))
            (cases_eq u v)

    module _ (far : List ℕ) (w : length far ≡ get_or starts (g.nodes + 1) 0) (lead : LeadFar g starts far) where
      abbrev laid : Laid M
      laid = record { starts = starts; queues = qs; far = far }

      far_is : (v p : ℕ) → IsPort g v p → get_or far (get_or starts v 0 + p) 0 ≡ get_or starts (port_of g v p).far 0 + (port_of g v p).far_port
      far_is v p i = lead v p i (let lt = place_within bare bare_order v p (port_place bare.far v p i) in omega (arith, lt, e, w))

      order : AreInOrder laid
      order = record {
        some = bare_order.some;
        first = b.first;
        rising = b.rising;
        last = bare_order.last;
        wide = w ∙ sym e;
        far = λ i lt.
            let at = place_of_port bare bare_order i lt in
            let port = place_port bare.far _ _ at.0 in
            let is = far_is _ _ port in
            let lt = far_within _ _ port in
            rw at.1 at (let P : ℕ → Type 0 = λ k. get_or far k 0 < length qs in
            let q : P (get_or starts (port_at starts i).0 0 + (port_at starts i).1) = omega (arith, is, lt) in q);
      }

      pub laid_for : IsFor g (seen laid)
      laid_for = record {
        graph = graph;
        count = let c = b.count in let n = seen_count laid order in omega (arith, c, n);
        queues = λ v p. (λ h. place_port far v p (has_place laid order v p h), λ i. place_has laid order v p (port_place far v p i));
        leads = λ v p i.
            destination_is laid order v p (port_place far v p i) ∙ ap (port_at starts) (far_is v p i) ∙
            port_of_place laid order _ _ (port_place far _ _ (far_port_is g graph v p i.port));
      }

      pub laid_empty : EachEmpty qs → AllEmpty (seen laid)
      laid_empty none v p h = ap (λ (q : QueueState M). q.list) (state_is laid order v p (has_place laid order v p h)) ∙ none (get_or starts v 0 + p)

      pub laid_total : EachEmpty qs → total_of (seen laid) ≡ 0
      laid_total none = total_is laid order ∙ none_waits qs none

      pub laid_kept : (claims : List ℕ) → EachEmpty qs → claims ≡ replicate widest 0 → IsKept laid claims 0
      laid_kept claims none made =
          record { order = order; enough = enough; unclaimed = λ k. rw made (zeros_at widest k); total = sym (none_waits qs none) }
        where
          wide : length claims ≡ widest
          wide = ap length made ∙ length-replicate {A = ℕ} widest 0

          enough : (v : ℕ) → v + 1 < length starts → get_or starts (v + 1) 0 ≤ get_or starts v 0 + length claims
          enough v lt = ⊎_elim
              (λ (lo : 0 < v).
              let c = b.count in
              let hi : v ≤ g.nodes = omega (arith, c) in let x = b.next v lo hi in let y = b.most v lo hi in omega (arith, x, y, wide))
              (λ (le : v ≤ 0). let z : v ≡ 0 = omega arith in rw z (omega (arith, b.first, b.second)))
              (cases_lt 0 v)

  -- so many slots, with empty queues, and each leads to the far end
  pub record AreSlots (g : Shape) (starts : List ℕ) (slots : List (Slot M)) (n : ℕ) : Type 0 where
    pub count : length slots ≡ n
    pub empty : EachEmpty (queues_in slots)
    pub far : LeadFar g starts (places_in slots)

  empty_more : (qs : List (QueueState M)) (q : QueueState M) → EachEmpty qs → q.list ≡ [] → EachEmpty (qs ++ q ∷ [])
  empty_more [] q each none zero = none
  empty_more [] q each none (suc i) = refl
  empty_more (x ∷ qs) q each none zero = each 0
  empty_more (x ∷ qs) q each none (suc i) = empty_more qs q (λ k. each (suc k)) none i

  -- one slot more, whose queue is empty and which leads to the far end of the next port
  pub slot_step : (g : Shape) →
      IsGraph g →
      (starts : List ℕ) → AreParts g starts →
      (slots ss : List (Slot M)) (q : Slot M) (i j x : ℕ) → i < g.nodes →
      j < length (ports_of g.keys (i + 1)) →
      AreSlots g starts slots (get_or starts (i + 1) 0 + j) →
      x ≡ get_or starts (port_of g (i + 1) j).far 0 + (port_of g (i + 1) j).far_port →
      q.queue.list ≡ [] →
      q.far ≡ x →
      ss ≡ slots ++ q ∷ [] →
      AreSlots g starts ss (get_or starts (i + 1) 0 + (j + 1))
  slot_step g graph starts parts slots ss q i j x lt port so_far is none leads e =
      let places : places_in ss ≡ places_in slots ++ q.far ∷ [] = ap places_in e ∙ map-append (λ (s : Slot M). s.far) slots (q ∷ []) in
      let queues : queues_in ss ≡ queues_in slots ++ q.queue ∷ [] = ap queues_in e ∙ map-append (λ (s : Slot M). s.queue) slots (q ∷ []) in
      record {
        count = let n = so_far.count in rw e (omega (arith, n, length-append slots (q ∷ [])));
        empty = rw queues (empty_more (queues_in slots) q.queue so_far.empty none);
        far = rw places (far_more g graph starts parts.0 parts.1 (replicate (get_or starts (g.nodes + 1) 0) no_queue)
            (length-replicate (get_or starts (g.nodes + 1) 0) no_queue) (places_in slots) (i + 1) j q.far so_far.far (next_port g i j lt port)
            (length-map slots (λ (s : Slot M). s.far) ∙ so_far.count) (leads ∙ is));
      }
