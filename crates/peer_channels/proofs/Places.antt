-- Where queues stand, and what contracts see of them.
use Rattle.std.proofs.Common.{◌≡◌, ◌≢◌, ℕ, zero, suc, ◌+◌, ◌-◌, ◌<◌, ◌≤◌, Bool, true, false, Option, cond, nat_le, List, [], ◌∷◌, length, set, get_or, take, drop, map, refl, subst, sym, ◌∙◌, ap, ◌++◌, add-one, ⊎_elim, arith, get_or-set_same, get_or-set_other, length-set, length-take, length-drop, length-append}
use Rattle.std.specs.List.{count_by, range_with_len, slice_get, sum_by}
use Rattle.std.proofs.lemmas.Bool.{cases_eq, cases_lt}
use Rattle.std.proofs.lemmas.Bool.Decides.{nat_tests}
use Rattle.std.proofs.lemmas.List.{get_or_default, get_or-take, get_or-drop, get_or-map, take_all}
use Rattle.std.proofs.Math.Seq.{take-add}
use Rattle.std.proofs.lemmas.List.FromFn.{length-map-range_with_len, get_or-map-range_with_len, sum_by-map-range_with_len_more}
use Rattle.std.proofs.lemmas.List.Sums.{sum_by-set, get_or-le-sum_by, sum_by-cons, sum_by-append}
use Rattle.peer_channels.specs.Queue.{QueueState, no_queue, pushed, taken, without_first, counted, requeued, rotated}
use Rattle.peer_channels.specs.Channels.{HasQueue, SamePorts, Changes, first_queue, state_at, queues_of, destination_of, total_of}
use Rattle.peer_channels.specs.Kept.{Laid, AreInOrder, IsKept, start_of, part_of, node_at, port_at, seen, waiting_in}

-- the queue of port p of node v has its place

abbrev Rises : List ℕ → Type 0
Rises xs = (u v : ℕ) → u ≤ v → v < length xs → get_or xs u 0 ≤ get_or xs v 0

abbrev at_most : ℕ → List ℕ → ℕ
at_most i xs = count_by (λ s. nat_le s i) xs

rises_tail : (x : ℕ) (xs : List ℕ) → Rises (x ∷ xs) → Rises xs
rises_tail x xs rises u v le lt = rises (suc u) (suc v) (omega arith) (omega arith)

none_at_most : (i x : ℕ) (xs : List ℕ) → Rises (x ∷ xs) → i < x → at_most i (x ∷ xs) ≡ 0
none_at_most i x [] rises lt = grind (arith, nat_tests)
none_at_most i x (y ∷ ys) rises lt =
    let le : x ≤ y = rises 0 1 (omega arith) (omega arith) in
    let rest = none_at_most i y ys (rises_tail x (y ∷ ys) rises) (omega arith) in
    let first : ◌≡◌ {A = Bool} (nat_le x i) false = grind (arith, nat_tests) in
    sum_by-cons (λ s. cond (nat_le s i) 1 0) x (y ∷ ys) ∙ rw first (omega (arith, rest))

abbrev Split : ℕ → List ℕ → ℕ → Type 0
Split i xs k = (k < at_most i xs → get_or xs k 0 ≤ i) × (get_or xs k 0 ≤ i → k < at_most i xs)

before_split : (i : ℕ) (xs : List ℕ) → Rises xs → (k : ℕ) → k < length xs → Split i xs k
before_split i [] rises k lt = absurd (omega arith)
before_split i (x ∷ xs) rises k lt = ⊎_elim greater (less (before_split i xs (rises_tail x xs rises)) k lt) (cases_lt i x)
  where
    greater : i < x → Split i (x ∷ xs) k
    greater g =
        let none = none_at_most i x xs rises g in
        let least : x ≤ get_or (x ∷ xs) k 0 = rises 0 k (omega arith) lt in
        (λ h. absurd (omega (arith, none, h)), λ h. absurd (omega (arith, least, h, g)))

    more : x ≤ i → at_most i (x ∷ xs) ≡ 1 + at_most i xs
    more le = let first : ◌≡◌ {A = Bool} (nat_le x i) true = grind (arith, nat_tests) in sum_by-cons (λ s. cond (nat_le s i) 1 0) x xs ∙ rw first refl

    less : ((j : ℕ) → j < length xs → Split i xs j) → (k : ℕ) → k < length (x ∷ xs) → x ≤ i → Split i (x ∷ xs) k
    less rest zero lt le = let m = more le in (λ h. le, λ h. omega (arith, m))
    less rest (suc j) lt le =
        let m = more le in let r = rest j (omega arith) in (λ h. r.0 (omega (arith, m, h)), λ h. let s = r.1 h in omega (arith, m, s))

module _ {M : Type 0} where
  pub record HasPlace (l : Laid M) (v p : ℕ) : Type 0 where
    pub node : v + 1 < length l.starts
    pub port : start_of l v + p < start_of l (v + 1)

  -- In a rising list as many numbers are at most i as stand before the first greater one.

  module _ (l : Laid M) (order : AreInOrder l) where
    pub ends : (v : ℕ) → v < length l.starts → start_of l v ≤ length l.queues
    ends v lt =
        let some = order.some in
        let r = order.rising v (length l.starts - 1) (omega arith) (omega arith) in let e = order.last in omega (arith, r, e)

    -- the place of a queue is one
    pub place_within : (v p : ℕ) → HasPlace l v p → start_of l v + p < length l.queues
    place_within v p h = let a = h.port in let b = ends (v + 1) h.node in omega (arith, a, b)

    -- a place has one node and one port
    pub port_of_place : (v p : ℕ) → HasPlace l v p → port_at l.starts (start_of l v + p) ≡ (v, p)
    port_of_place v p h =
        let i = start_of l v + p in
        let n = h.node in
        let port = h.port in
        let here = (before_split i l.starts order.rising v (omega arith)).1 (omega arith) in
        let next = (before_split i l.starts order.rising (v + 1) n).0 in
        let count : node_at l.starts i ≡ v = ⊎_elim
        (λ (lt : v + 1 < at_most i l.starts). let z = next lt in absurd (omega (arith, z, port)))
        (λ le. omega (arith, le, here)) (cases_lt (v + 1) (at_most i l.starts)) in
        let at : i - start_of l v ≡ p = omega arith in
        rw count (λ j. (v, at j))

    pub place_of_port : (i : ℕ) →
        i < length l.queues →
        HasPlace l (port_at l.starts i).0 (port_at l.starts i).1 × (start_of l (port_at l.starts i).0 + (port_at l.starts i).1 ≡ i)
    place_of_port i lt = (record { node = inside; port = omega (arith, low, high) }, omega (arith, low))
      where
        n : ℕ
        n = at_most i l.starts

        some : 0 < n
        some = let s = order.some in let f = order.first in (before_split i l.starts order.rising 0 s).1 (omega (arith, f))

        inside : node_at l.starts i + 1 < length l.starts
        inside =
            let s = order.some in
            let e = order.last in
            let last = (before_split i l.starts order.rising (length l.starts - 1) (omega arith)).0 in
            ⊎_elim
            (λ (more : length l.starts - 1 < n). let z = last more in absurd (omega (arith, z, e, lt)))
            (λ le. omega (arith, le, s, some)) (cases_lt (length l.starts - 1) n)

        low : start_of l (node_at l.starts i) ≤ i
        low = (before_split i l.starts order.rising (n - 1) (omega (arith, inside, some))).0 (omega (arith, some))

        high : i < start_of l (node_at l.starts i + 1)
        high =
            ⊎_elim (λ lt. lt)
            (λ (le : start_of l (n - 1 + 1) ≤ i). let z = (before_split i l.starts order.rising (n - 1 + 1) inside).1 le in absurd (omega (arith, z)))
            (cases_lt i (start_of l (node_at l.starts i + 1)))

    -- What contracts see of each place.

    pub part_length : {X : Type 0} (xs : List X) (v : ℕ) →
        length xs ≡ length l.queues →
        v + 1 < length l.starts →
        length (part_of l.starts xs v) ≡ start_of l (v + 1) - start_of l v
    part_length {X} xs v e lt =
        let end = ends (v + 1) lt in
        omega (arith, length-take (start_of l (v + 1) - start_of l v) (drop (start_of l v) xs), length-drop (start_of l v) xs, e, end)

    pub part_at : {X : Type 0} (xs : List X) (v p : ℕ) (d : X) →
        start_of l v + p < start_of l (v + 1) →
        get_or (part_of l.starts xs v) p d ≡ get_or xs (start_of l v + p) d
    part_at xs v p d lt = get_or-take (start_of l (v + 1) - start_of l v) (drop (start_of l v) xs) p d (omega arith)
        ∙ get_or-drop (start_of l v) xs p d

    pub seen_count : length (seen l).queues ≡ length l.starts - 1
    unfolding seen
    seen_count = length-map-range_with_len (part_of l.starts l.queues) 0 (length l.starts - 1)

    seen_part : (v : ℕ) → v + 1 < length l.starts → queues_of (seen l) v ≡ part_of l.starts l.queues v
    unfolding seen
    seen_part v lt = get_or-map-range_with_len (part_of l.starts l.queues) 0 (length l.starts - 1) v v [] (omega arith) (omega arith)

    seen_far : (v : ℕ) → v + 1 < length l.starts → get_or (seen l).destinations v [] ≡ map (port_at l.starts) (part_of l.starts l.far v)
    unfolding seen
    seen_far v lt =
        get_or-map-range_with_len (λ (u : ℕ). map (port_at l.starts) (part_of l.starts l.far u)) 0 (length l.starts - 1) v v [] (omega arith)
        (omega arith)

    pub has_place : (v p : ℕ) → HasQueue (seen l) v p → HasPlace l v p
    has_place v p h =
        let node = h.node in
        let inside : v + 1 < length l.starts = omega (arith, node, seen_count) in
        let port = h.port in
        let width : length (queues_of (seen l) v) ≡ start_of l (v + 1) - start_of l v =
        ap length (seen_part v inside) ∙ part_length l.queues v refl inside in
        record { node = inside; port = omega (arith, port, width) }

    pub place_has : (v p : ℕ) → HasPlace l v p → HasQueue (seen l) v p
    place_has v p h =
        let inside = h.node in
        let port = h.port in
        let width : length (queues_of (seen l) v) ≡ start_of l (v + 1) - start_of l v =
        ap length (seen_part v inside) ∙ part_length l.queues v refl inside in
        record { node = omega (arith, inside, seen_count); port = omega (arith, port, width) }

    -- where the queues of a node begin
    pub first_is : (v : ℕ) → v < length l.starts → first_queue (seen l) v ≡ start_of l v
    first_is zero lt = sym order.first
    first_is (suc v) lt =
        let before = first_is v (omega arith) in
        let up = order.rising v (v + 1) (omega arith) (omega arith) in
        let width = ap length (seen_part v (omega arith)) ∙ part_length l.queues v refl (omega arith) in
        let next : start_of l (v + 1) ≡ start_of l (suc v) = ap (start_of l) (add-one v) in
        omega (arith, before, up, width, next)

    pub state_is : (v p : ℕ) → HasPlace l v p → state_at (seen l) v p ≡ get_or l.queues (start_of l v + p) no_queue
    state_is v p h = ap (λ (qs : List (QueueState M)). get_or qs p no_queue) (seen_part v h.node) ∙ part_at l.queues v p no_queue h.port

    pub destination_is : (v p : ℕ) → HasPlace l v p → destination_of (seen l) v p ≡ port_at l.starts (get_or l.far (start_of l v + p) 0)
    destination_is v p h =
        let port = h.port in
        let wide = part_length l.far v order.wide h.node in
        ap (λ (ts : List (ℕ × ℕ)). get_or ts p (0, 0)) (seen_far v h.node)
        ∙ get_or-map (port_at l.starts) (part_of l.starts l.far v) p 0 (0, 0) (omega (arith, wide, port))
        ∙ ap (port_at l.starts) (part_at l.far v p 0 port)

    total_to : (n : ℕ) →
        n < length l.starts →
        sum_by waiting_in (map (part_of l.starts l.queues) (range_with_len 0 n)) ≡ waiting_in (take (start_of l n) l.queues)
    total_to zero lt = rw order.first refl
    total_to (suc n) lt =
        let up = order.rising n (n + 1) (omega arith) (omega arith) in
        let more = sum_by-map-range_with_len_more waiting_in (part_of l.starts l.queues) 0 n n (omega arith) in
        let before = total_to n (omega arith) in
        let width : start_of l (n + 1) ≡ start_of l n + (start_of l (n + 1) - start_of l n) = omega (arith, up) in
        let split : take (start_of l (n + 1)) l.queues ≡ take (start_of l n) l.queues ++ part_of l.starts l.queues n =
        ap (λ (k : ℕ). take k l.queues) width ∙ take-add (start_of l n) (start_of l (n + 1) - start_of l n) l.queues in
        let Told : ℕ → Type 0 =
        λ k. sum_by waiting_in (map (part_of l.starts l.queues) (range_with_len 0 k)) ≡ waiting_in (take (start_of l k) l.queues) in
        subst Told (add-one n) (more ∙ ap (λ (k : ℕ). k + waiting_in (part_of l.starts l.queues n)) before ∙
        sym
        (ap waiting_in split ∙ sum_by-append (λ (q : QueueState M). length q.list) (take (start_of l n) l.queues) (part_of l.starts l.queues n)))

    pub total_is : total_of (seen l) ≡ waiting_in l.queues
    unfolding seen
    total_is =
        let s = order.some in
        let e = order.last in
        total_to (length l.starts - 1) (omega arith) ∙ rw e (ap waiting_in (take_all (length l.queues) l.queues (omega arith)))

  -- One queue is changed.

  pub still_in_order : (l : Laid M) (qs : List (QueueState M)) → length qs ≡ length l.queues → AreInOrder l → AreInOrder (record l { queues = qs })
  still_in_order l qs e order = record {
    some = order.some;
    first = order.first;
    rising = order.rising;
    last = order.last ∙ sym e;
    wide = order.wide ∙ sym e;
    far = λ i lt. let f = order.far i (omega (arith, e)) in omega (arith, e, f);
  }

  pub same_ports : (l : Laid M) (qs : List (QueueState M)) → length qs ≡ length l.queues → AreInOrder l →
      SamePorts (seen l) (seen (record l { queues = qs }))
  unfolding seen
  same_ports l qs e order = record {
    count = seen_count (record l { queues = qs }) after ∙ sym (seen_count l order);
    queues = λ v p. (
      λ h. let at = has_place l order v p h in place_has (record l { queues = qs }) after v p (record { node = at.node; port = at.port }),
      λ h. let at = has_place (record l { queues = qs }) after v p h in place_has l order v p (record { node = at.node; port = at.port }),
    );
    leads = refl;
  }
    where
      after : AreInOrder (record l { queues = qs })
      after = still_in_order l qs e order

  -- the queue before another node's stands before it
  before : (l : Laid M) → AreInOrder l → (u r v p : ℕ) → HasPlace l u r → HasPlace l v p → u < v → start_of l u + r < start_of l v + p
  before l order u r v p h k lt =
      let a = h.port in
      let b : v < length l.starts = let n = k.node in omega arith in
      let c = order.rising (u + 1) v (omega arith) b in
      omega (arith, a, c)

  -- two ports have two places
  pub places_apart : (l : Laid M) →
      AreInOrder l →
      (u r v p : ℕ) → HasPlace l u r →
      HasPlace l v p →
      ((u ≡ v) × (r ≡ p) → ⊥) →
      start_of l u + r ≢ start_of l v + p
  places_apart l order u r v p h k apart e =
      ⊎_elim (λ lt. let a = before l order u r v p h k lt in omega (arith, a, e))
      (λ le. ⊎_elim
      (λ (z : u ≡ v). apart (z, let y : start_of l u ≡ start_of l v = ap (start_of l) z in omega (arith, e, y)))
      (λ ne. let a = before l order v p u r k h (omega (arith, le, ne)) in omega (arith, a, e))
      (cases_eq u v))
      (cases_lt u v)

  -- another queue at a place
  changed_at : (l : Laid M) →
      AreInOrder l →
      (v p : ℕ) (q : QueueState M) → HasPlace l v p →
      Changes (seen l) (seen (record l { queues = set l.queues (start_of l v + p) q })) v p q
  changed_at l order v p q h = record {
    ports = same_ports l (set l.queues (start_of l v + p) q) same order;
    here = state_is new after v p (here h) ∙ get_or-set_same l.queues (start_of l v + p) q no_queue lt;
    elsewhere = λ u r k apart.
        let at = has_place l order u r k in
        state_is new after u r (here at) ∙
        get_or-set_other l.queues (start_of l v + p) (start_of l u + r) q no_queue (places_apart l order u r v p at h apart) ∙
        sym (state_is l order u r at);
    total =
        let sum = sum_by-set (λ (x : QueueState M). length x.list) l.queues (start_of l v + p) q no_queue lt in
        let was = total_is l order in
        let now = total_is new after in
        let gone : length (state_at (seen l) v p).list ≡ length (get_or l.queues (start_of l v + p) no_queue).list =
        ap (λ (x : QueueState M). length x.list) (state_is l order v p h) in
        omega (arith, sum, was, now, gone);
  }
    where
      new : Laid M
      new = record l { queues = set l.queues (start_of l v + p) q }

      lt : start_of l v + p < length l.queues
      lt = place_within l order v p h

      same : length (set l.queues (start_of l v + p) q) ≡ length l.queues
      same = length-set l.queues (start_of l v + p) q

      after : AreInOrder new
      after = still_in_order l (set l.queues (start_of l v + p) q) same order

      here : {u r : ℕ} → HasPlace l u r → HasPlace new u r
      here at = record { node = at.node; port = at.port }

  pub start_found : (l : Laid M) (v p start : ℕ) → HasPlace l v p → start ≡ get_or l.starts v start → start ≡ start_of l v
  start_found l v p start h found = found ∙ get_or_default l.starts v start 0 (let n = h.node in omega arith)

  -- the queue at a port became f of what it was
  pub changed_by : (l : Laid M) →
      AreInOrder l →
      (v p start : ℕ) (f : QueueState M → QueueState M) (x r : QueueState M) →
      HasQueue (seen l) v p →
      start ≡ get_or l.starts v start →
      x ≡ get_or l.queues (start + p) x →
      r ≡ f x →
      Changes (seen l) (seen (record l { queues = set l.queues (start + p) r })) v p (f (state_at (seen l) v p))
  changed_by l order v p start f x r has found was now =
      let h = has_place l order v p has in
      let z : start ≡ start_of l v = start_found l v p start h found in
      let lt = place_within l order v p h in
      let y : x ≡ state_at (seen l) v p = was ∙ rw z (get_or_default l.queues (start_of l v + p) x no_queue lt) ∙ sym (state_is l order v p h) in
      rw (z, now, y) (changed_at l order v p (f (state_at (seen l) v p)) h)

  -- where the queue at a port stands
  pub stands : (l : Laid M) → AreInOrder l → (v p : ℕ) → HasQueue (seen l) v p → v < length l.starts
  stands l order v p has = let h = has_place l order v p has in let n = h.node in omega arith

  -- a start that is the node's stands in the list
  pub start_told : (l : Laid M) → AreInOrder l → (v start : ℕ) → v < length l.starts → start ≡ first_queue (seen l) v →
      start ≡ get_or l.starts v start
  start_told l order v start lt told = told ∙ first_is l order v lt ∙ get_or_default l.starts v 0 start lt

  pub port_told : (l : Laid M) → AreInOrder l → (v p start : ℕ) → HasQueue (seen l) v p → start ≡ first_queue (seen l) v →
      start ≡ get_or l.starts v start
  port_told l order v p start has told = start_told l order v start (stands l order v p has) told

  -- and the other way
  pub node_inside : (l : Laid M) → AreInOrder l → (v : ℕ) → v < length (seen l).queues → v < length l.starts
  node_inside l order v lt = let n = seen_count l order in omega (arith, n, lt)

  pub first_found : (l : Laid M) → AreInOrder l → (v start : ℕ) → v < length (seen l).queues → start ≡ get_or l.starts v start → start ≡ first_queue
      (seen l) v
  first_found l order v start inside found =
      let lt = node_inside l order v inside in found ∙ get_or_default l.starts v start 0 lt ∙ sym (first_is l order v lt)

  pub stands_at : (l : Laid M) → AreInOrder l → (v p start : ℕ) → HasQueue (seen l) v p → start ≡ get_or l.starts v start →
      start + p < length l.queues
  stands_at l order v p start has found =
      let h = has_place l order v p has in
      let z = start_found l v p start h found in
      let lt = place_within l order v p h in
      omega (arith, z, lt)

  pub state_found : (l : Laid M) →
      AreInOrder l →
      (v p start : ℕ) (x : QueueState M) → HasQueue (seen l) v p →
      start ≡ get_or l.starts v start →
      x ≡ get_or l.queues (start + p) x →
      x ≡ state_at (seen l) v p
  state_found l order v p start x has found was =
      let h = has_place l order v p has in
      let z = start_found l v p start h found in
      was ∙ rw z (get_or_default l.queues (start_of l v + p) x no_queue (place_within l order v p h)) ∙ sym (state_is l order v p h)

  -- another queue at a place, and another count of all messages
  pub kept_with : (l : Laid M) (claims : List ℕ) (sum n i : ℕ) (x r : QueueState M) → IsKept l claims sum → i < length l.queues →
      x ≡ get_or l.queues i x →
      n + length x.list ≡ sum + length r.list → IsKept (record l { queues = set l.queues i r }) claims n
  kept_with l claims sum n i x r kept lt was e = record {
    order = still_in_order l (set l.queues i r) (length-set l.queues i r) kept.order;
    enough = kept.enough;
    unclaimed = kept.unclaimed;
    total =
        let t = kept.total in
        let set_sum = sum_by-set (λ (y : QueueState M). length y.list) l.queues i r no_queue lt in
        let same : length x.list ≡ length (get_or l.queues i no_queue).list =
        ap (λ (y : QueueState M). length y.list) (was ∙ get_or_default l.queues i x no_queue lt) in
        omega (arith, t, set_sum, same, e);
  }

  pub pushed_length : (q r : QueueState M) (m : M) → r ≡ pushed q m → length r.list ≡ length q.list + 1
  pushed_length q r m e = ap (λ (x : QueueState M). length x.list) e ∙ length-append q.list (m ∷ [])

  pub taken_length : (q r : QueueState M) (o : Option M) → r ≡ taken q → o ≡ slice_get q.list 0 → length r.list + counted o ≡ length q.list
  taken_length q r o e f = rw (e, f) (left q.list q.room)
    where
      left : (ms : List M) (room : ℕ) → length (without_first ms room).list + counted (slice_get ms 0) ≡ length ms
      left [] room = refl
      left (m ∷ ms) room = omega arith

  pub requeued_length : (q r : QueueState M) → r ≡ requeued q → length r.list ≡ length q.list
  requeued_length q r e = ap (λ (x : QueueState M). length x.list) e ∙ turned q.list
    where
      turned : (ms : List M) → length (rotated ms) ≡ length ms
      turned [] = refl
      turned (m ∷ ms) = length-append ms (m ∷ []) ∙ omega arith

  -- what waits in one queue waits among all
  pub one_waits : (l : Laid M) (claims : List ℕ) (sum i : ℕ) (x : QueueState M) →
      IsKept l claims sum →
      i < length l.queues →
      x ≡ get_or l.queues i x →
      length x.list ≤ sum
  one_waits l claims sum i x kept lt was =
      let t = kept.total in
      let one = get_or-le-sum_by (λ (y : QueueState M). length y.list) l.queues i x lt in
      let same : length x.list ≡ length (get_or l.queues i x).list = ap (λ (y : QueueState M). length y.list) was in
      omega (arith, t, one, same)

  -- A message is sent: to the place that is kept for the queue at hand.
  module _ (l : Laid M) (order : AreInOrder l) (v p start i : ℕ) (has : HasQueue (seen l) v p) (found : start ≡ get_or l.starts v start)
      (to : i ≡ get_or l.far (start + p) i) where
    pub far_found : i < length l.queues
    far_found =
        let lt = stands_at l order v p start has found in
        let wide = order.wide in
        let f = order.far (start + p) lt in
        let same = get_or_default l.far (start + p) i 0 (omega (arith, lt, wide)) in
        omega (arith, f, same, to)

    leads_there : destination_of (seen l) v p ≡ port_at l.starts i
    leads_there =
        let h = has_place l order v p has in
        let lt = place_within l order v p h in
        let wide = order.wide in
        let z = start_found l v p start h found in
        destination_is l order v p h ∙
        ap (port_at l.starts)
        (get_or_default l.far (start_of l v + p) 0 i (omega (arith, lt, wide)) ∙ ap (λ (s : ℕ). get_or l.far (s + p) i) (sym z) ∙ sym to)

    pub far_state : (x : QueueState M) → x ≡ get_or l.queues i x →
        x ≡ state_at (seen l) (destination_of (seen l) v p).0 (destination_of (seen l) v p).1
    far_state x was =
        let at = place_of_port l order i far_found in
        was ∙ get_or_default l.queues i x no_queue far_found ∙
        rw leads_there
        (sym (state_is l order (port_at l.starts i).0 (port_at l.starts i).1 at.0 ∙ ap (λ (k : ℕ). get_or l.queues k no_queue) at.1))

    pub far_changed : (f : QueueState M → QueueState M) (x r : QueueState M) → x ≡ get_or l.queues i x → r ≡ f x →
        Changes (seen l) (seen (record l { queues = set l.queues i r })) (destination_of (seen l) v p).0 (destination_of (seen l) v p).1
        (f (state_at (seen l) (destination_of (seen l) v p).0 (destination_of (seen l) v p).1))
    far_changed f x r was now =
        let at = place_of_port l order i far_found in
        let Told : ℕ → Type 0 = λ k. Changes (seen l) (seen (record l { queues = set l.queues k r })) (port_at l.starts i).0
        (port_at l.starts i).1 r in
        rw (← far_state x was, ← now) (rw leads_there (subst Told at.1 (changed_at l order (port_at l.starts i).0 (port_at l.starts i).1 r at.0)))
