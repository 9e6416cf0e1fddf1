-- Ports written into their blocks.
use Rattle.std.proofs.Common.{◌≡◌, ℕ, ◌<◌, ◌≤◌, ◌+◌, ◌-◌, ◌^◌, ◌⊎◌, inl, inr, ⊎_elim, true, List, length, take, drop, get_or, set, sym, ◌∙◌, ap, arith, get_or-set_same, get_or-set_other, length-set}
use Rattle.std.proofs.lemmas.Bool.{cases_eq, cases_lt}
use Rattle.std.proofs.lemmas.List.{get_or_default, same_lists, get_or-take, get_or-drop, length-take-le, length-drop, take_all}
use Rattle.std.proofs.lemmas.Option.{get_or_from_slice_get}
use Rattle.ghs_graph.specs.declared.key.Key.{Key}
use Rattle.ghs_graph.specs.declared.port.Port.{Port}
use Rattle.ghs_graph.specs.declared.layout.Places.{Places}
use Rattle.ghs_graph.specs.Key.{ends_at, no_key}
use Rattle.ghs_graph.specs.Links.{AreAmong, IsRising}
use Rattle.ghs_graph.specs.Ports.{degree, far_end, port_on, port_number, ports_of, no_port}
use Rattle.ghs_graph.specs.Layout.{AreBlocks, ArePlaced, IsRight, AreRightBelow, AreLaid}
use Rattle.ghs_graph.proofs.lemmas.Ports.{length-ports_of, place_at, port_at, ends_a, ends_b, ends_not, far_end_a, far_end_b, among_at}
use Rattle.ghs_graph.proofs.lemmas.Degrees.{degree_ends, degree_stays, degree_none, degree_above, degree_up}
use Rattle.ghs_graph.proofs.Blocks.{blocks_up, places_apart, place_in}

abbrev pub no_places : Places
no_places = record { a = 0; b = 0 }

-- One port written.

-- what is known of the blocks of a graph
pub record HasBlocks (n : ℕ) (ks : List Key) (ss : List ℕ) (ps : List Port) : Type 0 where
  pub blocks : AreBlocks n ks ss
  pub room : length ps ≡ get_or ss (n + 1) 0

-- a port is written where it belongs, and then stands there
put_right : (n : ℕ) (ks : List Key) (ss : List ℕ) (ps : List Port) (u i : ℕ) (p : Port) → HasBlocks n ks ss ps → u ≤ n → i < degree ks u
    → get_or (ports_of ks u) i no_port ≡ p → IsRight ks ss (set ps (get_or ss u 0 + i) p) u i
put_right n ks ss ps u i p h le lt e =
    get_or-set_same ps (get_or ss u 0 + i) p no_port (omega (arith, place_in n ks ss h.blocks u i le lt, h.room)) ∙ sym e

-- the others stay where they belong
put_keeps : (n : ℕ) (ks : List Key) (ss : List ℕ) (ps : List Port) (u i : ℕ) (p : Port) → HasBlocks n ks ss ps → u ≤ n → i < degree ks u
    → get_or (ports_of ks u) i no_port ≡ p → (v j : ℕ) → v ≤ n → j < degree ks v → IsRight ks ss ps v j
    → IsRight ks ss (set ps (get_or ss u 0 + i) p) v j
put_keeps n ks ss ps u i p h le lt e v j vl jl right = ⊎_elim
    (λ (q : v ≡ u). ⊎_elim
    (λ (r : j ≡ i). rw (q, r) (put_right n ks ss ps u i p h le lt e))
    (λ ne.
    get_or-set_other ps (get_or ss u 0 + i) (get_or ss v 0 + j) p no_port
    (λ r. ne (let s : get_or ss v 0 ≡ get_or ss u 0 = ap (λ x. get_or ss x 0) q in omega arith))
    ∙ right)
    (cases_eq j i))
    (λ ne. get_or-set_other ps (get_or ss u 0 + i) (get_or ss v 0 + j) p no_port (places_apart n ks ss h.blocks v u j i vl le ne jl lt) ∙ right)
    (cases_eq v u)

-- One link's ports.

-- the port of an end on the link at place i
pub record IsEnd (n : ℕ) (ks : List Key) (i : ℕ) (u at : ℕ) (p : Port) : Type 0 where
  pub node : u ≤ n
  pub place : at ≡ degree (take i ks) u
  pub more : degree (take (i + 1) ks) u ≡ degree (take i ks) u + 1
  pub inside : at < degree ks u
  pub port : get_or (ports_of ks u) at no_port ≡ p

an_end : (n : ℕ) (ks : List Key) (i : ℕ) (d : Key) (u place far far_place : ℕ) → IsRising ks → i < length ks → u ≤ n
    → ends_at u (get_or ks i d) ≡ true → far_end u (get_or ks i d) ≡ far → place ≡ degree (take i ks) u → far_place ≡ degree (take i ks) far
    → IsEnd n ks i u place (record { key = get_or ks i d; far = far; far_port = far_place })
an_end n ks i d u place far far_place rising lt le ends ef ep eq =
    let more : degree (take (i + 1) ks) u ≡ degree (take i ks) u + 1 = degree_ends ks i d u lt ends in
    record {
      node = le;
      place = ep;
      more = more;
      inside = omega (arith, more, ep, degree_up ks (i + 1) u (omega arith));
      port =
          rw ep (get_or_from_slice_get (ports_of ks u) (degree (take i ks) u) (port_on ks u (get_or ks i d)) no_port (port_at ks u i d lt ends)
          ∙ ap (λ f. let p : Port = record { key = get_or ks i d; far = f; far_port = port_number ks f (get_or ks i d) } in p) ef
          ∙ ap (λ m. let p : Port = record { key = get_or ks i d; far = far; far_port = m } in p) (place_at ks far i d rising lt ∙ sym eq));
    }

-- the ports of a link
abbrev pub port_at_a : Key → Places → Port
port_at_a k q = record { key = k; far = k.b; far_port = q.b }

abbrev pub port_at_b : Key → Places → Port
port_at_b k q = record { key = k; far = k.a; far_port = q.a }

pub end_a : (n : ℕ) (ks : List Key) (i : ℕ) (qs : List Places) → AreAmong n ks → IsRising ks → ArePlaced ks (length ks) qs → i < length ks
    → IsEnd n ks i (get_or ks i no_key).a (get_or qs i no_places).a (port_at_a (get_or ks i no_key) (get_or qs i no_places))
end_a n ks i qs among rising placed lt =
    let h = among_at n ks i no_key among lt in
    let k : Key = get_or ks i no_key in
    an_end n ks i no_key k.a (get_or qs i no_places).a k.b (get_or qs i no_places).b rising lt (omega (arith, h.1, h.2)) (ends_a k) (far_end_a k)
    (placed.at_a i lt) (placed.at_b i lt)

pub end_b : (n : ℕ) (ks : List Key) (i : ℕ) (qs : List Places) → AreAmong n ks → IsRising ks → ArePlaced ks (length ks) qs → i < length ks
    → IsEnd n ks i (get_or ks i no_key).b (get_or qs i no_places).b (port_at_b (get_or ks i no_key) (get_or qs i no_places))
end_b n ks i qs among rising placed lt =
    let h = among_at n ks i no_key among lt in
    let k : Key = get_or ks i no_key in
    an_end n ks i no_key k.b (get_or qs i no_places).b k.a (get_or qs i no_places).a rising lt h.2 (ends_b k) (far_end_b k h.1) (placed.at_b i lt)
    (placed.at_a i lt)

-- Passes.

-- the ports of the numbers below m that are on the first i links, and all of the numbers below from
pub record IsFilled (n : ℕ) (ks : List Key) (ss : List ℕ) (from m i : ℕ) (ps : List Port) : Type 0 where
  pub blocks : HasBlocks n ks ss ps
  pub below : AreRightBelow from ks ss ps
  pub seen : (v j : ℕ) → from ≤ v → v < m → v ≤ n → j < degree (take i ks) v → IsRight ks ss ps v j

-- the port of an end is written if the end is one of these numbers
abbrev pub IsWrittenWithin : List ℕ → ℕ → ℕ → ℕ → ℕ → Port → List Port → List Port → Type 0
IsWrittenWithin ss from m u at p old new =
    (((from ≤ u) × (u < m)) × (new ≡ set old (get_or ss u 0 + at) p)) ⊎ ((((from ≤ u) × (u < m)) → ⊥) × (new ≡ old))

written_room : (ss : List ℕ) (from m u at : ℕ) (p : Port) (old new : List Port) → IsWrittenWithin ss from m u at p old new → length new ≡ length old
written_room ss from m u at p old new (inl w) = ap (λ (ps : List Port). length ps) w.1 ∙ length-set old (get_or ss u 0 + at) p
written_room ss from m u at p old new (inr w) = ap (λ (ps : List Port). length ps) w.1

pub written_blocks : (n : ℕ) (ks : List Key) (ss : List ℕ) (from m u at : ℕ) (p : Port) (old new : List Port) → HasBlocks n ks ss old
    → IsWrittenWithin ss from m u at p old new → HasBlocks n ks ss new
written_blocks n ks ss from m u at p old new h w = record { blocks = h.blocks; room = written_room ss from m u at p old new w ∙ h.room }

written_keeps : (n : ℕ) (ks : List Key) (ss : List ℕ) (from m i u at : ℕ) (p : Port) (old new : List Port) → HasBlocks n ks ss old
    → IsEnd n ks i u at p → IsWrittenWithin ss from m u at p old new → (v j : ℕ) → v ≤ n → j < degree ks v → IsRight ks ss old v j
    → IsRight ks ss new v j
written_keeps n ks ss from m i u at p old new h e (inl w) v j vl jl right =
    rw w.1 (put_keeps n ks ss old u at p h e.node e.inside e.port v j vl jl right)
written_keeps n ks ss from m i u at p old new h e (inr w) v j vl jl right = rw w.1 right

written_right : (n : ℕ) (ks : List Key) (ss : List ℕ) (from m i u at : ℕ) (p : Port) (old new : List Port) → HasBlocks n ks ss old
    → IsEnd n ks i u at p → IsWrittenWithin ss from m u at p old new → from ≤ u → u < m → IsRight ks ss new u at
written_right n ks ss from m i u at p old new h e (inl w) low high = rw w.1 (put_right n ks ss old u at p h e.node e.inside e.port)
written_right n ks ss from m i u at p old new h e (inr w) low high = absurd (w.0 (low, high))

pub none_filled : (n : ℕ) (ks : List Key) (ss : List ℕ) (from m : ℕ) (ps : List Port) → HasBlocks n ks ss ps → AreRightBelow from ks ss ps
    → IsFilled n ks ss from m 0 ps
none_filled n ks ss from m ps h below = record { blocks = h; below = below; seen = λ v j low high le jl. absurd (omega (arith, degree_none v)) }

pub one_filled : (n : ℕ) (ks : List Key) (ss : List ℕ) (from m i : ℕ) (qs : List Places) (old mid new : List Port) → AreAmong n ks → IsRising ks
    → ArePlaced ks (length ks) qs → i < length ks → IsFilled n ks ss from m i old
    → IsWrittenWithin ss from m (get_or ks i no_key).a (get_or qs i no_places).a (port_at_a (get_or ks i no_key) (get_or qs i no_places)) old mid
    → IsWrittenWithin ss from m (get_or ks i no_key).b (get_or qs i no_places).b (port_at_b (get_or ks i no_key) (get_or qs i no_places)) mid new
    → IsFilled n ks ss from m (i + 1) new
one_filled n ks ss from m i qs old mid new among rising placed lt f wa wb = record {
  blocks = written_blocks n ks ss from m k.b q.b port_b mid new blocks_mid wb;
  below = λ v j vl jl. ⊎_elim (λ (le : v ≤ n). kept v j le jl (f.below v j vl jl)) (λ gt. absurd (omega (arith, jl, none_above v gt))) (le_or_gt v);
  seen = λ v j low high le jl. ⊎_elim
      (λ (e : v ≡ k.a).
      at_end v k.a q.a e a.more a.place
      (λ lo hi.
      written_keeps n ks ss from m i k.b q.b port_b mid new blocks_mid b wb k.a q.a a.node a.inside
      (written_right n ks ss from m i k.a q.a port_a old mid f.blocks a wa lo hi))
      j low high le jl)
      (λ na. ⊎_elim
      (λ (e : v ≡ k.b).
      at_end v k.b q.b e b.more b.place (λ lo hi. written_right n ks ss from m i k.b q.b port_b mid new blocks_mid b wb lo hi) j low high le jl)
      (λ nb. older v j low high le (omega (arith, degree_stays ks i no_key v lt (ends_not v k na nb))))
      (cases_eq v k.b))
      (cases_eq v k.a);
}
  where
    k : Key
    k = get_or ks i no_key

    q : Places
    q = get_or qs i no_places

    port_a : Port
    port_a = port_at_a k q

    port_b : Port
    port_b = port_at_b k q

    a : IsEnd n ks i k.a q.a port_a
    a = end_a n ks i qs among rising placed lt

    b : IsEnd n ks i k.b q.b port_b
    b = end_b n ks i qs among rising placed lt

    blocks_mid : HasBlocks n ks ss mid
    blocks_mid = written_blocks n ks ss from m k.a q.a port_a old mid f.blocks wa

    kept : (v j : ℕ) → v ≤ n → j < degree ks v → IsRight ks ss old v j → IsRight ks ss new v j
    kept v j vl jl right =
        written_keeps n ks ss from m i k.b q.b port_b mid new blocks_mid b wb v j vl jl
        (written_keeps n ks ss from m i k.a q.a port_a old mid f.blocks a wa v j vl jl right)

    older : (v j : ℕ) → from ≤ v → v < m → v ≤ n → j < degree (take i ks) v → IsRight ks ss new v j
    older v j low high le jl = kept v j le (omega (arith, degree_up ks i v (omega arith))) (f.seen v j low high le jl)

    at_end : (v u at : ℕ) → v ≡ u → degree (take (i + 1) ks) u ≡ degree (take i ks) u + 1 → at ≡ degree (take i ks) u
        → (from ≤ u → u < m → IsRight ks ss new u at) → (j : ℕ) → from ≤ v → v < m → v ≤ n → j < degree (take (i + 1) ks) v → IsRight ks ss new v j
    at_end v u at e more place right j low high le jl = ⊎_elim
        (λ (l : j < degree (take i ks) v). older v j low high le l)
        (λ ge.
        let after : degree (take (i + 1) ks) v ≡ degree (take (i + 1) ks) u = ap (λ x. degree (take (i + 1) ks) x) e in
        let before : degree (take i ks) v ≡ degree (take i ks) u = ap (λ x. degree (take i ks) x) e in
        let here : j ≡ at = omega arith in
        rw (here, e) (right (rw (← e) low) (rw (← e) high)))
        (cases_lt j (degree (take i ks) v))

    le_or_gt : (v : ℕ) → (v ≤ n) ⊎ (n < v)
    le_or_gt v = ⊎_elim (λ lt. inr lt) (λ le. inl le) (cases_lt n v)

    none_above : (v : ℕ) → n < v → degree ks v ≡ 0
    none_above v gt = degree_above n ks v among gt

pub all_filled : (n : ℕ) (ks : List Key) (ss : List ℕ) (from m i : ℕ) (ps : List Port) → AreAmong n ks → length ks ≤ i → IsFilled n ks ss from m i ps
    → AreRightBelow m ks ss ps
all_filled n ks ss from m i ps among all f v j vm jl = ⊎_elim
    (λ (l : v < from). f.below v j l jl)
    (λ ge. ⊎_elim
    (λ (gt : n < v). absurd (omega (arith, degree_above n ks v among gt)))
    (λ le. f.seen v j ge vm le (rw (take_all i ks all) jl))
    (cases_lt n v))
    (cases_lt v from)

-- the port of an end lies within the list, and its place among the first 2^32
pub place_fits : (n : ℕ) (ks : List Key) (ss : List ℕ) (i u at : ℕ) (p : Port) (ps : List Port) → HasBlocks n ks ss ps → IsEnd n ks i u at p
    → length ks ≤ 8388608 → (get_or ss u 0 + at < length ps) × (get_or ss u 0 + at < 2 ^ 32)
place_fits n ks ss i u at p ps h e few =
    let lt = place_in n ks ss h.blocks u at e.node e.inside in (omega (arith, h.room), omega (arith, h.blocks.total))

-- A node's block.

pub block_range : (n : ℕ) (ks : List Key) (ss : List ℕ) (ps : List Port) (v : ℕ) → AreLaid n ks ss ps → v ≤ n
    → (get_or ss v 0 + degree ks v ≡ get_or ss (v + 1) 0) × (get_or ss (v + 1) 0 ≤ length ps)
block_range n ks ss ps v l le =
    let e : get_or ss (v + 1) 0 ≡ get_or ss v 0 + degree ks v = l.blocks.next v le in (
      sym e,
      ⊎_elim
          (λ (h : v + 1 < n + 1). let u = blocks_up n ks ss l.blocks (v + 1) (n + 1) h (omega arith) in omega (arith, u, l.room))
          (λ ge. let q : v + 1 ≡ n + 1 = omega arith in omega (arith, l.room, ap (λ x. get_or ss x 0) q))
          (cases_lt (v + 1) (n + 1)),
    )

pub block_is : (n : ℕ) (ks : List Key) (ss : List ℕ) (ps : List Port) (v : ℕ) → AreLaid n ks ss ps → v ≤ n
    → take (get_or ss (v + 1) 0 - get_or ss v 0) (drop (get_or ss v 0) ps) ≡ ports_of ks v
block_is n ks ss ps v l le =
    let r : (get_or ss v 0 + degree ks v ≡ get_or ss (v + 1) 0) × (get_or ss (v + 1) 0 ≤ length ps) = block_range n ks ss ps v l le in
    let m : get_or ss (v + 1) 0 - get_or ss v 0 ≡ degree ks v = omega (arith, r.0) in
    let len : length (take (degree ks v) (drop (get_or ss v 0) ps)) ≡ degree ks v = length-take-le (degree ks v) (drop (get_or ss v 0) ps)
    (omega (arith, r.0, r.1, length-drop (get_or ss v 0) ps)) in
    let len' : length (ports_of ks v) ≡ degree ks v = length-ports_of ks v in
    rw m (same_lists (take (degree ks v) (drop (get_or ss v 0) ps)) (ports_of ks v) (len ∙ sym len') (λ j d jl.
    get_or-take (degree ks v) (drop (get_or ss v 0) ps) j d (omega (arith, len, jl)) ∙ get_or-drop (get_or ss v 0) ps j d
    ∙ get_or_default ps (get_or ss v 0 + j) d no_port (omega (arith, len, jl, r.0, r.1)) ∙ l.right v j (omega arith) (omega (arith, len, jl))
    ∙ get_or_default (ports_of ks v) j no_port d (omega (arith, len, len', jl))))
