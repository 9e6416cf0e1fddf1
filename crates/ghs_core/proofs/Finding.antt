-- Channels in key order, and the ports on them.
use Rattle.std.proofs.Common.{◌≡◌, ℕ, ◌+◌, ◌-◌, ◌<◌, ◌≤◌, Bool, true, false, ◌||◌, List, [], ◌∷◌, ◌++◌, length, get_or, take, replicate, set, refl, sym, ◌∙◌, ap, cond, arith, ◌==◌, eq-eqb, get_or-set_other, length-set}
use Rattle.std.specs.List.{filter}
use Rattle.std.proofs.lemmas.List.{get_or_default}
use Rattle.std.proofs.lemmas.List.Elements.{filter_more}
use Rattle.ghs_graph.specs.declared.key.Key.{Key}
use Rattle.ghs_graph.specs.Key.{ends_at, no_key}
use Rattle.ghs_graph.specs.Graph.{Shape}
use Rattle.ghs_graph.specs.Layout.{AreDegrees}
use Rattle.ghs_graph.specs.Ports.{ports_of, port_number, degree as degree_of}
use Rattle.ghs_graph.proofs.lemmas.Degrees.{none_counted, one_counted, degree_ends, degree_up}
use Rattle.ghs_graph.proofs.lemmas.Ports.{place_at, length-ports_of}
use Rattle.ghs_node.specs.Words.{is_branch}
use Rattle.ghs_node.specs.NodeState.{NodeState, mark_at, degree}
use Rattle.ghs_core.specs.declared.marked.Ends.{Ends}
use Rattle.ghs_core.specs.Kept.{no_node}
use Rattle.ghs_core.specs.Marked.{is_wanted, has_branch, are_wanted, node_in, HavePorts}

-- what the walk over the links keeps: each node's next port, and the links found
pub record Found (g : Shape) (nodes : List NodeState) (e : Ends) (i : ℕ) (ports : List ℕ) (found : List Key) : Type 0 where
  pub next : AreDegrees g.nodes (take i g.keys) ports
  pub links : found ≡ filter (is_wanted e g.keys nodes) (take i g.keys)

pub nothing_found : (g : Shape) (nodes : List NodeState) (e : Ends) (ports : List ℕ) (found : List Key) →
    ports ≡ replicate (g.nodes + 1) 0 →
    found ≡ [] →
    Found g nodes e 0 ports found
nothing_found g nodes e ports found p f = record { next = none_counted g.nodes ports p; links = f }

module _ (g : Shape) (nodes : List NodeState) (have : HavePorts g nodes) (e : Ends) (i : ℕ) (ports : List ℕ) (found : List Key)
    (f : Found g nodes e i ports found) (lt : i < length g.keys) where
  abbrev key : Key
  key = get_or g.keys i no_key

  pub among : (1 ≤ (get_or g.keys i no_key).a) × ((get_or g.keys i no_key).a < (get_or g.keys i no_key).b) × ((get_or g.keys i no_key).b ≤ g.nodes)
  among = have.graph.among i no_key lt

  module _ (v : ℕ) (lo : 1 ≤ v) (hi : v ≤ g.nodes) (x : ℕ) (is : x ≡ get_or ports v x) where
    counted : get_or ports v 0 ≡ degree_of (take i g.keys) v
    counted = f.next.each v hi

    at : x ≡ get_or ports v 0
    at = is ∙ get_or_default ports v x 0 (let n = f.next.count in omega (arith, n))

    -- the port is the link's
    pub port_is : x ≡ port_number g.keys v (get_or g.keys i no_key)
    port_is = at ∙ counted ∙ sym (place_at g.keys v i no_key have.graph.rising lt)

    pub port_fits : ends_at v (get_or g.keys i no_key) ≡ true → x < length (ports_of g.keys v)
    port_fits ends =
        let more = degree_ends g.keys i no_key v lt ends in
        let up = degree_up g.keys (i + 1) v (omega arith) in
        let many = length-ports_of g.keys v in
        omega (arith, at, counted, more, up, many)

    module _ (n : NodeState) (node : n ≡ get_or nodes (v - 1) n) where
      pub node_is : n ≡ node_in nodes v
      node_is = node ∙ get_or_default nodes (v - 1) n no_node (let c = have.count in omega (arith, c))

      pub port_has : ends_at v (get_or g.keys i no_key) ≡ true → x < degree n
      port_has ends =
          let fits = port_fits ends in
          let many : degree n ≡ length (ports_of g.keys v) = ap degree node_is ∙ have.ports v lo hi in omega (arith, fits, many)

      pub branch_is : is_branch (mark_at n x) ≡ has_branch g.keys nodes v (get_or g.keys i no_key)
      branch_is = rw (port_is, node_is) refl

  -- the count at one end leaves that at the other
  pub other_end : (m y : ℕ) →
      y ≡ get_or (set ports (get_or g.keys i no_key).a m) (get_or g.keys i no_key).b y →
      y ≡ get_or ports (get_or g.keys i no_key).b y
  other_end m y is = is ∙ get_or-set_other ports key.a key.b m y (λ z. let r = among in absurd (omega (arith, r.1, z)))

  -- one link more
  pub found_more : (x y : ℕ) (wanted : Bool) (more : List Key) → x ≡ get_or ports (get_or g.keys i no_key).a x →
      y ≡ get_or (set ports (get_or g.keys i no_key).a (x + 1)) (get_or g.keys i no_key).b y →
      wanted ≡ is_wanted e g.keys nodes (get_or g.keys i no_key) →
      more ≡ found ++ cond wanted (get_or g.keys i no_key ∷ []) [] →
      Found g nodes e (i + 1) (set (set ports (get_or g.keys i no_key).a (x + 1)) (get_or g.keys i no_key).b (y + 1)) more
  found_more x y wanted more a b w m = record {
    next = one_counted g.nodes g.keys ports i no_key x y have.graph.among lt f.next at_a at_b;
    links = m ∙ rw (w, f.links) (sym (filter_more (is_wanted e g.keys nodes) g.keys i no_key lt));
  }
    where
      wide : length ports ≡ g.nodes + 1
      wide = f.next.count

      at_a : x ≡ get_or ports key.a 0
      at_a = a ∙ get_or_default ports key.a x 0 (let r = among in omega (arith, wide, r.1, r.2))

      at_b : y ≡ get_or ports key.b 0
      at_b =
          b ∙ get_or_default (set ports key.a (x + 1)) key.b y 0 (let r = among in omega (arith, wide, r.2, length-set ports key.a (x + 1))) ∙
          get_or-set_other ports key.a key.b (x + 1) 0 (λ z. let r = among in absurd (omega (arith, r.1, z)))

-- a link ends at its ends
pub ends_a : (k : Key) → ends_at k.a k ≡ true
ends_a k = rw (eq-eqb k.a k.a refl) refl

pub ends_b : (k : Key) → ends_at k.b k ≡ true
ends_b k = rw (eq-eqb k.b k.b refl) (or_true (k.a == k.b))
  where
    or_true : (b : Bool) → (b || true) ≡ true
    or_true true = refl
    or_true false = refl

pub wanted_is : (e : Ends) (ks : List Key) (nodes : List NodeState) (k : Key) (a b w : Bool) → w ≡ are_wanted e a b → a ≡ has_branch ks nodes k.a k →
    b ≡ has_branch ks nodes k.b k → w ≡ is_wanted e ks nodes k
wanted_is e ks nodes k a b w h x y = rw (h, x, y) refl
