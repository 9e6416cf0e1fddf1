-- Links in key order, and the ports that they are.
use Rattle.std.proofs.Common.{◌≡◌, ℕ, ◌+◌, ◌<◌, ◌≤◌, List, [], ◌∷◌, ◌++◌, length, get_or, map, take, replicate, set, sym, ◌∙◌, ap, subst, arith, get_or-set_other}
use Rattle.std.proofs.lemmas.List.{get_or_default, map_more, take_all}
use Rattle.std.proofs.lemmas.List.Elements.{All-map}
use Rattle.ghs_graph.specs.declared.key.Key.{Key}
use Rattle.ghs_graph.specs.Key.{no_key}
use Rattle.ghs_graph.specs.Graph.{Shape, IsGraph}
use Rattle.ghs_graph.specs.Layout.{AreDegrees}
use Rattle.ghs_graph.specs.Ports.{port_number, degree}
use Rattle.ghs_graph.proofs.lemmas.Degrees.{none_counted, one_counted, degree_up}
use Rattle.ghs_graph.proofs.lemmas.Ports.{place_at, degree-le-length}
use Rattle.peer_report.specs.Links.{AreWithin, on_link}
use Rattle.peer_report.specs.declared.links.LinkPorts.{LinkPorts}

-- what the walk over the links keeps: each node's next port, and the links before it with their ports
pub record Walked (g : Shape) (i : ℕ) (nexts : List ℕ) (found : List LinkPorts) : Type 0 where
  pub graph : IsGraph g
  pub next : AreDegrees g.nodes (take i g.keys) nexts
  pub links : found ≡ map (on_link g.keys) (take i g.keys)

pub nothing_walked : (g : Shape) (nexts : List ℕ) (links : List LinkPorts) → IsGraph g → nexts ≡ replicate (g.nodes + 1) 0 → links ≡ [] →
    Walked g 0 nexts links
nothing_walked g nexts links ok p f = record { graph = ok; next = none_counted g.nodes nexts p; links = f }

-- the ends of links are nodes
pub links_within : (g : Shape) (i : ℕ) (nexts : List ℕ) (found : List LinkPorts) → Walked g i nexts found → length g.keys ≤ i →
    AreWithin g.nodes found
links_within g i nexts found f far =
    subst (AreWithin g.nodes) (sym (f.links ∙ ap (map (on_link g.keys)) (take_all i g.keys far)))
    (All-map (λ (l : LinkPorts). (1 ≤ l.key.a) × (l.key.a ≤ g.nodes) × (1 ≤ l.key.b) × (l.key.b ≤ g.nodes)) (on_link g.keys) g.keys
    (λ k d lt. let e = f.graph.among k d lt in (e.0, omega (arith, e.1, e.2), omega (arith, e.0, e.1), e.2)))

module _ {g : Shape} {i : ℕ} {nexts : List ℕ} {links : List LinkPorts} (f : Walked g i nexts links) (lt : i < length g.keys) where
  abbrev key : Key
  key = get_or g.keys i no_key

  ends : (1 ≤ key.a) × (key.a < key.b) × (key.b ≤ g.nodes)
  ends = f.graph.among i no_key lt

  wide : length nexts ≡ g.nodes + 1
  wide = f.next.count

  -- a node's next port, where the link ends, is its port there
  module _ (v : ℕ) (hi : v ≤ g.nodes) (p : ℕ) (is : p ≡ get_or nexts v p) where
    counted : p ≡ degree (take i g.keys) v
    counted = is ∙ get_or_default nexts v p 0 (omega (arith, wide, hi)) ∙ f.next.each v hi

    pub port_is : p ≡ port_number g.keys v (get_or g.keys i no_key)
    port_is = counted ∙ sym (place_at g.keys v i no_key f.graph.rising lt)

    pub port_few : p ≤ length g.keys
    port_few = let up = degree_up g.keys i v (omega (arith, lt)) in let few = degree-le-length g.keys v in omega (arith, counted, up, few)

  -- what is counted at the lesser end leaves the greater one as it was
  pub greater_end : (m q : ℕ) → q ≡ get_or (set nexts (get_or g.keys i no_key).a m) (get_or g.keys i no_key).b q →
      q ≡ get_or nexts (get_or g.keys i no_key).b q
  greater_end m q is = is ∙ get_or-set_other nexts key.a key.b m q (λ z. let r = ends in absurd (omega (arith, r.1, z)))

  -- one link more
  pub walked_more : (p q : ℕ) (link : LinkPorts) (more : List LinkPorts) → p ≡ get_or nexts (get_or g.keys i no_key).a p →
      q ≡ get_or (set nexts (get_or g.keys i no_key).a (p + 1)) (get_or g.keys i no_key).b q →
      link ≡ on_link g.keys (get_or g.keys i no_key) → more ≡ links ++ link ∷ [] →
      Walked g (i + 1) (set (set nexts (get_or g.keys i no_key).a (p + 1)) (get_or g.keys i no_key).b (q + 1)) more
  walked_more p q link more a b t m = record {
    graph = f.graph;
    next = one_counted g.nodes g.keys nexts i no_key p q f.graph.among lt f.next at_a at_b;
    links = m ∙ rw (t, f.links) (sym (map_more (on_link g.keys) g.keys i no_key lt));
  }
    where
      at_a : p ≡ get_or nexts key.a 0
      at_a = a ∙ get_or_default nexts key.a p 0 (let r = ends in omega (arith, wide, r.1, r.2))

      at_b : q ≡ get_or nexts key.b 0
      at_b = let r = ends in greater_end (p + 1) q b ∙ get_or_default nexts key.b q 0 (omega (arith, wide, r.2))
