-- A link with its clauses, seen from either end: what lemmas over plain variables speak of.
use Rattle.std.proofs.Common.{◌≡◌, ℕ, ◌≤◌, ◌⊎◌, inl, inr, ⊎_elim, Bool, List, sym, ap, subst, arith}
use Rattle.std.specs.List.{Contains}
use Rattle.ghs_graph.specs.declared.key.Key.{Key}
use Rattle.ghs_graph.specs.Graph.{Shape}
use Rattle.ghs_graph.specs.Links.{Joined, links}
use Rattle.ghs_graph.proofs.lemmas.Joining.{joined_nodes}
use Rattle.peer_network.specs.Network.{Network, network_of, far, far_port, InNetwork, At}
use Rattle.peer_network.proofs.lemmas.Wired.{IsWired}
use Rattle.peer_network.proofs.lemmas.Graphs.{graph_wired, port_ends, is_key}
use Rattle.peer_machine.specs.Net.{Net}
use Rattle.boruvka_node.specs.declared.message.Message.{Message}
use Rattle.boruvka_node.specs.declared.message.Phase.TheVariants.{Sleeping}
use Rattle.boruvka_node.specs.State as state
use Rattle.boruvka_node.specs.State.{State}
use Rattle.boruvka_protocol.proofs.invariant.Sides.{Side, Heard, at_port, side_of, heard_at, names_in, calls_in}
use Rattle.boruvka_protocol.proofs.invariant.Nodes.{NodeFits}
use Rattle.boruvka_protocol.proofs.invariant.Marks.{MarksFit}
use Rattle.boruvka_protocol.proofs.invariant.Names.{NamesFit}
use Rattle.boruvka_protocol.proofs.invariant.Connects.{ConnectsFit}
use Rattle.boruvka_protocol.proofs.invariant.TreeMessages.{CallsFit}
use Rattle.boruvka_protocol.proofs.invariant.Children.{ChildrenFit}
use Rattle.boruvka_protocol.proofs.invariant.Search.{OwesFit}
use Rattle.boruvka_protocol.proofs.invariant.Whole.{Holds}

-- e is an end of the link and f the other one
pub record Wire (ks : List Key) (e f : Side) : Type 0 where
  pub link : Contains ks e.key
  pub same : f.key ≡ e.key
  pub ends : ((e.node ≡ e.key.a) × (f.node ≡ e.key.b)) ⊎ ((e.node ≡ e.key.b) × (f.node ≡ e.key.a))

-- the clauses of a link at its end e, where ms wait, and ns wait at f
pub record Seen (ks : List Key) (e f : Side) (heard : Heard) (owes : Bool) (ms ns : List Message) : Type 0 where
  pub wire : Wire ks e f
  pub marks : MarksFit ks e f heard.level (calls_in ms)
  pub names : NamesFit ks e f heard (names_in ms)
  pub connects : ConnectsFit ks e f (calls_in ms) (calls_in ns)
  pub calls : CallsFit ks e f (calls_in ms)
  pub children : ChildrenFit ks e f (calls_in ms) (calls_in ns)
  pub owed : OwesFit ks e f owes (calls_in ms)

-- a wire from its other end
pub wire_back : {ks : List Key} {e f : Side} → Wire ks e f → Wire ks f e
wire_back {ks} {e} {f} x = record {
  link = subst (λ (k : Key). Contains ks k) (sym x.same) x.link;
  same = sym x.same;
  ends =
      subst (λ (k : Key). ((f.node ≡ k.a) × (e.node ≡ k.b)) ⊎ ((f.node ≡ k.b) × (e.node ≡ k.a))) (sym x.same)
      (⊎_elim (λ p. inr (p.1, p.0)) (λ p. inl (p.1, p.0)) x.ends);
}

-- the end of a link at port p of v
abbrev pub side : Network → Net State Message → ℕ → ℕ → Side
side g w v p = side_of g v p (at_port (w.node v) p)

module _ (g : Shape) (w : Net State Message) where
  abbrev SeenFrom : ℕ → ℕ → ℕ → ℕ → Type 0
  SeenFrom v p u q =
      Seen g.keys (side (network_of g) w v p) (side (network_of g) w u q) (heard_at (at_port (w.node v) p))
      (state.port_at (w.node v) p).owes (w.queue v p) (w.queue u q)

  -- the link at port p of v
  abbrev pub SeenAt : ℕ → ℕ → Type 0
  SeenAt v p = SeenFrom v p (far (network_of g) v p) (far_port (network_of g) v p)

  -- the same link from its far end
  abbrev pub SeenBackAt : ℕ → ℕ → Type 0
  SeenBackAt v p = SeenFrom (far (network_of g) v p) (far_port (network_of g) v p) v p

  module _ (h : Holds g w) where
    pub seen : (v p : ℕ) → At (network_of g) v p → SeenAt v p
    seen v p at = let x = h.fits.links v p at in record {
      wire = record { link = is_key g h.graph v p at; same = (graph_wired g h.graph).same_key v p at; ends = port_ends g h.graph v p at };
      marks = x.marks;
      names = x.names;
      connects = x.connects;
      calls = x.calls;
      children = x.children;
      owed = x.owes;
    }

    pub seen_back : (v p : ℕ) → At (network_of g) v p → SeenBackAt v p
    seen_back v p at =
        let u = far (network_of g) v p in
        let q = far_port (network_of g) v p in
        subst (λ y. SeenFrom u q v y) (wired.back_port v p at)
        (subst (λ x. SeenFrom u q x (far_port (network_of g) u q)) (wired.back v p at) (seen u q (wired.there v p at)))
      where
        wired : IsWired (network_of g)
        wired = graph_wired g h.graph

    -- whoever has a level is awake
    pub awake_above : (v : ℕ) → 1 ≤ (w.node v).head.level → (w.node v).head.phase ≡ Sleeping → ⊥
    awake_above v some s = omega (arith, some, ap (λ (n : State). n.head.level) (h.fits.ground.untouched v s))

    pub node_fits : (v : ℕ) → InNetwork (network_of g) v → 1 ≤ (w.node v).head.level → NodeFits g.keys v (w.node v)
    node_fits v net some = h.fits.nodes v net (awake_above v some)

    -- what the links join with a node of the network is one
    pub joined_in : {v u : ℕ} → InNetwork (network_of g) v → Joined (links g.keys) v u → InNetwork (network_of g) u
    joined_in net way = let r = joined_nodes g.nodes g.keys h.graph.among net.some net.node way in record { some = r.0; node = r.1 }
