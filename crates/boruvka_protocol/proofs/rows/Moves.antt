-- A node that moves goes out over its own least way out: all clauses hold behind it, unless it is the lesser end of a core.
use Rattle.std.proofs.Common.{◌≡◌, ℕ, ◌<◌, ◌≤◌, true, false, Option, Some, None, List, [], ◌∷◌, sym, ◌∙◌, ap, subst, ⊎_elim, arith}
use Rattle.std.proofs.lemmas.Bool.{cases_eq, both_ways}
use Rattle.std.proofs.lemmas.Option.{same_Some}
use Rattle.ghs_graph.specs.declared.key.Key.{Key}
use Rattle.ghs_graph.specs.Graph.{Shape, IsGraph}
use Rattle.ghs_node.specs.Words.{Best}
use Rattle.peer_network.specs.Network.{Network, network_of, port_at, At, InNetwork, far}
use Rattle.peer_machine.specs.Net.{Net}
use Rattle.boruvka_node.specs.declared.mark.Mark.{Mark}
use Rattle.boruvka_node.specs.declared.mark.Mark.TheVariants.{Asked, Branch}
use Rattle.boruvka_node.specs.declared.message.Message.{Message}
use Rattle.boruvka_node.specs.declared.message.Message.TheVariants.{Connect}
use Rattle.boruvka_node.specs.Words.{is_basic, is_asked, is_branch}
use Rattle.boruvka_node.specs.State.{State, degree, mark_at}
use Rattle.boruvka_protocol.proofs.invariant.Words.{IsLeast, IsSubAt}
use Rattle.boruvka_protocol.proofs.invariant.Nodes.{ParentIs, NodeFits}
use Rattle.boruvka_protocol.proofs.invariant.Search.{LeadsTo, Own, By_child, BestIsSub}
use Rattle.boruvka_protocol.proofs.invariant.Whole.{Ground, Fits}
use Rattle.boruvka_protocol.proofs.Unlike.{rest_is_sleeping}
use Rattle.boruvka_protocol.proofs.rows.Table.{gone}
use Rattle.boruvka_protocol.proofs.rows.Acts.{Acts}
use Rattle.boruvka_protocol.proofs.rows.OwnPorts.{port_below}
use Rattle.boruvka_protocol.proofs.rows.AboutToMove.{AboutToMove}
use Rattle.boruvka_protocol.proofs.rows.Holding.{Holding, out_fits}

pub asked_tells : (x : Mark) → is_asked x ≡ false → x ≡ Asked → ⊥
asked_tells x a b = both_ways (is_asked x) a (ap is_asked b)

branch_tells : (x : Mark) → is_branch x ≡ false → x ≡ Branch → ⊥
branch_tells x a b = both_ways (is_branch x) a (ap is_branch b)

parent_gone : (ks : List Key) (l v p : ℕ) (n : State) (q : Option ℕ) → ParentIs ks l v n q → ParentIs ks l v (gone n p) q
parent_gone ks l v p n None h = h
parent_gone ks l v p n (Some i) h = h

-- the port of a node on its own least way out
pub record OutPort (g : Network) (v p : ℕ) (n : State) (k : Key) : Type 0 where
  pub at : At g v p
  pub basic : is_basic (mark_at n p) ≡ true
  pub key : (port_at g v p).key ≡ k

module _ (gr : Shape) (ok : IsGraph gr) (w : Net State Message) (v : ℕ) (here : InNetwork (network_of gr) v)
    (h : AboutToMove gr.keys (network_of gr) w v) where
  abbrev g : Network
  g = network_of gr

  abbrev ks : List Key
  ks = gr.keys

  abbrev n : State
  n = w.node v

  abbrev p : ℕ
  p = h.best.0

  pub moving_node : NodeFits ks v n
  moving_node = h.nodes v here (λ s. rest_is_sleeping (sym h.rest ∙ s))

  -- its level is above 0, where a node has no best
  pub moving_level : 1 ≤ n.head.level
  moving_level = ⊎_elim
      (λ (z : n.head.level ≡ 0). none_best (sym (moving_node.ground z).best ∙ h.is))
      (λ ne. omega (arith, ne))
      (cases_eq n.head.level 0)
    where
      none_best : {P : Type 0} → None ≡ Some h.best → P
      none_best e = cc

  pub moving_sub : IsSubAt ks n.head.level v h.best.1 ×
      LeadsTo ks g v n (λ i. (w.node (far g v i)).head) (λ i. w.queue v i) h.best.0 h.best.1
  moving_sub = subst (λ (x : Best). BestIsSub ks g v n (λ i. (w.node (far g v i)).head) (λ i. w.queue v i) x) h.is
      ((h.search v here).rest h.rest moving_level)

  pub out_port : is_branch (mark_at n p) ≡ false → OutPort g v p n h.best.1
  out_port plain = go moving_sub.1
    where
      go : LeadsTo ks g v n (λ i. (w.node (far g v i)).head) (λ i. w.queue v i) h.best.0 h.best.1 → OutPort g v p n h.best.1
      go (Own at b key) = record { at = at; basic = b; key = key }
      go (By_child c sub) = absurd (branch_tells (mark_at n p) plain c.mark)

  pub holding : Holding ks g w v
  holding = record {
    ground = h.ground;
    others = λ u at ne. h.nodes u at;
    links = h.links;
    search = h.search;
    lacks = h.lacks;
    rest = h.rest;
    stays = h.stays;
    tokens = h.tokens;
  }

  pub gone_node : At g v p → NodeFits ks v (gone n p)
  gone_node at = record {
    class = moving_node.class;
    name = moving_node.name;
    parent = parent_gone ks n.head.level v p n n.head.parent moving_node.parent;
    ground = λ z. let lo = moving_level in absurd (omega (arith, z, lo));
    out_port = λ i e. subst (λ x. x < degree n) (same_Some p i e) (port_below (h.ground.nodes v) p at);
  }

  pub least_out : (o : OutPort g v p n h.best.1) → IsLeast ks n.head.level v (port_at g v p).key
  least_out o = subst (λ x. IsLeast ks n.head.level v x) (sym o.key) h.least

  -- goes out over a port that isn't Branch, and isn't Asked or is so at the greater end
  pub moves_out : (w' : Net State Message) → is_branch (mark_at n p) ≡ false → (mark_at n p ≡ Asked → far g v p < v) →
      Acts g w w' v (gone n p) (w.queue v) ((p, Connect n.head.level) ∷ []) → Ground g w' → Fits ks g w'
  moves_out w' plain greater a =
      let o = out_port plain in
      out_fits gr ok w w' v p o.at holding o.basic (least_out o) a (gone_node o.at) greater
