-- A node has gone out over a port where a Connect has come, as the lesser end of a core: all clauses but one hold before it enters.
use Rattle.std.proofs.Common.{◌≡◌, ◌≢◌, ◌⊎◌, ℕ, ◌<◌, true, List, [], ◌∷◌, ◌++◌, sym, ◌∙◌, ap, subst, ⊎_elim}
use Rattle.std.proofs.lemmas.Bool.{cases_eq}
use Rattle.ghs_graph.specs.declared.key.Key.{Key}
use Rattle.ghs_graph.specs.Graph.{Shape, IsGraph}
use Rattle.peer_network.specs.Network.{Network, network_of, port_at, At, far, far_port}
use Rattle.peer_network.proofs.lemmas.Wired.{IsWired}
use Rattle.peer_network.proofs.lemmas.Graphs.{graph_wired}
use Rattle.peer_machine.specs.Net.{Net}
use Rattle.boruvka_node.specs.declared.mark.Mark.TheVariants.{Asked}
use Rattle.boruvka_node.specs.declared.message.Message.{Message}
use Rattle.boruvka_node.specs.declared.message.Message.TheVariants.{Connect}
use Rattle.boruvka_node.specs.Words.{is_basic}
use Rattle.boruvka_node.specs.State.{State, mark_at}
use Rattle.boruvka_protocol.proofs.invariant.Words.{IsLeast}
use Rattle.boruvka_protocol.proofs.invariant.Sides.{AtPort, at_port, side_of, far_side_of, calls_in}
use Rattle.boruvka_protocol.proofs.invariant.Nodes.{NodeFits}
use Rattle.boruvka_protocol.proofs.invariant.Children.{ChildrenFit}
use Rattle.boruvka_protocol.proofs.invariant.Whole.{LinkIn, Ground}
use Rattle.boruvka_protocol.proofs.rows.Table.{gone}
use Rattle.boruvka_protocol.proofs.rows.Sends.{sent_one}
use Rattle.boruvka_protocol.proofs.rows.Acts.{Acts}
use Rattle.boruvka_protocol.proofs.rows.EntersDown.{EndFits}
use Rattle.boruvka_protocol.proofs.rows.CoreIn.{AboutToMeet}
use Rattle.boruvka_protocol.proofs.rows.OutLink.{core_end, core_children, out_links_there, out_links_near}
use Rattle.boruvka_protocol.proofs.rows.Holding.{Holding, out_nodes, out_searches, out_lacks, out_tokens}

module _ (gr : Shape) (ok : IsGraph gr) (w w' : Net State Message) (v p : ℕ) (at : At (network_of gr) v p)
    (h : Holding gr.keys (network_of gr) w v) (basic : is_basic (mark_at (w.node v) p) ≡ true)
    (least : IsLeast gr.keys (w.node v).head.level v (port_at (network_of gr) v p).key)
    (a : Acts (network_of gr) w w' v (gone (w.node v) p) (w.queue v) ((p, Connect (w.node v).head.level) ∷ []))
    (own : NodeFits gr.keys v (gone (w.node v) p)) (asked : mark_at (w.node v) p ≡ Asked) (less : v < far (network_of gr) v p) where
  abbrev g : Network
  g = network_of gr

  abbrev ks : List Key
  ks = gr.keys

  abbrev l : ℕ
  l = (w.node v).head.level

  abbrev u : ℕ
  u = far g v p

  abbrev b : ℕ
  b = far_port g v p

  wired : IsWired g
  wired = graph_wired gr ok

  there_now : at_port (w.node u) b ≡ at_port (w'.node u) b
  there_now = ap (λ (x : State). at_port x b) (a.others u (wired.apart v p at))

  queue_now : w.queue v p ≡ w'.queue v p
  queue_now = sym (a.queue p at)

  far_queue_now : w.queue u b ++ Connect l ∷ [] ≡ w'.queue u b
  far_queue_now = sent_one (w.queue u b) p (Connect l) ∙ sym (a.far_queue p at)

  links : (y i : ℕ) → At g y i → (y ≢ v) ⊎ (i ≢ p) → LinkIn ks g w' y i
  links y i at_y apart = ⊎_elim
      (λ (e : y ≡ v).
      let ne : i ≢ p = λ z. ⊎_elim (λ o. o e) (λ o. o z) apart in
      subst (λ x. LinkIn ks g w' x i) (sym e)
      (out_links_near gr ok w v p at h.links h.rest h.stays basic least h.tokens.none w' a i (subst (λ x. At g x i) e at_y) ne))
      (λ ne. out_links_there gr ok w v p at h.links h.rest h.stays basic least h.tokens.none w' a y i at_y ne)
      (cases_eq y v)

  -- with the ground, which every event keeps
  pub at_core : Ground g w' → AboutToMeet gr w' v p
  at_core ground = record {
    at = at;
    rest = ap (λ (x : State). x.head.phase) a.node ∙ h.rest;
    out = ap (λ (x : State). x.head.out) a.node;
    asked = ap (λ (x : State). mark_at x p) a.node ∙ asked;
    less = less;
    least = subst (λ (x : State). IsLeast ks x.head.level v (port_at g v p).key) (sym a.node) least;
    all = record {
      ground = ground;
      nodes = out_nodes gr ok w w' v p at h basic least a own;
      search = out_searches gr ok w w' v p at h basic least a;
      lacks = out_lacks gr ok w w' v p at h basic least a;
      tokens = out_tokens gr ok w w' v p at h basic least a;
    };
    links = links;
    end = subst (λ (x : State). EndFits ks g v p (at_port x p) (at_port (w'.node u) b) (w'.queue v p)) (sym a.node)
        (subst (λ (x : List Message). EndFits ks g v p (at_port (gone (w.node v) p) p) (at_port (w'.node u) b) x) queue_now
        (subst (λ (x : AtPort). EndFits ks g v p (at_port (gone (w.node v) p) p) x (w.queue v p)) there_now
        (core_end gr ok w v p at h.links h.rest h.stays basic least h.tokens.none)));
    children = subst
        (λ (x : State).
        ChildrenFit ks (side_of g v p (at_port x p)) (far_side_of g v p (at_port (w'.node u) b)) (calls_in (w'.queue v p)) (calls_in (w'.queue u b)))
        (sym a.node)
        (subst
        (λ (x : List Message).
        ChildrenFit ks (side_of g v p (at_port (gone (w.node v) p) p)) (far_side_of g v p (at_port (w'.node u) b)) (calls_in x)
        (calls_in (w'.queue u b)))
        queue_now
        (subst
        (λ (x : List Message).
        ChildrenFit ks (side_of g v p (at_port (gone (w.node v) p) p)) (far_side_of g v p (at_port (w'.node u) b)) (calls_in (w.queue v p))
        (calls_in x))
        far_queue_now
        (subst
        (λ (x : AtPort).
        ChildrenFit ks (side_of g v p (at_port (gone (w.node v) p) p)) (far_side_of g v p x) (calls_in (w.queue v p))
        (calls_in (w.queue u b ++ Connect l ∷ [])))
        there_now
        (core_children gr ok w v p at h.links h.rest h.stays basic least h.tokens.none))));
  }
