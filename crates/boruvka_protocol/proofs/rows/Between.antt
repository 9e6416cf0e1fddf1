-- Acts, one after another: from where the first one leads to where both lead together. And nets to which the same act leads keep the same.
use Rattle.std.proofs.Common.{◌≡◌, ℕ, List, [], ◌++◌, refl, sym, ◌∙◌, ap, subst, append_assoc, append-nil}
use Rattle.ghs_graph.specs.Graph.{Shape, IsGraph}
use Rattle.peer_network.specs.Network.{Network, network_of, At, InNetwork, far, far_port}
use Rattle.peer_network.proofs.lemmas.Wired.{IsWired}
use Rattle.peer_network.proofs.lemmas.Graphs.{graph_wired}
use Rattle.peer_machine.specs.Rules.{Outgoing}
use Rattle.peer_machine.specs.Net.{Net}
use Rattle.boruvka_node.specs.declared.message.Message.{Message}
use Rattle.boruvka_node.specs.State.{State}
use Rattle.boruvka_protocol.proofs.invariant.Sides.{calls_in, reports_in, passes_in}
use Rattle.boruvka_protocol.proofs.invariant.Nodes.{AwakeFits}
use Rattle.boruvka_protocol.proofs.invariant.Search.{LacksSome}
use Rattle.boruvka_protocol.proofs.invariant.Whole.{Ground, Fits}
use Rattle.boruvka_protocol.proofs.rows.Sends.{sent_on, sent_append}
use Rattle.boruvka_protocol.proofs.rows.Acts.{Acts, fits_like, far_link, links_act}
use Rattle.boruvka_protocol.proofs.rows.Alike.{SameHeads}
use Rattle.boruvka_protocol.proofs.rows.Others.{nodes_act, waits_same, tokens_like}
use Rattle.boruvka_protocol.proofs.rows.Kept.{heads_act, searches_act}

pub acts_between : (g : Network) (w mid w' : Net State Message) (v : ℕ) (n n' : State) (own left : ℕ → List Message) (ss ts : Outgoing Message) →
    Acts g w mid v n own ss → Acts g w w' v n' left (ss ++ ts) → Acts g mid w' v n' left ts
acts_between g w mid w' v n n' own left ss ts a b = record {
  node = b.node;
  others = λ u ne. sym (a.others u ne) ∙ b.others u ne;
  queue = b.queue;
  far_queue = λ i at.
      let q : List Message = w.queue (far g v i) (far_port g v i) in
      b.far_queue i at
      ∙ ap (λ (x : List Message). q ++ x) (sent_append ss ts i)
      ∙ sym (append_assoc q (sent_on ss i) (sent_on ts i))
      ∙ ap (λ (x : List Message). x ++ sent_on ts i) (sym (a.far_queue i at));
  queues = λ u q ne away. b.queues u q ne away ∙ sym (a.queues u q ne away);
}

-- the same is left at each port
pub acts_left : (g : Network) (w w' : Net State Message) (v : ℕ) (n : State) (own left : ℕ → List Message) (ss : Outgoing Message) →
    ((i : ℕ) → At g v i → own i ≡ left i) → Acts g w w' v n own ss → Acts g w w' v n left ss
acts_left g w w' v n own left ss same a = record {
  node = a.node;
  others = a.others;
  queue = λ i at. a.queue i at ∙ same i at;
  far_queue = a.far_queue;
  queues = a.queues;
}

-- where both leave the same at v's ports
pub acts_on : (g : Network) (w mid w' : Net State Message) (v : ℕ) (n n' : State) (own : ℕ → List Message) (ss ts : Outgoing Message) →
    Acts g w mid v n own ss → Acts g w w' v n' own (ss ++ ts) → Acts g mid w' v n' (mid.queue v) ts
acts_on g w mid w' v n n' own ss ts a b =
    acts_left g mid w' v n' own (mid.queue v) ts (λ i at. sym (a.queue i at)) (acts_between g w mid w' v n n' own own ss ts a b)

-- An act by which nothing changes.
module _ (gr : Shape) (ok : IsGraph gr) (w w' : Net State Message) (v : ℕ) (here : InNetwork (network_of gr) v)
    (a : Acts (network_of gr) w w' v (w.node v) (w.queue v) []) where
  abbrev g : Network
  g = network_of gr

  wired : IsWired g
  wired = graph_wired gr ok

  heads : SameHeads w w'
  heads = heads_act gr.keys g w w' v (w.node v) (w.queue v) [] a refl

  still_fits : Fits gr.keys g w → Ground g w' → Fits gr.keys g w'
  still_fits fits ground = record {
    ground = ground;
    nodes = nodes_act gr.keys g w w' v (w.node v) (w.queue v) [] a (λ u x. AwakeFits gr.keys u x) fits.nodes (fits.nodes v here);
    links = links_act g wired gr.keys w w' v (w.node v) (w.queue v) [] a here fits.links
        (λ i at. fits_like g wired gr.keys refl refl refl (sym (append-nil _)) (fits.links v i at))
        (λ i at. fits_like g wired gr.keys refl refl (sym (append-nil _)) refl (far_link g wired gr.keys w fits.links v i at));
    search = searches_act gr.keys g w w' v (w.node v) (w.queue v) [] a heads
        (waits_same gr.keys g w w' v (w.node v) a wired here (λ q. reports_in (calls_in q))) fits.search (fits.search v here);
    lacks = nodes_act gr.keys g w w' v (w.node v) (w.queue v) [] a (λ u x. LacksSome x) fits.lacks (fits.lacks v here);
    tokens = tokens_like gr.keys g w w' heads (waits_same gr.keys g w w' v (w.node v) a wired here (λ q. passes_in q)) fits.tokens;
  }

-- what holds of one net behind an act holds of each net behind it
pub same_fits : (gr : Shape) → IsGraph gr → (w x w' : Net State Message) (v : ℕ) (n : State) (own : ℕ → List Message) (ss : Outgoing Message) →
    InNetwork (network_of gr) v → Acts (network_of gr) w x v n own ss → Acts (network_of gr) w w' v n own ss → Fits gr.keys (network_of gr) x →
    Ground (network_of gr) w' → Fits gr.keys (network_of gr) w'
same_fits gr ok w x w' v n own ss here a b fits ground = still_fits gr ok x w' v here
    (subst (λ (y : State). Acts (network_of gr) x w' v y (x.queue v) []) (sym a.node)
    (acts_on (network_of gr) w x w' v n n own ss [] a
    (subst (λ (y : Outgoing Message). Acts (network_of gr) w w' v n own y) (sym (append-nil ss)) b)))
    fits ground
