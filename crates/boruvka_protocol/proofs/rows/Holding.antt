-- A node that holds the token of its class goes out over the least way out: all clauses hold behind it.
use Rattle.std.proofs.Common.{◌≡◌, ◌≢◌, ◌⊎◌, ℕ, ◌<◌, inl, inr, ⊎_elim, true, Option, Some, None, List, [], ◌∷◌, ◌++◌, refl, sym, ◌∙◌, ap, subst, append-nil}
use Rattle.std.proofs.lemmas.Bool.{cases_eq}
use Rattle.ghs_graph.specs.declared.key.Key.{Key}
use Rattle.ghs_graph.specs.Graph.{Shape, IsGraph}
use Rattle.ghs_graph.specs.Links.{Same}
use Rattle.ghs_node.specs.Words.{Best}
use Rattle.peer_network.specs.Network.{Network, network_of, port_at, At, InNetwork, far, far_port}
use Rattle.peer_network.proofs.lemmas.Wired.{IsWired}
use Rattle.peer_network.proofs.lemmas.Graphs.{graph_wired}
use Rattle.peer_network.proofs.lemmas.Wires.{at_in}
use Rattle.peer_machine.specs.Rules.{Outgoing}
use Rattle.peer_machine.specs.Net.{Net}
use Rattle.boruvka_node.specs.declared.head.Head.{Head}
use Rattle.boruvka_node.specs.declared.mark.Mark.TheVariants.{Asked}
use Rattle.boruvka_node.specs.declared.message.Message.{Message}
use Rattle.boruvka_node.specs.declared.message.Message.TheVariants.{Connect}
use Rattle.boruvka_node.specs.declared.message.Phase.TheVariants.{Rest}
use Rattle.boruvka_node.specs.Words.{is_basic}
use Rattle.boruvka_node.specs.State.{State, mark_at}
use Rattle.boruvka_protocol.proofs.invariant.Words.{IsLeast}
use Rattle.boruvka_protocol.proofs.invariant.Sides.{calls_in, reports_in, passes_in}
use Rattle.boruvka_protocol.proofs.invariant.Nodes.{NodeFits, AwakeFits}
use Rattle.boruvka_protocol.proofs.invariant.Search.{LacksSome, HasChild, LeadsTo, Own, By_child, BestIsSub, SearchFits}
use Rattle.boruvka_protocol.proofs.invariant.Token as token
use Rattle.boruvka_protocol.proofs.invariant.Token.{Place, IsTokenAt, In_message, Gone_out, Gone_on, At_end, HaltsFit, TokensFit}
use Rattle.boruvka_protocol.proofs.invariant.Whole.{Ground, LinksFit, NodesFit, SearchesFit, SearchersLack, Fits}
use Rattle.boruvka_protocol.proofs.rows.Table.{gone}
use Rattle.boruvka_protocol.proofs.rows.Sends.{sent_on, sent_here, sent_none}
use Rattle.boruvka_protocol.proofs.rows.Queues.{passes_before, reports_before}
use Rattle.boruvka_protocol.proofs.rows.Acts.{Acts}
use Rattle.boruvka_protocol.proofs.rows.Alike.{SameLevels, SamePhases, SameHalted, PastStays, past_alike, AsMany, AsManyPasses}
use Rattle.boruvka_protocol.proofs.rows.Tokens.{TokensStay, token_stays, halts_stay}
use Rattle.boruvka_protocol.proofs.rows.Searches.{search_seen}
use Rattle.boruvka_protocol.proofs.rows.Others.{nodes_act, waits_like}
use Rattle.boruvka_protocol.proofs.rows.Kept.{variable_act}
use Rattle.boruvka_protocol.proofs.rows.Late.{search_rest}
use Rattle.boruvka_protocol.proofs.rows.AboutToMove.{TokensBut}
use Rattle.boruvka_protocol.proofs.rows.Placed.{put_down}
use Rattle.boruvka_protocol.proofs.rows.Gone.{none_some}
use Rattle.boruvka_protocol.proofs.rows.OutLink.{out_links}

-- v is at rest and holds the token of its class; the clauses of its own state are told beside it
pub record Holding (ks : List Key) (g : Network) (w : Net State Message) (v : ℕ) : Type 0 where
  pub ground : Ground g w
  pub others : (u : ℕ) → InNetwork g u → u ≢ v → AwakeFits ks u (w.node u)
  pub links : LinksFit ks g w
  pub search : SearchesFit ks g w
  pub lacks : SearchersLack g w
  pub rest : (w.node v).head.phase ≡ Rest
  pub stays : (w.node v).head.out ≡ None
  pub tokens : TokensBut ks g w v

-- Acts, one after another: from where the first one sent nothing on to where the second one leads.
pub acts_then : (g : Network) (w mid w' : Net State Message) (v : ℕ) (n n' : State) (own : ℕ → List Message) (ss : Outgoing Message) →
    Acts g w mid v n own [] → Acts g w w' v n' own ss → Acts g mid w' v n' (mid.queue v) ss
acts_then g w mid w' v n n' own ss a b = record {
  node = b.node;
  others = λ u ne. sym (a.others u ne) ∙ b.others u ne;
  queue = λ i at. b.queue i at ∙ sym (a.queue i at);
  far_queue = λ i at. b.far_queue i at ∙ ap (λ (x : List Message). x ++ sent_on ss i) (sym (append-nil _) ∙ sym (a.far_queue i at));
  queues = λ u q ne away. b.queues u q ne away ∙ sym (a.queues u q ne away);
}

-- The search at a node at rest that has gone out.
module _ (ks : List Key) (g : Network) (v : ℕ) (n : State) (p : ℕ) (fars : ℕ → Head) (queues : ℕ → List Message) (rest : n.head.phase ≡ Rest) where
  child_gone : (i : ℕ) → HasChild ks g v n fars queues i → HasChild ks g v (gone n p) fars queues i
  child_gone i c = record { at = c.at; mark = c.mark; child = c.child }

  leads_gone : (i : ℕ) (k : Key) → LeadsTo ks g v n fars queues i k → LeadsTo ks g v (gone n p) fars queues i k
  leads_gone i k (Own at b key) = Own at b key
  leads_gone i k (By_child c sub) = By_child (child_gone i c) sub

  sub_gone : (b : Best) → BestIsSub ks g v n fars queues b → BestIsSub ks g v (gone n p) fars queues b
  sub_gone None h = h
  sub_gone (Some b) h = (h.0, leads_gone b.0 b.1 h.1)

  search_gone : SearchFits ks g v n fars queues → SearchFits ks g v (gone n p) fars queues
  search_gone h = record { search = λ s. search_rest n.head.phase s rest; rest = λ r lo. sub_gone n.head.best (h.rest r lo) }

module _ (gr : Shape) (ok : IsGraph gr) (w w' : Net State Message) (v p : ℕ) (at : At (network_of gr) v p)
    (h : Holding gr.keys (network_of gr) w v) (basic : is_basic (mark_at (w.node v) p) ≡ true)
    (least : IsLeast gr.keys (w.node v).head.level v (port_at (network_of gr) v p).key)
    (a : Acts (network_of gr) w w' v (gone (w.node v) p) (w.queue v) ((p, Connect (w.node v).head.level) ∷ [])) where
  abbrev g : Network
  g = network_of gr

  abbrev ks : List Key
  ks = gr.keys

  abbrev l : ℕ
  l = (w.node v).head.level

  abbrev ss : Outgoing Message
  ss = (p, Connect l) ∷ []

  wired : IsWired g
  wired = graph_wired gr ok

  here : InNetwork g v
  here = at_in at

  same_level : SameLevels w w'
  same_level = variable_act ks g w w' v (gone (w.node v) p) (w.queue v) ss a (λ x. x.level) refl

  same_phase : SamePhases w w'
  same_phase = variable_act ks g w w' v (gone (w.node v) p) (w.queue v) ss a (λ x. x.phase) refl

  same_halted : SameHalted w w'
  same_halted = variable_act ks g w w' v (gone (w.node v) p) (w.queue v) ss a (λ x. x.halted) refl

  as_many : (P : List Message → ℕ) → ((q : List Message) (i : ℕ) → ◌≡◌ {A = ℕ} (P q) (P (q ++ Connect i ∷ []))) → AsMany g P w w'
  as_many P none = waits_like ks g w w' v (gone (w.node v) p) (w.queue v) ss a wired here P (λ i at_i. refl)
      (λ i at_i. ⊎_elim
      (λ (e : p ≡ i).
      none (w.queue (far g v i) (far_port g v i)) l
      ∙ ap (λ (x : List Message). P (w.queue (far g v i) (far_port g v i) ++ x)) (sym (sent_here (p, Connect l) [] i e)))
      (λ ne. ap P (sent_none (w.queue (far g v i) (far_port g v i)) p (Connect l) i (λ e. ne (sym e))))
      (cases_eq p i))

  past_to : PastStays w w'
  past_to = past_alike w w' same_level same_phase

  past_from : PastStays w' w
  past_from = past_alike w' w (λ u. sym (same_level u)) (λ u. sym (same_phase u))

  passes : AsManyPasses g w w'
  passes = as_many (λ q. passes_in q) (λ q i. passes_before q (Connect i ∷ []) refl)

  -- elsewhere out is what it was
  out_there : (x : ℕ) → x ≢ v → ◌≡◌ {A = Option ℕ} (w.node x).head.out (w'.node x).head.out
  out_there x ne = ap (λ (z : State). z.head.out) (a.others x ne)

  token_to : TokensStay ks g w w'
  token_to m x place = token_stays ks g w w' m x place (same_level x)
      (λ q at_q lt. subst (λ y. 0 < y) (passes x q at_q) lt)
      (λ lv q out. ⊎_elim
      (λ (e : x ≡ v). none_some q h.stays (subst (λ y. (w.node y).head.out ≡ Some q) e out))
      (λ ne. sym (out_there x ne) ∙ out)
      (cases_eq x v))
      (λ lv z. sym (same_halted x) ∙ z)

  token_from : (m x : ℕ) (place : Place) → IsTokenAt ks g w' m x place → IsTokenAt ks g w m x place ⊎ ((m ≡ l) × (x ≡ v) × (place ≡ token.Out))
  token_from m x _ (In_message q at_q lv lt) = inl (In_message q at_q (same_level x ∙ lv) (subst (λ y. 0 < y) (sym (passes x q at_q)) lt))
  token_from m x _ (Gone_out q at_q lv out) = ⊎_elim
      (λ (e : x ≡ v). inr (sym (subst (λ y. (w.node y).head.level ≡ m) e (same_level x ∙ lv)), e, refl))
      (λ ne. inl (Gone_out q at_q (same_level x ∙ lv) (out_there x ne ∙ out)))
      (cases_eq x v)
  token_from m x _ (Gone_on k lt chosen end) = inl (Gone_on k (subst (λ y. m < y) (sym (same_level x)) lt) chosen end)
  token_from m x _ (At_end lv halted) = inl (At_end (same_level x ∙ lv) (same_halted x ∙ halted))

  out_halted : HaltsFit ks g w'
  out_halted = halts_stay ks g w w' same_level same_phase (λ u x. same_halted u ∙ x) h.tokens.halted

  pub out_tokens : TokensFit ks g w'
  out_tokens = put_down ks g w w' v l v token.Out refl h.tokens here Same
      (Gone_out p at (sym (same_level v)) (ap (λ (z : State). z.head.out) a.node)) token_to token_from past_to past_from out_halted

  pub out_searches : SearchesFit ks g w'
  out_searches u at_u = search_seen ks g u (w'.node u) (λ q. (w.node (far g u q)).head) (λ q. (w'.node (far g u q)).head) (λ q. w.queue u q)
      (λ q. w'.queue u q) (λ q x. same_level (far g u q)) (λ q x. same_phase (far g u q))
      (as_many (λ q. reports_in (calls_in q)) (λ q i. reports_before q (Connect i ∷ []) refl) u)
      (nodes_act ks g w w' v (gone (w.node v) p) (w.queue v) ss a
      (λ y x. SearchFits ks g y x (λ q. (w.node (far g y q)).head) (λ q. w.queue y q)) h.search
      (search_gone ks g v (w.node v) p (λ q. (w.node (far g v q)).head) (λ q. w.queue v q) h.rest (h.search v here)) u at_u)

  pub out_lacks : SearchersLack g w'
  out_lacks = nodes_act ks g w w' v (gone (w.node v) p) (w.queue v) ss a (λ y x. LacksSome x) h.lacks (λ s. search_rest _ s h.rest)

  module _ (own : NodeFits ks v (gone (w.node v) p)) where
    pub out_nodes : NodesFit ks g w'
    out_nodes u at_u = ⊎_elim
        (λ (e : u ≡ v). subst (λ y. AwakeFits ks y (w'.node y)) (sym e) (λ up. subst (λ x. NodeFits ks v x) (sym a.node) own))
        (λ ne. subst (λ x. AwakeFits ks u x) (a.others u ne) (h.others u at_u ne))
        (cases_eq u v)

    -- with the ground, which every event keeps; where it is asked there already, it is the greater end
    pub out_fits : (mark_at (w.node v) p ≡ Asked → far g v p < v) → Ground g w' → Fits ks g w'
    out_fits greater ground = record {
      ground = ground;
      nodes = out_nodes;
      links = out_links gr ok w v p at h.links h.rest h.stays basic least h.tokens.none w' a greater;
      search = out_searches;
      lacks = out_lacks;
      tokens = out_tokens;
    }
