-- A Connect of the node's own level is noted: all clauses hold behind it.
use Rattle.std.proofs.Common.{◌≡◌, ℕ, ◌<◌, ◌≤◌, ◌&&◌, ◌||◌, Bool, true, nat_lt, Some, List, [], ◌∷◌, refl, sym, ◌∙◌, ap, subst, cond, ⊎_elim, arith, append-nil, length-set}
use Rattle.std.proofs.lemmas.Bool.{cases_eq}
use Rattle.std.proofs.lemmas.List.Sums.{sum_by-set}
use Rattle.ghs_graph.specs.declared.key.Key.{Key}
use Rattle.ghs_graph.specs.Graph.{Shape, IsGraph}
use Rattle.peer_network.specs.Network.{Network, network_of, At, InNetwork, far}
use Rattle.peer_network.proofs.lemmas.Wired.{IsWired}
use Rattle.peer_network.proofs.lemmas.Graphs.{graph_wired}
use Rattle.peer_network.proofs.lemmas.Wires.{at_in}
use Rattle.peer_machine.specs.Net.{Net, put, reacted, take_first}
use Rattle.boruvka_node.specs.declared.head.Head.{Head}
use Rattle.boruvka_node.specs.declared.mark.Mark.TheVariants.{Asked, Branch}
use Rattle.boruvka_node.specs.declared.message.Message.{Message}
use Rattle.boruvka_node.specs.declared.message.Message.TheVariants.{Connect}
use Rattle.boruvka_node.specs.declared.port_state.PortState.{PortState}
use Rattle.boruvka_node.specs.Words.{is_basic}
use Rattle.boruvka_node.specs.State.{State, no_port, port_at, mark_at, degree, set_mark, is_missing, missing}
use Rattle.boruvka_node.specs.Boruvka.{boruvka}
use Rattle.boruvka_protocol.proofs.invariant.Sides.{at_port, calls_in, reports_in, passes_in}
use Rattle.boruvka_protocol.proofs.invariant.Nodes.{AwakeFits}
use Rattle.boruvka_protocol.proofs.invariant.Search.{LacksSome, SearchFits}
use Rattle.boruvka_protocol.proofs.invariant.Token.{TokensFit}
use Rattle.boruvka_protocol.proofs.invariant.Whole.{Ground, NodesFit, LinksFit, SearchesFit, SearchersLack, Fits}
use Rattle.boruvka_protocol.proofs.Unlike.{asked_is_branch}
use Rattle.boruvka_protocol.proofs.rows.Table.{still}
use Rattle.boruvka_protocol.proofs.rows.Ports.{mark_set, mark_kept}
use Rattle.boruvka_protocol.proofs.rows.Acts.{Acts, acts_taken}
use Rattle.boruvka_protocol.proofs.rows.Alike.{SameHeads, AsMany}
use Rattle.boruvka_protocol.proofs.rows.OwnPorts.{port_below}
use Rattle.boruvka_protocol.proofs.rows.Others.{taken_like, node_like, nodes_act, waits_like, tokens_like}
use Rattle.boruvka_protocol.proofs.rows.Kept.{search_now, heads_act, searches_act}
use Rattle.boruvka_protocol.proofs.rows.Noted.{basic_no_branch}
use Rattle.boruvka_protocol.proofs.rows.Noting.{basic_there, noted_links, greater_links}

-- The node itself: port j, which was Basic or Asked, is Asked.
module _ (n : State) (j : ℕ) (lt : j < degree n) (basic : is_basic (mark_at n j) ≡ true) where
  abbrev now : State
  now = set_mark n j Asked

  abbrev new : PortState
  new = record (port_at n j) { mark = Asked }

  -- Basic ports and Branch ports are what they were
  basic_same : (p : ℕ) → is_basic (mark_at now p) ≡ is_basic (mark_at n p)
  basic_same p = ⊎_elim
      (λ (e : p ≡ j). subst (λ y. is_basic (mark_at now y) ≡ is_basic (mark_at n y)) (sym e) (ap is_basic (mark_set n j new lt) ∙ sym basic))
      (λ ne. ap is_basic (mark_kept n j p new ne))
      (cases_eq p j)

  branch_now : (p : ℕ) → mark_at n p ≡ Branch → mark_at now p ≡ Branch
  branch_now p b = ⊎_elim
      (λ (e : p ≡ j). basic_no_branch (mark_at n j) basic (subst (λ y. mark_at n y ≡ Branch) e b))
      (λ ne. mark_kept n j p new ne ∙ b)
      (cases_eq p j)

  branch_before : (p : ℕ) → mark_at now p ≡ Branch → mark_at n p ≡ Branch
  branch_before p b = ⊎_elim
      (λ (e : p ≡ j). asked_is_branch (sym (mark_set n j new lt) ∙ subst (λ y. mark_at now y ≡ Branch) e b))
      (λ ne. sym (mark_kept n j p new ne) ∙ b)
      (cases_eq p j)

  -- and as much is missing
  pub missing_asked : missing now ≡ missing n
  missing_asked =
      let set_one = sum_by-set (λ (x : PortState). cond (is_missing n.head.level x) 1 0) n.ports j new no_port lt in
      let one : ◌≡◌ {A = ℕ} (cond (is_missing n.head.level new) 1 0)
      (cond (is_missing n.head.level (port_at n j)) 1 0) =
      ap (λ (b : Bool). let x : ℕ = cond ((port_at n j).owes || (b && nat_lt (port_at n j).level n.head.level)) 1 0 in x) (sym basic) in
      omega (arith, set_one, one)

  pub search_asked : (ks : List Key) (g : Network) (v : ℕ) (fars : ℕ → Head) (queues : ℕ → List Message) →
      SearchFits ks g v n fars queues → SearchFits ks g v now fars queues
  search_asked ks g v fars queues =
      search_now ks g v n now.ports fars queues branch_now (λ p reported b. branch_before p b) (λ rest p. basic_same p)

-- The whole net.
module _ (gr : Shape) (ok : IsGraph gr) (w : Net State Message) (v j l : ℕ) (ms : List Message) (at : At (network_of gr) v j)
    (fits : Fits gr.keys (network_of gr) w) (waits : w.queue v j ≡ Connect l ∷ ms)
    (level : l ≡ (w.node v).head.level) where
  abbrev g : Network
  g = network_of gr

  wired : IsWired g
  wired = graph_wired gr ok

  port : j < degree (w.node v)
  port = port_below (fits.ground.nodes v) j at

  was : is_basic (at_port (w.node v) j).port.mark ≡ true
  was = basic_there gr ok w v j l ms at fits.links waits port level

  abbrev after : Net State Message
  after = reacted boruvka g v (still (set_mark (w.node v) j Asked)) (take_first boruvka g v j (Connect l) ms w)

  acts : Acts g w after v (set_mark (w.node v) j Asked) (put (w.queue v) j ms) []
  acts = acts_taken g wired w v j (Connect l) ms (still (set_mark (w.node v) j Asked))

  here : InNetwork g v
  here = at_in at

  heads : SameHeads w after
  heads = heads_act gr.keys g w after v (set_mark (w.node v) j Asked) (put (w.queue v) j ms) [] acts refl

  -- the same waits everywhere but for the Connect
  as_many : (P : List Message → ℕ) → P (Connect l ∷ ms) ≡ P ms → AsMany g P w after
  as_many P none = waits_like gr.keys g w after v (set_mark (w.node v) j Asked) (put (w.queue v) j ms) [] acts wired here P
      (λ i at_i. taken_like P (w.queue v) j (Connect l) ms waits none i) (λ i at_i. ap P (sym (append-nil _)))

  pub noted_nodes : NodesFit gr.keys g after
  noted_nodes = nodes_act gr.keys g w after v (set_mark (w.node v) j Asked) (put (w.queue v) j ms) [] acts (λ u x. AwakeFits gr.keys u x) fits.nodes
      (node_like gr.keys v (w.node v) (set_mark (w.node v) j Asked) refl (sym (length-set (w.node v).ports j _)) refl (fits.nodes v here))

  pub noted_search : SearchesFit gr.keys g after
  noted_search = searches_act gr.keys g w after v (set_mark (w.node v) j Asked) (put (w.queue v) j ms) [] acts heads
      (as_many (λ q. reports_in (calls_in q)) refl) fits.search
      (search_asked (w.node v) j port was gr.keys g v (λ p. (w.node (far g v p)).head) (λ p. w.queue v p) (fits.search v here))

  pub noted_lacks : SearchersLack g after
  noted_lacks = nodes_act gr.keys g w after v (set_mark (w.node v) j Asked) (put (w.queue v) j ms) [] acts (λ u x. LacksSome x) fits.lacks
      (λ s. subst (λ y. 1 ≤ y) (sym (missing_asked (w.node v) j port was)) (fits.lacks v here s))

  pub noted_tokens : TokensFit gr.keys g after
  noted_tokens = tokens_like gr.keys g w after heads (as_many (λ q. passes_in q) refl) fits.tokens

  noted_fits_by : LinksFit gr.keys g after → Ground g after → Fits gr.keys g after
  noted_fits_by links ground = record {
    ground = ground;
    nodes = noted_nodes;
    links = links;
    search = noted_search;
    lacks = noted_lacks;
    tokens = noted_tokens;
  }

  -- with the ground, which every event keeps, where the node hasn't gone out over the port
  pub noted_fits : ((w.node v).head.out ≡ Some j → ⊥) → Ground g after → Fits gr.keys g after
  noted_fits stays ground = noted_fits_by (noted_links gr ok w v j l ms at fits.links waits port level stays) ground

  -- and where it has, and is the greater end of a core, which waits to be called
  pub met_greater : far g v j < v → Ground g after → Fits gr.keys g after
  met_greater less ground = noted_fits_by (greater_links gr ok w v j l ms at fits.links waits port level less) ground
