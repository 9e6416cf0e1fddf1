-- A Connect of the level below comes late: all clauses hold behind it.
use Rattle.std.proofs.Common.{◌≡◌, ◌≢◌, ℕ, suc, ◌<◌, ◌≤◌, Bool, true, Option, Some, None, List, [], ◌∷◌, ◌++◌, unwrap_or, refl, sym, ◌∙◌, ap, subst, cond, ⊎_elim, arith, length-set, lt-ltb}
use Rattle.std.proofs.lemmas.Bool.{cases_eq, and_from, or_right}
use Rattle.std.proofs.lemmas.List.Sums.{sum_by-set}
use Rattle.ghs_graph.specs.declared.key.Key.{Key}
use Rattle.ghs_graph.specs.Graph.{Shape, IsGraph}
use Rattle.ghs_graph.specs.Key.{no_key}
use Rattle.boruvka_protocol.specs.Levels.{InClass}
use Rattle.boruvka_protocol.specs.Cores.{IsCore}
use Rattle.peer_network.specs.Network.{Network, network_of, port_at, At, InNetwork, far, far_port}
use Rattle.peer_network.proofs.lemmas.Wired.{IsWired}
use Rattle.peer_network.proofs.lemmas.Graphs.{graph_wired, port_ends, link_among, is_key}
use Rattle.peer_network.proofs.lemmas.Updates.{put_same, put_other}
use Rattle.peer_network.proofs.lemmas.Wires.{at_in}
use Rattle.peer_machine.specs.Net.{Net, put, reacted, take_first}
use Rattle.boruvka_node.specs.declared.head.Head.{Head}
use Rattle.boruvka_node.specs.declared.mark.Mark.TheVariants.{Branch}
use Rattle.boruvka_node.specs.declared.message.Message.{Message}
use Rattle.boruvka_node.specs.declared.message.Message.TheVariants.{Connect, Initiate}
use Rattle.boruvka_node.specs.declared.message.Phase.TheVariants.{Search}
use Rattle.boruvka_node.specs.declared.port_state.PortState.{PortState}
use Rattle.boruvka_node.specs.Words.{is_basic}
use Rattle.boruvka_node.specs.State as state
use Rattle.boruvka_node.specs.State.{State, no_port, mark_at, degree, is_missing, missing, name_of}
use Rattle.boruvka_node.specs.Boruvka.{boruvka}
use Rattle.boruvka_protocol.proofs.invariant.Words.{IsName}
use Rattle.boruvka_protocol.proofs.invariant.Sides.{AtPort, at_port, calls_in, initiates_in, reports_in, passes_in}
use Rattle.boruvka_protocol.proofs.invariant.Nodes.{NodeFits, AwakeFits}
use Rattle.boruvka_protocol.proofs.invariant.Children.{HasReported}
use Rattle.boruvka_protocol.proofs.invariant.Search.{LacksSome, SearchFits}
use Rattle.boruvka_protocol.proofs.invariant.Whole.{LinkFits, LinksFit, SearchesFit, Ground, Fits}
use Rattle.boruvka_protocol.proofs.Unlike.{search_is_sleeping}
use Rattle.boruvka_protocol.proofs.rows.Table.{adopted, sends_one}
use Rattle.boruvka_protocol.proofs.rows.Sends.{sent_on, sent_one, sent_none}
use Rattle.boruvka_protocol.proofs.rows.Ports.{port_set, port_kept, mark_set, mark_kept}
use Rattle.boruvka_protocol.proofs.rows.Queues.{passes_before, reports_before}
use Rattle.boruvka_protocol.proofs.rows.Acts.{Acts, acts_taken, fits_like, far_link, links_one}
use Rattle.boruvka_protocol.proofs.rows.Alike.{AsMany}
use Rattle.boruvka_protocol.proofs.rows.OwnPorts.{port_below}
use Rattle.boruvka_protocol.proofs.rows.Others.{taken_like, node_like, nodes_act, waits_like, tokens_like}
use Rattle.boruvka_protocol.proofs.rows.Kept.{search_now, heads_act, searches_act}
use Rattle.boruvka_protocol.proofs.rows.Leaving.{AreEnds, joined_ends, end_there, far_back}
use Rattle.boruvka_protocol.proofs.rows.Late.{adopted_at, search_rest, taken, sender_out, late_near, late_away, called_alone}

-- The node itself: port j, from which something was missing, is Branch and owes a Report.
module _ (n : State) (j : ℕ) (lt : j < degree n) (search : n.head.phase ≡ Search) (missed : is_missing n.head.level (state.port_at n j) ≡ true) where
  abbrev now : State
  now = adopted n j

  abbrev new : PortState
  new = record (state.port_at n j) { mark = Branch; owes = true }

  pub missing_adopted : missing now ≡ missing n
  missing_adopted =
      let set_one = sum_by-set (λ (x : PortState). cond (is_missing n.head.level x) 1 0) n.ports j new no_port lt in
      let one : ◌≡◌ {A = ℕ} (cond (is_missing n.head.level (state.port_at n j)) 1 0) 1 =
      ap (λ (b : Bool). let x : ℕ = cond b 1 0 in x) missed in
      omega (arith, set_one, one)

  pub search_adopted : (ks : List Key) (g : Network) (v : ℕ) (fars : ℕ → Head) (queues : ℕ → List Message) →
      (HasReported n.head.level (fars j).level (fars j).phase (calls_in (queues j)) → ⊥) →
      SearchFits ks g v n fars queues → SearchFits ks g v now fars queues
  search_adopted ks g v fars queues unreported = search_now ks g v n now.ports fars queues
      (λ p b. ⊎_elim
      (λ (e : p ≡ j). subst (λ y. mark_at now y ≡ Branch) (sym e) (mark_set n j new lt))
      (λ ne. mark_kept n j p new ne ∙ b)
      (cases_eq p j))
      (λ p reported b. ⊎_elim
      (λ (e : p ≡ j). absurd
      (unreported (subst (λ y. HasReported n.head.level (fars y).level (fars y).phase (calls_in (queues y))) e reported)))
      (λ ne. sym (mark_kept n j p new ne) ∙ b)
      (cases_eq p j))
      (λ rest. search_rest n.head.phase search rest)

-- what the node has at its ports
adopted_here : (n : State) (j : ℕ) → j < degree n → at_port (adopted n j) j ≡ adopted_at (at_port n j)
adopted_here n j lt =
    ap (λ (x : PortState). let a : AtPort = record { port = x; head = n.head } in a)
    (port_set n j (record (state.port_at n j) { mark = Branch; owes = true }) lt)

adopted_there : (n : State) (j i : ℕ) → i ≢ j → at_port (adopted n j) i ≡ at_port n i
adopted_there n j i ne =
    ap (λ (x : PortState). let a : AtPort = record { port = x; head = n.head } in a)
    (port_kept n j i (record (state.port_at n j) { mark = Branch; owes = true }) ne)

-- The whole net.
module _ (gr : Shape) (ok : IsGraph gr) (w : Net State Message) (v j c : ℕ) (ms : List Message) (at : At (network_of gr) v j)
    (fits : Fits gr.keys (network_of gr) w) (waits : w.queue v j ≡ Connect c ∷ ms) (level : suc c ≡ (w.node v).head.level)
    (basic : is_basic (mark_at (w.node v) j) ≡ true) (search : (w.node v).head.phase ≡ Search) where
  abbrev g : Network
  g = network_of gr

  wired : IsWired g
  wired = graph_wired gr ok

  here : InNetwork g v
  here = at_in at

  port : j < degree (w.node v)
  port = port_below (fits.ground.nodes v) j at

  abbrev n : AtPort
  n = at_port (w.node v) j

  abbrev u : ℕ
  u = far g v j

  abbrev b : ℕ
  b = far_port g v j

  abbrev k : Key
  k = (port_at g v j).key

  abbrev m : AtPort
  m = at_port (w.node u) b

  abbrev r : List Message
  r = w.queue u b

  ends : AreEnds v u k
  ends = port_ends gr ok v j at

  ordered : k.a < k.b
  ordered = (link_among gr ok k (is_key gr ok v j at)).1

  stays : (w.node v).head.out ≡ None
  stays = ((fits.search v here).search search).stays

  -- the name of v's class
  abbrev name : Key
  name = name_of (w.node v).head

  core : IsCore gr.keys c v name
  core = go (subst (λ x. IsName gr.keys x v (w.node v).head.name) (sym level) node.name)
    where
      node : NodeFits gr.keys v (w.node v)
      node = fits.nodes v here (λ s. search_is_sleeping (sym search ∙ s))

      go : IsName gr.keys (suc c) v (w.node v).head.name → IsCore gr.keys c v name
      go h = subst (λ x. IsCore gr.keys c v x) (sym (ap (λ (o : Option Key). unwrap_or o no_key) h.1)) h.2

  link : LinkFits gr.keys g v j n m (Connect c ∷ ms) r
  link = fits_like g wired gr.keys refl refl waits refl (fits.links v j at)

  link_there : LinkFits gr.keys g u b m n r (Connect c ∷ ms)
  link_there = fits_like g wired gr.keys refl refl refl waits (far_link g wired gr.keys w fits.links v j at)

  out : (m.head.level ≡ c) × (m.head.out ≡ Some b)
  out = sender_out gr ok v j c n m name ms r link level basic search stays core (far_back v u k ordered ends) (end_there v u k ends)

  same_class : InClass gr.keys (suc c) v u
  same_class = joined_ends v u k ends
      (taken gr ok v j c n m name ms r link level basic search stays core (far_back v u k ordered ends) (end_there v u k ends))

  alone : calls_in (r ++ Initiate (w.node v).head.level name ∷ []) ≡ Initiate (w.node v).head.level name ∷ []
  alone = called_alone gr ok v j c n m name ms r link level basic search stays core (far_back v u k ordered ends) (end_there v u k ends)
      link_there (wired.back v j at) (wired.same_key v j at) same_class

  near : LinkFits gr.keys g v j (adopted_at n) m ms (r ++ Initiate (w.node v).head.level name ∷ [])
  near = late_near gr ok v j c n m name ms r link level basic search stays core (far_back v u k ordered ends) (end_there v u k ends)
      (r ++ Initiate (w.node v).head.level name ∷ []) (ap (λ x. initiates_in x) alone)

  away : LinkFits gr.keys g u b m (adopted_at n) (r ++ Initiate (w.node v).head.level name ∷ []) ms
  away = late_away gr ok v j c n m name ms r link level basic search stays core (far_back v u k ordered ends) (end_there v u k ends)
      link_there (wired.back v j at) (wired.same_key v j at) same_class

  abbrev now_here : State
  now_here = adopted (w.node v) j

  abbrev left : ℕ → List Message
  left = put (w.queue v) j ms

  abbrev call : ℕ × Message
  call = (j, Initiate (w.node v).head.level name)

  abbrev after : Net State Message
  after = reacted boruvka g v (sends_one now_here j (Initiate (w.node v).head.level name)) (take_first boruvka g v j (Connect c) ms w)

  acts : Acts g w after v now_here left (call ∷ [])
  acts = acts_taken g wired w v j (Connect c) ms (sends_one now_here j (Initiate (w.node v).head.level name))

  abbrev across : ℕ → AtPort
  across i = at_port (w.node (far g v i)) (far_port g v i)

  -- what waited at the far end of port i, and what waits there now
  abbrev back : ℕ → List Message
  back i = w.queue (far g v i) (far_port g v i)

  abbrev sent : ℕ → List Message
  sent i = back i ++ sent_on (call ∷ []) i

  sent_at_j : r ++ call.1 ∷ [] ≡ sent j
  sent_at_j = sent_one r j call.1

  links : LinksFit gr.keys g after
  links = links_one g wired gr.keys w after v now_here left (call ∷ []) acts here fits.links j (λ i ne. sym (adopted_there (w.node v) j i ne))
      (λ i ne. sym (put_other (w.queue v) j i ms ne)) (λ i ne. sent_none (back i) j call.1 i ne)
      (fits_like g wired gr.keys (sym (adopted_here (w.node v) j port)) refl (sym (put_same (w.queue v) j ms)) sent_at_j near)
      (fits_like g wired gr.keys refl (sym (adopted_here (w.node v) j port)) sent_at_j (sym (put_same (w.queue v) j ms)) away)

  -- a number that is read of each queue, in which Connects and Initiates don't count
  as_many : (P : List Message → ℕ) → P (Connect c ∷ ms) ≡ P ms → ((q : List Message) → P q ≡ P (q ++ call.1 ∷ [])) →
      AsMany g P w after
  as_many P no_connect no_call = waits_like gr.keys g w after v now_here left (call ∷ []) acts wired here P
      (λ i at_i. taken_like P (w.queue v) j (Connect c) ms waits no_connect i)
      (λ i at_i. ⊎_elim
      (λ (e : i ≡ j). subst (λ y. P (back y) ≡ P (sent y)) (sym e) (no_call r ∙ ap P sent_at_j))
      (λ ne. ap P (sent_none (back i) j call.1 i ne))
      (cases_eq i j))

  unreported : HasReported (w.node v).head.level m.head.level m.head.phase (calls_in (w.queue v j)) → ⊥
  unreported h = ⊎_elim (λ lt. omega (arith, lt, level, out.0)) (λ x. omega (arith, x.0, level, out.0)) h.past

  missed : is_missing (w.node v).head.level (state.port_at (w.node v) j) ≡ true
  missed = or_right _ _ (and_from _ _ basic (lt-ltb _ _ heard))
    where
      heard : (state.port_at (w.node v) j).level < (w.node v).head.level
      heard = let most = link.names.all.at_most in omega (arith, most, level, out.0)

  searches : SearchesFit gr.keys g after
  searches = searches_act gr.keys g w after v now_here left (call ∷ []) acts
      (heads_act gr.keys g w after v now_here left (call ∷ []) acts refl)
      (as_many (λ q. reports_in (calls_in q)) refl (λ q. reports_before q (call.1 ∷ []) refl)) fits.search
      (search_adopted (w.node v) j port search missed gr.keys g v (λ p. (w.node (far g v p)).head) (λ p. w.queue v p) unreported
      (fits.search v here))

  -- with the ground, which every event keeps
  pub late_fits : Ground g after → Fits gr.keys g after
  late_fits ground = record {
    ground = ground;
    nodes = nodes_act gr.keys g w after v now_here left (call ∷ []) acts (λ y x. AwakeFits gr.keys y x) fits.nodes
        (node_like gr.keys v (w.node v) now_here refl (sym (length-set (w.node v).ports j _)) refl (fits.nodes v here));
    links = links;
    search = searches;
    lacks = nodes_act gr.keys g w after v now_here left (call ∷ []) acts (λ y x. LacksSome x) fits.lacks
        (λ s. subst (λ y. 1 ≤ y) (sym (missing_adopted (w.node v) j port search missed)) (fits.lacks v here s));
    tokens = tokens_like gr.keys g w after (heads_act gr.keys g w after v now_here left (call ∷ []) acts refl)
        (as_many (λ q. passes_in q) refl (λ q. passes_before q (call.1 ∷ []) refl)) fits.tokens;
  }
