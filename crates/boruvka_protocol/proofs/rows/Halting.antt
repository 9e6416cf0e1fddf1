-- A root that holds the token of a class without a way out halts: all clauses hold behind it. So a sleeper without ports does when it wakes.
use Rattle.std.proofs.Common.{◌≡◌, ◌⊎◌, ℕ, ◌<◌, inl, inr, ⊎_elim, true, Some, None, List, [], ◌∷◌, length, refl, sym, ◌∙◌, ap, subst, arith, append-nil}
use Rattle.std.proofs.lemmas.Bool.{cases_eq}
use Rattle.ghs_graph.specs.declared.key.Key.{Key}
use Rattle.ghs_graph.specs.declared.port.Port.{Port}
use Rattle.ghs_graph.specs.Graph.{Shape, IsGraph}
use Rattle.ghs_graph.specs.Links.{Same}
use Rattle.boruvka_protocol.specs.Levels.{HasWayOut}
use Rattle.boruvka_protocol.proofs.lemmas.FirstPorts.{no_port_no_way_out}
use Rattle.peer_network.specs.Network.{Network, network_of, InNetwork, far}
use Rattle.peer_network.proofs.lemmas.Wired.{IsWired}
use Rattle.peer_network.proofs.lemmas.Graphs.{graph_wired}
use Rattle.peer_machine.specs.Net.{Net}
use Rattle.boruvka_node.specs.declared.message.Message.{Message}
use Rattle.boruvka_node.specs.declared.message.Phase.TheVariants.{Sleeping}
use Rattle.boruvka_node.specs.State.{State, sleeper, degree}
use Rattle.boruvka_node.specs.Reaction.{woken, halted}
use Rattle.boruvka_protocol.proofs.invariant.Words.{IsRoot}
use Rattle.boruvka_protocol.proofs.invariant.Sides.{AtPort, at_port, calls_in, reports_in, passes_in}
use Rattle.boruvka_protocol.proofs.invariant.Nodes.{NodeFits, AwakeFits}
use Rattle.boruvka_protocol.proofs.invariant.Search.{LacksSome, SearchFits}
use Rattle.boruvka_protocol.proofs.invariant.Token as token
use Rattle.boruvka_protocol.proofs.invariant.Token.{Place, IsTokenAt, In_message, Gone_out, Gone_on, At_end, HaltFits, HaltsFit}
use Rattle.boruvka_protocol.proofs.invariant.Whole.{LinkFits, LinksFit, SearchesFit, Ground, Fits}
use Rattle.boruvka_protocol.proofs.Unlike.{rest_is_search}
use Rattle.boruvka_protocol.proofs.rows.Acts.{Acts, fits_like, far_link, links_act}
use Rattle.boruvka_protocol.proofs.rows.Alike.{SameLevels, SamePhases, SameOuts, PastStays, past_alike, AsManyPasses}
use Rattle.boruvka_protocol.proofs.rows.Tokens.{TokensStay, token_stays}
use Rattle.boruvka_protocol.proofs.rows.Searches.{search_seen}
use Rattle.boruvka_protocol.proofs.rows.Others.{nodes_act, waits_same}
use Rattle.boruvka_protocol.proofs.rows.Kept.{variable_act}
use Rattle.boruvka_protocol.proofs.rows.Late.{search_rest}
use Rattle.boruvka_protocol.proofs.rows.Placed.{put_down}
use Rattle.boruvka_protocol.proofs.rows.Holding.{Holding, acts_then}
use Rattle.boruvka_protocol.proofs.rows.Waking.{woken_net, woken_acts, woken_is, woken_level, woken_holding}

-- no clause of a link reads whether its end has halted
halted_near : {ks : List Key} {g : Network} {v p : ℕ} (n : State) {m : AtPort} {q r : List Message} → LinkFits ks g v p (at_port n p) m q r →
    LinkFits ks g v p (at_port (halted n) p) m q r
halted_near n h = record { marks = h.marks; names = h.names; connects = h.connects; calls = h.calls; children = h.children; owes = h.owes }

halted_away : {ks : List Key} {g : Network} {v p : ℕ} (i : ℕ) (n : State) {m : AtPort} {q r : List Message} → LinkFits ks g v p m (at_port n i) q r →
    LinkFits ks g v p m (at_port (halted n) i) q r
halted_away i n h = record { marks = h.marks; names = h.names; connects = h.connects; calls = h.calls; children = h.children; owes = h.owes }

module _ (gr : Shape) (ok : IsGraph gr) (w w' : Net State Message) (v : ℕ) (here : InNetwork (network_of gr) v)
    (h : Holding gr.keys (network_of gr) w v)
    (whole : HasWayOut gr.keys (w.node v).head.level v → ⊥) (root : IsRoot gr.keys (w.node v).head.level v)
    (own : NodeFits gr.keys v (halted (w.node v)))
    (own_search : SearchFits gr.keys (network_of gr) v (halted (w.node v)) (λ q. (w.node (far (network_of gr) v q)).head) (λ q. w.queue v q))
    (a : Acts (network_of gr) w w' v (halted (w.node v)) (w.queue v) []) where
  abbrev g : Network
  g = network_of gr

  abbrev ks : List Key
  ks = gr.keys

  abbrev l : ℕ
  l = (w.node v).head.level

  wired : IsWired g
  wired = graph_wired gr ok

  links : LinksFit ks g w'
  links = links_act g wired ks w w' v (halted (w.node v)) (w.queue v) [] a here h.links
      (λ i at. fits_like g wired ks refl refl refl (sym (append-nil _)) (halted_near (w.node v) (h.links v i at)))
      (λ i at. fits_like g wired ks refl refl (sym (append-nil _)) refl (halted_away i (w.node v) (far_link g wired ks w h.links v i at)))

  same_level : SameLevels w w'
  same_level = variable_act ks g w w' v (halted (w.node v)) (w.queue v) [] a (λ x. x.level) refl

  same_phase : SamePhases w w'
  same_phase = variable_act ks g w w' v (halted (w.node v)) (w.queue v) [] a (λ x. x.phase) refl

  same_out : SameOuts w w'
  same_out = variable_act ks g w w' v (halted (w.node v)) (w.queue v) [] a (λ x. x.out) refl

  past_to : PastStays w w'
  past_to = past_alike w w' same_level same_phase

  past_from : PastStays w' w
  past_from = past_alike w' w (λ u. sym (same_level u)) (λ u. sym (same_phase u))

  halted_now : (w'.node v).head.halted ≡ true
  halted_now = ap (λ (z : State). z.head.halted) a.node

  passes : AsManyPasses g w w'
  passes = waits_same ks g w w' v (halted (w.node v)) a wired here (λ q. passes_in q)

  token_to : TokensStay ks g w w'
  token_to m x place = token_stays ks g w w' m x place (same_level x)
      (λ q at lt. subst (λ y. 0 < y) (passes x q at) lt)
      (λ lv q out. sym (same_out x) ∙ out)
      (λ lv z. ⊎_elim
      (λ (e : x ≡ v). subst (λ y. (w'.node y).head.halted ≡ true) (sym e) halted_now)
      (λ ne. ap (λ (y : State). y.head.halted) (sym (a.others x ne)) ∙ z)
      (cases_eq x v))

  token_from : (m x : ℕ) (place : Place) → IsTokenAt ks g w' m x place → IsTokenAt ks g w m x place ⊎ ((m ≡ l) × (x ≡ v) × (place ≡ token.Ended))
  token_from m x _ (In_message q at lv lt) = inl (In_message q at (same_level x ∙ lv) (subst (λ y. 0 < y) (sym (passes x q at)) lt))
  token_from m x _ (Gone_out q at lv out) = inl (Gone_out q at (same_level x ∙ lv) (same_out x ∙ out))
  token_from m x _ (Gone_on k lt chosen end) = inl (Gone_on k (subst (λ y. m < y) (sym (same_level x)) lt) chosen end)
  token_from m x _ (At_end lv z) = ⊎_elim
      (λ (e : x ≡ v). inr (sym (subst (λ y. (w.node y).head.level ≡ m) e (same_level x ∙ lv)), e, refl))
      (λ ne. inl (At_end (same_level x ∙ lv) (ap (λ (y : State). y.head.halted) (a.others x ne) ∙ z)))
      (cases_eq x v)

  halts : HaltsFit ks g w'
  halts u at z = ⊎_elim
      (λ (e : u ≡ v). subst (λ y. HaltFits ks g w' y (w'.node y)) (sym e) (record {
        whole = λ o. whole (subst (λ y. HasWayOut ks y v) (sym (same_level v)) o);
        root = subst (λ y. IsRoot ks y v) (same_level v) root;
        rest = sym (same_phase v) ∙ h.rest;
      }))
      (λ ne.
      let f = h.tokens.halted u at (ap (λ (y : State). y.head.halted) (a.others u ne) ∙ z) in
      record {
        whole = λ o. f.whole (subst (λ y. HasWayOut ks y u) (sym (same_level u)) o);
        root = subst (λ y. IsRoot ks y u) (same_level u) f.root;
        rest = sym (same_phase u) ∙ f.rest;
      })
      (cases_eq u v)

  searches : SearchesFit ks g w'
  searches u at = search_seen ks g u (w'.node u) (λ q. (w.node (far g u q)).head) (λ q. (w'.node (far g u q)).head) (λ q. w.queue u q)
      (λ q. w'.queue u q) (λ q x. same_level (far g u q)) (λ q x. same_phase (far g u q))
      (waits_same ks g w w' v (halted (w.node v)) a wired here (λ q. reports_in (calls_in q)) u)
      (nodes_act ks g w w' v (halted (w.node v)) (w.queue v) [] a
      (λ y x. SearchFits ks g y x (λ q. (w.node (far g y q)).head) (λ q. w.queue y q)) h.search own_search u at)

  -- with the ground, which every event keeps
  pub halts_fits : Ground g w' → Fits ks g w'
  halts_fits ground = record {
    ground = ground;
    nodes = λ u at. ⊎_elim
        (λ (e : u ≡ v). subst (λ y. AwakeFits ks y (w'.node y)) (sym e) (λ up. subst (λ (x : State). NodeFits ks v x) (sym a.node) own))
        (λ ne. subst (λ (x : State). AwakeFits ks u x) (a.others u ne) (h.others u at ne))
        (cases_eq u v);
    links = links;
    search = searches;
    lacks = nodes_act ks g w w' v (halted (w.node v)) (w.queue v) [] a (λ y x. LacksSome x) h.lacks (λ s. search_rest (w.node v).head.phase s h.rest);
    tokens = put_down ks g w w' v l v token.Ended refl h.tokens here Same (At_end (sym (same_level v)) halted_now) token_to token_from past_to
        past_from halts;
  }

-- A sleeper without ports.
module _ (gr : Shape) (ok : IsGraph gr) (w : Net State Message) (v : ℕ) (here : InNetwork (network_of gr) v) (fits : Fits gr.keys (network_of gr) w)
    (asleep : (w.node v).head.phase ≡ Sleeping) (alone : ◌≡◌ {A = ℕ} (degree (w.node v)) 0) where
  abbrev g' : Network
  g' = network_of gr

  abbrev n : State
  n = sleeper v (g'.ports v)

  abbrev mid : Net State Message
  mid = woken_net gr ok w v here fits asleep

  is : mid.node v ≡ woken n
  is = woken_is gr ok w v here fits asleep

  no_ports : g'.ports v ≡ []
  no_ports = none_of (g'.ports v) (sym (fits.ground.nodes v).ports ∙ alone)
    where
      none_of : (ps : List Port) → ◌≡◌ {A = ℕ} (length ps) 0 → ps ≡ []
      none_of [] e = refl
      none_of (x ∷ ps) e = absurd (omega (arith, e))

  halted_node : NodeFits gr.keys v (halted (woken n))
  halted_node = record {
    class = tt;
    name = refl;
    parent = refl;
    ground = λ z. record { rest = refl; best = refl; alone = λ x. refl; out = λ lt. absurd (omega (arith, lt, none)) };
    out_port = λ i e. no_out e;
  }
    where
      none : ◌≡◌ {A = ℕ} (degree n) 0
      none = ap (λ (x : State). degree x) (sym (fits.ground.untouched v asleep)) ∙ alone

      no_out : {P : Type 0} {i : ℕ} → None ≡ Some i → P
      no_out e = cc

  pub wakes_alone : (w' : Net State Message) → Acts g' w w' v (halted (woken n)) (w.queue v) [] → Ground g' mid → Ground g' w' → Fits gr.keys g' w'
  wakes_alone w' a ground ground' = halts_fits gr ok mid w' v here (woken_holding gr ok w v here fits asleep ground)
      (no_port_no_way_out gr ok v (mid.node v).head.level no_ports)
      (subst (λ x. IsRoot gr.keys x v) (sym (woken_level gr ok w v here fits asleep)) refl)
      (subst (λ (x : State). NodeFits gr.keys v (halted x)) (sym is) halted_node)
      (subst (λ (x : State). SearchFits gr.keys g' v (halted x) (λ q. (mid.node (far g' v q)).head) (λ q. mid.queue v q)) (sym is)
      (record { search = λ s. rest_is_search s; rest = λ r lo. absurd (omega (arith, lo)) }))
      (subst (λ (x : State). Acts g' mid w' v (halted x) (mid.queue v) []) (sym is)
      (acts_then g' w mid w' v (woken n) (halted (woken n)) (w.queue v) [] (woken_acts gr ok w v here fits asleep) a))
      ground'
