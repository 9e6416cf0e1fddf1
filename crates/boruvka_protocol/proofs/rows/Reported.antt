-- A Report comes in: all clauses hold behind it, but that the node waits for more.
use Rattle.std.proofs.Common.{◌≡◌, ◌≢◌, ℕ, suc, ◌<◌, inr, ⊎_elim, true, false, Option, Some, None, List, [], ◌∷◌, ◌++◌, refl, sym, ◌∙◌, ap, subst, cond, arith, append-nil, length-set}
use Rattle.std.proofs.lemmas.Bool.{cases_eq, cases_Bool, both_ways}
use Rattle.ghs_graph.specs.declared.key.Key.{Key}
use Rattle.ghs_graph.specs.Key.{key_lt}
use Rattle.ghs_graph.specs.Graph.{Shape, IsGraph}
use Rattle.ghs_graph.proofs.lemmas.Keys.{lt_irreflexive}
use Rattle.boruvka_protocol.specs.Levels.{IsOfLevel}
use Rattle.boruvka_protocol.proofs.lemmas.KeyOrder.{not_below_less}
use Rattle.ghs_node.specs.Words.{Best, better}
use Rattle.peer_network.specs.Network.{Network, network_of, At, InNetwork, far, far_port}
use Rattle.peer_network.proofs.lemmas.Wired.{IsWired}
use Rattle.peer_network.proofs.lemmas.Wires.{at_in, neighbour}
use Rattle.peer_network.proofs.lemmas.Graphs.{graph_wired}
use Rattle.peer_network.proofs.lemmas.Updates.{put_same, put_other}
use Rattle.peer_machine.specs.Net.{Net, put, reacted, take_first}
use Rattle.boruvka_node.specs.declared.head.Head.{Head}
use Rattle.boruvka_node.specs.declared.message.Message.{Message}
use Rattle.boruvka_node.specs.declared.message.Message.TheVariants.{Report}
use Rattle.boruvka_node.specs.declared.message.Phase.TheVariants.{Search}
use Rattle.boruvka_node.specs.declared.port_state.PortState.{PortState}
use Rattle.boruvka_node.specs.State.{State, mark_at, degree}
use Rattle.boruvka_node.specs.Reaction.{reported}
use Rattle.boruvka_node.specs.Boruvka.{boruvka}
use Rattle.boruvka_protocol.proofs.invariant.Words.{IsPast, IsSubAt, SubIs}
use Rattle.boruvka_protocol.proofs.invariant.Sides.{AtPort, at_port, side_of, far_side_of, calls_in, reports_in, passes_in}
use Rattle.boruvka_protocol.proofs.invariant.Nodes.{NodeFits, AwakeFits}
use Rattle.boruvka_protocol.proofs.invariant.Children.{HasReported}
use Rattle.boruvka_protocol.proofs.invariant.TreeMessages.{ReportFits}
use Rattle.boruvka_protocol.proofs.invariant.Search.{LacksSome, HasHeard, BestIsHeard, IsSearching, SearchFits}
use Rattle.boruvka_protocol.proofs.invariant.Token.{HaltFits, HaltsFit}
use Rattle.boruvka_protocol.proofs.invariant.Whole.{Ground, LinkFits, LinksFit, Fits, NearlyFits}
use Rattle.boruvka_protocol.proofs.levels.OneWay.{one_sub}
use Rattle.boruvka_protocol.proofs.rows.Table.{still}
use Rattle.boruvka_protocol.proofs.rows.Ports.{port_set, port_kept, mark_set, mark_kept}
use Rattle.boruvka_protocol.proofs.rows.Acts.{Acts, acts_taken, fits_like, far_link, links_act}
use Rattle.boruvka_protocol.proofs.rows.Alike.{SameHalted, PastStays}
use Rattle.boruvka_protocol.proofs.rows.Tokens.{root_stays}
use Rattle.boruvka_protocol.proofs.rows.OwnPorts.{port_below}
use Rattle.boruvka_protocol.proofs.rows.Others.{taken_like, parent_like, nodes_act, waits_like}
use Rattle.boruvka_protocol.proofs.rows.Late.{search_rest}
use Rattle.boruvka_protocol.proofs.rows.Told.{reported_at, first_report, report_near, report_away}
use Rattle.boruvka_protocol.proofs.rows.Changed.{SaysIn, searches_changed, tokens_changed}

-- A link doesn't read what is best.

abbrev pub best_at : AtPort → Best → AtPort
best_at n b = record n { head = record n.head { best = b } }

module _ (ks : List Key) (g : Network) (v p : ℕ) (b : Best) (n m : AtPort) (q r : List Message) where
  pub best_near : LinkFits ks g v p n m q r → LinkFits ks g v p (best_at n b) m q r
  best_near h = record { marks = h.marks; names = h.names; connects = h.connects; calls = h.calls; children = h.children; owes = h.owes }

  pub best_away : LinkFits ks g v p m n q r → LinkFits ks g v p m (best_at n b) q r
  best_away h = record { marks = h.marks; names = h.names; connects = h.connects; calls = h.calls; children = h.children; owes = h.owes }

module _ (gr : Shape) (ok : IsGraph gr) (w : Net State Message) (v j : ℕ) (k : Option Key) (ms : List Message) (at : At (network_of gr) v j)
    (fits : Fits gr.keys (network_of gr) w) (waits : w.queue v j ≡ Report k ∷ ms) where
  abbrev g : Network
  g = network_of gr

  abbrev n : State
  n = w.node v

  abbrev l : ℕ
  l = n.head.level

  abbrev u : ℕ
  u = far g v j

  wired : IsWired g
  wired = graph_wired gr ok

  here : InNetwork g v
  here = at_in at

  port : j < degree n
  port = port_below (fits.ground.nodes v) j at

  abbrev m : AtPort
  m = at_port (w.node u) (far_port g v j)

  abbrev r : List Message
  r = w.queue u (far_port g v j)

  abbrev b : Best
  b = better n.head.best j k

  link : LinkFits gr.keys g v j (at_port n j) m (Report k ∷ ms) r
  link = fits_like g wired gr.keys refl refl waits refl (fits.links v j at)

  link_there : LinkFits gr.keys g u (far_port g v j) m (at_port n j) r (Report k ∷ ms)
  link_there = fits_like g wired gr.keys refl refl refl waits (far_link g wired gr.keys w fits.links v j at)

  report : ReportFits gr.keys k (side_of g v j (at_port n j)) (far_side_of g v j m)
  report = (first_report gr.keys (side_of g v j (at_port n j)) (far_side_of g v j m) k (calls_in ms) link.calls).0

  left_over : calls_in ms ≡ []
  left_over = (first_report gr.keys (side_of g v j (at_port n j)) (far_side_of g v j m) k (calls_in ms) link.calls).1

  pub search : n.head.phase ≡ Search
  search = report.search

  node : NodeFits gr.keys v n
  node = fits.nodes v here (λ s. cc (search, s))

  searching : IsSearching gr.keys g v n (λ p. (w.node (far g v p)).head) (λ p. w.queue v p)
  searching = (fits.search v here).search search

  abbrev now : State
  now = reported n j k

  abbrev new : PortState
  new = record (at_port n j).port { owes = false }

  now_here : at_port now j ≡ reported_at (at_port n j) b
  now_here = ap (λ (x : PortState). let y : AtPort = record { port = x; head = record n.head { best = b } } in y) (port_set n j new port)

  now_there : (i : ℕ) → i ≢ j → at_port now i ≡ best_at (at_port n i) b
  now_there i ne = ap (λ (x : PortState). let y : AtPort = record { port = x; head = record n.head { best = b } } in y) (port_kept n j i new ne)

  abbrev left : ℕ → List Message
  left = put (w.queue v) j ms

  abbrev pub after : Net State Message
  after = reacted boruvka g v (still now) (take_first boruvka g v j (Report k) ms w)

  pub acts : Acts g w after v now left []
  acts = acts_taken g wired w v j (Report k) ms (still now)

  abbrev across : ℕ → AtPort
  across i = at_port (w.node (far g v i)) (far_port g v i)

  abbrev sent : ℕ → List Message
  sent i = w.queue (far g v i) (far_port g v i) ++ []

  near : (i : ℕ) → At g v i → LinkFits gr.keys g v i (at_port now i) (across i) (left i) (sent i)
  near i at_i = ⊎_elim
      (λ (e : i ≡ j). subst (λ y. LinkFits gr.keys g v y (at_port now y) (across y) (left y) (sent y)) (sym e)
      (fits_like g wired gr.keys (sym now_here) refl (sym (put_same (w.queue v) j ms)) (sym (append-nil r))
      (report_near gr.keys g v j b k (at_port n j) m ms r link)))
      (λ ne. fits_like g wired gr.keys (sym (now_there i ne)) refl (sym (put_other (w.queue v) j i ms ne)) (sym (append-nil _))
      (best_near gr.keys g v i b (at_port n i) (across i) (w.queue v i) (w.queue (far g v i) (far_port g v i)) (fits.links v i at_i)))
      (cases_eq i j)

  away : (i : ℕ) → At g v i → LinkFits gr.keys g (far g v i) (far_port g v i) (across i) (at_port now i) (sent i) (left i)
  away i at_i = ⊎_elim
      (λ (e : i ≡ j).
      subst (λ y. LinkFits gr.keys g (far g v y) (far_port g v y) (across y) (at_port now y) (sent y) (left y)) (sym e)
      (fits_like g wired gr.keys refl (sym now_here) (sym (append-nil r)) (sym (put_same (w.queue v) j ms))
      (report_away gr.keys g u (far_port g v j) b k m (at_port n j) r ms link_there)))
      (λ ne. fits_like g wired gr.keys refl (sym (now_there i ne)) (sym (append-nil _)) (sym (put_other (w.queue v) j i ms ne))
      (best_away gr.keys g (far g v i) (far_port g v i) b (at_port n i) (across i) (w.queue (far g v i) (far_port g v i)) (w.queue v i)
      (far_link g wired gr.keys w fits.links v i at_i)))
      (cases_eq i j)

  links : LinksFit gr.keys g after
  links = links_act g wired gr.keys w after v now left [] acts here fits.links near away

  -- The search at v: the child at j has reported now.

  abbrev fars : ℕ → Head
  fars p = (w.node (far g v p)).head

  abbrev queues : ℕ → List Message
  queues p = w.queue v p

  abbrev WasHeard : ℕ → Key → Type 0
  WasHeard p x = HasHeard gr.keys g v n fars queues p x

  abbrev IsHeard : ℕ → Key → Type 0
  IsHeard p x = HasHeard gr.keys g v now fars left p x

  mark_same : (p : ℕ) → mark_at now p ≡ mark_at n p
  mark_same p = ⊎_elim
      (λ (e : p ≡ j). subst (λ y. mark_at now y ≡ mark_at n y) (sym e) (mark_set n j new port))
      (λ ne. mark_kept n j p new ne)
      (cases_eq p j)

  heard_else : (p : ℕ) (x : Key) → p ≢ j → WasHeard p x → IsHeard p x
  heard_else p x ne h = record {
    child = record { at = h.child.at; mark = mark_same p ∙ h.child.mark; child = h.child.child };
    reported = subst (λ (q : List Message). HasReported l (fars p).level (fars p).phase (calls_in q)) (sym (put_other (w.queue v) j p ms ne))
        h.reported;
    sub = h.sub;
  }

  else_heard : (p : ℕ) (x : Key) → p ≢ j → IsHeard p x → WasHeard p x
  else_heard p x ne h = record {
    child = record { at = h.child.at; mark = sym (mark_same p) ∙ h.child.mark; child = h.child.child };
    reported = subst (λ (q : List Message). HasReported l (fars p).level (fars p).phase (calls_in q)) (put_other (w.queue v) j p ms ne)
        h.reported;
    sub = h.sub;
  }

  not_before : (p : ℕ) (x : Key) → WasHeard p x → p ≢ j
  not_before p x h e = absurd (omega (arith, one, zero_there))
    where
      zero_there : ◌≡◌ {A = ℕ} (reports_in (calls_in (w.queue v j))) 0
      zero_there = (subst (λ y. HasReported l (fars y).level (fars y).phase (calls_in (queues y))) e h.reported).heard report.sender_level

      one : ◌≡◌ {A = ℕ} (reports_in (calls_in (w.queue v j))) (suc (reports_in (calls_in ms)))
      one = ap (λ (q : List Message). reports_in (calls_in q)) waits

  heard_here : (x : Key) → IsSubAt gr.keys l u x → IsHeard j x
  heard_here x sub = record {
    child = record { at = at; mark = mark_same j ∙ report.mark; child = report.up };
    reported = record {
      past = inr (report.sender_level, report.sender_rest);
      heard = λ e. ap (λ (q : List Message). reports_in (calls_in q)) (put_same (w.queue v) j ms) ∙ ap (λ (q : List Message). reports_in q) left_over;
    };
    sub = sub;
  }

  sub_here : (p : ℕ) (x : Key) → p ≡ j → IsHeard p x → IsSubAt gr.keys l u x
  sub_here p x e h = subst (λ y. IsSubAt gr.keys l (far g v y) x) e h.sub

  class_there : IsOfLevel gr.keys l u
  class_there = subst (λ y. IsOfLevel gr.keys y u) report.sender_level
      (fits.nodes u (record { some = (wired.there v j at).some; node = (wired.there v j at).node }) (λ s. cc (report.sender_rest, s))).class

  -- whoever is heard now was heard, or is the child at j
  by_place : {P : Type 0} (p : ℕ) (x : Key) → IsHeard p x → (IsSubAt gr.keys l u x → P) → (WasHeard p x → P) → P
  by_place p x h own other = ⊎_elim (λ e. own (sub_here p x e h)) (λ ne. other (else_heard p x ne h)) (cases_eq p j)

  best_now : (x : Option Key) → SubIs gr.keys l u x → (c : Best) → BestIsHeard gr.keys g v n fars queues c →
      BestIsHeard gr.keys g v now fars left (better c j x)
  best_now None none_leaves None h = λ p x y. by_place p x y (λ s. none_leaves s.root s.top x s.sub.is) (h p x)
  best_now None none_leaves (Some c) h = (
    heard_else c.0 c.1 (not_before c.0 c.1 h.0) h.0,
    λ p x y. by_place p x y (λ s. absurd (none_leaves s.root s.top x s.sub.is)) (h.1 p x),
  )
  best_now (Some s) sub None h = (
    heard_here s sub,
    λ p x y. by_place p x y
        (λ t. subst (λ (z : Key). key_lt z s ≡ false) (sym (one_sub gr ok l u x s class_there t sub)) (lt_irreflexive s))
        (λ t. absurd (h p x t)),
  )
  best_now (Some s) sub (Some c) h = ⊎_elim
      (λ less. subst (λ z. BestIsHeard gr.keys g v now fars left (cond z (Some (j, s)) (Some c))) (sym less) (
        heard_here s sub,
        λ p x y. by_place p x y
            (λ t. subst (λ (z : Key). key_lt z s ≡ false) (sym (one_sub gr ok l u x s class_there t sub)) (lt_irreflexive s))
            (λ t. not_below_less x s c.1 (h.1 p x t) less),
      ))
      (λ same. subst (λ z. BestIsHeard gr.keys g v now fars left (cond z (Some (j, s)) (Some c))) (sym same) (
        heard_else c.0 c.1 (not_before c.0 c.1 h.0) h.0,
        λ p x y. by_place p x y
            (λ t. subst (λ (z : Key). key_lt z c.1 ≡ false) (sym (one_sub gr ok l u x s class_there t sub)) same)
            (h.1 p x),
      ))
      (cases_Bool (key_lt s c.1))

  own_search : SearchFits gr.keys g v now fars left
  own_search = record {
    search = λ s. record { best = best_now k report.sub n.head.best searching.best; stays = searching.stays; goes_on = searching.goes_on };
    rest = λ rest. search_rest n.head.phase search rest;
  }

  -- Other nodes: the same waits at them, and their neighbours have the same levels and phases.

  heads_like : (P : Head → Head → Type 0) → ((h : Head) → P h h) → P n.head now.head → (x : ℕ) → P (w.node x).head (after.node x).head
  heads_like P same own x = ⊎_elim
      (λ (e : x ≡ v).
      subst (λ y. P (w.node y).head (after.node y).head) (sym e) (subst (λ (y : State). P n.head y.head) (sym acts.node) own))
      (λ ne. subst (λ (y : State). P (w.node x).head y.head) (acts.others x ne) (same (w.node x).head))
      (cases_eq x v)

  queue_same : (x p : ℕ) → At g x p → x ≢ v → after.queue x p ≡ w.queue x p
  queue_same x p at_x ne = ⊎_elim
      (λ (e : far g x p ≡ v).
      let i = far_port g x p in
      let at_i : At g v i = subst (λ y. At g y i) e (wired.there x p at_x) in
      let ex : far g v i ≡ x = subst (λ y. far g y i ≡ x) e (wired.back x p at_x) in
      let ep : far_port g v i ≡ p = subst (λ y. far_port g y i ≡ p) e (wired.back_port x p at_x) in
      subst (λ y. after.queue y p ≡ w.queue y p) ex
      (subst (λ y. after.queue (far g v i) y ≡ w.queue (far g v i) y) ep (acts.far_queue i at_i ∙ append-nil _)))
      (λ fne. acts.queues x p ne (λ i e h. fne (neighbour g wired v i x p here.some here.node at_x e h)))
      (cases_eq (far g x p) v)

  abbrev Says : Net State Message → ℕ → ℕ → Type 0
  Says y x p = SaysIn gr.keys g wired w after v now left [] acts y x p

  abbrev SaysBy : ℕ → ℕ → ℕ → Head → List Message → Type 0
  SaysBy x p lx h q = HasReported lx h.level h.phase (calls_in q)

  says_to : (x p : ℕ) → At g x p → x ≢ v → Says w x p → Says after x p
  says_to x p at_x ne s = subst (λ q. SaysBy x p (w.node x).head.level (after.node (far g x p)).head q) (sym (queue_same x p at_x ne))
      (heads_like (λ h h'. SaysBy x p (w.node x).head.level h (w.queue x p) → SaysBy x p (w.node x).head.level h' (w.queue x p)) (λ h y. y) (λ y. y)
      (far g x p) s)

  says_from : (x p : ℕ) → At g x p → x ≢ v → Says after x p → Says w x p
  says_from x p at_x ne s =
      heads_like (λ h h'. SaysBy x p (w.node x).head.level h' (w.queue x p) → SaysBy x p (w.node x).head.level h (w.queue x p)) (λ h y. y) (λ y. y)
      (far g x p) (subst (λ q. SaysBy x p (w.node x).head.level (after.node (far g x p)).head q) (queue_same x p at_x ne) s)

  halts : SameHalted w after
  halts = heads_like (λ h h'. h.halted ≡ h'.halted) (λ h. refl) refl

  halted_fits : HaltsFit gr.keys g after
  halted_fits x at_x h = ⊎_elim
      (λ (e : x ≡ v).
      absurd (both_ways n.head.halted searching.goes_on (subst (λ y. (w.node y).head.halted ≡ true) e (halts x ∙ h))))
      (λ ne.
      let f = fits.tokens.halted x at_x (halts x ∙ h) in
      subst (λ (y : State). HaltFits gr.keys g after x y) (acts.others x ne) (record { whole = f.whole; root = f.root; rest = f.rest }))
      (cases_eq x v)

  past_to : PastStays w after
  past_to i = heads_like (λ h h'. IsPast i h.level h.phase → IsPast i h'.level h'.phase) (λ h y. y) (λ y. y)

  past_from : PastStays after w
  past_from i = heads_like (λ h h'. IsPast i h'.level h'.phase → IsPast i h.level h.phase) (λ h y. y) (λ y. y)

  -- with the ground, which every event keeps
  pub reported_nearly : Ground g after → NearlyFits gr.keys g after v
  reported_nearly ground = record {
    ground = ground;
    nodes = nodes_act gr.keys g w after v now left [] acts (λ x y. AwakeFits gr.keys x y) fits.nodes
        (λ up. record {
          class = node.class;
          name = node.name;
          parent = parent_like gr.keys l v n now (sym (length-set n.ports j _)) refl n.head.parent node.parent;
          ground = λ z. search_rest n.head.phase search (node.ground z).rest;
          out_port = λ p x. subst (λ y. p < y) (sym (length-set n.ports j _)) (node.out_port p x);
        });
    links = links;
    search = searches_changed gr.keys g wired w after v now left [] acts (λ x p at_x ne up s. says_to x p at_x ne s)
        (λ x p at_x ne up s. says_from x p at_x ne s) fits.search own_search;
    others = λ x at_x ne. subst (λ (y : State). LacksSome y) (acts.others x ne) (fits.lacks x at_x);
    tokens = record {
      halted = halted_fits;
      one = λ i x at_x proper. tokens_changed gr.keys g w after
          (heads_like (λ h h'. ◌≡◌ {A = ℕ} h.level h'.level) (λ h. refl) refl)
          (waits_like gr.keys g w after v now left [] acts wired here passes_in
          (λ p at_p. taken_like passes_in (w.queue v) j (Report k) ms waits refl p)
          (λ p at_p. ap (λ (q : List Message). passes_in q) (sym (append-nil (w.queue (far g v p) (far_port g v p))))))
          i x
          (λ y way lv. heads_like (λ h h'. h.out ≡ h'.out) (λ h. refl) refl y)
          (λ y way lv. halts y)
          (root_stays gr.keys g w after past_to i x)
          (root_stays gr.keys g after w past_from i x)
          (fits.tokens.one i x at_x proper);
    };
  }
