-- A Connect of the node's own level is noted: every link keeps its clauses.
use Rattle.std.proofs.Common.{◌≡◌, ◌≢◌, ◌⊎◌, ℕ, ◌<◌, true, Some, List, [], ◌∷◌, ◌++◌, refl, sym, ap, subst, ⊎_elim, append-nil}
use Rattle.std.proofs.lemmas.Bool.{cases_eq}
use Rattle.ghs_graph.specs.Graph.{Shape, IsGraph}
use Rattle.peer_network.specs.Network.{Network, network_of, At, far, far_port}
use Rattle.peer_network.proofs.lemmas.Wired.{IsWired}
use Rattle.peer_network.proofs.lemmas.Graphs.{graph_wired, port_ends}
use Rattle.peer_network.proofs.lemmas.Updates.{put_same, put_other}
use Rattle.peer_network.proofs.lemmas.Wires.{at_in}
use Rattle.peer_machine.specs.Net.{Net, put, reacted, take_first}
use Rattle.boruvka_node.specs.declared.mark.Mark.TheVariants.{Asked}
use Rattle.boruvka_node.specs.declared.message.Message.{Message}
use Rattle.boruvka_node.specs.declared.message.Message.TheVariants.{Connect}
use Rattle.boruvka_node.specs.declared.port_state.PortState.{PortState}
use Rattle.boruvka_node.specs.Words.{is_basic}
use Rattle.boruvka_node.specs.State.{State, degree, port_at, set_mark}
use Rattle.boruvka_node.specs.Boruvka.{boruvka}
use Rattle.boruvka_protocol.proofs.invariant.Sides.{AtPort, at_port, side_of, far_side_of, calls_in}
use Rattle.boruvka_protocol.proofs.invariant.Children.{ChildrenFit}
use Rattle.boruvka_protocol.proofs.invariant.Whole.{LinkFits, LinkIn, LinksFit}
use Rattle.boruvka_protocol.proofs.rows.Table.{still}
use Rattle.boruvka_protocol.proofs.rows.Ports.{port_set, port_kept}
use Rattle.boruvka_protocol.proofs.rows.Acts.{Acts, acts_taken, fits_like, far_link, links_one, link_by}
use Rattle.boruvka_protocol.proofs.rows.Noted.{asked_at, was_basic, none_left, sender_level, noted_marks, noted_names, noted_chosen, noted_calls, noted_children, noted_near, noted_greater, noted_away}
use Rattle.boruvka_protocol.proofs.rows.EntersDown.{EndFits}

-- what the node has at its ports, when port j has become Asked
pub asked_here : (n : State) (j : ℕ) → j < degree n → at_port (set_mark n j Asked) j ≡ asked_at (at_port n j)
asked_here n j lt =
    ap (λ (x : PortState). let a : AtPort = record { port = x; head = n.head } in a) (port_set n j (record (port_at n j) { mark = Asked }) lt)

asked_there : (n : State) (j i : ℕ) → i ≢ j → at_port (set_mark n j Asked) i ≡ at_port n i
asked_there n j i ne =
    ap (λ (x : PortState). let a : AtPort = record { port = x; head = n.head } in a) (port_kept n j i (record (port_at n j) { mark = Asked }) ne)

module _ (gr : Shape) (ok : IsGraph gr) (w : Net State Message) (v j l : ℕ) (ms : List Message) (at : At (network_of gr) v j)
    (links : LinksFit gr.keys (network_of gr) w) (waits : w.queue v j ≡ Connect l ∷ ms) (port : j < degree (w.node v))
    (level : l ≡ (w.node v).head.level) where
  abbrev g : Network
  g = network_of gr

  wired : IsWired g
  wired = graph_wired gr ok

  abbrev n : AtPort
  n = at_port (w.node v) j

  abbrev m : AtPort
  m = at_port (w.node (far g v j)) (far_port g v j)

  abbrev r : List Message
  r = w.queue (far g v j) (far_port g v j)

  -- the link, from both its ends
  pub here : LinkFits gr.keys g v j n m (Connect l ∷ ms) r
  here = fits_like g wired gr.keys refl refl waits refl (links v j at)

  there : LinkFits gr.keys g (far g v j) (far_port g v j) m n r (Connect l ∷ ms)
  there = fits_like g wired gr.keys refl refl refl waits (far_link g wired gr.keys w links v j at)

  pub away : LinkFits gr.keys g (far g v j) (far_port g v j) m (asked_at n) r ms
  away = noted_away gr.keys g (far g v j) (far_port g v j) m n l r ms there
      (was_basic gr.keys g v j n m l ms r here level (port_ends gr ok v j at))
      (none_left gr.keys g v j n m l ms r here level (port_ends gr ok v j at))
      (sender_level gr.keys g v j n m l ms r here level (port_ends gr ok v j at))

  pub basic_there : is_basic n.port.mark ≡ true
  basic_there = was_basic gr.keys g v j n m l ms r here level (port_ends gr ok v j at)

  -- v's end of it, where the Connect is noted, and what that leaves of parent and child
  pub end_noted : EndFits gr.keys g v j (asked_at n) m ms
  end_noted = record {
    marks = noted_marks gr.keys g v j n m l ms r here level (port_ends gr ok v j at);
    names = noted_names gr.keys g v j n m l ms r here level (port_ends gr ok v j at);
    asked = λ x. noted_chosen gr.keys g v j n m l ms r here level (port_ends gr ok v j at);
    calls = noted_calls gr.keys g v j n m l ms r here level (port_ends gr ok v j at);
  }

  pub children_noted : ChildrenFit gr.keys (side_of g v j (asked_at n)) (far_side_of g v j m) (calls_in ms) (calls_in r)
  children_noted = noted_children gr.keys g v j n m l ms r here level (port_ends gr ok v j at)

  abbrev now : State
  now = set_mark (w.node v) j Asked

  abbrev left : ℕ → List Message
  left = put (w.queue v) j ms

  abbrev across : ℕ → AtPort
  across i = at_port (w.node (far g v i)) (far_port g v i)

  abbrev sent : ℕ → List Message
  sent i = w.queue (far g v i) (far_port g v i) ++ []

  abbrev pub after_connect : Net State Message
  after_connect = reacted boruvka g v (still now) (take_first boruvka g v j (Connect l) ms w)

  pub noted_acts : Acts g w after_connect v now left []
  noted_acts = acts_taken g wired w v j (Connect l) ms (still now)

  pub noted_links_by : LinkFits gr.keys g v j (asked_at n) m ms r → LinksFit gr.keys g after_connect
  noted_links_by near = links_one g wired gr.keys w _ v now left [] noted_acts
      (at_in at) links j (λ i ne. sym (asked_there (w.node v) j i ne))
      (λ i ne. sym (put_other (w.queue v) j i ms ne)) (λ i ne. sym (append-nil _))
      (fits_like g wired gr.keys (sym (asked_here (w.node v) j port)) refl (sym (put_same (w.queue v) j ms)) (sym (append-nil r)) near)
      (fits_like g wired gr.keys refl (sym (asked_here (w.node v) j port)) (sym (append-nil r)) (sym (put_same (w.queue v) j ms)) away)

  pub noted_links : ((w.node v).head.out ≡ Some j → ⊥) → LinksFit gr.keys g after_connect
  noted_links stays = noted_links_by (noted_near gr.keys g v j n m l ms r here level (port_ends gr ok v j at) stays)

  pub greater_links : far g v j < v → LinksFit gr.keys g after_connect
  greater_links less = noted_links_by (noted_greater gr.keys g v j n m l ms r here level (port_ends gr ok v j at) less)

  -- all links but this one at the node itself
  pub noted_but : (u q : ℕ) → At g u q → (u ≢ v) ⊎ (q ≢ j) → LinkIn gr.keys g after_connect u q
  noted_but u q is but = link_by g wired gr.keys w after_connect v now left [] noted_acts (at_in at)
      (λ x i z ne fne. links x i z)
      (λ i at_i. ⊎_elim
      (λ (e : i ≡ j). subst (λ y. LinkFits gr.keys g (far g v y) (far_port g v y) (across y) (at_port now y) (sent y) (left y)) (sym e)
      (fits_like g wired gr.keys refl (sym (asked_here (w.node v) j port)) (sym (append-nil r)) (sym (put_same (w.queue v) j ms)) away))
      (λ ne. fits_like g wired gr.keys refl (sym (asked_there (w.node v) j i ne)) (sym (append-nil _)) (sym (put_other (w.queue v) j i ms ne))
      (far_link g wired gr.keys w links v i at_i))
      (cases_eq i j))
      u q is
      (λ e. let ne : q ≢ j = ⊎_elim (λ x. absurd (x e)) (λ x. x) but in
      fits_like g wired gr.keys (sym (asked_there (w.node v) j q ne)) refl (sym (put_other (w.queue v) j q ms ne)) (sym (append-nil _))
      (links v q (subst (λ y. At g y q) e is)))
