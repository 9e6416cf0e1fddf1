-- A Name comes in: all clauses hold behind it, but that the node waits for more.
use Rattle.std.proofs.Common.{◌≡◌, ◌≢◌, ℕ, ◌<◌, ◌≤◌, ◌==◌, ◌&&◌, Bool, true, false, Option, Some, None, List, [], ◌∷◌, ◌++◌, refl, sym, ◌∙◌, ap, subst, cond, ⊎_elim, arith, append-nil, length-set, eqb-true, eq-eqb}
use Rattle.std.proofs.lemmas.Bool.{cases_eq, cases_Bool, and_parts, and_from, both_ways}
use Rattle.ghs_graph.specs.declared.key.Key.{Key}
use Rattle.ghs_graph.specs.Graph.{Shape, IsGraph}
use Rattle.ghs_graph.specs.Links.{InTree}
use Rattle.ghs_node.specs.Words.{is_name}
use Rattle.ghs_node.proofs.lemmas.{key_decides}
use Rattle.peer_network.specs.Network.{Network, network_of, At, InNetwork, far, far_port}
use Rattle.peer_network.proofs.lemmas.Wired.{IsWired}
use Rattle.peer_network.proofs.lemmas.Graphs.{graph_wired, port_ends}
use Rattle.peer_network.proofs.lemmas.Updates.{put_same, put_other}
use Rattle.peer_network.proofs.lemmas.Wires.{at_in}
use Rattle.peer_machine.specs.Net.{Net, put, reacted, take_first}
use Rattle.boruvka_node.specs.declared.mark.Mark.{Mark}
use Rattle.boruvka_node.specs.declared.mark.Mark.TheVariants.{Branch, Inside}
use Rattle.boruvka_node.specs.declared.message.Message.{Message}
use Rattle.boruvka_node.specs.declared.message.Message.TheVariants.{Name}
use Rattle.boruvka_node.specs.declared.message.Phase.TheVariants.{Sleeping, Rest}
use Rattle.boruvka_node.specs.declared.port_state.PortState.{PortState}
use Rattle.boruvka_node.specs.Words.{is_basic}
use Rattle.boruvka_node.specs.State.{State, mark_at, degree}
use Rattle.boruvka_node.specs.Reaction.{heard}
use Rattle.boruvka_node.specs.Boruvka.{boruvka}
use Rattle.boruvka_protocol.proofs.invariant.Sides.{AtPort, at_port, calls_in, reports_in, passes_in}
use Rattle.boruvka_protocol.proofs.invariant.Nodes.{NodeFits, AwakeFits}
use Rattle.boruvka_protocol.proofs.invariant.Search.{LacksSome}
use Rattle.boruvka_protocol.proofs.invariant.Whole.{Ground, LinkFits, LinksFit, Fits, NearlyFits}
use Rattle.boruvka_protocol.proofs.Unlike.{inside_is_branch}
use Rattle.boruvka_protocol.proofs.rows.Table.{still}
use Rattle.boruvka_protocol.proofs.rows.Ports.{port_set, port_kept, mark_set, mark_kept}
use Rattle.boruvka_protocol.proofs.rows.Acts.{Acts, acts_taken, fits_like, far_link, links_one}
use Rattle.boruvka_protocol.proofs.rows.Alike.{AsMany}
use Rattle.boruvka_protocol.proofs.rows.OwnPorts.{port_below}
use Rattle.boruvka_protocol.proofs.rows.Others.{taken_like, node_like, nodes_act, waits_like, tokens_like}
use Rattle.boruvka_protocol.proofs.rows.Kept.{search_now, heads_act, searches_act}
use Rattle.boruvka_protocol.proofs.rows.Noted.{basic_no_branch}
use Rattle.boruvka_protocol.proofs.rows.Named.{told_at, inside_at, next, told_near, inside_near, aside, told_away, inside_away}

pub name_tells : (o : Option Key) (f : Key) → (is_name o f ≡ true → o ≡ Some f) × (o ≡ Some f → is_name o f ≡ true)
name_tells None f = (λ e. cc, λ e. cc)
name_tells (Some k) f = (
  λ e. ap (λ (x : Key). Some x) ((key_decides k f).0 e),
  λ e. subst (λ (x : Option Key). is_name x f ≡ true) (sym e) ((key_decides f f).1 refl),
)

module _ (gr : Shape) (ok : IsGraph gr) (w : Net State Message) (v j l : ℕ) (a : Key) (ms : List Message) (at : At (network_of gr) v j)
    (fits : Fits gr.keys (network_of gr) w) (waits : w.queue v j ≡ Name l a ∷ ms) (awake : (w.node v).head.phase ≢ Sleeping) where
  abbrev g : Network
  g = network_of gr

  wired : IsWired g
  wired = graph_wired gr ok

  here : InNetwork g v
  here = at_in at

  port : j < degree (w.node v)
  port = port_below (fits.ground.nodes v) j at

  abbrev n : AtPort
  n = at_port (w.node v) j

  abbrev m : AtPort
  m = at_port (w.node (far g v j)) (far_port g v j)

  abbrev r : List Message
  r = w.queue (far g v j) (far_port g v j)

  node : NodeFits gr.keys v (w.node v)
  node = fits.nodes v here awake

  link : LinkFits gr.keys g v j n m (Name l a ∷ ms) r
  link = fits_like g wired gr.keys refl refl waits refl (fits.links v j at)

  link_there : LinkFits gr.keys g (far g v j) (far_port g v j) m n r (Name l a ∷ ms)
  link_there = fits_like g wired gr.keys refl refl refl waits (far_link g wired gr.keys w fits.links v j at)

  -- the port's mark behind it
  abbrev own : Bool
  own = ((l == n.head.level) && is_name n.head.name a) && is_basic n.port.mark

  abbrev new : PortState
  new = record n.port { level = l; name = Some a; mark = cond own Inside n.port.mark }

  abbrev now : State
  now = heard (w.node v) j l a

  abbrev new_at : AtPort
  new_at = record { port = new; head = n.head }

  now_here : at_port now j ≡ new_at
  now_here = ap (λ (x : PortState). let y : AtPort = record { port = x; head = n.head } in y) (port_set (w.node v) j new port)

  now_there : (i : ℕ) → i ≢ j → at_port now i ≡ at_port (w.node v) i
  now_there i ne = ap (λ (x : PortState). let y : AtPort = record { port = x; head = n.head } in y) (port_kept (w.node v) j i new ne)

  -- what the test says
  record Own : Type 0 where
    level : l ≡ n.head.level
    name : n.head.name ≡ Some a
    basic : is_basic n.port.mark ≡ true

  own_is : own ≡ true → Own
  own_is t =
      let b = and_parts _ _ t in
      let c = and_parts _ _ b.0 in
      record { level = eqb-true _ _ c.0; name = (name_tells _ _).0 c.1; basic = b.1 }

  own_not : own ≡ false → is_basic n.port.mark ≡ true → l ≡ n.head.level → n.head.name ≡ Some a → ⊥
  own_not t b e o = both_ways own t (and_from _ _ (and_from _ _ (eq-eqb _ _ e) ((name_tells _ _).1 o)) b)

  -- the port with either mark
  abbrev marked : Bool → AtPort
  marked b = record { port = record n.port { level = l; name = Some a; mark = cond b Inside n.port.mark }; head = n.head }

  abbrev Ends : Type 0
  Ends = LinkFits gr.keys g v j new_at m ms r × LinkFits gr.keys g (far g v j) (far_port g v j) m new_at r ms

  both_ends : Ends
  both_ends = ⊎_elim inside outside (cases_Bool own)
    where
      inside : own ≡ true → Ends
      inside t =
          let o = own_is t in
          let ends = port_ends gr ok v j at in
          let same : inside_at n l a ≡ new_at =
          ap (λ (b : Bool). marked b) (sym t) in (
            fits_like g wired gr.keys same refl refl refl (inside_near gr ok v j l a n m ms r link node.class node.name o.level o.name o.basic ends),
            fits_like g wired gr.keys refl same refl refl
                (inside_away gr.keys g (far g v j) (far_port g v j) l a m n r ms link_there
                (λ is. aside gr ok v j l a n m ms r link node.class node.name o.level o.name o.basic ends
                (subst (λ (x : Key). InTree gr.keys x) (wired.same_key v j at) is))),
          )

      outside : own ≡ false → Ends
      outside t =
          let same : told_at n l a ≡ new_at =
          ap (λ (b : Bool). marked b) (sym t) in (
            fits_like g wired gr.keys same refl refl refl (told_near gr ok v j l a n m ms r link node.class node.name (own_not t)),
            fits_like g wired gr.keys refl same refl refl (told_away gr.keys g (far g v j) (far_port g v j) l a m n r ms link_there),
          )

  abbrev left : ℕ → List Message
  left = put (w.queue v) j ms

  abbrev after : Net State Message
  after = reacted boruvka g v (still now) (take_first boruvka g v j (Name l a) ms w)

  acts : Acts g w after v now left []
  acts = acts_taken g wired w v j (Name l a) ms (still now)

  abbrev across : ℕ → AtPort
  across i = at_port (w.node (far g v i)) (far_port g v i)

  abbrev sent : ℕ → List Message
  sent i = w.queue (far g v i) (far_port g v i) ++ []

  links : LinksFit gr.keys g after
  links = links_one g wired gr.keys w after v now left [] acts here fits.links j (λ i ne. sym (now_there i ne))
      (λ i ne. sym (put_other (w.queue v) j i ms ne)) (λ i ne. sym (append-nil _))
      (fits_like g wired gr.keys (sym now_here) refl (sym (put_same (w.queue v) j ms)) (sym (append-nil r)) both_ends.0)
      (fits_like g wired gr.keys refl (sym now_here) (sym (append-nil r)) (sym (put_same (w.queue v) j ms)) both_ends.1)

  -- marks at port j: Branch stays, and at rest none changes
  own_branch : n.port.mark ≡ Branch → cond own Inside n.port.mark ≡ Branch
  own_branch b = ⊎_elim
      (λ t. basic_no_branch n.port.mark (own_is t).basic b)
      (λ t. ap (λ (x : Bool). let y : Mark = cond x Inside n.port.mark in y) t ∙ b)
      (cases_Bool own)

  branch_own : cond own Inside n.port.mark ≡ Branch → n.port.mark ≡ Branch
  branch_own b = ⊎_elim
      (λ t. inside_is_branch (sym (ap (λ (x : Bool). let y : Mark = cond x Inside n.port.mark in y) t) ∙ b))
      (λ t. sym (ap (λ (x : Bool). let y : Mark = cond x Inside n.port.mark in y) t) ∙ b)
      (cases_Bool own)

  rest_own : n.head.phase ≡ Rest → is_basic (cond own Inside n.port.mark) ≡ is_basic n.port.mark
  rest_own rest = ⊎_elim
      (λ t.
      let o = own_is t in
      let step = next gr ok v j l a n m ms r link node.class node.name in
      let lo : 1 ≤ n.head.level = omega (arith, o.level, step) in
      let le = link.names.rest rest lo o.basic in
      absurd (omega (arith, o.level, step, le)))
      (λ t. ap (λ (x : Bool). is_basic (cond x Inside n.port.mark)) t)
      (cases_Bool own)

  as_many : (P : List Message → ℕ) → P (Name l a ∷ ms) ≡ P ms → AsMany g P w after
  as_many P none = waits_like gr.keys g w after v now left [] acts wired here P
      (λ i at_i. taken_like P (w.queue v) j (Name l a) ms waits none i) (λ i at_i. ap P (sym (append-nil _)))

  -- with the ground, which every event keeps
  pub named_nearly : Ground g after → NearlyFits gr.keys g after v
  named_nearly ground = record {
    ground = ground;
    nodes = nodes_act gr.keys g w after v now left [] acts (λ u x. AwakeFits gr.keys u x) fits.nodes
        (node_like gr.keys v (w.node v) now refl (sym (length-set (w.node v).ports j _)) refl (fits.nodes v here));
    links = links;
    search = searches_act gr.keys g w after v now left [] acts (heads_act gr.keys g w after v now left [] acts refl)
        (as_many (λ q. reports_in (calls_in q)) refl) fits.search
        (search_now gr.keys g v (w.node v) now.ports (λ p. (w.node (far g v p)).head) (λ p. w.queue v p)
        (λ p b. ⊎_elim
        (λ (e : p ≡ j). subst (λ y. mark_at now y ≡ Branch) (sym e)
        (mark_set (w.node v) j new port ∙ own_branch (subst (λ y. mark_at (w.node v) y ≡ Branch) e b)))
        (λ ne. mark_kept (w.node v) j p new ne ∙ b)
        (cases_eq p j))
        (λ p reported b. ⊎_elim
        (λ (e : p ≡ j). subst (λ y. mark_at (w.node v) y ≡ Branch) (sym e)
        (branch_own (sym (mark_set (w.node v) j new port) ∙ subst (λ y. mark_at now y ≡ Branch) e b)))
        (λ ne. sym (mark_kept (w.node v) j p new ne) ∙ b)
        (cases_eq p j))
        (λ rest p. ⊎_elim
        (λ (e : p ≡ j). subst (λ y. is_basic (mark_at now y) ≡ is_basic (mark_at (w.node v) y)) (sym e)
        (ap is_basic (mark_set (w.node v) j new port) ∙ rest_own rest))
        (λ ne. ap is_basic (mark_kept (w.node v) j p new ne))
        (cases_eq p j))
        (fits.search v here));
    others = λ u at_u ne. subst (λ (x : State). LacksSome x) (acts.others u ne) (fits.lacks u at_u);
    tokens = tokens_like gr.keys g w after (heads_act gr.keys g w after v now left [] acts refl) (as_many (λ q. passes_in q) refl) fits.tokens;
  }
