-- Each event keeps the order in all queues, where every net of a run keeps the invariant: so no Name is left at a port that isn't Basic.
use Rattle.std.proofs.Common.{◌≡◌, ◌≢◌, ⊎_elim, ℕ, suc, true, Some, List, [], ◌∷◌, ◌++◌, refl, sym, ◌∙◌, ap, subst, arith}
use Rattle.std.proofs.lemmas.List.{get_or-replicate}
use Rattle.std.proofs.lemmas.Bool.{cases_eq}
use Rattle.ghs_graph.specs.declared.key.Key.{Key}
use Rattle.ghs_graph.specs.Graph.{Shape, IsGraph}
use Rattle.ghs_graph.specs.Key.{ends_at}
use Rattle.ghs_graph.proofs.lemmas.Ports.{ends_a, ends_b}
use Rattle.boruvka_protocol.specs.Levels.{InClass}
use Rattle.boruvka_protocol.proofs.lemmas.WaysOut.{ways_out_lift}
use Rattle.peer_network.specs.declared.event.Event.{Event}
use Rattle.peer_network.specs.Network as network
use Rattle.peer_network.specs.Network.{Network, network_of, far, far_port, At}
use Rattle.peer_network.proofs.lemmas.Graphs.{graph_wired, graph_keyed, port_ends}
use Rattle.peer_network.proofs.lemmas.Updates.{put_same, put_other}
use Rattle.peer_network.proofs.lemmas.Wires.{at_in}
use Rattle.peer_machine.specs.Net.{Net, opening, put, reacted, take_first}
use Rattle.peer_machine.specs.Run.{IsNetOf}
use Rattle.peer_machine.specs.Steps.{Happens, Woke, Took}
use Rattle.peer_machine.proofs.lemmas.Runs.{run_keeps, after_more}
use Rattle.boruvka_node.specs.declared.mark.Mark.TheVariants.{Basic}
use Rattle.boruvka_node.specs.declared.message.Message.{Message}
use Rattle.boruvka_node.specs.declared.message.Message.TheVariants.{Initiate, Name}
use Rattle.boruvka_node.specs.declared.port_state.PortState.{PortState}
use Rattle.boruvka_node.specs.State.{State, sleeper, fresh_port, no_port, port_at, mark_at}
use Rattle.boruvka_node.specs.Reaction.{Outcome}
use Rattle.boruvka_node.specs.Boruvka.{boruvka}
use Rattle.boruvka_node.specs.Words.{is_basic}
use Rattle.boruvka_protocol.proofs.invariant.Words.{IsWayUp}
use Rattle.boruvka_protocol.proofs.invariant.Sides.{Side, at_port, heard_at, names_in, calls_in}
use Rattle.boruvka_protocol.proofs.invariant.Connects.{OutFits}
use Rattle.boruvka_protocol.proofs.invariant.TreeMessages.{CallsFit, Nothing, Chosen, Called, Chosen_called, Reported, Passed}
use Rattle.boruvka_protocol.proofs.invariant.Nodes.{NodeFits}
use Rattle.boruvka_protocol.proofs.invariant.Whole.{Holds, LinkFits}
use Rattle.boruvka_protocol.proofs.Unlike.{basic_is_inside, inside_is_branch, inside_is_asked}
use Rattle.boruvka_protocol.proofs.every_run.Ground.{sleeper_level}
use Rattle.boruvka_protocol.proofs.rows.Acts.{Acts, acts_woken, acts_taken}
use Rattle.boruvka_protocol.proofs.rows.Hears.{name_tells}
use Rattle.boruvka_protocol.proofs.rows.Named.{one_class}
use Rattle.boruvka_protocol.proofs.follows.Cases.{plain_no_asked, plain_no_branch}
use Rattle.boruvka_protocol.proofs.follows.Seen.{Seen, side, seen, node_fits}
use Rattle.boruvka_protocol.proofs.follows.Halt.{NamesEnd}
use Rattle.boruvka_protocol.proofs.follows.Order.{NamesFirst, OrderFits, Ordered, names_end}
use Rattle.boruvka_protocol.proofs.follows.Ordered.{none_behind, order_silent, name_finds_basic, plain_no_inside}
use Rattle.boruvka_protocol.proofs.follows.Called.{called_over_out}
use Rattle.boruvka_protocol.proofs.follows.Told.{port_in, Taken_at, Call_taken, Name_taken, Reacts, CalledOut, message_reacts, wake_reacts}
use Rattle.boruvka_protocol.proofs.follows.Orders.{order_act}

-- Where an Initiate stands first in a queue, its port is the way up at the next level.
call_leads_up : (ks : List Key) (e f : Side) (k : ℕ) (c : Key) (rest q : List Message) → CallsFit ks e f q → q ≡ Initiate k c ∷ rest →
    IsWayUp ks (suc e.level) e.node e.key
call_leads_up ks e f k c rest _ Nothing same = cc
call_leads_up ks e f k c rest _ (Chosen m x) same = cc
call_leads_up ks e f k c rest _ (Called l name d) same = d.up
call_leads_up ks e f k c rest _ (Chosen_called m l name x d) same = cc
call_leads_up ks e f k c rest _ (Reported x d) same = cc
call_leads_up ks e f k c rest _ (Passed d) same = cc

-- Node v takes m, which stands first at its port p, where ms wait behind it.
module _ (g : Shape) (w w' : Net State Message) (h : Holds g w) (h' : Holds g w') (order : Ordered g w) (v p : ℕ) (m : Message) (ms : List Message)
    (o : Outcome) (at : At (network_of g) v p) (first : w.queue v p ≡ m ∷ ms)
    (act : Acts (network_of g) w w' v o.state (put (w.queue v) p ms) o.sends)
    (r : Reacts (CalledOut (w.node v) m) (w.node v).ports (w.node v).head.level (w.node v).head.name p m o) where
  abbrev net : Network
  net = network_of g

  abbrev n : State
  n = w.node v

  abbrev u : ℕ
  u = far net v p

  -- the key of port i
  abbrev key : ℕ → Key
  key i = (network.port_at net v i).key

  before : OrderFits g.keys v u (mark_at n p) (port_at n p).level (m ∷ ms)
  before = subst (λ q. OrderFits g.keys v u (mark_at n p) (port_at n p).level q) first (order v p at)

  -- a Name finds the port Basic
  finds_basic : (k : ℕ) (f : Key) → m ≡ Name k f → mark_at n p ≡ Basic
  finds_basic k f e =
      name_finds_basic g.keys (side net w v p) (side net w u (far_port net v p)) (heard_at (at_port n p)) _ k f ms (w.queue u (far_port net v p))
      (subst
      (λ q.
      Seen g.keys (side net w v p) (side net w u (far_port net v p)) (heard_at (at_port n p)) (port_at n p).owes q (w.queue u (far_port net v p)))
      (first ∙ ap (λ (x : Message). x ∷ ms) e) (seen g w h v p at))
      (subst (λ (x : Message). OrderFits g.keys v u (mark_at n p) (port_at n p).level (x ∷ ms)) e before)

  -- with the node's own name it comes from within its class
  own_class : (k : ℕ) (f : Key) → m ≡ Name k f → k ≡ n.head.level → n.head.name ≡ Some f → InClass g.keys k v u
  own_class k f e lv named =
      subst (λ l. InClass g.keys l v u) (sym lv)
      (one_class g h.graph v p k f (at_port n p) (at_port (w.node u) (far_port net v p)) ms (w.queue u (far_port net v p)) link fits.class fits.name
      lv named (ap is_basic (finds_basic k f e)) (port_ends g h.graph v p at))
    where
      link : LinkFits g.keys net v p (at_port n p) (at_port (w.node u) (far_port net v p)) (Name k f ∷ ms) (w.queue u (far_port net v p))
      link =
          subst (λ q. LinkFits g.keys net v p (at_port n p) (at_port (w.node u) (far_port net v p)) q (w.queue u (far_port net v p)))
          (first ∙ ap (λ (x : Message). x ∷ ms) e) (h.fits.links v p at)

      fits : NodeFits g.keys v n
      fits = let next : k ≡ suc (port_at n p).level = link.names.next.0 in
          node_fits g w h v (at_in at) (omega (arith, next, lv))

  -- the order at p when m is taken
  order_here : OrderFits g.keys v u (port_in r.now p).mark (port_in r.now p).level ms
  order_here = go r.here
    where
      go : Taken_at n.head.level n.head.name m (port_at n p) (port_in r.now p) →
          OrderFits g.keys v u (port_in r.now p).mark (port_in r.now p).level ms
      go (Call_taken call basic inside) =
          order_silent g.keys v u (port_in r.now p).mark (port_in r.now p).level ms (none_behind m ms before.first call)
          (λ z. let x = inside z in subst (λ y. InClass g.keys y v u) (sym x.1) (before.inside x.0))
      go (Name_taken k f e level mark) = ⊎_elim
          (λ b. record {
            first = rest;
            asked = λ z. absurd (plain_no_asked (port_in r.now p).mark b z);
            branch = λ z. absurd (plain_no_branch (port_in r.now p).mark b z);
            inside = λ z. absurd (plain_no_inside (port_in r.now p).mark b z);
          })
          (λ i. record {
            first = rest;
            asked = λ z. inside_is_asked (sym i.0 ∙ z);
            branch = λ z. inside_is_branch (sym i.0 ∙ z);
            inside = λ z. subst (λ y. InClass g.keys y v u) (sym level) (own_class k f e i.1 ((name_tells n.head.name f).0 i.2));
          })
          (mark (finds_basic k f e))
        where
          rest : NamesFirst ms
          rest = (subst (λ (x : Message). OrderFits g.keys v u (mark_at n p) (port_at n p).level (x ∷ ms)) e before).first

  was_here : (port_in r.now p).mark ≡ Basic → mark_at n p ≡ Basic
  was_here b = go r.here
    where
      go : Taken_at n.head.level n.head.name m (port_at n p) (port_in r.now p) → mark_at n p ≡ Basic
      go (Call_taken call basic inside) = basic b
      go (Name_taken k f e level mark) = finds_basic k f e

  mid : (i : ℕ) → At net v i → OrderFits g.keys v (far net v i) (port_in r.now i).mark (port_in r.now i).level (put (w.queue v) p ms i)
  mid i at_i = ⊎_elim
      (λ (e : i ≡ p).
      subst (λ y. OrderFits g.keys v (far net v y) (port_in r.now y).mark (port_in r.now y).level (put (w.queue v) p ms y)) (sym e)
      (subst (λ q. OrderFits g.keys v u (port_in r.now p).mark (port_in r.now p).level q) (sym (put_same (w.queue v) p ms)) order_here))
      (λ ne.
      subst (λ (x : PortState). OrderFits g.keys v (far net v i) x.mark x.level (put (w.queue v) p ms i)) (sym (r.others i ne))
      (subst (λ q. OrderFits g.keys v (far net v i) (mark_at n i) (port_at n i).level q) (sym (put_other (w.queue v) p i ms ne)) (order v i at_i)))
      (cases_eq i p)

  was : (i : ℕ) → At net v i → (port_in r.now i).mark ≡ Basic → mark_at n i ≡ Basic
  was i at_i b = ⊎_elim
      (λ (e : i ≡ p). subst (λ y. mark_at n y ≡ Basic) (sym e) (was_here (subst (λ y. (port_in r.now y).mark ≡ Basic) e b)))
      (λ ne. sym (ap (λ (x : PortState). x.mark) (r.others i ne)) ∙ b)
      (cases_eq i p)

  -- who is called is so over the port that it has gone out over
  called_here : (i : ℕ) → At net v i → CalledOut n m i → i ≡ p
  called_here i at_i c = ⊎_elim
      (λ x. x.1)
      (λ x. absurd ((graph_wired g h.graph).apart v i at_i x.0))
      (graph_keyed g h.graph v i v p at_i at same)
    where
      out : OutFits g.keys (side net w v i) (side net w (far net v i) (far_port net v i)) (calls_in (w.queue v i))
          (calls_in (w.queue (far net v i) (far_port net v i)))
      out = (seen g w h v i at_i).connects.out c.0

      ends : ends_at v (key i) ≡ true
      ends = ⊎_elim
          (λ x. subst (λ y. ends_at y (key i) ≡ true) (sym x.0) (ends_a (key i)))
          (λ x. subst (λ y. ends_at y (key i) ≡ true) (sym x.0) (ends_b (key i)))
          (port_ends g h.graph v i at_i)

      way : IsWayUp g.keys (suc n.head.level) v (key p)
      way = call_leads_up g.keys (side net w v p) (side net w u (far_port net v p)) c.1.0 c.1.1 (calls_in ms) (calls_in (w.queue v p))
          (seen g w h v p at).calls (ap calls_in (first ∙ ap (λ (x : Message). x ∷ ms) c.1.2))

      same : key i ≡ key p
      same =
          called_over_out g h.graph n.head.level v (key i) (key p)
          (ways_out_lift g h.graph n.head.level v (key i, out.least.link, out.least.leaves)).1 out.least ends way

  called : (i : ℕ) → At net v i → CalledOut n m i → names_in (put (w.queue v) p ms i) ≡ []
  called i at_i c =
      subst (λ y. names_in (put (w.queue v) p ms y) ≡ []) (sym (called_here i at_i c))
      (ap names_in (put_same (w.queue v) p ms)
      ∙ none_behind m ms before.first (subst (λ (x : Message). calls_in (x ∷ []) ≢ []) (sym c.1.2) (λ z. cc)))

  pub order_taken : Ordered g w'
  order_taken =
      order_act g w w' h h' order v o (put (w.queue v) p ms) (at_in at) act (CalledOut n m) r.now r.many mid was
      called r.fares

-- each event keeps the order
pub order_event : (g : Shape) (w w' : Net State Message) (e : Event) → Holds g w → Holds g w' → Ordered g w → Happens boruvka (network_of g) w e w' →
    Ordered g w'
order_event g w _ _ h h' order (Woke v o lo hi s r t) =
    order_act g w (reacted boruvka (network_of g) v o w) h h' order v o (w.queue v) (record { some = lo; node = hi })
    (acts_woken (network_of g) (graph_wired g h.graph) w v o) (λ p. ⊥) (w.node v).ports refl (λ i at. order v i at) (λ i at b. b)
    (λ i at c. absurd c) (wake_reacts (λ p. ⊥) (w.node v) o r)
order_event g w _ _ h h' order (Took v p m ms o at q r t) =
    order_taken g w (reacted boruvka (network_of g) v o (take_first boruvka (network_of g) v p m ms w)) h h' order v p m ms o at q
    (acts_taken (network_of g) (graph_wired g h.graph) w v p m ms o)
    (message_reacts (w.node v) p m o (sleeper_level h.fits.ground v) r)

order_opening : (g : Shape) → Ordered g (opening boruvka (network_of g))
order_opening g v p at = record { first = tt; asked = λ a. refl; branch = λ b. refl; inside = λ i. basic_is_inside (sym fresh ∙ i) }
  where
    fresh : mark_at (sleeper v ((network_of g).ports v)) p ≡ Basic
    fresh = ap (λ (x : PortState). x.mark) (get_or-replicate _ p fresh_port no_port at.port)

module _ (every : (g : Shape) (w : Net State Message) → IsNetOf boruvka g w → Holds g w) where
  -- a net of a run, and its order
  record OrderedNet (g : Shape) (w : Net State Message) : Type 0 where
    net : IsNetOf boruvka g w
    order : Ordered g w

  ordered_event : (g : Shape) (w w' : Net State Message) (e : Event) → OrderedNet g w → Happens boruvka (network_of g) w e w' → OrderedNet g w'
  ordered_event g w w' e i k = record { net = next; order = order_event g w w' e (every g w i.net) (every g w' next) i.order k }
    where
      next : IsNetOf boruvka g w'
      next = record {
        graph = i.net.graph;
        events = i.net.events ++ e ∷ [];
        run = after_more boruvka (network_of g) i.net.events e w w' i.net.run k;
      }

  ordered_opening : (g : Shape) → IsGraph g → OrderedNet g (opening boruvka (network_of g))
  ordered_opening g ok = record { net = record { graph = ok; events = []; run = refl }; order = order_opening g }

  -- the order holds in every run
  pub ordered_in_runs : (g : Shape) (w : Net State Message) → IsNetOf boruvka g w → Ordered g w
  ordered_in_runs g w is = (run_keeps boruvka (network_of g) (OrderedNet g) (ordered_event g) is.events (opening boruvka (network_of g)) w
      (ordered_opening g is.graph) is.run).order

  -- and with it all Names are heard while their port is Basic
  pub names_end_in_runs : (g : Shape) (w : Net State Message) → IsNetOf boruvka g w → NamesEnd g w
  names_end_in_runs g w is = names_end g w (every g w is) (ordered_in_runs g w is)
