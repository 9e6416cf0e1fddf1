-- Each lawful event has a rule: what a message finds is what its row asks for, and all goes out on ports.
use Rattle.std.proofs.Common.{◌≡◌, ◌≢◌, ℕ, zero, suc, ◌+◌, ◌<◌, ◌≤◌, ◌^◌, ◌&&◌, nat_lt, not, Bool, true, false, Option, Some, None, List, [], ◌∷◌, length, refl, sym, ◌∙◌, ap, subst, ⊎_elim, eq-eqb, ltb-true, lt-ltb, arith}
use Rattle.std.specs.Prelude.{IsSome}
use Rattle.std.proofs.Math.Pow.{pow_mono}
use Rattle.std.proofs.lemmas.Bool.{and_parts, and_from, both_ways, cases_lt, false_from_ne_true}
use Rattle.std.proofs.lemmas.List.{get_or_past}
use Rattle.ghs_graph.specs.declared.key.Key.{Key}
use Rattle.ghs_graph.specs.Bound.{IsFloorLog2}
use Rattle.ghs_graph.specs.Graph.{Shape, IsGraph}
use Rattle.ghs_graph.proofs.lemmas.Joining.{joined_back}
use Rattle.ghs_graph.proofs.lemmas.Logs.{floor_log2_is_one}
use Rattle.ghs_node.specs.declared.level.TheConstants.{TOP_LEVEL}
use Rattle.ghs_node.specs.Words.{Best, is_at}
use Rattle.ghs_node.proofs.lemmas.{at_is}
use Rattle.peer_network.specs.declared.event.Event.{Event}
use Rattle.peer_network.specs.declared.event.Event.TheVariants as events
use Rattle.peer_network.specs.Network.{network_of, far, far_port, InNetwork, At}
use Rattle.peer_network.proofs.lemmas.Events.{node_of, at_of}
use Rattle.peer_network.proofs.lemmas.Wires.{at_in}
use Rattle.boruvka_protocol.specs.Levels.{HasWayOut, IsOfLevel}
use Rattle.boruvka_protocol.specs.Cores.{IsCore}
use Rattle.boruvka_protocol.proofs.lemmas.Cuts.{taken_links}
use Rattle.boruvka_protocol.proofs.lemmas.Sizes.{levels_are_few}
use Rattle.boruvka_protocol.proofs.lemmas.WaysOut.{way_out_at, next_of_level}
use Rattle.peer_machine.specs.declared.work.Work.TheVariants.{Wake, Deliver}
use Rattle.peer_machine.specs.Rules.{Outgoing}
use Rattle.peer_machine.specs.Net.{Net, are_on_ports, if_reacted, is_lawful, take_first, takes_from, effect}
use Rattle.boruvka_node.specs.declared.message.Message.{Message}
use Rattle.boruvka_node.specs.declared.message.Message.TheVariants.{Connect, Initiate, Name, Report, ChangeRoot}
use Rattle.boruvka_node.specs.declared.message.Phase.{Phase}
use Rattle.boruvka_node.specs.declared.message.Phase.TheVariants.{Sleeping, Search, Rest}
use Rattle.boruvka_node.specs.declared.port_state.PortState.{PortState}
use Rattle.boruvka_node.specs.Words.{is_basic, is_asked, is_sleeping, is_search, is_rest}
use Rattle.boruvka_node.specs.State.{State, degree, port_at, mark_at, no_port, sleeper}
use Rattle.boruvka_node.specs.Reaction.{Outcome, and_then, woken, wakes, connect, name, awake, asleep, reaction, is_next_name}
use Rattle.boruvka_node.specs.Boruvka.{boruvka}
use Rattle.boruvka_protocol.proofs.invariant.Words.{IsLeast, IsWayUp, IsSubAt}
use Rattle.boruvka_protocol.proofs.invariant.Sides.{Side, Heard, names_in, calls_in}
use Rattle.boruvka_protocol.proofs.invariant.Nodes.{ParentIs}
use Rattle.boruvka_protocol.proofs.invariant.Names.{NamesFit}
use Rattle.boruvka_protocol.proofs.invariant.Connects.{ConnectFits}
use Rattle.boruvka_protocol.proofs.invariant.TreeMessages.{CallFits, ReportFits, PassFits, CallsFit, Chosen, Called, Chosen_called, Reported, Passed}
use Rattle.boruvka_protocol.proofs.invariant.Search.{BestIsHeard, BestIsSub, LeadsTo, Own, By_child}
use Rattle.boruvka_protocol.proofs.invariant.Whole.{Holds}
use Rattle.boruvka_protocol.proofs.Unlike.{rest_is_search}
use Rattle.boruvka_protocol.proofs.follows.Cases.{by_sleep, asleep_no_rest, asleep_no_search, asked_is}
use Rattle.boruvka_protocol.proofs.follows.Ways.{over}
use Rattle.boruvka_protocol.proofs.follows.Seen.{Seen, side, seen}
use Rattle.boruvka_protocol.proofs.follows.Goes.{Goes, AreBelow, PortBelow, BestBelow, IsLow, CanClose, choose_goes, connect_now_goes, connect_late_goes, initiate_goes, name_goes, report_goes, change_root_goes, wakes_goes, woken_then_goes}

-- What stands first in a queue.

module _ (ks : List Key) where
  first_connect : (e f : Side) (l : ℕ) (q : List Message) → CallsFit ks e f (Connect l ∷ q) → ConnectFits ks l e f
  first_connect e f l _ (Chosen _ c) = c
  first_connect e f l _ (Chosen_called _ k name c d) = c

  first_initiate : (e f : Side) (l : ℕ) (name : Key) (q : List Message) → CallsFit ks e f (Initiate l name ∷ q) → CallFits ks l name e f
  first_initiate e f l name _ (Called _ _ c) = c

  first_report : (e f : Side) (k : Option Key) (q : List Message) → CallsFit ks e f (Report k ∷ q) → ReportFits ks k e f
  first_report e f k _ (Reported _ c) = c

  first_pass : (e f : Side) (q : List Message) → CallsFit ks e f (ChangeRoot ∷ q) → PassFits ks e f
  first_pass e f _ (Passed c) = c

-- Small facts.

rest_is : (p : Phase) → p ≡ Rest → is_rest p ≡ true
rest_is p e = ap is_rest e

search_is : (p : Phase) → p ≡ Search → is_search p ≡ true
search_is p e = ap is_search e

not_and : (b c : Bool) → (b ≡ true → c ≡ false) → not (b && c) ≡ true
not_and true c f = rw (f refl) refl
not_and false c f = refl

owed_or_not : (b : Bool) → (b ≡ false → ⊥) → b ≡ true
owed_or_not true f = refl
owed_or_not false f = absurd (f refl)

-- the row of a Name applies where it is the next one of its port, and over a Basic port of the level above at most
next_name : (x : State) (j l : ℕ) → l ≡ suc (port_at x j).level → (is_basic (mark_at x j) ≡ true → l ≤ suc x.head.level) → is_next_name x j l ≡ true
next_name x j l e near = and_from _ _ (eq-eqb l (suc (port_at x j).level) e)
    (not_and (is_basic (mark_at x j)) (nat_lt (suc x.head.level) l)
    (λ b. false_from_ne_true (nat_lt (suc x.head.level) l) (λ t. omega (arith, near b, ltb-true (suc x.head.level) l t))))

-- a Name that stands first is so
module _ (ks : List Key) (e f : Side) (heard : Heard) (l : ℕ) (c : Key) (q : List Message) (h : NamesFit ks e f heard (names_in (Name l c ∷ q))) where
  name_follows : l ≡ suc heard.level
  name_follows = h.next.0

  name_near : is_basic e.mark ≡ true → l ≤ suc e.level
  name_near b =
      let many : heard.level + suc (length (names_in q)) ≤ f.level = h.all.at_most in
      let n = (h.near b).0 in
      omega (arith, name_follows, many, n)

-- Levels that nodes can have.

module _ (g : Shape) (ok : IsGraph g) where
  levels_low : (l v : ℕ) → InNetwork (network_of g) v → IsOfLevel g.keys l v → l ≤ TOP_LEVEL
  levels_low l v net h = ⊎_elim (λ big. absurd (too_many big)) (λ small. let r : l ≤ 20 = omega (arith, small) in r) (cases_lt 20 l)
    where
      floor : (k : ℕ) × IsFloorLog2 g.nodes k × ((j : ℕ) → IsFloorLog2 g.nodes j → j ≡ k)
      floor = floor_log2_is_one g.nodes ok.some

      too_many : 20 < l → ⊥
      too_many big =
          let few : g.nodes ≤ 1048576 = ok.nodes in
          let at_most : l ≤ floor.0 = levels_are_few g ok l v floor.0 net.some net.node h floor.1 in
          let power : 2 ^ 21 ≤ 2 ^ floor.0 = pow_mono {i = 21} {j = floor.0} (omega (arith, big, at_most)) in
          omega (arith, floor.1.at_most, power, few)

  next_low : (l v : ℕ) → InNetwork (network_of g) v → HasWayOut g.keys l v → suc l ≤ TOP_LEVEL
  next_low l v net out = levels_low (suc l) v net (next_of_level g.keys l v out)

not_none : (n : ℕ) → ◌≡◌ {A = ℕ} (suc n) 0 → ⊥
not_none n e = omega (arith, e)

-- a way up is taken, so of a level
has_level : (ks : List Key) (l v : ℕ) (k : Key) → IsWayUp ks l v k → 1 ≤ l
has_level ks zero v k x = absurd x.up.link
has_level ks (suc l) v k x = omega arith

one_low : 1 ≤ TOP_LEVEL
one_low = let r : 1 ≤ 20 = omega arith in r

-- where a neighbour chose the link of them, the node's class has a way out
neighbour_out : (ks : List Key) (l : ℕ) (e f : Side) (heard : Heard) (owes : Bool) (ms ns : List Message) → Seen ks e f heard owes ms ns →
    IsLeast ks l f.node e.key → HasWayOut ks l e.node
neighbour_out ks l e f heard owes ms ns s least =
    way_out_at ks l (joined_back (over e.key s.wire.link s.wire.ends)) (e.key, least.link, least.leaves)

-- who is called is of the next level
called_out : (ks : List Key) (l v : ℕ) (c : Key) → IsCore ks l v c → HasWayOut ks l v
called_out ks l v c h = way_out_at ks l (joined_back (taken_links ks (suc l) h.inside)) (c, h.of_a.link, h.of_a.leaves)

module _ (g : Shape) (w : Net State Message) (h : Holds g w) where
  module _ (v : ℕ) (net : InNetwork (network_of g) v) where
    abbrev d : ℕ
    d = length ((network_of g).ports v)

    many : degree (w.node v) ≡ d
    many = (h.fits.ground.nodes v).ports

    -- an Asked port leads to a neighbour that chose the link
    low : IsLow (w.node v)
    low p a = ⊎_elim inside outside (cases_lt p d)
      where
        inside : p < d → suc (w.node v).head.level ≤ TOP_LEVEL
        inside lt =
            let s = seen g w h v p (record { some = net.some; node = net.node; port = lt }) in
            let chosen = s.connects.asked (asked_is (mark_at (w.node v) p) a) in
            next_low g h.graph (w.node v).head.level v net (neighbour_out g.keys _ _ _ _ _ _ _ s chosen.least)

        none : is_asked no_port.mark ≡ true → ⊥
        none e = cc

        outside : d ≤ p → suc (w.node v).head.level ≤ TOP_LEVEL
        outside le =
            absurd
            (none
            (subst (λ (x : PortState). is_asked x.mark ≡ true) (get_or_past (w.node v).ports p no_port (omega (arith, le, many))) a))

    parent_below : (o : Option ℕ) → ParentIs g.keys (w.node v).head.level v (w.node v) o → PortBelow d o
    parent_below None x = tt
    parent_below (Some p) x = omega (arith, x.0, many)

    heard_below : (b : Best) →
        BestIsHeard g.keys (network_of g) v (w.node v) (λ p. (w.node (far (network_of g) v p)).head) (λ p. w.queue v p) b → BestBelow d b
    heard_below None x = tt
    heard_below (Some b) x = x.0.child.at.port

    sub_below : (b : Best) →
        BestIsSub g.keys (network_of g) v (w.node v) (λ p. (w.node (far (network_of g) v p)).head) (λ p. w.queue v p) b → BestBelow d b
    sub_below None x = tt
    sub_below (Some b) x = leads x.1
      where
        leads : LeadsTo g.keys (network_of g) v (w.node v) (λ p. (w.node (far (network_of g) v p)).head) (λ p. w.queue v p) b.0 b.1 → b.0 < d
        leads (Own at basic key) = at.port
        leads (By_child child sub) = child.at.port

    -- some key leaves below, so best is some
    sub_some : (b : Best) →
        BestIsSub g.keys (network_of g) v (w.node v) (λ p. (w.node (far (network_of g) v p)).head) (λ p. w.queue v p) b →
        (k : Key) → IsSubAt g.keys (w.node v).head.level v k → b ≢ None
    sub_some None x k y e = x y.root y.top k y.sub.is
    sub_some (Some b) x k y e = cc

    can_close : (w.node v).head.phase ≢ Sleeping → CanClose d (w.node v)
    can_close woke = record {
      ports = omega (arith, many);
      parent = parent_below (w.node v).head.parent (h.fits.nodes v net woke).parent;
      best = λ s. heard_below (w.node v).head.best ((h.fits.search v net).search s).best;
      low = low;
    }

  module _ (v p : ℕ) (at : At (network_of g) v p) where
    net : InNetwork (network_of g) v
    net = at_in at

    port_lt : p < degree (w.node v)
    port_lt = let m = many v net in let lt = at.port in omega (arith, m, lt)

    -- what is seen where this waits
    abbrev Waiting : List Message → Type 0
    Waiting q =
        Seen g.keys (side (network_of g) w v p) (side (network_of g) w (far (network_of g) v p) (far_port (network_of g) v p))
        (record { level = (port_at (w.node v) p).level; name = (port_at (w.node v) p).name }) (port_at (w.node v) p).owes q
        (w.queue (far (network_of g) v p) (far_port (network_of g) v p))

    -- A node that is awake.
    module _ (woke : (w.node v).head.phase ≢ Sleeping) where
      close : CanClose (d v net) (w.node v)
      close = can_close v net woke

      connect_goes : (l : ℕ) (q : List Message) → Waiting (Connect l ∷ q) → Goes (d v net) (connect (w.node v) p l)
      connect_goes l q s = ⊎_elim
          (λ e. connect_now_goes (d v net) (w.node v) p l close.ports e (λ t. out_low t))
          (λ late. connect_late_goes (d v net) (w.node v) p l at.port late.0 late.2 (search_is _ late.1))
          fits.finds
        where
          fits : ConnectFits g.keys l (side (network_of g) w v p) (side (network_of g) w (far (network_of g) v p) (far_port (network_of g) v p))
          fits = first_connect g.keys _ _ l (calls_in q) s.calls

          out_low : is_at (w.node v).head.out p ≡ true → suc (w.node v).head.level ≤ TOP_LEVEL
          out_low t =
              let out = s.connects.out (at_is (w.node v).head.out p t) in
              next_low g h.graph (w.node v).head.level v net (_, out.least.link, out.least.leaves)

      awake_goes : (m : Message) (q : List Message) → Waiting (m ∷ q) → Goes (d v net) (awake (w.node v) p m)
      awake_goes (Connect l) q s = connect_goes l q s
      awake_goes (Initiate l c) q s =
          let fits = first_initiate g.keys _ _ l c (calls_in q) s.calls in
          let next = next_low g h.graph (w.node v).head.level v net (called_out g.keys _ v c fits.core) in
          initiate_goes (d v net) (w.node v) p l c close.ports at.port (rest_is _ fits.rest) fits.level
          (subst (λ x. x ≤ TOP_LEVEL) (sym fits.level) next)
      awake_goes (Name l c) q s =
          name_goes (d v net) (w.node v) p l c close port_lt
          (next_name (w.node v) p l (name_follows g.keys _ _ _ l c q s.names) (name_near g.keys _ _ _ l c q s.names))
      awake_goes (Report k) q s =
          let fits = first_report g.keys _ _ k (calls_in q) s.calls in
          report_goes (d v net) (w.node v) p k close port_lt fits.search
          (owed_or_not (port_at (w.node v) p).owes
          (λ o. not_none _ ((s.owed.heard fits.search fits.mark fits.up o).heard fits.sender_level)))
      awake_goes ChangeRoot q s =
          let fits = first_pass g.keys _ _ (calls_in q) s.calls in
          let sub = (h.fits.search v net).rest fits.rest (has_level g.keys _ v _ fits.up) in
          change_root_goes (d v net) (w.node v) (w.node v).head.best close.ports close.low (sub_below v net (w.node v).head.best sub)
          (sub_some v net (w.node v).head.best sub fits.least.0 fits.least.2)

    -- A node that sleeps.
    module _ (asleep_yet : (w.node v).head.phase ≡ Sleeping) where
      sleeps : w.node v ≡ sleeper v ((network_of g).ports v)
      sleeps = h.fits.ground.untouched v asleep_yet

      ground_level : (w.node v).head.level ≡ 0
      ground_level = ap (λ (n : State). n.head.level) sleeps

      no_parent : (w.node v).head.parent ≡ None
      no_parent = ap (λ (n : State). n.head.parent) sleeps

      -- the node when it has woken and gone out
      abbrev out : State
      out = record (woken (w.node v)) { head = record (woken (w.node v)).head { out = Some 0 } }

      out_close : CanClose (d v net) out
      out_close = record {
        ports = let m = many v net in omega (arith, m);
        parent = subst (PortBelow (d v net)) (sym no_parent) tt;
        best = λ s. absurd (rest_is_search s);
        low = λ q a. one_low;
      }

      then_goes : (f : State → Option Outcome) → Goes (d v net) (f out) → Goes (d v net) (and_then (wakes (w.node v)) f)
      then_goes f x =
          let m = many v net in
          let lt = port_lt in
          woken_then_goes (d v net) (w.node v) f (omega (arith, lt)) (omega (arith, m)) x

      asleep_goes : (m : Message) (q : List Message) → Waiting (m ∷ q) → Goes (d v net) (asleep (w.node v) p m)
      asleep_goes (Connect l) q s =
          then_goes (λ x. connect x p l) (connect_now_goes (d v net) out p l out_close.ports l_zero (λ t. one_low))
        where
          fits : ConnectFits g.keys l (side (network_of g) w v p) (side (network_of g) w (far (network_of g) v p) (far_port (network_of g) v p))
          fits = first_connect g.keys _ _ l (calls_in q) s.calls

          l_zero : l ≡ 0
          l_zero = ⊎_elim (λ e. e ∙ ground_level) (λ late. absurd (asleep_no_search _ asleep_yet late.1)) fits.finds
      asleep_goes (Initiate l c) q s =
          absurd (asleep_no_rest (w.node v).head.phase asleep_yet (first_initiate g.keys _ _ l c (calls_in q) s.calls).rest)
      asleep_goes (Name l c) q s =
          then_goes (λ x. name x p l c)
          (name_goes (d v net) out p l c out_close port_lt
          (next_name out p l (name_follows g.keys _ _ _ l c q s.names)
          (λ b. let near = name_near g.keys _ _ _ l c q s.names b in let z = ground_level in omega (arith, near, z))))
      asleep_goes (Report k) q s =
          absurd (asleep_no_search (w.node v).head.phase asleep_yet (first_report g.keys _ _ k (calls_in q) s.calls).search)
      asleep_goes ChangeRoot q s =
          absurd (asleep_no_rest (w.node v).head.phase asleep_yet (first_pass g.keys _ _ (calls_in q) s.calls).rest)

    delivered_goes : (m : Message) (q : List Message) → Waiting (m ∷ q) → Goes (d v net) (reaction (w.node v) (Deliver p m))
    delivered_goes m q s = choose_goes (d v net) (nat_lt p (degree (w.node v))) _ _
        (λ t. by_sleep (w.node v).head.phase
        (λ is asleep_yet. choose_goes (d v net) (is_sleeping (w.node v).head.phase) _ _
        (λ a. asleep_goes asleep_yet m q s)
        (λ a. absurd (both_ways (is_sleeping (w.node v).head.phase) a is)))
        (λ is woke. choose_goes (d v net) (is_sleeping (w.node v).head.phase) _ _
        (λ a. absurd (both_ways (is_sleeping (w.node v).head.phase) is a))
        (λ a. awake_goes woke m q s)))
        (λ t. absurd (both_ways (nat_lt p (degree (w.node v))) t (lt-ltb p (degree (w.node v)) port_lt)))

  on_ports : (v : ℕ) (ss : Outgoing Message) → AreBelow (length ((network_of g).ports v)) ss → are_on_ports boruvka (network_of g) v ss ≡ true
  on_ports v [] b = refl
  on_ports v (s ∷ ss) b = and_from _ _ (lt-ltb s.0 _ b.0) (on_ports v ss b.1)

  goes_reacts : (v : ℕ) (x : Option Outcome) (y : Net State Message) → Goes (length ((network_of g).ports v)) x →
      IsSome (if_reacted boruvka (network_of g) v x y)
  goes_reacts v None y b = absurd b
  goes_reacts v (Some o) y b = rw (on_ports v o.sends b) refl

  take_rule : (v p : ℕ) → At (network_of g) v p → (q : List Message) → w.queue v p ≡ q → nat_lt 0 (length q) ≡ true →
      IsSome (takes_from boruvka (network_of g) w v p q)
  take_rule v p at [] e lt = let no : 0 < 0 = ltb-true 0 0 lt in absurd (omega (arith, no))
  take_rule v p at (m ∷ q) e lt =
      goes_reacts v (reaction (w.node v) (Deliver p m)) (take_first boruvka (network_of g) v p m q w)
      (delivered_goes v p at m q (subst (Waiting v p at) e (seen g w h v p at)))

  -- each lawful event has a rule
  pub lawful_has_rule : (e : Event) → is_lawful boruvka (network_of g) w e ≡ true → IsSome (effect boruvka (network_of g) w e)
  lawful_has_rule (events.Wake v) l =
      let b = and_parts _ _ l in
      let n = node_of (network_of g) v b.0 in
      let m = many v (record { some = n.0; node = n.1 }) in
      goes_reacts v (reaction (w.node v) Wake) w
      (choose_goes (length ((network_of g).ports v)) (is_sleeping (w.node v).head.phase) _ _
      (λ t. wakes_goes (length ((network_of g).ports v)) (w.node v) (omega (arith, m)))
      (λ t. absurd (both_ways (is_sleeping (w.node v).head.phase) t b.1)))
  lawful_has_rule (events.Take v p) l =
      let b = and_parts _ _ l in
      take_rule v p (at_of (network_of g) v p b.0) (w.queue v p) refl b.1
