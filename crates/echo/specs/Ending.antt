-- The laws of Ends, with their proofs. Nothing here has to be believed.
use Rattle.std.proofs.Common.{◌≡◌, ◌≢◌, ℕ, zero, suc, ◌+◌, ◌*◌, ◌<◌, ◌≤◌, Bool, true, false, not, Option, Some, None, List, [], ◌∷◌, ◌++◌, length, cond, refl, sym, ◌∙◌, ap, subst, ⊎_elim, arith}
use Rattle.std.specs.List.{Contains}
use Rattle.std.proofs.lemmas.Bool.{cases_eq, cases_Bool, true≢false}
use Rattle.std.proofs.lemmas.List.{nil_from_length}
use Rattle.std.proofs.lemmas.Option.{slice_get_within, get_or_from_slice_get}
use Rattle.ghs_graph.specs.declared.key.Key.{Key}
use Rattle.ghs_graph.specs.declared.port.Port.{Port}
use Rattle.ghs_graph.specs.Graph.{Shape, IsGraph}
use Rattle.ghs_graph.specs.Links.{Joined, Same, Over, Back, links}
use Rattle.ghs_graph.specs.Ports.{port_number, ports_of, no_port}
use Rattle.ghs_graph.proofs.lemmas.Ports.{links_have_two_ports, far_end_a, far_end_b}
use Rattle.peer_network.specs.Network.{Network, network_of, InNetwork, At, far, far_port}
use Rattle.peer_network.proofs.lemmas.Graphs.{graph_wired, link_among}
use Rattle.peer_machine.specs.Rules.{NeverDefers}
use Rattle.peer_machine.specs.Net.{Net, event_node, take_first}
use Rattle.peer_machine.specs.Run.{IsNetOf}
use Rattle.peer_machine.specs.Ends.{AllAwake, IsSilent, SilenceIsEnd, SilenceWakesAll}
use Rattle.peer_machine.specs.Protocol.{StaysAwake}
use Rattle.peer_machine.specs.Steps.{Happens, Woke, Took}
use Rattle.peer_machine.proofs.lemmas.Sends.{node_here}
use Rattle.echo.specs.declared.node.Message.{Message}
use Rattle.echo.specs.declared.node.Node.{Node}
use Rattle.echo.specs.Echo.{echo}
use Rattle.echo.specs.Ended.{HasEnded}
use Rattle.echo.specs.Waves.{Wave, after_wave, none_waits, left, left_if, on_port, sent_by, sent_if, not_sent, some_zero, all_zero, woke_adds, told_adds}

pub defers_never : NeverDefers echo
defers_never n k = refl

awake_of : (n : Node) → echo.is_asleep n ≡ false → n.head.awake ≡ true
awake_of n h = ⊎_elim (λ a. a) (λ a. absurd (true≢false (ap not (sym a) ∙ h))) (cases_Bool n.head.awake)

asleep_not : (n : Node) → n.head.awake ≡ true → echo.is_asleep n ≡ false
asleep_not n a = ap not a

pub awake_stays : StaysAwake echo
awake_stays g w _ _ is (Woke v o lo hi s h t) =
    ap (λ (n : Node). echo.is_asleep n) (node_here echo (network_of g) v o w) ∙ asleep_not o.state (woke_adds (w.node v) o h).awake
awake_stays g w _ _ is (Took v p m ms o at q h t) =
    ap (λ (n : Node). echo.is_asleep n) (node_here echo (network_of g) v o (take_first echo (network_of g) v p m ms w))
    ∙ asleep_not o.state (told_adds (w.node v) p m o h).awake

pub wave_of : (g : Shape) (w : Net Node Message) → IsNetOf echo g w → Wave (network_of g) w
wave_of g w is = after_wave (network_of g) (graph_wired g is.graph) is.events w is.run

module _ (g : Shape) (w : Net Node Message) (is : IsNetOf echo g w) where
  left_awake : (v : ℕ) → (w.node v).head.awake ≡ true → left (w.node v) ≡ (w.node v).head.awaits
  left_awake v a = ap (λ b. left_if b (w.node v).head.awaits (w.node v).ports) a

  -- who is awake and has sent nothing over a port has its parent there, and awaits an answer
  untold : (u i : ℕ) → At (network_of g) u i → (w.node u).head.awake ≡ true → on_port i (sent_by (w.node u)) ≡ 0 →
      ((w.node u).head.parent ≡ Some i) × (1 ≤ (w.node u).head.awaits)
  untold u i at a e =
      let n = w.node u in
      not_sent i n.ports n.head.awaits n.head.parent (subst (λ x. i < x) (sym ((wave_of g w is).whole.ports u)) at.port)
      (ap (λ b. on_port i (sent_if b n.ports n.head.parent n.head.awaits)) (sym a) ∙ e)

  module _ (silent : IsSilent (network_of g) w) where
    -- what has not been heard at a port was not sent
    unsent : (i : Wave (network_of g) w) (v p : ℕ) → At (network_of g) v p → i.links.heard v p ≡ 0 →
        on_port (far_port (network_of g) v p) (sent_by (w.node (far (network_of g) v p))) ≡ 0
    unsent i v p at z = let a = i.links.over v p at in let b = ap length (silent v p at) in omega (arith, a, b, z)

    -- a neighbour of a node that is awake is awake
    next_awake : (u i : ℕ) → At (network_of g) u i → (w.node u).head.awake ≡ true → (w.node (far (network_of g) u i)).head.awake ≡ true
    next_awake u i at a = ⊎_elim (λ y. y) asleep (cases_Bool (w.node (far (network_of g) u i)).head.awake)
      where
        asleep : (w.node (far (network_of g) u i)).head.awake ≡ false → (w.node (far (network_of g) u i)).head.awake ≡ true
        asleep s =
            let z = wave_of g w is in
            let v = far (network_of g) u i in
            let p = far_port (network_of g) u i in
            let there = (graph_wired g is.graph).there u i at in
            let rest = z.links.rest v (record { some = there.some; node = there.node }) in
            let all = ap (λ b. left_if b (w.node v).head.awaits (w.node v).ports) s in
            let ports = z.whole.ports v in
            let none = all_zero (length ((network_of g).ports v)) p (z.links.heard v) there.port (omega (arith, rest, all, ports)) in
            let sent = unsent z v p there none in
            let here : on_port i (sent_by (w.node u)) ≡ 0 =
            ap (λ x. on_port x (sent_by (w.node u))) (sym ((graph_wired g is.graph).back_port u i at))
            ∙ ap (λ x. on_port (far_port (network_of g) v p) (sent_by (w.node x))) (sym ((graph_wired g is.graph).back u i at))
            ∙ sent in
            (z.parents.up u i (untold u i at a here).0).0

    over_a : (k : Key) → Contains g.keys k → (w.node k.a).head.awake ≡ true → (w.node k.b).head.awake ≡ true
    over_a k h a =
        let two = links_have_two_ports g is.graph k h in
        let z = link_among g is.graph k h in
        let i = port_number g.keys k.a k in
        let at : At (network_of g) k.a i =
        record {
          some = z.0;
          node = (let x = z.1 in let y = z.2 in omega (arith, x, y));
          port = slice_get_within
              (ports_of g.keys k.a) i _ two.at_a;
        } in
        let to : far (network_of g) k.a i ≡ k.b =
        ap (λ (p : Port). p.far) (get_or_from_slice_get (ports_of g.keys k.a) i _ no_port two.at_a) ∙ far_end_a k in
        subst (λ x. (w.node x).head.awake ≡ true) to (next_awake k.a i at a)

    over_b : (k : Key) → Contains g.keys k → (w.node k.b).head.awake ≡ true → (w.node k.a).head.awake ≡ true
    over_b k h a =
        let two = links_have_two_ports g is.graph k h in
        let z = link_among g is.graph k h in
        let i = port_number g.keys k.b k in
        let at : At (network_of g) k.b i =
        record {
          some = (let x = z.0 in let y = z.1 in omega (arith, x, y));
          node = z.2;
          port = slice_get_within
              (ports_of g.keys k.b) i _ two.at_b;
        } in
        let to : far (network_of g) k.b i ≡ k.a =
        ap (λ (p : Port). p.far) (get_or_from_slice_get (ports_of g.keys k.b) i _ no_port two.at_b) ∙ far_end_b k z.1 in
        subst (λ x. (w.node x).head.awake ≡ true) to (next_awake k.b i at a)

    spreads : {u v : ℕ} → Joined (links g.keys) u v → (w.node u).head.awake ≡ true → (w.node v).head.awake ≡ true
    spreads Same a = a
    spreads (Over k s way) a = spreads way (over_a k s a)
    spreads (Back k s way) a = spreads way (over_b k s a)

    -- where besides all are awake, nobody awaits an answer: one that did would have a child that does, and so on
    drained : ((v : ℕ) → InNetwork (network_of g) v → (w.node v).head.awake ≡ true) → (i : Wave (network_of g) w) → (d v : ℕ) →
        InNetwork (network_of g) v → i.parents.top ≤ i.parents.rank v + d → (w.node v).head.awaits ≡ 0
    drained up i zero v net le = absurd (let b = i.parents.below v (up v net) in omega (arith, b))
    drained up i (suc d) v net le = ⊎_elim (λ z. z) (λ ne. absurd (some (λ u net' l. drained up i d u net' l) ne)) (cases_eq (w.node v).head.awaits 0)
      where
        some : ((u : ℕ) → InNetwork (network_of g) u → i.parents.top ≤ i.parents.rank u + d → (w.node u).head.awaits ≡ 0) →
            (w.node v).head.awaits ≢ 0 → ⊥
        some ih ne =
            let rest = i.links.rest v net in
            let awaits = left_awake v (up v net) in
            let z = some_zero (length ((network_of g).ports v)) (i.links.heard v) (omega (arith, rest, awaits, ne)) in
            let p = z.0 in
            let at : At (network_of g) v p = record { some = net.some; node = net.node; port = z.1 } in
            let u = far (network_of g) v p in
            let there = (graph_wired g is.graph).there v p at in
            let net' : InNetwork (network_of g) u = record { some = there.some; node = there.node } in
            let child = untold u (far_port (network_of g) v p) there (up u net') (unsent i v p at z.2) in
            let rank = (i.parents.up u (far_port (network_of g) v p) child.0).1 in
            let back : i.parents.rank (far (network_of g) u (far_port (network_of g) v p)) ≡ i.parents.rank v =
            ap i.parents.rank ((graph_wired g is.graph).back v p at) in
            let none = ih u net' (omega (arith, le, rank, back)) in
            let more = child.1 in
            omega (arith, none, more)

  end_is_silent : HasEnded g w → IsSilent (network_of g) w
  end_is_silent ended v p at =
      let e = ended v (record { some = at.some; node = at.node }) in
      nil_from_length (w.queue v p)
      (none_waits (network_of g) (graph_wired g is.graph) w (wave_of g w is) v p at (left_awake v e.0 ∙ e.1))

  quiet_is_end : IsSilent (network_of g) w → AllAwake echo (network_of g) w → HasEnded g w
  quiet_is_end silent awake v net =
      let up = λ (u : ℕ) (here : InNetwork (network_of g) u). awake_of (w.node u) (awake u here) in
      let i = wave_of g w is in
      (up v net, drained silent up i i.parents.top v net (omega arith))

pub all_woken : SilenceWakesAll echo
all_woken g w is silent u v here there way awake =
    asleep_not (w.node v) (spreads g w is silent way (awake_of (w.node u) awake))

pub silence_ends : SilenceIsEnd echo HasEnded
silence_ends g w is = (
  λ ended. (end_is_silent g w is ended, λ v net. asleep_not (w.node v) (ended v net).0),
  λ quiet. quiet_is_end g w is quiet.0 quiet.1,
)
