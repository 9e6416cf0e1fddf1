-- Knocking keeps what a protocol promises. (What an impl has to prove of its members has to stand in specs/; no clause cites it.)
use Rattle.std.proofs.Common.{◌≡◌, ◌≢◌, ℕ, zero, suc, ◌+◌, ◌*◌, ◌≤◌, Bool, true, false, not, nat_lt, Option, Some, None, IsSome, List, [], ◌∷◌, ◌++◌, length, cond, refl, sym, ◌∙◌, ap, subst, ⊎_elim, arith, ltb-true, lt-ltb, length-append}
use Rattle.std.proofs.lemmas.Option.{same_Some}
use Rattle.std.proofs.lemmas.Bool.{and_parts, and_from, cases_eq, cases_Bool}
use Rattle.ghs_graph.specs.Ports.{ports_of}
use Rattle.peer_network.specs.declared.event.Event.{Event}
use Rattle.peer_network.specs.declared.event.Event.TheVariants as events
use Rattle.peer_network.specs.Network.{Network, network_of, is_port}
use Rattle.peer_network.specs.Sums.{sum_over_nodes}
use Rattle.peer_network.proofs.lemmas.Graphs.{twice_links}
use Rattle.peer_network.proofs.lemmas.Sums.{sum_one, sum_none, sum_most}
use Rattle.peer_network.proofs.lemmas.Updates.{put_same, put_other}
use Rattle.peer_machine.specs.declared.work.Work.TheVariants.{Wake, Deliver}
use Rattle.peer_machine.specs.Rules.{Rules, Outcome, Outgoing, HasKinds}
use Rattle.peer_machine.specs.Net.{Net, opening, put, is_lawful, are_on_ports, reacted, take_first, if_reacted, takes_from, effect}
use Rattle.peer_machine.specs.Run.{IsAfter}
use Rattle.peer_machine.specs.Ledger.{in_all}
use Rattle.peer_machine.specs.Protocol.{HasRules, IsBoundedBy, FitsGraphs}
use Rattle.peer_machine.specs.Steps.{Happens, Woke, Took}
use Rattle.peer_machine.proofs.lemmas.Counts.{sent_in_all}
use Rattle.peer_machine.proofs.lemmas.Runs.{run_keeps}
use Rattle.peer_machine.proofs.lemmas.Sends.{nodes_put}
use Rattle.peer_knock.specs.declared.node.Message.{Message}
use Rattle.peer_knock.specs.declared.node.Message.TheVariants.{Knock}
use Rattle.peer_knock.specs.declared.node.Node.{Node}
use Rattle.peer_knock.specs.Knock.{knocking, reaction, knocks}

pub knock_fits : FitsGraphs (λ g. 2 * length g.keys)
knock_fits g ok = let n = ok.links in omega (arith, n)

-- what a node has sent so far
abbrev spent : Node → ℕ
spent n = cond n.awake n.ports 0

all_knocked : (n : ℕ) → length (knocks n) ≡ n
all_knocked zero = refl
all_knocked (suc n) = omega (arith, length-append (knocks n) ((n, Knock) ∷ []), all_knocked n)

spent_few : (n : Node) → spent n ≤ n.ports
spent_few n = go n.awake
  where
    go : (b : Bool) → cond b n.ports 0 ≤ n.ports
    go true = omega arith
    go false = omega arith

module _ (patient : Bool) where
  abbrev rules : Rules Node Message
  rules = knocking patient

  pub knock_kinds : HasKinds rules
  knock_kinds m = omega arith

  module _ (g : Network) (v : ℕ) where
    on_both : (a b : Outgoing Message) → are_on_ports rules g v a ≡ true → are_on_ports rules g v b ≡ true →
        are_on_ports rules g v (a ++ b) ≡ true
    on_both [] b x y = y
    on_both (s ∷ a) b x y = let h = and_parts _ _ x in and_from _ _ h.0 (on_both a b h.1 y)

    knocks_on : (n : ℕ) → n ≤ length (g.ports v) → are_on_ports rules g v (knocks n) ≡ true
    knocks_on zero le = refl
    knocks_on (suc n) le = on_both (knocks n) _ (knocks_on n (omega arith)) (and_from _ _ (lt-ltb n _ (omega arith)) refl)

    -- what a reaction keeps at its node
    record Keeps (n : Node) (o : Outcome Node Message) : Type 0 where
      pub ports : o.state.ports ≡ n.ports
      pub sends : are_on_ports rules g v o.sends ≡ true
      pub spends : spent o.state ≡ spent n + length o.sends

    abbrev woken : Node → Outcome Node Message
    woken n = record { state = record n { awake = true }; sends = knocks n.ports }

    woken_is : (n : Node) → n.awake ≡ false → reaction n Wake ≡ Some (woken n)
    woken_is n a = rw a refl

    woken_keeps : (n : Node) → n.ports ≡ length (g.ports v) → n.awake ≡ false → Keeps n (woken n)
    woken_keeps n e a = record {
      ports = refl;
      sends = knocks_on n.ports (omega (arith, e));
      spends = let z : ◌≡◌ {A = ℕ} (cond n.awake n.ports 0) 0 = rw a refl in omega (arith, z, all_knocked n.ports);
    }

    woke_keeps : (n : Node) (o : Outcome Node Message) → n.ports ≡ length (g.ports v) → reaction n Wake ≡ Some o → Keeps n o
    woke_keeps n o e h = go n.awake refl h
      where
        go : (b : Bool) → n.awake ≡ b → cond b None (Some (woken n)) ≡ Some o → Keeps n o
        go true a z = cc
        go false a z = subst (Keeps n) (same_Some _ _ z) (woken_keeps n e a)

    told_keeps : (n : Node) (p : ℕ) (m : Message) (o : Outcome Node Message) → reaction n (Deliver p m) ≡ Some o → Keeps n o
    told_keeps n p m o h = subst (Keeps n) (same_Some _ _ h) (record { ports = refl; sends = refl; spends = omega arith })

  -- What every net of a run keeps: each node has its ports, and together they have sent what was sent.
  record Whole (g : Network) (w : Net Node Message) : Type 0 where
    pub ports : (v : ℕ) → (w.node v).ports ≡ length (g.ports v)
    pub sent : in_all rules w.sent ≡ sum_over_nodes g (λ v. spent (w.node v))

  module _ (g : Network) where
    reacted_whole : (v : ℕ) (o : Outcome Node Message) (w : Net Node Message) → 1 ≤ v → v ≤ g.count → Whole g w → Keeps g v (w.node v) o →
        Whole g (reacted rules g v o w)
    reacted_whole v o w lo hi i k = record {
      ports = λ u. ⊎_elim
          (λ e. ap (λ (n : Node). n.ports) (here u e) ∙ k.ports ∙ i.ports v ∙ ap (λ y. length (g.ports y)) (sym e))
          (λ ne. ap (λ (n : Node). n.ports) (there u ne) ∙ i.ports u) (cases_eq u v);
      sent = total v lo hi k ∙ ap (λ (f : ℕ → Node). sum_over_nodes g (λ x. spent (f x))) (sym (nodes_put rules g v o w));
    }
      where
        now : (u : ℕ) → (reacted rules g v o w).node u ≡ put w.node v o.state u
        now u = ap (λ (f : ℕ → Node). f u) (nodes_put rules g v o w)

        here : (u : ℕ) → u ≡ v → (reacted rules g v o w).node u ≡ o.state
        here u e = now u ∙ rw e (put_same w.node v o.state)

        there : (u : ℕ) → u ≢ v → (reacted rules g v o w).node u ≡ w.node u
        there u ne = now u ∙ put_other w.node v u o.state ne

        total : (u : ℕ) → 1 ≤ u → u ≤ g.count → Keeps g u (w.node u) o →
            in_all rules (reacted rules g u o w).sent ≡ sum_over_nodes g (λ x. spent (put w.node u o.state x))
        total zero lo hi k = absurd (omega (arith, lo))
        total (suc j) lo hi k =
            let s =
            sum_one g.count j (λ x. spent (w.node (suc x))) (λ x. spent (put w.node (suc j) o.state (suc x))) (omega (arith, hi))
            (λ x ne. ap spent (sym (put_other w.node (suc j) (suc x) o.state (λ z. ne (omega (arith, z)))))) in
            let here = ap spent (put_same w.node (suc j) o.state) in
            let sent = sent_in_all rules g knock_kinds (suc j) o w in
            omega (arith, s, here, sent, i.sent, k.spends)

    event_whole : (w w' : Net Node Message) (e : Event) → Whole g w → Happens rules g w e w' → Whole g w'
    event_whole w _ _ i (Woke v o lo hi s e t) = reacted_whole v o w lo hi i (woke_keeps g v (w.node v) o (i.ports v) e)
    event_whole w _ _ i (Took v p m ms o at q e t) =
        reacted_whole v o (take_first rules g v p m ms w) at.some at.node (record { ports = i.ports; sent = i.sent })
        (told_keeps g v (w.node v) p m o e)

    after_whole : (es : List Event) (w : Net Node Message) → IsAfter rules g es w → Whole g w
    after_whole es w h =
        run_keeps rules g (Whole g) event_whole es (opening rules g) w
        (record { ports = λ v. refl; sent = sum_none 1 (λ k. 0) (λ k lt. refl) ∙ sym (sum_none g.count (λ i. 0) (λ i lt. refl)) }) h

    some_effect : (v : ℕ) (x : Option (Outcome Node Message)) (w : Net Node Message) (o : Outcome Node Message) → x ≡ Some o →
        are_on_ports rules g v o.sends ≡ true → IsSome (if_reacted rules g v x w)
    some_effect v x w o h t = rw (h, t) refl

    sleeps : (n : Node) → rules.is_asleep n ≡ true → n.awake ≡ false
    sleeps n h = ⊎_elim (λ (z : n.awake ≡ true). let y = ap not z in cc) (λ z. z) (cases_Bool n.awake)

    lawful_some : (w : Net Node Message) → Whole g w → (e : Event) → is_lawful rules g w e ≡ true → IsSome (effect rules g w e)
    lawful_some w i (events.Wake v) h =
        let n = w.node v in
        let a = sleeps n (and_parts _ _ h).1 in
        some_effect v (reaction n Wake) w (woken g v n) (woken_is g v n a) (woken_keeps g v n (i.ports v) a).sends
    lawful_some w i (events.Take v p) h = go (w.queue v p) (and_parts (is_port g v p) (nat_lt 0 (length (w.queue v p))) h).1
      where
        go : (q : List Message) → nat_lt 0 (length q) ≡ true → IsSome (takes_from rules g w v p q)
        go [] z = absurd (let y = ltb-true 0 0 z in omega (arith, y))
        go (m ∷ ms) z = refl

  pub knock_rules : HasRules rules
  knock_rules g w is e h = lawful_some (network_of g) w (after_whole (network_of g) is.events w is.run) e h

  pub knock_bound : IsBoundedBy rules (λ g. 2 * length g.keys)
  knock_bound g w is =
      let i = after_whole (network_of g) is.events w is.run in
      let each = sum_most g.nodes (λ x. spent (w.node (suc x))) (λ x. length (ports_of g.keys (suc x)))
      (λ x lt. let e = i.ports (suc x) in let f = spent_few (w.node (suc x)) in omega (arith, e, f)) in
      omega (arith, i.sent, each, twice_links g is.graph)
