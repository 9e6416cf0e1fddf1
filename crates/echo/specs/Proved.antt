-- The echo wave keeps what a protocol promises. (What an impl has to prove of its members has to stand in specs/; no clause cites it.)
use Rattle.std.proofs.Common.{◌≡◌, ◌≢◌, ℕ, zero, suc, ◌+◌, ◌-◌, ◌*◌, ◌<◌, ◌≤◌, ◌==◌, Bool, true, false, not, nat_lt, Option, Some, None, IsSome, List, [], ◌∷◌, ◌++◌, length, cond, refl, sym, ◌∙◌, ap, subst, ⊎_elim, arith, ltb-true, lt-ltb, length-append, eq-eqb, ne_eqb}
use Rattle.std.proofs.lemmas.Option.{same_Some}
use Rattle.std.proofs.lemmas.Bool.{and_parts, and_from, cases_eq, cases_Bool}
use Rattle.ghs_graph.specs.Ports.{ports_of}
use Rattle.peer_network.specs.declared.event.Event.{Event}
use Rattle.peer_network.specs.declared.event.Event.TheVariants as events
use Rattle.peer_network.specs.Network.{Network, network_of, is_port}
use Rattle.peer_network.specs.Sums.{sum_over_nodes}
use Rattle.peer_network.proofs.lemmas.Events.{at_of}
use Rattle.peer_network.proofs.lemmas.Graphs.{twice_links}
use Rattle.peer_network.proofs.lemmas.Sums.{sum_one, sum_none, sum_most}
use Rattle.peer_network.proofs.lemmas.Updates.{put_same, put_other}
use Rattle.peer_machine.specs.declared.work.Work.TheVariants.{Wake, Deliver}
use Rattle.peer_machine.specs.Rules.{Outcome, Outgoing, HasKinds}
use Rattle.peer_machine.specs.Net.{Net, opening, put, is_lawful, are_on_ports, reacted, take_first, if_reacted, takes_from, effect}
use Rattle.peer_machine.specs.Run.{IsAfter}
use Rattle.peer_machine.specs.Ledger.{in_all}
use Rattle.peer_machine.specs.Protocol.{HasRules, IsBoundedBy, FitsGraphs}
use Rattle.peer_machine.specs.Steps.{Happens, Woke, Took}
use Rattle.peer_machine.proofs.lemmas.Counts.{sent_in_all}
use Rattle.peer_machine.proofs.lemmas.Runs.{run_keeps}
use Rattle.peer_machine.proofs.lemmas.Sends.{nodes_put}
use Rattle.echo.specs.declared.node.Message.{Message}
use Rattle.echo.specs.declared.node.Message.TheVariants.{Explore, Echo}
use Rattle.echo.specs.declared.node.Node.{Node}
use Rattle.echo.specs.Echo.{echo, reaction, joined, answered, explores, echoes, is_left_out}

pub echo_kinds : HasKinds echo
echo_kinds Explore = omega arith
echo_kinds Echo = omega arith

pub echo_fits : FitsGraphs (λ g. 2 * length g.keys)
echo_fits g ok = let n = ok.links in omega (arith, n)

-- the parent is a port
abbrev pub ParentFits : ℕ → Option ℕ → Type 0
ParentFits ports parent = (q : ℕ) → parent ≡ Some q → q < ports

-- what a node has sent so far
abbrev pub spent_if : Bool → ℕ → Option ℕ → ℕ → ℕ
spent_if b ports parent awaits = cond b (length (explores ports parent) + length (echoes awaits parent)) 0

abbrev pub spent : Node → ℕ
spent n = spent_if n.head.awake n.ports n.head.parent n.head.awaits

-- messages that go out on ports
module _ (g : Network) (v : ℕ) where
  on_both : (a b : Outgoing Message) → are_on_ports echo g v a ≡ true → are_on_ports echo g v b ≡ true → are_on_ports echo g v (a ++ b) ≡ true
  on_both [] b x y = y
  on_both (s ∷ a) b x y = let h = and_parts _ _ x in and_from _ _ h.0 (on_both a b h.1 y)

  one_on : (q : ℕ) (m : Message) → q < length (g.ports v) → are_on_ports echo g v ((q, m) ∷ []) ≡ true
  one_on q m lt = and_from _ _ (lt-ltb q _ lt) refl

  explores_on : (n : ℕ) (out : Option ℕ) → n ≤ length (g.ports v) → are_on_ports echo g v (explores n out) ≡ true
  explores_on zero out le = refl
  explores_on (suc n) out le = on_both (explores n out) _ (explores_on n out (omega arith)) (last (is_left_out out n))
    where
      last : (b : Bool) → are_on_ports echo g v (cond b [] ((n, Explore) ∷ [])) ≡ true
      last true = refl
      last false = one_on n Explore (omega arith)

  echoes_on : (awaits : ℕ) (parent : Option ℕ) → ParentFits (length (g.ports v)) parent → are_on_ports echo g v (echoes awaits parent) ≡ true
  echoes_on zero None fits = refl
  echoes_on zero (Some q) fits = one_on q Echo (fits q refl)
  echoes_on (suc k) parent fits = refl

  -- what a reaction keeps at its node
  record Keeps (n : Node) (o : Outcome Node Message) : Type 0 where
    pub ports : o.state.ports ≡ n.ports
    pub parent : ParentFits o.state.ports o.state.head.parent
    pub sends : are_on_ports echo g v o.sends ≡ true
    pub spends : spent o.state ≡ spent n + length o.sends

  joined_keeps : (n : Node) (parent : Option ℕ) (awaits : ℕ) → n.ports ≡ length (g.ports v) → n.head.awake ≡ false → ParentFits n.ports parent →
      Keeps n (joined n parent awaits)
  joined_keeps n parent awaits e a fits = record {
    ports = refl;
    parent = fits;
    sends = on_both (explores n.ports parent) (echoes awaits parent) (explores_on n.ports parent (omega (arith, e)))
        (echoes_on awaits parent (subst (λ x. ParentFits x parent) e fits));
    spends =
        let z = ap (λ b. spent_if b n.ports n.head.parent n.head.awaits) a in
        omega (arith, z, length-append (explores n.ports parent) (echoes awaits parent));
  }

  answered_keeps : (n : Node) (k : ℕ) → n.ports ≡ length (g.ports v) → n.head.awake ≡ true → n.head.awaits ≡ k → ParentFits n.ports n.head.parent →
      Keeps n (answered n k)
  answered_keeps n zero e a w fits = record { ports = refl; parent = fits; sends = refl; spends = omega arith }
  answered_keeps n (suc k) e a w fits = record {
    ports = refl;
    parent = fits;
    sends = echoes_on k n.head.parent (subst (λ x. ParentFits x n.head.parent) e fits);
    spends =
        let z = ap (λ b. spent_if b n.ports n.head.parent n.head.awaits) a in
        let y = ap (λ x. spent_if true n.ports n.head.parent x) w in
        let x = ap (λ b. spent_if b n.ports n.head.parent k) a in
        omega (arith, z, y, x);
  }

  -- a reaction, and what it keeps
  module _ (n : Node) (e : n.ports ≡ length (g.ports v)) (fits : ParentFits n.ports n.head.parent) where
    first_fits : (p : ℕ) → p < n.ports → ParentFits n.ports (Some p)
    first_fits p lt q h = let z = same_Some _ _ h in omega (arith, z, lt)

    none_fits : ParentFits n.ports None
    none_fits q h = cc

    heard_keeps : (p : ℕ) → p < n.ports → (b : Bool) → n.head.awake ≡ b →
        Keeps n (cond b (answered n n.head.awaits) (joined n (Some p) (n.ports - 1)))
    heard_keeps p lt true a = answered_keeps n n.head.awaits e a refl fits
    heard_keeps p lt false a = joined_keeps n (Some p) (n.ports - 1) e a (first_fits p lt)

    woken : n.head.awake ≡ false → reaction n Wake ≡ Some (joined n None n.ports)
    woken a = rw a refl

    told : (p : ℕ) (m : Message) → p < n.ports →
        reaction n (Deliver p m) ≡ Some (cond n.head.awake (answered n n.head.awaits) (joined n (Some p) (n.ports - 1)))
    told p m lt = rw (lt-ltb p n.ports lt) refl

    woken_keeps : (o : Outcome Node Message) → reaction n Wake ≡ Some o → Keeps n o
    woken_keeps o h = go n.head.awake refl h
      where
        go : (b : Bool) → n.head.awake ≡ b → cond b None (Some (joined n None n.ports)) ≡ Some o → Keeps n o
        go true a z = cc
        go false a z = subst (Keeps n) (same_Some _ _ z) (joined_keeps n None n.ports e a none_fits)

    told_keeps : (p : ℕ) (m : Message) (o : Outcome Node Message) → p < n.ports → reaction n (Deliver p m) ≡ Some o → Keeps n o
    told_keeps p m o lt h =
        subst (Keeps n) (same_Some _ _ (sym (told p m lt) ∙ h)) (heard_keeps p lt n.head.awake refl)

-- What every net of a run keeps: each node has its ports and a parent among them, and together they have sent what was sent.
pub record Whole (g : Network) (w : Net Node Message) : Type 0 where
  pub ports : (v : ℕ) → (w.node v).ports ≡ length (g.ports v)
  pub parents : (v : ℕ) → ParentFits (w.node v).ports (w.node v).head.parent
  pub sent : in_all echo w.sent ≡ sum_over_nodes g (λ v. spent (w.node v))

module _ (g : Network) where
  reacted_whole : (v : ℕ) (o : Outcome Node Message) (w : Net Node Message) → 1 ≤ v → v ≤ g.count → Whole g w → Keeps g v (w.node v) o →
      Whole g (reacted echo g v o w)
  reacted_whole v o w lo hi i k = record {
    ports = λ u. ⊎_elim
        (λ e. ap (λ (n : Node). n.ports) (here u e) ∙ k.ports ∙ i.ports v ∙ ap (λ y. length (g.ports y)) (sym e))
        (λ ne. ap (λ (n : Node). n.ports) (there u ne) ∙ i.ports u) (cases_eq u v);
    parents = λ u. ⊎_elim
        (λ e. subst (λ (n : Node). ParentFits n.ports n.head.parent) (sym (here u e)) k.parent)
        (λ ne. subst (λ (n : Node). ParentFits n.ports n.head.parent) (sym (there u ne)) (i.parents u)) (cases_eq u v);
    sent = total v lo hi k ∙ ap (λ (f : ℕ → Node). sum_over_nodes g (λ x. spent (f x))) (sym (nodes_put echo g v o w));
  }
    where
      now : (u : ℕ) → (reacted echo g v o w).node u ≡ put w.node v o.state u
      now u = ap (λ (f : ℕ → Node). f u) (nodes_put echo g v o w)

      here : (u : ℕ) → u ≡ v → (reacted echo g v o w).node u ≡ o.state
      here u e = now u ∙ rw e (put_same w.node v o.state)

      there : (u : ℕ) → u ≢ v → (reacted echo g v o w).node u ≡ w.node u
      there u ne = now u ∙ put_other w.node v u o.state ne

      total : (u : ℕ) → 1 ≤ u → u ≤ g.count → Keeps g u (w.node u) o →
          in_all echo (reacted echo g u o w).sent ≡ sum_over_nodes g (λ x. spent (put w.node u o.state x))
      total zero lo hi k = absurd (omega (arith, lo))
      total (suc j) lo hi k =
          let s =
          sum_one g.count j (λ x. spent (w.node (suc x))) (λ x. spent (put w.node (suc j) o.state (suc x))) (omega (arith, hi))
          (λ x ne. ap spent (sym (put_other w.node (suc j) (suc x) o.state (λ z. ne (omega (arith, z)))))) in
          let here = ap spent (put_same w.node (suc j) o.state) in
          let sent = sent_in_all echo g echo_kinds (suc j) o w in
          omega (arith, s, here, sent, i.sent, k.spends)

  pub event_whole : (w w' : Net Node Message) (e : Event) → Whole g w → Happens echo g w e w' → Whole g w'
  event_whole w _ _ i (Woke v o lo hi s e t) =
      reacted_whole v o w lo hi i (woken_keeps g v (w.node v) (i.ports v) (i.parents v) o e)
  event_whole w _ _ i (Took v p m ms o at q e t) =
      reacted_whole v o (take_first echo g v p m ms w) at.some at.node (record { ports = i.ports; parents = i.parents; sent = i.sent })
      (told_keeps g v (w.node v) (i.ports v) (i.parents v) p m o (subst (λ x. p < x) (sym (i.ports v)) at.port) e)

  pub opening_whole : Whole g (opening echo g)
  opening_whole = record {
    ports = λ v. refl;
    parents = λ v q h. cc;
    sent = sum_none 2 (λ k. 0) (λ k lt. refl) ∙ sym (sum_none g.count (λ i. 0) (λ i lt. refl));
  }

  after_whole : (es : List Event) (w : Net Node Message) → IsAfter echo g es w → Whole g w
  after_whole es w h = run_keeps echo g (Whole g) event_whole es (opening echo g) w opening_whole h

  some_effect : (v : ℕ) (x : Option (Outcome Node Message)) (w : Net Node Message) (o : Outcome Node Message) → x ≡ Some o →
      are_on_ports echo g v o.sends ≡ true → IsSome (if_reacted echo g v x w)
  some_effect v x w o h t = rw (h, t) refl

  sleeps : (n : Node) → echo.is_asleep n ≡ true → n.head.awake ≡ false
  sleeps n h = ⊎_elim (λ (z : n.head.awake ≡ true). let y = ap not z in cc) (λ z. z) (cases_Bool n.head.awake)

  lawful_some : (w : Net Node Message) → Whole g w → (e : Event) → is_lawful echo g w e ≡ true → IsSome (effect echo g w e)
  lawful_some w i (events.Wake v) h =
      let n = w.node v in
      let a = sleeps n (and_parts _ _ h).1 in
      some_effect v (reaction n Wake) w (joined n None n.ports) (woken g v n (i.ports v) (i.parents v) a)
      (joined_keeps g v n None n.ports (i.ports v) a (none_fits g v n (i.ports v) (i.parents v))).sends
  lawful_some w i (events.Take v p) h = go (w.queue v p) (and_parts (is_port g v p) (nat_lt 0 (length (w.queue v p))) h).1
    where
      lt : p < (w.node v).ports
      lt = subst (λ x. p < x) (sym (i.ports v)) (at_of g v p (and_parts (is_port g v p) (nat_lt 0 (length (w.queue v p))) h).0).port

      go : (q : List Message) → nat_lt 0 (length q) ≡ true → IsSome (takes_from echo g w v p q)
      go [] z = absurd (let y = ltb-true 0 0 z in omega (arith, y))
      go (m ∷ ms) z =
          some_effect v (reaction (w.node v) (Deliver p m)) (take_first echo g v p m ms w)
          (cond (w.node v).head.awake (answered (w.node v) (w.node v).head.awaits) (joined (w.node v) (Some p) ((w.node v).ports - 1)))
          (told g v (w.node v) (i.ports v) (i.parents v) p m lt)
          (heard_keeps g v (w.node v) (i.ports v) (i.parents v) p lt (w.node v).head.awake refl).sends

pub echo_rules : HasRules echo
echo_rules g w is e h = lawful_some (network_of g) w (after_whole (network_of g) is.events w is.run) e h

-- a node sends one message on each of its ports at most
all_asked : (n : ℕ) → length (explores n None) ≡ n
all_asked zero = refl
all_asked (suc n) = omega (arith, length-append (explores n None) ((n, Explore) ∷ []), all_asked n)

abbrev pub one_out : Bool → ℕ → Outgoing Message
one_out b n = cond b [] ((n, Explore) ∷ [])

asked_more : (n q : ℕ) → length (explores (suc n) (Some q)) ≡ length (explores n (Some q)) + length (one_out (q == n) n)
asked_more n q = length-append (explores n (Some q)) (one_out (q == n) n)

asked_below : (n q : ℕ) → n ≤ q → length (explores n (Some q)) ≡ n
asked_below zero q le = refl
asked_below (suc n) q le =
    let one : length (one_out (q == n) n) ≡ 1 = rw (ne_eqb q n (λ e. omega (arith, e))) refl in
    omega (arith, asked_more n q, asked_below n q (omega arith), one)

others_asked : (n q : ℕ) → q < n → length (explores n (Some q)) + 1 ≡ n
others_asked zero q lt = absurd (omega (arith, lt))
others_asked (suc n) q lt = ⊎_elim here (there (λ l. others_asked n q l)) (cases_eq q n)
  where
    here : q ≡ n → length (explores (suc n) (Some q)) + 1 ≡ suc n
    here z =
        let none : length (one_out (q == n) n) ≡ 0 = rw (eq-eqb q n z) refl in
        omega (arith, asked_more n q, none, asked_below n q (omega arith))

    there : (q < n → length (explores n (Some q)) + 1 ≡ n) → q ≢ n → length (explores (suc n) (Some q)) + 1 ≡ suc n
    there ih ne =
        let l : q < n = omega (arith, lt, ne) in
        let one : length (one_out (q == n) n) ≡ 1 = rw (ne_eqb q n ne) refl in
        omega (arith, asked_more n q, one, ih l)

-- and on each one, once it awaits nothing
pub all_sent : (ports : ℕ) (parent : Option ℕ) → ParentFits ports parent → spent_if true ports parent 0 ≡ ports
all_sent ports None fits = omega (arith, all_asked ports)
all_sent ports (Some q) fits = omega (arith, others_asked ports q (fits q refl))

spent_few : (b : Bool) (ports : ℕ) (parent : Option ℕ) (awaits : ℕ) → ParentFits ports parent → spent_if b ports parent awaits ≤ ports
spent_few false ports parent awaits fits = omega arith
spent_few true ports None awaits fits = omega (arith, all_asked ports, none awaits)
  where
    none : (k : ℕ) → length (echoes k None) ≡ 0
    none zero = refl
    none (suc k) = refl
spent_few true ports (Some q) zero fits = omega (arith, others_asked ports q (fits q refl))
spent_few true ports (Some q) (suc k) fits = omega (arith, others_asked ports q (fits q refl))

pub echo_bound : IsBoundedBy echo (λ g. 2 * length g.keys)
echo_bound g w is =
    let i = after_whole (network_of g) is.events w is.run in
    let each = sum_most g.nodes (λ x. spent (w.node (suc x))) (λ x. length (ports_of g.keys (suc x)))
    (λ x lt. let n = w.node (suc x) in let e = i.ports (suc x) in
    let f = spent_few n.head.awake n.ports n.head.parent n.head.awaits (i.parents (suc x)) in omega (arith, e, f)) in
    omega (arith, i.sent, each, twice_links g is.graph)
