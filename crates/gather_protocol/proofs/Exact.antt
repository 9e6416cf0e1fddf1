-- What a run has sent at least: in its own wave a node sends a message on each port, but for what it owes. So where one node wakes, at the end
-- just 2E + N - 1.
use Rattle.std.proofs.Common.{◌≡◌, ◌≢◌, ℕ, zero, suc, ◌+◌, ◌-◌, ◌*◌, ◌<◌, ◌≤◌, ◌==◌, Bool, Option, Some, None, List, [], ◌∷◌, length, set, cond, refl, sym, ◌∙◌, ap, subst, ⊎_elim, arith}
use Rattle.std.specs.Prelude.{is_none}
use Rattle.std.specs.List.{All}
use Rattle.std.proofs.lemmas.Bool.{cases_eq, eqb-true}
use Rattle.std.proofs.lemmas.Option.{same_Some}
use Rattle.ghs_graph.specs.declared.key.Key.{Key}
use Rattle.peer_network.specs.declared.event.Event.{Event}
use Rattle.peer_network.specs.Events.{MayWake}
use Rattle.peer_network.specs.Network.{Network, network_of, InNetwork}
use Rattle.peer_network.specs.Sums.{sum_below, sum_over_nodes}
use Rattle.peer_network.proofs.lemmas.Graphs.{graph_wired, twice_links}
use Rattle.peer_network.proofs.lemmas.Sums.{sum_same, sum_none, sum_one, node_before}
use Rattle.peer_network.proofs.lemmas.Wired.{IsWired}
use Rattle.peer_machine.specs.Rules.{Outcome}
use Rattle.peer_machine.specs.Net.{Net, happens, opening, reacted, take_first}
use Rattle.peer_machine.specs.Run.{IsAfter, run}
use Rattle.peer_machine.specs.Ledger.{in_all}
use Rattle.peer_machine.specs.Steps.{Happens, Woke, Took}
use Rattle.peer_machine.proofs.lemmas.Balance.{after_balanced}
use Rattle.peer_machine.proofs.lemmas.Events.{happening}
use Rattle.peer_machine.proofs.lemmas.Runs.{both_some}
use Rattle.peer_machine.proofs.lemmas.Sends.{node_here, node_there, sent_now}
use Rattle.gather_node.specs.declared.message.Message.{Message}
use Rattle.gather_node.specs.Gather.{gather}
use Rattle.gather_node.specs.Reaction.{closed, due, explores, hears, in_wave, joins_wave, outcome, told}
use Rattle.gather_node.specs.State.{State, degree}
use Rattle.gather_protocol.specs.Laws.{OneSendsJust}
use Rattle.gather_protocol.proofs.Bound.{has_parent, one_sends}
use Rattle.gather_protocol.proofs.Cases.{degree_is}
use Rattle.gather_protocol.proofs.Done.{done_awaits}
use Rattle.gather_protocol.proofs.Events.{after_waves, event_waves, opening_waves, owed_once, owes_as}
use Rattle.gather_protocol.proofs.Pays.{back_owed, hears_pays, joins_pays, owed, owes, plain}
use Rattle.gather_protocol.proofs.Sends.{SameStand, closed_stand}
use Rattle.gather_protocol.proofs.TreeEvents.{after_trees, leads_done}
use Rattle.gather_protocol.proofs.Trees.{told_once}
use Rattle.gather_protocol.proofs.Turns.{by_turn, told_as, woke_as}
use Rattle.gather_protocol.proofs.Waves.{Waves}

-- so many messages a node sends in its wave
abbrev pub asks : State → ℕ
asks n = cond (is_none n.head.wave) 0 (degree n)

-- a reaction sends what is asked more, but for what is owed
abbrev Pays : State → Outcome State Message → Type 0
Pays n o = asks o.state + owes n ≤ asks n + plain o.sends + owes o.state

asks_as : (m n : State) → SameStand m n → asks m ≡ asks n
asks_as m n e =
    ap (λ x. cond (is_none x) 0 (degree m)) e.wave ∙ ap (λ (ks : List Key). cond (is_none n.head.wave) 0 (length ks)) e.keys

owes_once : (w parent : Option ℕ) (a : ℕ) → owed w parent a ≤ 1
owes_once None parent a = omega arith
owes_once (Some x) None a = omega arith
owes_once (Some x) (Some q) zero = omega arith
owes_once (Some x) (Some q) (suc k) = omega arith

joining_pays : (n : State) (x : ℕ) (par : Option ℕ) → ((q : ℕ) → par ≡ Some q → q < degree n) → owes n ≤ asks n → Pays n (joins_wave n x par)
joining_pays n x par fits le =
    let st = closed_stand (in_wave n x par) x (due (degree n) par) par (explores x (degree n) par) in
    let a = asks_as (joins_wave n x par).state (in_wave n x par) st in
    let b = owes_as (joins_wave n x par).state (in_wave n x par) st in
    let c = joins_pays n x par fits in
    omega (arith, a, b, c, le)

hearing_pays : (n : State) (x c : ℕ) (bs : List (Option (List Key))) → n.head.wave ≡ Some x → n.head.awaits ≡ c →
    Pays n (hears (record n { brought = bs }) x c)
hearing_pays n x zero bs e f = omega arith
hearing_pays n x (suc k) bs e f =
    let n' = record n { head = record n.head { awaits = k }; brought = bs } in
    let st = closed_stand n' x k n.head.parent [] in
    let a = asks_as (closed n' x k n.head.parent []).state n' st in
    let b = owes_as (closed n' x k n.head.parent []).state n' st in
    let c = hears_pays n' x k n.head.parent in
    let d : owes n' ≡ back_owed n.head.parent k = ap (λ w. owed w n.head.parent k) e in
    let h : owes n ≡ back_owed n.head.parent (suc k) = ap (λ w. owed w n.head.parent n.head.awaits) e ∙ ap (back_owed n.head.parent) f in
    let o = owed_once n.head.parent k in
    omega (arith, a, b, c, d, h, o)

asleep_asks : (n : State) → n.head.wave ≡ None → owes n ≡ 0
asleep_asks n e = ap (λ w. owed w n.head.parent n.head.awaits) e

-- who has a port asks on one at least, or sleeps
some_asked : (n : State) → 1 ≤ degree n → owes n ≤ asks n
some_asked n le = go n.head.wave
  where
    go : (w : Option ℕ) → owed w n.head.parent n.head.awaits ≤ cond (is_none w) 0 (degree n)
    go None = omega arith
    go (Some x) = let a = owes_once (Some x) n.head.parent n.head.awaits in omega (arith, a, le)

abbrev pub Asked : Network → Net State Message → Type 0
Asked g w = sum_over_nodes g (λ v. asks (w.node v)) ≤ w.sent 0 + w.sent 1 + sum_over_nodes g (λ v. owes (w.node v))

module _ (g : Network) (w w1 : Net State Message) (v : ℕ) (net : InNetwork g v) (o : Outcome State Message)
    (nodes : (u : ℕ) → w1.node u ≡ w.node u) (none : w1.sent 0 ≡ w.sent 0) (one : w1.sent 1 ≡ w.sent 1) where
  asked_turned : Pays (w.node v) o → Asked g w → Asked g (reacted gather g v o w1)
  asked_turned pays asked = let j = node_before v net.some in go j.0 j.1
    where
      go : (k : ℕ) → v ≡ suc k → Asked g (reacted gather g v o w1)
      go k e =
          let next = reacted gather g v o w1 in
          let lt : k < g.count = (let h = net.node in omega (arith, e, h)) in
          let here : next.node (suc k) ≡ o.state = ap (λ z. next.node z) (sym e) ∙ node_here gather g v o w1 in
          let away = λ (x : ℕ) (ne : x ≢ k). sym (node_there gather g v o w1 (suc x) (λ z. ne (omega (arith, z, e))) ∙ nodes (suc x)) in
          let a = sum_one g.count k (λ x. asks (w.node (suc x))) (λ x. asks (next.node (suc x))) lt (λ x ne. ap asks (away x ne)) in
          let b = sum_one g.count k (λ x. owes (w.node (suc x))) (λ x. owes (next.node (suc x))) lt (λ x ne. ap owes (away x ne)) in
          let a0 : asks (w.node v) ≡ asks (w.node (suc k)) = ap (λ z. asks (w.node z)) e in
          let a1 : asks (next.node (suc k)) ≡ asks o.state = ap asks here in
          let b0 : owes (w.node v) ≡ owes (w.node (suc k)) = ap (λ z. owes (w.node z)) e in
          let b1 : owes (next.node (suc k)) ≡ owes o.state = ap owes here in
          let s0 = sent_now gather g v o w1 0 in
          let s1 = sent_now gather g v o w1 1 in
          omega (arith, a, b, a0, a1, b0, b1, s0, s1, pays, asked, none, one)

module _ (g : Network) (may : ℕ → Bool) (wired : IsWired g) where
  event_asked : (w w' : Net State Message) (e : Event) → Waves g may w → Asked g w → Happens gather g w e w' → Asked g w'
  event_asked w _ _ i asked (Woke v o lo hi s h t) =
      let n = w.node v in
      let k = woke_as n o h in
      let z = asleep_asks n k.0 in
      asked_turned g w w v (record { some = lo; node = hi }) o (λ u. refl) refl refl
      (subst (Pays n) k.1
      (joining_pays n n.number None (λ q e. let c : ◌≡◌ {A = Option ℕ} None (Some q) = e in cc) (omega (arith, z)))) asked
  event_asked w _ _ i asked (Took v p m ms o at q h t) =
      let n = w.node v in
      let d = degree_is g v n (i.nodes v).fits in
      let l = at.port in
      asked_turned g w (take_first gather g v p m ms w) v (record { some = at.some; node = at.node }) o (λ u. refl) refl refl
      (by_turn (Pays n o) n p m o
      (λ x e c k.
      subst (Pays n) k
      (joining_pays n x (Some p) (λ q e. let z = same_Some p q e in omega (arith, z, d, l)) (some_asked n (omega (arith, d, l)))))
      (λ x e wave k. subst (Pays n) k (hearing_pays n x n.head.awaits n.brought wave refl))
      (λ x y e wave lt k. subst (Pays n) k (same n))
      (λ x ks e wave k. subst (Pays n) k (hearing_pays n x n.head.awaits (set n.brought p (Some ks)) wave refl))
      (λ x ks e away k. subst (Pays n) k (same n))
      (λ ks e k. subst (Pays n) k (learning n ks))
      (told_as n p m o h))
      asked
    where
      same : (n : State) → Pays n (outcome n [])
      same n = omega arith

      learning : (n : State) (ks : List Key) → Pays n (told n ks [])
      learning n ks = omega arith

  runs_asked : (es : List Event) (w w' : Net State Message) → All (MayWake may) es → Waves g may w → Asked g w → run gather g es w ≡ Some w' →
      Asked g w'
  runs_asked [] w w' allow i asked h = subst (Asked g) (same_Some _ _ h) asked
  runs_asked (e ∷ es) w w' allow i asked h =
      both_some gather (happens gather g w e) (λ x. run gather g es x) w' h
      (λ x a b.
      let k = happening gather g w x e a in
      runs_asked es x w' (λ k d lt. allow (suc k) d (omega (arith, lt))) (event_waves g may wired w x e i k (allow 0 e (omega arith)))
      (event_asked w x e i asked k) b)

  after_asked : (es : List Event) (w : Net State Message) → All (MayWake may) es → IsAfter gather g es w → Asked g w
  after_asked es w allow h =
      runs_asked es (opening gather g) w allow (opening_waves g may wired)
      (let z = sum_none g.count (λ k. 0) (λ k lt. refl) in omega (arith, z)) h

-- n numbers, of which all but one are 1 at least
all_but_one : (n j : ℕ) (f : ℕ → ℕ) → ((i : ℕ) → i < n → i ≢ j → 1 ≤ f i) → n ≤ suc (sum_below n f)
all_but_one zero j f h = omega arith
all_but_one (suc n) j f h = ⊎_elim
    (λ (e : n ≡ j). let a = each n f (λ i lt. h i (omega (arith, lt)) (λ z. omega (arith, z, lt, e))) in omega (arith, a))
    (λ ne. let a = all_but_one n j f (λ i lt z. h i (omega (arith, lt)) z) in let b = h n (omega arith) ne in omega (arith, a, b))
    (cases_eq n j)
  where
    each : (n : ℕ) (f : ℕ → ℕ) → ((i : ℕ) → i < n → 1 ≤ f i) → n ≤ sum_below n f
    each zero f h = omega arith
    each (suc n) f h = let a = each n f (λ i lt. h i (omega (arith, lt))) in let b = h n (omega arith) in omega (arith, a, b)

pub one_sends_just : OneSendsJust
one_sends_just g v es w ok net allow h ended = omega (arith, upper, waves, trees, links, none_owed, all_asked, some)
  where
    n : Network
    n = network_of g

    wired : IsWired (network_of g)
    wired = graph_wired g ok

    i : Waves (network_of g) (λ u. u == v) w
    i = after_waves (network_of g) (λ u. u == v) (graph_wired g ok) es w allow h

    upper : in_all gather w.sent ≤ 2 * length g.keys + (g.nodes - 1)
    upper = one_sends g v es w ok net allow h

    waves : Asked (network_of g) w
    waves = after_asked (network_of g) (λ u. u == v) (graph_wired g ok) es w allow h

    links : sum_over_nodes (network_of g) (λ u. length ((network_of g).ports u)) ≡ 2 * length g.keys
    links = twice_links g ok

    some : 1 ≤ g.nodes
    some = ok.some

    -- who has halted has a wave, in which it awaits nothing
    leader : (u : ℕ) → InNetwork (network_of g) u → (x : ℕ) × ((w.node u).head.wave ≡ Some x) × ((w.node u).head.awaits ≡ 0)
    leader u here =
        let t = after_trees (network_of g) (λ u. u == v) (graph_wired g ok) es w allow h in
        let l = t.leader u (ended.1 u here) in
        let j = ((i.nodes u).now l.0 l.1).joined in (
          l.0,
          l.1,
          done_awaits (network_of g) (λ u. u == v) (graph_wired g ok) w i u l.0
              (leads_done (network_of g) (λ u. u == v) (graph_wired g ok) w i t l.0 l.2) j,
        )

    node : (k : ℕ) → k < g.nodes → InNetwork (network_of g) (suc k)
    node k lt = record { some = omega arith; node = omega (arith, lt) }

    none_owed : sum_over_nodes (network_of g) (λ u. owes (w.node u)) ≡ 0
    none_owed =
        sum_none g.nodes (λ k. owes (w.node (suc k)))
        (λ k lt.
        let l = leader (suc k) (node k lt) in
        ap (λ a. owed (w.node (suc k)).head.wave (w.node (suc k)).head.parent a) l.2
        ∙ nothing (w.node (suc k)).head.wave (w.node (suc k)).head.parent)
      where
        nothing : (w parent : Option ℕ) → owed w parent 0 ≡ 0
        nothing None parent = refl
        nothing (Some x) None = refl
        nothing (Some x) (Some q) = refl

    all_asked : sum_over_nodes (network_of g) (λ u. asks (w.node u)) ≡ sum_over_nodes (network_of g) (λ u. length ((network_of g).ports u))
    all_asked =
        sum_same g.nodes (λ k. asks (w.node (suc k))) (λ k. length ((network_of g).ports (suc k)))
        (λ k lt.
        let l = leader (suc k) (node k lt) in
        ap (λ x. cond (is_none x) 0 (degree (w.node (suc k)))) l.1 ∙ degree_is (network_of g) (suc k) (w.node (suc k)) (i.nodes (suc k)).fits)

    -- only the node that woke has no parent
    parent : (k : ℕ) → k < g.nodes → suc k ≢ v → (o : Option ℕ) → (w.node (suc k)).head.parent ≡ o → 1 ≤ cond (is_none o) 0 1
    parent k lt ne (Some p) e = omega arith
    parent k lt ne None e =
        let l = leader (suc k) (node k lt) in
        let now = (i.nodes (suc k)).now l.0 l.1 in
        let first = i.led.first (suc k) l.0 now.joined (now.parent ∙ e) in
        let begun = i.allowed l.0 (i.led.root (suc k) l.0 now.joined) in
        absurd (ne (first ∙ eqb-true l.0 v begun))

    trees : g.nodes ≤ suc (w.sent 2)
    trees =
        let t = after_trees (network_of g) (λ u. u == v) (graph_wired g ok) es w allow h in
        let j = node_before v net.some in
        let a =
        all_but_one g.nodes j.0 (λ k. has_parent (w.node (suc k)))
        (λ k lt ne.
        parent k lt (λ z. ne (let e = j.1 in omega (arith, z, e))) (w.node (suc k)).head.parent refl) in
        let b =
        sum_same g.nodes (λ k. told_once (w.node (suc k))) (λ k. has_parent (w.node (suc k)))
        (λ k lt. ap (λ (c : Bool). cond c (has_parent (w.node (suc k))) 0) (ended.1 (suc k) (node k lt))) in
        let c = after_balanced gather (network_of g) (graph_wired g ok) es w h 2 in
        let d = t.consumed in
        omega (arith, a, b, c, d)
