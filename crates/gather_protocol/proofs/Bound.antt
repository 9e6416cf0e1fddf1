-- How many messages a run sends at most.
use Rattle.std.proofs.Common.{◌≡◌, ◌≢◌, ℕ, zero, suc, ◌+◌, ◌-◌, ◌*◌, ◌<◌, ◌≤◌, ◌==◌, Bool, true, false, Option, Some, None, List, [], ◌∷◌, length, cond, refl, sym, ◌∙◌, ap, subst, ⊎_elim, arith, eq-eqb, ne_eqb}
use Rattle.std.specs.Prelude.{filter, is_none}
use Rattle.std.specs.List.{All}
use Rattle.std.proofs.lemmas.Bool.{cases_eq, true≢false}
use Rattle.std.proofs.lemmas.Nat.{mul-le}
use Rattle.std.proofs.lemmas.Option.{same_Some}
use Rattle.ghs_graph.specs.Graph.{ARC_LIMIT, NODE_LIMIT, Shape, IsGraph}
use Rattle.peer_network.specs.declared.event.Event.{Event}
use Rattle.peer_network.specs.Events.{MayWake}
use Rattle.peer_network.specs.Network.{Network, network_of, InNetwork, At}
use Rattle.peer_network.specs.Sums.{sum_below, sum_over_nodes}
use Rattle.peer_network.proofs.lemmas.Graphs.{graph_wired, twice_links}
use Rattle.peer_network.proofs.lemmas.Sums.{sum_none, sum_most, sum_add, sum_less, sum_few, node_before}
use Rattle.peer_network.proofs.lemmas.Wired.{IsWired}
use Rattle.peer_machine.specs.Net.{Net}
use Rattle.peer_machine.specs.Run.{IsAfter, IsNetOf}
use Rattle.peer_machine.specs.Ledger.{in_all, of_kind, waiting_of}
use Rattle.peer_machine.specs.Protocol.{FitsGraphs}
use Rattle.peer_machine.proofs.lemmas.Balance.{after_balanced}
use Rattle.gather_node.specs.declared.message.Message.{Message}
use Rattle.gather_node.specs.declared.message.Message.TheVariants.{Explore, Back, Tree}
use Rattle.gather_node.specs.Gather.{gather}
use Rattle.gather_node.specs.State.{State}
use Rattle.gather_protocol.specs.Bound.{bound_of, wakers_in}
use Rattle.gather_protocol.specs.Laws.{OneSends, SendsWithinBound, SendsWithinWakers}
use Rattle.gather_protocol.proofs.Rules.{all_may, anyone}
use Rattle.gather_protocol.proofs.Events.{after_waves}
use Rattle.gather_protocol.proofs.Heard.{long_some}
use Rattle.gather_protocol.proofs.Sends.{is_tree}
use Rattle.gather_protocol.proofs.TreeEvents.{after_trees, not_halted, one_tree_waits, own_parent}
use Rattle.gather_protocol.proofs.Trees.{Trees, told_once}
use Rattle.gather_protocol.proofs.Waves.{Waves, joins_of}

-- products of sums
scaled : (n c : ℕ) (j f : ℕ → ℕ) → ((x : ℕ) → j x ≤ c) → sum_below n (λ x. j x * f x) ≤ c * sum_below n f
scaled zero c j f le = omega arith
scaled (suc n) c j f le =
    let a = scaled n c j f le in
    let b = mul-le (j n) (f n) c (f n) (le n) (omega arith) in
    let d : c * (sum_below n f + f n) ≡ c * sum_below n f + c * f n = omega arith in
    omega (arith, a, b, d)

trees_are : (ms : List Message) → of_kind gather 2 ms ≡ length (filter is_tree ms)
trees_are [] = refl
trees_are (Explore x ∷ ms) = let h = trees_are ms in omega (arith, h)
trees_are (Back x ks ∷ ms) = let h = trees_are ms in omega (arith, h)
trees_are (Tree ks ∷ ms) = let h = trees_are ms in omega (arith, h)

-- whether a node has a parent
abbrev pub has_parent : State → ℕ
has_parent n = cond (is_none n.head.parent) 0 1

pub parent_once : (o : Option ℕ) → ◌≤◌ (cond (is_none o) 0 1) 1
parent_once None = omega arith
parent_once (Some x) = omega arith

only_one : (n j : ℕ) (f : ℕ → ℕ) → j < n → ((k : ℕ) → k < n → k ≢ j → f k ≡ 0) → sum_below n f ≤ f j
only_one zero j f lt e = absurd (omega (arith, lt))
only_one (suc n) j f lt e = ⊎_elim here (there (λ l. only_one n j f l (λ k m ne. e k (omega (arith, m)) ne))) (cases_eq j n)
  where
    here : j ≡ n → sum_below (suc n) f ≤ f j
    here q =
        let z = sum_none n f (λ k m. e k (omega (arith, m)) (λ c. omega (arith, c, m, q))) in
        let y : f n ≡ f j = ap f (sym q) in
        omega (arith, z, y)

    there : (j < n → sum_below n f ≤ f j) → j ≢ n → sum_below (suc n) f ≤ f j
    there ih ne = let a = ih (omega (arith, lt, ne)) in let z = e n (omega arith) (λ c. ne (sym c)) in omega (arith, a, z)

module _ (g : Network) (may : ℕ → Bool) (wired : IsWired g) (w : Net State Message) (i : Waves g may w) (t : Trees g w) where
  -- no node has joined more waves than may begin
  few_waves : (v : ℕ) → joins_of g (i.past v) ≤ wakers_in g may
  few_waves v =
      sum_most g.count (λ k. cond ((i.past v).joined (suc k)) 1 0) (λ k. cond (may (suc k)) 1 0)
      (λ k lt. one ((i.past v).joined (suc k)) (may (suc k)) (λ e. i.allowed (suc k) (i.led.root v (suc k) e)))
    where
      one : (a b : Bool) → (a ≡ true → b ≡ true) → ◌≤◌ (cond a 1 0) (cond b 1 0)
      one false b h = omega arith
      one true true h = omega arith
      one true false h = absurd (true≢false (sym (h refl)))

  pub waves_few : w.sent 0 + w.sent 1 ≤ wakers_in g may * sum_over_nodes g (λ v. length (g.ports v))
  waves_few =
      let a = scaled g.count (wakers_in g may) (λ k. joins_of g (i.past (suc k))) (λ k. length (g.ports (suc k))) (λ k. few_waves (suc k)) in
      let b = i.spends in
      omega (arith, a, b)

  -- Trees that were taken at a node or wait there
  at_node : (v : ℕ) → InNetwork g v →
      told_once (w.node v) + sum_below (length (g.ports v)) (λ p. of_kind gather 2 (w.queue v p)) ≤ has_parent (w.node v)
  at_node v net = by (w.node v).head.parent refl
    where
      place : InNetwork g v → (p : ℕ) → p < length (g.ports v) → At g v p
      place net p lt = record { some = net.some; node = net.node; port = lt }

      waits : (p : ℕ) → 1 ≤ of_kind gather 2 (w.queue v p) → filter is_tree (w.queue v p) ≢ []
      waits p le = long_some (filter is_tree (w.queue v p)) (let e = trees_are (w.queue v p) in omega (arith, le, e))

      elsewhere : (p : ℕ) → p < length (g.ports v) → ((w.node v).head.parent ≡ Some p → ⊥) → of_kind gather 2 (w.queue v p) ≡ 0
      elsewhere p lt ne = ⊎_elim (λ z. z)
          (λ some. absurd (ne (own_parent g may wired w i t v p (place net p lt) (waits p (omega (arith, some))))))
          (cases_eq (of_kind gather 2 (w.queue v p)) 0)

      at_parent : (p : ℕ) → p < length (g.ports v) → told_once (w.node v) + of_kind gather 2 (w.queue v p) ≤ 1
      at_parent p lt = ⊎_elim
          (λ z. let f = told_few (w.node v).head.halted (is_none (w.node v).head.parent) in omega (arith, z, f))
          (λ some.
          let s = waits p (omega (arith, some)) in
          let f = one_tree_waits g may wired w i t v p (place net p lt) s in
          let e = trees_are (w.queue v p) in
          let h : told_once (w.node v) ≡ 0 =
          ap (λ b. cond b (cond (is_none (w.node v).head.parent) 0 1) 0) (not_halted g may wired w i t v p (place net p lt) s) in
          omega (arith, f, e, h))
          (cases_eq (of_kind gather 2 (w.queue v p)) 0)
        where
          told_few : (a b : Bool) → ◌≤◌ (cond a (cond b 0 1) 0) 1
          told_few false b = omega arith
          told_few true true = omega arith
          told_few true false = omega arith

      never : (a : Bool) → ◌≡◌ {A = ℕ} (cond a (cond true 0 1) 0) 0
      never true = refl
      never false = refl

      by : (o : Option ℕ) → (w.node v).head.parent ≡ o →
          told_once (w.node v) + sum_below (length (g.ports v)) (λ p. of_kind gather 2 (w.queue v p)) ≤ has_parent (w.node v)
      by None e =
          let z =
          sum_none (length (g.ports v)) (λ p. of_kind gather 2 (w.queue v p))
          (λ p lt. elsewhere p lt (λ c. let q : ◌≡◌ {A = Option ℕ} None (Some p) = sym e ∙ c in cc)) in
          let h : told_once (w.node v) ≡ 0 =
          ap (λ (o : Option ℕ). cond (w.node v).head.halted (cond (is_none o) 0 1) 0) e ∙ never (w.node v).head.halted in
          omega (arith, z, h)
      by (Some p) e =
          let lt = (i.nodes v).fits.parent p e in
          let a =
          only_one (length (g.ports v)) p (λ q. of_kind gather 2 (w.queue v q)) lt
          (λ q l ne. elsewhere q l (λ c. ne (same_Some q p (sym c ∙ e)))) in
          let b = at_parent p lt in
          let c : has_parent (w.node v) ≡ 1 = ap (λ (o : Option ℕ). cond (is_none o) 0 1) e in
          omega (arith, a, b, c)

  -- a node without a parent: who is asleep has none, nor has the leader of the least wave
  leader_from : (fuel x : ℕ) → x ≤ fuel → (i.past x).joined x ≡ true → (v : ℕ) × InNetwork g v × ((w.node v).head.parent ≡ None)
  leader_from zero x le j = absurd (let a = (i.led.inside x x j).some in omega (arith, le, a))
  leader_from (suc fuel) x le j =
      let l = (i.nodes x).least x j in
      ⊎_elim
      (λ (e : l.0 ≡ x).
      (x, i.led.inside x x j, sym ((i.nodes x).now x (l.1 ∙ ap Some e)).parent ∙ i.led.own x j))
      (λ ne.
      leader_from fuel l.0 (let z = l.2 in omega (arith, le, z, ne)) (i.led.root x l.0 ((i.nodes x).now l.0 l.1).joined))
      (cases_eq l.0 x)

  some_leader : 1 ≤ g.count → (v : ℕ) × InNetwork g v × ((w.node v).head.parent ≡ None)
  some_leader some = by (w.node 1).head.wave refl
    where
      by : (o : Option ℕ) → (w.node 1).head.wave ≡ o → (v : ℕ) × InNetwork g v × ((w.node v).head.parent ≡ None)
      by None e = (1, record { some = omega arith; node = some }, (i.nodes 1).idle e)
      by (Some x) e = leader_from x x (omega arith) (i.led.root 1 x ((i.nodes 1).now x e).joined)

  parents_few : 1 ≤ g.count → suc (sum_over_nodes g (λ v. has_parent (w.node v))) ≤ g.count
  parents_few some = let l = some_leader some in let j = node_before l.0 l.1.some in go l.0 l.1 l.2 j.0 j.1
    where
      go : (v : ℕ) → InNetwork g v → (w.node v).head.parent ≡ None → (k : ℕ) → v ≡ suc k →
          suc (sum_over_nodes g (λ v. has_parent (w.node v))) ≤ g.count
      go v net none k e =
          let z : has_parent (w.node (suc k)) ≡ 0 =
          ap (λ x. has_parent (w.node x)) (sym e) ∙ ap (λ (o : Option ℕ). cond (is_none o) 0 1) none in
          let a =
          sum_less g.count k (λ x. has_parent (w.node (suc x))) (λ x. 1) (let h = net.node in omega (arith, e, h))
          (λ x lt. parent_once (w.node (suc x)).head.parent) (omega (arith, z)) in
          let b = sum_few g.count (λ x. 1) (λ x. omega arith) in
          omega (arith, a, b)

  pub trees_by_parents : w.sent 2 ≡ w.consumed 2 + waiting_of gather g w 2 → w.sent 2 ≤ sum_over_nodes g (λ v. has_parent (w.node v))
  trees_by_parents balance =
      let a = t.consumed in
      let b = sum_add g.count (λ k. told_once (w.node (suc k)))
      (λ k. sum_below (length (g.ports (suc k))) (λ p. of_kind gather 2 (w.queue (suc k) p))) in
      let c =
      sum_most g.count (λ k. told_once (w.node (suc k)) + sum_below (length (g.ports (suc k))) (λ p. of_kind gather 2 (w.queue (suc k) p)))
      (λ k. has_parent (w.node (suc k)))
      (λ k lt. at_node (suc k) (record { some = omega arith; node = omega (arith, lt) })) in
      omega (arith, a, b, c, balance)

  pub trees_few : 1 ≤ g.count → w.sent 2 ≡ w.consumed 2 + waiting_of gather g w 2 → suc (w.sent 2) ≤ g.count
  trees_few some balance = let a = trees_by_parents balance in let d = parents_few some in omega (arith, a, d)

-- what a run sends in which only some nodes wake by themselves
pub sends_few : (g : Shape) (may : ℕ → Bool) (es : List Event) (w : Net State Message) → IsGraph g → All (MayWake may) es →
    IsAfter gather (network_of g) es w →
    in_all gather w.sent ≤ 2 * (length g.keys * wakers_in (network_of g) may) + (g.nodes - 1)
sends_few g may es w ok allow h =
    let n = network_of g in
    let wired = graph_wired g ok in
    let i = after_waves n may wired es w allow h in
    let t = after_trees n may wired es w allow h in
    let a = waves_few n may wired w i t in
    let b = twice_links g ok in
    let c = trees_few n may wired w i t ok.some (after_balanced gather n wired es w h 2) in
    let d : wakers_in n may * (2 * length g.keys) ≡ 2 * (length g.keys * wakers_in n may) = omega arith in
    let e : wakers_in n may * sum_over_nodes n (λ v. length (n.ports v)) ≡ wakers_in n may * (2 * length g.keys) = ap (λ s. wakers_in n may * s) b in
    omega (arith, a, c, d, e)

pub trees_of : (g : Shape) (w : Net State Message) → IsNetOf gather g w → Trees (network_of g) w
trees_of g w is = after_trees (network_of g) anyone (graph_wired g is.graph) is.events w (all_may is.events) is.run

-- whoever wakes
everyone : (n : ℕ) → sum_below n (λ k. 1) ≡ n
everyone zero = refl
everyone (suc n) = let h = everyone n in omega (arith, h)

pub sends_within : SendsWithinWakers
sends_within g may es w ok allow h = sends_few g may es w ok allow h

pub sends_within_bound : SendsWithinBound
sends_within_bound g w is =
    let a = sends_few g anyone is.events w is.graph (all_may is.events) is.run in
    let b = everyone g.nodes in
    let c : length g.keys * wakers_in (network_of g) anyone ≡ length g.keys * g.nodes = ap (λ s. length g.keys * s) b in
    omega (arith, a, c)

pub bound_fits : FitsGraphs bound_of
bound_fits g ok =
    let a = mul-le (length g.keys) g.nodes ARC_LIMIT NODE_LIMIT ok.links ok.nodes in
    let b = ok.nodes in
    omega (arith, a, b)

-- one waker
one_of : (n v : ℕ) → v < n → sum_below n (λ k. cond (suc k == suc v) 1 0) ≤ 1
one_of n v lt =
    let a = only_one n v (λ k. cond (suc k == suc v) 1 0) lt (λ k l ne. rw (ne_eqb (suc k) (suc v) (λ e. ne (omega (arith, e)))) refl) in
    let b : cond (suc v == suc v) 1 0 ≤ 1 = rw (eq-eqb (suc v) (suc v) refl) (omega arith) in
    omega (arith, a, b)

one_waker : (g : Network) (v : ℕ) → InNetwork g v → wakers_in g (λ u. u == v) ≤ 1
one_waker g v net = let j = node_before v net.some in go j.0 j.1
  where
    go : (k : ℕ) → v ≡ suc k → wakers_in g (λ u. u == v) ≤ 1
    go k e =
        subst (λ x. wakers_in g (λ u. u == x) ≤ 1) (sym e) (one_of g.count k (let h = net.node in omega (arith, e, h)))

pub one_sends : OneSends
one_sends g v es w ok net allow h =
    let a = sends_few g (λ u. u == v) es w ok allow h in
    let b = mul-le (length g.keys) (wakers_in (network_of g) (λ u. u == v)) (length g.keys) 1 (omega arith) (one_waker (network_of g) v net) in
    omega (arith, a, b)
