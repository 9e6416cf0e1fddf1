-- How many events a run has at most, where no message is ever deferred.
use Rattle.std.proofs.Common.{◌≡◌, ℕ, suc, ◌+◌, ◌≤◌, Bool, true, false, List, [], ◌∷◌, ◌++◌, length, get_or, drop, Some, refl, sym, ◌∙◌, ap, subst, cond, arith, ⊎_elim}
use Rattle.std.proofs.lemmas.Bool.{cases_eq}
use Rattle.std.proofs.lemmas.Option.{same_Some}
use Rattle.ghs_graph.specs.Graph.{Shape, IsGraph}
use Rattle.peer_network.specs.declared.event.Event.{Event}
use Rattle.peer_network.specs.declared.event.Event.TheVariants as events
use Rattle.peer_network.specs.Network.{Network, network_of}
use Rattle.peer_network.specs.Events.{takes_in}
use Rattle.peer_network.specs.Sums.{sum_below}
use Rattle.peer_network.proofs.lemmas.Graphs.{graph_wired}
use Rattle.peer_network.proofs.lemmas.Sums.{sum_most, sum_few, sum_less, node_before}
use Rattle.peer_network.proofs.lemmas.Wires.{no_loop}
use Rattle.peer_network.proofs.lemmas.Updates.{put_at_same}
use Rattle.peer_machine.specs.declared.work.Work.TheVariants.{Deliver}
use Rattle.peer_machine.specs.Rules.{Rules, Outcome, HasKinds, NeverDefers}
use Rattle.peer_machine.specs.Net.{Net, event_node, left_of, put, opening, reacted, take_first, happens}
use Rattle.peer_machine.specs.Run.{run, IsAfter}
use Rattle.peer_machine.specs.Ledger.{in_all}
use Rattle.peer_machine.specs.Protocol.{StaysAwake}
use Rattle.peer_machine.specs.Steps.{Happens, Woke, Took}
use Rattle.peer_machine.specs.Laws.{DeferredGoLast}
use Rattle.peer_machine.proofs.lemmas.Balance.{after_balanced, balanced_in_all}
use Rattle.peer_machine.proofs.lemmas.Counts.{after_counts, never_deferred}
use Rattle.peer_machine.proofs.lemmas.Events.{happening}
use Rattle.peer_machine.proofs.lemmas.Runs.{both_some, after_more}
use Rattle.peer_machine.proofs.lemmas.Sends.{queue_kept, node_here, node_there}

-- how many events are wakes
abbrev wakes_in : List Event → ℕ
wakes_in [] = 0
wakes_in (events.Wake v ∷ es) = suc (wakes_in es)
wakes_in (events.Take v p ∷ es) = wakes_in es

all_events : (es : List Event) → length es ≡ takes_in es + wakes_in es
all_events [] = refl
all_events (events.Wake v ∷ es) = omega (arith, all_events es)
all_events (events.Take v p ∷ es) = omega (arith, all_events es)

wakes_split : (e : Event) (es : List Event) → wakes_in (e ∷ es) ≡ wakes_in (e ∷ []) + wakes_in es
wakes_split (events.Wake v) es = omega arith
wakes_split (events.Take v p) es = omega arith

up_of : Bool → ℕ
up_of asleep = cond asleep 0 1

up_one : (b : Bool) → up_of b ≤ 1
unfolding up_of
up_one true = omega arith
up_one false = omega arith

module _ {S M : Type 0} (r : Rules S M) where
  -- what the event leaves of the queue from which it takes a message
  abbrev Leaves : Net S M → Event → Net S M → Type 0
  Leaves w (events.Wake v) w' = Unit {0}
  Leaves w (events.Take v p) w' =
      (m : M) (ms : List M) → w.queue v p ≡ m ∷ ms → w'.queue v p ≡ left_of (r.defers (w.node v) (Deliver p m)) m ms

  leaves : (g : Shape) → IsGraph g → (w w' : Net S M) (e : Event) → Happens r (network_of g) w e w' → Leaves w e w'
  leaves g ok w _ _ (Woke v o lo hi s e t) = tt
  leaves g ok w _ _ (Took v p a rest o at q e t) = λ m ms h.
      let same = sym q ∙ h in
      queue_kept r (network_of g) v v p o.sends (record (take_first r (network_of g) v p a rest w) { node = put w.node v o.state })
      (λ i x y. no_loop (network_of g) (graph_wired g ok) v i at.some at.node x)
      ∙ put_at_same w.queue v p _
      ∙ ap (λ (x : M). left_of (r.defers (w.node v) (Deliver p x)) x rest) (ap (λ (l : List M). get_or l 0 m) same)
      ∙ ap (left_of (r.defers (w.node v) (Deliver p m)) m) (ap (λ (l : List M). drop 1 l) same)

  pub deferred_last : DeferredGoLast r
  deferred_last g w w' v p m ms ok h q = leaves g ok w w' (events.Take v p) h m ms q

  pub taken_once : NeverDefers r → HasKinds r → (g : Shape) (es : List Event) (w : Net S M) → IsGraph g → IsAfter r (network_of g) es w →
      ◌≡◌ {A = ℕ} w.deferred 0 × (takes_in es ≤ in_all r w.sent)
  taken_once never kinds g es w ok h =
      let none = never_deferred r (network_of g) never es w h in
      let taken = after_counts r (network_of g) kinds es w h in
      let balanced = balanced_in_all r kinds (network_of g) w (after_balanced r (network_of g) (graph_wired g ok) es w h) in
      (none, omega (arith, none, taken, balanced))

  woken : (n : S) → r.is_asleep n ≡ false → up_of (r.is_asleep n) ≡ 1
  unfolding up_of
  woken n h = rw h refl

  sleeping : (n : S) → r.is_asleep n ≡ true → up_of (r.is_asleep n) ≡ 0
  unfolding up_of
  sleeping n h = rw h refl

  module _ (g : Network) where
    -- how many nodes are awake
    abbrev awake_in : Net S M → ℕ
    awake_in w = sum_below g.count (λ i. up_of (r.is_asleep (w.node (suc i))))

    abbrev IsUp : S → S → Type 0
    IsUp a b = up_of (r.is_asleep a) ≤ up_of (r.is_asleep b)

    reacted_up : (v : ℕ) (o : Outcome S M) (w : Net S M) → r.is_asleep o.state ≡ false → (u : ℕ) → IsUp (w.node u) ((reacted r g v o w).node u)
    reacted_up v o w h u = ⊎_elim here (λ ne. subst (IsUp (w.node u)) (sym (node_there r g v o w u ne)) (omega arith)) (cases_eq u v)
      where
        here : u ≡ v → IsUp (w.node u) ((reacted r g v o w).node u)
        here e = subst (IsUp (w.node u)) (sym (ap (λ x. (reacted r g v o w).node x) e ∙ node_here r g v o w))
            (let a = woken o.state h in let b = up_one (r.is_asleep (w.node u)) in omega (arith, a, b))

    -- no event puts a node to sleep whose own node is awake behind it, and a wake wakes one more
    event_awakes : (w x : Net S M) (e : Event) → Happens r g w e x → r.is_asleep (x.node (event_node e)) ≡ false →
        wakes_in (e ∷ []) + awake_in w ≤ awake_in x
    event_awakes w _ _ (Woke v o lo hi s e t) up =
        let at = node_before v lo in
        let now = reacted r g v o w in
        let awake : r.is_asleep o.state ≡ false = ap (λ (n : S). r.is_asleep n) (sym (node_here r g v o w)) ∙ up in
        let a = sleeping (w.node v) s in
        let b = woken o.state awake in
        let c = ap (λ (n : S). up_of (r.is_asleep n)) (node_here r g v o w) in
        let more =
        sum_less g.count at.0 (λ i. up_of (r.is_asleep (w.node (suc i)))) (λ i. up_of (r.is_asleep (now.node (suc i))))
        (subst (λ y. y ≤ g.count) at.1 hi) (λ i lt. reacted_up v o w awake (suc i))
        (subst (λ y. suc (up_of (r.is_asleep (w.node y))) ≤ up_of (r.is_asleep (now.node y))) at.1 (omega (arith, a, b, c))) in
        omega (arith, more)
    event_awakes w _ _ (Took v p m ms o at q e t) up =
        let x = take_first r g v p m ms w in
        let now = reacted r g v o x in
        let awake : r.is_asleep o.state ≡ false = ap (λ (n : S). r.is_asleep n) (sym (node_here r g v o x)) ∙ up in
        let most =
        sum_most g.count (λ i. up_of (r.is_asleep (w.node (suc i)))) (λ i. up_of (r.is_asleep (now.node (suc i))))
        (λ i lt. reacted_up v o x awake (suc i)) in
        omega (arith, most)

  module _ (awake : StaysAwake r) (g : Shape) (ok : IsGraph g) where
    run_awakes : (ds es : List Event) (w w' : Net S M) → IsAfter r (network_of g) ds w → run r (network_of g) es w ≡ Some w' →
        wakes_in es + awake_in (network_of g) w ≤ awake_in (network_of g) w'
    run_awakes ds [] w w' i h = omega (arith, ap (λ (x : Net S M). awake_in (network_of g) x) (same_Some _ _ h))
    run_awakes ds (e ∷ es) w w' i h =
        both_some r (happens r (network_of g) w e) (λ x. run r (network_of g) es x) w' h
        (λ x a b.
        let k = happening r (network_of g) w x e a in
        let one = event_awakes (network_of g) w x e k (awake g w x e (record { graph = ok; events = ds; run = i }) k) in
        let rest = run_awakes (ds ++ e ∷ []) es x w' (after_more r (network_of g) ds e w x i k) b in
        omega (arith, one, rest, wakes_split e es))

  -- a run has at most as many wakes as there are nodes
  pub wakes_few : StaysAwake r → (g : Shape) → IsGraph g → (es : List Event) (w : Net S M) → IsAfter r (network_of g) es w →
      length es ≤ takes_in es + g.nodes
  wakes_few awake g ok es w h =
      let woken = run_awakes awake g ok [] es (opening r (network_of g)) w refl h in
      let most : awake_in (network_of g) w ≤ g.nodes = sum_few g.nodes (λ i. up_of (r.is_asleep (w.node (suc i)))) (λ i. up_one _) in
      omega (arith, all_events es, woken, most)

  pub events_few : NeverDefers r → StaysAwake r → HasKinds r → (g : Shape) (es : List Event) (w : Net S M) → IsGraph g →
      IsAfter r (network_of g) es w → length es ≤ in_all r w.sent + g.nodes
  events_few never awake kinds g es w ok h =
      let taken = (taken_once never kinds g es w ok h).1 in
      omega (arith, taken, wakes_few awake g ok es w h)
