-- How many events a run by rounds has at most.
use Rattle.std.proofs.Common.{◌≡◌, ◌≢◌, ℕ, zero, suc, ◌<◌, ◌≤◌, ◌+◌, ◌*◌, Bool, true, false, Some, List, [], ◌∷◌, ◌++◌, length, filter, refl, sym, ◌∙◌, ap, subst, ⊎_elim, inl, inr, ◌⊎◌, arith}
use Rattle.std.specs.List.{Contains}
use Rattle.std.proofs.lemmas.Bool.{and_parts, cases_eq}
use Rattle.std.proofs.lemmas.List.{length_push}
use Rattle.ghs_graph.specs.Bound.{IsBound}
use Rattle.ghs_graph.specs.Graph.{Shape, IsGraph}
use Rattle.ghs_graph.proofs.lemmas.Members.{filter_has, first_in, in_filter, nothing_in}
use Rattle.ghs_node.specs.declared.delta.Delta.{Delta}
use Rattle.ghs_node.specs.declared.delta.Fate.{Fate}
use Rattle.ghs_node.specs.declared.delta.Fate.TheVariants.{Consumed, Requeued}
use Rattle.ghs_node.specs.declared.message.Message.{Message}
use Rattle.ghs_node.specs.declared.message.Phase.TheVariants.{Sleeping}
use Rattle.ghs_node.specs.declared.work.Work.TheVariants as works
use Rattle.ghs_node.specs.NodeState.{NodeState}
use Rattle.ghs_node.specs.Reaction.{reaction}
use Rattle.ghs_node.specs.Words.{is_sleeping}
use Rattle.ghs_node.proofs.lemmas.{is_sleeping_not, reaction_inverts, row_awake, sleeping_is}
use Rattle.peer_network.specs.declared.event.Event.{Event}
use Rattle.peer_network.specs.declared.event.Event.TheVariants.{Wake, Take}
use Rattle.ghs_protocol.specs.Interleavings.{EventsHaveRules, SendsWithinBound}
use Rattle.ghs_protocol.specs.Laws.{IsLater, IsNetOf, LedgerBalances, NodesStayAwake, TakesAreCounted}
use Rattle.peer_network.specs.Events.{takes_in, event_node}
use Rattle.ghs_protocol.specs.Marks.{HasEnded}
use Rattle.ghs_protocol.specs.Net.{Net, is_lawful, one_if_requeued, opening}
use Rattle.peer_network.specs.Network.{Network, network_of}
use Rattle.ghs_protocol.specs.Run.{net_after}
use Rattle.ghs_protocol.specs.Schedules.{PatienceLasts}
use Rattle.peer_network.specs.Wakes.{AllMayWake}
use Rattle.ghs_protocol.specs.Steps as steps
use Rattle.ghs_protocol.specs.Steps.{Happens, Woke, Took}
use Rattle.ghs_protocol.proofs.lemmas.Effects.{taken_here, taken_requeued}
use Rattle.peer_network.proofs.lemmas.Events.{is_port_of}
use Rattle.ghs_protocol.proofs.lemmas.Runs.{after_is_net, after_more, lawful_under, net_after_is}
use Rattle.ghs_protocol.proofs.lemmas.Sends.{node_here, requeued_now}
use Rattle.ghs_protocol.proofs.lemmas.Woken.{asleep_or_not}
use Rattle.ghs_core.specs.NetState.{delivery, work_at}
use Rattle.peer_index.specs.Places.{HasPlace, all_events}
use Rattle.peer_index.proofs.lemmas.Listed.{listed}
use Rattle.peer_chains.specs.Chains.{Chains}
use Rattle.ghs_following.specs.Chains.{chains_of, reacted}
use Rattle.ghs_patient.specs.Patience.{first_waits, or_else, puts_back}
use Rattle.ghs_patient.proofs.lemmas.Picks.{some_patient}
use Rattle.ghs_rounds.specs.Rounds.{events_in, hides_due, moves_due}
use Rattle.ghs_following.proofs.lemmas.Lengths.{same_lengths}
use Rattle.ghs_patient.proofs.lemmas.Picked.{in_either}
use Rattle.ghs_rounds.proofs.AnyOrder.{Begun, ByNumbers, Over, Went}
use Rattle.ghs_rounds.proofs.Picked.{lawful_pick, of_round}
use Rattle.ghs_rounds.proofs.Settling.{some_now}
use Rattle.ghs_rounds.proofs.Steps.{Promised, Turns, back_turns, moves_fate, port_in}
use Rattle.ghs_rounds.proofs.Told as of
use Rattle.ghs_rounds.proofs.Told.{IsTold, told}

-- How many of the nodes sleep.
abbrev one_if : Bool → ℕ
one_if true = 1
one_if false = 0

abbrev pub sleeps_at : Net → ℕ → Bool
sleeps_at w v = is_sleeping (w.node v).head.phase

abbrev pub sleepers : Net → ℕ → ℕ
sleepers w zero = 0
sleepers w (suc k) = sleepers w k + one_if (sleeps_at w (suc k))

one_at_most : (b : Bool) → one_if b ≤ 1
one_at_most true = omega arith
one_at_most false = omega arith

one_below : (a b : Bool) → (b ≡ true → a ≡ true) → one_if b ≤ one_if a
one_below true true f = omega arith
one_below true false f = omega arith
one_below false true f = absurd (let z : false ≡ true = f refl in cc)
one_below false false f = omega arith

one_less : (a b : Bool) → a ≡ true → b ≡ false → suc (one_if b) ≤ one_if a
one_less true true e f = cc
one_less true false e f = omega arith
one_less false b e f = cc

sleepers_few : (w : Net) (k : ℕ) → sleepers w k ≤ k
sleepers_few w zero = omega arith
sleepers_few w (suc k) = let a = sleepers_few w k in let b = one_at_most (sleeps_at w (suc k)) in omega (arith, a, b)

module _ (w x : Net) (stay : (v : ℕ) → sleeps_at x v ≡ true → sleeps_at w v ≡ true) where
  no_more : (k : ℕ) → sleepers x k ≤ sleepers w k
  no_more zero = omega arith
  no_more (suc k) = let a = no_more k in let b = one_below (sleeps_at w (suc k)) (sleeps_at x (suc k)) (stay (suc k)) in omega (arith, a, b)

  one_fewer : (k v : ℕ) → 1 ≤ v → v ≤ k → sleeps_at w v ≡ true → sleeps_at x v ≡ false → suc (sleepers x k) ≤ sleepers w k
  one_fewer zero v lo hi was is = absurd (omega (arith, lo, hi))
  one_fewer (suc k) v lo hi was is = ⊎_elim
      (λ (e : v ≡ suc k).
      let a = no_more k in
      let b = one_less (sleeps_at w (suc k)) (sleeps_at x (suc k)) (sym (ap (sleeps_at w) e) ∙ was) (sym (ap (sleeps_at x) e) ∙ is) in
      omega (arith, a, b))
      (λ (ne : v ≢ suc k).
      let a = one_fewer k v lo (omega (arith, hi, ne)) was is in
      let b = one_below (sleeps_at w (suc k)) (sleeps_at x (suc k)) (stay (suc k)) in
      omega (arith, a, b))
      (cases_eq v (suc k))

-- What is taken is counted.
takes_more : (es : List Event) (e : Event) → takes_in (es ++ e ∷ []) ≡ takes_in es + takes_in (e ∷ [])
takes_more [] e = omega arith
takes_more (Wake v ∷ es) e = takes_more es e
takes_more (Take v p ∷ es) e = let rest = takes_more es e in omega (arith, rest)

-- what an event that moves the run on counts
record Counts (w x : Net) (e : Event) (n : ℕ) : Type 0 where
  paid : suc (sleepers x n + x.requeued) ≤ takes_in (e ∷ []) + (sleepers w n + w.requeued)

one_requeue : (f : Fate) → one_if_requeued f ≤ 1
one_requeue Consumed = omega arith
one_requeue Requeued = omega arith

no_requeue : (f : Fate) → f ≡ Consumed → one_if_requeued f ≡ 0
no_requeue Consumed e = refl
no_requeue Requeued e = cc

counts : (g : Network) (w x : Net) (e : Event) → Happens g w e x → (stay : (v : ℕ) → sleeps_at x v ≡ true → sleeps_at w v ≡ true) →
    ((v p : ℕ) (d : Delta) → e ≡ Take v p → reaction (w.node v) (work_at w e) ≡ Some d → (d.fate ≡ Consumed) ⊎ (sleeps_at w v ≡ true)) →
    sleeps_at x (event_node e) ≡ false → Counts w x e g.count
counts g w _ _ (Woke v d lo hi s r) stay fate up =
    let a = one_fewer w (steps.reacted g v d w) stay g.count v lo hi (ap is_sleeping s) up in
    let b : (steps.reacted g v d w).requeued ≡ w.requeued = requeued_now g v d w in
    record { paid = omega (arith, a, b) }
counts g w _ _ (Took v p m ms d at q r) stay fate up =
    let x = steps.taken g v p m ms d w in
    let answer : reaction (w.node v) (work_at w (Take v p)) ≡ Some d = ap (λ (l : List Message). reaction (w.node v) (delivery p l)) q ∙ r in
    let b : x.requeued ≡ w.requeued + one_if_requeued d.fate = taken_requeued g v p m ms d w in
    ⊎_elim
    (λ consumed.
    let a = no_more w x stay g.count in
    let k = no_requeue d.fate consumed in
    record { paid = omega (arith, a, b, k) })
    (λ asleep.
    let a = one_fewer w x stay g.count v at.some at.node asleep up in
    let k = one_requeue d.fate in
    record { paid = omega (arith, a, b, k) })
    (fate v p d refl answer)

-- who has acted is awake
acted_awake : (g : Shape) (w x : Net) (e : Event) → IsNetOf g w → Happens (network_of g) w e x → sleeps_at x (event_node e) ≡ false
acted_awake g w _ _ n (Woke v d lo hi s r) =
    is_sleeping_not ((steps.reacted (network_of g) v d w).node v).head.phase
    (subst (λ (y : NodeState). y.head.phase ≢ Sleeping) (sym (node_here (network_of g) v d w))
    (row_awake (w.node v) works.Wake d (reaction_inverts (w.node v) works.Wake d tt r)))
acted_awake g w _ _ n (Took v p m ms d at q r) =
    is_sleeping_not ((steps.taken (network_of g) v p m ms d w).node v).head.phase
    (subst (λ (y : NodeState). y.head.phase ≢ Sleeping) (sym (taken_here (network_of g) v p m ms d w))
    (row_awake (w.node v) (works.Deliver p m) d (reaction_inverts (w.node v) (works.Deliver p m) d (port_in g w n v p at) r)))

-- no node falls asleep
nobody_sleeps : (law : NodesStayAwake) (g : Shape) (w x : Net) (e : Event) (n : IsNetOf g w) → Happens (network_of g) w e x →
    (v : ℕ) → sleeps_at x v ≡ true → sleeps_at w v ≡ true
nobody_sleeps law g w x e n h v is =
    let later : IsLater g w x =
    record { graph = n.graph; events = n.events; further = e ∷ []; run = n.run; later = after_more (network_of g) n.events e w x n.run h } in
    ⊎_elim (λ s. ap is_sleeping s) (λ up. absurd (law g w x later v up (sleeping_is (x.node v).head.phase is))) (asleep_or_not (w.node v).head.phase)

-- where no event has happened nothing waits
nothing_yet : (es : List Event) → length es ≡ 0 → es ≡ []
nothing_yet [] e = refl
nothing_yet (x ∷ es) e = absurd (omega (arith, e))

-- How many of the events have moved the run on; and of the others there are as few, since one that moves it on comes behind each.
record IsCounted (may : ℕ → Bool) (g : Shape) (es : List Event) (r : ℕ) : Type 0 where
  moves : ℕ
  paid : moves + (sleepers (net_after g es) g.nodes + (net_after g es).requeued) ≤ takes_in es + g.nodes
  few : (suc (length es) ≤ 2 * moves) ⊎ ((length es ≤ 2 * moves) × ((length es ≡ 0) ⊎
      (0 < length (filter (moves_due may (network_of g) (net_after g es) (chains_of (network_of g) es) r) (all_events (network_of g))))))

at_most_twice : (n m : ℕ) (P : Type 0) → (suc n ≤ 2 * m) ⊎ ((n ≤ 2 * m) × P) → n ≤ 2 * m
at_most_twice n m P (inl le) = omega (arith, le)
at_most_twice n m P (inr z) = z.0

module _ (law : Promised) (rules : EventsHaveRules) (lasts : PatienceLasts) (may : ℕ → Bool) (g : Shape) (ok : IsGraph g) where
  module _ (es : List Event) (r : ℕ) (is : IsTold may g es r) (going : HasEnded g (net_after g es) → ⊥) (so_far : IsCounted may g es r) where
    abbrev w : Net
    w = net_after g es

    abbrev c : Chains
    c = chains_of (network_of g) es

    n : IsNetOf g w
    n = of.is_net law rules lasts may g ok es r is going

    counted_moves : (e : Event) (there : HasPlace (network_of g) e) (lawful : is_lawful (network_of g) w e ≡ true) →
        moves_due may (network_of g) w c r e ≡ true → IsCounted may g (es ++ e ∷ []) r
    counted_moves e there lawful moves =
        let x = of.x law rules lasts may g ok es r is going e there lawful in
        let so = of.so law rules lasts may g ok es r is going e there lawful in
        let net = of.net_is law rules lasts may g ok es r is going e there lawful in
        let one : Counts w x e g.nodes =
        counts (network_of g) w x e so (nobody_sleeps law.awake g w x e n so)
        (λ v p d own answer.
        let here : moves_due may (network_of g) w c r (Take v p) ≡ true =
        subst (λ (y : Event). moves_due may (network_of g) w c r y ≡ true) own moves in
        moves_fate law may g w n c r is.timed v p d (subst (λ (y : Event). reaction (w.node v) (work_at w y) ≡ Some d) own answer) here)
        (acted_awake g w x e n so) in
        let paid = one.paid in
        let before = so_far.paid in
        let many = takes_more es e in
        let count : length (es ++ e ∷ []) ≡ length es + 1 = length_push es e in
        let twice = at_most_twice (length es) so_far.moves _ so_far.few in
        record {
          moves = suc so_far.moves;
          paid = rw net (omega (arith, paid, before, many));
          few = inl (omega (arith, count, twice));
        }

    counted_back : (e : Event) (there : HasPlace (network_of g) e) (lawful : is_lawful (network_of g) w e ≡ true) → hides_due w c r e ≡ true →
        filter (moves_due may (network_of g) w c r) (all_events (network_of g)) ≡ [] → IsCounted may g (es ++ e ∷ []) r
    counted_back (Wake v) there lawful hides none = cc
    counted_back (Take v p) there lawful hides none =
        let e = Take v p in
        let x = of.x law rules lasts may g ok es r is going e there lawful in
        let so = of.so law rules lasts may g ok es r is going e there lawful in
        let d = of.d law rules lasts may g ok es r is going e there lawful in
        let net = of.net_is law rules lasts may g ok es r is going e there lawful in
        let chains = of.chains_are law rules lasts may g ok es r is going e there lawful in
        let t : Turns law may g w n c r is.timed v p d x =
        back_turns law may g w n c r is.timed v p there (of.same law rules lasts may g ok es r is going) d x
        (of.answer law rules lasts may g ok es r is going e there lawful) so hides in
        let stay : (u : ℕ) → sleeps_at x u ≡ true → sleeps_at w u ≡ true =
        λ u s. subst (λ (y : NodeState). is_sleeping y.head.phase ≡ true) (t.node u) s in
        let fewer = no_more w x stay g.nodes in
        let back = t.requeued in
        let before = so_far.paid in
        let many = takes_more es e in
        let count : length (es ++ e ∷ []) ≡ length es + 1 = length_push es e in
        record {
          moves = so_far.moves;
          paid = rw net (omega (arith, fewer, back, before, many));
          few = inr (
            ⊎_elim (λ le. omega (arith, le, count)) (λ z. absurd (⊎_elim (λ y. first y hides) some_moves z.1)) so_far.few,
            inr (rw (net, chains) (some_in _ e
                (filter_has (moves_due may (network_of g) x (reacted (network_of g) w e d c) r) (all_events (network_of g)) e
                (listed (network_of g) e (is_port_of (network_of g) v p there)) t.next))),
          );
        }
      where
        some_in : (fs : List Event) (e : Event) → Contains fs e → 0 < length fs
        some_in [] e h = absurd (nothing_in e h)
        some_in (f ∷ fs) e h = omega arith

        some_moves : 0 < length (filter (moves_due may (network_of g) w c r) (all_events (network_of g))) → ⊥
        some_moves some = let z = ap length none in omega (arith, some, z)

        first : length es ≡ 0 → hides_due w c r (Take v p) ≡ true → ⊥
        first z h =
            let net : w ≡ opening (network_of g) = ap (net_after g) (nothing_yet es z) ∙ net_after_is g [] (opening (network_of g)) refl in
            let back : puts_back w (Take v p) ≡ true = (and_parts (puts_back w (Take v p)) _ h).0 in
            let bad : first_waits ((opening (network_of g)).node v) p [] ≡ true = subst (λ (y : Net). puts_back y (Take v p) ≡ true) net back in
            cc

    counted_over : events_in may g es r ≡ [] → IsCounted may g es (suc r)
    counted_over over = record {
      moves = so_far.moves;
      paid = so_far.paid;
      few = ⊎_elim inl (λ z. inr (z.0, ⊎_elim inl (λ some. absurd (none _ _ some over)) z.1)) so_far.few;
    }
      where
        none : (fs hs : List Event) → 0 < length fs → or_else fs hs ≡ [] → ⊥
        none [] hs some e = omega (arith, some)
        none (f ∷ fs) hs some e = let z : f ∷ fs ≡ [] = e in cc

  counted_begun : IsCounted may g [] 0
  counted_begun =
      let net : net_after g [] ≡ opening (network_of g) = net_after_is g [] (opening (network_of g)) refl in
      let few = sleepers_few (opening (network_of g)) g.nodes in
      record { moves = 0; paid = rw net (omega (arith, few)); few = inr (omega arith, inl refl) }

  counted : (es : List Event) (r : ℕ) → ByNumbers may g es r → IsCounted may g es r
  counted _ _ Begun = counted_begun
  counted _ _ (Went es r e before going one) =
      let is = told law rules lasts may g ok es r before in
      let so_far = counted es r before in
      let w = net_after g es in
      let c = chains_of (network_of g) es in
      let z = of_round may (network_of g) w c r e one in
      let lawful : is_lawful (network_of g) w e ≡ true = ((lawful_under may (network_of g) w e).0 (lawful_pick may (network_of g) w c r e z)).1 in
      ⊎_elim
      (λ h. counted_moves es r is going so_far e z.0 lawful (in_filter (moves_due may (network_of g) w c r) (all_events (network_of g)) e h).1)
      (λ h. counted_back es r is going so_far e z.0 lawful (in_filter (hides_due w c r) (all_events (network_of g)) e h.1).1 h.0)
      (in_either (filter (moves_due may (network_of g) w c r) (all_events (network_of g)))
      (filter (hides_due w c r) (all_events (network_of g))) e one)
  counted _ _ (Over es r before going over) = counted_over es r (told law rules lasts may g ok es r before) going (counted es r before) over

  pub runs_are_short : TakesAreCounted → LedgerBalances → SendsWithinBound → (b : ℕ) → IsBound g.nodes (length g.keys) b →
      (es : List Event) (r : ℕ) → ByNumbers may g es r → length es ≤ 2 * (b + g.nodes)
  runs_are_short takes balance sends b bound es r by =
      let run = (told law rules lasts may g ok es r by).is_run in
      let after = after_is_net g es run in
      let net : IsNetOf g (net_after g es) = record { graph = ok; events = es; run = after } in
      let k = counted es r by in
      let paid = k.paid in
      let all = takes g ok es (net_after g es) after in
      let out = balance g (net_after g es) net in
      let most = sends g (net_after g es) net b bound in
      let twice = at_most_twice (length es) k.moves _ k.few in
      omega (arith, paid, all, out, most, twice)

  -- A run that hasn't ended can go on, so it has fewer events.
  pub runs_are_shorter : TakesAreCounted → LedgerBalances → SendsWithinBound → AllMayWake may g → (b : ℕ) → IsBound g.nodes (length g.keys) b →
      (es : List Event) (r : ℕ) → ByNumbers may g es r → (HasEnded g (net_after g es) → ⊥) → length es < 2 * (b + g.nodes)
  runs_are_shorter takes balance sends all b bound es r by going = go (events_in may g es r) refl
    where
      is : IsTold may g es r
      is = told law rules lasts may g ok es r by

      -- in either round something can happen
      on : (k : ℕ) → ByNumbers may g es k → (now : List Event) → events_in may g es k ≡ now → 0 < length now → length es < 2 * (b + g.nodes)
      on k before [] same some = absurd (omega (arith, some))
      on k before (e ∷ now) same some =
          let one : Contains (events_in may g es k) e = subst (λ (l : List Event). Contains l e) (sym same) (first_in e now) in
          let most = runs_are_short takes balance sends b bound (es ++ e ∷ []) k (Went es k e before going one) in
          let count : length (es ++ e ∷ []) ≡ length es + 1 = length_push es e in
          omega (arith, most, count)

      net : IsNetOf g (net_after g es)
      net = record { graph = ok; events = es; run = after_is_net g es is.is_run }

      go : (now : List Event) → events_in may g es r ≡ now → length es < 2 * (b + g.nodes)
      go [] e = on (suc r) (Over es r by going e) (events_in may g es (suc r)) refl
          (some_now (network_of g) may (net_after g es) (chains_of (network_of g) es) (suc r)
          (same_lengths (network_of g) es (net_after g es) net.run) is.timed.within.queue (some_patient g may (net_after g es) lasts net all going))
      go (x ∷ xs) e = on r by (events_in may g es r) refl (let z = ap length e in omega (arith, z))
