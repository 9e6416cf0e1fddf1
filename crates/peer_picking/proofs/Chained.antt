-- A run by rounds has as many rounds as its longest chain has messages.
use Rattle.std.proofs.Common.{◌≡◌, ◌≢◌, ℕ, zero, suc, ◌%◌, ◌<◌, ◌≤◌, ◌⊎◌, inl, inr, Bool, true, false, Option, Some, None, IsSome, List, [], ◌∷◌, ◌++◌, length, refl, sym, ◌∙◌, ap, subst, ⊎_elim, arith, ltb-true}
use Rattle.std.specs.List.{Contains}
use Rattle.std.proofs.lemmas.Bool.{and_parts, cases_eq}
use Rattle.std.proofs.lemmas.List.Elements.{Contains-get_or}
use Rattle.std.proofs.lemmas.Option.{get_or_from_slice_get, slice_get_within}
use Rattle.ghs_graph.specs.Graph.{Shape, IsGraph}
use Rattle.ghs_graph.proofs.lemmas.Members.{in_filter}
use Rattle.peer_network.specs.declared.event.Event.{Event}
use Rattle.peer_network.specs.declared.event.Event.TheVariants.{Wake, Take}
use Rattle.peer_network.specs.Network.{At, network_of}
use Rattle.peer_index.specs.Places.{HasPlace, all_events}
use Rattle.peer_schedule.specs.Picks.{IsPick}
use Rattle.peer_schedule.specs.Schedule.{word_of}
use Rattle.peer_chains.specs.Chains.{Chains, most_below}
use Rattle.peer_chains.proofs.lemmas.Bounding.{most_within}
use Rattle.peer_machine.specs.Protocol.{HasRules, StaysAwake}
use Rattle.peer_machine.specs.Rules.{NeverDefers, Rules}
use Rattle.peer_machine.specs.Net.{Net, effect, event_node, happens, is_lawful, opening}
use Rattle.peer_machine.specs.Run.{IsNetOf, IsRun, net_after}
use Rattle.peer_machine.specs.Steps.{Happens, Took, Woke}
use Rattle.peer_machine.proofs.lemmas.Events.{happening, lawful_happens}
use Rattle.peer_machine.proofs.lemmas.Runs.{after_is_net, after_more, net_after_more}
use Rattle.peer_net.specs.NetState.{AreSends, NetState, delivery}
use Rattle.peer_lengths.specs.Chain.{longest_chain, numbers_of}
use Rattle.peer_runs.specs.Lawful.{is_lawful_under, lawful_events}
use Rattle.peer_runs.proofs.lemmas.Lawful.{lawful_parts, lawful_place}
use Rattle.peer_picking.specs.Kept.{AreCounted}
use Rattle.peer_picking.specs.Laws.{ChainsAreWithinRounds, RoundsAreChains}
use Rattle.peer_picking.specs.Picks.{Begun, IsPickedByRounds, Over, Picked}
use Rattle.peer_picking.specs.Rounds.{events_in, is_in}
use Rattle.peer_picking.proofs.Counted.{IsTimely, adds, counted_over, took}
use Rattle.peer_picking.proofs.Due.{no_wake, none_left, take_in}
use Rattle.peer_picking.proofs.Lined.{AreLined, run_lined}
use Rattle.peer_picking.proofs.Stepping.{counted_more, done}
use Rattle.peer_picking.proofs.Waking.{wake_gone, wake_same}

-- the greatest number of a node is no less than that of one of the first
pub most_least : (n : ℕ) (c : Chains) (v : ℕ) → v < n → c.node v ≤ most_below n c.node
most_least zero c v lt = absurd (omega (arith, lt))
most_least (suc n) c v lt = ⊎_elim
    (λ (e : v ≡ n). let same : c.node v ≡ c.node n = ap c.node e in omega (arith, same))
    (λ (ne : v ≢ n). let rest = most_least n c v (omega (arith, lt, ne)) in omega (arith, rest))
    (cases_eq v n)

module _ {S M : Type 0} (r : Rules S M) (may : ℕ → Bool) (g : Shape) where
  -- what is picked stands among the events of the round
  pub picked_among : (es : List Event) (n : ℕ) (words : List ℕ) (e : Event) → IsPick (events_in r may g es n) words e →
      Contains (events_in r may g es n) e
  picked_among es n words e pick =
      let all = events_in r may g es n in
      let k = word_of words % length all in
      subst (λ x. Contains all x) (get_or_from_slice_get all k e e pick.1) (Contains-get_or all k e (slice_get_within all k e pick.1))

  -- in round 0, or nobody may wake
  abbrev pub IsFirst : List Event → ℕ → Type 0
  IsFirst es n =
      (n ≡ 0) ⊎ ((v : ℕ) → HasPlace (network_of g) (Wake v) → is_lawful_under r may (network_of g) (net_after r g es) (Wake v) ≡ false)

  -- where a run by rounds stands
  pub record Stands (es : List Event) (n : ℕ) : Type 0 where
    pub run : IsRun r (network_of g) es
    pub here : ℕ → ℕ → ℕ
    pub next : ℕ → ℕ → ℕ
    pub counted : AreCounted (network_of g) (numbers_of r (network_of g) es) n here next
    pub first : IsFirst es n

  -- an event of a round: it is lawful, and names a node or port of the network
  pub in_lawful : (es : List Event) (n : ℕ) (e : Event) → is_in r may g es n e ≡ true → is_lawful r (network_of g) (net_after r g es) e ≡ true
  in_lawful es n e is = (lawful_parts r may (network_of g) (net_after r g es) e (and_parts _ _ is).0).1

  module _ (never : NeverDefers r) (es : List Event) (n : ℕ) (run : IsRun r (network_of g) es) where
    pub lined : AreLined (numbers_of r (network_of g) es) (net_after r g es)
    lined = run_lined r (network_of g) never es (net_after r g es) (after_is_net r g es run)

    -- and it is timely
    pub timely : (a b : ℕ → ℕ → ℕ) (e : Event) → AreCounted (network_of g) (numbers_of r (network_of g) es) n a b → IsFirst es n →
        is_in r may g es n e ≡ true → IsTimely (network_of g) n a e
    timely a b (Wake v) counted first is = ⊎_elim
        (λ first. first)
        (λ none.
        let has : HasPlace (network_of g) (Wake v) = lawful_place r may (network_of g) (net_after r g es) (Wake v) (in_lawful es n (Wake v) is) in
        let wrong : true ≡ false = sym (and_parts _ _ is).0 ∙ none v has in
        cc wrong)
        first
    timely a b (Take v p) counted first is =
        let at : At (network_of g) v p = lawful_place r may (network_of g) (net_after r g es) (Take v p) (in_lawful es n (Take v p) is) in
        (at, ltb-true 0 (a v p) (sym (take_in r may g es n a b lined counted v p at) ∙ is))

    -- nobody may wake who couldn't before
    pub first_more : StaysAwake r → IsGraph g → (e : Event) (y : Net S M) → happens r (network_of g) (net_after r g es) e ≡ Some y → IsFirst es n →
        IsFirst (es ++ e ∷ []) n
    first_more stays graph e y event first =
        let step = happening r (network_of g) (net_after r g es) y e event in
        let now : net_after r g (es ++ e ∷ []) ≡ y = net_after_more r g es e (net_after r g es) y (after_is_net r g es run) step in
        let is : IsNetOf r g (net_after r g es) = record { graph = graph; events = es; run = after_is_net r g es run } in
        ⊎_elim
        (λ start. inl start)
        (λ none.
        inr (λ v has.
        rw now
        (⊎_elim
        (λ (same : v ≡ event_node e). wake_gone r may g (net_after r g es) y e step stays is v same)
        (λ (ne : v ≢ event_node e). wake_same r may g (net_after r g es) y e step v ne ∙ none v has)
        (cases_eq v (event_node e)))))
        first

  module _ (never : NeverDefers r) (stays : StaysAwake r) (has_rules : HasRules r) (graph : IsGraph g) where
    -- a run behind which an event is lawful goes on with it, and its node has sent something
    goes_on : (es : List Event) (e : Event) → IsRun r (network_of g) es → is_lawful r (network_of g) (net_after r g es) e ≡ true →
        (y : Net S M) × (happens r (network_of g) (net_after r g es) e ≡ Some y)
    goes_on es e run lawful =
        let is : IsNetOf r g (net_after r g es) = record { graph = graph; events = es; run = after_is_net r g es run } in
        go (effect r (network_of g) (net_after r g es) e) refl (has_rules g (net_after r g es) is e lawful)
      where
        go : (o : Option (Net S M)) → effect r (network_of g) (net_after r g es) e ≡ o → IsSome o →
            (y : Net S M) × (happens r (network_of g) (net_after r g es) e ≡ Some y)
        go None k h = cc
        go (Some x) k h = (x, lawful_happens r (network_of g) (net_after r g es) e lawful ∙ k)

    -- what the node of an event has sent
    sends_out : (es : List Event) (e : Event) (y : Net S M) → Happens r (network_of g) (net_after r g es) e y →
        (ss : List (ℕ × M)) × AreSends r (record { graph = g; trace = es }) e ss
    sends_out es _ _ (Woke v o lo hi s k t) = (o.sends, (o, k, refl))
    sends_out es _ _ (Took v p m ms o at q k t) =
        (o.sends, (o, ap (λ (l : List M). r.reaction ((net_after r g es).node v) (delivery p l)) q ∙ k, refl))

    -- one event more
    more : (es : List Event) (n : ℕ) (e : Event) → Stands es n → is_in r may g es n e ≡ true →
        Stands (es ++ e ∷ []) n × ((numbers_of r (network_of g) (es ++ e ∷ [])).node (event_node e) ≡ n) × (event_node e ≤ g.nodes)
    more es n e h is =
        let s : NetState = record { graph = g; trace = es } in
        let on = goes_on es e h.run (in_lawful es n e is) in
        let step = happening r (network_of g) (net_after r g es) on.0 e on.1 in
        let out = sends_out es e on.0 step in
        let next = counted_more r never s e on.0 out.0 graph h.run on.1 out.1 n h.here h.next
        (timely never es n h.run h.here h.next e h.counted h.first is) h.counted in
        let end = done r never s e on.0 out.0 graph h.run on.1 out.1 in (
          record {
            run = (on.0, after_more r (network_of g) es e (net_after r g es) on.0 (after_is_net r g es h.run) step);
            here = took e h.here;
            next = adds (network_of g) (event_node e) out.0 h.next;
            counted = next.0;
            first = first_more never es n h.run stays graph e on.0 on.1 h.first;
          },
          next.1,
          end.node,
        )

    begins : Stands [] 0
    unfolding numbers_of
    begins = record {
      run = (opening r (network_of g), refl);
      here = λ v p. 0;
      next = λ v p. 0;
      counted = record { node = λ v. omega arith; queue = λ v p at. refl };
      first = inl refl;
    }

    -- the next round
    goes_over : (es : List Event) (n : ℕ) → Stands es n → events_in r may g es n ≡ [] → Stands es (suc n)
    goes_over es n h none =
        let line = lined never es n h.run in
        record {
          run = h.run;
          here = h.next;
          next = h.here;
          counted = counted_over (network_of g) n (numbers_of r (network_of g) es) h.here h.next
              (none_left r may g es n h.here h.next line h.counted none) h.counted;
          first = inr (no_wake r may g es n h.here h.next line h.counted none);
        }

    picked_in : (es : List Event) (n : ℕ) (s : List ℕ) (e : Event) → IsPick (events_in r may g es n) s e → is_in r may g es n e ≡ true
    picked_in es n s e pick = (in_filter (is_in r may g es n) (all_events (network_of g)) e (picked_among es n s e pick)).1

    stands : {turns : ℕ} {words : List ℕ} {es : List Event} {n : ℕ} {s : List ℕ} → IsPickedByRounds r may g turns words es n s → Stands es n
    stands Begun = begins
    stands (Picked es n s e p few pick) = (more es n e (stands p) (picked_in es n s e pick)).0
    stands (Over es n s p few some none) = goes_over es n (stands p) none

    chain_within : {es : List Event} {n : ℕ} → Stands es n → longest_chain r (network_of g) es ≤ n
    chain_within {es} {n} h = most_within (suc g.nodes) n (numbers_of r (network_of g) es).node h.counted.node

    chain_is : {turns : ℕ} {words : List ℕ} {es : List Event} {n : ℕ} {s : List ℕ} → IsPickedByRounds r may g turns words es n s →
        lawful_events r may g es ≡ [] → longest_chain r (network_of g) es ≡ n
    chain_is Begun over = let le = chain_within begins in omega (arith, le)
    chain_is (Picked es n s e p few pick) over =
        let last = more es n e (stands p) (picked_in es n s e pick) in
        let le = chain_within last.0 in
        let node = last.2 in
        let ge =
        most_least (suc g.nodes) (numbers_of r (network_of g) (es ++ e ∷ [])) (event_node e) (omega (arith, node)) in
        let is = last.1 in
        omega (arith, le, ge, is)
    chain_is (Over es n s p few some none) over =
        let zero : length (lawful_events r may g es) ≡ 0 = ap length over in absurd (omega (arith, some, zero))

module _ {S M : Type 0} (r : Rules S M) (never : NeverDefers r) (stays : StaysAwake r) (has_rules : HasRules r) where
  pub chains_are_within : ChainsAreWithinRounds r
  chains_are_within may g turns words es n after graph p =
      chain_within r may g never stays has_rules graph (stands r may g never stays has_rules graph p)

  pub rounds_are_chains : RoundsAreChains r
  rounds_are_chains may g turns words es n after graph p over = chain_is r may g never stays has_rules graph p over
