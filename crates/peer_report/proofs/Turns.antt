-- Turns for the bound and the nodes are enough: a run that goes on is followed by a longer one, and no run is longer than that.
use Rattle.std.proofs.Common.{◌≡◌, ℕ, ◌+◌, ◌<◌, ◌≤◌, Bool, true, Option, Some, None, IsSome, List, [], ◌∷◌, ◌++◌, length, length-append, arith, refl, subst, sym, ◌∙◌}
use Rattle.std.specs.List.{Contains}
use Rattle.std.proofs.lemmas.Bool.{and_parts}
use Rattle.ghs_graph.specs.Graph.{Shape, IsGraph}
use Rattle.ghs_graph.proofs.lemmas.Members.{first_in, in_filter}
use Rattle.peer_network.specs.declared.event.Event.{Event}
use Rattle.peer_network.specs.declared.event.Event.TheVariants.{Wake, Take}
use Rattle.peer_network.specs.Network.{Network, network_of}
use Rattle.peer_index.specs.Places.{all_events}
use Rattle.peer_network.specs.Wakes.{may_wake}
use Rattle.peer_machine.specs.Net.{Net, effect, is_lawful, opening}
use Rattle.peer_machine.specs.Run.{IsAfter, IsNetOf, IsRun, net_after}
use Rattle.peer_machine.proofs.lemmas.Events.{lawful_happens}
use Rattle.peer_machine.proofs.lemmas.Runs.{after_is_net, run_more}
use Rattle.peer_runs.specs.Lawful.{is_lawful_under, lawful_events}
use Rattle.peer_machine.specs.Protocol.{HasRules, IsBoundedBy, StaysAwake}
use Rattle.peer_machine.specs.Rules.{HasKinds, NeverDefers, Rules}
use Rattle.peer_machine.proofs.lemmas.Ends.{events_few}
use Rattle.peer_report.specs.Runs.{TurnsSuffice}

-- what may happen under a wake set is lawful
lawful_of : {S M : Type 0} (r : Rules S M) (may : ℕ → Bool) (g : Network) (w : Net S M) (e : Event) → is_lawful_under r may g w e ≡ true →
    is_lawful r g w e ≡ true
lawful_of r may g w (Wake v) t = (and_parts (is_lawful r g w (Wake v)) (may v) t).0
lawful_of r may g w (Take v p) t = t

-- a run behind which an event is lawful goes on with it
longer : {S M : Type 0} (r : Rules S M) → HasRules r → (g : Shape) (es : List Event) (e : Event) → IsGraph g → IsRun r (network_of g) es →
    is_lawful r (network_of g) (net_after r g es) e ≡ true → IsRun r (network_of g) (es ++ e ∷ [])
longer {S} {M} r has_rules g es e ok run lawful =
    let after = after_is_net r g es run in
    let is : IsNetOf r g (net_after r g es) = record { graph = ok; events = es; run = after } in
    go after (effect r (network_of g) (net_after r g es) e) refl (has_rules g (net_after r g es) is e lawful)
  where
    go : IsAfter r (network_of g) es (net_after r g es) → (o : Option (Net S M)) →
        effect r (network_of g) (net_after r g es) e ≡ o → IsSome o → IsRun r (network_of g) (es ++ e ∷ [])
    go after None k h = cc
    go after (Some x) k h = (
      x,
      run_more r (network_of g) es e (opening r (network_of g)) (net_after r g es) after
          ∙ (lawful_happens r (network_of g) (net_after r g es) e lawful ∙ k),
    )

-- what is sent bounds the events
short : {S M : Type 0} (r : Rules S M) (bound : Shape → ℕ) → NeverDefers r → StaysAwake r → HasKinds r → IsBoundedBy r bound → (g : Shape) →
    IsGraph g → (es : List Event) → IsRun r (network_of g) es → length es ≤ bound g + g.nodes
short r bound never stays kinds within g ok es run =
    let few = events_few r never stays kinds g es run.0 ok run.1 in
    let most = within g run.0 (record { graph = ok; events = es; run = run.1 }) in
    omega (arith, few, most)

pub turns_suffice : {S M : Type 0} (r : Rules S M) (has_ended : Shape → Net S M → Type 0) (bound : Shape → ℕ) → NeverDefers r → StaysAwake r →
    HasKinds r → HasRules r → IsBoundedBy r bound → TurnsSuffice r has_ended bound
turns_suffice r has_ended bound never stays kinds has_rules within kind seed wake turns g es enough stopped = among (lawful_events r
    (may_wake g wake) g es) refl stopped.more
  where
    among : (fs : List Event) → lawful_events r (may_wake g wake) g es ≡ fs → 0 < length fs → ⊥
    among [] k some = absurd (omega (arith, some))
    among (e ∷ fs) k some =
        let has : Contains (lawful_events r (may_wake g wake) g es) e = subst (λ (l : List Event). Contains l e) (sym k) (first_in e fs) in
        let may =
        (in_filter (is_lawful_under r (may_wake g wake) (network_of g) (net_after r g es)) (all_events (network_of g)) e has).1 in
        let lawful = lawful_of r (may_wake g wake) (network_of g) (net_after r g es) e may in
        let few = short r bound never stays kinds within g stopped.by.graph (es ++ e ∷ [])
        (longer r has_rules g es e stopped.by.graph stopped.by.run.0 lawful) in
        let count = length-append es (e ∷ []) in
        let used = stopped.used in
        absurd (omega (arith, few, count, used, enough))
