-- What a schedule may rely on: a node's events are its own, a net in which nothing can happen has ended, and patience ends every run.
use Rattle.std.specs.Prelude.{◌≡◌, ◌≢◌, ◌⊎◌, ℕ, ◌+◌, ◌*◌, ◌≤◌, Bool, true, false, List, [], ◌∷◌, ◌++◌, length, Some}
use Rattle.std.specs.List.{All}
use Rattle.ghs_graph.specs.Bound.{IsBound}
use Rattle.ghs_graph.specs.Graph.{Shape}
use Rattle.ghs_graph.specs.Links.{Joined, links}
use Rattle.ghs_node.specs.declared.message.Message.{Message}
use Rattle.ghs_node.specs.declared.message.Phase.TheVariants.{Sleeping}
use Rattle.ghs_node.specs.declared.delta.Delta.{Delta}
use Rattle.peer_network.specs.declared.event.Event.{Event}
use Rattle.peer_network.specs.declared.event.Event.TheVariants.{Wake, Take}
use Rattle.peer_network.specs.Network.{Network, network_of, At}
use Rattle.ghs_protocol.specs.Net.{Net, is_lawful, is_lawful_under}
use Rattle.peer_network.specs.Events.{event_node, MayWake}
use Rattle.peer_network.specs.Wakes.{AllMayWake}
use Rattle.ghs_protocol.specs.Run.{run}
use Rattle.ghs_protocol.specs.Marks.{HasEnded, HasHalted, Leads}
use Rattle.ghs_protocol.specs.Steps.{Happens}
use Rattle.ghs_protocol.specs.Halting.{Reacts}
use Rattle.ghs_protocol.specs.Laws.{IsNetOf}
use Rattle.ghs_protocol.specs.Living.{AnyLink, Waits}

-- Node v is as it was, and what waited there waits still, in its order and before whatever has come since; its events may happen
-- as before, with the same reactions.
pub record LeftAlone (g : Network) (v : ℕ) (w w' : Net) : Type 0 where
  pub node : w'.node v ≡ w.node v
  pub queue : (p : ℕ) → (came : List Message) × (w'.queue v p ≡ w.queue v p ++ came)
  pub lawful : (e : Event) → event_node e ≡ v → is_lawful g w e ≡ true → is_lawful g w' e ≡ true
  pub reacts : (e : Event) (d : Delta) → Reacts w e v d → Reacts w' e v d

-- whatever other nodes do leaves a node alone
abbrev pub OthersLeaveAlone : Type 0
OthersLeaveAlone = (g : Network) (v : ℕ) (es : List Event) (w w' : Net) → All (λ e. event_node e ≢ v) es → run g es w ≡ Some w' → LeftAlone g v w w'

-- no event can happen, where only some nodes wake by themselves
abbrev pub NothingIsReady : (ℕ → Bool) → Network → Net → Type 0
NothingIsReady may g w = (e : Event) → is_lawful_under may g w e ≡ false

-- where nothing can happen, each component with a node that may wake has ended; if each component has one, the run has
abbrev pub StillnessIsEnd : Type 0
StillnessIsEnd =
    (g : Shape) (may : ℕ → Bool) (w : Net) → IsNetOf g w → NothingIsReady may (network_of g) w →
    ((v : ℕ) → 1 ≤ v → v ≤ g.nodes → may v ≡ true → (u : ℕ) × (1 ≤ u) × (u ≤ g.nodes) × Joined (links g.keys) v u × HasHalted w u) ×
    (AllMayWake may g → HasEnded g w)

-- events that end the run, at most b of them
pub record WholeFinish (may : ℕ → Bool) (g : Shape) (w : Net) (b : ℕ) : Type 0 where
  pub events : List Event
  pub may_happen : All (MayWake may) events
  pub few : length events ≤ b
  pub end_net : Net
  pub run_to : run (network_of g) events w ≡ Some end_net
  pub ended : HasEnded g end_net

-- from every moment of a run at most twice as many events as the bound on messages and the nodes together lead to its end
abbrev pub EveryRunCanEndWhole : Type 0
EveryRunCanEndWhole =
    (g : Shape) (may : ℕ → Bool) (w : Net) → IsNetOf g w →
    AllMayWake may g →
    (b : ℕ) → IsBound g.nodes (length g.keys) b →
    WholeFinish may g w (2 * (b + g.nodes))

-- A patient choice: a wake, or a message that doesn't wait, as none does at a sleeper; where all first ones wait, one with a second that doesn't.
pub data IsPatientIn (g : Network) (w : Net) : Event → Type 0 where
  A_wake : (v : ℕ) → IsPatientIn g w (Wake v)
  Moves_on : (v p : ℕ) (m : Message) (ms : List Message) → w.queue v p ≡ m ∷ ms → (Waits (w.node v) p m → ⊥) → IsPatientIn g w (Take v p)
  Uncovers : (v p : ℕ) (m n : Message) (ms : List Message) → w.queue v p ≡ m ∷ n ∷ ms → (Waits (w.node v) p n → ⊥) →
      ((u q : ℕ) → At g u q → (k : Message) (ks : List Message) → w.queue u q ≡ k ∷ ks → Waits (w.node u) q k) → IsPatientIn g w (Take v p)

-- events that happen one after another, each a patient choice
pub data IsPatient (g : Network) : Net → List Event → Type 0 where
  No_more : {w : Net} → IsPatient g w []
  And_then : {w x : Net} {e : Event} {es : List Event} → IsPatientIn g w e → Happens g w e x → IsPatient g x es → IsPatient g w (e ∷ es)

-- patience makes at most twice as many events as the bound on messages and the nodes together
abbrev pub PatientRunsAreShort : Type 0
PatientRunsAreShort =
    (g : Shape) (w : Net) → IsNetOf g w →
    (b : ℕ) → IsBound g.nodes (length g.keys) b →
    (es : List Event) → IsPatient (network_of g) w es →
    length es ≤ 2 * (b + g.nodes)

-- there is a patient choice, or each woken component has ended
abbrev pub PatienceGoesOn : Type 0
PatienceGoesOn =
    (g : Shape) (w : Net) → IsNetOf g w →
    ((e : Event) × (x : Net) × Happens (network_of g) w e x × IsPatientIn (network_of g) w e) ⊎
    ((v : ℕ) → 1 ≤ v → v ≤ g.nodes → (w.node v).head.phase ≢ Sleeping → (u : ℕ) × Leads (network_of g) AnyLink v u × HasHalted w u)

-- there is one under the wake set, or the run has ended
abbrev pub PatienceLasts : Type 0
PatienceLasts =
    (g : Shape) (may : ℕ → Bool) (w : Net) → IsNetOf g w → AllMayWake may g →
    ((e : Event) × (x : Net) × Happens (network_of g) w e x × MayWake may e × IsPatientIn (network_of g) w e) ⊎ HasEnded g w

-- of whatever events a run is made, those that put nothing back are at most as many as the bound on messages and the nodes together
abbrev pub RealEventsAreFew : Type 0
RealEventsAreFew =
    (g : Shape) (w : Net) (es : List Event) (w' : Net) → IsNetOf g w →
    run (network_of g) es w ≡ Some w' →
    (b : ℕ) → IsBound g.nodes (length g.keys) b →
    length es + w.requeued ≤ b + g.nodes + w'.requeued
