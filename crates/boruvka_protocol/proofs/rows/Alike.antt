-- Two nets that agree in what clauses read of their nodes and queues.
use Rattle.std.proofs.Common.{◌≡◌, ℕ, Bool, Option, List, ap, subst}
use Rattle.peer_network.specs.Network.{Network, At}
use Rattle.peer_machine.specs.Net.{Net}
use Rattle.boruvka_node.specs.declared.head.Head.{Head}
use Rattle.boruvka_node.specs.declared.message.Message.{Message}
use Rattle.boruvka_node.specs.declared.message.Phase.{Phase}
use Rattle.boruvka_node.specs.State.{State}
use Rattle.boruvka_protocol.proofs.invariant.Words.{IsPast}
use Rattle.boruvka_protocol.proofs.invariant.Sides.{calls_in, reports_in, passes_in}

module _ (w w' : Net State Message) where
  abbrev pub SameHeads : Type 0
  SameHeads = (u : ℕ) → (w.node u).head ≡ (w'.node u).head

  abbrev pub SameLevels : Type 0
  SameLevels = (u : ℕ) → ◌≡◌ {A = ℕ} (w.node u).head.level (w'.node u).head.level

  abbrev pub SamePhases : Type 0
  SamePhases = (u : ℕ) → ◌≡◌ {A = Phase} (w.node u).head.phase (w'.node u).head.phase

  abbrev pub SameOuts : Type 0
  SameOuts = (u : ℕ) → ◌≡◌ {A = Option ℕ} (w.node u).head.out (w'.node u).head.out

  abbrev pub SameHalted : Type 0
  SameHalted = (u : ℕ) → ◌≡◌ {A = Bool} (w.node u).head.halted (w'.node u).head.halted

  pub levels_alike : SameHeads → SameLevels
  levels_alike heads u = ap (λ (x : Head). x.level) (heads u)

  pub phases_alike : SameHeads → SamePhases
  phases_alike heads u = ap (λ (x : Head). x.phase) (heads u)

  -- who was past a level is so in the later net
  abbrev pub PastStays : Type 0
  PastStays = (m u : ℕ) → IsPast m (w.node u).head.level (w.node u).head.phase → IsPast m (w'.node u).head.level (w'.node u).head.phase

  pub past_alike : SameLevels → SamePhases → PastStays
  past_alike levels phases m u h =
      subst (λ x. IsPast m (w'.node u).head.level x) (phases u) (subst (λ x. IsPast m x (w.node u).head.phase) (levels u) h)

-- by this count as much waits at each port
abbrev pub AsMany : Network → (List Message → ℕ) → Net State Message → Net State Message → Type 0
AsMany g P w w' = (u p : ℕ) → At g u p → ◌≡◌ {A = ℕ} (P (w.queue u p)) (P (w'.queue u p))

-- as many ChangeRoots do, and as many Reports
abbrev pub AsManyPasses : Network → Net State Message → Net State Message → Type 0
AsManyPasses g w w' = AsMany g (λ q. passes_in q) w w'

abbrev pub AsManyReports : Network → Net State Message → Net State Message → Type 0
AsManyReports g w w' = AsMany g (λ q. reports_in (calls_in q)) w w'
