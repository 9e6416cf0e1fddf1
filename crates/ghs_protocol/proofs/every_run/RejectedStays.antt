-- A Rejected mark stays, in runs in which no reaction makes a Rejected port Branch.
use Rattle.std.proofs.Common.{◌≡◌, ◌≢◌, ℕ, ⊎_elim, List, ◌∷◌, refl, ◌∙◌, subst, arith, Option, Some, get_or}
use Rattle.ghs_node.specs.declared.mark.Mark.{Mark}
use Rattle.ghs_node.specs.declared.mark.Mark.TheVariants.{Branch, Rejected}
use Rattle.ghs_node.specs.declared.message.Message.{Message}
use Rattle.ghs_node.specs.declared.delta.Delta.{Delta}
use Rattle.ghs_node.specs.NodeState.{NodeState, mark_at, with_mark}
use Rattle.ghs_node.specs.Rows.{AwakeRow}
use Rattle.ghs_node.specs.Laws.{MarkChange, Stays, To_branch, To_rejected}
use Rattle.ghs_node.proofs.lemmas.{awake_marks, mark_set}
use Rattle.peer_network.specs.declared.event.Event.{Event}
use Rattle.peer_network.specs.Network.{Network, At}
use Rattle.peer_network.proofs.lemmas.Wired.{IsWired}
use Rattle.ghs_protocol.specs.Net.{Net, take_first}
use Rattle.ghs_protocol.specs.Run.{run}
use Rattle.ghs_protocol.proofs.lemmas.WellFormed.{IsWellFormed}
use Rattle.ghs_protocol.specs.Steps.{waking, Step, Wakes_up, Takes_one}
use Rattle.ghs_protocol.proofs.lemmas.Nodes.{AllNodes, ports_many, node_by_node}
use Rattle.ghs_protocol.proofs.lemmas.Woken.{asleep_basic}
use Rattle.ghs_protocol.proofs.lemmas.Steps.{relates_by_steps}

-- in this net no reaction makes a Rejected port Branch
abbrev pub SparesRejected : Network → Net → Type 0
SparesRejected g w =
    (v p q : ℕ) (m : Message) (ms : List Message) (d : Delta) → At g v p → w.queue v p ≡ m ∷ ms → AwakeRow (w.node v) p m d → d.mark ≡ Some
    (q, Branch) → mark_at (w.node v) q ≢ Rejected

-- a node's ports that were Rejected are so
abbrev pub RejectedLast : Network → ℕ → NodeState → NodeState → Type 0
RejectedLast g v n n' = (p : ℕ) → At g v p → mark_at n p ≡ Rejected → mark_at n' p ≡ Rejected

rejected_stays : (n : NodeState) (o : Option (ℕ × Mark)) (q : ℕ) → MarkChange n o →
    ((p : ℕ) → o ≡ Some (p, Branch) → mark_at n p ≢ Rejected) → mark_at n q ≡ Rejected → get_or (with_mark n.marks o) q Rejected ≡ Rejected
rejected_stays n _ q Stays spare h = h
rejected_stays n _ q (To_branch p lt) spare h =
    ⊎_elim (λ e. e ∙ h) (λ e. absurd (spare p refl (subst (λ x. mark_at n x ≡ Rejected) e.0 h))) (mark_set n.marks p q Branch)
rejected_stays n _ q (To_rejected p lt b) spare h = ⊎_elim (λ e. e ∙ h) (λ e. e.1) (mark_set n.marks p q Rejected)

module _ (g : Network) where
  step_rejected : (w w' : Net) → IsWellFormed g w → SparesRejected g w → Step g w w' → AllNodes (RejectedLast g) w w'
  step_rejected w w' f spare (Wakes_up u lo hi s) =
      node_by_node g u (waking (w.node u)) w w refl (RejectedLast g) (λ p at h. absurd (basic p at h)) (λ v ne p at h. h)
    where
      basic : (p : ℕ) → At g u p → mark_at (w.node u) p ≡ Rejected → ⊥
      basic p at h = let b = asleep_basic (w.node u) p (f.nodes u).node s (let lt = at.port in omega (arith, lt, ports_many (f.nodes u))) in cc
  step_rejected w w' f spare (Takes_one u j m ms d at q up row) =
      node_by_node g u d w (take_first d.fate u j m ms w) refl (RejectedLast g)
      (λ p k h. rejected_stays (w.node u) d.mark p change (λ i e. spare u j i m ms d at q row e) h) (λ v ne p k h. h)
    where
      change : MarkChange (w.node u) d.mark
      change = awake_marks (f.nodes u).node (let lt = at.port in omega (arith, lt, ports_many (f.nodes u))) row

  -- Between two moments of a run, where an invariant that each step keeps tells that Rejected ports are spared.
  pub run_rejected : IsWired g → (I : Net → Type 0) → ((w w' : Net) → IsWellFormed g w → I w → Step g w w' → I w') →
      ((w : Net) → IsWellFormed g w → I w → SparesRejected g w) → (es : List Event) (w w' : Net) → IsWellFormed g w → I w →
      run g es w ≡ Some w' → AllNodes (RejectedLast g) w w'
  run_rejected wired I each spares es w w' f i h =
      relates_by_steps g wired I (AllNodes (RejectedLast g)) (λ x v p at e. e) (λ x y z s t v p at e. t v p at (s v p at e))
      (λ x y k l t. (each x y k l t, step_rejected x y k (spares x k l) t)) es w w' f i h
