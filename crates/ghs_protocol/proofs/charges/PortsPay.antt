-- Each direction of a link pays once.
use Rattle.std.proofs.Common.{◌≡◌, ◌≢◌, ◌⊎◌, inl, inr, ℕ, ◌+◌, ◌-◌, ◌≤◌, ◌==◌, ◌&&◌, not, Bool, true, false, Option, Some, None, List, [], ◌∷◌, refl, sym, ◌∙◌, ap, ap₂, subst, arith, ⊎_elim, eq-eqb, ne_eqb, zero-add, if◌then◌else◌}
use Rattle.std.proofs.lemmas.Bool.{cases_eq}
use Rattle.ghs_graph.specs.Bound.{IsFloorLog2}
use Rattle.ghs_graph.proofs.lemmas.Logs.{floor_log2_is_one}
use Rattle.ghs_node.specs.declared.head.Head.{Head}
use Rattle.ghs_node.specs.declared.mark.Mark.{Mark}
use Rattle.ghs_node.specs.declared.mark.Mark.TheVariants.{Basic, Branch, Rejected}
use Rattle.ghs_node.specs.declared.message.Phase.TheVariants.{Find, Found, Sleeping}
use Rattle.ghs_node.specs.declared.message.Message.{Message}
use Rattle.ghs_node.specs.declared.message.Message.TheVariants.{Connect, Initiate, Test, Accept, Reject, Report, ChangeRoot}
use Rattle.ghs_node.specs.declared.delta.Delta.{Delta}
use Rattle.ghs_node.specs.declared.work.Work.TheVariants.{Deliver}
use Rattle.ghs_node.specs.NodeState.{NodeState, key_at, mark_at}
use Rattle.ghs_node.specs.Words.{is_at}
use Rattle.ghs_node.specs.Reaction.{Ending, Probing, Reporting, Waiting, answered, heard, last_sends, no_probe, passed_on, root_message, searching, reaction}
use Rattle.ghs_node.specs.Rows.{Accept_heard, Awake, AwakeRow, Connect_absorbed, Connect_merges, Connect_waits, Initiate_rests, Initiate_searches, Reject_heard, Report_halts, Report_heard, Report_moves_root, Report_passes, Report_waits, Root_moves, Row, Test_accepted, Test_rejected, Test_waits, Tests_cross, Woken_accepts, Woken_connect_waits, Woken_merges, Woken_test_waits}
use Rattle.peer_network.specs.declared.event.Event.{Event}
use Rattle.peer_network.specs.declared.event.Event.TheVariants as events
use Rattle.ghs_protocol.specs.Interleavings.{PortsPayOnce}
use Rattle.peer_network.specs.Network.{Network, network_of, At}
use Rattle.ghs_protocol.specs.Net.{Net, opening}
use Rattle.ghs_protocol.specs.Run.{IsAfter}
use Rattle.ghs_protocol.specs.Ledger.{of_kind}
use Rattle.ghs_protocol.specs.Nodes.{IsNodeOf}
use Rattle.ghs_protocol.specs.Steps.{Happens, Took, taken}
use Rattle.ghs_protocol.specs.Payments.{added_up, failed, no_accept_first, port_pays}
use Rattle.ghs_protocol.proofs.clauses.Scene.{Ghost, scene}
use Rattle.ghs_protocol.proofs.clauses.Wiring.{Ground}
use Rattle.ghs_protocol.proofs.clauses.Whole.{opening_ghost}
use Rattle.ghs_protocol.proofs.clauses.Floors.{Sound}
use Rattle.ghs_protocol.proofs.clauses.Charges.{Charges, HasCharges, Rises, paid_at}
use Rattle.ghs_protocol.proofs.lemmas.Effects.{taken_here, taken_sent}
use Rattle.peer_network.proofs.lemmas.Graphs.{graph_few}
use Rattle.ghs_protocol.proofs.lemmas.Sends.{messages}
use Rattle.ghs_protocol.proofs.lemmas.Steps.{step_formed}
use Rattle.ghs_protocol.proofs.lemmas.Woken.{One_by, StepBy, StepsBy, Two_by, asleep_or_not, awake_row, event_steps_by}
use Rattle.ghs_protocol.proofs.lemmas.WellFormed.{IsWellFormed, event_row, opening_formed}
use Rattle.peer_network.proofs.lemmas.Wired.{HasFewPorts, IsWired}
use Rattle.ghs_protocol.proofs.charges.Acts.{all_calls, charges_keep, kinds_append}
use Rattle.ghs_protocol.proofs.charges.Runs.{Stepped, by_memory, opening_has, stepped}
use Rattle.ghs_protocol.proofs.charges.Due.{paid_not, paid_once}
use Rattle.ghs_protocol.proofs.charges.Rows.{closes_probe, cross_rises, heard_rises, rejected_rises, search_free}
use Rattle.ghs_protocol.proofs.charges.LevelsPay.{counted}
use Rattle.ghs_protocol.proofs.acts.Grounds.{graph_ground}

-- no Test has failed where the port is probed as before, where none was, and where an Accept came
pub probes_on : (b c : Bool) → ◌≡◌ {A = ℕ} (if b && (not b && c) then 1 else 0) 0
probes_on true c = refl
probes_on false c = refl

pub unprobed : (o : Option ℕ) (p : ℕ) (c : Bool) → o ≡ None → ◌≡◌ {A = ℕ} (if is_at o p && c then 1 else 0) 0
unprobed None p c e = refl
unprobed (Some q) p c e = absurd (let z = e in cc)

probes_so : (b : Bool) → 0 + (if b && (not b && true) then 1 else 0) ≡ 0
probes_so b = let z = probes_on b true in omega (arith, z)

pub accepted_one : (b c : Bool) → ◌≡◌ {A = ℕ} (if b && (not c && false) then 1 else 0) 0
accepted_one true true = refl
accepted_one true false = refl
accepted_one false c = refl

failed_most : (b : Bool) → (if b then 1 else 0) ≤ 1
failed_most true = omega arith
failed_most false = omega arith

no_reject : (h : Head) (e : Ending) → of_kind 4 (messages (last_sends h e)) ≡ 0
no_reject h (Probing p) = refl
no_reject h Reporting = refl
no_reject h Waiting = refl

root_no_reject : (b l : ℕ) (m : Mark) → of_kind 4 (messages ((b, root_message m l) ∷ [])) ≡ 0
root_no_reject b l Basic = refl
root_no_reject b l Branch = refl
root_no_reject b l Rejected = refl

pub first_only : (m : Message) (ms : List Message) → no_accept_first (m ∷ ms) ≡ no_accept_first (m ∷ [])
first_only (Connect l) ms = refl
first_only (Initiate l f s) ms = refl
first_only (Test l f) ms = refl
first_only Accept ms = refl
first_only Reject ms = refl
first_only (Report w) ms = refl
first_only ChangeRoot ms = refl

-- a message was taken
pub record Taking (g : Network) (w : Net) (v p : ℕ) (x : Net) : Type 0 where
  pub message : Message
  pub others : List Message
  pub delta : Delta
  pub waits : w.queue v p ≡ message ∷ others
  pub reacts : reaction (w.node v) (Deliver p message) ≡ Some delta
  pub is : x ≡ taken g v p message others delta w

pub taking : {g : Network} {w : Net} {v p : ℕ} {x : Net} → Happens g w (events.Take v p) x → Taking g w v p x
taking (Took v p m ms d at q r) = record { message = m; others = ms; delta = d; waits = q; reacts = r; is = refl }

-- by a row of the table
pub taken_row : (g : Network) → IsWired g → (w x : Net) (v p : ℕ) → At g v p → IsWellFormed g w → (took : Taking g w v p x) →
    Row (w.node v) (Deliver p took.message) took.delta
taken_row g wired w x v p at f took = event_row g wired v (w.node v) p took.message took.delta at (f.nodes v) took.reacts

module _ (g : Network) (ground : Ground g) (k : ℕ) (log : IsFloorLog2 g.count k) (v p : ℕ) (at : At g v p) where
  -- what v's port p pays for a row of its own
  abbrev owed : Net → Message → Delta → ℕ
  owed w m d =
      of_kind 4 (messages d.sends) +
      (if is_at (w.node v).head.probe p && (not (is_at d.head.probe p) && no_accept_first (m ∷ [])) then 1 else 0)

  -- it pays nothing, or its having paid rises by one
  row_port :
      (w : Net) (is : IsNodeOf g v (w.node v)) (gh : Ghost) (sound : Sound g (scene w gh)) (charges : Charges g k gh.up w) (ms : List Message)
      (m : Message) (d : Delta) →
      w.queue v p ≡ m ∷ ms →
      (w.node v).head.phase ≢ Sleeping →
      AwakeRow (w.node v) p m d →
      (owed w m d ≡ 0) ⊎ ((owed w m d ≤ 1) × Rises g (scene w opening_ghost) (scene (taken g v p m ms d w) opening_ghost) v p 1)
  row_port w is gh sound charges ms m d q up (Connect_absorbed lt few) = inl (probes_so (is_at (w.node v).head.probe p))
  row_port w is gh sound charges ms m d q up (Connect_waits le basic) = inl (probes_so (is_at (w.node v).head.probe p))
  row_port w is gh sound charges ms m d q up (Connect_merges le free lower) = inl (probes_so (is_at (w.node v).head.probe p))
  row_port w is gh sound charges ms m d q up (Initiate_rests {l = l} {f = f} lt) = inl
      (let z = all_calls 0 (w.node v).marks p l f Found 4 (λ e. omega (arith, e)) in
      let y = probes_on (is_at (w.node v).head.probe p) true in omega (arith, z, y))
  row_port w is gh sound charges ms m d q up (Initiate_searches {l = l} {f = f} {e = e} lt few s) =
      inl (let none = search_free g ground k log v p at w is gh sound charges ms l f q in
      let z = all_calls 0 (w.node v).marks p l f Find 4 (λ e. omega (arith, e)) in
      let a = kinds_append 4 (passed_on (w.node v) p l f Find) (last_sends (no_probe (searching (w.node v) p l f)) e) in
      let y = no_reject (no_probe (searching (w.node v) p l f)) e in
      let x = unprobed (w.node v).head.probe p (not (is_at d.head.probe p) && true) none in omega (arith, z, a, y, x))
  row_port w is gh sound charges ms m d q up (Test_waits lt) = inl (probes_so (is_at (w.node v).head.probe p))
  row_port w is gh sound charges ms m d q up (Test_accepted le other) = inl (probes_so (is_at (w.node v).head.probe p))
  row_port w is gh sound charges ms m d q up (Test_rejected {l = l} {f = f} le same free) = inr (
    (let y = probes_on (is_at (w.node v).head.probe p) true in omega (arith, y)),
    rejected_rises g ground k log v p at w is gh sound charges ms l f q same free,
  )
  row_port w is gh sound charges ms m d q up (Tests_cross {l = l} {f = f} {e = e} le same mine s) =
      inr (
        (let y = no_reject (no_probe (w.node v).head) e in
            let z = failed_most (is_at (w.node v).head.probe p && (not (is_at d.head.probe p) && true)) in omega (arith, y, z)),
        cross_rises g ground k log v p at w is gh sound charges ms l f e q same mine s,
      )
  row_port w is gh sound charges ms m d q up (Accept_heard {e = e} mine c) =
      inl (let y = no_reject (answered (w.node v).head p (Some (key_at (w.node v) p))) e in
      let z = accepted_one (is_at (w.node v).head.probe p) (is_at d.head.probe p) in omega (arith, y, z))
  row_port w is gh sound charges ms m d q up (Reject_heard {e = e} mine s) =
      inr (
        (let y = no_reject (no_probe (w.node v).head) e in
            let z = failed_most (is_at (w.node v).head.probe p && (not (is_at d.head.probe p) && true)) in omega (arith, y, z)),
        heard_rises g ground k log v p at w is gh sound charges ms e q mine s,
      )
  row_port w is gh sound charges ms m d q up (Report_heard {w = r} {e = e} c away count s) =
      inl (let y = no_reject (heard (w.node v).head c p r) e in
      let o = closes_probe (heard (w.node v).head c p r) e (w.node v).head.probe s in
      let x =
      ap (λ o. if is_at (w.node v).head.probe p && (not (is_at o p) && true) then 1 else 0) o ∙ probes_on (is_at (w.node v).head.probe p) true in
      omega (arith, y, x))
  row_port w is gh sound charges ms m d q up (Report_waits way finds) = inl (probes_so (is_at (w.node v).head.probe p))
  row_port w is gh sound charges ms m d q up (Report_moves_root b y way found best less) =
      inl (let z = root_no_reject b (w.node v).head.level (mark_at (w.node v) b) in
      let x = probes_on (is_at (w.node v).head.probe p) true in omega (arith, z, x))
  row_port w is gh sound charges ms m d q up (Report_halts way found best) = inl (probes_so (is_at (w.node v).head.probe p))
  row_port w is gh sound charges ms m d q up (Report_passes way found b s) = inl (probes_so (is_at (w.node v).head.probe p))
  row_port w is gh sound charges ms m d q up (Root_moves b y best) =
      inl (let z = root_no_reject b (w.node v).head.level (mark_at (w.node v) b) in
      let x = probes_on (is_at (w.node v).head.probe p) true in omega (arith, z, x))

  -- what a sleeping node does
  woken_port : (w : Net) (m : Message) (d : Delta) →
      (w.node v).head.probe ≡ None →
      (w.node v).head.phase ≡ Sleeping →
      Row (w.node v) (Deliver p m) d →
      owed w m d ≡ 0
  woken_port w m d none s row =
      let x = unprobed (w.node v).head.probe p (not (is_at d.head.probe p) && no_accept_first (m ∷ [])) none in
      let y = kinds row in omega (arith, x, y)
    where
      kinds : {q : ℕ} {m : Message} {d : Delta} → Row (w.node v) (Deliver q m) d → of_kind 4 (messages d.sends) ≡ 0
      kinds (Woken_merges a b) = refl
      kinds (Woken_connect_waits a b c) = refl
      kinds (Woken_test_waits a b c) = refl
      kinds (Woken_accepts a b) = refl
      kinds (Awake up lt row) = absurd (up s)

  -- what port p of v has paid
  pub record Covered (w : Net) (t : ℕ) : Type 0 where
    pub has : HasCharges g k w
    pub within : t ≤ paid_at g (scene w opening_ghost) v p

  step_covered : (u : ℕ) (w x : Net) (t : ℕ) → IsWellFormed g w → Covered w t → StepBy g u w x → Covered x t
  step_covered u w x t f h s = record {
    has =
        record { up = did.up; sound = did.sound; charges = charges_keep g k u did.some did.within h.has.up did.up w x did.acted h.has.charges };
    within = let a = h.within in let b = did.acted.ports.stays v p at in omega (arith, a, b);
  }
    where
      did : Stepped g ground k log w x h.has u
      did = subst (Stepped g ground k log w x h.has) s.by (stepped g ground k log w x f.nodes h.has s.step)

  steps_covered : (u : ℕ) (w x : Net) (t : ℕ) → IsWellFormed g w → Covered w t → StepsBy g u w x → Covered x t
  steps_covered u w x t f h (One_by s) = step_covered u w x t f h s
  steps_covered u w x t f h (Two_by {u = y} s s' level) = step_covered u y x t (step_formed g ground.wired f s.step) (step_covered u w y t f h s) s'

  -- port p of v takes a message
  own_covered : (w x : Net) (t : ℕ) →
      IsWellFormed g w →
      Covered w t →
      Happens g w (events.Take v p) x →
      Covered x (t + ((x.sent 4 - w.sent 4) + failed v p w x))
  own_covered w x t f h happened = record { has = after.has; within = go (asleep_or_not (w.node v).head.phase) }
    where
      took : Taking g w v p x
      took = taking happened

      after : Covered x t
      after = steps_covered v w x t f h (event_steps_by g ground.wired w x (events.Take v p) f.nodes happened)

      fails :
          failed v p w x ≡
          (if is_at (w.node v).head.probe p && (not (is_at took.delta.head.probe p) && no_accept_first (took.message ∷ [])) then 1 else 0)
      fails = ap₂ (λ (n : NodeState) b. if is_at (w.node v).head.probe p && (not (is_at n.head.probe p) && b) then 1 else 0)
          (ap (λ (y : Net). y.node v) took.is ∙ taken_here g v p took.message took.others took.delta w)
          (ap no_accept_first took.waits ∙ first_only took.message took.others)

      sent : x.sent 4 ≡ w.sent 4 + of_kind 4 (messages took.delta.sends)
      sent = ap (λ (y : Net). y.sent 4) took.is ∙ taken_sent g v p took.message took.others took.delta w 4

      all : (x.sent 4 - w.sent 4) + failed v p w x ≡ owed w took.message took.delta
      all = let a = fails in let b = sent in omega (arith, a, b)

      nothing : owed w took.message took.delta ≡ 0 → t + ((x.sent 4 - w.sent 4) + failed v p w x) ≤ paid_at g (scene x opening_ghost) v p
      nothing z = let a = all in let b = after.within in omega (arith, a, b, z)

      one :
          (owed w took.message took.delta ≤ 1) ×
          Rises g (scene w opening_ghost) (scene (taken g v p took.message took.others took.delta w) opening_ghost) v p 1 →
          t + ((x.sent 4 - w.sent 4) + failed v p w x) ≤ paid_at g (scene x opening_ghost) v p
      one z =
          let r = subst (λ (y : Net). Rises g (scene w opening_ghost) (scene y opening_ghost) v p 1) (sym took.is) z.1 in
          let more = (r.more (omega arith)).1 in let a = all in let b = h.within in let c = z.0 in
          omega (arith, a, b, c, more)

      go :
          ((w.node v).head.phase ≡ Sleeping) ⊎ ((w.node v).head.phase ≢ Sleeping) →
          t + ((x.sent 4 - w.sent 4) + failed v p w x) ≤ paid_at g (scene x opening_ghost) v p
      go (inl s) =
          nothing (woken_port w took.message took.delta
          ((h.has.sound.holds.first.nodes v (record { some = at.some; node = at.node })).untouched s).probe s
          (taken_row g ground.wired w x v p at f took))
      go (inr up) = ⊎_elim nothing one
          (row_port w (f.nodes v) h.has.sound.ghost h.has.sound.holds (by_memory g ground k log h.has.sound h.has.charges) took.others took.message
          took.delta took.waits up (awake_row up (taken_row g ground.wired w x v p at f took)))

  plain : (x : Net) (t n : ℕ) → n ≡ 0 → Covered x t → Covered x (t + n)
  plain x t n z c = record { has = c.has; within = let a = c.within in omega (arith, a, z) }

  event_covered : (w x : Net) (e : Event) (t : ℕ) → IsWellFormed g w → Covered w t → Happens g w e x → Covered x (t + port_pays v p w e x)
  event_covered w x (events.Wake u) t f h happened =
      plain x t 0 refl (steps_covered u w x t f h (event_steps_by g ground.wired w x (events.Wake u) f.nodes happened))
  event_covered w x (events.Take u q) t f h happened = ⊎_elim
      (λ (e : u ≡ v). ⊎_elim
      (λ (e' : q ≡ p).
      subst (λ n. Covered x (t + n))
      (sym (ap₂ (λ a b. if a && b then (x.sent 4 - w.sent 4) + failed v p w x else 0) (eq-eqb u v e) (eq-eqb q p e')))
      (own_covered w x t f h (subst (λ y. Happens g w y x) (ap₂ events.Take e e') happened)))
      (λ ne.
      plain x t (port_pays v p w (events.Take u q) x)
      (ap₂ (λ a b. if a && b then (x.sent 4 - w.sent 4) + failed v p w x else 0) (eq-eqb u v e) (ne_eqb q p ne)) aside)
      (cases_eq q p))
      (λ ne.
      plain x t (port_pays v p w (events.Take u q) x)
      (ap (λ a. if a && (q == p) then (x.sent 4 - w.sent 4) + failed v p w x else 0) (ne_eqb u v ne)) aside)
      (cases_eq u v)
    where
      aside : Covered x t
      aside = steps_covered u w x t f h (event_steps_by g ground.wired w x (events.Take u q) f.nodes happened)

  pub port_covered :
      HasFewPorts g →
      (es : List Event) (w : Net) → IsAfter g es w →
      (added_up (port_pays v p) g es (opening g) ≤ 1) × ((w.node v).head.probe ≡ Some p → added_up (port_pays v p) g es (opening g) ≡ 0)
  port_covered few es w after = (
    (let a = c.within in let b = paid_once g (scene w opening_ghost) v p in omega (arith, a, b)),
    λ own. let a = c.within in let b = paid_not g (scene w opening_ghost) v p own in omega (arith, a, b),
  )
    where
      c : Covered w (added_up (port_pays v p) g es (opening g))
      c = subst (Covered w) (zero-add (added_up (port_pays v p) g es (opening g)))
          (counted g ground.wired (port_pays v p) Covered event_covered es (opening g) w 0 (opening_formed g few)
          (record { has = opening_has g ground k log; within = omega arith }) after)

pub ports_pay_once : PortsPayOnce
ports_pay_once g es w ok after v p at =
    let top = floor_log2_is_one g.nodes ok.some in
    port_covered (network_of g) (graph_ground g ok) top.0 top.1 v p at (graph_few g ok) es w after
