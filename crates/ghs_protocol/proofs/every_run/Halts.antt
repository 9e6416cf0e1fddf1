-- A node has halted exactly where one of its reactions has halted it.
use Rattle.std.proofs.Common.{◌≡◌, ℕ, ◌⊎◌, inl, inr, ⊎_elim, ◌↔◌, Bool, true, false, ◌||◌, List, [], ◌∷◌, refl, sym, ◌∙◌, ap, subst, Some}
use Rattle.std.proofs.lemmas.Bool.{cases_eq, or_cases}
use Rattle.std.proofs.lemmas.Option.{same_Some}
use Rattle.ghs_node.specs.declared.message.Message.{Message}
use Rattle.ghs_node.specs.declared.delta.Delta.{Delta}
use Rattle.ghs_node.specs.declared.work.Work.TheVariants.{Wake, Deliver}
use Rattle.ghs_node.specs.NodeState.{NodeState}
use Rattle.ghs_node.specs.Reaction.{reaction}
use Rattle.ghs_node.proofs.lemmas.{reaction_inverts, row_halts}
use Rattle.peer_network.specs.declared.event.Event.{Event}
use Rattle.peer_network.specs.declared.event.Event.TheVariants as events
use Rattle.peer_network.specs.Network.{Network}
use Rattle.peer_network.proofs.lemmas.Wired.{IsWired, HasFewPorts}
use Rattle.ghs_protocol.specs.Net.{Net, opening, happens, take_first}
use Rattle.ghs_protocol.specs.Run.{run, and_then, IsAfter}
use Rattle.ghs_protocol.specs.Marks.{HasHalted}
use Rattle.ghs_protocol.specs.Steps.{reacted, Happens, Woke, Took}
use Rattle.ghs_protocol.specs.Halting.{Reacts, By_waking, By_taking, Halts, Now, Later}
use Rattle.ghs_protocol.proofs.lemmas.Events.{happening}
use Rattle.ghs_protocol.proofs.lemmas.Runs.{both_some}
use Rattle.ghs_protocol.proofs.lemmas.Sends.{node_here, node_there}
use Rattle.ghs_protocol.proofs.lemmas.WellFormed.{IsWellFormed, event_row, event_formed, opening_formed}
use Rattle.ghs_protocol.proofs.lemmas.Lasting.{run_lasts}
use Rattle.ghs_protocol.proofs.lemmas.Queues.{same_first}

or_right : (a b : Bool) → b ≡ true → (a || b) ≡ true
or_right true b e = refl
or_right false b e = e

-- the net after a reaction of u: where v has halted it had before, or it is u, which this reaction halts
halted_by : (g : Network) (w w1 : Net) (u v : ℕ) (d : Delta) (e : Event) → w1.node ≡ w.node →
    d.head.halted ≡ ((w.node u).head.halted || d.halts) → Reacts w e u d → HasHalted (reacted g u d w1) v →
    HasHalted w v ⊎ ((x : Delta) × Reacts w e v x × (x.halts ≡ true))
halted_by g w w1 u v d e nodes sets r h =
    ⊎_elim here
    (λ ne. inl (sym (ap (λ (n : NodeState). n.head.halted) (node_there g u d w1 v ne ∙ ap (λ (f : ℕ → NodeState). f v) nodes)) ∙ h))
    (cases_eq v u)
  where
    here : v ≡ u → HasHalted w v ⊎ ((x : Delta) × Reacts w e v x × (x.halts ≡ true))
    here is =
        let now : d.head.halted ≡ true = sym (ap (λ (n : NodeState). n.head.halted) (ap (reacted g u d w1).node is ∙ node_here g u d w1)) ∙ h in
        ⊎_elim (λ a. inl (ap (λ y. (w.node y).head.halted) is ∙ a)) (λ b. inr (d, subst (λ y. Reacts w e y d) (sym is) r, b))
        (or_cases _ _ (sym sets ∙ now))

-- the node that reacts has halted, where the reaction halts it
halts_here : (g : Network) (w w1 : Net) (u : ℕ) (d : Delta) → d.head.halted ≡ ((w.node u).head.halted || d.halts) → d.halts ≡ true →
    HasHalted (reacted g u d w1) u
halts_here g w w1 u d sets h = ap (λ (n : NodeState). n.head.halted) (node_here g u d w1) ∙ sets ∙ or_right _ _ h

module _ (g : Network) (wired : IsWired g) where
  event_halted : (w w' : Net) (e : Event) (v : ℕ) → IsWellFormed g w → Happens g w e w' → HasHalted w' v →
      HasHalted w v ⊎ ((d : Delta) × Reacts w e v d × (d.halts ≡ true))
  event_halted w _ _ v f (Woke u d lo hi s r) h =
      halted_by g w w u v d (events.Wake u) refl (row_halts (w.node u) Wake d (reaction_inverts (w.node u) Wake d tt r)) (By_waking r) h
  event_halted w _ _ v f (Took u p m ms d at q r) h =
      halted_by g w (take_first d.fate u p m ms w) u v d (events.Take u p) refl
      (row_halts (w.node u) (Deliver p m) d (event_row g wired u (w.node u) p m d at (f.nodes u) r)) (By_taking q r) h

  event_halts : (w w' : Net) (e : Event) (v : ℕ) (d : Delta) → IsWellFormed g w → Happens g w e w' → Reacts w e v d → d.halts ≡ true → HasHalted w' v
  event_halts w _ _ _ d f (Woke u d' lo hi s r) (By_waking r') h =
      let e = same_Some d d' (sym r' ∙ r) in
      halts_here g w w u d' (row_halts (w.node u) Wake d' (reaction_inverts (w.node u) Wake d' tt r)) (ap (λ (x : Delta). x.halts) (sym e) ∙ h)
  event_halts w _ _ _ d f (Took u p m ms d' at q r) (By_taking {m = m'} {ms = ms'} q' r') h =
      let same = same_first m' m ms' ms (sym q' ∙ q) in
      let e = same_Some d d' (sym r' ∙ ap (λ (x : Message). reaction (w.node u) (Deliver p x)) same ∙ r) in
      halts_here g w (take_first d'.fate u p m ms w) u d'
      (row_halts (w.node u) (Deliver p m) d' (event_row g wired u (w.node u) p m d' at (f.nodes u) r))
      (ap (λ (x : Delta). x.halts) (sym e) ∙ h)

  -- a halting reaction in a run leaves the node halted
  pub halts_last : {v : ℕ} {w : Net} {es : List Event} → (w' : Net) → IsWellFormed g w → Halts g v w es → run g es w ≡ Some w' → HasHalted w' v
  halts_last {v} {w} w' f (Now {e = e} {es = es} d r h) k =
      both_some (happens g w e) (λ x. run g es x) w' k
      (λ x a b.
      let t = happening g w x e a in (run_lasts g wired es x w' (event_formed g wired w x e f t) b v).halted (event_halts w x e v d f t r h))
  halts_last {v} {w} w' f (Later {x = x} {e = e} {es = es} a l) k =
      halts_last w' (event_formed g wired w x e f (happening g w x e a)) l (sym (ap (λ o. and_then o (λ y. run g es y)) a) ∙ k)

  -- a node that has halted had before, or one of its reactions has halted it
  pub halted_so : (v : ℕ) (es : List Event) (w w' : Net) → IsWellFormed g w → run g es w ≡ Some w' → HasHalted w' v → HasHalted w v ⊎ Halts g v w es
  halted_so v [] w w' f k h = inl (ap (λ (x : Net). (x.node v).head.halted) (same_Some _ _ k) ∙ h)
  halted_so v (e ∷ es) w w' f k h =
      both_some (happens g w e) (λ x. run g es x) w' k
      (λ x a b.
      let t = happening g w x e a in
      ⊎_elim
      (λ i. ⊎_elim (λ j. inl j) (λ j. inr (Now j.0 j.1 j.2)) (event_halted w x e v f t i))
      (λ i. inr (Later a i)) (halted_so v es x w' (event_formed g wired w x e f t) b h))

  pub after_halted : HasFewPorts g → (es : List Event) (w : Net) (v : ℕ) → IsAfter g es w → (HasHalted w v ↔ Halts g v (opening g) es)
  after_halted few es w v k = (
    λ h.
        ⊎_elim (λ i. absurd (let z : false ≡ true = i in cc)) (λ i. i) (halted_so v es (opening g) w (opening_formed g few) k h),
    λ h. halts_last w (opening_formed g few) h k,
  )
