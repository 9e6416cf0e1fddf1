-- What an event leaves of the chains, and that no number is greater than the round.
use Rattle.std.proofs.Common.{◌≡◌, ◌≢◌, ℕ, suc, ◌≤◌, Bool, true, false, List, [], ◌∷◌, refl, sym, ◌∙◌, ap, subst, ⊎_elim, inl, inr, ◌⊎◌}
use Rattle.std.specs.List.{Contains, slice_get}
use Rattle.std.proofs.lemmas.Bool.{leb-true}
use Rattle.ghs_graph.proofs.lemmas.Members.{first_in, later_in}
use Rattle.ghs_node.specs.declared.delta.Delta.{Delta}
use Rattle.ghs_node.specs.declared.delta.Fate.{Fate}
use Rattle.ghs_node.specs.declared.delta.Fate.TheVariants.{Requeued}
use Rattle.ghs_node.specs.Words.{Outgoing, is_sleeping}
use Rattle.peer_network.specs.declared.event.Event.{Event}
use Rattle.peer_network.specs.declared.event.Event.TheVariants.{Wake, Take}
use Rattle.peer_network.specs.Network.{Network, far, far_port}
use Rattle.ghs_protocol.specs.Net.{Net}
use Rattle.peer_network.specs.Events.{event_node}
use Rattle.peer_network.proofs.lemmas.Updates.{one_place, put_at_hit, put_at_miss}
use Rattle.ghs_world.specs.Upkeep.{changed}
use Rattle.peer_chains.specs.Chains.{Chains, behind, heard, hears, sent, sent_on, taken}
use Rattle.ghs_following.specs.Chains.{is_deferred, reacted}
use Rattle.peer_chains.proofs.lemmas.Bounding.{Below, IsWithin, behind_below, heard_within, put_below, put_node, sent_within}
use Rattle.ghs_patient.specs.Choices.{far_takes}
use Rattle.ghs_rounds.specs.Rounds.{is_by, is_due}

module _ (g : Network) (v : ℕ) where
  -- no number comes in at a port that none is sent to
  pub unsent : (ss : Outgoing) (c : Chains) (u q : ℕ) → (Contains (far_takes g v ss) (Take u q) → ⊥) → (sent g v ss c).queue u q ≡ c.queue u q
  unsent [] c u q none = refl
  unsent (s ∷ ss) c u q none =
      unsent ss (sent_on g v s.0 c) u q (λ h. none (later_in (Take (far g v s.0) (far_port g v s.0)) (Take u q) _ h))
      ∙ put_at_miss c.queue (far g v s.0) (far_port g v s.0) u q _
      (λ z. none (subst (λ (e : Event). Contains (e ∷ far_takes g v ss) (Take u q)) (ap (λ a. Take a q) z.0 ∙ ap (Take (far g v s.0)) z.1)
      (first_in (Take u q) (far_takes g v ss))))

-- a queue from which nothing is taken
untaken : (v p : ℕ) (asleep : Bool) (f : Fate) (ts : List ℕ) (c : Chains) (u q : ℕ) → ((u ≡ v) × (q ≡ p) → ⊥) →
    (taken v p asleep (is_deferred f) ts c).queue u q ≡ c.queue u q
untaken v p asleep f [] c u q ne = refl
untaken v p asleep f (t ∷ ts) c u q ne = put_at_miss c.queue v p u q (behind (is_deferred f) t ts) ne

pub unheard : (e : Event) (asleep : Bool) (f : Fate) (c : Chains) (u q : ℕ) → e ≢ Take u q →
    (hears e asleep (is_deferred f) c).queue u q ≡ c.queue u q
unheard (Wake v) asleep f c u q ne = refl
unheard (Take v p) asleep f c u q ne = untaken v p asleep f (c.queue v p) c u q (λ z. ne (ap (λ a. Take a p) (sym z.0) ∙ ap (Take u) (sym z.1)))

-- an event changes the queues of what it takes and of what it sends
pub chains_leave : (g : Network) (w : Net) (e : Event) (d : Delta) (c : Chains) (u q : ℕ) → (Contains (changed g e d.sends) (Take u q) → ⊥) →
    (reacted g w e d c).queue u q ≡ c.queue u q
chains_leave g w e d c u q none =
    unsent g (event_node e) d.sends (hears e (is_sleeping (w.node (event_node e)).head.phase) (is_deferred d.fate) c) u q
    (λ h. none (later_in (Wake (event_node e)) (Take u q) (e ∷ far_takes g (event_node e) d.sends)
    (later_in e (Take u q) (far_takes g (event_node e) d.sends) h)))
    ∙ unheard e (is_sleeping (w.node (event_node e)).head.phase) d.fate c u q
    (λ z. none (later_in (Wake (event_node e)) (Take u q) (e ∷ far_takes g (event_node e) d.sends)
    (subst (λ (x : Event). Contains (e ∷ far_takes g (event_node e) d.sends) x) z (first_in e (far_takes g (event_node e) d.sends)))))

-- What is no greater than a number is so after a taking.
taken_below : (v p n : ℕ) (asleep : Bool) (f : Fate) (ts : List ℕ) (c : Chains) (u q : ℕ) → c.queue v p ≡ ts → Below n (c.queue u q) →
    Below n ((taken v p asleep (is_deferred f) ts c).queue u q)
taken_below v p n asleep f [] c u q is b = b
taken_below v p n asleep f (t ∷ ts) c u q is b = ⊎_elim
    (λ (e : (u ≡ v) × (q ≡ p)).
    let P : List ℕ → Type 0 = Below n in
    let here : c.queue u q ≡ t ∷ ts = ap (λ a. c.queue a q) e.0 ∙ ap (c.queue v) e.1 ∙ is in
    subst P (sym (put_at_hit c.queue v p u q (behind (is_deferred f) t ts) e.0 e.1)) (behind_below (is_deferred f) n t ts (subst P here b)))
    (λ ne. let P : List ℕ → Type 0 = Below n in subst P (sym (put_at_miss c.queue v p u q (behind (is_deferred f) t ts) ne)) b)
    (one_place v p u q)

pub heard_below : (e : Event) (n : ℕ) (asleep : Bool) (f : Fate) (c : Chains) (u q : ℕ) → Below n (c.queue u q) →
    Below n ((hears e asleep (is_deferred f) c).queue u q)
heard_below (Wake v) n asleep f c u q b = b
heard_below (Take v p) n asleep f c u q b = taken_below v p n asleep f (c.queue v p) c u q refl b

-- a queue that nothing is sent to is no greater than it was
pub kept_below : (g : Network) (w : Net) (e : Event) (d : Delta) (c : Chains) (n u q : ℕ) →
    (Contains (far_takes g (event_node e) d.sends) (Take u q) → ⊥) → Below n (c.queue u q) → Below n ((reacted g w e d c).queue u q)
kept_below g w e d c n u q none b =
    let P : List ℕ → Type 0 = Below n in
    let asleep = is_sleeping (w.node (event_node e)).head.phase in
    subst P (sym (unsent g (event_node e) d.sends (hears e asleep (is_deferred d.fate) c) u q none)) (heard_below e n asleep d.fate c u q b)

-- By rounds.

-- the event puts a message back to a node that is awake, or takes one that is due
abbrev pub IsTimely : Chains → ℕ → Event → Bool → Fate → Type 0
IsTimely c r e asleep f = (is_due c r e ≡ true) ⊎ ((asleep ≡ false) × (f ≡ Requeued))

heard_timely : (f : Fate) (asleep : Bool) (n t r : ℕ) → n ≤ r → (t ≤ r) ⊎ ((asleep ≡ false) × (f ≡ Requeued)) → heard (is_deferred f) asleep n t ≤ r
heard_timely f asleep n t r le (inl due) = heard_within (is_deferred f) asleep r r n t le due
heard_timely f asleep n t r le (inr back) = rw (back.0, back.1) le

taken_timely : (v p r : ℕ) (asleep : Bool) (f : Fate) (ts : List ℕ) (c : Chains) → c.queue v p ≡ ts → IsWithin r (suc r) c →
    (is_by r (slice_get ts 0) ≡ true) ⊎ ((asleep ≡ false) × (f ≡ Requeued)) → IsWithin r (suc r) (taken v p asleep (is_deferred f) ts c)
taken_timely v p r asleep f [] c is w timely = w
taken_timely v p r asleep f (t ∷ ts) c is w timely = record {
  node = put_node r c.node v (heard (is_deferred f) asleep (c.node v) t) w.node
      (heard_timely f asleep (c.node v) t r (w.node v) (⊎_elim (λ b. inl (leb-true t r b)) inr timely));
  queue = put_below (suc r) c.queue v p (behind (is_deferred f) t ts) w.queue
      (behind_below (is_deferred f) (suc r) t ts (let P : List ℕ → Type 0 = Below (suc r) in subst P is (w.queue v p)));
}

pub hears_timely : (e : Event) (r : ℕ) (asleep : Bool) (f : Fate) (c : Chains) → IsWithin r (suc r) c → IsTimely c r e asleep f →
    IsWithin r (suc r) (hears e asleep (is_deferred f) c)
hears_timely (Wake v) r asleep f c w timely = w
hears_timely (Take v p) r asleep f c w timely = taken_timely v p r asleep f (c.queue v p) c refl w timely

pub reacted_timely : (g : Network) (w : Net) (e : Event) (d : Delta) (r : ℕ) (c : Chains) → IsWithin r (suc r) c →
    IsTimely c r e (is_sleeping (w.node (event_node e)).head.phase) d.fate → IsWithin r (suc r) (reacted g w e d c)
reacted_timely g w e d r c i timely =
    sent_within g (event_node e) r d.sends _ (hears_timely e r (is_sleeping (w.node (event_node e)).head.phase) d.fate c i timely)
