-- Counts are bounded by the number of events: what a take counts, and how many messages a reaction sends.
use Rattle.std.proofs.Common.{◌≡◌, ℕ, ◌+◌, ◌*◌, ◌≤◌, ◌==◌, List, [], ◌∷◌, length, refl, sym, ◌∙◌, ap, cond, arith, Some, add-zero, le_of_eq}
use Rattle.std.proofs.lemmas.List.{length-map}
use Rattle.std.proofs.lemmas.Option.{same_Some}
use Rattle.ghs_node.specs.declared.message.Message.{Message}
use Rattle.ghs_node.specs.declared.message.Message.TheVariants.{Connect, Initiate, Test, Accept, Reject, Report, ChangeRoot}
use Rattle.ghs_node.specs.declared.delta.Delta.{Delta}
use Rattle.ghs_node.specs.declared.work.Work.TheVariants.{Wake}
use Rattle.ghs_node.specs.Kind.{kind_of, place_of}
use Rattle.ghs_node.proofs.lemmas.{reaction_inverts}
use Rattle.peer_network.specs.declared.event.Event.{Event}
use Rattle.peer_network.specs.Network.{Network}
use Rattle.peer_network.proofs.lemmas.Wired.{IsWired}
use Rattle.ghs_protocol.specs.Net.{Net, happens, take_first, one_if_consumed}
use Rattle.ghs_protocol.specs.Run.{run}
use Rattle.ghs_protocol.specs.Ledger.{in_all, of_kind}
use Rattle.peer_network.specs.Events.{takes_in}
use Rattle.ghs_protocol.specs.Steps.{reacted, taken, Happens, Woke, Took}
use Rattle.ghs_protocol.proofs.lemmas.Sends.{messages, sent_now, consumed_now, requeued_now}
use Rattle.peer_network.proofs.lemmas.Sums.{sum_same, sum_add}
use Rattle.ghs_protocol.proofs.lemmas.Balance.{kinds_in_all, one_fate}
use Rattle.ghs_protocol.proofs.lemmas.Effects.{taken_consumed, taken_requeued}
use Rattle.ghs_protocol.proofs.lemmas.Events.{happening}
use Rattle.ghs_protocol.proofs.lemmas.Runs.{both_some}
use Rattle.ghs_protocol.proofs.lemmas.WellFormed.{IsWellFormed, event_row, event_formed}
use Rattle.ghs_protocol.proofs.lemmas.Few.{row_few}

one_kind_of : (m : Message) (c : ℕ) → in_all (λ k. cond (place_of (kind_of m) == k) c 0) ≡ c
one_kind_of (Connect l) c = omega arith
one_kind_of (Initiate l f s) c = omega arith
one_kind_of (Test l f) c = omega arith
one_kind_of Accept c = omega arith
one_kind_of Reject c = omega arith
one_kind_of (Report w) c = omega arith
one_kind_of ChangeRoot c = omega arith

module _ (g : Network) where
  -- a reaction's sends, over all kinds
  sent_in_all : (v : ℕ) (d : Delta) (w : Net) → in_all (reacted g v d w).sent ≡ in_all w.sent + length d.sends
  sent_in_all v d w =
      sum_same 7 _ _ (λ k lt. sent_now g v d w k) ∙ sum_add 7 w.sent (λ k. of_kind k (messages d.sends))
      ∙ ap (λ x. in_all w.sent + x) (kinds_in_all (messages d.sends) ∙ length-map d.sends _)

  -- a take is counted once, as consumed or as requeued
  taken_in_all : (v p : ℕ) (m : Message) (ms : List Message) (d : Delta) (w : Net) →
      in_all (taken g v p m ms d w).consumed + (taken g v p m ms d w).requeued ≡ in_all w.consumed + w.requeued + 1
  taken_in_all v p m ms d w =
      let c : in_all (taken g v p m ms d w).consumed ≡ in_all w.consumed + one_if_consumed d.fate =
      sum_same 7 _ _ (λ k lt. taken_consumed g v p m ms d w k) ∙
      sum_add 7 w.consumed (λ k. cond (place_of (kind_of m) == k) (one_if_consumed d.fate) 0) ∙
      ap (λ x. in_all w.consumed + x) (one_kind_of m (one_if_consumed d.fate)) in
      omega (arith, c, taken_requeued g v p m ms d w, one_fate d.fate)

  event_counts : (w w' : Net) (e : Event) (es : List Event) → Happens g w e w' →
      in_all w'.consumed + w'.requeued + takes_in es ≡ in_all w.consumed + w.requeued + takes_in (e ∷ es)
  event_counts w _ _ es (Woke v d lo hi s r) = rw (consumed_now g v d w, requeued_now g v d w) refl
  event_counts w _ _ es (Took v p m ms d at q r) = omega (arith, taken_in_all v p m ms d w)

  -- a message that is taken is counted once
  pub run_counts : (es : List Event) (w w' : Net) →
      run g es w ≡ Some w' →
      in_all w'.consumed + w'.requeued ≡ in_all w.consumed + w.requeued + takes_in es
  run_counts [] w w' h = ap (λ (x : Net). in_all x.consumed + x.requeued) (sym (same_Some _ _ h)) ∙ sym (add-zero _)
  run_counts (e ∷ es) w w' h =
      both_some (happens g w e) (λ x. run g es x) w' h (λ x a b. run_counts es x w' b ∙ event_counts w x e es (happening g w x e a))

  module _ (wired : IsWired g) where
    event_sends : (w w' : Net) (e : Event) → IsWellFormed g w → Happens g w e w' → in_all w'.sent ≤ in_all w.sent + 8388609
    event_sends w _ _ f (Woke v d lo hi s r) =
        let few = row_few (reaction_inverts (w.node v) Wake d tt r) in
        omega (arith, sent_in_all v d w, few, (f.nodes v).node.few)
    event_sends w _ _ f (Took v p m ms d at q r) =
        let few = row_few (event_row g wired v (w.node v) p m d at (f.nodes v) r) in
        omega (arith, sent_in_all v d (take_first d.fate v p m ms w), few, (f.nodes v).node.few)

    -- each event sends a bounded number of messages
    pub run_sends : (es : List Event) (w w' : Net) → IsWellFormed g w → run g es w ≡ Some w' → in_all w'.sent ≤ in_all w.sent + length es * 8388609
    run_sends [] w w' f h = le_of_eq (ap (λ (x : Net). in_all x.sent) (sym (same_Some _ _ h)) ∙ sym (add-zero _))
    run_sends (e ∷ es) w w' f h = both_some (happens g w e) (λ x. run g es x) w' h (λ x a b.
        let t = happening g w x e a in
        omega (arith, run_sends es x w' (event_formed g wired w x e f t) b, event_sends w x e f t))
