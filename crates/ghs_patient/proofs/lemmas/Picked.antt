-- What is picked of one list or, where it is empty, of another.
use Rattle.std.proofs.Common.{◌≡◌, ℕ, Bool, true, not, List, [], ◌∷◌, refl, sym, ◌∙◌, ap, subst, inl, inr, ◌⊎◌}
use Rattle.std.specs.List.{Contains}
use Rattle.std.proofs.lemmas.Bool.{and_parts}
use Rattle.std.proofs.lemmas.List.Elements.{Contains-get_or}
use Rattle.std.proofs.lemmas.Option.{get_or_from_slice_get, slice_get_within}
use Rattle.ghs_node.specs.declared.message.Message.{Message}
use Rattle.ghs_node.specs.NodeState.{NodeState}
use Rattle.peer_network.specs.declared.event.Event.{Event}
use Rattle.peer_network.specs.declared.event.Event.TheVariants.{Take}
use Rattle.peer_network.specs.Network.{Network, is_port}
use Rattle.ghs_protocol.specs.Net.{Net, is_lawful_under, is_waiting}
use Rattle.ghs_protocol.specs.Schedules.{IsPatientIn, Moves_on}
use Rattle.ghs_core.specs.Waits.{waits}
use Rattle.ghs_core.proofs.lemmas.Waiting.{waits_test}
use Rattle.peer_schedule.specs.Picks.{IsPick}
use Rattle.ghs_patient.specs.Patience.{first_waits, or_else, puts_back, second_goes}

-- it stands in one of the lists, and in the second only where the first is empty
pub in_either : (es fs : List Event) (e : Event) → Contains (or_else es fs) e → Contains es e ⊎ ((es ≡ []) × Contains fs e)
in_either [] fs e h = inr (refl, h)
in_either (x ∷ es) fs e h = inl h

-- a pick stands in its list
pub picked_in : (es : List Event) (words : List ℕ) (e : Event) → IsPick es words e → Contains es e
picked_in es words e h =
    subst (λ x. Contains es x) (get_or_from_slice_get es _ e e h.1) (Contains-get_or es _ e (slice_get_within es _ e h.1))

-- Where the first message of a queue waits, or the second doesn't, there are messages.
pub first_there : (n : NodeState) (p : ℕ) (q : List Message) → first_waits n p q ≡ true → is_waiting q ≡ true
first_there n p [] t = cc
first_there n p (m ∷ ms) t = refl

pub second_there : (n : NodeState) (p : ℕ) (q : List Message) → second_goes n p q ≡ true → is_waiting q ≡ true
second_there n p [] t = cc
second_there n p (m ∷ ms) t = refl

-- a Take that isn't put back is a patient choice
pub take_patient : (may : ℕ → Bool) (g : Network) (w : Net) (v p : ℕ) (q : List Message) → w.queue v p ≡ q →
    is_lawful_under may g w (Take v p) ≡ true → not (puts_back w (Take v p)) ≡ true →
    IsPatientIn g w (Take v p)
take_patient may g w v p [] e lawful goes =
    absurd (let z : is_waiting [] ≡ true = ap is_waiting (sym e) ∙ (and_parts (is_port g v p) _ lawful).1 in cc)
take_patient may g w v p (m ∷ ms) e lawful goes =
    Moves_on v p m ms e
    (λ z. let f : not (waits (w.node v) p m) ≡ true = ap (λ x. not (first_waits (w.node v) p x)) (sym e) ∙ goes in
    let t = waits_test (w.node v) p m z in cc (f, t))
