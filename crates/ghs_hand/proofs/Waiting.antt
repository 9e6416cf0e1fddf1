-- The test of waiting, for a Take that may come next.
use Rattle.std.proofs.Common.{◌≡◌, ℕ, Bool, true, not, Some, List, [], ◌∷◌, slice_get, refl, sym, subst}
use Rattle.std.specs.Prelude.{IsTrue, ◌↔◌}
use Rattle.std.proofs.lemmas.Bool.{and_parts}
use Rattle.std.proofs.lemmas.Bool.Decides.{same_from_decides}
use Rattle.ghs_node.specs.declared.message.Message.{Message}
use Rattle.ghs_node.specs.NodeState.{NodeState}
use Rattle.peer_network.specs.declared.event.Event.{Event}
use Rattle.peer_network.specs.declared.event.Event.TheVariants.{Take}
use Rattle.ghs_protocol.specs.Living.{Waits}
use Rattle.ghs_protocol.specs.Net.{is_waiting}
use Rattle.peer_network.specs.Network.{is_port}
use Rattle.peer_network.specs.Events.{event_node}
use Rattle.ghs_core.specs.NetState.{NetState, net_of, network}
use Rattle.ghs_core.specs.Waits.{waits}
use Rattle.ghs_core.proofs.lemmas.Waiting.{waits_so, waits_test}
use Rattle.ghs_patient.specs.Patience.{first_waits, puts_back}
use Rattle.ghs_world.specs.Outs.{is_out}
use Rattle.ghs_world.specs.Ready.{is_ready}
use Rattle.ghs_world.specs.WorldState.{WorldState, home, may_happen}

first_is : (n : NodeState) (p : ℕ) (q : List Message) (b : Bool) → is_waiting q ≡ true →
    ((m : Message) → slice_get q 0 ≡ Some m → IsTrue b ↔ Waits n p m) →
    b ≡ first_waits n p q
first_is n p [] b some is = cc
first_is n p (m ∷ ms) b some is =
    same_from_decides b (waits n p m) (is m refl) (λ t. waits_so n p m t, λ h. waits_test n p m h)

-- what `waits_at` says of the first message is what is told of the event
take_is : (w : WorldState) (v p : ℕ) (b : Bool) → is_ready w (Take v p) ≡ true →
    ((m : Message) → slice_get ((home w).queue v p) 0 ≡ Some m → IsTrue b ↔ Waits ((home w).node v) p m) →
    b ≡ puts_back (home w) (Take v p)
take_is w v p b ready is =
    let may = (and_parts (not (is_out w.outs v)) (may_happen w (Take v p)) ready).1 in
    first_is ((home w).node v) p ((home w).queue v p) b (and_parts (is_port (network w.net) v p) (is_waiting ((home w).queue v p)) may).1 is

pub told_is : (w : WorldState) (n : NetState) (e : Event) (v p : ℕ) (b : Bool) → n ≡ w.net → e ≡ Take v p → is_ready w e ≡ true →
    ((m : Message) → slice_get ((net_of n).queue v p) 0 ≡ Some m → IsTrue b ↔ Waits ((net_of n).node v) p m) →
    b ≡ puts_back (home w) e
told_is w n e v p b same is ready says =
    subst (λ (x : Event). b ≡ puts_back (home w) x) (sym is)
    (take_is w v p b (subst (λ (x : Event). is_ready w x ≡ true) is ready)
    (subst (λ (s : NetState). (m : Message) → slice_get ((net_of s).queue v p) 0 ≡ Some m → IsTrue b ↔ Waits ((net_of s).node v) p m) same says))
