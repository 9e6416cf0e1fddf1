-- Whether a Take moves a run on, by the first message of its queue.
use Rattle.std.proofs.Common.{◌≡◌, ℕ, Bool, false, not, List, [], ◌∷◌, Some, None, refl, ap}
use Rattle.std.specs.List.{slice_get}
use Rattle.std.proofs.lemmas.Option.{same_Some}
use Rattle.ghs_node.specs.declared.message.Message.{Message}
use Rattle.peer_network.specs.declared.event.Event.TheVariants.{Take}
use Rattle.peer_network.specs.Network.{At, Network}
use Rattle.peer_network.proofs.lemmas.Events.{is_port_of}
use Rattle.ghs_protocol.specs.Net.{Net}
use Rattle.ghs_core.specs.Waits.{waits}
use Rattle.ghs_patient.specs.Patience.{moves_on}

module _ (may : ℕ → Bool) (g : Network) (w : Net) (v p : ℕ) (at : At g v p) where
  none_in : (q : List Message) → w.queue v p ≡ q → slice_get q 0 ≡ None → moves_on may g w (Take v p) ≡ false
  none_in [] e h = rw (e, is_port_of g v p at) refl
  none_in (m ∷ ms) e h = cc

  first_in : (q : List Message) (m : Message) → w.queue v p ≡ q → slice_get q 0 ≡ Some m → moves_on may g w (Take v p) ≡ not (waits (w.node v) p m)
  first_in [] m e h = cc
  first_in (k ∷ ms) m e h = rw (e, is_port_of g v p at) (ap (λ (x : Message). not (waits (w.node v) p x)) (same_Some k m h))

  -- none stands there
  pub none_goes : slice_get (w.queue v p) 0 ≡ None → moves_on may g w (Take v p) ≡ false
  none_goes h = none_in (w.queue v p) refl h

  -- this one does
  pub first_goes : (m : Message) → slice_get (w.queue v p) 0 ≡ Some m → moves_on may g w (Take v p) ≡ not (waits (w.node v) p m)
  first_goes m h = first_in (w.queue v p) m refl h
