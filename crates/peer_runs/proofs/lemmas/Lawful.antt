-- Events that are lawful under a wake set, by their parts.
use Rattle.std.proofs.Common.{◌≡◌, ℕ, Bool, true}
use Rattle.std.proofs.lemmas.Bool.{and_parts, and_from}
use Rattle.peer_network.specs.declared.event.Event.{Event}
use Rattle.peer_network.specs.declared.event.Event.TheVariants.{Wake, Take}
use Rattle.peer_network.specs.Network.{Network}
use Rattle.peer_network.specs.Events.{MayWake}
use Rattle.peer_network.proofs.lemmas.Events.{node_of, at_of}
use Rattle.peer_index.specs.Places.{HasPlace}
use Rattle.peer_machine.specs.Rules.{Rules}
use Rattle.peer_machine.specs.Net.{Net, is_lawful}
use Rattle.peer_runs.specs.Lawful.{is_lawful_under}

module _ {S M : Type 0} (r : Rules S M) (may : ℕ → Bool) (g : Network) (w : Net S M) where
  pub lawful_parts : (e : Event) → is_lawful_under r may g w e ≡ true → MayWake may e × (is_lawful r g w e ≡ true)
  lawful_parts (Wake v) h = let b = and_parts (is_lawful r g w (Wake v)) (may v) h in (b.1, b.0)
  lawful_parts (Take v p) h = (tt, h)

  pub lawful_from : (e : Event) → MayWake may e → is_lawful r g w e ≡ true → is_lawful_under r may g w e ≡ true
  lawful_from (Wake v) m h = and_from (is_lawful r g w (Wake v)) (may v) h m
  lawful_from (Take v p) m h = h

  -- it names a node or port of the network
  pub lawful_place : (e : Event) → is_lawful r g w e ≡ true → HasPlace g e
  lawful_place (Wake v) h = node_of g v (and_parts _ _ h).0
  lawful_place (Take v p) h = at_of g v p (and_parts _ _ h).0
