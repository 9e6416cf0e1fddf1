-- What may happen, and what is ready, is lawful.
use Rattle.std.proofs.Common.{◌≡◌, true}
use Rattle.std.proofs.lemmas.Bool.{and_parts}
use Rattle.peer_network.specs.declared.event.Event.{Event}
use Rattle.ghs_protocol.proofs.lemmas.Runs.{lawful_under}
use Rattle.ghs_core.specs.NetState.{IsLawful, network}
use Rattle.ghs_world.specs.Ready.{is_ready}
use Rattle.ghs_world.specs.WorldState.{WorldState, home, may_happen, wakers}

-- what may happen under a wake set is lawful
pub may_lawful : (s : WorldState) (e : Event) → may_happen s e ≡ true → IsLawful s.net e
may_lawful s e h = ((lawful_under (wakers s) (network s.net) (home s) e).0 h).1

-- what is ready may happen
pub ready_lawful : (s : WorldState) (e : Event) → is_ready s e ≡ true → IsLawful s.net e
ready_lawful s e h = may_lawful s e (and_parts _ _ h).1
