-- Where nothing is out and nothing is ready, the run has ended.
use Rattle.std.proofs.Common.{◌≡◌, ℕ, ⊎_elim, Bool, true, false, [], refl, subst}
use Rattle.std.specs.List.{Contains}
use Rattle.std.proofs.lemmas.Bool.{and_parts, cases_Bool}
use Rattle.ghs_graph.specs.Graph.{IsGraph}
use Rattle.ghs_graph.proofs.lemmas.Members.{filter_has, nothing_in}
use Rattle.peer_network.specs.declared.event.Event.{Event}
use Rattle.peer_network.specs.declared.event.Event.TheVariants.{Wake, Take}
use Rattle.ghs_protocol.specs.Laws.{IsNetOf}
use Rattle.ghs_protocol.specs.Marks.{HasEnded}
use Rattle.peer_network.specs.Network.{Network, is_node, is_port}
use Rattle.ghs_protocol.specs.Net.{Net, is_lawful, is_lawful_under}
use Rattle.ghs_protocol.specs.Run.{IsRun}
use Rattle.ghs_protocol.specs.Schedules.{NothingIsReady, StillnessIsEnd}
use Rattle.ghs_protocol.proofs.lemmas.Runs.{after_is_net}
use Rattle.ghs_core.specs.NetState.{network}
use Rattle.ghs_world.specs.WorldState.{WorldState, home, may_happen, wakers}
use Rattle.peer_index.specs.Places.{has_place, all_events}
use Rattle.ghs_world.specs.Ready.{is_ready, ready_events}
use Rattle.peer_index.proofs.lemmas.Listed.{listed}
use Rattle.peer_network.proofs.lemmas.Waking.{each_is_woken}

-- what may happen names such
pub placed : (may : ℕ → Bool) (g : Network) (w : Net) (e : Event) → is_lawful_under may g w e ≡ true → has_place g e ≡ true
placed may g w (Wake v) h = (and_parts (is_node g v) _ (and_parts (may v) (is_lawful g w (Wake v)) h).1).0
placed may g w (Take v p) h = (and_parts (is_port g v p) _ h).0

-- with nothing out, an empty list of ready events says that nothing may happen
nothing_ready : (s : WorldState) → s.outs ≡ [] → ready_events s ≡ [] → NothingIsReady (wakers s) (network s.net) (home s)
nothing_ready s out none e = ⊎_elim lawful (λ f. f) (cases_Bool (may_happen s e))
  where
    lawful : may_happen s e ≡ true → may_happen s e ≡ false
    lawful t =
        let ready : is_ready s e ≡ true = rw (out, t) refl in
        let stands = listed (network s.net) e (placed (wakers s) (network s.net) (home s) e t) in
        let has = filter_has (is_ready s) (all_events (network s.net)) e stands ready in
        absurd (nothing_in e (subst (λ es. Contains es e) none has))

pub still_has_ended : (s : WorldState) →
    StillnessIsEnd →
    IsGraph s.net.graph →
    IsRun (network s.net) s.net.trace →
    s.outs ≡ [] →
    ready_events s ≡ [] →
    HasEnded s.net.graph (home s)
still_has_ended s law ok is_run out none =
    let is_net : IsNetOf s.net.graph (home s) = record { graph = ok; events = s.net.trace; run = after_is_net s.net.graph s.net.trace is_run } in
    (law s.net.graph (wakers s) (home s) is_net (nothing_ready s out none)).1 (each_is_woken s.net.graph s.wake ok)
