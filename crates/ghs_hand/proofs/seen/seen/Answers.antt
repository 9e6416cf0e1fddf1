use Rattle.std.proofs.Common.{◌≡◌, ◌∙◌, true, List, subst, sym}
use Rattle.std.specs.List.{All}
use Rattle.std.proofs.lemmas.List.Elements.{filter_passes}
use Rattle.peer_network.specs.declared.event.Event.{Event}
use Rattle.ghs_core.specs.NetState.{network}
use Rattle.ghs_world.specs.Ready.{is_ready}
use Rattle.peer_index.specs.Places.{all_events}
use Rattle.ghs_hand.proofs.seen.seen.Goals as goal

pub put_choices-requires : goal.put_choices-requires
put_choices-requires c =
    let w = c.args.world.now in
    subst (λ (es : List Event). All (λ e. is_ready w e ≡ true) es) (sym (c.deref.ensures.value ∙ c.in_ok-ready.ensures))
    (filter_passes (is_ready w) (all_events (network w.net)))
