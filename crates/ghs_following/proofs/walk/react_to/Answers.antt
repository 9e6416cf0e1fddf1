use Rattle.std.proofs.Common.{◌∙◌, ap, List, ◌++◌, ◌∷◌, []}
use Rattle.peer_network.specs.declared.event.Event.{Event}
use Rattle.ghs_following.proofs.lemmas.Moved.{moved}
use Rattle.ghs_following.proofs.walk.react_to.Goals as goal

pub returns-clause-kept : goal.returns-clause-kept
returns-clause-kept g c =
    moved g.F.Follower.is_of _ _ _ _ _ (c.play.ensures.graph ∙ c.reserve.ensures.net.graph)
    (c.play.ensures.trace ∙ ap (λ (es : List Event). es ++ c.args.event ∷ []) c.reserve.ensures.net.trace) c.in_ok-follow.ensures
