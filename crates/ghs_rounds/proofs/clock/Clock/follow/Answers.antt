use Rattle.std.proofs.Common.{◌≡◌, ◌∙◌, ◌<◌, ◌-◌, ◌^◌, Bool, ap, subst, sym}
use Rattle.peer_chains.specs.Chains.{Chains, hears}
use Rattle.ghs_following.specs.Chains.{is_deferred}
use Rattle.peer_chains.specs.Kept.{seen}
use Rattle.ghs_rounds.proofs.clock.Clock.follow.Goals as goal

pub send-requires-clause-small : goal.send-requires-clause-small
unfolding seen
send-requires-clause-small c =
    let asked : seen c.hear.new.self ≡ hears c.args.event c.args.asleep c.is_deferred.result (seen c.args.self.now.kept) =
    rw (← c.self.view_is) c.in_ok-hear.ensures.heard in
    let heard : seen c.hear.new.self ≡ hears c.args.event c.args.asleep (is_deferred c.args.delta.now.fate) (seen c.args.self.now.kept) =
    asked ∙ ap (λ (b : Bool). hears c.args.event c.args.asleep b (seen c.args.self.now.kept)) c.is_deferred.ensures in
    λ some. subst (λ (x : Chains). x.node c.node_of.result < 2 ^ 64 - 1) (sym heard) (c.requires.small c.node_of.result)
