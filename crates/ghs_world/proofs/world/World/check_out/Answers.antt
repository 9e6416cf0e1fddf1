use Rattle.std.proofs.Common.{◌≡◌, ◌∙◌, sym, ap, None}
use Rattle.ghs_world.specs.WorldState.{refusal}
use Rattle.ghs_world.specs.contracts.world.World.{the_view}
use Rattle.ghs_world.proofs.Keeping.{world_out, free_lawful}
use Rattle.ghs_world.proofs.Reacting.{has_rule}
use Rattle.ghs_world.proofs.world.World.check_out.Goals as goal

pub work-work-requires : goal.work-work-requires
work-work-requires c =
    let free : refusal c.args.self.now c.args.event ≡ None = sym c.refusal.ensures ∙ c.in-None.is in
    free_lawful (the_view c.self.inside) c.args.event (ap (λ s. refusal s c.args.event) c.self.view_is ∙ free)

pub of-requires : goal.of-requires
of-requires c =
    let free : refusal c.args.self.now c.args.event ≡ None = sym c.refusal.ensures ∙ c.in-None.is in
    let lawful = free_lawful (the_view c.self.inside) c.args.event (ap (λ s. refusal s c.args.event) c.self.view_is ∙ free) in
    rw (c.in_ok-node.ensures, c.node_of.ensures)
    (has_rule c.self.inside.net c.args.event c.work-work.result c.trace.ensures.graph c.trace.ensures.run lawful c.work-work.ensures.work
    c.work-work.ensures.rule)

pub invariant_of-self-2 : goal.invariant_of-self-2
invariant_of-self-2 c =
    let free : refusal c.args.self.now c.args.event ≡ None = sym c.refusal.ensures ∙ c.in-None.is in
    rw (c.in_ok-number.ensures.out, c.in_ok-number.ensures.ok) (
      world_out _ c.args.event c.self.invariant.0
          (ap (λ s. refusal s c.args.event) c.self.view_is ∙ free),
      c.self.invariant.1,
      c.self.invariant.2,
    )
