use Rattle.std.proofs.Common.{◌≡◌, ◌∙◌, sym, ap, length, ◌-◌, arith, Option}
use Rattle.std.specs.List.{find}
use Rattle.ghs_graph.specs.Ports.{ports_of}
use Rattle.peer_network.specs.declared.event.Event.{Event}
use Rattle.peer_index.specs.Places.{takes}
use Rattle.std.specs.Option.{option_or}
use Rattle.ghs_world.specs.Outs.{is_out}
use Rattle.ghs_world.specs.WorldState.{WorldState, may_happen}
use Rattle.ghs_world.proofs.Listing.{none_next, wake_next, take_next}
use Rattle.ghs_world.proofs.world.World.next_event.Goals as goal

pub returns-then-has_node : goal.returns-then-has_node
returns-then-has_node c =
    sym (none_next c.args.self.now c.args.v c.args.from
    (sym (ap (λ (s : WorldState). is_out s.outs c.args.v) c.self.view_is) ∙ sym c.has_node.ensures ∙ c.if-has_node.true))

pub returns-then-may_happen : goal.returns-then-may_happen
returns-then-may_happen c =
    sym (wake_next c.args.self.now c.args.v c.args.from
    (sym (ap (λ (s : WorldState). is_out s.outs c.args.v) c.self.view_is) ∙ sym c.has_node.ensures ∙ c.if-has_node.false)
    (sym c.may_happen.ensures ∙ c.if-may_happen.true))

pub returns-in-Some : goal.returns-in-Some
returns-in-Some c =
    let all = take_next c.args.self.now c.args.v c.args.from
    (sym (ap (λ (s : WorldState). is_out s.outs c.args.v) c.self.view_is) ∙ sym c.has_node.ensures ∙ c.if-has_node.false)
    (sym c.may_happen.ensures ∙ c.if-may_happen.false) in
    sym (all ∙
    ap (λ (o : Option Event).
    option_or o (find (may_happen c.args.self.now) (takes c.args.v 0 (length (ports_of c.args.self.now.net.graph.keys c.args.v)))))
    (sym c.first_take.ensures ∙ c.in-Some.is))

pub returns-in-None : goal.returns-in-None
returns-in-None c =
    let all = take_next c.args.self.now c.args.v c.args.from
    (sym (ap (λ (s : WorldState). is_out s.outs c.args.v) c.self.view_is) ∙ sym c.has_node.ensures ∙ c.if-has_node.false)
    (sym c.may_happen.ensures ∙ c.if-may_happen.false) in
    let whole : length (ports_of c.args.self.now.net.graph.keys c.args.v) - 0 ≡ length (ports_of c.args.self.now.net.graph.keys c.args.v) =
    omega arith in
    c.first_take-in-None.ensures ∙ ap (λ n. find (may_happen c.args.self.now) (takes c.args.v 0 n)) whole ∙
    sym (all ∙
    ap (λ (o : Option Event).
    option_or o (find (may_happen c.args.self.now) (takes c.args.v 0 (length (ports_of c.args.self.now.net.graph.keys c.args.v)))))
    (sym c.first_take.ensures ∙ c.in-None.is))
