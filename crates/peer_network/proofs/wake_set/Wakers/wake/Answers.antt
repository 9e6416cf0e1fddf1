use Rattle.std.proofs.Common.{◌∙◌, ◌&&◌, ◌||◌, not, ap, sym}
use Rattle.std.specs.List.{list_any}
use Rattle.std.proofs.lemmas.Bool.{eq-eqb, ne_eqb}
use Rattle.peer_network.specs.Wakes.{is_first, is_under}
use Rattle.peer_network.proofs.Firsts.{first_is}
use Rattle.peer_network.proofs.wake_set.Wakers.wake.Goals as goal

pub returns-then-root-v : goal.returns-then-root-v
returns-then-root-v c =
    let g = c.args.graph.now in
    let v = c.args.v in
    let none = not (list_any (is_under g v) c.args.self.now.nodes) in
    ap not c.are_under.ensures ∙
    ap (λ b. b && none) (sym (eq-eqb c.root.result v c.if-root-v.true) ∙ first_is g v c.root.result c.root.ensures.root) ∙
    ap (λ a. a || (is_first g v && none)) c.if-contains.ensures.value

pub returns-else-root-v : goal.returns-else-root-v
returns-else-root-v c =
    let g = c.args.graph.now in
    let v = c.args.v in
    let none = not (list_any (is_under g v) c.args.self.now.nodes) in
    let differs = ne_eqb c.root.result v c.if-root-v.false in
    differs ∙
    ap (λ b. b && none) (sym differs ∙ first_is g v c.root.result c.root.ensures.root) ∙
    ap (λ a. a || (is_first g v && none)) c.if-contains.ensures.value
