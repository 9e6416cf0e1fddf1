use Rattle.std.proofs.Common.{◌≡◌, ◌<◌, ◌≤◌, ◌∙◌, ℕ, ap, get_or, length, arith}
use Rattle.std.proofs.lemmas.List.{get_or_default}
use Rattle.peer_network.specs.Network.{network_of}
use Rattle.peer_index.proofs.lemmas.Places.{place_within}
use Rattle.ghs_orders.proofs.numbers.Numbers.last.Goals as goal

pub index-requires : goal.index-requires
index-requires c =
    let kept = rw (← c.self.view_is) at c.requires.kept in
    let within = place_within (network_of c.args.graph.now) c.args.event c.requires.place in
    let many = kept.many in
    let at = c.place_of.ensures in
    omega (arith, within, many, at)

pub returns-clause-last : goal.returns-clause-last
returns-clause-last c =
    let kept = rw (← c.self.view_is) at c.requires.kept in
    let within = place_within (network_of c.args.graph.now) c.args.event c.requires.place in
    let many = kept.many in
    let at = c.place_of.ensures in
    let lt : c.place_of.result < length c.self.inside.newest.items = omega (arith, within, many, at) in
    rw (← c.self.view_is)
    (c.index.ensures ∙ get_or_default c.self.inside.newest.items c.place_of.result c.index.result.now 0 lt
    ∙ ap (λ (i : ℕ). get_or c.self.inside.newest.items i 0) at)

pub returns-clause-most : goal.returns-clause-most
returns-clause-most c =
    let kept = rw (← c.self.view_is) at c.requires.kept in
    let within = place_within (network_of c.args.graph.now) c.args.event c.requires.place in
    let many = kept.many in
    let at = c.place_of.ensures in
    let lt : c.place_of.result < length c.self.inside.newest.items = omega (arith, within, many, at) in
    let is : c.index.result.now ≡ get_or c.self.inside.newest.items c.place_of.result 0 =
    c.index.ensures ∙ get_or_default c.self.inside.newest.items c.place_of.result c.index.result.now 0 lt in
    let most : get_or c.self.inside.newest.items c.place_of.result 0 ≤ c.self.inside.count = kept.most c.place_of.result in
    rw (← c.self.view_is) (omega (arith, is, most))
