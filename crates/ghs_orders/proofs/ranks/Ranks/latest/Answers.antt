use Rattle.std.proofs.Common.{◌≡◌, List, ℕ, Some, slice_get, subst, sym}
use Rattle.ghs_graph.specs.Graph.{Shape}
use Rattle.peer_network.specs.Network.{network_of}
use Rattle.ghs_core.specs.NetState.{network}
use Rattle.peer_index.specs.Places.{all_events}
use Rattle.ghs_orders.specs.Kept.{AreRanks}
use Rattle.ghs_orders.proofs.Finding.{found, found_none}
use Rattle.ghs_orders.proofs.ranks.Ranks.latest.Goals as goal

pub returns-in-Some : goal.returns-in-Some
returns-in-Some c =
    let ranks : AreRanks c.args.world.now c.args.numbers.now.newest c.self.inside.maxima =
    subst (λ (r : List ℕ). AreRanks c.args.world.now c.args.numbers.now.newest r) (sym c.self.view_is) c.requires.ranks in
    let at : slice_get (all_events (network c.args.world.now.net)) c.in-Some.at ≡ Some c.event_at.result =
    subst (λ (g : Shape). slice_get (all_events (network_of g)) c.in-Some.at ≡ Some c.event_at.result) c.graph.ensures c.event_at.ensures in
    found c.args.world.now c.args.numbers.now c.self.inside.maxima c.requires.numbers ranks c.in-Some.at c.event_at.result c.in-Some.ensures at

pub returns-in-None : goal.returns-in-None
returns-in-None c =
    let ranks : AreRanks c.args.world.now c.args.numbers.now.newest c.self.inside.maxima =
    subst (λ (r : List ℕ). AreRanks c.args.world.now c.args.numbers.now.newest r) (sym c.self.view_is) c.requires.ranks in
    found_none c.args.world.now c.args.numbers.now c.self.inside.maxima c.requires.numbers ranks c.in-None.ensures
