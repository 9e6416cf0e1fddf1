-- The laws of runs, as proofs above this crate may use them; their statements are in specs.
use Rattle.std.proofs.Common.{◌≡◌, ℕ, false}
use Rattle.ghs_graph.specs.Graph.{Shape}
use Rattle.ghs_graph.specs.Links.{Joined, links}
use Rattle.peer_network.specs.Network.{network_of, InNetwork}
use Rattle.peer_machine.specs.Net.{Net}
use Rattle.peer_machine.specs.Run.{IsNetOf}
use Rattle.boruvka_node.specs.declared.message.Message.{Message}
use Rattle.boruvka_node.specs.State.{State}
use Rattle.boruvka_node.specs.Boruvka.{boruvka}
use Rattle.boruvka_protocol.specs.Laws.{EventsHaveRules, BranchLinksInTree, SendsWithinBound, RunsAreShort, HaltIsEnd, SilenceIsEnd}
use Rattle.boruvka_protocol.specs.Marks.{HasHalted}
use Rattle.boruvka_protocol.proofs.every_run.Keeps.{every_holds}
use Rattle.boruvka_protocol.proofs.follows.Cases.{by_sleep, asleep_no_rest}
use Rattle.boruvka_protocol.proofs.follows.Laws as laws
use Rattle.boruvka_protocol.proofs.follows.Tree.{Done, halted_done}
use Rattle.boruvka_protocol.proofs.bound.Runs as bound
pub use Rattle.boruvka_protocol.proofs.every_run.Events.{has_kinds, stays_awake}
pub use Rattle.boruvka_protocol.proofs.every_run.Nodes.{nodes_keep_ports}
pub use Rattle.boruvka_protocol.proofs.bound.Fits.{bound_fits}
pub use Rattle.boruvka_protocol.proofs.bound.Logs.{floor_log2_is}

pub events_have_rules : EventsHaveRules
events_have_rules = laws.events_have_rules every_holds

pub branch_links_in_tree : BranchLinksInTree
branch_links_in_tree = laws.branch_links_in_tree every_holds

pub halt_is_end : HaltIsEnd
halt_is_end = laws.halt_is_end every_holds

pub silence_is_end : SilenceIsEnd
silence_is_end = laws.silence_is_end every_holds

pub sends_within_bound : SendsWithinBound
sends_within_bound = bound.sends_within_bound every_holds

pub runs_are_short : RunsAreShort
runs_are_short = bound.runs_are_short every_holds

-- where a node has halted, nobody in its component sleeps
pub halted_all_awake : (g : Shape) (w : Net State Message) → IsNetOf boruvka g w → (v : ℕ) → InNetwork (network_of g) v → HasHalted w v → (x : ℕ) →
    Joined (links g.keys) v x → boruvka.is_asleep (w.node x) ≡ false
halted_all_awake g w is v net halted x way =
    let done : Done g w (every_holds g w is) (w.node v).head.level x = halted_done g w (every_holds g w is) v net halted x way in
    by_sleep (w.node x).head.phase (λ t asleep. absurd (asleep_no_rest (w.node x).head.phase asleep done.rest)) (λ f awake. f)
