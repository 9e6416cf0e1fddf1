-- The first facts of every run of a graph, put together.
use Rattle.std.proofs.Common.{◌≡◌, sym, ◌∙◌, arith, zero-add, Some}
use Rattle.ghs_graph.specs.Graph.{Shape}
use Rattle.peer_network.specs.Network.{network_of}
use Rattle.ghs_protocol.specs.Net.{Net, opening}
use Rattle.ghs_protocol.specs.Run.{run}
use Rattle.ghs_protocol.specs.Laws.{IsNetOf, IsLater, BranchMarksStay, MarkedPortsStay, NodesStayAwake, LevelsStay, HaltsStay, HaltedByReaction, NodesAreNodes, MessagesHaveLevels, NothingElsewhere, KindsBalance, LedgerBalances, TakesAreCounted, SendsAreBounded, EventsHappenSo, SleepersWakeFirst, FragmentsAreJoined}
use Rattle.peer_network.proofs.lemmas.Graphs.{graph_wired, graph_few}
use Rattle.ghs_protocol.proofs.lemmas.Events.{happening, happens_so}
use Rattle.ghs_protocol.proofs.lemmas.Runs.{run_joins}
use Rattle.ghs_protocol.proofs.lemmas.Woken.{event_steps}
use Rattle.ghs_protocol.proofs.lemmas.WellFormed.{IsWellFormed, opening_formed, after_formed}
use Rattle.ghs_protocol.proofs.every_run.Counts.{run_counts, run_sends}
use Rattle.ghs_protocol.proofs.lemmas.Lasting.{AllLast, run_lasts}
use Rattle.ghs_protocol.proofs.every_run.Halts.{after_halted}
use Rattle.ghs_protocol.proofs.lemmas.Balance.{after_balanced, balanced_in_all}
use Rattle.ghs_protocol.proofs.lemmas.Fragments.{fragments_joined}

-- the net of a run is well formed
pub formed : (g : Shape) (w : Net) → IsNetOf g w → IsWellFormed (network_of g) w
formed g w n = after_formed (network_of g) (graph_wired g n.graph) (graph_few g n.graph) n.events w n.run

pub earlier : (g : Shape) (w w' : Net) → IsLater g w w' → IsNetOf g w
earlier g w w' l = record { graph = l.graph; events = l.events; run = l.run }

-- the further events, from the first net on
pub further : (g : Shape) (w w' : Net) → (l : IsLater g w w') → run (network_of g) l.further w ≡ Some w'
further g w w' l = sym (run_joins (network_of g) l.events l.further (opening (network_of g)) w l.run) ∙ l.later

pub later_lasts : (g : Shape) (w w' : Net) → IsLater g w w' → AllLast w w'
later_lasts g w w' l = run_lasts (network_of g) (graph_wired g l.graph) l.further w w' (formed g w (earlier g w w' l)) (further g w w' l)

pub branch_marks_stay : BranchMarksStay
branch_marks_stay g w w' l v p = (later_lasts g w w' l v).branch p

pub marked_ports_stay : MarkedPortsStay
marked_ports_stay g w w' l v p = (later_lasts g w w' l v).marked p

pub nodes_stay_awake : NodesStayAwake
nodes_stay_awake g w w' l v = (later_lasts g w w' l v).awake

pub levels_stay : LevelsStay
levels_stay g w w' l v = (later_lasts g w w' l v).level

pub halts_stay : HaltsStay
halts_stay g w w' l v = (later_lasts g w w' l v).halted

pub halted_by_reaction : HaltedByReaction
halted_by_reaction g ok es w h v = after_halted (network_of g) (graph_wired g ok) (graph_few g ok) es w v h

pub nodes_are_nodes : NodesAreNodes
nodes_are_nodes g w n = (formed g w n).nodes

pub messages_have_levels : MessagesHaveLevels
messages_have_levels g w n = (formed g w n).levels

pub nothing_elsewhere : NothingElsewhere
nothing_elsewhere g w n = (formed g w n).elsewhere

pub kinds_balance : KindsBalance
kinds_balance g w n = after_balanced (network_of g) (graph_wired g n.graph) (graph_few g n.graph) n.events w n.run

pub ledger_balances : LedgerBalances
ledger_balances g w n = balanced_in_all (network_of g) w (kinds_balance g w n)

pub events_happen_so : EventsHappenSo
events_happen_so g w w' e = (happening (network_of g) w w' e, happens_so)

pub sleepers_wake_first : SleepersWakeFirst
sleepers_wake_first g w w' e n h = event_steps (network_of g) (graph_wired g n.graph) w w' e (formed g w n).nodes h

pub fragments_are_joined : FragmentsAreJoined
fragments_are_joined g ok w v u = fragments_joined g ok w v u

pub takes_are_counted : TakesAreCounted
takes_are_counted g ok es w h = run_counts (network_of g) es (opening (network_of g)) w h ∙ zero-add _

pub sends_are_bounded : SendsAreBounded
sends_are_bounded g ok es w h =
    omega
    (arith, run_sends (network_of g) (graph_wired g ok) es (opening (network_of g)) w (opening_formed (network_of g) (graph_few g ok)) h)
