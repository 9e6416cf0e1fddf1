-- The laws of runs, as proofs above this crate may use them; their statements are in specs.
pub use Rattle.ghs_protocol.proofs.every_run.Interleavings.{fragments_are_large, rejected_links_inside, rejected_marks_stay, events_have_rules, work_has_reaction}
pub use Rattle.ghs_protocol.proofs.every_run.Sound.{branch_links_in_tree, rejected_links_aside, halt_is_exact, end_is_tree}
pub use Rattle.ghs_protocol.proofs.every_run.Connects.{connects_are_one}
pub use Rattle.ghs_protocol.proofs.charges.Bound.{sends_within, sends_within_sharp, tree_messages_are_few}
pub use Rattle.ghs_protocol.proofs.progress.LeastMoves.{something_goes_at_least}
pub use Rattle.ghs_protocol.proofs.charges.LevelsPay.{levels_pay_once}
pub use Rattle.ghs_protocol.proofs.charges.PortsPay.{ports_pay_once}
pub use Rattle.ghs_protocol.proofs.charges.AllPaid.{sends_are_paid}
pub use Rattle.ghs_protocol.proofs.progress.Runs.{silence_is_end, no_run_is_stuck}
pub use Rattle.ghs_protocol.proofs.progress.Requeues.{requeues_are_waits, waiting_takes_turn}
pub use Rattle.ghs_protocol.proofs.progress.Finish.{every_run_can_end, silent_nets_have_ended, silent_nets_are_exact, runs_are_short}
pub use Rattle.ghs_protocol.proofs.progress.Rounds.{fair_runs_end}
pub use Rattle.ghs_protocol.proofs.progress.Schedules.{others_leave_alone, stillness_is_end, real_events_are_few, patient_runs_are_short, patience_goes_on, every_run_can_end_whole}
pub use Rattle.ghs_protocol.proofs.progress.Anywhere.{no_message_is_stuck}
pub use Rattle.ghs_protocol.proofs.progress.SingleRounds.{single_rounds_end}
pub use Rattle.ghs_protocol.proofs.progress.Laps.{laps_are}
pub use Rattle.ghs_protocol.proofs.progress.Fairness.{two_laps_get_on, full_lap_gets_on, all_taken_is_lap, laps_are_few, full_laps_are_few, served_runs_are_short, prompt_runs_are_short}
pub use Rattle.ghs_protocol.proofs.progress.Courses.{all_taken_is_fair, no_fair_run_is_endless, fair_courses_end}
pub use Rattle.ghs_protocol.proofs.progress.FairCourses.{fair_courses_are}
pub use Rattle.ghs_protocol.proofs.every_run.Firsts.{branch_marks_stay, marked_ports_stay, nodes_stay_awake, levels_stay, halts_stay, halted_by_reaction, nodes_are_nodes, messages_have_levels, nothing_elsewhere, kinds_balance, ledger_balances, events_happen_so, sleepers_wake_first, fragments_are_joined, takes_are_counted, sends_are_bounded}
