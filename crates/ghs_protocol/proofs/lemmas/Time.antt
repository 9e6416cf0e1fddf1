-- What the time by rounds rests on: what goes at the least level, who probes, what is under way for a probe, what it costs.
pub use Rattle.ghs_protocol.proofs.acts.Many.{few_nodes}
pub use Rattle.ghs_protocol.proofs.progress.Awaited.{Has, awaited, bill_few, level_few, probe_at, probe_level}
pub use Rattle.ghs_protocol.proofs.progress.EventBills.{Came, WasProbing, answer_heard, calls_or_frees, halting_counts, halts_last, levels_rise, names_stay, next_net, prober_was, probes_aside, queue_hit, queue_miss, test_heard, tree_taken, trees_stay, wakes_last}
pub use Rattle.ghs_protocol.proofs.progress.Finish.{component, comes, over_port, component_closed, component_self, joined_component, open_or_ended, search}
pub use Rattle.ghs_protocol.proofs.progress.Hears.{IsAnswer, IsTestBy, answer_free, test_free}
pub use Rattle.ghs_protocol.proofs.progress.LinkBills.{bill}
