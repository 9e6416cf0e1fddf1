-- The laws of runs, as proofs above this crate may use them; their statements are in specs.
pub use Rattle.gather_protocol.proofs.Rules.{defers_never, has_kinds, has_rules, nodes_keep_ports}
pub use Rattle.gather_protocol.proofs.Bound.{bound_fits, one_sends, sends_within, sends_within_bound}
pub use Rattle.gather_protocol.proofs.Awake.{awake_stays, runs_are_short}
pub use Rattle.gather_protocol.proofs.Silence.{silence_halts, silence_wakes}
pub use Rattle.gather_protocol.proofs.Found.{branches_found, halted_mark_trees, others_mark_none, silence_ends}
