-- What proofs about nodes above this crate may use.
-- Small tests of phases and marks.
pub use Rattle.ghs_node.proofs.Tests.{at_is, is_at_is, is_at_not, basic_is, branch_mark, sleeping_is, sleeping_not, is_sleeping_not, find_is, found_is}
-- Tests for equality decide it.
pub use Rattle.ghs_node.proofs.Equal.{key_decides, phase_decides, option_decides}
-- A row is the reaction, both ways, and what has no reaction stands on the list.
pub use Rattle.ghs_node.proofs.Computed.{row_computes}
pub use Rattle.ghs_node.proofs.Inversion.{reaction_inverts}
pub use Rattle.ghs_node.proofs.Ruleless.{reaction_ruleless}
-- What a row does to marks, sends, levels and phases, and what it keeps.
pub use Rattle.ghs_node.proofs.MarkChanges.{length-with_mark, mark_set, awake_marks, row_marks, branch_stays, reaction_port}
pub use Rattle.ghs_node.proofs.Outgoing.{row_ported, row_leveled}
pub use Rattle.ghs_node.proofs.Kept.{row_level, row_awake, row_halts, row_kept}
-- A test for one phase.
pub use Rattle.ghs_node.proofs.Phases.{same_phase_is}
