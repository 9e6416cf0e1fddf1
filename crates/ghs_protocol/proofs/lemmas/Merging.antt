-- What uniting fragments leaves of each node, one way of merging behind another, and where it leads in a component.
pub use Rattle.ghs_protocol.proofs.merging.United.{Either, inside, outside, still_one, was_one, united_even}
pub use Rattle.ghs_protocol.proofs.merging.OneEnd.{merging_on}
pub use Rattle.ghs_protocol.proofs.one_core.Components.{merges_there, one_core_of_all}
pub use Rattle.ghs_protocol.proofs.one_core.Ended.{connects_agree, halted_are_highest}
pub use Rattle.ghs_protocol.proofs.one_core.OneNet.{one_end_of_all}
pub use Rattle.ghs_protocol.proofs.one_core.Runs.{core_is_of_graph}
