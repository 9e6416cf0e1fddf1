-- To be believed: contracts cite what stands here, and what it is made of.
pub mod Kind
pub mod Words
pub mod Phases
pub mod NodeState
pub mod Reaction
pub mod Rows
pub mod NoRule
pub mod Laws
pub mod RowName
pub mod Draft
pub mod LeastBasic
