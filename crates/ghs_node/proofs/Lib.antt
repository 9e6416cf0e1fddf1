-- Serves the proofs: nothing here has to be believed. lemmas is what proofs above this crate may use.
pub mod lemmas
mod Examples
mod Tests
mod Inversion
mod Ruleless
mod Computed
mod MarkChanges
mod LeastBasic
mod Kept
mod Outgoing
mod RowNames
mod Phases
mod Whole
mod Equal
mod Branches
mod Going
mod Answering
