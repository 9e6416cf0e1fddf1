-- Serves the proof: nothing here has to be believed. lemmas is what proofs above this crate may use.
pub mod clauses
pub mod lemmas
pub mod acts
pub mod tests
pub mod search
pub mod rest
pub mod root
pub mod union
pub mod wake
pub mod rows
pub mod charges
pub mod progress
pub mod every_run
pub mod examples
pub mod merging
pub mod one_core
