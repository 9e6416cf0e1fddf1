-- Serves the proof: nothing here has to be believed. lemmas is what proofs above this crate may use.
pub mod invariant
pub mod Unlike
pub mod levels
pub mod rows
pub mod every_run
pub mod follows
pub mod bound
pub mod lemmas
mod Examples
