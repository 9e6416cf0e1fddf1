-- Serves the proofs: nothing here has to be believed. lemmas is what proofs above this crate may use.
mod Going
pub mod Marking
pub mod Running
pub mod lemmas
