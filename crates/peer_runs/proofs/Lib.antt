-- Serves the proofs: nothing here has to be believed. lemmas is what proofs above this crate may use.
mod Keeping
mod Opening
mod Picking
mod Running
mod Replaying
pub mod lemmas
