-- Serves the proofs: nothing here has to be believed. lemmas is what proofs above this crate may use.
mod Ending
pub mod lemmas
mod Leading
mod Nowhere
mod Offered
mod Offering
mod Timing
