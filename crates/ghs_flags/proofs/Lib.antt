-- Serves the proofs: nothing here has to be believed. lemmas is what proofs above this crate may use.
pub mod Bits
pub mod Sums
pub mod Towers
pub mod Ranks
pub mod Rows
pub mod Turning
pub mod Counted
pub mod lemmas
