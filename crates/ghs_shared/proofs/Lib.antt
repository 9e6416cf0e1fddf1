-- Serves the proofs: nothing here has to be believed. lemmas is what proofs above this crate may use.
pub mod BoardMoves
pub mod lemmas
pub mod QueueMoves
