-- Serves the proofs: nothing here has to be believed. lemmas is what proofs above this crate may use.
mod Playing
pub mod lemmas
pub mod Filling
pub mod Swapping
mod Examples
