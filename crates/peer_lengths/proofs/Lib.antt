-- Serves the proofs: nothing here has to be believed. lemmas is what proofs above this crate may use.
mod Playing
mod Measuring
mod Numbering
mod Carrying
pub mod lemmas
