-- Serves the proofs: nothing here has to be believed. lemmas is what proofs above this crate may use.
pub mod lemmas
mod Examples
mod Rising
mod Blocks
mod Filling
mod Climbing
mod Growing
mod Pieces
mod Reading
