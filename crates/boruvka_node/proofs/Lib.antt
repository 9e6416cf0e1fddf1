-- Serves the proofs: nothing here has to be believed. lemmas is what proofs above this crate may use.
pub mod lemmas
mod Examples
mod LeastBasic
mod Entered
mod Counting
mod Drafts
mod Closing
mod Drafted
mod Responding
mod Entries
