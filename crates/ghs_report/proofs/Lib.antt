-- Serves the proofs: nothing here has to be believed. lemmas is what proofs above this crate may use.
pub mod lemmas
mod Counts
mod Examples
mod WritingLemmas
mod Agreeing
mod Halts
mod Listing
mod Singles
mod Taking
mod Trees
mod Uniting
mod Whole
