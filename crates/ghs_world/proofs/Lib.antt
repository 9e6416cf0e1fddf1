-- Serves the proofs: nothing here has to be believed. lemmas is what proofs above this crate may use.
mod Arriving
mod Changing
mod Commits
mod Going
mod Keeping
mod Listing
mod Nodes
mod PuttingBack
mod Reacting
mod Staying
mod Still
mod Waiting
pub mod lemmas
