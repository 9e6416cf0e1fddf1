-- Serves the proofs: nothing here has to be believed. lemmas is what proofs above this crate may use.
pub mod Arriving
pub mod Sending
pub mod Stages
pub mod Showing
pub mod Totals
pub mod Halting
pub mod Events
pub mod Playing
pub mod PuttingBack
pub mod Reading
pub mod Finding
pub mod Sides
pub mod Fragments
pub mod Alike
pub mod Counting
pub mod Interleaved
pub mod Enough
pub mod CensusRows
pub mod lemmas
mod OneEnd
