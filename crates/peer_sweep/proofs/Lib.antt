-- Serves the proofs: nothing here has to be believed. lemmas is what proofs above this crate may use.
pub mod lemmas
pub mod Appending
pub mod Lining
pub mod Measuring
pub mod Ruled
mod Naming
mod SummaryExamples
