-- Serves the proofs: nothing here has to be believed. lemmas is what proofs above this crate may use.
pub mod lemmas
mod Orders
mod Looking
mod Known
mod Examples
