-- Serves the proofs: nothing here has to be believed. lemmas is what proofs above this crate may use.
mod Finding
mod Firsts
pub mod lemmas
