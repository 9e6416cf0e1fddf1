-- Serves the proofs: nothing here has to be believed.
mod Sheeting
pub mod lemmas
