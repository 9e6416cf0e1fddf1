-- Lemmas that proofs above this crate may use.
pub mod Handing
