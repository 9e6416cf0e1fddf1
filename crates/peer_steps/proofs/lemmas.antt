-- What proofs above this crate may use.
pub mod Replayed
