-- Serves the proofs: nothing here has to be believed.
pub mod Gathering
pub mod Hashing
pub mod Replaying
pub mod Sweeping
pub mod Telling
