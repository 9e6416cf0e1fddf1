-- Serves the proofs: nothing here has to be believed.
pub mod Opened
pub mod Seven
mod Fixed
