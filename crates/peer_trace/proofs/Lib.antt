-- Serves the proofs: nothing here has to be believed.
pub mod Heads
pub mod Readings
pub mod Rows
pub mod Words
pub mod Written
