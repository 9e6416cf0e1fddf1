-- Serves the proofs: nothing here has to be believed.
pub mod Eight
pub mod Found
pub mod Judgements
pub mod Keys
pub mod Links
pub mod Numbers
pub mod Once
pub mod Passes
pub mod Plain
pub mod Readings
pub mod Rows
pub mod Slow
pub mod Stops
