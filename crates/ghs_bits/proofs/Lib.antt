-- Serves the proofs: nothing here has to be believed.
pub mod Width
pub mod Counting
pub mod Sending
pub mod Bounding
mod Examples
