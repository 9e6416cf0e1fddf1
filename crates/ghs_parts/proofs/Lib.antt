-- Serves the proofs: nothing here has to be believed.
pub mod Counting
pub mod AddingUp
pub mod Reaching
pub mod KindCounts
pub mod Tallying
mod Examples
