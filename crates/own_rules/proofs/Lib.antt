-- Serves the proofs: nothing here has to be believed.
mod Numbering
mod Placing
mod Ending
mod Readying
pub mod Stopping
pub mod Running
pub mod Valued
mod Checking
mod Worked
