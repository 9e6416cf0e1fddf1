-- Serves the proofs: nothing here has to be believed.
mod Ending
mod Nowhere
mod Offered
mod Timing
mod Waiting
