-- Serves the proofs: nothing here has to be believed.
mod Readings
mod Rows
mod Slow
mod Written
