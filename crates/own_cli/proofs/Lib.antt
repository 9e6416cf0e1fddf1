-- Serves the proofs: nothing here has to be believed.
mod Exploring
mod Misfitting
mod Running
mod Sweeping
mod Viewing
