-- Serves the proofs: nothing here has to be believed.
mod Branching
mod Ending
mod Finding
mod Printing
mod Ran
mod Stopping
mod Turns
mod Walking
