-- Serves the proofs: nothing here has to be believed.
mod Shielding
mod Shown
