-- Serves the proofs: nothing here has to be believed.
mod BySeed
mod Fitting
mod Happening
mod Recalled
mod Rounds
