-- Serves the proof: nothing here has to be believed.
mod Bounds
mod Copying
mod Equal
mod Wording
