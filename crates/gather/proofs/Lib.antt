-- Serves the proof: nothing here has to be believed.
mod Wording
