-- Serves the proof: nothing here has to be believed.
mod Counting
mod Showing
mod Playing
mod Starting
mod Reading
