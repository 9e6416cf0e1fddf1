-- Serves the proofs: nothing here has to be believed.
mod Choices
mod Commands
mod Names
mod Numbers
mod Said
mod Listing
mod WordExamples
