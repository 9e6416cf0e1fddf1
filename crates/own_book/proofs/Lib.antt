-- Serves the proofs: nothing here has to be believed.
mod Queries
mod Cuts
mod Entries
mod Joined
mod Judged
mod Lists
mod Readings
mod Rows
mod Signs
mod Written
mod Order
