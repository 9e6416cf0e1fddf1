-- Serves the proof: nothing here has to be believed. lemmas is what proofs above this crate may use.
pub mod lemmas
mod Accounts
mod Turns
mod Sends
mod Pays
mod Led
mod Waves
mod Heard
mod Cases
mod Events
mod Rules
mod Done
mod Trees
mod TreeEvents
mod Bound
mod Pieces
mod Awake
mod Silence
mod Bypass
mod Found
mod Exact
