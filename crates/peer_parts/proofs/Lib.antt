-- Serves the proofs: nothing here has to be believed. lemmas is what proofs above this crate may use.
mod Doing
mod AddingUp
mod EachRow
mod ByKinds
mod Using
mod Playing
mod Printing
pub mod lemmas
