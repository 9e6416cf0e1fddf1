-- What proofs about nets above this crate may use.
pub mod Lawful
pub mod Reacting
pub mod Waiting
