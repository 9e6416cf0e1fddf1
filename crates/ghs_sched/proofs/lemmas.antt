-- What proofs about schedules above this crate may use.
pub mod Running
pub mod Runs
