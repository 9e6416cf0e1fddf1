-- What proofs about pages above this crate may use.
pub mod Counted
pub mod Parts
