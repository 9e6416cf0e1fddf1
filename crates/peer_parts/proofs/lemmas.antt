-- What proofs about parts above this crate may use.
pub mod Lining
pub mod Summing
