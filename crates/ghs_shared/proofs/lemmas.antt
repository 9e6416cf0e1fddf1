-- What proofs about boards above this crate may use.
pub mod Pairs
