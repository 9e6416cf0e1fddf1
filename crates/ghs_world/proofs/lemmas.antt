-- What proofs about worlds above this crate may use.
pub mod Leaving
pub mod Ready
