-- What proofs about nodes above this crate may use.
pub mod Forest
