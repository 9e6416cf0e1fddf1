-- What proofs about flags above this crate may use.
pub mod Raised
