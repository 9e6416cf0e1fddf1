-- What proofs about texts that are written out above this crate may use.
pub mod Gone
