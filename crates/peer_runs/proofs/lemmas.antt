-- What proofs about runs above this crate may use.
pub mod Changing
pub mod Lawful
