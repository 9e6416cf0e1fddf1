-- What proofs about runs of Gather above this crate may use.
pub mod Laws
