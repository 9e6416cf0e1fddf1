-- What proofs about lengths above this crate may use.
pub mod Following
pub mod Sending
