-- What proofs about followers above this crate may use.
pub mod Moved
pub mod Bounding
pub mod Carrying
pub mod Following
pub mod Lengths
