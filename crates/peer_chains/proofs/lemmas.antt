-- What proofs about chains above this crate may use.
pub mod Bounding
pub mod Fitting
pub mod Hears
