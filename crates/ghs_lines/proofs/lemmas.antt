-- What proofs about texts of lines above this crate may use.
pub mod Cuts
pub mod Digits
pub mod Judging
pub mod Words
