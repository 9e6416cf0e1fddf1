-- What proofs about the index above this crate may use.
pub mod Listed
pub mod Lists
pub mod Places
pub mod Marks
