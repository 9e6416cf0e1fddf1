-- What proofs about nets above this crate may use.
pub mod Events
pub mod Graphs
pub mod Sums
pub mod Updates
pub mod Waking
pub mod Wired
pub mod Wires
