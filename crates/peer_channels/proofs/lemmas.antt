-- What proofs about queues above this crate may use.
pub mod Ports
pub mod Rooms
pub mod Starts
