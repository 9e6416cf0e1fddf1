-- What proofs about schedules above this crate may use.
pub mod Gone
pub mod Growing
pub mod Picked
pub mod Picking
pub mod Picks
pub mod Places
pub mod Ports
pub mod Stirring
pub mod Walks
