-- What proofs about graphs above this crate may use.
pub mod Members
pub mod Keys
pub mod Joining
pub mod Ports
pub mod Degrees
pub mod Components
pub mod Trees
pub mod Forests
pub mod Computing
pub mod Logs
