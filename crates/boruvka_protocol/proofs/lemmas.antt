-- What proofs above this crate may use.
pub mod Laws
pub mod KeyOrder
pub mod Cuts
pub mod Computing
pub mod WaysOut
pub mod FirstPorts
pub mod Sizes
pub mod Cores
pub mod WaysUp
