-- Facts of a graph's levels that are used of the protocol.
pub mod OneWay
pub mod Chosen
pub mod UpOnce
