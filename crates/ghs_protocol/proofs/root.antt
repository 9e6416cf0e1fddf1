-- The root is sent on towards the best link, and out over it.
pub mod AtRoot
pub mod Ways
pub mod OldLink
pub mod Sent
pub mod Inward
pub mod Outward
pub mod Floors
pub mod UnderWay
