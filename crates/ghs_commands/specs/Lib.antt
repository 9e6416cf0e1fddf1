-- To be believed: contracts cite what stands here, and what it is made of.
pub mod Checks
pub mod Grammar
pub mod Job
pub mod Networks
pub mod Parts
pub mod Protocols
pub mod TwoSeeds
pub mod Wakers
pub mod Values
