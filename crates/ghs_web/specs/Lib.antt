-- To be believed: contracts cite what stands here, and what it is made of.
pub mod Protocols
pub mod Wakers
pub mod Calls
