-- To be believed: contracts cite what stands here, and what it is made of.
pub mod Length
pub mod Bits
pub mod Laws
