-- To be believed: contracts cite what stands here, and what it is made of.
pub mod Chains
pub mod Kept
pub mod Laws
pub mod Swaps
