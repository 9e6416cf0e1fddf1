-- To be believed: contracts cite what stands here, and what it is made of.
pub mod Sends
pub mod Chain
pub mod Kept
pub mod Lengths
pub mod Laws
