-- To be believed: contracts cite what stands here, and what it is made of.
pub mod Forest
pub mod Ordered
pub mod State
pub mod Held
pub mod Reaction
pub mod Length
pub mod Gather
