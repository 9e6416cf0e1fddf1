-- To be believed: contracts cite what stands here, and what it is made of.
pub mod Network
pub mod Events
pub mod Updates
pub mod Sums
pub mod Wakes
