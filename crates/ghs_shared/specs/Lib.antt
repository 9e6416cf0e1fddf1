-- To be believed: contracts cite what stands here, and what it is made of.
pub mod Progress
pub mod Board
pub mod Bags
pub mod Closing
