-- To be believed: contracts cite what stands here, and what it is made of.
pub mod Choices
pub mod Keeping
pub mod Patience
pub mod Runs
pub mod Walks
