-- To be believed: contracts cite what stands here, and what it is made of.
pub mod Limits
pub mod Head
pub mod Links
pub mod Commas
pub mod Counts
pub mod Page
