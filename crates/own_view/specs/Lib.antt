-- To be believed: contracts cite what stands here, and what it is made of.
pub mod Openings
pub mod Page
