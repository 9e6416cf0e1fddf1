-- To be believed: contracts cite what stands here, and what it is made of.
pub mod Limit
pub mod Words
pub mod Outcomes
