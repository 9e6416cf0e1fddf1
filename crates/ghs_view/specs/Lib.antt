-- To be believed: contracts cite what stands here, and what it is made of.
pub mod Data
pub mod PairPage
pub mod RunPage
pub mod Stored
