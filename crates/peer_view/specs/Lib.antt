-- To be believed: contracts cite what stands here, and what it is made of.
pub mod Protocol
pub mod Data
pub mod RunPage
pub mod PairPage
pub mod Stored
