-- To be believed: contracts cite what stands here, and what it is made of.
pub mod Bound
pub mod Marks
pub mod Laws
pub mod Levels
pub mod Cores
pub mod WaysUp
pub mod LevelLaws
