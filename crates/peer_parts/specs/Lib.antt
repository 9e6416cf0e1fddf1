-- To be believed: contracts cite what stands here, and what it is made of.
pub mod Columns
pub mod Deeds
pub mod Kept
pub mod Laws
pub mod Line
pub mod Lines
pub mod Parts
pub mod Seeded
