-- To be believed: contracts cite what stands here, and what it is made of.
pub mod Deeds
pub mod Laws
pub mod Lines
pub mod Parts
pub mod Rule
pub mod Tally
