-- To be believed: contracts cite what stands here, and what it is made of.
pub mod Again
pub mod Mark
pub mod Sum
pub mod Sweep
pub mod Explore
pub mod Gathered
