-- To be believed: contracts cite what stands here, and what it is made of.
pub mod Again
pub mod Explore
pub mod Judging
pub mod Run
pub mod Sweep
pub mod View
