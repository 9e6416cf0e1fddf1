-- To be believed: contracts cite what stands here, and what it is made of.
pub mod Choices
pub mod Clock
pub mod Laws
pub mod Moments
pub mod Rounds
pub mod Runs
