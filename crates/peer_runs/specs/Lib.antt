-- To be believed: contracts cite what stands here, and what it is made of.
pub mod Lawful
pub mod WorldState
pub mod Upkeep
pub mod Following
pub mod Picks
pub mod Runs
pub mod Replays
