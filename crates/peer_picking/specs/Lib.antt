-- To be believed: contracts cite what stands here, and what it is made of.
pub mod Rounds
pub mod Picks
pub mod Runs
pub mod Laws
pub mod Kept
pub mod Newest
pub mod Latest
pub mod LifoPicks
pub mod LifoRuns
pub mod LifoKept
