-- To be believed: contracts cite what stands here, and what it is made of.
pub mod Kept
pub mod Latest
pub mod LifoLaws
pub mod Newest
pub mod LifoRuns
pub mod Marks
pub mod WaitsRuns
pub mod Waiting
pub mod Laps
pub mod RoundRobinLaws
pub mod Picks
pub mod RoundRobinRuns
pub mod Turns
pub mod Worlds
