-- To be believed: contracts cite what stands here, and what it is made of.
pub mod Tickets
pub mod Outs
pub mod WorldState
pub mod WorldLedger
pub mod Ready
pub mod Steps
pub mod Upkeep
