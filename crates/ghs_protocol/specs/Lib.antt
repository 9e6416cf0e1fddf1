-- To be believed: contracts cite what stands here, and what it is made of.
pub mod Net
pub mod Run
pub mod Marks
pub mod Ledger
pub mod Steps
pub mod Nodes
pub mod Halting
pub mod Laws
pub mod Payments
pub mod Interleavings
pub mod Connects
pub mod Living
pub mod Schedules
pub mod Fairness
pub mod Merging
pub mod Cores
pub mod Time
