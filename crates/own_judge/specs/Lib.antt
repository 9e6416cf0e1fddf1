-- To be believed: contracts cite what stands here, and what it is made of.
pub mod Deed
pub mod Judging
pub mod Laws
pub mod Look
pub mod Question
pub mod Report
pub mod Status
pub mod Verdict
pub mod Joint
pub mod Runs
pub mod Orders
pub mod Rows
pub mod Noting
pub mod Outcome
