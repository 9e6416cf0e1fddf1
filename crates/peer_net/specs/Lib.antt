-- To be believed: contracts cite what stands here, and what it is made of.
pub mod NetState
pub mod Ledger
pub mod Kept
pub mod Queues
pub mod Counts
pub mod Taking
