-- To be believed: contracts cite what stands here, and what it is made of.
pub mod Halts
pub mod NetState
pub mod Dispatch
pub mod Fairness
pub mod Kept
pub mod Ledger
pub mod Marked
pub mod Census
pub mod Waits
pub mod PutBack
pub mod OneEnd
