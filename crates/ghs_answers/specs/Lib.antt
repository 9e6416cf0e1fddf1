-- To be believed: contracts cite what stands here, and what it is made of.
pub mod Causes
pub mod Fault
pub mod Sheets
pub mod Stepping
pub mod StoredView
pub mod Timing
