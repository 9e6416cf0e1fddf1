-- To be believed: contracts cite what stands here, and what it is made of.
pub mod First
pub mod Word
pub mod Counts
pub mod Flags
pub mod Row
