-- To be believed: contracts cite what stands here, and what it is made of.
pub mod Fields
pub mod Judging
pub mod Lines
pub mod Numbers
