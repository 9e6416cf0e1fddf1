-- To be believed: contracts cite what stands here, and what it is made of.
pub mod Led
pub mod Seen
pub mod Going
pub mod Answers
pub mod Timed
pub mod Laws
