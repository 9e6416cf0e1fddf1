-- To be believed: contracts cite what stands here, and what it is made of.
pub mod Faults
pub mod Words
pub mod Choices
pub mod Handing
pub mod Texts
pub mod Led
pub mod Seen
pub mod Going
pub mod Answers
pub mod Timed
pub mod Laws
