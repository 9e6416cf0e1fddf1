-- To be believed: contracts cite what stands here, and what it is made of.
pub mod Text
pub mod Json
pub mod Same
pub mod Touched
pub mod Words
pub mod Looks
