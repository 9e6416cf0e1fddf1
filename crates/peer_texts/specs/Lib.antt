-- To be believed: contracts cite what stands here, and what it is made of.
pub mod Laws
pub mod Line
pub mod Reading
pub mod Reads
pub mod Text
