-- To be believed: contracts cite what stands here, and what it is made of.
pub mod Answer
pub mod Asking
pub mod Book
pub mod Entry
pub mod Laws
pub mod Line
pub mod Parts
pub mod Query
pub mod Question
pub mod Reads
pub mod Text
pub mod Words
pub mod Sends
pub mod Variables
