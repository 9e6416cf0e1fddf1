-- To be believed: contracts cite what stands here, and what it is made of.
pub mod Arc
pub mod Device
pub mod Fault
pub mod Judgement
pub mod Key
pub mod Line
pub mod Pass
pub mod Problem
pub mod RawGraph
pub mod Reading
pub mod Stops
pub mod Text
