-- To be believed: contracts cite what stands here, and what it is made of.
pub mod Laps
pub mod Lengths
pub mod Picking
pub mod RoundBound
pub mod Time
