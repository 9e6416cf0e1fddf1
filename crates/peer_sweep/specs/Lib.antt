-- To be believed: contracts cite what stands here, and what it is made of.
pub mod About
pub mod Columns
pub mod Figures
pub mod Front
pub mod JsonLine
pub mod Line
pub mod Lines
pub mod Measure
pub mod Runs
pub mod Summary
pub mod Sweep
