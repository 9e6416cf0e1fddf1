-- To be believed: contracts cite what stands here, and what it is made of.
pub mod Fields
pub mod ReportText
pub mod TreeText
pub mod Writing
pub mod Written
pub mod Components
pub mod Fragments
pub mod Halting
pub mod CoreLaws
pub mod CoreLines
