-- To be believed: contracts cite what stands here, and what it is made of.
pub mod Told
pub mod Changes
pub mod Noted
pub mod Step
pub mod StepLine
pub mod Json
pub mod Lines
pub mod Shown
