-- To be believed: contracts cite what stands here, and what it is made of.
pub mod Account
pub mod Branches
pub mod ExploredText
pub mod Links
pub mod ReportText
pub mod Runs
