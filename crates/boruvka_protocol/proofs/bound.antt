-- How many messages a run sends at most.
pub mod Sums
pub mod Logs
pub mod Turns
pub mod Hears
pub mod Steps
pub mod Charges
pub mod Calls
pub mod Moved
pub mod Within
pub mod Runs
pub mod Fits
