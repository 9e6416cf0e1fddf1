-- Who pays for the messages.
pub mod Due
pub mod Acts
pub mod PortActs
pub mod Taken
pub mod Rows
pub mod Runs
pub mod Waiting
pub mod TopLevel
pub mod LevelsPay
pub mod PortsPay
pub mod AllPaid
pub mod Bound
