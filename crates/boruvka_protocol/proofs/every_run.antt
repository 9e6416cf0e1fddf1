-- What holds of every net of a run.
pub mod Ground
pub mod Nodes
pub mod Events
pub mod Opening
pub mod Turns
pub mod Keeps
