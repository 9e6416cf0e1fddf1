-- Merging the graph alone: any two steps commute, so that all orders end in one. Nothing of the protocol enters.
pub mod United
pub mod Least
pub mod Commute
pub mod Diamond
pub mod OneEnd
pub mod Ends
pub mod Termination
