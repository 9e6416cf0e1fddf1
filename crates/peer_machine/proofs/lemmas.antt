-- What proofs about nets above this crate may use.
pub mod Events
pub mod Sends
pub mod Runs
pub mod Balance
pub mod Counts
pub mod Others
pub mod Ends
pub mod Budget
