-- What every net of a run keeps: an invariant that speaks of a net and of the levels of its graph, and of nothing else.
pub mod Words
pub mod Sides
pub mod Nodes
pub mod Marks
pub mod Names
pub mod Connects
pub mod TreeMessages
pub mod Children
pub mod Search
pub mod Token
pub mod Whole
