-- The clauses of the invariant, and what the proof remembers beside a net. They serve the proof: no contract cites them.
pub mod Nodes
pub mod Links
pub mod TreeMessages
pub mod Search
pub mod Tests
pub mod Fragments
pub mod Rest
pub mod Whole
pub mod Wiring
pub mod Uniting
pub mod Floors
pub mod Charges
pub mod Scene
pub mod Changes
pub mod UnderWay
pub mod Acts
pub mod Growing
