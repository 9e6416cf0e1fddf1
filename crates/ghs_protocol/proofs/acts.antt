-- One act of a node, and what it leaves: at the ends of links, in the forest of fragments, of floors.
pub mod Sides
pub mod Ends
pub mod SameForest
pub mod OneLink
pub mod Situations
pub mod Many
pub mod AsRead
pub mod Reactions
pub mod Floors
pub mod Grounds
