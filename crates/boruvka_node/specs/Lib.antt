-- To be believed: contracts cite what stands here, and what it is made of.
pub mod Words
pub mod State
pub mod Entering
pub mod Reaction
pub mod Length
pub mod Counters
pub mod Draft
pub mod Boruvka
