-- To be believed: contracts cite what stands here, and what it is made of.
pub mod Ends
pub mod Kind
pub mod Laws
pub mod Network
pub mod Picks
pub mod Plan
pub mod Text
pub mod Weights
pub mod Word
