-- To be believed: contracts cite what stands here, and what it is made of.
pub mod Head
pub mod Laws
pub mod Mark
pub mod Protocol
pub mod Reading
pub mod Text
