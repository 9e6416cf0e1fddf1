-- To be believed: contracts cite what stands here, and what it is made of. But Kept and Proved have proofs of the impl's laws.
pub mod Face
pub mod RowName
pub mod Words
pub mod Looks
pub mod Kept
pub mod Proved
