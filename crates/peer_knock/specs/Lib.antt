-- To be believed: contracts cite what stands here, and what it is made of. Proved is a proof that the impl has to name.
pub mod Knock
pub mod Deferring
pub mod Proved
