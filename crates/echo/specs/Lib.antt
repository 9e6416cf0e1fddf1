-- To be believed: Echo has the rules, Ended the end of a run and what holds there, Face what tells states apart, Words and RowName the words of its
-- texts, Looks what its pages are told. The others have laws of the impls with their proofs, and nothing of them has to be believed.
pub mod Echo
pub mod Ended
pub mod Face
pub mod RowName
pub mod Words
pub mod Looks
pub mod Proved
pub mod Waves
pub mod Ending
pub mod Forests
pub mod Exploring
pub mod Kept
