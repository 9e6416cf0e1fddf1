-- Lemmas that the crates above may cite.
pub mod Known
pub mod Told
