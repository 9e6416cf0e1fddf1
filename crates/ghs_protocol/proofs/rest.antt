-- Fragments at rest, and the halt.
pub mod AtRest
pub mod StaysAtRest
pub mod Halt
